-- What is read has numbers below 2^64, and bytes below 256 that lie in memory.
use Rattle.std.proofs.Common.{ℕ, ◌+◌, ◌-◌, ◌^◌, ◌<◌, ◌&&◌, eqb, ltb, leb, List, [], ◌∷◌, length, get_or, take, Some, None, Ok, Err, IfSome, IfOk, codes, Option, Result, subst, arith}
use Rattle.std.specs.Option.{option_map}
use Rattle.std.specs.List.{AllByRecursion}
use Rattle.std.specs.Str.{all_ascii_digits, bytes_eq}
use Rattle.std.proofs.lemmas.Bool.{and_parts, cond_both, ltb-true, leb-true}
use Rattle.script.specs.Format.{Cmd, memory, ring, bytes_at, kept, serve, anew, piece, Line, skipped, says, unreadable, said, meaning, line, lines, words, number, value, only, both, number_at, small, byte, before, row, address, laid, bytes_in, alone, command, size_after, first, go_on, read_lines}
use Rattle.script.specs.Laws.{Sound, Sounds, ReadsSound}

abbrev Below : ℕ → Type 0
Below n = n < 2 ^ 64

number_below : (w : List ℕ) → IfSome (number w) Below
number_below [] = tt
number_below (d ∷ ds) =
    cond_both (all_ascii_digits (d ∷ ds) && ltb (value 0 (d ∷ ds)) (2 ^ 64)) (Some (value 0 (d ∷ ds))) None (λ o. IfSome o Below)
    (λ e. ltb-true _ (2 ^ 64) (and_parts (all_ascii_digits (d ∷ ds)) (ltb (value 0 (d ∷ ds)) (2 ^ 64)) e).1) (λ _. tt)

only_below : (ws : List (List ℕ)) → IfSome (only ws) Below
only_below [] = tt
only_below (w ∷ []) = number_below w
only_below (w ∷ v ∷ ws) = tt

both_of : {A B : Type 0} (P : A → Type 0) (Q : B → Type 0) (o : Option A) (q : Option B) → IfSome o P → IfSome q Q → IfSome (both o q) (λ p. P p.0 × Q p.1)
both_of P Q None q a b = tt
both_of P Q (Some x) None a b = tt
both_of P Q (Some x) (Some y) a b = (a, b)

number_at_below : (ws : List (List ℕ)) → IfSome (number_at ws) (λ p. Below p.0 × Below p.1)
number_at_below [] = tt
number_at_below (n ∷ []) = tt
number_at_below (n ∷ w ∷ ws) =
    cond_both (bytes_eq w (codes "at")) (both (number n) (only ws)) None (λ o. IfSome o (λ p. Below p.0 × Below p.1))
    (λ _. both_of Below Below (number n) (only ws) (number_below n) (only_below ws)) (λ _. tt)

small_of : (o : Option ℕ) → IfSome (small o) (λ b. b < 256)
small_of None = tt
small_of (Some n) = cond_both (leb n 255) (Some n) None (λ o. IfSome o (λ b. b < 256)) (λ e. omega (arith, leb-true n 255 e)) (λ _. tt)

before_of : (o : Option ℕ) (q : Option (List ℕ)) → IfSome o (λ b. b < 256) → IfSome q (AllByRecursion (λ b. b < 256)) → IfSome (before o q) (AllByRecursion (λ b. b < 256))
before_of None q a b = tt
before_of (Some x) None a b = tt
before_of (Some x) (Some xs) a b = (a, b)

row_of : (ws : List (List ℕ)) → IfSome (row ws) (AllByRecursion (λ b. b < 256))
row_of [] = tt
row_of (w ∷ ws) = before_of (byte w) (row ws) (small_of (number w)) (row_of ws)

address_below : (w : List ℕ) → IfSome (address w) Below
address_below w =
    let front = take (length w - 1) w in
    cond_both (eqb (get_or w (length w - 1) 0) 58) (number front) None (λ o. IfSome o Below) (λ _. number_below front) (λ _. tt)

-- ## Commands
module _ (size : ℕ) where
  made_sound : {A : Type 0} (P : A → Type 0) (make : A → Cmd) → ((x : A) → P x → Sound size (make x)) → (o : Option A) → IfSome o P → IfSome (option_map make o) (Sound size)
  made_sound P make f None a = tt
  made_sound P make f (Some x) a = f x a

  alone_sound : (ws : List (List ℕ)) → IfSome (alone anew ws) (Sound size)
  alone_sound [] = tt
  alone_sound (w ∷ ws) = tt

  laid_sound : (o : Option (ℕ × List ℕ)) → IfSome o (λ p. Below p.0 × AllByRecursion (λ b. b < 256) p.1) → IfSome (laid size o) (Sound size)
  laid_sound None a = tt
  laid_sound (Some (n, bs)) a =
      cond_both (leb (n + length bs) size) (Some (bytes_at n bs)) None (λ o. IfSome o (Sound size)) (λ e. (a.0, a.1, leb-true (n + length bs) size e)) (λ _. tt)

  bytes_sound : (ws : List (List ℕ)) → IfSome (bytes_in size ws) (Sound size)
  bytes_sound [] = tt
  bytes_sound (w ∷ ws) = laid_sound (both (address w) (row ws)) (both_of Below (AllByRecursion (λ b. b < 256)) (address w) (row ws) (address_below w) (row_of ws))

  command_sound : (w : List ℕ) (ws : List (List ℕ)) → IfSome (command size w ws) (Sound size)
  command_sound w ws =
      let P : Option Cmd → Type 0 = λ o. IfSome o (Sound size) in
      let one : (make : ℕ → Cmd) → ((n : ℕ) → Below n → Sound size (make n)) → P (option_map make (only ws)) = λ make f. made_sound Below make f (only ws) (only_below ws) in
      cond_both (bytes_eq w (codes "memory")) _ _ P (λ _. one memory (λ n h. h)) (λ _.
      cond_both (bytes_eq w (codes "ring")) _ _ P (λ _. made_sound (λ (p : ℕ × ℕ). Below p.0 × Below p.1) (λ p. ring p.0 p.1) (λ p h. h) (number_at ws) (number_at_below ws)) (λ _.
      cond_both (bytes_eq w (codes "bytes")) _ _ P (λ _. bytes_sound ws) (λ _.
      cond_both (bytes_eq w (codes "kept")) _ _ P (λ _. one kept (λ n h. h)) (λ _.
      cond_both (bytes_eq w (codes "serve")) _ _ P (λ _. one serve (λ n h. h)) (λ _.
      cond_both (bytes_eq w (codes "anew")) _ _ P (λ _. alone_sound ws) (λ _.
      cond_both (bytes_eq w (codes "piece")) _ None P (λ _. one piece (λ n h. h)) (λ _. tt)))))))

  -- ## Lines
  abbrev Told : Line → Type 0
  Told skipped = Unit {0}
  Told (says c) = Sound size c
  Told unreadable = Unit {0}

  said_sound : (o : Option Cmd) → IfSome o (Sound size) → Told (said o)
  said_sound None a = tt
  said_sound (Some c) a = a

  meaning_sound : (ws : List (List ℕ)) → Told (meaning size ws)
  meaning_sound [] = tt
  meaning_sound (w ∷ ws) = cond_both (eqb (get_or w 0 0) 35) skipped (said (command size w ws)) Told (λ _. tt) (λ _. said_sound (command size w ws) (command_sound w ws))

-- ## Texts
first_sound : (size : ℕ) (c : Cmd) (r : Result (List Cmd) ℕ) → Sound size c → IfOk r (Sounds (size_after size c)) → IfOk (first c r) (Sounds size)
first_sound size c (Ok cs) a b = (a, b)
first_sound size c (Err n) a b = tt

on_sound : (size n : ℕ) (l : Line) (others : ℕ → Result (List Cmd) ℕ) → Told size l → ((s : ℕ) → IfOk (others s) (Sounds s)) → IfOk (go_on l size n others) (Sounds size)
on_sound size n skipped others a b = b size
on_sound size n (says c) others a b = first_sound size c (others (size_after size c)) a (b (size_after size c))
on_sound size n unreadable others a b = tt

lines_sound : (size n : ℕ) (ls : List (List ℕ)) → IfOk (read_lines size n ls) (Sounds size)
lines_sound size n [] = tt
lines_sound size n (l ∷ ls) = on_sound size n (line size l) (λ s. read_lines s (n + 1) ls) (meaning_sound size (words l)) (λ s. lines_sound s (n + 1) ls)

pub reads_sound : ReadsSound
reads_sound text cs e = subst (λ (r : Result (List Cmd) ℕ). IfOk r (Sounds 0)) e (lines_sound 0 0 (lines text))
