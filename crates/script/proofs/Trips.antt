-- What is written is read again.
use Rattle.std.proofs.Common.{◌≡◌, ℕ, ◌+◌, ◌-◌, ◌^◌, ◌<◌, ◌≤◌, true, cond, eqb, List, [], ◌∷◌, ◌++◌, map, length, get_or, take, Some, None, Ok, codes, decimal, sym, refl, ap, ◌∙◌, append_assoc, arith}
use Rattle.std.specs.Option.{option_map}
use Rattle.std.specs.List.{AllByRecursion}
use Rattle.std.proofs.lemmas.Fmt.{decimal_nonempty, digits_decimal, digits_value-decimal}
use Rattle.std.proofs.lemmas.List.{length_push, get_or_push, take_at}
use Rattle.std.proofs.lemmas.Bool.{le-leb}
use Rattle.script.specs.Format.{Cmd, memory, ring, bytes_at, kept, serve, anew, piece, says, said, meaning, line_end, blank, lines, words, number, value, only, both, small, byte, row, address, laid, size_after, first, go_on, read_lines}
use Rattle.script.specs.Shown.{spaced, shown}
use Rattle.script.specs.Laws.{Sound, Sounds, written, RoundTrip, WholeRoundTrip}
use Rattle.script.proofs.Values.{own, numeral}
use Rattle.script.proofs.Frees.{free, free_join, split_mark, words_mark, words_free, words_spaced, spaced_no_end, decimal_no_blank, decimal_no_end}

-- ## Numbers
number_back : (n : ℕ) → n < 2 ^ 64 → number (decimal n) ≡ Some n
number_back n h =
    let v : value 0 (decimal n) ≡ n = digits_value-decimal own n h in
    numeral (decimal n) (digits_decimal own n h) (decimal_nonempty n h) (omega arith) ∙ ap Some v

byte_back : (n : ℕ) → n < 256 → byte (decimal n) ≡ Some n
byte_back n h = ap small (number_back n (omega arith)) ∙ rw (le-leb n 255 (omega arith)) refl

row_back : (ns : List ℕ) → AllByRecursion (λ n. n < 256) ns → row (map decimal ns) ≡ Some ns
row_back [] a = refl
row_back (n ∷ ns) a = rw (byte_back n a.0, row_back ns a.1) refl

address_back : (n : ℕ) → n < 2 ^ 64 → address (decimal n ++ (58 ∷ [])) ≡ Some n
address_back n h =
    let w = decimal n ++ (58 ∷ []) in
    let l : length w - 1 ≡ length (decimal n) = omega (arith, length_push (decimal n) 58) in
    let g : get_or w (length w - 1) 0 ≡ 58 = ap (λ k. get_or w k 0) l ∙ get_or_push (decimal n) 58 0 (length (decimal n)) refl in
    let t : take (length w - 1) w ≡ decimal n = ap (λ k. take k w) l ∙ take_at (decimal n) (58 ∷ []) (length (decimal n)) refl in
    let step : (k : ℕ) (v : List ℕ) → k ≡ 58 → v ≡ decimal n → cond (eqb k 58) (number v) None ≡ Some n = λ k v e f. rw (e, f) (number_back n h) in
    step (get_or w (length w - 1) 0) (take (length w - 1) w) g t

-- ## Lines

-- a word and a number behind it
named : (name : List ℕ) (n : ℕ) → free blank name ≡ true → 0 < length name → n < 2 ^ 64 → words (name ++ (32 ∷ decimal n)) ≡ name ∷ decimal n ∷ []
named name n f l h = words_mark name (decimal n) f l ∙ ap (λ v. name ∷ v) (words_free (decimal n) (decimal_no_blank n h) (decimal_nonempty n h))

only_back : (make : ℕ → Cmd) (n : ℕ) → n < 2 ^ 64 → said (option_map make (only (decimal n ∷ []))) ≡ says (make n)
only_back make n h = ap (λ o. said (option_map make o)) (number_back n h)

ring_words : (s b : ℕ) → s < 2 ^ 64 → b < 2 ^ 64 → words (shown (ring s b)) ≡ codes "ring" ∷ decimal s ∷ codes "at" ∷ decimal b ∷ []
ring_words s b hs hb =
    words_mark (codes "ring") (decimal s ++ (32 ∷ (codes "at " ++ decimal b))) refl (omega arith)
    ∙ ap (λ v. codes "ring" ∷ v) (words_mark (decimal s) (codes "at " ++ decimal b) (decimal_no_blank s hs) (decimal_nonempty s hs)
    ∙ ap (λ v. decimal s ∷ v) (named (codes "at") b refl (omega arith) hb))

bytes_words : (a : ℕ) (bs : List ℕ) → a < 2 ^ 64 → AllByRecursion (λ b. b < 256) bs → words (shown (bytes_at a bs)) ≡ codes "bytes" ∷ (decimal a ++ (58 ∷ [])) ∷ map decimal bs
bytes_words a bs h u =
    let w = decimal a ++ (58 ∷ []) in
    let f : free blank w ≡ true = free_join blank (decimal a) (58 ∷ []) (decimal_no_blank a h) refl in
    let l : 0 < length w = omega (arith, length_push (decimal a) 58) in
    words_mark (codes "bytes") (decimal a ++ (58 ∷ spaced bs)) refl (omega arith)
    ∙ ap (λ v. codes "bytes" ∷ v) (ap words (sym (append_assoc (decimal a) (58 ∷ []) (spaced bs))) ∙ words_spaced w bs f l u)

laid_back : (size a : ℕ) (bs : List ℕ) → a + length bs ≤ size → laid size (Some (a, bs)) ≡ Some (bytes_at a bs)
laid_back size a bs h = rw (le-leb (a + length bs) size h) refl

pub round_trip : RoundTrip
round_trip size (memory n) h = ap (meaning size) (named (codes "memory") n refl (omega arith) h) ∙ only_back memory n h
round_trip size (ring s b) h =
    ap (meaning size) (ring_words s b h.0 h.1)
    ∙ (ap (λ o. said (option_map (λ p. ring p.0 p.1) (both o (number (decimal b))))) (number_back s h.0)
    ∙ ap (λ o. said (option_map (λ p. ring p.0 p.1) (both (Some s) o))) (number_back b h.1))
round_trip size (bytes_at a bs) h =
    ap (meaning size) (bytes_words a bs h.0 h.1)
    ∙ (ap (λ o. said (laid size (both o (row (map decimal bs))))) (address_back a h.0)
    ∙ (ap (λ o. said (laid size (both (Some a) o))) (row_back bs h.1) ∙ ap said (laid_back size a bs h.2)))
round_trip size (kept n) h = ap (meaning size) (named (codes "kept") n refl (omega arith) h) ∙ only_back kept n h
round_trip size (serve n) h = ap (meaning size) (named (codes "serve") n refl (omega arith) h) ∙ only_back serve n h
round_trip size anew h = refl
round_trip size (piece n) h = ap (meaning size) (named (codes "piece") n refl (omega arith) h) ∙ only_back piece n h

-- ## Texts
no_end : (size : ℕ) (c : Cmd) → Sound size c → free line_end (shown c) ≡ true
no_end size (memory n) h = decimal_no_end n h
no_end size (ring s b) h = free_join line_end (decimal s) (codes " at " ++ decimal b) (decimal_no_end s h.0) (decimal_no_end b h.1)
no_end size (bytes_at a bs) h = free_join line_end (decimal a) (58 ∷ spaced bs) (decimal_no_end a h.0) (spaced_no_end bs h.1)
no_end size (kept n) h = decimal_no_end n h
no_end size (serve n) h = decimal_no_end n h
no_end size anew h = refl
no_end size (piece n) h = decimal_no_end n h

lines_back : (size n : ℕ) (cs : List Cmd) → Sounds size cs → read_lines size n (lines (written cs)) ≡ Ok cs
lines_back size n [] h = refl
lines_back size n (c ∷ cs) h =
    ap (read_lines size n) (split_mark line_end (shown c) 10 (written cs) (no_end size c h.0) refl)
    ∙ (ap (λ l. go_on l size n (λ s. read_lines s (n + 1) (lines (written cs)))) (round_trip size c h.0)
    ∙ ap (first c) (lines_back (size_after size c) (n + 1) cs h.1))

pub whole_round_trip : WholeRoundTrip
whole_round_trip cs h = lines_back 0 0 cs h
