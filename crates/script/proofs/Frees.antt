-- Texts without marks, and how they are split again.
use Rattle.std.proofs.Common.{◌≡◌, ℕ, ◌^◌, ◌<◌, Bool, true, false, not, List, [], ◌∷◌, ◌++◌, map, length, decimal, refl, ap, ◌∙◌, append-nil, arith}
use Rattle.std.specs.Char.{is_ascii_digit}
use Rattle.std.specs.List.{AllByRecursion, list_all}
use Rattle.std.proofs.lemmas.List.Folds.{list_all-append}
use Rattle.std.specs.Str.{all_ascii_digits}
use Rattle.std.proofs.lemmas.Fmt.{decimal_nonempty, digits_decimal}
use Rattle.std.proofs.lemmas.Bool.{and_from, and_parts, not-true}
use Rattle.std.proofs.lemmas.Bool.Decides.{nat_tests}
use Rattle.script.specs.Format.{onto, split, line_end, blank, solid, words}
use Rattle.script.specs.Shown.{spaced}
use Rattle.script.proofs.Values.{own}

-- no byte of a text ends a part
abbrev pub free : (ℕ → Bool) → List ℕ → Bool
free p bs = list_all (λ b. not (p b)) bs

pub free_join : (p : ℕ → Bool) (xs ys : List ℕ) → free p xs ≡ true → free p ys ≡ true → free p (xs ++ ys) ≡ true
free_join p xs ys f g = list_all-append (λ b. not (p b)) xs ys ∙ and_from (free p xs) (free p ys) f g

pub split_mark : (p : ℕ → Bool) (w : List ℕ) (m : ℕ) (rest : List ℕ) → free p w ≡ true → p m ≡ true → split p (w ++ (m ∷ rest)) ≡ w ∷ split p rest
split_mark p [] m rest f e = rw e refl
split_mark p (b ∷ w) m rest f e =
    let h = and_parts (not (p b)) (free p w) f in
    rw (not-true (p b) h.0) (ap (onto b) (split_mark p w m rest h.1 e))

pub split_free : (p : ℕ → Bool) (w : List ℕ) → free p w ≡ true → 0 < length w → split p w ≡ w ∷ []
split_free p [] f l = absurd (omega arith)
split_free p (b ∷ []) f l = let h = and_parts (not (p b)) true f in rw (not-true (p b) h.0) refl
split_free p (b ∷ c ∷ w) f l =
    let h = and_parts (not (p b)) (free p (c ∷ w)) f in
    rw (not-true (p b) h.0) (ap (onto b) (split_free p (c ∷ w) h.1 (omega arith)))

solid_some : (w : List ℕ) (ws : List (List ℕ)) → 0 < length w → solid (w ∷ ws) ≡ w ∷ solid ws
solid_some [] ws h = absurd (omega arith)
solid_some (b ∷ w) ws h = refl

-- the words of a word, and of a word with a blank behind it
pub words_mark : (w rest : List ℕ) → free blank w ≡ true → 0 < length w → words (w ++ (32 ∷ rest)) ≡ w ∷ words rest
words_mark w rest f l = ap solid (split_mark blank w 32 rest f refl) ∙ solid_some w (split blank rest) l

pub words_free : (w : List ℕ) → free blank w ≡ true → 0 < length w → words w ≡ w ∷ []
words_free w f l = ap solid (split_free blank w f l) ∙ solid_some w [] l

-- ## Numbers
digit_free : (b : ℕ) → is_ascii_digit b ≡ true → (blank b ≡ false) × (line_end b ≡ false)
digit_free b e = (grind (arith, nat_tests), grind (arith, nat_tests))

digits_free : (p : ℕ → Bool) → ((b : ℕ) → is_ascii_digit b ≡ true → p b ≡ false) → (ds : List ℕ) → all_ascii_digits ds ≡ true → free p ds ≡ true
digits_free p h [] d = refl
digits_free p h (b ∷ ds) d =
    let e = and_parts (is_ascii_digit b) (all_ascii_digits ds) d in
    rw (h b e.0) (digits_free p h ds e.1)

pub decimal_no_blank : (n : ℕ) → n < 2 ^ 64 → free blank (decimal n) ≡ true
decimal_no_blank n h = digits_free blank (λ b e. (digit_free b e).0) (decimal n) (digits_decimal own n h)

pub decimal_no_end : (n : ℕ) → n < 2 ^ 64 → free line_end (decimal n) ≡ true
decimal_no_end n h = digits_free line_end (λ b e. (digit_free b e).1) (decimal n) (digits_decimal own n h)

-- the words of numbers with spaces before them, behind a word
pub words_spaced : (w : List ℕ) (ns : List ℕ) → free blank w ≡ true → 0 < length w → AllByRecursion (λ n. n < 256) ns → words (w ++ spaced ns) ≡ w ∷ map decimal ns
words_spaced w [] f l a = ap words (append-nil w) ∙ words_free w f l
words_spaced w (n ∷ ns) f l a =
    let s : n < 2 ^ 64 = omega (arith, a.0) in
    words_mark w (decimal n ++ spaced ns) f l ∙ ap (λ v. w ∷ v) (words_spaced (decimal n) ns (decimal_no_blank n s) (decimal_nonempty n s) a.1)

pub spaced_no_end : (ns : List ℕ) → AllByRecursion (λ n. n < 256) ns → free line_end (spaced ns) ≡ true
spaced_no_end [] a = refl
spaced_no_end (n ∷ ns) a = free_join line_end (decimal n) (spaced ns) (decimal_no_end n (omega (arith, a.0))) (spaced_no_end ns a.1)
