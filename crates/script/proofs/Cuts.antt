-- The first word of a text.
use Rattle.std.proofs.Common.{◌≡◌, ℕ, suc, ◌+◌, true, false, not, List, [], ◌∷◌, length, take, drop, refl, ap, ◌∙◌, inl, inr, arith}
use Rattle.std.specs.List.{prefix_len}
use Rattle.std.proofs.lemmas.Bool.{cases_Bool}
use Rattle.script.specs.Format.{onto, split, blank, solid, words}

-- how many bytes stand before the first blank
abbrev pub word_len : List ℕ → ℕ
word_len = prefix_len (λ b. not (blank b))

-- the text without the blanks before it
abbrev pub trimmed : List ℕ → List ℕ
trimmed xs = drop (prefix_len blank xs) xs

trimmed_blank : (b : ℕ) (bs : List ℕ) → blank b ≡ true → trimmed (b ∷ bs) ≡ trimmed bs
trimmed_blank b bs e = let s : 1 + prefix_len blank bs ≡ suc (prefix_len blank bs) = omega arith in rw (e, s) refl

trimmed_word : (b : ℕ) (bs : List ℕ) → blank b ≡ false → trimmed (b ∷ bs) ≡ b ∷ bs
trimmed_word b bs e = rw e refl

-- a byte before a part that is not empty
solid_onto : (b c : ℕ) (ws : List (List ℕ)) → solid (onto b (onto c ws)) ≡ onto b (solid (onto c ws))
solid_onto b c [] = refl
solid_onto b c (w ∷ ws) = refl

word_len_more : (b : ℕ) (bs : List ℕ) → blank b ≡ false → word_len (b ∷ bs) ≡ suc (word_len bs)
word_len_more b bs e = let s : 1 + word_len bs ≡ suc (word_len bs) = omega arith in rw (e, s) refl

-- a word that begins with b goes on up to the next blank
word_goes_on : (b : ℕ) (bs : List ℕ) → solid (onto b (split blank bs)) ≡ (b ∷ take (word_len bs) bs) ∷ words (drop (word_len bs) bs)
word_goes_on b [] = refl
word_goes_on b (c ∷ cs) =
    elim (cases_Bool (blank c)) [
      | inl e ↦ rw e (rw e refl)
      | inr e ↦ rw (word_len_more c cs e) (rw e (solid_onto b c (split blank cs) ∙ ap (onto b) (word_goes_on c cs)))
    ]

pub first_word_none : (xs t : List ℕ) → t ≡ trimmed xs → length (take (word_len t) t) ≡ 0 → words xs ≡ []
first_word_none [] t d h = refl
first_word_none (b ∷ bs) t d h =
    elim (cases_Bool (blank b)) [
      | inl e ↦ rw e (first_word_none bs t (d ∙ trimmed_blank b bs e) h)
      | inr e ↦ absurd (let k = rw (d ∙ trimmed_word b bs e, word_len_more b bs e) at h in omega arith)
    ]

pub first_word_some : (xs t : List ℕ) → t ≡ trimmed xs → (length (take (word_len t) t) ≡ 0 → ⊥) → words xs ≡ take (word_len t) t ∷ words (drop (word_len t) t)
first_word_some [] t d h = absurd (h (rw d refl))
first_word_some (b ∷ bs) t d h =
    elim (cases_Bool (blank b)) [
      | inl e ↦ rw e (first_word_some bs t (d ∙ trimmed_blank b bs e) h)
      | inr e ↦ rw (d ∙ trimmed_word b bs e, word_len_more b bs e) (rw e (word_goes_on b bs))
    ]
