-- Lines read one after another.
use Rattle.std.proofs.Common.{◌≡◌, ℕ, ◌+◌, ◌<◌, ◌≤◌, Bool, ◌⊎◌, List, [], ◌∷◌, ◌++◌, length, drop, Ok, Err, Result, Global, sym, refl, ap, ◌∙◌, inl, inr, append_assoc, append-nil, arith}
use Rattle.std.specs.List.{slice_split, onto_first}
use Rattle.std.proofs.lemmas.Bool.{cases_Bool}
use Rattle.std.proofs.lemmas.List.{at_drop_more, drop_all}
use Rattle.script.specs.declared.fault.Fault.{Fault}
use Rattle.script.specs.declared.fault.Fault.TheVariants.{Line as FaultLine, NoMemory}
use Rattle.script.specs.Parses.{ReadAt, Parsed}
use Rattle.script.proofs.Splits.{IsLine}
use Rattle.script.specs.Format.{Cmd, Line, skipped, says, unreadable, line, line_end, onto, split, size_after, first, go_on, read, read_lines}

-- ## The lines as the library splits them

onto_same : (b : ℕ) (ls : List (List ℕ)) → onto_first b ls ≡ onto b ls
onto_same b [] = refl
onto_same b (l ∷ ls) = refl

onto_more : (b : ℕ) (ls : List (List ℕ)) → 0 < length ls → onto_first b (ls ++ [] ∷ []) ≡ onto b ls ++ [] ∷ []
onto_more b [] h = absurd (omega arith)
onto_more b (l ∷ ls) h = refl

onto_some : (b : ℕ) (ls : List (List ℕ)) → 0 < length (onto b ls)
onto_some b [] = omega arith
onto_some b (l ∷ ls) = omega arith

split_some : (p : ℕ → Bool) (b : ℕ) (bs : List ℕ) → 0 < length (split p (b ∷ bs))
split_some p b bs = elim (cases_Bool (p b)) [ inl e ↦ rw e (omega arith) | inr e ↦ rw e (onto_some b (split p bs)) ]

-- the library's parts are those of `split`, and perhaps one more that is empty
parts : (p : ℕ → Bool) (xs : List ℕ) → (slice_split p xs ≡ split p xs) ⊎ (slice_split p xs ≡ split p xs ++ [] ∷ [])
parts p [] = inr refl
parts p (b ∷ []) = elim (cases_Bool (p b)) [ inl e ↦ inr (rw e refl) | inr e ↦ inl (rw e refl) ]
parts p (b ∷ c ∷ bs) =
    elim (cases_Bool (p b)) [
      | inl e ↦ elim (parts p (c ∷ bs)) [ inl i ↦ inl (rw e (ap (λ ls. [] ∷ ls) i)) | inr i ↦ inr (rw e (ap (λ ls. [] ∷ ls) i)) ]
      | inr e ↦
          elim (parts p (c ∷ bs)) [
            | inl i ↦ inl (rw e (ap (onto_first b) i ∙ onto_same b (split p (c ∷ bs))))
            | inr i ↦ inr (rw e (ap (onto_first b) i ∙ onto_more b (split p (c ∷ bs)) (split_some p c bs)))
          ]
    ]

go_same : (l : Line) (size n : ℕ) (f g : ℕ → Result (List Cmd) ℕ) → ((z : ℕ) → f z ≡ g z) → go_on l size n f ≡ go_on l size n g
go_same skipped size n f g h = h size
go_same (says c) size n f g h = ap (first c) (h (size_after size c))
go_same unreadable size n f g h = refl

-- an empty line at the end says nothing
read_more : (size n : ℕ) (ls : List (List ℕ)) → read_lines size n (ls ++ [] ∷ []) ≡ read_lines size n ls
read_more size n [] = refl
read_more size n (l ∷ ls) = go_same (line size l) size n _ _ (λ z. read_more z (n + 1) ls)

pub read_parts : (text : List ℕ) → read_lines 0 0 (slice_split line_end text) ≡ read text
read_parts text =
    elim (parts line_end text) [
      | inl e ↦ ap (read_lines 0 0) e
      | inr e ↦ ap (read_lines 0 0) e ∙ read_more 0 0 (split line_end text)
    ]

-- ## The commands of the lines

-- the commands so far, and those of the lines that are left
abbrev pub gathered : List Cmd → Result (List Cmd) ℕ → Result (List Cmd) ℕ
gathered cs (Ok ds) = Ok (cs ++ ds)
gathered cs (Err n) = Err n

pub gathered_none : (r : Result (List Cmd) ℕ) → gathered [] r ≡ r
gathered_none (Ok ds) = refl
gathered_none (Err n) = refl

regroup : (cs : List Cmd) (c : Cmd) (r : Result (List Cmd) ℕ) → gathered cs (first c r) ≡ gathered (cs ++ c ∷ []) r
regroup cs c (Ok ds) = ap Ok (sym (append_assoc cs (c ∷ []) ds))
regroup cs c (Err n) = refl

-- what reading gives from line n on
abbrev pub from : List (List ℕ) → (n : ℕ) → (size : ℕ) → Result (List Cmd) ℕ
from ls n size = read_lines size n (drop n ls)

-- line n is l
module _ {ls : List (List ℕ)} {n number : ℕ} {l : List ℕ} (h : IsLine ls n number l) (cs : List Cmd) (size : ℕ) where
  told : (s : Line) → s ≡ line size l → gathered cs (from ls n size) ≡ gathered cs (go_on s size n (from ls (n + 1)))
  told s e =
      at_drop_more (λ v. gathered cs (read_lines size n v)) ls n l h.in_range
      ∙ ap (λ v. gathered cs (go_on v size n (from ls (n + 1)))) (ap (line size) (sym h.line_is) ∙ sym e)

  pub line_skipped : skipped ≡ line size l → gathered cs (from ls n size) ≡ gathered cs (from ls (n + 1) size)
  line_skipped e = told skipped e

  pub line_said : (c : Cmd) → says c ≡ line size l → gathered cs (from ls n size) ≡ gathered (cs ++ c ∷ []) (from ls (n + 1) (size_after size c))
  line_said c e = told (says c) e ∙ regroup cs c (from ls (n + 1) (size_after size c))

  pub line_refused : (text : List ℕ) (e : Fault) → ReadAt number (Err e) (line size l) → gathered cs (from ls n size) ≡ read text → Parsed {H = Global} text (Err e)
  line_refused text (FaultLine k) r i = sym i ∙ told unreadable r.1 ∙ ap Err (sym h.number_is ∙ sym r.0)
  line_refused text NoMemory r i = tt

pub lines_end : (ls : List (List ℕ)) (n : ℕ) (cs : List Cmd) (size : ℕ) → length ls ≤ n → gathered cs (from ls n size) ≡ Ok cs
lines_end ls n cs size h = rw (drop_all n ls h) (ap Ok (append-nil cs))
