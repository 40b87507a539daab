-- The lines of a text, as a loop over the library's counted parts takes them.
use Rattle.std.proofs.Common.{◌≡◌, ℕ, ◌<◌, ◌≤◌, List, length, get_or, Some, None, Option, Bor, ap, ◌∙◌, arith}
use Rattle.std.specs.Iterator.{Yields}
use Rattle.std.specs.List.{enumerate_from}
use Rattle.std.proofs.lemmas.Iterator.{YieldsList}
use Rattle.std.proofs.lemmas.Iterator.Consumers.{YieldsList-turn, YieldsList-end}
use Rattle.std.proofs.lemmas.List.FromFn.{get_or-enumerate_from, length-enumerate_from}

-- an iterator gives these lines, each with its number
abbrev pub GivesLines : {S : Type 0} → (S → Option (ℕ × Bor (List ℕ)) → S → Type 0) → S → List (List ℕ) → Type 0
GivesLines steps s ls = YieldsList {B = ℕ × List ℕ} steps (λ p. (p.0, p.1.now)) s (enumerate_from 0 ls)

-- line n of the lines is l, and is numbered so
pub record IsLine (ls : List (List ℕ)) (n number : ℕ) (l : List ℕ) : Type 0 where
  pub in_range : n < length ls
  pub number_is : number ≡ n
  pub line_is : l ≡ get_or ls n l

-- after the lines that came so far
module _ {S : Type 0} {steps : S → Option (ℕ × Bor (List ℕ)) → S → Type 0} {s : S} (ls : List (List ℕ)) (gives : GivesLines steps s ls)
    (so_far : List (ℕ × Bor (List ℕ))) (t : S) (yielded : Yields steps s so_far t) (r : Option (ℕ × Bor (List ℕ))) (u : S) (step : steps t r u) where
  pub next_line : (number : ℕ) (l : Bor (List ℕ)) → r ≡ Some (number, l) → IsLine ls (length so_far) number l.now
  next_line number l e =
      let turn = YieldsList-turn gives so_far t yielded r u (number, l) e step in
      let k : length so_far < length ls = omega (arith, turn.0, length-enumerate_from 0 ls) in
      let p = turn.1 ∙ get_or-enumerate_from 0 ls (length so_far) (number, l.now) k in
      record { in_range = k; number_is = ap (λ q. q.0) p ∙ omega arith; line_is = ap (λ q. q.1) p }

  pub no_line_left : r ≡ None → length ls ≤ length so_far
  no_line_left e = omega (arith, (YieldsList-end gives so_far t yielded r u e step).1, length-enumerate_from 0 ls)
