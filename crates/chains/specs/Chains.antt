-- Chains of descriptors, in memory and as they are followed.
use Rattle.std.specs.Prelude.{◌≡◌, ℕ, zero, suc, ◌+◌, ◌*◌, cond, List, [], ◌∷◌, ◌++◌, nat_lt, Result, IsOk, IsErr}
use Rattle.vring.specs.Programs.{Prog, ret, get, then, pair}
use Rattle.chains.specs.Descriptors.{has_next, descriptor_at, next_at, descriptor_prog}
use Rattle.chains.specs.declared.descriptor.Descriptor.{Descriptor}
use Rattle.chains.specs.declared.breach.Breach.{Breach}
use Rattle.chains.specs.declared.chain.Chain.{Chain}

-- the descriptors of a chain in their order, or that the chain is bad
pub data Walk : Type 0 where
  bad : Walk
  goes : List Descriptor → Walk

abbrev pub with_first : Descriptor → Walk → Walk
with_first d bad = bad
with_first d (goes ds) = goes (d ∷ ds)

-- the chain that begins with descriptor i of a table of n descriptors at the address t, if it has at most so many: it is bad if it goes
-- on longer, or names a descriptor that the table does not have
unfoldable pub chain_from : (most : ℕ) → (t n : ℕ) → List ℕ → (i : ℕ) → Walk
chain_from zero t n m i = bad
chain_from (suc f) t n m i =
    cond (nat_lt i n)
    (cond (has_next (descriptor_at m (t + 8 * i)))
    (with_first (descriptor_at m (t + 8 * i)) (chain_from f t n m (next_at m (t + 8 * i))))
    (goes (descriptor_at m (t + 8 * i) ∷ [])))
    bad

-- a descriptor that was read at an address, and behind it the rest: which one follows is read only if one does
unfoldable pub link_prog : (at : ℕ) → Descriptor → (rest : ℕ → Prog Walk) → Prog Walk
link_prog p d rest = cond (has_next d) (get pair (p + 6) (λ j. then (rest j) (λ w. ret (with_first d w)))) (ret (goes (d ∷ [])))

-- how a chain is followed
unfoldable pub chain_prog : (most : ℕ) → (t n i : ℕ) → Prog Walk
chain_prog zero t n i = ret bad
chain_prog (suc f) t n i =
    cond (nat_lt i n) (then (descriptor_prog (t + 8 * i)) (λ d. link_prog (t + 8 * i) d (λ j. chain_prog f t n j))) (ret bad)

-- the descriptors that a chain lists
abbrev pub listed : Chain → List Descriptor
listed c = c.descriptors.items

-- what following answers: an error if the chain is bad, else its descriptors stand behind those before
abbrev pub Follows : Walk → Result (Unit {0}) Breach → (before after : List Descriptor) → Type 0
Follows bad r before after = IsErr r
Follows (goes ds) r before after = IsOk r × (after ≡ before ++ ds)
