-- A chain followed over memory as it stands.
use Rattle.std.proofs.Common.{◌≡◌, ℕ, zero, suc, ◌+◌, ◌*◌, Bool, true, false, cond, ltb, List, [], ◌∷◌, refl, ap, ◌∙◌}
use Rattle.vring.specs.Programs.{Prog, ret, get, then, pair, ends, leaves}
use Rattle.vring.specs.Plain.{plain}
use Rattle.vring.proofs.Binds.{ends_then, leaves_then}
use Rattle.chains.specs.Descriptors.{has_next, descriptor_at, next_at}
use Rattle.chains.specs.Chains.{Walk, bad, goes, with_first, chain_from, link_prog, chain_prog}
use Rattle.chains.specs.Laws.{FollowsPlainly}
use Rattle.chains.specs.declared.descriptor.Descriptor.{Descriptor}

-- a program that only looks finds w
unfoldable Finds : Prog Walk → Walk → List ℕ → Type 0
Finds p w m = (ends plain p m ≡ w) × (leaves plain p m ≡ m)

either : (b : Bool) (p : Prog Walk) (w v : Walk) (m : List ℕ) → Finds p w m → Finds (cond b p (ret v)) (cond b w v) m
unfolding Finds
either true p w v m e = e
either false p w v m e = (refl, refl)

first : (d : Descriptor) (p : Prog Walk) (w : Walk) (m : List ℕ) → Finds p w m → Finds (then p (λ v. ret (with_first d v))) (with_first d w) m
unfolding Finds
first d p w m e = (ends_then plain p (λ v. ret (with_first d v)) m ∙ ap (with_first d) e.0, leaves_then plain p (λ v. ret (with_first d v)) m ∙ e.1)

follows : (f t n i : ℕ) (m : List ℕ) → Finds (chain_prog f t n i) (chain_from f t n m i) m
unfolding Finds chain_prog chain_from then descriptor_at next_at link_prog
follows zero t n i m = (refl, refl)
follows (suc f) t n i m =
    let p = t + 8 * i in
    let d = descriptor_at m p in
    either (ltb i n) _ _ bad m
    (either (has_next d) (get pair (p + 6) (λ j. then (chain_prog f t n j) (λ w. ret (with_first d w)))) (with_first d (chain_from f t n m (next_at m p))) (goes (d ∷ [])) m
    (first d (chain_prog f t n (next_at m p)) _ m (follows f t n (next_at m p) m)))

pub follows_plainly : FollowsPlainly
unfolding Finds
follows_plainly f t n i m = follows f t n i m
