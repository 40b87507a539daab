-- Gathering and finishing over memory as it stands.
use Rattle.std.proofs.Common.{◌≡◌, ℕ, suc, ◌+◌, ◌-◌, ◌<◌, ◌≤◌, min, Bool, true, false, cond, List, [], ◌∷◌, ◌++◌, length, take, drop, sym, refl, ap, ◌∙◌, ap₂, inl, inr, mod-lt, arith, rules}
use Rattle.std.proofs.lemmas.List.{places, same_lists, take_all, length-take}
use Rattle.std.proofs.lemmas.Bool.{cases_Bool}
use Rattle.vring.specs.Words.{two, set_bytes}
use Rattle.vring.specs.Programs.{Prog, ret, then, leaves, get_bytes, put_bytes, pair}
use Rattle.vring.specs.Rings.{Ring, used_at, ends_at, entry_at}
use Rattle.vring.specs.Plain.{plain, plain_wrote}
use Rattle.vring.proofs.Binds.{ends_then, leaves_then, ends_by, leaves_by}
use Rattle.vring.proofs.Bytes.{set_length, set_two, set_behind, two_length}
use Rattle.vring.proofs.Stores.{plain_put, plain_get}
use Rattle.chains.specs.Descriptors.{writable}
use Rattle.chains.specs.declared.descriptor.Descriptor.{Descriptor}
use Rattle.transfer.specs.Requests.{request, request_prog}
use Rattle.transfer.specs.Responses.{filled, fill_prog, following, used, used_prog, finished, finish_prog, Within}
use Rattle.transfer.specs.Laws.{GathersPlainly, FinishesPlainly}

-- ## Gathering
-- the first n bytes of a part and of what is behind it
cut_front : (n l a : ℕ) (m ys : List ℕ) → a + l ≤ length m → take (min l n) (drop a m) ++ take (n - min l n) ys ≡ take n (take l (drop a m) ++ ys)
cut_front n l a m ys h = same_lists _ _ (search (rules, places)) (λ j d b. grind (arith, places))

within_tail : (n : ℕ) (d : Descriptor) (ds : List Descriptor) → Within n (d ∷ ds) → Within n ds
within_tail n d ds h j e b = h (suc j) e (omega arith)

pub gathers_plainly : GathersPlainly
unfolding request_prog request
gathers_plainly n [] m h = (sym (take_all n [] (omega arith)), refl)
gathers_plainly n (d ∷ ds) m h =
    elim (cases_Bool (writable d)) [
      | inl w ↦ rw w (gathers_plainly n ds m (within_tail (length m) d ds h))
      | inr w ↦
          let i : d.addr + d.len ≤ length m = h 0 d (omega arith) in
          let p = get_bytes (min d.len n) d.addr in
          let rest = request_prog (n - min d.len n) ds in
          let part = plain_get (min d.len n) d.addr m (omega arith) in
          let ih = gathers_plainly (n - min d.len n) ds m (within_tail (length m) d ds h) in
          let xs = take (min d.len n) (drop d.addr m) in
          let k = λ (ys : List ℕ). then rest (λ zs. ret (ys ++ zs)) in
          rw w (
            ends_by plain p k m m xs (sym part.0) (sym part.1) ∙ (ends_then plain rest (λ zs. ret (xs ++ zs)) m ∙ (ap (λ zs. xs ++ zs) ih.0 ∙ cut_front n d.len d.addr m (request m ds) i)),
            leaves_by plain p k m m xs (sym part.0) (sym part.1) ∙ (leaves_then plain rest (λ zs. ret (xs ++ zs)) m ∙ ih.1),
          )
    ]

-- ## Finishing
leaves_cond : {A : Type 0} (b : Bool) (p q : Prog A) (m : List ℕ) → leaves plain (cond b p q) m ≡ cond b (leaves plain p m) (leaves plain q m)
leaves_cond true p q m = refl
leaves_cond false p q m = refl

pub put_fits : (n : ℕ) (d : Descriptor) (xs m : List ℕ) → length m ≡ n → d.addr + d.len ≤ n → d.addr + length (take d.len xs) ≤ length m
put_fits n d xs m e f = simp length-take (omega arith)

pub filled_length : (n : ℕ) (ds : List Descriptor) (xs m : List ℕ) → length m ≡ n → Within n ds → length (filled ds xs m) ≡ n
unfolding filled
filled_length n [] xs m e f = e
filled_length n (d ∷ ds) xs m e f =
    elim (cases_Bool (writable d)) [
      | inl w ↦ rw w (filled_length n ds (drop d.len xs) (set_bytes m d.addr (take d.len xs)) (set_length m d.addr (take d.len xs) (put_fits n d xs m e (f 0 d (omega arith))) ∙ e) (within_tail n d ds f))
      | inr w ↦ rw w (filled_length n ds xs m e (within_tail n d ds f))
    ]

plain_fill : (ds : List Descriptor) (xs m : List ℕ) → Within (length m) ds → leaves plain (fill_prog ds xs) m ≡ filled ds xs m
unfolding fill_prog filled
plain_fill [] xs m h = refl
plain_fill (d ∷ ds) xs m h =
    let ys = take d.len xs in
    let l = put_fits (length m) d xs m refl (h 0 d (omega arith)) in
    let s = set_length m d.addr ys l in
    leaves_cond (writable d) _ _ m ∙ ap₂ (cond (writable d))
    (leaves_then plain (put_bytes d.addr ys) _ m ∙ (ap (λ n. leaves plain (fill_prog ds (drop d.len xs)) n) (plain_put d.addr ys m l)
    ∙ plain_fill ds (drop d.len xs) (set_bytes m d.addr ys) (λ j e b. omega (arith, s, h (suc j) e (omega arith)))))
    (plain_fill ds xs m (λ j e b. h (suc j) e (omega arith)))

plain_used : (r : Ring) (k h n : ℕ) (m : List ℕ) → 0 < r.size → ends_at r ≤ length m → leaves plain (used_prog r k h n) m ≡ used r k h n m
unfolding used
plain_used r k h n m p f =
    let b = mod-lt k p in
    let e = entry_at r k in
    let l : e + 4 ≤ length m = omega arith in
    let th = two_length h in
    let tn = two_length n in
    let both : length (two h ++ two n) ≡ 4 = unfold two in refl in
    let l₁ : length (set_bytes m e (two h)) ≡ length m = set_length m e (two h) (omega arith) in
    let l₂ : length (set_bytes m e (two h ++ two n)) ≡ length m = set_length m e (two h ++ two n) (omega arith) in
    let p = set_two m e h (omega arith) in
    let q = ap (λ x. plain_wrote x pair (e + 2) n) p ∙ (set_two (set_bytes m e (two h)) (e + 2) n (omega arith) ∙ set_behind m e (e + 2) (two h) (two n) (omega arith) (omega arith)) in
    ap (λ x. plain_wrote x pair (used_at r) (following k)) q ∙ set_two (set_bytes m e (two h ++ two n)) (used_at r) (following k) (omega arith)

pub finishes_plainly : FinishesPlainly
unfolding finish_prog finished
finishes_plainly r k h ds xs m p f w =
    let e = filled_length (length m) ds xs m refl w in
    leaves_then plain (fill_prog ds xs) (λ _. used_prog r k h (length xs)) m
    ∙ (ap (λ x. leaves plain (used_prog r k h (length xs)) x) (plain_fill ds xs m w) ∙ plain_used r k h (length xs) (filled ds xs m) p (omega arith))
