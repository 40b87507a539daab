-- Steps of gathering a request.
use Rattle.std.proofs.Common.{◌≡◌, ℕ, zero, suc, ◌+◌, ◌-◌, ◌<◌, min, true, false, List, ◌∷◌, ◌++◌, length, get_or, drop, refl, ap, ◌∙◌, arith}
use Rattle.std.proofs.lemmas.List.{at_drop_more}
use Rattle.vring.specs.Programs.{ret, get, then, byte, get_bytes, Acts, ends, leaves}
use Rattle.vring.proofs.Binds.{ends_then, leaves_then, ends_get, leaves_get, ends_by, leaves_by}
use Rattle.chains.specs.Descriptors.{writable}
use Rattle.chains.specs.declared.descriptor.Descriptor.{Descriptor}
use Rattle.transfer.specs.Requests.{request_prog}

get_more : (n a : ℕ) → 0 < n → get_bytes n a ≡ get byte a (λ x. then (get_bytes (n - 1) (a + 1)) (λ xs. ret (x ∷ xs)))
unfolding get_bytes
get_more zero a h = absurd (omega arith)
get_more (suc n) a h = let e : suc n - 1 ≡ n = omega arith in rw e refl

module _ {M : Type 0} (acts : Acts M) where
  -- a byte x was read, which left m₁
  pub byte_more : (n a x : ℕ) (m m₁ : M) → 0 < n → x ≡ acts.reads m byte a → m₁ ≡ acts.after m byte a →
      (ends acts (get_bytes n a) m ≡ x ∷ ends acts (get_bytes (n - 1) (a + 1)) m₁) × (leaves acts (get_bytes n a) m ≡ leaves acts (get_bytes (n - 1) (a + 1)) m₁)
  byte_more n a x m m₁ h e e₁ =
      let k = λ (y : ℕ). then (get_bytes (n - 1) (a + 1)) (λ xs. ret (y ∷ xs)) in
      rw (get_more n a h) (ends_get acts byte a k m m₁ x e e₁ ∙ ends_then acts (get_bytes (n - 1) (a + 1)) (λ xs. ret (x ∷ xs)) m₁, leaves_get acts byte a k m m₁ x e e₁ ∙ leaves_then acts (get_bytes (n - 1) (a + 1)) (λ xs. ret (x ∷ xs)) m₁)

  module _ (ds : List Descriptor) (i : ℕ) (d : Descriptor) (n : ℕ) (m : M) (h : i < length ds) where
    -- a writable descriptor is passed over
    pub gather_skip : writable (get_or ds i d) ≡ true →
        (ends acts (request_prog n (drop i ds)) m ≡ ends acts (request_prog n (drop (i + 1) ds)) m) × (leaves acts (request_prog n (drop i ds)) m ≡ leaves acts (request_prog n (drop (i + 1) ds)) m)
    unfolding request_prog
    gather_skip w = (at_drop_more (λ qs. ends acts (request_prog n qs) m) ds i d h ∙ rw w refl, at_drop_more (λ qs. leaves acts (request_prog n qs) m) ds i d h ∙ rw w refl)

    -- k bytes of a readable one were read, which left m₁
    pub gather_read : (m₁ : M) (k : ℕ) → writable (get_or ds i d) ≡ false → k ≡ min (get_or ds i d).len n → m₁ ≡ leaves acts (get_bytes k (get_or ds i d).addr) m →
        (ends acts (request_prog n (drop i ds)) m ≡ ends acts (get_bytes k (get_or ds i d).addr) m ++ ends acts (request_prog (n - k) (drop (i + 1) ds)) m₁)
        × (leaves acts (request_prog n (drop i ds)) m ≡ leaves acts (request_prog (n - k) (drop (i + 1) ds)) m₁)
    unfolding request_prog
    gather_read m₁ k w e e₁ =
        let p = get_bytes k (get_or ds i d).addr in let rest = request_prog (n - k) (drop (i + 1) ds) in let xs = ends acts p m in
        let j = λ (ys : List ℕ). then rest (λ zs. ret (ys ++ zs)) in
        let t : request_prog n (get_or ds i d ∷ drop (i + 1) ds) ≡ then p j = rw w (rw e refl) in (
          at_drop_more (λ qs. ends acts (request_prog n qs) m) ds i d h ∙ (ap (λ q. ends acts q m) t ∙ (ends_by acts p j m m₁ xs refl e₁ ∙ ends_then acts rest (λ zs. ret (xs ++ zs)) m₁)),
          at_drop_more (λ qs. leaves acts (request_prog n qs) m) ds i d h ∙ (ap (λ q. leaves acts q m) t ∙ (leaves_by acts p j m m₁ xs refl e₁ ∙ leaves_then acts rest (λ zs. ret (xs ++ zs)) m₁)),
        )
