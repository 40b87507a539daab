-- What one program and then another ends with and leaves.
use Rattle.std.proofs.Common.{◌≡◌, ℕ, sym, refl, ◌∙◌, ap₂}
use Rattle.vring.specs.Programs.{Prog, ret, get, put, then, Acts, ends, leaves, Wide}

module _ {M A B : Type 0} (acts : Acts M) where
  pub ends_then : (p : Prog A) (k : A → Prog B) (m : M) → ends acts (then p k) m ≡ ends acts (k (ends acts p m)) (leaves acts p m)
  unfolding then
  ends_then (ret x) k m = refl
  ends_then (get w a j) k m = ends_then (j (acts.reads m w a)) k (acts.after m w a)
  ends_then (put w a v p) k m = ends_then p k (acts.wrote m w a v)

  pub leaves_then : (p : Prog A) (k : A → Prog B) (m : M) → leaves acts (then p k) m ≡ leaves acts (k (ends acts p m)) (leaves acts p m)
  unfolding then
  leaves_then (ret x) k m = refl
  leaves_then (get w a j) k m = leaves_then (j (acts.reads m w a)) k (acts.after m w a)
  leaves_then (put w a v p) k m = leaves_then p k (acts.wrote m w a v)

  -- the same as code has it: a call did the first, with result x and memory m₁ behind it
  pub ends_by : (p : Prog A) (k : A → Prog B) (m m₁ : M) (x : A) → x ≡ ends acts p m → m₁ ≡ leaves acts p m → ends acts (then p k) m ≡ ends acts (k x) m₁
  ends_by p k m m₁ x e e₁ = ends_then p k m ∙ ap₂ (λ y n. ends acts (k y) n) (sym e) (sym e₁)

  pub leaves_by : (p : Prog A) (k : A → Prog B) (m m₁ : M) (x : A) → x ≡ ends acts p m → m₁ ≡ leaves acts p m → leaves acts (then p k) m ≡ leaves acts (k x) m₁
  leaves_by p k m m₁ x e e₁ = leaves_then p k m ∙ ap₂ (λ y n. leaves acts (k y) n) (sym e) (sym e₁)

-- and a read that found x and left m₁
module _ {M A : Type 0} (acts : Acts M) (w : Wide) (a : ℕ) (k : ℕ → Prog A) (m m₁ : M) (x : ℕ) (e : x ≡ acts.reads m w a) (e₁ : m₁ ≡ acts.after m w a) where
  pub ends_get : ends acts (get w a k) m ≡ ends acts (k x) m₁
  ends_get = ap₂ (λ y n. ends acts (k y) n) (sym e) (sym e₁)

  pub leaves_get : leaves acts (get w a k) m ≡ leaves acts (k x) m₁
  leaves_get = ap₂ (λ y n. leaves acts (k y) n) (sym e) (sym e₁)
