-- Turns, step by step as the code takes them.
use Rattle.std.proofs.Common.{◌≡◌, ℕ, zero, suc, ◌-◌, ◌<◌, min, Bool, true, false, cond, List, length, take, sym, refl, ap, ◌∙◌, arith, rules}
use Rattle.std.proofs.lemmas.List.{places, same_lists}
use Rattle.vring.specs.Programs.{ret, then, Acts, ends, leaves}
use Rattle.vring.specs.Rings.{Ring}
use Rattle.vring.proofs.Binds.{ends_by, leaves_by, ends_then, leaves_then}
use Rattle.chains.specs.declared.descriptor.Descriptor.{Descriptor}
use Rattle.transfer.specs.Responses.{finish_prog}
use Rattle.device.specs.Device.{Device}
use Rattle.model.specs.Serving.{Look, nothing, halt, job, cut, device_after, halted}
use Rattle.serving.specs.Turns.{look_prog, Turn, turned, act_prog, turn_prog, run_prog}

-- the response as it is sent, cut off
pub cut_bytes : (cap : ℕ) (xs : List ℕ) → take (min (length xs) cap) xs ≡ take cap xs
cut_bytes cap xs = same_lists _ _ (search (rules, places)) (λ j d l. grind (arith, places))

module _ {M : Type 0} (acts : Acts M) (r : Ring) (n : ℕ) (d : Device) (m : M) where
  -- what a turn ends with and leaves
  abbrev pub Turns : M → Bool → Device → Type 0
  Turns m₁ b e = (ends acts (turn_prog r n d) m ≡ turned b e) × (m₁ ≡ leaves acts (turn_prog r n d) m)

  pub turn_stopped : d.stopped ≡ true → Turns m false d
  unfolding turn_prog
  turn_stopped s = rw s (refl, refl)

  pub turn_looks : d.stopped ≡ false → turn_prog r n d ≡ then (look_prog r n d.served) (λ x. act_prog r d x)
  unfolding turn_prog
  turn_looks s = ap (λ b. cond b (ret (turned false d)) (then (look_prog r n d.served) (λ x. act_prog r d x))) s

  module _ (m₁ : M) (l : Look) (s : d.stopped ≡ false) (e : ends acts (look_prog r n d.served) m ≡ l) (e₁ : m₁ ≡ leaves acts (look_prog r n d.served) m) where
    turn_ends : ends acts (turn_prog r n d) m ≡ ends acts (act_prog r d l) m₁
    turn_ends = ap (λ p. ends acts p m) (turn_looks s) ∙ ends_by acts (look_prog r n d.served) (λ x. act_prog r d x) m m₁ l (sym e) e₁

    turn_leaves : leaves acts (turn_prog r n d) m ≡ leaves acts (act_prog r d l) m₁
    turn_leaves = ap (λ p. leaves acts p m) (turn_looks s) ∙ leaves_by acts (look_prog r n d.served) (λ x. act_prog r d x) m m₁ l (sym e) e₁

    pub turn_nothing : l ≡ nothing → Turns m₁ false d
    unfolding act_prog
    turn_nothing z = (turn_ends ∙ rw z refl, sym (turn_leaves ∙ rw z refl))

    pub turn_halts : l ≡ halt → Turns m₁ false (halted d)
    unfolding act_prog
    turn_halts z = (turn_ends ∙ rw z refl, sym (turn_leaves ∙ rw z refl))

    pub turn_serves : (m₂ : M) (x : Device) (h : ℕ) (ds : List Descriptor) (q : List ℕ) → l ≡ job h ds q → x ≡ device_after d q →
        m₂ ≡ leaves acts (finish_prog r d.served h ds (cut d.kept ds q)) m₁ → Turns m₂ true x
    unfolding act_prog
    turn_serves m₂ x h ds q z y k =
        let p = finish_prog r d.served h ds (cut d.kept ds q) in let t = λ (u : Unit {0}). ret (turned true (device_after d q)) in
        (turn_ends ∙ rw z (ends_then acts p t m₁ ∙ ap (turned true) (sym y)), k ∙ sym (turn_leaves ∙ rw z (leaves_then acts p t m₁)))

  -- what a run ends with and leaves
  abbrev pub Runs : (times : ℕ) → M → Device → Type 0
  Runs f m₁ e = (ends acts (run_prog f r n d) m ≡ e) × (m₁ ≡ leaves acts (run_prog f r n d) m)

  pub run_none : (f : ℕ) → f ≡ 0 → Runs f m d
  unfolding run_prog
  run_none f z = rw z (refl, refl)

  pub run_ends : (f : ℕ) (m₁ : M) (e : Device) → 0 < f → Turns m₁ false e → Runs f m₁ e
  unfolding run_prog
  run_ends zero m₁ e p t = absurd (omega arith)
  run_ends (suc f) m₁ e p t =
      let k = λ (t : Turn). cond t.again (run_prog f r n t.device) (ret t.device) in
      (ends_by acts (turn_prog r n d) k m m₁ (turned false e) (sym t.0) t.1, sym (leaves_by acts (turn_prog r n d) k m m₁ (turned false e) (sym t.0) t.1))

pub run_more : {M : Type 0} (acts : Acts M) (r : Ring) (n : ℕ) (d e x : Device) (m m₁ m₂ : M) (f : ℕ) → 0 < f → Turns acts r n d m m₁ true e → Runs acts r n e m₁ (f - 1) m₂ x → Runs acts r n d m f m₂ x
unfolding run_prog
run_more acts r n d e x m m₁ m₂ zero p t u = absurd (omega arith)
run_more acts r n d e x m m₁ m₂ (suc f) p t u =
    let k = λ (t : Turn). cond t.again (run_prog f r n t.device) (ret t.device) in
    let s : suc f - 1 ≡ f = omega arith in
    let v : Runs acts r n e m₁ f m₂ x = rw s at u in
    (ends_by acts (turn_prog r n d) k m m₁ (turned true e) (sym t.0) t.1 ∙ v.0, v.1 ∙ sym (leaves_by acts (turn_prog r n d) k m m₁ (turned true e) (sym t.0) t.1))

-- a device is the same if its parts are
pub same_device : (k k₁ : List ℕ) (s : ℕ) (b : Bool) → k ≡ k₁ → b ≡ false → ◌≡◌ {A = Device} (record { kept = k; served = s; stopped = b }) (record { kept = k₁; served = s; stopped = false })
same_device k k₁ s b e f = rw (e, f) refl
