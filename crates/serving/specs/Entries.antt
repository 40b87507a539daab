-- What the entries answer, and what they leave of what they are lent.
use Rattle.std.specs.Prelude.{◌≡◌, ℕ, zero, suc, ◌+◌, ◌*◌, ◌≤◌, Bool, true, cond, ◌&&◌, ◌⊎◌, List, [], ◌∷◌, length, take, drop, ◌≢◌, nat_le, nat_lt, Option, Some, None}
use Rattle.vring.specs.Rings.{Ring, ring_ok, placed_ok}
use Rattle.chains.specs.Descriptors.{descriptor_at}
use Rattle.chains.specs.declared.descriptor.Descriptor.{Descriptor}
use Rattle.device.specs.States.{state_ok, device_in, numbers_of}
use Rattle.model.specs.Serving.{State, serve_times, reset}
use Rattle.model.specs.Promises.{Sound, waits, Job, Account, Orderly, InOrder}
use Rattle.serving.specs.declared.part.Part.{Part}
use Rattle.serving.specs.declared.done.Done.{Done}
use Rattle.serving.specs.declared.done.Done.TheVariants.{Served, Stopped, Anew, Refused}

-- what is lent, as one state
abbrev pub state_in : (memory state kept : List ℕ) → State
state_in m s k = record { memory = m; device = device_in s k }

-- ## Serving
-- the number of the first refusal that applies, or 0: 1 the ring or the memory, 2 the state, 3 the contents, 4 the number of servings
unfoldable pub refusal : Ring → (memory state kept : List ℕ) → (times : ℕ) → ℕ
refusal r m s k n = cond (placed_ok r (length m)) (cond (state_ok s) (cond (nat_le (length k) 4096) (cond (nat_le n 1000) 0 4) 3) 2) 1

-- what is answered for a state: that the device has stopped, or how many chains wait
abbrev pub answer : Ring → State → Done
answer r x = cond x.device.stopped Stopped (Served (waits r x))

-- so many servings were done, from the state b to the state x
pub record Serves (r : Ring) (b : State) (n : ℕ) (d : Done) (m₁ s₁ k₁ : List ℕ) : Type 0 where
  pub result : d ≡ answer r (serve_times n r b)
  pub memory : m₁ ≡ (serve_times n r b).memory
  pub state : s₁ ≡ numbers_of (serve_times n r b).device
  pub kept : k₁ ≡ (serve_times n r b).device.kept

-- nothing that was lent has changed
pub record Refuses (f : ℕ) (m s k : List ℕ) (d : Done) (m₁ s₁ k₁ : List ℕ) : Type 0 where
  pub result : d ≡ Refused f
  pub memory : m₁ ≡ m
  pub state : s₁ ≡ s
  pub kept : k₁ ≡ k

abbrev pub ServeSays : (refusal : ℕ) → Ring → (memory state kept : List ℕ) → (times : ℕ) → Done → (memory₁ state₁ kept₁ : List ℕ) → Type 0
ServeSays zero r m s k n d m₁ s₁ k₁ = Serves r (state_in m s k) n d m₁ s₁ k₁
ServeSays (suc f) r m s k n d m₁ s₁ k₁ = Refuses (suc f) m s k d m₁ s₁ k₁

-- THE PROMISE, of every memory, state and contents that are not refused: b is the state before, x the state behind
pub record Promised (r : Ring) (b : State) (n : ℕ) (d : Done) (x : State) : Type 0 where
  -- what was served, and that nothing else was changed
  pub account : (js : List Job) × Account r b n x js
  -- it may be called again
  pub sound : Sound r x
  -- once stopped nothing changes
  pub stopped : b.device.stopped ≡ true → (x ≡ b) × (d ≡ Stopped)
  -- with so many servings as wait none waits, or the device has stopped
  pub served_all : waits r b ≤ n → (d ≡ Stopped) ⊎ (d ≡ Served 0)
  -- a guest that keeps to the rules is served as by a device that is asked one thing after the other
  pub as_asked : (c : ℕ → List Descriptor) → Orderly r b n c → InOrder r b n c

-- ## Reset
-- whatever the two numbers are, they become 0 and 0: with any memory the device is then as new, with its contents kept
pub record Resets (s : List ℕ) (d : Done) (s₁ : List ℕ) : Type 0 where
  pub two_numbers : length s ≡ 2
  pub result : d ≡ Anew
  pub state : s₁ ≡ 0 ∷ 0 ∷ []
  pub as_new : (m m₀ k : List ℕ) → state_in m s₁ k ≡ reset m (state_in m₀ s k)
  pub sound : (r : Ring) (m k : List ℕ) → ring_ok r (length m) ≡ true → length k ≤ 4096 → Sound r (state_in m s₁ k)

abbrev pub AnewSays : (state : List ℕ) → Done → (state₁ : List ℕ) → Type 0
AnewSays s d s₁ = Resets s d s₁ ⊎ ((length s ≢ 2) × (d ≡ Refused 2) × (s₁ ≡ s))

-- ## A descriptor's part
unfoldable pub part_ok : Ring → (memory : List ℕ) → (i : ℕ) → Bool
part_ok r m i =
    placed_ok r (length m) && (nat_lt i r.size && nat_le ((descriptor_at m (r.base + 8 * i)).addr + (descriptor_at m (r.base + 8 * i)).len) (length m))

-- the bytes that descriptor i names, or none
unfoldable pub part : Ring → (memory : List ℕ) → (i : ℕ) → List ℕ
part r m i = cond (part_ok r m i) (take (descriptor_at m (r.base + 8 * i)).len (drop (descriptor_at m (r.base + 8 * i)).addr m)) []

-- where that part lies, if it is in memory
abbrev pub part_place : Ring → (memory : List ℕ) → (i : ℕ) → Option Part
part_place r m i =
    cond (part_ok r m i) (Some (record { at = (descriptor_at m (r.base + 8 * i)).addr; len = (descriptor_at m (r.base + 8 * i)).len })) None
