-- What is promised over whole histories: a guest that writes what it likes, servings and resets, in any order.
use Rattle.std.specs.Prelude.{◌≡◌, ℕ, ◌≤◌, true, ◌⊎◌, List, [], ◌∷◌, ◌++◌, length}
use Rattle.vring.specs.Rings.{Ring}
use Rattle.chains.specs.declared.descriptor.Descriptor.{Descriptor}
use Rattle.model.specs.Serving.{State, serve_times, reset}
use Rattle.model.specs.Promises.{Sound, waits, Job, kept_by, Account, Orderly, InOrder}

-- what may happen next
pub data Event : Type 0 where
  -- the guest leaves memory so
  writes : (memory : List ℕ) → Event
  -- so many servings are asked for
  serves : (times : ℕ) → Event
  -- the device is reset
  resets : Event

abbrev pub after : Ring → State → Event → State
after r b (writes m) = record { memory = m; device = b.device }
after r b (serves n) = serve_times n r b
after r b resets = reset b.memory b

-- the guest may write any bytes, and its memory keeps its size
abbrev pub Possible : Ring → State → List Event → Type 0
Possible r b [] = Unit {0}
Possible r b (writes m ∷ es) = (length m ≡ length b.memory) × Possible r (after r b (writes m)) es
Possible r b (serves n ∷ es) = Possible r (after r b (serves n)) es
Possible r b (resets ∷ es) = Possible r (after r b resets) es

-- what is promised of so many servings from the state b to the state x
pub record ServedWell (r : Ring) (b : State) (n : ℕ) (x : State) : Type 0 where
  pub account : (js : List Job) × Account r b n x js
  pub stopped : b.device.stopped ≡ true → x ≡ b
  pub served_all : waits r b ≤ n → (x.device.stopped ≡ true) ⊎ (waits r x ≡ 0)
  pub as_asked : (c : ℕ → List Descriptor) → Orderly r b n c → InOrder r b n c

-- each event from the state b on keeps its promise: servings as above, a guest's write leaves the device alone, and a reset makes it new
abbrev pub Throughout : Ring → State → List Event → Type 0
Throughout r b [] = Sound r b
Throughout r b (writes m ∷ es) = Sound r b × ((after r b (writes m)).device ≡ b.device) × Throughout r (after r b (writes m)) es
Throughout r b (serves n ∷ es) = Sound r b × ServedWell r b n (after r b (serves n)) × Throughout r (after r b (serves n)) es
Throughout r b (resets ∷ es) = Sound r b × (after r b resets ≡ reset b.memory b) × Throughout r (after r b resets) es

-- the state at the end
abbrev pub at_end : Ring → State → List Event → State
at_end r b [] = b
at_end r b (e ∷ es) = at_end r (after r b e) es

-- the jobs that a history did, in order: those that account for its servings, one after the other
abbrev pub Did : Ring → State → List Event → List Job → Type 0
Did r b [] js = js ≡ []
Did r b (writes m ∷ es) js = Did r (after r b (writes m)) es js
Did r b (serves n ∷ es) js = (ks : List Job) × (ls : List Job) × Account r b n (after r b (serves n)) ks × Did r (after r b (serves n)) es ls × (js ≡ ks ++ ls)
Did r b (resets ∷ es) js = Did r (after r b resets) es js

-- whatever the guest writes, every serving of a history keeps its promises, and at its end the contents are those of all the requests
-- that were served, in order
abbrev pub OverAnyHistory : Type 0
OverAnyHistory =
    (r : Ring) (b : State) (es : List Event) → Sound r b → Possible r b es →
    Throughout r b es × ((js : List Job) × Did r b es js × ((at_end r b es).device.kept ≡ kept_by b.device.kept js))
