-- A layout is a ring that was checked.
use Rattle.std.specs.Prelude.{◌≡◌, ℕ, true, false, Option, MatchOption}
use Rattle.vring.specs.Rings.{Ring, placed_ok}
use Rattle.vring.specs.declared.layout.Layout.{Layout}

-- the ring that a layout says
abbrev pub ring_of : Layout → Ring
ring_of l = record { size = l.size; base = l.base }

-- a ring in a memory of n bytes is taken as it is, or refused
abbrev pub Placed : Ring → (n : ℕ) → Option Layout → Type 0
Placed r n o = MatchOption o (placed_ok r n ≡ false) (λ l. (placed_ok r n ≡ true) × (ring_of l ≡ r))
