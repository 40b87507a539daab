-- Which chains may be served.
use Rattle.std.specs.Prelude.{ℕ, ◌+◌, Bool, true, cond, not, ◌&&◌, ◌||◌, List, [], ◌∷◌, nat_le}
use Rattle.std.specs.List.{list_all}
use Rattle.chains.specs.Descriptors.{writable}
use Rattle.chains.specs.declared.descriptor.Descriptor.{Descriptor}
use Rattle.chains.specs.declared.region.Region.{Region}

-- a descriptor's part lies wholly before or wholly behind each region
unfoldable pub clear : List Region → Descriptor → Bool
clear gs d = list_all (λ g. nat_le (d.addr + d.len) g.from || nat_le g.to d.addr) gs

-- and in a memory of n bytes
unfoldable pub fits : List Region → (n : ℕ) → Descriptor → Bool
fits gs n d = nat_le (d.addr + d.len) n && clear gs d

-- each part fits, and no readable descriptor stands behind a writable one
unfoldable pub usable : List Region → (n : ℕ) → (written : Bool) → List Descriptor → Bool
usable gs n w [] = true
usable gs n w (d ∷ ds) = fits gs n d && cond (writable d) (usable gs n true ds) (not w && usable gs n w ds)
