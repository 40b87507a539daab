-- Descriptors, and how one is read.
use Rattle.std.specs.Prelude.{ℕ, ◌+◌, ◌/◌, ◌%◌, Bool, List, ◌==◌}
use Rattle.vring.specs.Words.{word}
use Rattle.vring.specs.Programs.{Prog, ret, get, pair}
use Rattle.chains.specs.declared.descriptor.Descriptor.{Descriptor}

-- flag 1: another descriptor follows
abbrev pub has_next : Descriptor → Bool
has_next d = d.flags % 2 == 1

-- flag 2: the device writes it
abbrev pub writable : Descriptor → Bool
writable d = d.flags / 2 % 2 == 1

abbrev pub described : (addr len flags : ℕ) → Descriptor
described a l f = record { addr = a; len = l; flags = f }

-- the descriptor at an address of memory
unfoldable pub descriptor_at : List ℕ → (at : ℕ) → Descriptor
descriptor_at m p = described (word m p) (word m (p + 2)) (word m (p + 4))

-- which one follows it
unfoldable pub next_at : List ℕ → (at : ℕ) → ℕ
next_at m p = word m (p + 6)

-- its address, length and flags, each read once
abbrev pub descriptor_prog : (at : ℕ) → Prog Descriptor
descriptor_prog p = get pair p (λ a. get pair (p + 2) (λ l. get pair (p + 4) (λ f. ret (described a l f))))
