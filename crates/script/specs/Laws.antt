-- What is written is read again.
use Rattle.std.specs.Prelude.{◌≡◌, ℕ, ◌+◌, ◌^◌, ◌<◌, ◌≤◌, List, [], ◌∷◌, ◌++◌, length, Ok}
use Rattle.std.specs.List.{AllByRecursion}
use Rattle.script.specs.Format.{Cmd, memory, ring, bytes_at, kept, serve, anew, piece, says, line, size_after, read}
use Rattle.script.specs.Shown.{shown}

-- numbers below 2^64, and bytes below 256 that lie in a memory of so many bytes
abbrev pub Sound : (size : ℕ) → Cmd → Type 0
Sound size (memory n) = n < 2 ^ 64
Sound size (ring places base) = (places < 2 ^ 64) × (base < 2 ^ 64)
Sound size (bytes_at at bytes) = (at < 2 ^ 64) × AllByRecursion (λ b. b < 256) bytes × (at + length bytes ≤ size)
Sound size (kept n) = n < 2 ^ 64
Sound size (serve n) = n < 2 ^ 64
Sound size anew = Unit {0}
Sound size (piece n) = n < 2 ^ 64

-- each command in the memory that the commands before it leave
abbrev pub Sounds : (size : ℕ) → List Cmd → Type 0
Sounds size [] = Unit {0}
Sounds size (c ∷ cs) = Sound size c × Sounds (size_after size c) cs

-- commands, each as a line
abbrev pub written : List Cmd → List ℕ
written [] = []
written (c ∷ cs) = shown c ++ (10 ∷ written cs)

-- a command as its line is read as that command
abbrev pub RoundTrip : Type 0
RoundTrip = (size : ℕ) (c : Cmd) → Sound size c → line size (shown c) ≡ says c

-- commands as a text are read as those commands
abbrev pub WholeRoundTrip : Type 0
WholeRoundTrip = (cs : List Cmd) → Sounds 0 cs → read (written cs) ≡ Ok cs

-- commands that are read have such numbers and bytes
abbrev pub ReadsSound : Type 0
ReadsSound = (text : List ℕ) (cs : List Cmd) → read text ≡ Ok cs → Sounds 0 cs
