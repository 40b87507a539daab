-- How commands are written.
use Rattle.std.specs.Prelude.{ℕ, List, ◌∷◌, ◌++◌, codes, decimal}
use Rattle.std.specs.List.{flat_map}
use Rattle.script.specs.Format.{Cmd, memory, ring, bytes_at, kept, serve, anew, piece}

-- numbers, each with a space before it
abbrev pub spaced : List ℕ → List ℕ
spaced ns = flat_map (λ n. 32 ∷ decimal n) ns

-- ## Commands

-- a command as its line, without the line's end
abbrev pub shown : Cmd → List ℕ
shown (memory n) = codes "memory " ++ decimal n
shown (ring size base) = codes "ring " ++ (decimal size ++ (codes " at " ++ decimal base))
shown (bytes_at at bytes) = codes "bytes " ++ (decimal at ++ (codes ":" ++ spaced bytes))
shown (kept n) = codes "kept " ++ decimal n
shown (serve n) = codes "serve " ++ decimal n
shown anew = codes "anew"
shown (piece n) = codes "piece " ++ decimal n
