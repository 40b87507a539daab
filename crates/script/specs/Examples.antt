-- Texts that are read, and texts that are refused.
use Rattle.std.specs.Prelude.{◌≡◌, ℕ, List, [], ◌∷◌, Ok, Err, codes}
use Rattle.script.specs.Format.{memory, ring, bytes_at, kept, serve, anew, piece, read}

-- every command, with a comment, an empty line, blanks of each kind and leading zeros
abbrev pub ExampleRead : Type 0
ExampleRead =
    read (codes "# a ring of two places\nmemory 65\nring 2 at 0\n\n  bytes\t40: 0 001\r\nkept 32\nserve 5 \nanew\npiece 1")
    ≡ Ok (memory 65 ∷ ring 2 0 ∷ bytes_at 40 (0 ∷ 1 ∷ []) ∷ kept 32 ∷ serve 5 ∷ anew ∷ piece 1 ∷ [])

-- the largest number, no bytes at all, and bytes up to the end of memory
abbrev pub ExampleLimits : Type 0
ExampleLimits =
    read (codes "bytes 0:\nserve 18446744073709551615\nmemory 2\nbytes 1: 255\nbytes 2:\n")
    ≡ Ok (bytes_at 0 [] ∷ serve 18446744073709551615 ∷ memory 2 ∷ bytes_at 1 (255 ∷ []) ∷ bytes_at 2 [] ∷ [])

-- the first bad line
abbrev pub Refused : List ℕ → ℕ → Type 0
Refused text n = read text ≡ Err n

-- an unknown word, a missing number, one too many, a word that is no number, one that is too large, a byte over 255,
-- an address without its colon, bytes past the end of memory, and memory that is only made later
abbrev pub ExampleRefused : Type 0
ExampleRefused =
    Refused (codes "anew\nhalt\nhalt\n") 1 × Refused (codes "serve\n") 0 × Refused (codes "# one\nring 2 at\n") 1 × Refused (codes "anew 1") 0 × Refused (codes "piece 1 2") 0
    × Refused (codes "serve 1x") 0 × Refused (codes "serve +1") 0 × Refused (codes "serve 18446744073709551616") 0 × Refused (codes "memory 9\nbytes 0: 256") 1
    × Refused (codes "memory 9\nbytes 0 1") 1 × Refused (codes "memory 2\n\nbytes 1: 0 0\n") 2 × Refused (codes "bytes 0: 1\nmemory 9\n") 0
