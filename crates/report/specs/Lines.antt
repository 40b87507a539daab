-- The lines that are printed of what happened, each with its end.
use Rattle.std.specs.Prelude.{ℕ, List, ◌++◌, Some, None, codes, decimal, Option}
use Rattle.std.specs.Option.{option_map}
use Rattle.script.specs.Shown.{spaced}
use Rattle.report.specs.Stores.{name_of}
use Rattle.report.specs.declared.lines.Line.{Line}
use Rattle.report.specs.declared.lines.Line.TheVariants.{Changed, Waiting, Stopped, Anew, Piece, Refused}

-- a byte at a place was one value, and is another
abbrev pub change : (name : List ℕ) → (at before after : ℕ) → List ℕ
change name at before after = name ++ (codes " " ++ (decimal at ++ (codes ": " ++ (decimal before ++ (codes " -> " ++ (decimal after ++ codes "\n"))))))

-- so many chains wait
abbrev pub waiting : ℕ → List ℕ
waiting n = codes "waiting " ++ (decimal n ++ codes "\n")

-- the bytes that a descriptor names, if it names any
abbrev pub piece_of : (n : ℕ) → Option (List ℕ) → List ℕ
piece_of n None = codes "piece " ++ (decimal n ++ codes ": none\n")
piece_of n (Some bytes) = codes "piece " ++ (decimal n ++ (codes ":" ++ (spaced bytes ++ codes "\n")))

-- something was refused at a place
abbrev pub refused : (what at : ℕ) → List ℕ
refused what at = codes "refused " ++ (decimal what ++ (codes " at " ++ (decimal at ++ codes "\n")))

-- ## The line that a value of the code stands for
abbrev pub line_of : Line → List ℕ
line_of (Changed store at before after) = change (name_of store) at before after
line_of (Waiting n) = waiting n
line_of Stopped = codes "stopped\n"
line_of Anew = codes "anew\n"
line_of (Piece n bytes) = piece_of n (option_map (λ b. b.now) bytes)
line_of (Refused what at) = refused what at
