-- What a script means: a text is a list of bytes, and says a list of commands.
use Rattle.std.specs.Prelude.{ℕ, ◌+◌, ◌-◌, ◌*◌, ◌^◌, Bool, cond, ◌&&◌, ◌||◌, List, [], ◌∷◌, length, take, Some, None, Ok, Err, codes, Option, Result, ◌==◌, nat_le, nat_lt, slice_index}
use Rattle.std.specs.Option.{option_map}
use Rattle.std.specs.Str.{all_ascii_digits, bytes_eq}

-- ## Commands

-- what a script may ask for
pub data Cmd : Type 0 where
  -- a memory of n bytes, all 0
  memory : (n : ℕ) → Cmd
  -- the ring has so many places and begins there
  ring : (size base : ℕ) → Cmd
  -- the guest writes bytes from a place on
  bytes_at : (at : ℕ) (bytes : List ℕ) → Cmd
  -- the device keeps n bytes: 0, 1, 2 and on, modulo 256
  kept : (n : ℕ) → Cmd
  -- up to n servings
  serve : (n : ℕ) → Cmd
  -- the device is reset
  anew : Cmd
  -- the part of memory that descriptor n names
  piece : (n : ℕ) → Cmd

-- ## Lines and words

-- a byte before the first part
abbrev pub onto : ℕ → List (List ℕ) → List (List ℕ)
onto b [] = (b ∷ []) ∷ []
onto b (w ∷ ws) = (b ∷ w) ∷ ws

-- the parts of a text, each up to a byte that ends it, the last perhaps up to the end of the text
abbrev pub split : (ends : ℕ → Bool) → List ℕ → List (List ℕ)
split ends [] = []
split ends (b ∷ bs) = cond (ends b) ([] ∷ split ends bs) (onto b (split ends bs))

-- a line ends at a line feed
abbrev pub line_end : ℕ → Bool
line_end b = b == 10

-- a blank is a space, a tab or a carriage return
abbrev pub blank : ℕ → Bool
blank b = b == 32 || (b == 9 || b == 13)

-- the lines of a text
abbrev pub lines : List ℕ → List (List ℕ)
lines text = split line_end text

-- the parts that are not empty
abbrev pub solid : List (List ℕ) → List (List ℕ)
solid [] = []
solid ([] ∷ ws) = solid ws
solid ((b ∷ w) ∷ ws) = (b ∷ w) ∷ solid ws

-- the words of a line
abbrev pub words : List ℕ → List (List ℕ)
words line = solid (split blank line)

-- ## Numbers

-- the number that digits write after the number so far
abbrev pub value : ℕ → List ℕ → ℕ
value n [] = n
value n (d ∷ ds) = value (10 * n + (d - 48)) ds

-- a word is a number if it is made of digits, one at least, and its value is below 2^64
abbrev pub number : List ℕ → Option ℕ
number [] = None
number (d ∷ ds) = cond (all_ascii_digits (d ∷ ds) && nat_lt (value 0 (d ∷ ds)) (2 ^ 64)) (Some (value 0 (d ∷ ds))) None

-- one number and nothing else
abbrev pub only : List (List ℕ) → Option ℕ
only [] = None
only (w ∷ []) = number w
only (w ∷ v ∷ ws) = None

-- both of two values
abbrev pub both : {A B : Type 0} → Option A → Option B → Option (A × B)
both None b = None
both (Some x) None = None
both (Some x) (Some y) = Some (x, y)

-- a number, the word "at", and one number more
abbrev pub number_at : List (List ℕ) → Option (ℕ × ℕ)
number_at [] = None
number_at (n ∷ []) = None
number_at (n ∷ w ∷ ws) = cond (bytes_eq w (codes "at")) (both (number n) (only ws)) None

-- ## Bytes

-- a number up to 255
abbrev pub small : Option ℕ → Option ℕ
small None = None
small (Some n) = cond (nat_le n 255) (Some n) None

-- a word is a byte if it is a number up to 255
abbrev pub byte : List ℕ → Option ℕ
byte w = small (number w)

-- a value before a list
abbrev pub before : {A : Type 0} → Option A → Option (List A) → Option (List A)
before None xs = None
before (Some x) None = None
before (Some x) (Some xs) = Some (x ∷ xs)

-- words that are all bytes
abbrev pub row : List (List ℕ) → Option (List ℕ)
row [] = Some []
row (w ∷ ws) = before (byte w) (row ws)

-- a word is an address if it is a number with a colon behind it
abbrev pub address : List ℕ → Option ℕ
address w = cond (slice_index w (length w - 1) == 58) (number (take (length w - 1) w)) None

-- ## The command of a line

-- nothing follows
abbrev pub alone : Cmd → List (List ℕ) → Option Cmd
alone c [] = Some c
alone c (w ∷ ws) = None

-- bytes that lie in a memory of so many bytes
abbrev pub laid : (size : ℕ) → Option (ℕ × List ℕ) → Option Cmd
laid size None = None
laid size (Some (a, bs)) = cond (nat_le (a + length bs) size) (Some (bytes_at a bs)) None

-- an address, and bytes that lie in the memory from there on
abbrev pub bytes_in : (size : ℕ) → List (List ℕ) → Option Cmd
bytes_in size [] = None
bytes_in size (w ∷ ws) = laid size (both (address w) (row ws))

-- the command that a word and the words behind it say, in a memory of so many bytes
abbrev pub command : (size : ℕ) → (word : List ℕ) → (more : List (List ℕ)) → Option Cmd
command size w ws =
    cond (bytes_eq w (codes "memory")) (option_map memory (only ws))
    (cond (bytes_eq w (codes "ring")) (option_map (λ p. ring p.0 p.1) (number_at ws))
    (cond (bytes_eq w (codes "bytes")) (bytes_in size ws)
    (cond (bytes_eq w (codes "kept")) (option_map kept (only ws))
    (cond (bytes_eq w (codes "serve")) (option_map serve (only ws))
    (cond (bytes_eq w (codes "anew")) (alone anew ws)
    (cond (bytes_eq w (codes "piece")) (option_map piece (only ws))
    None))))))

-- ## Lines

-- a line says nothing, or a command, or cannot be read
pub data Line : Type 0 where
  skipped : Line
  says : Cmd → Line
  unreadable : Line

-- a command that was found, or none
abbrev pub said : Option Cmd → Line
said None = unreadable
said (Some c) = says c

-- what words say: none, or the first of them with a # in front, say nothing
abbrev pub meaning : (size : ℕ) → List (List ℕ) → Line
meaning size [] = skipped
meaning size (w ∷ ws) = cond (slice_index w 0 == 35) skipped (said (command size w ws))

-- what a line says, in a memory of so many bytes
abbrev pub line : (size : ℕ) → List ℕ → Line
line size text = meaning size (words text)

-- ## Texts

-- how many bytes memory has after a command
abbrev pub size_after : (size : ℕ) → Cmd → ℕ
size_after size (memory n) = n
size_after size (ring places base) = size
size_after size (bytes_at at bytes) = size
size_after size (kept n) = size
size_after size (serve n) = size
size_after size anew = size
size_after size (piece n) = size

-- a command before the others
abbrev pub first : Cmd → Result (List Cmd) ℕ → Result (List Cmd) ℕ
first c (Ok cs) = Ok (c ∷ cs)
first c (Err n) = Err n

-- what line n says, and then the lines behind it, which depend on how many bytes memory has
abbrev pub go_on : Line → (size n : ℕ) → (others : ℕ → Result (List Cmd) ℕ) → Result (List Cmd) ℕ
go_on skipped size n others = others size
go_on (says c) size n others = first c (others (size_after size c))
go_on unreadable size n others = Err n

-- the commands of the lines from line n on, or the number of the first line that cannot be read
abbrev pub read_lines : (size n : ℕ) → List (List ℕ) → Result (List Cmd) ℕ
read_lines size n [] = Ok []
read_lines size n (l ∷ ls) = go_on (line size l) size n (λ s. read_lines s (n + 1) ls)

-- the commands of a text, or the number of its first line that cannot be read: lines count from 0, and memory has no bytes at first
abbrev pub read : List ℕ → Result (List Cmd) ℕ
read text = read_lines 0 0 (lines text)
