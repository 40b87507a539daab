-- What reading a text gives.
use Rattle.std.specs.Prelude.{◌≡◌, ℕ, List, map, Some, None, Ok, Err, vec_items, Option, Result, Vec}
use Rattle.script.specs.declared.command.Command.{Command}
use Rattle.script.specs.declared.fault.Fault.{Fault}
use Rattle.script.specs.declared.fault.Fault.TheVariants.{Line, NoMemory}
use Rattle.script.specs.declared.line_error.LineError.{LineError}
use Rattle.script.specs.declared.line_error.LineError.TheVariants.{Unreadable, NoMemory as NoRoom}
use Rattle.script.specs.Format.{Line as What, skipped, says, unreadable, read}
use Rattle.script.specs.Commands.{cmd_of}

-- the value that words say, seen by `view`, or none; without memory nothing is said of the words
abbrev pub Reads : {A B : Type 0} (view : A → B) → Result A LineError → Option B → Type 0
Reads view (Ok x) said = Some (view x) ≡ said
Reads view (Err Unreadable) said = None ≡ said
Reads view (Err NoRoom) said = Unit {0}

-- what a line says; without memory nothing is said of the line
abbrev pub LineRead : Result (Option Command) LineError → What → Type 0
LineRead (Ok None) what = skipped ≡ what
LineRead (Ok (Some c)) what = says (cmd_of c) ≡ what
LineRead (Err Unreadable) what = unreadable ≡ what
LineRead (Err NoRoom) what = Unit {0}

-- the fault of a text whose line n is not taken
abbrev pub fault_at : ℕ → LineError → Fault
fault_at n Unreadable = Line n
fault_at n NoRoom = NoMemory

-- what line n says; without memory nothing is said of the line
abbrev pub ReadAt : ℕ → Result (Option Command) Fault → What → Type 0
ReadAt n (Ok None) what = skipped ≡ what
ReadAt n (Ok (Some c)) what = says (cmd_of c) ≡ what
ReadAt n (Err (Line k)) what = (k ≡ n) × (unreadable ≡ what)
ReadAt n (Err NoMemory) what = Unit {0}

-- the commands that the text says, or the first line that cannot be read; without memory nothing is said of the text
abbrev pub Parsed : {H : Type 0} → (text : List ℕ) → Result (Vec Command H) Fault → Type 0
Parsed text (Ok cs) = read text ≡ Ok (map cmd_of (vec_items cs))
Parsed text (Err (Line n)) = read text ≡ Err n
Parsed text (Err NoMemory) = Unit {0}
