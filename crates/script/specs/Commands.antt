-- What the code's commands stand for.
use Rattle.std.specs.Prelude.{vec_items}
use Rattle.script.specs.declared.command.Command.{Command}
use Rattle.script.specs.declared.command.Command.TheVariants.{Memory, Ring, Bytes, Kept, Serve, Anew, Piece}
use Rattle.script.specs.Format.{Cmd, memory, ring, bytes_at, kept, serve, anew, piece}

-- the command that a value of the code stands for
abbrev pub cmd_of : Command → Cmd
cmd_of (Memory n) = memory n
cmd_of (Ring size base) = ring size base
cmd_of (Bytes at bytes) = bytes_at at (vec_items bytes)
cmd_of (Kept n) = kept n
cmd_of (Serve n) = serve n
cmd_of Anew = anew
cmd_of (Piece n) = piece n
