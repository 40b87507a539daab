use Rattle.std.proofs.Common.{◌≡◌, map, length, vec_items}
use Rattle.std.specs.List.{slice_split}
use Rattle.script.specs.Format.{line_end, read}
use Rattle.script.specs.Commands.{cmd_of}
use Rattle.script.proofs.Splits.{GivesLines}
use Rattle.script.proofs.Texts.{gathered, from}
use Rattle.script.proofs.parse.parse.Given as goal

abbrev pub invariant-loop-number : goal.invariant-loop-number
invariant-loop-number l =
    record {
      lines : GivesLines (goal.iterator-loop-number).next_gives l.initial.number-iterator (slice_split line_end l.text);
      reads : gathered (map cmd_of (vec_items l.commands)) (from (slice_split line_end l.text) (length l.yielded) l.size) ≡ read l.text;
    }
