use Rattle.std.proofs.Common.{◌≡◌, Err, vec_items, sym, ◌∙◌, rules, tests}
use Rattle.std.proofs.lemmas.Iterator.Consumers.{YieldsList-at, YieldsList-from_enumerate}
use Rattle.std.proofs.lemmas.Iterator.Splits.{YieldsList-from_slice_split}
use Rattle.std.proofs.lemmas.List.{length_push, map_push}
use Rattle.script.specs.Format.{line, line_end, skipped, says}
use Rattle.script.specs.Commands.{cmd_of}
use Rattle.script.proofs.Bounds.{reads_sound}
use Rattle.script.proofs.Splits.{next_line, no_line_left}
use Rattle.script.proofs.Texts.{gathered_none, read_parts, line_skipped, line_said, line_refused, lines_end}
use Rattle.script.proofs.parse.parse.Goals as goal

pub loop-number-init : goal.loop-number-init
loop-number-init c = record {
  lines =
      YieldsList-at c.into_iter-number-iterator.ensures.into_iter_gives
      (YieldsList-from_enumerate (YieldsList-at c.enumerate-number-items.ensures.source
      (YieldsList-from_slice_split _ line_end c.args.text.now c.split.ensures.rest c.split.ensures.done c.split.ensures.closure (λ x b q k. search (rules, tests))))
      c.enumerate-number-items.ensures.count);
  reads = rw c.new-commands.ensures.items (gathered_none _ ∙ read_parts c.args.text.now);
}

pub loop-number-preserved-in_default : goal.loop-number-preserved-in_default
loop-number-preserved-in_default c =
    let inv = c.loop-number.invariant in
    let i = next_line _ inv.lines c.loop-number.yielded _ c.loop-number.yielded_by _ _ c.next.ensures.steps c.in-Some.number c.in-Some.line c.in-Some.is in
    let s : skipped ≡ line c.loop-number.size c.in-Some.line.now = rw c.in_default.is at c.in_ok-command.ensures in
    record { lines = inv.lines; reads = rw (length_push c.loop-number.yielded (c.in-Some.number, c.in-Some.line)) (sym (line_skipped i _ _ s) ∙ inv.reads) }

pub loop-number-preserved : goal.loop-number-preserved
loop-number-preserved c =
    let inv = c.loop-number.invariant in
    let i = next_line _ inv.lines c.loop-number.yielded _ c.loop-number.yielded_by _ _ c.next.ensures.steps c.in-Some.number c.in-Some.line c.in-Some.is in
    let d = c.in-Some-2.command in
    let s : says (cmd_of d) ≡ line c.loop-number.size c.in-Some.line.now = rw c.in-Some-2.is at c.in_ok-command.ensures in
    record {
      lines = inv.lines;
      reads =
          rw (length_push c.loop-number.yielded (c.in-Some.number, c.in-Some.line), c.in_ok-push.ensures.items, map_push cmd_of (vec_items c.loop-number.commands) d, c.size_after-size.ensures)
          (sym (line_said i _ _ (cmd_of d) s) ∙ inv.reads);
    }

pub returns-in_err-command-clause-read : goal.returns-in_err-command-clause-read
returns-in_err-command-clause-read c =
    let inv = c.loop-number.invariant in
    let i = next_line _ inv.lines c.loop-number.yielded _ c.loop-number.yielded_by _ _ c.next.ensures.steps c.in-Some.number c.in-Some.line c.in-Some.is in
    let r : c.from_residual.result ≡ Err c.in_err-command.field-0.0 = search rules in
    rw r (line_refused i _ _ c.args.text.now _ c.in_err-command.ensures inv.reads)

pub returns : goal.returns
returns c =
    let inv = c.loop-number.invariant in
    let k = no_line_left _ inv.lines c.loop-number.yielded _ c.loop-number.yielded_by _ _ c.next.ensures.steps c.in-None.is in
    let e = sym inv.reads ∙ lines_end _ _ _ _ k in
    record { read = e; sound = reads_sound c.args.text.now _ e }
