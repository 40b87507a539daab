use Rattle.std.proofs.Common.{◌+◌, get_or, drop, sym, ◌∙◌, arith, false-eqb}
use Rattle.std.proofs.lemmas.List.{at_drop_more, at_drop_all}
use Rattle.script.proofs.Values.{after, number_is, taken, not_taken}
use Rattle.script.proofs.number.number.Goals as goal

pub returns-in_err-n : goal.returns-in_err-n
returns-in_err-n c =
    let w = c.args.word.now in
    let i = c.loop-b.b-index in
    let e = not_taken c.loop-b.n (get_or w i 0) (drop (i + 1) w) c.in_err-n.ensures in
    c.from_residual.ensures ∙ (sym e ∙ (sym (at_drop_more (after c.loop-b.n) w i 0 (omega arith)) ∙ (c.loop-b.invariant ∙ sym (number_is w (false-eqb _ 0 c.if-is_empty.ensures)))))

pub loop-b-preserved : goal.loop-b-preserved
loop-b-preserved c =
    let w = c.args.word.now in
    let i = c.loop-b.b-index in
    let e = taken c.loop-b.n (get_or w i 0) c.in_ok-n.n (drop (i + 1) w) c.in_ok-n.ensures in
    sym e ∙ (sym (at_drop_more (after c.loop-b.n) w i 0 (omega arith)) ∙ c.loop-b.invariant)

pub returns : goal.returns
returns c =
    let w = c.args.word.now in
    sym (at_drop_all (after c.loop-b.n) w c.loop-b.b-index (omega arith)) ∙ (c.loop-b.invariant ∙ sym (number_is w (false-eqb _ 0 c.if-is_empty.ensures)))
