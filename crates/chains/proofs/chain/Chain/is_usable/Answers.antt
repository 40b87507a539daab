use Rattle.std.proofs.Common.{sym, ◌∙◌}
use Rattle.chains.proofs.Passes.{usable_outside, usable_writes, usable_reads, usable_late, usable_end}
use Rattle.chains.proofs.chain.Chain.is_usable.Goals as goal
use Rattle.chains.proofs.chain.Chain.is_usable.Goals.{then-is_writable, else-is_writable+else-written}

pub returns-then-not-fits : goal.returns-then-not-fits
returns-then-not-fits c =
    sym (usable_outside _ _ _ _ _ _ c.loop-d-test.true (sym c.if-not-fits.ensures)) ∙ c.loop-d.invariant

pub returns-then-written : goal.returns-then-written
returns-then-written c =
    sym (usable_late _ _ _ _ _ _ c.loop-d-test.true (sym c.if-is_writable.ensures) c.if-written.true) ∙ c.loop-d.invariant

pub loop-d-preserved : goal.loop-d-preserved
loop-d-preserved c =
    elim c.if-is_writable.branch [
      | then-is_writable w ↦ rw w.written-is (sym (usable_writes _ _ _ _ _ _ c.loop-d-test.true (sym c.if-not-fits.ensures) (sym w.if-is_writable.ensures)) ∙ c.loop-d.invariant)
      | else-is_writable+else-written w ↦ rw w.written-is (sym (usable_reads _ _ _ _ _ _ c.loop-d-test.true (sym c.if-not-fits.ensures) (sym w.if-is_writable.ensures) w.if-written.false) ∙ c.loop-d.invariant)
    ]

pub returns : goal.returns
returns c = sym (usable_end _ _ _ _ _ c.loop-d-test.false) ∙ c.loop-d.invariant
