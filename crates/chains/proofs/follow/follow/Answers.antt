use Rattle.std.proofs.Common.{length, length-append, ◌≡◌, ◌+◌, ◌-◌, sym, ap, ◌∙◌, refl, arith}
use Rattle.chains.specs.Chains.{listed}
use Rattle.chains.proofs.Steps.{bad_here, none, no_such, ends_here, goes_on}
use Rattle.chains.proofs.follow.follow.Goals as goal

pub returns-then-next-table : goal.returns-then-next-table
returns-then-next-table g c =
    let i = c.loop-taken.invariant in
    let b = bad_here g.M.GuestMemory.acts _ c.loop-taken.m (listed c.loop-taken.out) (listed c.loop-taken.out) (no_such (c.args.left - c.loop-taken._taken) c.args.table.now.at c.args.table.now.count c.loop-taken.next c.if-next-table.true) in
    record { value = i.3 _ _ b.0; then = sym b.1 ∙ i.2; size = i.1 }

pub returns : goal.returns
returns g c =
    let i = c.loop-taken.invariant in
    let b = bad_here g.M.GuestMemory.acts _ c.loop-taken.m (listed c.loop-taken.out) (listed c.loop-taken.out) (none (c.args.left - c.loop-taken._taken) c.args.table.now.at c.args.table.now.count c.loop-taken.next (omega (arith, c.loop-taken-test.false))) in
    record { value = i.3 _ _ b.0; then = sym b.1 ∙ i.2; size = i.1 }

pub returns-then-not-has_next : goal.returns-then-not-has_next
returns-then-not-has_next g c =
    let i = c.loop-taken.invariant in
    let b = ends_here g.M.GuestMemory.acts (c.args.left - c.loop-taken._taken) c.args.table.now.at c.args.table.now.count c.loop-taken.m _ c.loop-taken.next _ _ _ (omega arith) (omega arith) c.read_descriptor-d.ensures.value c.read_descriptor-d.ensures.then c.push.ensures _ refl (sym c.has_next.ensures ∙ c.if-not-has_next.true) in
    record { value = i.3 _ _ b.0; then = b.1 ∙ i.2; size = c.read_descriptor-d.ensures.size ∙ i.1 }

pub loop-taken-preserved : goal.loop-taken-preserved
loop-taken-preserved g c =
    let i = c.loop-taken.invariant in
    let f = c.args.left - c.loop-taken._taken in
    let e : c.args.left - (c.loop-taken._taken + 1) ≡ f - 1 = omega arith in
    let b = goes_on g.M.GuestMemory.acts f c.args.table.now.at c.args.table.now.count c.loop-taken.m _ c.loop-taken.next _ _ _ (omega arith) (omega arith) c.read_descriptor-d.ensures.value c.read_descriptor-d.ensures.then c.push.ensures _ _ (sym c.has_next.ensures ∙ c.if-not-has_next.false) c.number-next.ensures.value c.number-next.ensures.then in (
      ap length c.push.ensures ∙ (length-append (listed c.loop-taken.out) _ ∙ omega (arith, i.0)),
      c.number-next.ensures.size ∙ (c.read_descriptor-d.ensures.size ∙ i.1),
      rw e (b.0 ∙ i.2),
      rw e (λ r zs v. i.3 r zs (b.1 r zs v)),
    )
