use Rattle.std.proofs.Common.{◌≡◌, ◌+◌, ◌-◌, ◌≤◌, min, length, get_or, take, drop, sym, ap, ◌∙◌, arith}
use Rattle.std.proofs.lemmas.List.{at_drop_all}
use Rattle.vring.specs.Programs.{leaves, put_bytes}
use Rattle.transfer.specs.Responses.{fill_prog}
use Rattle.transfer.proofs.Fills.{fill_skip, fill_write, cut}
use Rattle.transfer.proofs.finish.fill.Goals as goal

pub loop-d-preserved : goal.loop-d-preserved
loop-d-preserved g c =
    let ds = c.descriptors-d-items.result.now in let x = c.args.response.now in let u = c.loop-d.used in let m = c.loop-d.m in
    elim c.if-is_writable.branch [
      | goal.then-is_writable w ↦
          let acts = g.M.GuestMemory.acts in
          let d = get_or ds c.loop-d.d-index (record { addr = 0; len = 0; flags = 0 }) in let n = w.min-n.result in
          let parts = cut d.len u x in
          let k : n ≡ min d.len (length x - u) = w.min-n.ensures in
          let e : (u + n) - u ≡ min d.len (length x - u) = omega arith in
          let m₁ = w.put_bytes.ensures.then ∙ ap (λ ys. leaves acts (put_bytes d.addr ys) m) (ap (λ j. take j (drop u x)) e ∙ parts.0) in
          let rest = ap (λ j. drop (u + j) x) k ∙ parts.1 in
          let b : c.if-is_writable.used ≤ length x = omega arith in (
            b,
            rw w.m-is (w.put_bytes.ensures.size ∙ c.loop-d.invariant.1),
            rw (w.used-is, w.m-is, rest) (fill_write acts ds c.loop-d.d-index _ (drop u x) m c.loop-d-test.true _ (sym c.is_writable.ensures ∙ w.if-is_writable.true) m₁ ∙ c.loop-d.invariant.2),
          )
      | goal.else-is_writable w ↦ (
        rw w.used-is c.loop-d.invariant.0,
        rw w.m-is c.loop-d.invariant.1,
        rw (w.used-is, w.m-is) (fill_skip g.M.GuestMemory.acts ds c.loop-d.d-index _ (drop u x) m c.loop-d-test.true (sym c.is_writable.ensures ∙ w.if-is_writable.false) ∙ c.loop-d.invariant.2),
      )
    ]

pub returns : goal.returns
unfolding fill_prog
returns g c =
    let e = at_drop_all (λ ds. leaves g.M.GuestMemory.acts (fill_prog ds (drop c.loop-d.used c.args.response.now)) c.loop-d.m) c.descriptors-d-items.result.now c.loop-d.d-index c.loop-d-test.false in
    record { then = sym e ∙ c.loop-d.invariant.2; size = c.loop-d.invariant.1 }
