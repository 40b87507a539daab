use Rattle.std.proofs.Common.{◌≡◌, ◌+◌, ◌-◌, ◌++◌, length, get_or, drop, sym, ap, ◌∙◌, append_assoc, append-nil, min, arith}
use Rattle.std.proofs.lemmas.List.{at_drop_all}
use Rattle.vring.specs.Programs.{get_bytes, ends, leaves}
use Rattle.transfer.specs.Requests.{request_prog}
use Rattle.transfer.proofs.Gathers.{gather_skip, gather_read}
use Rattle.transfer.proofs.gather.gather.Goals as goal

pub loop-d-preserved : goal.loop-d-preserved
loop-d-preserved g c =
    let acts = g.M.GuestMemory.acts in let ds = c.descriptors-d-items.result.now in let m = c.loop-d.m in let q = c.loop-d.out.items in let i = c.loop-d.d-index in
    elim c.if-not-is_writable.branch [
      | goal.then-not-is_writable w ↦
          let d = get_or ds i (record { addr = 0; len = 0; flags = 0 }) in let k = w.min-n.result in
          let room : w.remaining_capacity.result ≡ 19 - length q = omega (arith, w.remaining_capacity.ensures) in
          let b = gather_read acts ds i _ (19 - length q) m c.loop-d-test.true w.take_bytes.new.m k (sym c.is_writable.ensures ∙ w.if-not-is_writable.true) (w.min-n.ensures ∙ ap (min d.len) room) w.take_bytes.ensures.then in
          let e : 19 - length w.take_bytes.new.out.items ≡ 19 - length q - k = omega (arith, w.take_bytes.ensures.long) in
          let p = request_prog (19 - length q - k) (drop (i + 1) ds) in
          rw (w.out-is, w.m-is) (rw e (
            w.take_bytes.ensures.size ∙ c.loop-d.invariant.0,
            ap (λ l. l ++ ends acts p w.take_bytes.new.m) w.take_bytes.ensures.value ∙ (append_assoc q (ends acts (get_bytes k d.addr) m) (ends acts p w.take_bytes.new.m) ∙ (ap (λ l. q ++ l) (sym b.0) ∙ c.loop-d.invariant.1)),
            sym b.1 ∙ c.loop-d.invariant.2,
            omega (arith, room, w.min-n.ensures, w.take_bytes.ensures.long, c.loop-d.invariant.3),
          ))
      | goal.else-not-is_writable w ↦
          let b = gather_skip acts ds i _ (19 - length q) m c.loop-d-test.true (sym c.is_writable.ensures ∙ w.if-not-is_writable.false) in
          rw (w.out-is, w.m-is) (c.loop-d.invariant.0, ap (λ l. q ++ l) (sym b.0) ∙ c.loop-d.invariant.1, sym b.1 ∙ c.loop-d.invariant.2, c.loop-d.invariant.3)
    ]

pub returns : goal.returns
unfolding request_prog
returns g c =
    let acts = g.M.GuestMemory.acts in let ds = c.descriptors-d-items.result.now in let n = 19 - length c.loop-d.out.items in
    let e = at_drop_all (λ qs. ends acts (request_prog n qs) c.loop-d.m) ds c.loop-d.d-index c.loop-d-test.false in
    let l = at_drop_all (λ qs. leaves acts (request_prog n qs) c.loop-d.m) ds c.loop-d.d-index c.loop-d-test.false in
    record { value = sym (append-nil c.loop-d.out.items) ∙ (ap (λ x. c.loop-d.out.items ++ x) (sym e) ∙ c.loop-d.invariant.1); then = sym l ∙ c.loop-d.invariant.2; few = c.loop-d.invariant.3; size = c.loop-d.invariant.0 }
