use Rattle.std.proofs.Common.{◌≡◌, ◌+◌, ◌-◌, [], ◌∷◌, ◌++◌, sym, ap, ◌∙◌, append_assoc, append-nil, length-append, arith}
use Rattle.vring.specs.Programs.{get_bytes, ends, leaves}
use Rattle.transfer.proofs.Gathers.{byte_more}
use Rattle.transfer.proofs.gather.take_bytes.Goals as goal

pub loop-address-preserved : goal.loop-address-preserved
loop-address-preserved g c =
    let acts = g.M.GuestMemory.acts in let a = c.loop-address.address in let n = c.args.at + c.args.n - a in
    let b = byte_more acts n a c.byte-byte.result c.loop-address.m c.byte-byte.new.self (omega arith) c.byte-byte.ensures.value c.byte-byte.ensures.then in
    let e : c.args.at + c.args.n - (a + 1) ≡ n - 1 = omega arith in
    let xs = c.loop-address.out.items in let ys = ends acts (get_bytes (n - 1) (a + 1)) c.byte-byte.new.self in
    let i = c.loop-address.invariant in (
      c.byte-byte.ensures.size ∙ i.0,
      rw (c.push.ensures.items) (rw length-append (omega (arith, i.1))),
      rw e (ap (λ l. l ++ ys) c.push.ensures.items ∙ (append_assoc xs (c.byte-byte.result ∷ []) ys ∙ (ap (λ l. xs ++ l) (sym b.0) ∙ i.2))),
      rw e (sym b.1 ∙ i.3),
    )

pub returns : goal.returns
unfolding get_bytes
returns g c =
    let i = c.loop-address.invariant in
    let z : c.args.at + c.args.n - c.loop-address.address ≡ 0 = omega (arith, c.loop-address-test.false) in
    let p = get_bytes (c.args.at + c.args.n - c.loop-address.address) c.loop-address.address in
    record {
      value = sym (append-nil _) ∙ (ap (λ k. c.loop-address.out.items ++ ends g.M.GuestMemory.acts (get_bytes k c.loop-address.address) c.loop-address.m) (sym z) ∙ i.2);
      long = omega (arith, i.1, c.loop-address-test.false, c.loop-address.auto.address-end);
      then = ap (λ k. leaves g.M.GuestMemory.acts (get_bytes k c.loop-address.address) c.loop-address.m) (sym z) ∙ i.3;
      size = i.0;
    }
