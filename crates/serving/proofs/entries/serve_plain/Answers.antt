use Rattle.std.proofs.Common.{◌≡◌, length, sym, ap, ◌∙◌, arith, rules}
use Rattle.vring.specs.Words.{word}
use Rattle.vring.specs.Rings.{available_at}
use Rattle.vring.specs.Layouts.{ring_of}
use Rattle.vring.proofs.Stores.{lent_holds, lent_ends}
use Rattle.device.specs.Device.{Device}
use Rattle.device.specs.Responds.{device_of}
use Rattle.model.specs.Serving.{State, serve_times}
use Rattle.model.proofs.Serves.{ring_stands, stays_sound}
use Rattle.serving.specs.declared.done.Done.TheVariants.{Served}
use Rattle.serving.specs.Turns.{run_prog}
use Rattle.device.specs.States.{numbers_of}
use Rattle.serving.proofs.Alone.{runs_alone}
use Rattle.serving.proofs.Entering.{answer_stopped, answer_served, waits_by}
use Rattle.serving.proofs.entries.serve_plain.Goals as goal

pub run-requires : goal.run-requires
run-requires c = (ring_stands _ _ c.requires).within

pub number-requires : goal.number-requires
number-requires c = let st = ring_stands _ _ c.requires in omega (arith, st.some, st.within, c.run.ensures.size)

pub returns-then-progress : goal.returns-then-progress
returns-then-progress c =
    let r = ring_of c.args.layout.now in
    let b : State = record { memory = c.args.memory.now; device = device_of c.args.progress.now c.args.kept.now } in
    let p = run_prog c.args.times r (length c.args.memory.now) b.device in
    let alone = runs_alone c.args.times r b c.requires in
    let held = lent_holds p _ _ c.run.ensures.then in
    let left = held.1 ∙ alone.1 in
    let x = serve_times c.args.times r b in
    let d : device_of c.run.new.progress c.run.new.kept ≡ x.device = sym c.run.ensures.value ∙ (lent_ends p _ ∙ alone.0) in
    record {
      result = sym (answer_stopped r x (sym (ap (λ (y : Device). y.stopped) d) ∙ c.if-progress.true));
      memory = search (rules, held.0, left);
      state = ap numbers_of d;
      kept = ap (λ (y : Device). y.kept) d;
    }

pub returns : goal.returns
returns c =
    let r = ring_of c.args.layout.now in
    let b : State = record { memory = c.args.memory.now; device = device_of c.args.progress.now c.args.kept.now } in
    let p = run_prog c.args.times r (length c.args.memory.now) b.device in
    let alone = runs_alone c.args.times r b c.requires in
    let held = lent_holds p _ _ c.run.ensures.then in
    let left = held.1 ∙ alone.1 in
    let x = serve_times c.args.times r b in
    let d : device_of c.run.new.progress c.run.new.kept ≡ x.device = sym c.run.ensures.value ∙ (lent_ends p _ ∙ alone.0) in
    let n : c.number.result ≡ word x.memory (available_at r) = c.number.ensures.value ∙ (ap (λ a. word c.run.new.m.bytes.now a) c.available_at.ensures ∙ ap (λ m. word m (available_at r)) left) in
    let w = waits_by r x c.number.result c.run.new.progress.served n (ap (λ (y : Device). y.served) d) (stays_sound r b c.args.times c.requires).count in
    record {
      result = ap Served w ∙ sym (answer_served r x (sym (ap (λ (y : Device). y.stopped) d) ∙ c.if-progress.false));
      memory = search (rules, held.0, left);
      state = ap numbers_of d;
      kept = ap (λ (y : Device). y.kept) d;
    }
