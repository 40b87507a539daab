use Rattle.std.proofs.Common.{rules, sym, ap, subst, ◌∙◌}
use Rattle.std.proofs.lemmas.Bool.{le-leb, lt-leb}
use Rattle.vring.specs.Rings.{Ring}
use Rattle.device.specs.Responds.{device_of}
use Rattle.model.specs.Serving.{State}
use Rattle.model.specs.Promises.{Sound}
use Rattle.serving.specs.Entries.{state_in}
use Rattle.serving.specs.Refusals.{refusal_number}
use Rattle.serving.specs.declared.done.Done.TheVariants.{Refused}
use Rattle.serving.specs.declared.refusal.Refusal.TheVariants as why
use Rattle.serving.proofs.Entering.{placed_in, not_placed, ring_refused, says_refusal, refusal_ring, refusal_state, refusal_kept, refusal_times, refusal_none, refused, not_taken, taken, sound_in, promised, serves_in}
use Rattle.serving.proofs.entries.try_serve.Goals as goal

pub returns-in_err-layout : goal.returns-in_err-layout
returns-in_err-layout c =
    let r : Ring = record { size = c.args.places; base = c.args.begins } in
    let e = refusal_ring r c.args.memory.now c.args.state.now c.args.kept.now c.args.times (not_placed _ _ _ _ _ c.new.ensures.placed c.ok_or.ensures.ok_part c.in_err-layout.was) in
    let d = says_refusal c.from_residual.result c.in_err-layout.field-0.0 c.from_residual.ensures.1 ∙ ap (λ f. Refused (refusal_number f)) (ring_refused _ _ _ c.ok_or.ensures.value c.in_err-layout.was) in
    record { does = rw d (refused r _ _ _ _ 0 e); promises = λ z. absurd (not_taken r _ _ _ _ 0 e z); ok = search rules }

pub returns-in_err-progress : goal.returns-in_err-progress
returns-in_err-progress c =
    let r : Ring = record { size = c.args.places; base = c.args.begins } in
    let p = placed_in _ _ _ _ _ c.new.ensures.placed c.ok_or.ensures.ok_part c.in_ok-layout.was in
    let e = refusal_state r c.args.memory.now c.args.state.now c.args.kept.now c.args.times p.0 c.in_err-progress.ensures in
    let d = says_refusal _ why.State c.from_residual-in_err-progress.ensures.1 in
    record { does = rw d (refused r _ _ _ _ 1 e); promises = λ z. absurd (not_taken r _ _ _ _ 1 e z); ok = search rules }

pub returns-then-kept-gt4096 : goal.returns-then-kept-gt4096
returns-then-kept-gt4096 c =
    let r : Ring = record { size = c.args.places; base = c.args.begins } in
    let p = placed_in _ _ _ _ _ c.new.ensures.placed c.ok_or.ensures.ok_part c.in_ok-layout.was in
    let e = refusal_kept r c.args.memory.now c.args.state.now c.args.kept.now c.args.times p.0 c.in_ok-progress.ensures.0 (lt-leb _ _ c.if-kept-gt4096.true) in
    record { does = refused r _ _ _ _ 2 e; promises = λ z. absurd (not_taken r _ _ _ _ 2 e z); ok = search rules }

pub returns-then-times-gt1000 : goal.returns-then-times-gt1000
returns-then-times-gt1000 c =
    let r : Ring = record { size = c.args.places; base = c.args.begins } in
    let p = placed_in _ _ _ _ _ c.new.ensures.placed c.ok_or.ensures.ok_part c.in_ok-layout.was in
    let e = refusal_times r c.args.memory.now c.args.state.now c.args.kept.now c.args.times p.0 c.in_ok-progress.ensures.0 (le-leb _ _ c.if-kept-gt4096.false) (lt-leb _ _ c.if-times-gt1000.true) in
    record { does = refused r _ _ _ _ 3 e; promises = λ z. absurd (not_taken r _ _ _ _ 3 e z); ok = search rules }

pub serve_plain-done-requires : goal.serve_plain-done-requires
serve_plain-done-requires c =
    let r : Ring = record { size = c.args.places; base = c.args.begins } in
    let p = placed_in _ _ _ _ _ c.new.ensures.placed c.ok_or.ensures.ok_part c.in_ok-layout.was in
    let h = sound_in r c.args.memory.now c.args.state.now c.args.kept.now c.args.times p.0 c.in_ok-progress.ensures.0 c.if-kept-gt4096.false in
    let f = ap {B = State} (λ d. record { memory = c.args.memory.now; device = d }) (c.in_ok-progress.ensures.1 c.args.kept.now) in
    let b₀ : State = record { memory = c.args.memory.now; device = device_of c.in_ok-progress.progress c.args.kept.now } in
    subst (λ x. Sound x b₀) (sym p.1) (subst (λ x. Sound r x) (sym f) h)

pub returns : goal.returns
returns c =
    let r : Ring = record { size = c.args.places; base = c.args.begins } in
    let b : State = state_in c.args.memory.now c.args.state.now c.args.kept.now in
    let p = placed_in _ _ _ _ _ c.new.ensures.placed c.ok_or.ensures.ok_part c.in_ok-layout.was in
    let e = refusal_none r c.args.memory.now c.args.state.now c.args.kept.now c.args.times p.0 c.in_ok-progress.ensures.0 (le-leb _ _ c.if-kept-gt4096.false) (le-leb _ _ c.if-times-gt1000.false) in
    let h = sound_in r c.args.memory.now c.args.state.now c.args.kept.now c.args.times p.0 c.in_ok-progress.ensures.0 c.if-kept-gt4096.false in
    let f = ap {B = State} (λ d. record { memory = c.args.memory.now; device = d }) (c.in_ok-progress.ensures.1 c.args.kept.now) in
    let v = serves_in r _ b _ c.args.times _ _ c.copy_from_slice.new.self _ _ p.1 f (c.copy_from_slice.ensures.after ∙ c.from.ensures c.serve_plain-done.new.kept) c.serve_plain-done.ensures in
    record { does = taken r _ _ _ _ _ _ _ _ e v; promises = λ _. promised r b c.args.times _ _ _ _ h v; ok = e }
