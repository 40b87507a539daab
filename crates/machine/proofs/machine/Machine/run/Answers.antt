use Rattle.std.proofs.Common.{Err, string_bytes, ◌∙◌, subst, append-nil, arith}
use Rattle.script.specs.Commands.{cmd_of}
use Rattle.machine.specs.Bench.{bench_of}
use Rattle.machine.specs.Steps.{step}
use Rattle.machine.specs.Runs.{Went, Steps}
use Rattle.std.proofs.lemmas.Grind.{common_steps}
use Rattle.machine.proofs.Running.{run_went, run_ended, run_end, runs_alike}
use Rattle.machine.proofs.machine.Machine.run.Goals as goal

pub returns-in-Err : goal.returns-in-Err
returns-in-Err c =
    let b = bench_of c.loop-command.self in let b₁ = bench_of c.step.new.self in let out = string_bytes c.loop-command.out in let out₁ = string_bytes c.step.new.out in
    let r = subst (λ x. Steps (Err c.in-Err.halt) (step (cmd_of x) b) b b₁ out out₁) c.command-item.is c.in-Err.ensures in
    let v = run_ended c.args.commands.now c.loop-command.command-index _ c.loop-command-test.true b c.in-Err.halt c.end.result b₁ out out₁ _ r c.end.ensures in
    runs_alike c.end.result _ _ b₁ out _ _ c.loop-command.invariant.0 c.loop-command.invariant.1 c.loop-command.invariant.2 v

pub loop-command-preserved : goal.loop-command-preserved
loop-command-preserved c =
    let b = bench_of c.loop-command.self in let b₁ = bench_of c.step.new.self in let out = string_bytes c.loop-command.out in let out₁ = string_bytes c.step.new.out in
    let w = subst (λ x. Went (step (cmd_of x) b) b₁ out out₁) c.command-item.is c.in_default.ensures in
    let a = run_went c.args.commands.now c.loop-command.command-index _ c.loop-command-test.true b b₁ out out₁ w in
    (a.bench ∙ c.loop-command.invariant.0, a.stopped ∙ c.loop-command.invariant.1, a.output ∙ c.loop-command.invariant.2)

pub returns : goal.returns
returns c =
    let out = string_bytes c.loop-command.out in
    let e = run_end c.args.commands.now c.loop-command.command-index c.loop-command-test.false (bench_of c.loop-command.self) in
    grind (arith, common_steps, e, append-nil out)
