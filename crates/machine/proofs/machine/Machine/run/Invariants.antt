use Rattle.std.proofs.Common.{◌≡◌, ◌++◌, map, drop, string_bytes}
use Rattle.script.specs.Commands.{cmd_of}
use Rattle.machine.specs.Bench.{bench_of}
use Rattle.machine.specs.Runs.{run}
use Rattle.machine.proofs.machine.Machine.run.Given as goal

-- what is left of the commands, from here, ends as all of them from the beginning
abbrev pub invariant-loop-command : goal.invariant-loop-command
invariant-loop-command l =
    let x = run (map cmd_of (drop l.command-index l.commands)) (bench_of l.self) in
    let y = run (map cmd_of l.commands) (bench_of l.initial.self) in
    (x.bench ≡ y.bench) × (x.stopped ≡ y.stopped) × (string_bytes l.out ++ x.output ≡ string_bytes l.initial.out ++ y.output)
