use Rattle.std.proofs.Common.{◌≡◌, cond, ◌∙◌, rules}
use Rattle.std.specs.List.{sum_by}
use Rattle.chains.specs.Chains.{listed}
use Rattle.chains.specs.Descriptors.{writable}
use Rattle.transfer.proofs.Fills.{capacity_sum}
use Rattle.transfer.proofs.finish.capacity.Goals as goal

pub returns : goal.returns
returns c =
    let sum : c.sum.result ≡ sum_by (λ d. cond (writable d) d.len 0) (listed c.args.chain.now) = search rules in sum ∙ capacity_sum (listed c.args.chain.now)
