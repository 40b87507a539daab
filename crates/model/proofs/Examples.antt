-- The worked example is served, and its guest keeps to the rules.
use Rattle.std.proofs.Common.{◌≡◌, ℕ, ◌<◌, refl, arith, lit<, lit≤}
use Rattle.vring.specs.Words.{two, set_bytes}
use Rattle.vring.specs.Rings.{size_ok, ring_ok}
use Rattle.chains.specs.Descriptors.{descriptor_at, next_at}
use Rattle.chains.specs.Chains.{chain_from}
use Rattle.chains.specs.Usable.{clear, fits, usable}
use Rattle.transfer.specs.Requests.{request}
use Rattle.transfer.specs.Responses.{capacity, filled, used, finished}
use Rattle.device.specs.Device.{is_read, is_write, response, kept_after}
use Rattle.model.specs.Serving.{pending, head, chain, look_chain, offer, look, cut, done, act, serve}
use Rattle.model.specs.Example.{ExampleServed, ExampleOrderly}

pub served : ExampleServed
unfolding two set_bytes descriptor_at next_at chain_from clear fits usable request capacity filled used finished is_read is_write response kept_after pending head chain look_chain offer look cut done act serve
served = refl

pub orderly : ExampleOrderly
unfolding size_ok ring_ok descriptor_at next_at chain_from clear fits usable request pending head chain look_chain offer
orderly = (
  record { stands = refl; kept_len = lit≤ tt; count = lit< tt },
  record { running = refl; enough = lit≤ tt; not_more = lit≤ tt; offers = λ j l. rw (zero_of j l); apart = λ j k a l g w v. absurd (omega arith) },
)
  where
    zero_of : (j : ℕ) → j < 1 → j ≡ 0
    zero_of j l = omega arith
