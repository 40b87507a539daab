use Rattle.std.proofs.Common.{◌≡◌, min, take, ap, ◌∙◌, ap₂}
use Rattle.vring.specs.Programs.{leaves}
use Rattle.vring.specs.Layouts.{ring_of}
use Rattle.chains.specs.Chains.{listed}
use Rattle.transfer.specs.Responses.{capacity, finish_prog}
use Rattle.device.specs.Device.{response, kept_after}
use Rattle.model.specs.Serving.{cut}
use Rattle.serving.proofs.Turning.{cut_bytes, same_device}
use Rattle.serving.proofs.turn.complete.Goals as goal

pub returns : goal.returns
unfolding cut
returns g c =
    let acts = g.M.GuestMemory.acts in let r = ring_of c.args.layout.now in let j = c.args.job.now in let xs = c.respond-response.result.items in
    let n = c.min-n.ensures ∙ ap₂ min c.len.ensures.value c.capacity.ensures in
    let q = c.respond-response.ensures.value ∙ ap (response c.args.kept.now) c.as_slice.ensures.value in
    let sent : take c.min-n.result c.as_slice-2.result.now ≡ take (capacity (listed j.chain)) (response c.args.kept.now j.request.items) =
    ap₂ take n c.as_slice-2.ensures.value ∙ (cut_bytes (capacity (listed j.chain)) xs ∙ ap (take (capacity (listed j.chain))) q) in
    record {
      device = same_device _ _ _ _ (c.respond-response.ensures.after ∙ ap (kept_after c.args.kept.now) c.as_slice.ensures.value) c.requires.running;
      then = c.finish.ensures.then ∙ ap (λ x. leaves acts (finish_prog r c.args.progress.now.served j.head (listed j.chain) x) c.args.m.now) sent;
      size = cc;
    }
