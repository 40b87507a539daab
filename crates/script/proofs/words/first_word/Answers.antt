use Rattle.std.proofs.Common.{◌≡◌, not, take, drop, arith, true-eqb, false-eqb}
use Rattle.std.proofs.lemmas.List.Sums.{prefix_len-le-length}
use Rattle.script.specs.Format.{blank}
use Rattle.script.proofs.Cuts.{word_len, first_word_none, first_word_some}
use Rattle.script.proofs.words.first_word.Goals as goal

pub split_at-requires : goal.split_at-requires
split_at-requires c = omega (arith, prefix_len-le-length blank c.args.text.now)

pub split_at-requires-2 : goal.split_at-requires-2
split_at-requires-2 c = omega (arith, prefix_len-le-length (λ b. not (blank b)) c.split_at.result.1.now)

pub returns-then-is_empty : goal.returns-then-is_empty
returns-then-is_empty c =
    let t = c.split_at.result.1.now in
    let w : c.split_at-2.result.0.now ≡ take (word_len t) t = cc in
    first_word_none c.args.text.now t (cc) (rw (← w) (true-eqb _ 0 c.if-is_empty.ensures))

pub returns-else-is_empty : goal.returns-else-is_empty
returns-else-is_empty c =
    let t = c.split_at.result.1.now in
    let w : c.split_at-2.result.0.now ≡ take (word_len t) t = cc in
    let r : c.split_at-2.result.1.now ≡ drop (word_len t) t = cc in
    rw (w, r) (first_word_some c.args.text.now t (cc) (rw (← w) (false-eqb _ 0 c.if-is_empty.ensures)))
