-- Each turn gives one place more its sample, and the last turn is the smaller of the two lengths.
use Rattle.std.proofs.Common.{◌≡◌, ◌/◌, ◌<◌, ◌++◌, ℕ, [], min, length, drop, length-take, refl, ap, ◌∙◌, arith}
use Rattle.coding.specs.Samples.{signed, samples_at, decoded_into}
use Rattle.coding.proofs.Decoding.{one_more}
use Rattle.coding.proofs.Numbers.{pair_number}
use Rattle.coding.proofs.samples.decode.Goals as goal

pub loop-j-init : goal.loop-j-init
unfolding samples_at
loop-j-init c = refl

pub loop-j-preserved : goal.loop-j-preserved
loop-j-preserved c =
    let l = c.loop-j in
    let k = c.as_chunks.ensures in
    let pairs = c.as_chunks.result.0.now in
    let n = c.min-count.result in
    let within : l.j < n = omega (arith, length-take n pairs) in
    one_more c.args.bytes.now c.args.samples.now l.samples l.j _ l.invariant (omega arith)
    (c.sample.ensures ∙ ap signed (pair_number c.args.bytes.now pairs n l.j [] k.front within (omega (arith, k.front_len))))

pub returns : goal.returns
unfolding decoded_into
returns c =
    let bytes = c.args.bytes.now in
    let samples = c.args.samples.now in
    let n = c.min-count.result in
    let e : c.loop-j.j ≡ min (length bytes / 2) (length samples) = omega (arith, c.as_chunks.ensures.front_len, length-take n c.as_chunks.result.0.now) in
    c.loop-j.invariant ∙ ap (λ (k : ℕ). samples_at bytes 0 k ++ drop k samples) e
