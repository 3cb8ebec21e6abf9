-- The samples that are counted are the block's.
use mathlib.Core.Path.{refl, sym, ap, subst, ◌∙◌}
use native.Mathlib.Omega.{arith}
use lib.IntN.{pos}
use lib.ListN.{length, replicate}
use Rattle.std.proofs.lemmas.List.{length-take-le}
use Rattle.block.proofs.Laws.{samples_length}
use Rattle.meter.specs.Calls.{handed_by, block_call}
use Rattle.meter.specs.Inner.{Ready}
use Rattle.meter.proofs.Blocks.{few, read}
use Rattle.meter.proofs.Meter.block.Goals as goal

pub slice_bounds-after-end : goal.slice_bounds-after-end
slice_bounds-after-end c = sym (length-take-le _ c.decode.new.samples (omega (arith, few c.in-Ok.ensures.sound, c.decode.auto.samples)))

pub after-requires : goal.after-requires
after-requires c =
    let r = read c.in-Ok.ensures.sound c.decode.new.samples (replicate 248 (pos 0)) refl c.decode.ensures in
    subst (Ready c.args.self c.in-Ok.rate) (sym (ap length r ∙ samples_length c.args.bytes.now)) c.in-Ok.ensures.ready

pub returns-in-Ok : goal.returns-in-Ok
unfolding handed_by block_call
returns-in-Ok c =
    rw (c.after.ensures, read c.in-Ok.ensures.sound c.decode.new.samples (replicate 248 (pos 0)) refl c.decode.ensures, sym c.in-Ok.ensures.accepted)
