use Rattle.std.proofs.Common.{refl}
use Rattle.rtio_core.proofs.Made.{played-new}
use Rattle.rtio_core.proofs.outputs.Outputs.new.Goals as goal

pub returns : goal.returns
returns c =
    played-new c.args.holds.now c.args.lanes c.args.depth _ c.requires.lanes.0 c.requires.lanes.1 c.requires.depth.0 c.in_ok-new.ensures.empty c.new-3.ensures c.new-2.ensures c.new-4.ensures.items c.new-4.ensures.len
    (c.in_ok-peaks.ensures.items_if_clones_equal (λ y h. h)) refl refl refl c.in_ok-heads.ensures c.in_ok-kept.ensures c.in_ok-collided.ensures c.in_ok-busy.ensures
