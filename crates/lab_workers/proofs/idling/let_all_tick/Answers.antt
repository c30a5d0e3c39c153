use Rattle.std.proofs.Common.{◌<◌, length, get_or, refl, ◌∙◌, arith}
use Rattle.std.proofs.lemmas.List.{length-set}
use Rattle.std.proofs.lemmas.Option.{slice_get-get_or, slice_get_read}
use Rattle.lab_workers.proofs.Waiting.{at-still, begin-waiting, wait-on}
use Rattle.lab_workers.proofs.idling.let_all_tick.Goals as goal

pub loop-place-init : goal.loop-place-init
loop-place-init g c = record {
  count = c.requires.count;
  waited = begin-waiting c.args.desks.now c.args.chairs.now c.requires.count c.requires.at;
}

pub let_tick-requires : goal.let_tick-requires
let_tick-requires g c =
    let count = c.loop-place.invariant.count in
    let low = c.loop-place-test.true in
    let within : c.loop-place.place < length c.args.desks.now = omega (arith, count, low) in
    at-still c.args.desks.now c.args.chairs.now c.loop-place.chairs c.requires.at c.loop-place.invariant.waited c.loop-place.place
    c.index-desks-place.result (get_or c.loop-place.chairs c.loop-place.place c.index-chairs-place.result)
    (slice_get_read c.args.desks.now (length c.args.desks.now) c.loop-place.place c.index-desks-place.result refl within c.index-desks-place.is)
    (slice_get-get_or c.loop-place.chairs c.loop-place.place c.index-chairs-place.result low)

pub loop-place-preserved : goal.loop-place-preserved
loop-place-preserved g c = record {
  count = length-set c.loop-place.chairs c.loop-place.place c.let_tick.new.chair ∙ c.loop-place.invariant.count;
  waited =
      wait-on c.args.chairs.now c.loop-place.chairs c.loop-place.place
      (get_or c.loop-place.chairs c.loop-place.place c.index-chairs-place.result) c.let_tick.new.chair
      c.loop-place.invariant.waited
      (slice_get-get_or c.loop-place.chairs c.loop-place.place c.index-chairs-place.result c.loop-place-test.true)
      c.let_tick.ensures;
}
