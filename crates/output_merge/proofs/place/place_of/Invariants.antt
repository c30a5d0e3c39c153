use Rattle.std.proofs.Common.{◌≡◌, ◌++◌, drop, take}
use Rattle.sed_lanes.specs.Sorting.{inserted}
use Rattle.output_merge.specs.Places.{stands_before}
use Rattle.output_merge.proofs.place.place_of.Given as goal

abbrev pub invariant-loop-at : goal.invariant-loop-at
invariant-loop-at l =
    take l.at l.into.items ++ inserted (stands_before l.order) l.pair (drop l.at l.into.items)
    ≡ take l.from l.into.items ++ inserted (stands_before l.order) l.pair (drop l.from l.into.items)
