use Rattle.std.proofs.Common.{◌≡◌, ◌++◌, ℕ, List, take}
use Rattle.rtio_types.specs.declared.event.Event.{Event}
use Rattle.output_merge.specs.Sieve.{holds_after}
use Rattle.output_merge.proofs.holds.Holds.hold_all.Given as goal

abbrev pub invariant-loop-i : goal.invariant-loop-i
invariant-loop-i l =
    (holds : List ℕ) (out : List (ℕ × Event)) → l.initial.self ≡ holds_after holds out → l.self ≡ holds_after holds (out ++ take l.i l.kept.items)
