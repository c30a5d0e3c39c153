-- The outputs that came out, and the others.
use Rattle.std.proofs.Common.{◌≡◌, ◌+◌, List, length, filter, refl}
use Rattle.std.proofs.lemmas.List.Filters.{length-filter_both}
use Rattle.trace_report.specs.declared.outputs.Placed.{Placed}
use Rattle.trace_report.specs.Trace.{came_out, was_lost}

pub both_counted : (outputs : List Placed) → length (filter came_out outputs) + length (filter was_lost outputs) ≡ length outputs
both_counted outputs = length-filter_both came_out was_lost (λ p. refl) outputs
