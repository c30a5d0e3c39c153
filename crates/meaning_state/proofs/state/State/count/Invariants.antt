use Rattle.std.proofs.Common.{◌≡◌}
use Rattle.rtio_types.specs.declared.request.Request.TheVariants as Q
use Rattle.timeline_sem.specs.Timeline.{count_all_edges, count_edges}
use Rattle.meaning_state.proofs.state.State.count.Given as goal

abbrev pub invariant-loop-left : goal.invariant-loop-left
invariant-loop-left l = count_all_edges (Q.Edge l.channel l.up_to) l.initial.self ≡ count_edges l.left (Q.Edge l.channel l.up_to) l.edges l.self

abbrev pub decreases-loop-left : goal.decreases-loop-left
decreases-loop-left l = l.left
