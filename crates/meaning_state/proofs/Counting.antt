-- One edge more is counted.
use Rattle.std.proofs.Common.{◌≡◌, ℕ, suc, false, refl, ap, ◌∙◌}
use Rattle.std.specs.Prelude.{ℤ, pos, ◌+ℤ◌}
use Rattle.std.specs.Int.{int_wrap, w32}
use Rattle.rtio_types.specs.declared.request.Reply.{Reply}
use Rattle.rtio_types.specs.declared.request.Reply.TheVariants as R
use Rattle.rtio_types.specs.declared.request.Request.{Request}
use Rattle.timeline_sem.specs.Actions.{Action, Completion, State, normal, go_on, request}
use Rattle.timeline_sem.specs.Timeline.{count_edges, on_edge}
use Rattle.meaning_state.specs.Edges.{is_no_edge}

-- a reply that is no end goes on
goes_on : (n : ℤ) (again : ℤ → Action ℤ) (reply : Reply) → is_no_edge reply ≡ false → on_edge n again reply ≡ again (int_wrap w32 (n +ℤ pos 1))
goes_on n again R.NoEdge is = cc
goes_on n again R.Done is = refl
goes_on n again R.Underflow is = refl
goes_on n again (R.Time x) is = refl
goes_on n again (R.Stamp x) is = refl
goes_on n again R.Overflow is = refl
goes_on n again (R.Trace recording) is = refl
goes_on n again (R.Handle handle) is = refl
goes_on n again R.NoTrace is = refl
goes_on n again R.OldHandle is = refl
goes_on n again R.Full is = refl

-- what is counted from an edge on
pub counted : (whole : Completion ℤ) (less : ℕ) (q : Request) (n : ℤ) (s after : State) (reply : Reply) → is_no_edge reply ≡ false → request q s ≡ normal reply after → whole ≡ count_edges (suc less) q n s → whole ≡ count_edges less q (int_wrap w32 (n +ℤ pos 1)) after
counted whole less q n s after reply is found so =
    so
    ∙ ap (λ completion. go_on completion (λ reply. on_edge n (count_edges less q) reply)) found
    ∙ ap (λ action. action after) (goes_on n (count_edges less q) reply is)
