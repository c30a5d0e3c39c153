use Rattle.std.proofs.Common.{ap, sym, ◌∙◌, w64, Some, None, if◌then◌else◌}
use Rattle.std.proofs.lemmas.Int.{to_z-of_z}
use Rattle.slack_meaning.specs.Spans.{is_near, span_less}
use Rattle.slack_state.proofs.Near.{near_some}
use Rattle.slack_steps.proofs.operating.span_less.Goals as goal

pub returns-in-Some : goal.returns-in-Some
returns-in-Some c =
    near_some (span_less c.args.a c.args.number) c.in-Some.span c.args.state.now
    (sym (ap (λ n. if is_near (span_less c.args.a n) then Some (span_less c.args.a n) else None) (to_z-of_z w64 c.args.number c.ranges.number)) ∙ sym c.less.ensures ∙ c.in-Some.is)
