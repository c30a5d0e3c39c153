use Rattle.std.proofs.Common.{ap, sym, subst, ◌∙◌}
use Rattle.std.specs.Prelude.{⊤}
use Rattle.slack_meaning.specs.Actions as A
use Rattle.slack_meaning.specs.Answers.{at_hand, counted}
use Rattle.slack_meaning.specs.Timeline.{delay, play_events}
use Rattle.slack_state.specs.Does.{DoesAlways}
use Rattle.slack_state.specs.Meters.{metered}
use Rattle.slack_state.specs.contracts.state.State.{the_view}
use Rattle.slack_state.proofs.Metered.{counted-so, plays-some}
use Rattle.slack_state.proofs.state.State.play.Goals as goal

pub returns-in-Err : goal.returns-in-Err
returns-in-Err c =
    let old : A.State = the_view c.self.inside in
    let taken = c.in_ok-take_unit.ensures.does ∙ ap (λ (s : A.State). A.normal tt s) (sym c.self.view_is) in
    let there = sym (c.in-Some.ensures ∙ ap (λ xs. at_hand xs c.args.name.now) c.deref.ensures.value) in
    let answered = counted-so old (metered old c.answer.new.self) (c.answer.ensures.does old) in
    let events = ap (λ (r : A.SpanRecording). r.events) (sym c.recording.view_is) ∙ sym c.as_slice.ensures.value in
    let j = c.in-Err.ensures.does old in
    plays-some c.args.self.now old c.args.name.now c.in-Some.recording.now _ taken there (ap (λ es. play_events es old.cursor (counted old old.limit)) events ∙ ap (λ (s : A.State). play_events c.as_slice.result.now old.cursor s) answered ∙ j)

pub returns-in-Ok : goal.returns-in-Ok
returns-in-Ok c =
    let old : A.State = the_view c.self.inside in
    let taken = c.in_ok-take_unit.ensures.does ∙ ap (λ (s : A.State). A.normal tt s) (sym c.self.view_is) in
    let there = sym (c.in-Some.ensures ∙ ap (λ xs. at_hand xs c.args.name.now) c.deref.ensures.value) in
    let answered = counted-so old (metered old c.answer.new.self) (c.answer.ensures.does old) in
    let events = ap (λ (r : A.SpanRecording). r.events) (sym c.recording.view_is) ∙ sym c.as_slice.ensures.value in
    let j = c.in-Ok.ensures.does old in
    let whole = plays-some c.args.self.now old c.args.name.now c.in-Some.recording.now _ taken there (ap (λ es. play_events es old.cursor (counted old old.limit)) events ∙ ap (λ (s : A.State). play_events c.as_slice.result.now old.cursor s) answered ∙ j) in
    let left : A.State = metered old c.play_events-played.new.self in
    let length = ap (λ (r : A.SpanRecording). delay r.length left) (sym c.recording.view_is) in
    subst (λ (d : A.Completion ⊤). DoesAlways c.delay.result c.delay.new.self d) (sym (whole ∙ length)) c.delay.ensures
