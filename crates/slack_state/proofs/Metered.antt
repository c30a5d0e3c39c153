-- What a meter does is what a state with it does.
use Rattle.std.proofs.Common.{◌≡◌, ℕ, suc, ◌+◌, ◌<◌, sym, ◌∙◌, arith, List, length, get_or, drop, drop-cons, refl, ap, true, false, Some, None, if◌then◌else◌, Option}
use Rattle.std.specs.Prelude.{Result, Ok, Err, ◌&&◌, not, nat_le, is_some, option_map, ⊤}
use Rattle.kern_syntax.specs.Tree.{Bytes}
use Rattle.slack_meaning.specs.declared.span.Span.{Span}
use Rattle.slack_meaning.specs.declared.span.SpanEvent.{SpanEvent}
use Rattle.slack_meaning.specs.Actions.{SpanRecording, State, Completion, normal, early, Action, go_on, take_unit}
use Rattle.slack_meaning.specs.Answers.{answered, at_hand, counted, erase, erase_of, fetch, fetch_of, is_known, remembering, save, with_recording}
use Rattle.slack_meaning.specs.Spans.{is_near, is_number, span_sum}
use Rattle.slack_meaning.specs.Timeline.{delay, moved, play, play_event, play_events}
use Rattle.slack_state.specs.declared.early.Reason.{Reason}
use Rattle.slack_state.specs.Does.{DoesAlways}
use Rattle.slack_state.specs.Meters.{MeterDoes}
use Rattle.slack_state.proofs.Near.{near_some}

-- what a meter does, the state does
pub always : {B : Type 0} (r : Result B Reason) (before left : State) (c : Completion B) → MeterDoes r before left c → DoesAlways r left c
always (Ok b) before left c h = h
always (Err reason) before left c h = h.0

-- a moment is moved by a span that doesn't reach too far
pub moved-span : (m t span : Span) (s : State) → (is_number m && is_number t) ≡ false → (if is_near (span_sum m t) then Some (span_sum m t) else None) ≡ Some span → moved m t s ≡ normal span s
moved-span m t span s isnt found = rw isnt (near_some (span_sum m t) span s found)

-- the state that a part leaves
state_in : {B : Type 0} → Completion B → State
state_in (normal b s) = s
state_in (early reason s) = s

-- a meter that answered a request counts it
pub counted-so : (s left : State) → answered s ≡ normal tt left → counted s s.limit ≡ left
unfolding state_in
counted-so s left h = ap state_in h

-- so does one that saved a recording or erased one
pub remembered-so : (s : State) (saved : List (Bytes × Option SpanRecording)) (name : Bytes) (new : Option SpanRecording) (left : State) → saved ≡ with_recording s.saved name new → answered (record s { saved = saved }) ≡ normal tt left → remembering s name new ≡ left
remembered-so s saved name new left is told =
    ap (λ (xs : List (Bytes × Option SpanRecording)). record (counted s s.limit) { saved = xs }) (sym is) ∙ counted-so (record s { saved = saved }) left told

-- a recording is saved where there is room for its name
pub saves-so : (s : State) (name : Bytes) (f : SpanRecording) (left : State) → (nat_le 1000 (length s.saved) && not (is_known s.saved name)) ≡ false → remembering s name (Some f) ≡ left → save name f s ≡ normal tt left
saves-so s name f left room is = rw room (ap (λ (x : State). normal tt x) is)

-- one that is at hand is erased
pub erases-so : (s : State) (name : Bytes) (o : Option SpanRecording) (left : State) → at_hand s.saved name ≡ o → is_some o ≡ true → remembering s name None ≡ left → erase name s ≡ normal tt left
erases-so s name None left is there same = absurd (cc)
erases-so s name (Some f) left is there same = ap (λ (o : Option SpanRecording). erase_of o name s) is ∙ ap (λ (x : State). normal tt x) same

-- what is there by reference is there
pub mapped-some : {A B : Type 0} (f : A → B) (o : Option A) → is_some (option_map f o) ≡ is_some o
mapped-some f None = refl
mapped-some f (Some a) = refl

-- one event more of a recording was submitted
pub played-more : (events : List SpanEvent) (i : ℕ) (d : SpanEvent) (time : Span) (s s' : State) → i < length events → play_event (get_or events i d) time s ≡ normal tt s' → play_events (drop i events) time s ≡ play_events (drop (i + 1) events) time s'
played-more events i d time s s' within done =
    let next : suc i ≡ i + 1 = omega arith in
    ap (λ (es : List SpanEvent). play_events es time s) (drop-cons events i d within)
    ∙ ap (λ (c : Completion ⊤). go_on c (λ x. play_events (drop (suc i) events) time)) done
    ∙ ap (λ (n : ℕ). play_events (drop n events) time s') next

-- what a recording that was fetched does
abbrev played : SpanRecording → Action ⊤
played recording s = go_on (play_events recording.events s.cursor s) (λ x. delay recording.length)

-- a playback whose unit is taken, of a name that is at hand
pub plays-some : (s s' : State) (name : Bytes) (f : SpanRecording) (c : Completion ⊤) → take_unit s ≡ normal tt s' → at_hand s'.saved name ≡ Some f → play_events f.events s'.cursor (counted s' s'.limit) ≡ c → play name s ≡ go_on c (λ x. delay f.length)
plays-some s s' name f c taken there events =
    ap (λ (d : Completion ⊤). go_on d (λ x left. go_on (fetch name left) played)) taken
    ∙ ap (λ (o : Option SpanRecording). go_on (fetch_of o s') played) there
    ∙ ap (λ (d : Completion ⊤). go_on d (λ x. delay f.length)) events
