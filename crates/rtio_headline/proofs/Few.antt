-- A core tells no more than it was asked.
use Rattle.std.proofs.Common.{◌≡◌, ◌+◌, ◌*◌, ◌≤◌, ℕ, suc, Bool, true, false, List, [], ◌∷◌, ◌++◌, refl, ap, ◌∙◌, cond, arith, length, length-append}
use Rattle.std.specs.Prelude.{Option, Some, None, filter, map, nat_le}
use Rattle.std.specs.List.{list_any}
use Rattle.std.proofs.lemmas.List.{length-map}
use Rattle.rtio_types.specs.declared.event.Event.{Event}
use Rattle.rtio_types.specs.Time.{cycle_of}
use Rattle.rtio_log.specs.declared.LogKind.{LogKind}
use Rattle.rtio_log.specs.declared.LogKind.TheVariants as kind
use Rattle.rtio_log.specs.declared.LogLine.{LogLine}
use Rattle.rtio_log.specs.Kinds.{is_kind, lines_of}
use Rattle.sed_lanes.specs.Judged.{Cleared, Judged, LaneStep, Clear, Submit, Submitted, judged}
use Rattle.sed_lanes.specs.Verdict.{Lane, Sequence, Undecided, Underflow}
use Rattle.sed_lanes.proofs.Histories.{judged-clear, judged-submit}
use Rattle.output_merge.specs.Busy.{busy, busy_behind, is_busy, put_out, put_out_behind}
use Rattle.output_merge.specs.Groups.{collisions, is_logged_before, keepers}
use Rattle.output_merge.specs.Live.{cleared, clears, live, out_of_sequence}
use Rattle.output_merge.specs.Outputs.{put_out_by, up_to}
use Rattle.output_merge.proofs.Ticks.{length-kept, length-sorted}
use Rattle.rtio_core.specs.declared.data.Entry.{Entry}
use Rattle.rtio_core.specs.Core.{CoreState}
use Rattle.rtio_core.specs.Entries.{judged_history, lane_step, lane_steps}
use Rattle.rtio_core.specs.Reply.{outputs_at}
use Rattle.rtio_core.specs.Told.{TellsLog, log_at}
use Rattle.rtio_headline.proofs.Submitting.{from-front}

-- a filter keeps no more than there are
filter-few : (test : ℕ × Event → Bool) (xs : List (ℕ × Event)) → length (filter test xs) ≤ length xs
filter-few test [] = omega arith
filter-few test (x ∷ xs) = by (test x) (filter-few test xs)
  where
    by : (b : Bool) → length (filter test xs) ≤ length xs → length (cond b (x ∷ filter test xs) (filter test xs)) ≤ suc (length xs)
    by true ih = omega (arith, ih)
    by false ih = omega (arith, ih)

-- ---- what became of the lanes' history

live-few : (judged : List Judged) → length (live judged) ≤ length judged
live-few [] = omega arith
live-few (Submitted n at e (Lane k) ∷ rest) = by (list_any (clears (cycle_of e)) rest) (live-few rest)
  where
    by : (b : Bool) → length (live rest) ≤ length rest → length (cond b (live rest) ((n, e) ∷ live rest)) ≤ suc (length rest)
    by true ih = omega (arith, ih)
    by false ih = omega (arith, ih)
live-few (Submitted n at e Underflow ∷ rest) = let ih = live-few rest in omega (arith, ih)
live-few (Submitted n at e Sequence ∷ rest) = let ih = live-few rest in omega (arith, ih)
live-few (Submitted n at e Undecided ∷ rest) = let ih = live-few rest in omega (arith, ih)
live-few (Cleared at ∷ rest) = let ih = live-few rest in omega (arith, ih)

cleared-few : (judged : List Judged) → length (cleared judged) ≤ length judged
cleared-few [] = omega arith
cleared-few (Submitted n at e (Lane k) ∷ rest) = by (list_any (clears (cycle_of e)) rest) (cleared-few rest)
  where
    by : (b : Bool) → length (cleared rest) ≤ length rest → length (cond b ((n, e) ∷ cleared rest) (cleared rest)) ≤ suc (length rest)
    by true ih = omega (arith, ih)
    by false ih = omega (arith, ih)
cleared-few (Submitted n at e Underflow ∷ rest) = let ih = cleared-few rest in omega (arith, ih)
cleared-few (Submitted n at e Sequence ∷ rest) = let ih = cleared-few rest in omega (arith, ih)
cleared-few (Submitted n at e Undecided ∷ rest) = let ih = cleared-few rest in omega (arith, ih)
cleared-few (Cleared at ∷ rest) = let ih = cleared-few rest in omega (arith, ih)

sequence-few : (judged : List Judged) → length (out_of_sequence judged) ≤ length judged
sequence-few [] = omega arith
sequence-few (Submitted n at e (Lane k) ∷ rest) = let ih = sequence-few rest in omega (arith, ih)
sequence-few (Submitted n at e Underflow ∷ rest) = let ih = sequence-few rest in omega (arith, ih)
sequence-few (Submitted n at e Sequence ∷ rest) = let ih = sequence-few rest in omega (arith, ih)
sequence-few (Submitted n at e Undecided ∷ rest) = let ih = sequence-few rest in omega (arith, ih)
sequence-few (Cleared at ∷ rest) = let ih = sequence-few rest in omega (arith, ih)

put_out-few : (holds : List ℕ) (out xs : List (ℕ × Event)) → length (put_out_behind holds out xs) ≤ length xs
put_out-few holds out [] = omega arith
put_out-few holds out (x ∷ xs) = by (is_busy holds out x) (put_out-few holds out xs) (put_out-few holds (out ++ x ∷ []) xs)
  where
    by : (b : Bool) → length (put_out_behind holds out xs) ≤ length xs → length (put_out_behind holds (out ++ x ∷ []) xs) ≤ length xs
        → length (cond b (put_out_behind holds out xs) (x ∷ put_out_behind holds (out ++ x ∷ []) xs)) ≤ suc (length xs)
    by true held free = omega (arith, held)
    by false held free = omega (arith, free)

busy-few : (holds : List ℕ) (out xs : List (ℕ × Event)) → length (busy_behind holds out xs) ≤ length xs
busy-few holds out [] = omega arith
busy-few holds out (x ∷ xs) = by (is_busy holds out x) (busy-few holds out xs) (busy-few holds (out ++ x ∷ []) xs)
  where
    by : (b : Bool) → length (busy_behind holds out xs) ≤ length xs → length (busy_behind holds (out ++ x ∷ []) xs) ≤ length xs
        → length (cond b (x ∷ busy_behind holds out xs) (busy_behind holds (out ++ x ∷ []) xs)) ≤ suc (length xs)
    by true held free = omega (arith, held)
    by false held free = omega (arith, free)

-- ---- the history

judged-few : (lanes depth : ℕ) (steps : List LaneStep) → length (judged lanes depth steps) ≡ length steps
judged-few lanes depth steps = from-front (λ (s : List LaneStep). length (judged lanes depth s) ≡ length s) more [] steps refl
  where
    one-more : (old : List Judged) (j : Judged) (new : List Judged) (front : List LaneStep) (step : LaneStep) → length old ≡ length front → new ≡ old ++ j ∷ [] → length new ≡ length (front ++ step ∷ [])
    one-more old j new front step same is =
        let a : length new ≡ length old + 1 = ap length is ∙ length-append old (j ∷ []) in
        let b : length (front ++ step ∷ []) ≡ length front + 1 = length-append front (step ∷ []) in
        omega (arith, a, b, same)

    more : (front : List LaneStep) (step : LaneStep) → length (judged lanes depth front) ≡ length front → length (judged lanes depth (front ++ step ∷ [])) ≡ length (front ++ step ∷ [])
    more front (Submit at e) same = one-more (judged lanes depth front) _ _ front (Submit at e) same (judged-submit lanes depth front at e)
    more front (Clear at) same = one-more (judged lanes depth front) _ _ front (Clear at) same (judged-clear lanes depth front at)

steps-few : (history : List Entry) → length (lane_steps history) ≤ length history
steps-few [] = omega arith
steps-few (entry ∷ rest) = by (lane_step entry.act) refl (steps-few rest)
  where
    by : (step : Option LaneStep) → lane_step entry.act ≡ step → length (lane_steps rest) ≤ length rest → length (lane_steps (entry ∷ rest)) ≤ length (entry ∷ rest)
    by None is ih = rw is (omega (arith, ih))
    by (Some s) is ih = rw is (omega (arith, ih))

history-few : (core : CoreState) → length (judged_history core.config core.history) ≤ length core.history
history-few core =
    let same = judged-few core.config.lanes core.config.depth (lane_steps core.history) in
    let few = steps-few core.history in
    omega (arith, same, few)

-- the trace has no more events than the history has entries
pub trace-few : (core : CoreState) → length (outputs_at core.config core.history core.counter) ≤ length core.history
trace-few core =
    let judged : List Judged = judged_history core.config core.history in
    let alive : List (ℕ × Event) = live judged in
    let plain : length (outputs_at core.config core.history core.counter) ≡ length (put_out_by core.config.holds judged core.counter) = length-map (put_out_by core.config.holds judged core.counter) (λ p. p.1) in
    let reached = filter-few (λ p. nat_le (cycle_of p.1) core.counter) (put_out core.config.holds (keepers alive)) in
    let out = put_out-few core.config.holds [] (keepers alive) in
    let kept = length-kept alive in
    let some = live-few judged in
    let all = history-few core in
    omega (arith, plain, reached, out, kept, some, all)

-- ---- the log

-- each line is of one of the four kinds
of-kinds : (lines : List LogLine)
    → length lines ≡ length (lines_of kind.Sequence lines) + length (lines_of kind.Collision lines) + length (lines_of kind.Busy lines) + length (lines_of kind.Cleared lines)
of-kinds [] = refl
of-kinds (line ∷ lines) = by line.kind (of-kinds lines)
  where
    one : LogKind → LogKind → List (ℕ × Event)
    one kind of =
        let rest : List LogLine = filter (λ (l : LogLine). is_kind kind l.kind) lines in map (λ (l : LogLine). (l.number, l.event)) (cond (is_kind kind of) (line ∷ rest) rest)

    by : (of : LogKind) → length lines ≡ length (lines_of kind.Sequence lines) + length (lines_of kind.Collision lines) + length (lines_of kind.Busy lines) + length (lines_of kind.Cleared lines)
        → suc (length lines) ≡ length (one kind.Sequence of) + length (one kind.Collision of) + length (one kind.Busy of) + length (one kind.Cleared of)
    by kind.Sequence ih = omega (arith, ih)
    by kind.Collision ih = omega (arith, ih)
    by kind.Busy ih = omega (arith, ih)
    by kind.Cleared ih = omega (arith, ih)

-- none of them has more lines than the history has entries
pub log-few : (core : CoreState) (lines : List LogLine) → TellsLog (log_at core.config core.history core.counter) lines → length lines ≤ 4 * length core.history
log-few core lines tells =
    let judged : List Judged = judged_history core.config core.history in
    let alive : List (ℕ × Event) = live judged in
    let all = history-few core in
    let some = live-few judged in
    let kept = length-kept alive in
    let sequence : length (lines_of kind.Sequence lines) ≡ length (out_of_sequence judged) = ap length tells.sequence in
    let collided : length (lines_of kind.Collision lines) ≡ length (up_to core.counter (collisions alive)) = ap length tells.collided in
    let held : length (lines_of kind.Busy lines) ≡ length (up_to core.counter (busy core.config.holds (keepers alive))) = ap length tells.busy in
    let gone : length (lines_of kind.Cleared lines) ≡ length (cleared judged) = ap length tells.cleared in
    let each = of-kinds lines in
    let a = sequence-few judged in
    let b = filter-few (λ p. nat_le (cycle_of p.1) core.counter) (collisions alive) in
    let c = filter-few (λ p. nat_le (cycle_of p.1) core.counter) (busy core.config.holds (keepers alive)) in
    let d : length (busy core.config.holds (keepers alive)) ≡ length (busy_behind core.config.holds [] (keepers alive)) = length-sorted is_logged_before (busy_behind core.config.holds [] (keepers alive)) in
    let e = busy-few core.config.holds [] (keepers alive) in
    let f = cleared-few judged in
    omega (arith, all, some, kept, sequence, collided, held, gone, each, a, b, c, d, e, f)
