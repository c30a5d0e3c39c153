-- What one cycle more and one step more add to the lines of a log.
use Rattle.std.proofs.Common.{◌≡◌, ◌<◌, ◌≤◌, ◌+◌, ℕ, zero, suc, true, false, List, [], ◌∷◌, ◌++◌, refl, ap, ◌∙◌, sym, subst, cond, arith, append_assoc, append-nil, add-one}
use Rattle.std.specs.Prelude.{filter, nat_le, ◌==◌}
use Rattle.std.proofs.lemmas.Bool.{eqb-true}
use Rattle.std.proofs.lemmas.Bool.Decides.{nat_tests}
use Rattle.rtio_types.specs.declared.event.Event.{Event}
use Rattle.rtio_types.specs.Time.{cycle_of}
use Rattle.rtio_log.specs.declared.LogLine.{LogLine}
use Rattle.rtio_log.specs.declared.LogKind.TheVariants as kind
use Rattle.sed_lanes.specs.Calls.{held_at}
use Rattle.sed_lanes.specs.Counters.{NeverFall}
use Rattle.sed_lanes.specs.Heads.{by_number}
use Rattle.sed_lanes.specs.Judged.{Judged, LaneStep, Submit, Clear, Submitted, Cleared, judged, lanes_after}
use Rattle.sed_lanes.specs.Lanes.{held_events}
use Rattle.sed_lanes.specs.Sorting.{sorted}
use Rattle.sed_lanes.specs.Verdict.{Verdict, Lane}
use Rattle.sed_lanes.proofs.Growing.{each-step, never-fall-front, never-fall-later}
use Rattle.sed_lanes.proofs.Histories.{judged-clear, judged-submit}
use Rattle.sed_lanes.proofs.Unplaced.{IsUnplaced}
use Rattle.output_merge.specs.Busy.{busy, is_busy}
use Rattle.output_merge.specs.Groups.{collisions, is_logged_before, keepers}
use Rattle.output_merge.specs.Live.{live}
use Rattle.output_merge.specs.Outputs.{put_out_by, up_to}
use Rattle.output_merge.proofs.Histories.{filter-within, of_cycle}
use Rattle.output_merge.proofs.LiveHeld.{held-live, held_at-live}
use Rattle.output_merge.proofs.Parts.{busy-same, collided-same, collisions-of_cycle, live-up_to-accepted, live-up_to-cleared, live-up_to-unplaced}
use Rattle.output_merge.proofs.Ticks.{busy-of_cycle, busy-of_tick}
use Rattle.rtio_core.specs.Lines.{lines_for}
use Rattle.rtio_core.specs.LogOrder.{judged_at, lines_of_cycle, lines_of_step, lines_of_steps, log_lines}

-- one step more adds its lines behind those of the others, if it is at that counter
steps-push : (counter : ℕ) (before rest : List Judged) (j : Judged) → lines_of_steps counter before (rest ++ j ∷ []) ≡ lines_of_steps counter before rest ++ lines_of_steps counter (before ++ rest) (j ∷ [])
steps-push counter before [] j = ap (λ (front : List Judged). lines_of_steps counter front (j ∷ [])) (sym (append-nil before))
steps-push counter before (i ∷ rest) j =
    let own : List LogLine = cond (judged_at i == counter) (lines_of_step before i) [] in
    ap (λ (ls : List LogLine). own ++ ls)
    (steps-push counter (before ++ i ∷ []) rest j
    ∙ ap (λ (front : List Judged). lines_of_steps counter (before ++ i ∷ []) rest ++ lines_of_steps counter front (j ∷ [])) (append_assoc before (i ∷ []) rest))
    ∙ sym (append_assoc own (lines_of_steps counter (before ++ i ∷ []) rest) (lines_of_steps counter (before ++ i ∷ rest) (j ∷ [])))

steps-own : (counter : ℕ) (old : List Judged) (j : Judged) → judged_at j ≡ counter → lines_of_steps counter [] (old ++ j ∷ []) ≡ lines_of_steps counter [] old ++ lines_of_step old j
steps-own counter old j at =
    let yes : (judged_at j == counter) ≡ true = grind (arith, nat_tests, at) in
    steps-push counter [] old j ∙ ap (λ b. lines_of_steps counter [] old ++ (cond b (lines_of_step old j) [] ++ [])) yes
    ∙ ap (λ (ls : List LogLine). lines_of_steps counter [] old ++ ls) (append-nil (lines_of_step old j))

steps-other : (counter : ℕ) (old : List Judged) (j : Judged) → (judged_at j == counter) ≡ false → lines_of_steps counter [] (old ++ j ∷ []) ≡ lines_of_steps counter [] old
steps-other counter old j differ =
    steps-push counter [] old j ∙ ap (λ b. lines_of_steps counter [] old ++ (cond b (lines_of_step old j) [] ++ [])) differ
    ∙ append-nil (lines_of_steps counter [] old)

-- nothing is asked at a later counter than the last one
steps-none : (lanes depth : ℕ) (steps : List LaneStep) (counter later : ℕ) → NeverFall 0 steps counter → counter < later → lines_of_steps later [] (judged lanes depth steps) ≡ []
steps-none lanes depth steps counter later in_time lt = each-step (λ (s : List LaneStep). NeverFall 0 s counter → None (judged lanes depth s)) (λ h. refl) more steps in_time
  where
    None : List Judged → Type 0
    None old = lines_of_steps later [] old ≡ []

    earlier : (old : List Judged) (j : Judged) → judged_at j ≤ counter → None old → None (old ++ j ∷ [])
    earlier old j le h = steps-other later old j (grind (arith, nat_tests, le, lt)) ∙ h

    more : (front : List LaneStep) (step : LaneStep) → (NeverFall 0 front counter → None (judged lanes depth front)) → NeverFall 0 (front ++ step ∷ []) counter → None (judged lanes depth (front ++ step ∷ []))
    more front (Submit at e) ih h =
        let parts = never-fall-front 0 front (Submit at e) counter h in
        subst None (sym (judged-submit lanes depth front at e))
        (earlier (judged lanes depth front) _ parts.1 (ih (never-fall-later 0 front at counter parts.0 parts.1)))
    more front (Clear at) ih h =
        let parts = never-fall-front 0 front (Clear at) counter h in
        subst None (sym (judged-clear lanes depth front at))
        (earlier (judged lanes depth front) (Cleared at) parts.1 (ih (never-fall-later 0 front at counter parts.0 parts.1)))

-- what collides and what is busy up to a counter is the same in two histories
pub record TellsSame (holds : List ℕ) (old new : List Judged) (counter : ℕ) : Type 0 where
  pub collided : up_to counter (collisions (live new)) ≡ up_to counter (collisions (live old))
  pub busy : up_to counter (busy holds (keepers (live new))) ≡ up_to counter (busy holds (keepers (live old)))

-- so it is where the live events up to it are the same
pub tells-live : (holds : List ℕ) (old new : List Judged) (counter : ℕ) → up_to counter (live new) ≡ up_to counter (live old) → TellsSame holds old new counter
tells-live holds old new counter same = record { collided = collided-same new old counter same; busy = busy-same holds new old counter same }

-- then the lines of a cycle up to it are the same
cycle-same : (holds : List ℕ) (old new : List Judged) (cycle counter : ℕ) → cycle ≤ counter → TellsSame holds old new counter → lines_of_cycle holds new cycle ≡ lines_of_cycle holds old cycle
cycle-same holds old new cycle counter le same =
    ap (λ (ls : List LogLine). ls ++ lines_for kind.Busy (of_cycle cycle (busy holds (keepers (live new)))))
    (ap (lines_for kind.Collision) (sym (within (collisions (live new))) ∙ ap (of_cycle cycle) same.collided ∙ within (collisions (live old))))
    ∙ ap (λ (ls : List LogLine). lines_for kind.Collision (of_cycle cycle (collisions (live old))) ++ ls)
    (ap (lines_for kind.Busy) (sym (within (busy holds (keepers (live new)))) ∙ ap (of_cycle cycle) same.busy ∙ within (busy holds (keepers (live old)))))
  where
    within : (events : List (ℕ × Event)) → of_cycle cycle (up_to counter events) ≡ of_cycle cycle events
    within events =
        filter-within (λ p. cycle_of p.1 == cycle) (λ p. nat_le (cycle_of p.1) counter) events
        (λ p is. let same_cycle : cycle_of p.1 ≡ cycle = eqb-true (cycle_of p.1) cycle is in grind (arith, nat_tests, same_cycle, le))

-- a step at the counter leaves the lines of the counters before it
lines-before : (holds : List ℕ) (old : List Judged) (j : Judged) (before counter : ℕ) → before < counter → judged_at j ≡ counter → TellsSame holds old (old ++ j ∷ []) counter → log_lines holds (old ++ j ∷ []) before ≡ log_lines holds old before
lines-before holds old j zero counter lt at same = steps-other 0 old j (grind (arith, nat_tests, lt, at))
lines-before holds old j (suc c) counter lt at same =
    let ih : log_lines holds (old ++ j ∷ []) c ≡ log_lines holds old c = lines-before holds old j c counter (omega (arith, lt)) at same in
    let collide : lines_of_cycle holds (old ++ j ∷ []) (suc c) ≡ lines_of_cycle holds old (suc c) = cycle-same holds old (old ++ j ∷ []) (suc c) counter (omega (arith, lt)) same in
    let asked : lines_of_steps (suc c) [] (old ++ j ∷ []) ≡ lines_of_steps (suc c) [] old = steps-other (suc c) old j (grind (arith, nat_tests, lt, at)) in
    ap (λ (ls : List LogLine). ls ++ lines_of_cycle holds (old ++ j ∷ []) (suc c) ++ lines_of_steps (suc c) [] (old ++ j ∷ [])) ih
    ∙ ap (λ (ls : List LogLine). log_lines holds old c ++ ls ++ lines_of_steps (suc c) [] (old ++ j ∷ [])) collide
    ∙ ap (λ (ls : List LogLine). log_lines holds old c ++ lines_of_cycle holds old (suc c) ++ ls) asked

-- and adds its own behind them
lines-step : (holds : List ℕ) (old : List Judged) (j : Judged) (counter : ℕ) → judged_at j ≡ counter → TellsSame holds old (old ++ j ∷ []) counter → log_lines holds (old ++ j ∷ []) counter ≡ log_lines holds old counter ++ lines_of_step old j
lines-step holds old j zero at same = steps-own 0 old j at
lines-step holds old j (suc c) at same =
    let earlier : log_lines holds (old ++ j ∷ []) c ≡ log_lines holds old c = lines-before holds old j c (suc c) (omega arith) at same in
    let collide : lines_of_cycle holds (old ++ j ∷ []) (suc c) ≡ lines_of_cycle holds old (suc c) = cycle-same holds old (old ++ j ∷ []) (suc c) (suc c) (omega arith) same in
    ap (λ (ls : List LogLine). ls ++ lines_of_cycle holds (old ++ j ∷ []) (suc c) ++ lines_of_steps (suc c) [] (old ++ j ∷ [])) earlier
    ∙ ap (λ (ls : List LogLine). log_lines holds old c ++ ls ++ lines_of_steps (suc c) [] (old ++ j ∷ [])) collide
    ∙ ap (λ (ls : List LogLine). log_lines holds old c ++ lines_of_cycle holds old (suc c) ++ ls) (steps-own (suc c) old j at)
    ∙ sym (append_assoc (log_lines holds old c ++ lines_of_cycle holds old (suc c)) (lines_of_steps (suc c) [] old) (lines_of_step old j))

-- what the lanes hold of the next cycle, as the merge keeps it and the sieve takes the busy ones out
abbrev pub busy_next : (holds : List ℕ) (lanes depth : ℕ) → List LaneStep → ℕ → List (ℕ × Event)
busy_next holds lanes depth steps counter =
    sorted is_logged_before (filter (λ p. is_busy holds (put_out_by holds (judged lanes depth steps) counter) p) (keepers (by_number (held_at (counter + 1) (lanes_after lanes depth (judged lanes depth steps) counter)))))

-- one cycle more adds the collisions of what the lanes held of it, and then those that were busy
pub lines-tick : (holds : List ℕ) (lanes depth : ℕ) (steps : List LaneStep) (counter : ℕ) → 1 ≤ lanes → NeverFall 0 steps counter → log_lines holds (judged lanes depth steps) (counter + 1) ≡ log_lines holds (judged lanes depth steps) counter ++ (lines_for kind.Collision (collisions (by_number (held_at (counter + 1) (lanes_after lanes depth (judged lanes depth steps) counter)))) ++ lines_for kind.Busy (busy_next holds lanes depth steps counter))
lines-tick holds lanes depth steps counter some in_time =
    let old : List Judged = judged lanes depth steps in
    let held : by_number (held_at (counter + 1) (lanes_after lanes depth old counter)) ≡ of_cycle (counter + 1) (live old) = held_at-live lanes depth steps counter (counter + 1) some in_time (omega arith) in
    let collide : of_cycle (counter + 1) (collisions (live old)) ≡ collisions (by_number (held_at (counter + 1) (lanes_after lanes depth old counter))) = collisions-of_cycle (counter + 1) (live old) ∙ ap collisions (sym held) in
    let occupied : of_cycle (counter + 1) (busy holds (keepers (live old))) ≡ busy_next holds lanes depth steps counter =
    busy-of_cycle holds (live old) (counter + 1) ∙ ap (sorted is_logged_before) (busy-of_tick holds lanes depth steps counter some in_time) in
    ap (log_lines holds old) (add-one counter)
    ∙ ap (λ (ls : List LogLine). log_lines holds old counter ++ lines_of_cycle holds old (suc counter) ++ ls) (steps-none lanes depth steps counter (suc counter) in_time (omega arith))
    ∙ append-nil _
    ∙ ap (λ (cycle : ℕ). log_lines holds old counter ++ lines_of_cycle holds old cycle) (sym (add-one counter))
    ∙ ap (λ (ps : List (ℕ × Event)). log_lines holds old counter ++ (lines_for kind.Collision ps ++ lines_for kind.Busy (of_cycle (counter + 1) (busy holds (keepers (live old)))))) collide
    ∙ ap (λ (ps : List (ℕ × Event)). log_lines holds old counter ++ (lines_for kind.Collision (collisions (by_number (held_at (counter + 1) (lanes_after lanes depth old counter)))) ++ lines_for kind.Busy ps)) occupied

-- an event that a lane takes adds no line
pub lines-accepted : (holds : List ℕ) (old : List Judged) (number counter : ℕ) (e : Event) (k : ℕ) → counter < cycle_of e → log_lines holds (old ++ Submitted number counter e (Lane k) ∷ []) counter ≡ log_lines holds old counter
lines-accepted holds old number counter e k later =
    lines-step holds old (Submitted number counter e (Lane k)) counter refl (tells-live holds old (old ++ Submitted number counter e (Lane k) ∷ []) counter (live-up_to-accepted old number counter e k counter later))
    ∙ append-nil (log_lines holds old counter)

-- one that no lane takes adds its own, if it has one
pub lines-unplaced : (holds : List ℕ) (old : List Judged) (number counter : ℕ) (e : Event) (v : Verdict) → IsUnplaced v → log_lines holds (old ++ Submitted number counter e v ∷ []) counter ≡ log_lines holds old counter ++ lines_of_step old (Submitted number counter e v)
lines-unplaced holds old number counter e v un =
    lines-step holds old (Submitted number counter e v) counter refl (tells-live holds old (old ++ Submitted number counter e v ∷ []) counter (live-up_to-unplaced old number counter e v counter un))

-- a clearing adds those of the events that the lanes hold
pub lines-cleared : (holds : List ℕ) (lanes depth : ℕ) (steps : List LaneStep) (counter : ℕ) → 1 ≤ lanes → NeverFall 0 steps counter → log_lines holds (judged lanes depth steps ++ Cleared counter ∷ []) counter ≡ log_lines holds (judged lanes depth steps) counter ++ lines_for kind.Cleared (by_number (held_events (lanes_after lanes depth (judged lanes depth steps) counter)))
lines-cleared holds lanes depth steps counter some in_time =
    let old : List Judged = judged lanes depth steps in
    lines-step holds old (Cleared counter) counter refl (tells-live holds old (old ++ Cleared counter ∷ []) counter (live-up_to-cleared old counter counter (omega arith)))
    ∙ ap (λ (ps : List (ℕ × Event)). log_lines holds old counter ++ lines_for kind.Cleared ps) (sym (held-live lanes depth steps counter some in_time))
