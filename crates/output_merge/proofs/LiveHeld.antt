-- The live events of later cycles are those that the lanes hold, and a clearing takes just these.
use Rattle.std.proofs.Common.{◌≡◌, ◌<◌, ◌≤◌, ◌+◌, ℕ, Bool, true, false, List, [], ◌∷◌, ◌++◌, refl, ap, ◌∙◌, sym, subst, cond, arith}
use Rattle.std.specs.Prelude.{filter, nat_eq, nat_le, nat_lt, ◌==◌, ◌||◌}
use Rattle.std.specs.List.{IsDistinct, list_any}
use Rattle.std.specs.Map.{keys_of}
use Rattle.std.proofs.lemmas.Bool.{eqb-true}
use Rattle.std.proofs.lemmas.Bool.Decides.{nat_tests}
use Rattle.std.proofs.lemmas.List.Elements.{filter-append}
use Rattle.rtio_types.specs.declared.event.Event.{Event}
use Rattle.rtio_types.specs.Time.{cycle_of}
use Rattle.sed_lanes.specs.Accepted.{accepted_since_clearing}
use Rattle.sed_lanes.specs.Calls.{held_at}
use Rattle.sed_lanes.specs.Counters.{NeverFall}
use Rattle.sed_lanes.specs.Heads.{by_number, is_earlier}
use Rattle.sed_lanes.specs.Judged.{Judged, LaneStep, Submit, Clear, Submitted, Cleared, judged, lanes_after, next_number}
use Rattle.sed_lanes.specs.Lanes.{held_events}
use Rattle.sed_lanes.specs.Verdict.{Verdict, Underflow, Lane, Sequence, Undecided, verdict}
use Rattle.sed_lanes.proofs.Growing.{each-judged, each-step, never-fall-front, never-fall-later}
use Rattle.sed_lanes.proofs.HeldByNumber.{AreInTurn, after, held-by_number, held_at-by_number, in-turn-later, in-turn-push}
use Rattle.sed_lanes.proofs.Histories.{judged-clear, judged-submit}
use Rattle.sed_lanes.proofs.InOrder.{AreNumbersBelow, rising-distinct, rising-part}
use Rattle.sed_lanes.proofs.Numbers.{next-number-cleared, next-number-submitted}
use Rattle.sed_lanes.proofs.Since.{accepted-since-cleared, accepted-since-taken, accepted-since-unplaced}
use Rattle.sed_lanes.proofs.Unplaced.{IsUnplaced}
use Rattle.output_merge.specs.Live.{cleared, clears, live}
use Rattle.output_merge.specs.Outputs.{up_to}
use Rattle.output_merge.proofs.Histories.{any-clears-cleared, filter-within, live-accepted, live-cleared, of_cycle}
use Rattle.output_merge.proofs.Steps.{live-unplaced}

numbers-part : (number : ℕ) (test : ℕ × Event → Bool) (events : List (ℕ × Event)) → AreNumbersBelow number events → AreNumbersBelow number (filter test events)
numbers-part number test [] below = tt
numbers-part number test (p ∷ rest) below = part (test p) refl (numbers-part number test rest below.1)
  where
    part : (b : Bool) → test p ≡ b → AreNumbersBelow number (filter test rest) → AreNumbersBelow number (filter test (p ∷ rest))
    part true is ih = rw is (below.0, ih)
    part false is ih = rw is ih

-- the live events come by number, below the next one
pub live-in-turn : (lanes depth : ℕ) (steps : List LaneStep) → AreInTurn (live (judged lanes depth steps)) (next_number (judged lanes depth steps))
live-in-turn lanes depth steps =
    each-judged lanes depth (λ (j : List Judged). AreInTurn (live j) (next_number j)) (record { rise = tt; below = tt })
    (λ old at e h. submitted old at e (verdict (lanes_after lanes depth old at) e at) h)
    (λ old at h. subst (λ (ps : List (ℕ × Event)). AreInTurn ps (next_number (old ++ Cleared at ∷ []))) (sym (live-cleared old at))
    (subst (AreInTurn (up_to at (live old))) (sym (next-number-cleared old at))
    (record { rise = rising-part is_earlier _ _ h.rise; below = numbers-part (next_number old) (λ p. nat_le (cycle_of p.1) at) (live old) h.below }))) steps
  where
    submitted : (old : List Judged) (at : ℕ) (e : Event) (v : Verdict) → AreInTurn (live old) (next_number old) → AreInTurn (live (old ++ Submitted (next_number old) at e v ∷ [])) (next_number (old ++ Submitted (next_number old) at e v ∷ []))
    submitted old at e v h = subst (AreInTurn (live (old ++ Submitted (next_number old) at e v ∷ []))) (sym (next-number-submitted old (next_number old) at e v)) (by-verdict v)
      where
        same : (w : Verdict) → IsUnplaced w → AreInTurn (live (old ++ Submitted (next_number old) at e w ∷ [])) (next_number old + 1)
        same w un =
            subst (λ (ps : List (ℕ × Event)). AreInTurn ps (next_number old + 1)) (sym (live-unplaced old (next_number old) at e w un))
            (in-turn-later (live old) (next_number old) h)

        by-verdict : (w : Verdict) → AreInTurn (live (old ++ Submitted (next_number old) at e w ∷ [])) (next_number old + 1)
        by-verdict Underflow = same Underflow tt
        by-verdict (Lane k) =
            subst (λ (ps : List (ℕ × Event)). AreInTurn ps (next_number old + 1)) (sym (live-accepted old (next_number old) at e k))
            (in-turn-push (live old) (next_number old) e h)
        by-verdict Sequence = same Sequence tt
        by-verdict Undecided = same Undecided tt

-- no two of them have one number
pub live-numbers-distinct : (lanes depth : ℕ) (steps : List LaneStep) → IsDistinct nat_eq (keys_of (live (judged lanes depth steps)))
live-numbers-distinct lanes depth steps = rising-distinct (live (judged lanes depth steps)) (live-in-turn lanes depth steps).rise

none-after : (counter at : ℕ) (events : List (ℕ × Event)) → at ≤ counter → after counter (up_to at events) ≡ []
none-after counter at [] le = refl
none-after counter at (p ∷ rest) le = part (nat_le (cycle_of p.1) at) refl (none-after counter at rest le)
  where
    part : (b : Bool) → nat_le (cycle_of p.1) at ≡ b → after counter (up_to at rest) ≡ [] → after counter (up_to at (p ∷ rest)) ≡ []
    part true is ih =
        let no : nat_lt counter (cycle_of p.1) ≡ false = grind (arith, nat_tests, is, le) in
        rw (is, no) ih
    part false is ih = rw is ih

-- the live events of later cycles than the last counter are those accepted since the last clearing
pub live-since : (lanes depth : ℕ) (steps : List LaneStep) (counter : ℕ) → NeverFall 0 steps counter → after counter (live (judged lanes depth steps)) ≡ after counter (accepted_since_clearing (judged lanes depth steps))
live-since lanes depth steps counter in_time = each-step (λ (s : List LaneStep). NeverFall 0 s counter → Same (judged lanes depth s)) (λ h. refl) more steps in_time
  where
    Same : List Judged → Type 0
    Same j = after counter (live j) ≡ after counter (accepted_since_clearing j)

    both-push : (live_then accepted_then : List (ℕ × Event)) (p : ℕ × Event) → after counter live_then ≡ after counter accepted_then → after counter (live_then ++ p ∷ []) ≡ after counter (accepted_then ++ p ∷ [])
    both-push xs ys p h =
        filter-append (λ q. nat_lt counter (cycle_of q.1)) xs (p ∷ [])
        ∙ ap (λ (ps : List (ℕ × Event)). ps ++ filter (λ q. nat_lt counter (cycle_of q.1)) (p ∷ [])) h
        ∙ sym (filter-append (λ q. nat_lt counter (cycle_of q.1)) ys (p ∷ []))

    unplaced : (old : List Judged) (number at : ℕ) (e : Event) (v : Verdict) → IsUnplaced v → Same old → Same (old ++ Submitted number at e v ∷ [])
    unplaced old number at e v un h =
        ap (after counter) (live-unplaced old number at e v un) ∙ h ∙ sym (ap (after counter) (accepted-since-unplaced old number at e v un))

    submitted : (old : List Judged) (number at : ℕ) (e : Event) (v : Verdict) → Same old → Same (old ++ Submitted number at e v ∷ [])
    submitted old number at e Underflow h = unplaced old number at e Underflow tt h
    submitted old number at e (Lane k) h =
        ap (after counter) (live-accepted old number at e k) ∙ both-push (live old) (accepted_since_clearing old) (number, e) h
        ∙ sym (ap (after counter) (accepted-since-taken old number at e k))
    submitted old number at e Sequence h = unplaced old number at e Sequence tt h
    submitted old number at e Undecided h = unplaced old number at e Undecided tt h

    more : (front : List LaneStep) (step : LaneStep) → (NeverFall 0 front counter → Same (judged lanes depth front)) → NeverFall 0 (front ++ step ∷ []) counter → Same (judged lanes depth (front ++ step ∷ []))
    more front (Submit at e) ih h =
        let parts = never-fall-front 0 front (Submit at e) counter h in
        subst Same (sym (judged-submit lanes depth front at e))
        (submitted (judged lanes depth front) _ at e _ (ih (never-fall-later 0 front at counter parts.0 parts.1)))
    more front (Clear at) ih h =
        let parts = never-fall-front 0 front (Clear at) counter h in
        subst Same (sym (judged-clear lanes depth front at))
        (ap (after counter) (live-cleared (judged lanes depth front) at) ∙ none-after counter at (live (judged lanes depth front)) parts.1
        ∙ sym (ap (after counter) (accepted-since-cleared (judged lanes depth front) at)))

-- by number, what the lanes hold at the counter are the live events of later cycles
pub held-live : (lanes depth : ℕ) (steps : List LaneStep) (counter : ℕ) → 1 ≤ lanes → NeverFall 0 steps counter → by_number (held_events (lanes_after lanes depth (judged lanes depth steps) counter)) ≡ after counter (live (judged lanes depth steps))
held-live lanes depth steps counter some in_time =
    held-by_number lanes depth steps counter some ∙ sym (live-since lanes depth steps counter in_time)

-- and what they hold of a later cycle are the live events of that cycle
pub held_at-live : (lanes depth : ℕ) (steps : List LaneStep) (counter cycle : ℕ) → 1 ≤ lanes → NeverFall 0 steps counter → counter < cycle → by_number (held_at cycle (lanes_after lanes depth (judged lanes depth steps) counter)) ≡ of_cycle cycle (live (judged lanes depth steps))
held_at-live lanes depth steps counter cycle some in_time later =
    held_at-by_number lanes depth steps counter cycle some
    ∙ ap (filter (λ p. cycle_of p.1 == cycle)) (sym (live-since lanes depth steps counter in_time))
    ∙ filter-within (λ p. cycle_of p.1 == cycle) (λ p. nat_lt counter (cycle_of p.1)) (live (judged lanes depth steps))
    (λ p is. let same : cycle_of p.1 ≡ cycle = eqb-true (cycle_of p.1) cycle is in grind (arith, nat_tests, same, later))

-- each clearing was at a counter of at most this one
abbrev pub AreClearedUpTo : ℕ → List Judged → Type 0
AreClearedUpTo counter [] = Unit {0}
AreClearedUpTo counter (Submitted number at e v ∷ rest) = AreClearedUpTo counter rest
AreClearedUpTo counter (Cleared at ∷ rest) = (at ≤ counter) × AreClearedUpTo counter rest

cleared-up-to : (lanes depth : ℕ) (steps : List LaneStep) (counter : ℕ) → NeverFall 0 steps counter → AreClearedUpTo counter (judged lanes depth steps)
cleared-up-to lanes depth steps counter in_time = each-step (λ (s : List LaneStep). NeverFall 0 s counter → AreClearedUpTo counter (judged lanes depth s)) (λ h. tt) more steps in_time
  where
    with-submitted : (old : List Judged) (number at : ℕ) (e : Event) (v : Verdict) → AreClearedUpTo counter old → AreClearedUpTo counter (old ++ Submitted number at e v ∷ [])
    with-submitted [] number at e v h = tt
    with-submitted (Submitted m at' e' v' ∷ rest) number at e v h = with-submitted rest number at e v h
    with-submitted (Cleared at' ∷ rest) number at e v h = (h.0, with-submitted rest number at e v h.1)

    with-cleared : (old : List Judged) (at : ℕ) → at ≤ counter → AreClearedUpTo counter old → AreClearedUpTo counter (old ++ Cleared at ∷ [])
    with-cleared [] at le h = (le, tt)
    with-cleared (Submitted m at' e' v' ∷ rest) at le h = with-cleared rest at le h
    with-cleared (Cleared at' ∷ rest) at le h = (h.0, with-cleared rest at le h.1)

    more : (front : List LaneStep) (step : LaneStep) → (NeverFall 0 front counter → AreClearedUpTo counter (judged lanes depth front)) → NeverFall 0 (front ++ step ∷ []) counter → AreClearedUpTo counter (judged lanes depth (front ++ step ∷ []))
    more front (Submit at e) ih h =
        let parts = never-fall-front 0 front (Submit at e) counter h in
        subst (AreClearedUpTo counter) (sym (judged-submit lanes depth front at e))
        (with-submitted (judged lanes depth front) _ at e _ (ih (never-fall-later 0 front at counter parts.0 parts.1)))
    more front (Clear at) ih h =
        let parts = never-fall-front 0 front (Clear at) counter h in
        subst (AreClearedUpTo counter) (sym (judged-clear lanes depth front at))
        (with-cleared (judged lanes depth front) at parts.1 (ih (never-fall-later 0 front at counter parts.0 parts.1)))

-- where none of the clearings took an event of a later cycle, there was none
no-clearing : (counter cycle : ℕ) (rest : List Judged) → counter < cycle → AreClearedUpTo counter rest → list_any (clears cycle) rest ≡ false → cleared rest ≡ []
no-clearing counter cycle [] later up none = refl
no-clearing counter cycle (Submitted m at e (Lane j) ∷ rest) later up none =
    let no : list_any (clears (cycle_of e)) rest ≡ false = clears-nothing rest up none in
    rw no (no-clearing counter cycle rest later up none)
  where
    or-false : (a b : Bool) → (a || b) ≡ false → (a ≡ false) × (b ≡ false)
    or-false false b h = (refl, h)
    or-false true b h = absurd (cc)

    clears-nothing : (more : List Judged) → AreClearedUpTo counter more → list_any (clears cycle) more ≡ false → list_any (clears (cycle_of e)) more ≡ false
    clears-nothing [] there h = refl
    clears-nothing (Submitted m' at' e' v' ∷ more) there h = clears-nothing more there h
    clears-nothing (Cleared at' ∷ more) there h =
        let parts = or-false (nat_lt at' cycle) (list_any (clears cycle) more) h in
        let le = there.0 in
        absurd (let not_before : nat_lt at' cycle ≡ false = parts.0 in let no : cycle ≤ at' = grind (arith, nat_tests, not_before) in omega (arith, no, le, later))
no-clearing counter cycle (Submitted m at e Underflow ∷ rest) later up none = no-clearing counter cycle rest later up none
no-clearing counter cycle (Submitted m at e Sequence ∷ rest) later up none = no-clearing counter cycle rest later up none
no-clearing counter cycle (Submitted m at e Undecided ∷ rest) later up none = no-clearing counter cycle rest later up none
no-clearing counter cycle (Cleared at ∷ rest) later up none =
    let le = up.0 in
    absurd (let not_before : nat_lt at cycle ≡ false = left-false (nat_lt at cycle) (list_any (clears cycle) rest) none in let no : cycle ≤ at = grind (arith, nat_tests, not_before) in omega (arith, no, le, later))
  where
    left-false : (a b : Bool) → (a || b) ≡ false → a ≡ false
    left-false false b h = refl
    left-false true b h = absurd (cc)

-- a clearing at a counter takes the live events of later cycles, which stand behind all that were cleared before
cleared-more : (judged : List Judged) (at : ℕ) → AreClearedUpTo at judged → cleared (judged ++ Cleared at ∷ []) ≡ cleared judged ++ after at (live judged)
cleared-more [] at up = refl
cleared-more (Submitted m at' e' Underflow ∷ rest) at up = cleared-more rest at up
cleared-more (Submitted m at' e' Sequence ∷ rest) at up = cleared-more rest at up
cleared-more (Submitted m at' e' Undecided ∷ rest) at up = cleared-more rest at up
cleared-more (Cleared at' ∷ rest) at up = cleared-more rest at up.1
cleared-more (Submitted m at' e' (Lane j) ∷ rest) at up =
    ap (λ b. cond b ((m, e') ∷ cleared (rest ++ Cleared at ∷ [])) (cleared (rest ++ Cleared at ∷ []))) (any-clears-cleared (cycle_of e') rest at)
    ∙ by-clearing (list_any (clears (cycle_of e')) rest) (nat_lt at (cycle_of e')) refl refl (cleared-more rest at up)
  where
    by-clearing : (gone goes : Bool) → list_any (clears (cycle_of e')) rest ≡ gone → nat_lt at (cycle_of e') ≡ goes → cleared (rest ++ Cleared at ∷ []) ≡ cleared rest ++ after at (live rest) → cond (gone || goes) ((m, e') ∷ cleared (rest ++ Cleared at ∷ [])) (cleared (rest ++ Cleared at ∷ [])) ≡ cond gone ((m, e') ∷ cleared rest) (cleared rest) ++ after at (cond gone (live rest) ((m, e') ∷ live rest))
    by-clearing true goes was is ih = ap (λ (ps : List (ℕ × Event)). (m, e') ∷ ps) ih
    by-clearing false true was is ih =
        let later : at < cycle_of e' = grind (arith, nat_tests, is) in
        let none : cleared rest ≡ [] = no-clearing at (cycle_of e') rest later up was in
        ap (λ (ps : List (ℕ × Event)). (m, e') ∷ ps) (ih ∙ ap (λ (ps : List (ℕ × Event)). ps ++ after at (live rest)) none)
        ∙ ap (λ b. cond b ((m, e') ∷ after at (live rest)) (after at (live rest))) (sym is)
        ∙ ap (λ (ps : List (ℕ × Event)). ps ++ after at ((m, e') ∷ live rest)) (sym none)
    by-clearing false false was is ih =
        ih ∙ ap (λ b. cleared rest ++ cond b ((m, e') ∷ after at (live rest)) (after at (live rest))) (sym is)

-- the events that a clearing takes are those that the lanes hold, by number
pub cleared-cleared : (lanes depth : ℕ) (steps : List LaneStep) (at : ℕ) → 1 ≤ lanes → NeverFall 0 steps at → cleared (judged lanes depth steps ++ Cleared at ∷ []) ≡ cleared (judged lanes depth steps) ++ by_number (held_events (lanes_after lanes depth (judged lanes depth steps) at))
cleared-cleared lanes depth steps at some in_time =
    cleared-more (judged lanes depth steps) at (cleared-up-to lanes depth steps at in_time)
    ∙ ap (λ (ps : List (ℕ × Event)). cleared (judged lanes depth steps) ++ ps) (sym (held-live lanes depth steps at some in_time))
