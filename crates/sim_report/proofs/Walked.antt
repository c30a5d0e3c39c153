-- The events that are still to be put out, entry by entry.
use Rattle.std.proofs.Common.{◌≡◌, ℕ, ◌+◌, List, [], ◌∷◌, ◌++◌, length, take, drop, true, false, Bool, Some, refl, sym, ap, subst, ◌∙◌, append-nil, length-append}
use Rattle.std.specs.Prelude.{nat_lt, filter, map, slice_get, IsTrue, ◌&&◌}
use Rattle.std.proofs.lemmas.List.{map-append}
use Rattle.std.proofs.lemmas.List.Elements.{filter-append}
use Rattle.rtio_types.specs.declared.event.Event.{Event}
use Rattle.rtio_types.specs.Time.{cycle_of}
use Rattle.sed_lanes.specs.Accepted.{accepted_since_clearing}
use Rattle.sed_lanes.specs.Verdict.{Verdict, Underflow, Lane, Sequence}
use Rattle.sed_lanes.specs.Judged.{Judged, Submitted, next_number}
use Rattle.sed_lanes.proofs.Numbers.{next-number-cleared, next-number-submitted}
use Rattle.sed_lanes.proofs.Since.{accepted-since-cleared}
use Rattle.output_merge.specs.Live.{out_of_sequence}
use Rattle.output_merge.proofs.Steps.{IsNoSequence, out_of_sequence-cleared, out_of_sequence-more, out_of_sequence-submitted}
use Rattle.rtio_core.specs.declared.data.Config.{Config}
use Rattle.rtio_core.specs.declared.data.Entry.{Entry}
use Rattle.rtio_core.specs.Entries.{judged_history}
use Rattle.rtio_core.specs.Lawful.{IsLawfulAfter}
use Rattle.rtio_core.specs.Reply.{verdict_at}
use Rattle.sim_report.specs.declared.steps.Step.TheVariants.{Submits, Clears, Other}
use Rattle.sim_report.specs.Pending.{is_beyond}
use Rattle.sim_report.specs.Steps.{may_pend, step_in}
use Rattle.sim_report.proofs.Beyond.{since-more, since-same, since_reset}
use Rattle.sim_report.proofs.Judging.{Asks, Became, Here, asks, judged-cleared, judged-quiet, late, missed, taken}
use Rattle.sim_report.proofs.Missed.{missed_numbers, tells-missed, tells-other}

-- the accepted events since the last reset that are beyond the counter
abbrev pub beyond_in : Config → List Entry → ℕ → List Event
beyond_in config history counter = map (λ p. p.1) (filter (is_beyond counter) (since_reset config history))

-- what is known after some entries: how many outputs they asked for, how many of these were out of sequence, and which are
-- still to be put out
pub record Walked (config : Config) (front : List Entry) (counter number passed : ℕ) (events : List Event) : Type 0 where
  pub number_is : number ≡ next_number (judged_history config front)
  pub passed_is : passed ≡ length (out_of_sequence (judged_history config front))
  pub events_are : events ≡ beyond_in config front counter

pub walked-start : (config : Config) (counter : ℕ) → Walked config [] counter 0 0 []
walked-start config counter = record { number_is = refl; passed_is = refl; events_are = refl }

-- an entry that is nothing to the lanes
walked-quiet : (config : Config) (front : List Entry) (entry : Entry) (counter number passed : ℕ) (events : List Event) → step_in entry.act ≡ Other → Walked config front counter number passed events → Walked config (front ++ entry ∷ []) counter number passed events
walked-quiet config front entry counter number passed events is w =
    let same = judged-quiet config front entry is in
    record {
      number_is = w.number_is ∙ sym (ap next_number same);
      passed_is = w.passed_is ∙ sym (ap (λ (js : List Judged). length (out_of_sequence js)) same);
      events_are = w.events_are ∙ sym (ap (λ (js : List Judged). map (λ p. p.1) (filter (is_beyond counter) (accepted_since_clearing js))) same);
    }

-- a reset, after which nothing that was submitted is still to be put out
walked-cleared : (config : Config) (front : List Entry) (entry : Entry) (counter number passed : ℕ) (events : List Event) → step_in entry.act ≡ Clears → Walked config front counter number passed events → Walked config (front ++ entry ∷ []) counter number passed []
walked-cleared config front entry counter number passed events is w =
    let js : List Judged = judged_history config front in
    let cleared = judged-cleared config front entry is in
    record {
      number_is = w.number_is ∙ sym (ap next_number cleared.judged_is ∙ next-number-cleared js cleared.at);
      passed_is = w.passed_is ∙ sym (ap (λ (x : List Judged). length (out_of_sequence x)) cleared.judged_is ∙ ap length (out_of_sequence-cleared js cleared.at));
      events_are = sym (ap (λ (x : List Judged). map (λ p. p.1) (filter (is_beyond counter) (accepted_since_clearing x))) cleared.judged_is
          ∙ ap (λ (ps : List (ℕ × Event)). map (λ p. p.1) (filter (is_beyond counter) ps)) (accepted-since-cleared js cleared.at));
    }

module _ (config : Config) (front : List Entry) (entry : Entry) (back : List Entry) (counter number passed : ℕ) (numbers : List ℕ) (events : List Event) (e : Event) (is_done : Bool) (w : Walked config front counter number passed events) (are : numbers ≡ missed_numbers config (front ++ entry ∷ back)) (a : Asks config front entry e is_done) where
  -- what is known after an output, by its part of the list of numbers and of the events
  after-output : (passed' : ℕ) (events' : List Event)
      → passed' ≡ length (out_of_sequence (judged_history config front ++ Submitted (next_number (judged_history config front)) a.at e (verdict_at config front e a.at) ∷ []))
      → events' ≡ beyond_in config (front ++ entry ∷ []) counter
      → Walked config (front ++ entry ∷ []) counter (number + 1) passed' events'
  after-output passed' events' passed_is events_are =
      let js : List Judged = judged_history config front in
      let count : next_number (js ++ Submitted (next_number js) a.at e (verdict_at config front e a.at) ∷ []) ≡ next_number js + 1 = next-number-submitted js (next_number js) a.at e (verdict_at config front e a.at) in
      record {
        number_is = ap (λ (n : ℕ). n + 1) w.number_is ∙ sym (ap next_number a.judged_is ∙ count);
        passed_is = passed_is ∙ sym (ap (λ (x : List Judged). length (out_of_sequence x)) a.judged_is);
        events_are = events_are;
      }

  -- the number stands at its place in the list exactly where the event is out of sequence
  is-other : IsNoSequence (verdict_at config front e a.at) → slice_get numbers passed ≡ Some number → ⊥
  is-other other next =
      tells-other config front entry back e is_done a other
      (ap (λ (n : ℕ). slice_get (missed_numbers config (front ++ entry ∷ back)) n) (sym w.passed_is) ∙ ap (λ (ns : List ℕ). slice_get ns passed) (sym are) ∙ next ∙ ap Some w.number_is)

  is-missed : verdict_at config front e a.at ≡ Sequence → slice_get numbers passed ≡ Some number
  is-missed is =
      ap (λ (ns : List ℕ). slice_get ns passed) are ∙ ap (λ (n : ℕ). slice_get (missed_numbers config (front ++ entry ∷ back)) n) w.passed_is
      ∙ tells-missed config front entry back e is_done a is ∙ ap Some (sym w.number_is)

  same-count : (v : Verdict) → verdict_at config front e a.at ≡ v → IsNoSequence v → passed ≡ length (out_of_sequence (judged_history config front ++ Submitted (next_number (judged_history config front)) a.at e (verdict_at config front e a.at) ∷ []))
  same-count v is other =
      w.passed_is ∙ sym (ap length (out_of_sequence-submitted (judged_history config front) (next_number (judged_history config front)) a.at e (verdict_at config front e a.at) (subst IsNoSequence (sym is) other)))

  missed-by : (v : Verdict) → verdict_at config front e a.at ≡ v → Became is_done v → slice_get numbers passed ≡ Some number → Walked config (front ++ entry ∷ []) counter (number + 1) (passed + 1) events
  missed-by v is (late done) next = absurd (is-other (subst IsNoSequence (sym is) tt) next)
  missed-by v is (taken k done) next = absurd (is-other (subst IsNoSequence (sym is) tt) next)
  missed-by v is missed next =
      let js : List Judged = judged_history config front in
      let more : out_of_sequence (js ++ Submitted (next_number js) a.at e (verdict_at config front e a.at) ∷ []) ≡ out_of_sequence js ++ (next_number js, e) ∷ [] =
      ap (λ (x : Verdict). out_of_sequence (js ++ Submitted (next_number js) a.at e x ∷ [])) is ∙ out_of_sequence-more js (next_number js) a.at e in
      after-output (passed + 1) events
      (ap (λ (n : ℕ). n + 1) w.passed_is ∙ sym (ap length more ∙ length-append (out_of_sequence js) ((next_number js, e) ∷ [])))
      (w.events_are ∙ ap (λ (ps : List (ℕ × Event)). map (λ p. p.1) (filter (is_beyond counter) ps)) (sym (since-same config front entry counter e is_done a Sequence is tt)))

  -- an output whose number is the next one in the list
  pub walked-missed : slice_get numbers passed ≡ Some number → Walked config (front ++ entry ∷ []) counter (number + 1) (passed + 1) events
  walked-missed next = missed-by (verdict_at config front e a.at) refl a.became next

  -- what stands behind the events that were found
  abbrev found : Bool → List Event
  found true = e ∷ []
  found false = []

  kept-behind : (b : Bool) → nat_lt counter (cycle_of e) ≡ b → (n : ℕ) → map (λ p. p.1) (filter (is_beyond counter) ((n, e) ∷ [])) ≡ found b
  kept-behind true is n = rw is refl
  kept-behind false is n = rw is refl

  taken-by : (v : Verdict) → verdict_at config front e a.at ≡ v → Became is_done v → (slice_get numbers passed ≡ Some number → ⊥) → (b : Bool) → may_pend e is_done counter ≡ b → Walked config (front ++ entry ∷ []) counter (number + 1) passed (events ++ found b)
  taken-by v is missed other b pend = absurd (other (is-missed is))
  taken-by v is (late done) other true pend = let clash : false ≡ true = ap (λ (x : Bool). x && nat_lt counter (cycle_of e)) (sym done) ∙ pend in absurd (cc)
  taken-by v is (late done) other false pend =
      after-output passed (events ++ []) (same-count Underflow is tt)
      (append-nil events ∙ w.events_are ∙ ap (λ (ps : List (ℕ × Event)). map (λ p. p.1) (filter (is_beyond counter) ps)) (sym (since-same config front entry counter e is_done a Underflow is tt)))
  taken-by v is (taken k done) other b pend =
      let n : ℕ = next_number (judged_history config front) in
      let beyond : nat_lt counter (cycle_of e) ≡ b = ap (λ (x : Bool). x && nat_lt counter (cycle_of e)) (sym done) ∙ pend in
      after-output passed (events ++ found b) (same-count (Lane k) is tt)
      (ap (λ (es : List Event). es ++ found b) w.events_are
      ∙ ap (λ (es : List Event). beyond_in config front counter ++ es) (sym (kept-behind b beyond n))
      ∙ sym (map-append (λ p. p.1) (filter (is_beyond counter) (since_reset config front)) (filter (is_beyond counter) ((n, e) ∷ [])))
      ∙ ap (map (λ p. p.1)) (sym (filter-append (is_beyond counter) (since_reset config front) ((n, e) ∷ [])))
      ∙ ap (λ (ps : List (ℕ × Event)). map (λ p. p.1) (filter (is_beyond counter) ps)) (sym (since-more config front entry counter e is_done a k is)))

  -- one that a lane took, with a later cycle
  pub walked-pushed : (slice_get numbers passed ≡ Some number → ⊥) → may_pend e is_done counter ≡ true → Walked config (front ++ entry ∷ []) counter (number + 1) passed (events ++ e ∷ [])
  walked-pushed other pend = taken-by (verdict_at config front e a.at) refl a.became other true pend

  -- any other
  pub walked-skipped : (slice_get numbers passed ≡ Some number → ⊥) → may_pend e is_done counter ≡ false → Walked config (front ++ entry ∷ []) counter (number + 1) passed events
  walked-skipped other pend = subst (λ (es : List Event). Walked config (front ++ entry ∷ []) counter (number + 1) passed es) (append-nil events) (taken-by (verdict_at config front e a.at) refl a.became other false pend)

-- ---- the turn of the walk

pub asks-at : (config : Config) (history items : List Entry) (i : ℕ) (entry : Entry) (e : Event) (is_done : Bool) → items ≡ history → Here items i entry → IsLawfulAfter config [] history → step_in entry.act ≡ Submits e is_done → Asks config (take i items) entry e is_done
asks-at config history items i entry e is_done are at lawful is =
    asks config (take i items) entry (drop (i + 1) items) e is_done (subst (λ (h : List Entry). IsLawfulAfter config [] h) (sym are ∙ at.split) lawful) is

pub numbers-at : (config : Config) (history items : List Entry) (i : ℕ) (entry : Entry) (numbers : List ℕ) → items ≡ history → Here items i entry → numbers ≡ missed_numbers config history → numbers ≡ missed_numbers config (take i items ++ entry ∷ drop (i + 1) items)
numbers-at config history items i entry numbers are at is = is ∙ ap (missed_numbers config) (sym are ∙ at.split)

pub not-next : {P : Type 0} → (P → IsTrue false) → P → ⊥
not-next {P} h p = let clash : false ≡ true = h p in absurd (cc)

pub quiet-at : (config : Config) (items : List Entry) (i : ℕ) (entry : Entry) (counter number passed : ℕ) (events : List Event) → Here items i entry → step_in entry.act ≡ Other → Walked config (take i items) counter number passed events → Walked config (take (i + 1) items) counter number passed events
quiet-at config items i entry counter number passed events at is w =
    subst (λ (h : List Entry). Walked config h counter number passed events) (sym at.take_is) (walked-quiet config (take i items) entry counter number passed events is w)

pub cleared-at : (config : Config) (items : List Entry) (i : ℕ) (entry : Entry) (counter number passed : ℕ) (events : List Event) → Here items i entry → step_in entry.act ≡ Clears → Walked config (take i items) counter number passed events → Walked config (take (i + 1) items) counter number passed []
cleared-at config items i entry counter number passed events at is w =
    subst (λ (h : List Entry). Walked config h counter number passed []) (sym at.take_is) (walked-cleared config (take i items) entry counter number passed events is w)
