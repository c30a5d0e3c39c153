-- Whether an event is still to be put out, entry by entry.
use Rattle.std.proofs.Common.{◌≡◌, ℕ, ◌+◌, List, [], ◌∷◌, ◌++◌, take, true, false, Bool, refl, sym, ap, subst, ◌∙◌, arith}
use Rattle.std.specs.Prelude.{nat_lt, filter, ◌&&◌, ◌||◌}
use Rattle.std.specs.List.{list_all, list_any}
use Rattle.std.proofs.lemmas.Bool.Decides.{nat_tests}
use Rattle.std.proofs.lemmas.List.Folds.{list_any-append}
use Rattle.rtio_types.specs.declared.event.Event.{Event}
use Rattle.rtio_types.specs.Time.{cycle_of}
use Rattle.sed_lanes.specs.Accepted.{accepted_since_clearing}
use Rattle.sed_lanes.specs.Verdict.{Verdict, Underflow, Lane, Sequence}
use Rattle.sed_lanes.specs.Judged.{Judged, Submitted, next_number}
use Rattle.sed_lanes.proofs.Reasons.{sequence-has-reason}
use Rattle.sed_lanes.proofs.Since.{accepted-since-cleared, accepted-since-taken, accepted-since-unplaced}
use Rattle.sed_lanes.proofs.Unplaced.{IsUnplaced}
use Rattle.output_merge.specs.Live.{live}
use Rattle.output_merge.proofs.LiveHeld.{live-since}
use Rattle.rtio_core.specs.declared.data.Config.{Config}
use Rattle.rtio_core.specs.declared.data.Entry.{Entry}
use Rattle.rtio_core.specs.Core.{CoreState, IsCore}
use Rattle.rtio_core.specs.Entries.{judged_history, lane_steps}
use Rattle.rtio_core.specs.Lawful.{IsLawfulAfter}
use Rattle.rtio_core.specs.Reply.{verdict_at}
use Rattle.sim_report.specs.declared.steps.Step.{Step}
use Rattle.sim_report.specs.declared.steps.Step.TheVariants.{Submits, Clears, Other}
use Rattle.sim_report.specs.Pending.{is_beyond, pends}
use Rattle.sim_report.specs.Steps.{may_pend, step_in, still_pends}
use Rattle.sim_report.proofs.Judging.{Asks, Became, Here, asks, judged-cleared, judged-quiet, late, missed, steps-in-time, taken}

-- the accepted events since the last reset
abbrev pub since_reset : Config → List Entry → List (ℕ × Event)
since_reset config history = accepted_since_clearing (judged_history config history)

-- those beyond the counter are all that is still to be put out
pub pending-since : (core : CoreState) → IsCore core → filter (is_beyond core.counter) (live (judged_history core.config core.history)) ≡ filter (is_beyond core.counter) (since_reset core.config core.history)
pending-since core is =
    live-since core.config.lanes core.config.depth (lane_steps core.history) core.counter
    (steps-in-time core.config [] core.history core.counter is.lawful is.reached)

any-kept : {X : Type 0} (test : X → Bool) (xs : List X) → list_any test (filter test xs) ≡ list_any test xs
any-kept test [] = refl
any-kept test (x ∷ xs) = by (test x) refl (any-kept test xs)
  where
    by : (b : Bool) → test x ≡ b → list_any test (filter test xs) ≡ list_any test xs → list_any test (filter test (x ∷ xs)) ≡ list_any test (x ∷ xs)
    by true is rest = rw is (rw is refl)
    by false is rest = rw is rest

-- so it is whether one of those is beyond the counter
pub pends-since : (core : CoreState) → IsCore core → list_any (is_beyond core.counter) (since_reset core.config core.history) ≡ pends core
pends-since core is =
    sym (any-kept (is_beyond core.counter) (since_reset core.config core.history))
    ∙ ap (list_any (is_beyond core.counter)) (sym (pending-since core is))
    ∙ any-kept (is_beyond core.counter) (live (judged_history core.config core.history))

-- ---- one entry more

abbrev pub any_beyond : Config → List Entry → ℕ → Bool
any_beyond config history counter = list_any (is_beyond counter) (since_reset config history)

or-false : (b : Bool) → (b || false) ≡ b
or-false true = refl
or-false false = refl

-- of events that aren't all sooner than one beyond the counter, one is beyond it too
beyond-too : (counter : ℕ) (e : Event) (events : List (ℕ × Event)) → list_all (λ p. nat_lt (cycle_of p.1) (cycle_of e)) events ≡ false → nat_lt counter (cycle_of e) ≡ true → list_any (is_beyond counter) events ≡ true
beyond-too counter e [] all beyond = absurd (cc)
beyond-too counter e (p ∷ events) all beyond = by (nat_lt (cycle_of p.1) (cycle_of e)) refl (λ others. beyond-too counter e events others beyond)
  where
    by : (b : Bool) → nat_lt (cycle_of p.1) (cycle_of e) ≡ b → (list_all (λ q. nat_lt (cycle_of q.1) (cycle_of e)) events ≡ false → list_any (is_beyond counter) events ≡ true) → list_any (is_beyond counter) (p ∷ events) ≡ true
    by true is rest =
        let more : list_any (is_beyond counter) events ≡ true = rest (ap (λ (b : Bool). b && list_all (λ q. nat_lt (cycle_of q.1) (cycle_of e)) events) (sym is) ∙ all) in
        grind (arith, nat_tests, more)
    by false is rest =
        let later : nat_lt counter (cycle_of p.1) ≡ true = grind (arith, nat_tests, is, beyond) in
        rw later refl

module _ (config : Config) (front : List Entry) (entry : Entry) (counter : ℕ) (e : Event) (is_done : Bool) (a : Asks config front entry e is_done) where
  unplaced : IsUnplaced (verdict_at config front e a.at) → since_reset config (front ++ entry ∷ []) ≡ since_reset config front
  unplaced un = ap accepted_since_clearing a.judged_is ∙ accepted-since-unplaced (judged_history config front) _ a.at e (verdict_at config front e a.at) un

  pub since-more : (k : ℕ) → verdict_at config front e a.at ≡ Lane k → since_reset config (front ++ entry ∷ []) ≡ since_reset config front ++ (next_number (judged_history config front), e) ∷ []
  since-more k is =
      ap accepted_since_clearing (a.judged_is ∙ ap (λ (v : Verdict). judged_history config front ++ Submitted (next_number (judged_history config front)) a.at e v ∷ []) is)
      ∙ accepted-since-taken (judged_history config front) (next_number (judged_history config front)) a.at e k

  pub since-same : (v : Verdict) → verdict_at config front e a.at ≡ v → IsUnplaced v → since_reset config (front ++ entry ∷ []) ≡ since_reset config front
  since-same v is un = unplaced (subst IsUnplaced (sym is) un)

  -- an event out of sequence isn't the only one beyond the counter
  not-alone : verdict_at config front e a.at ≡ Sequence → (b : Bool) → may_pend e is_done counter ≡ b → (any_beyond config front counter || b) ≡ any_beyond config front counter
  not-alone is false pend = or-false (any_beyond config front counter)
  not-alone is true pend =
      let beyond : nat_lt counter (cycle_of e) ≡ true = second is_done (nat_lt counter (cycle_of e)) pend in
      let found : any_beyond config front counter ≡ true = by (list_all (λ p. nat_lt (cycle_of p.1) (cycle_of e)) (since_reset config front)) refl beyond in
      rw found refl
    where
      second : (x y : Bool) → (x && y) ≡ true → y ≡ true
      second true y h = h
      second false y h = absurd (cc)

      by : (b : Bool) → list_all (λ p. nat_lt (cycle_of p.1) (cycle_of e)) (since_reset config front) ≡ b → nat_lt counter (cycle_of e) ≡ true → any_beyond config front counter ≡ true
      by true all beyond = absurd (sequence-has-reason config.lanes config.depth (judged_history config front) a.at e all is)
      by false all beyond = beyond-too counter e (since_reset config front) all beyond

  by-verdict : (v : Verdict) → verdict_at config front e a.at ≡ v → Became is_done v → (any_beyond config front counter || may_pend e is_done counter) ≡ any_beyond config (front ++ entry ∷ []) counter
  by-verdict v is (late done) =
      ap (λ (b : Bool). any_beyond config front counter || (b && nat_lt counter (cycle_of e))) done
      ∙ or-false (any_beyond config front counter) ∙ ap (list_any (is_beyond counter)) (sym (since-same Underflow is tt))
  by-verdict v is (taken k done) =
      let number : ℕ = next_number (judged_history config front) in
      ap (λ (b : Bool). any_beyond config front counter || (b && nat_lt counter (cycle_of e))) done
      ∙ ap (λ (b : Bool). any_beyond config front counter || b) (sym (or-false (nat_lt counter (cycle_of e))))
      ∙ sym (list_any-append (is_beyond counter) (since_reset config front) ((number, e) ∷ []))
      ∙ ap (list_any (is_beyond counter)) (sym (since-more k is))
  by-verdict v is missed =
      not-alone is (may_pend e is_done counter) refl ∙ ap (list_any (is_beyond counter)) (sym (since-same Sequence is tt))

by-step : (config : Config) (front : List Entry) (entry : Entry) (back : List Entry) (counter : ℕ) (step : Step) → step_in entry.act ≡ step → IsLawfulAfter config [] (front ++ entry ∷ back) → still_pends (any_beyond config front counter) step counter ≡ any_beyond config (front ++ entry ∷ []) counter
by-step config front entry back counter Other is lawful = ap (λ (js : List Judged). list_any (is_beyond counter) (accepted_since_clearing js)) (sym (judged-quiet config front entry is))
by-step config front entry back counter Clears is lawful =
    let cleared = judged-cleared config front entry is in
    sym (ap (λ (js : List Judged). list_any (is_beyond counter) (accepted_since_clearing js)) cleared.judged_is
    ∙ ap (list_any (is_beyond counter)) (accepted-since-cleared (judged_history config front) cleared.at))
by-step config front entry back counter (Submits e is_done) is lawful =
    let a = asks config front entry back e is_done lawful is in
    by-verdict config front entry counter e is_done a (verdict_at config front e a.at) refl a.became

-- the turn of the walk
pub pends-next : (config : Config) (history items : List Entry) (i : ℕ) (entry : Entry) (counter : ℕ) → items ≡ history → Here items i entry → IsLawfulAfter config [] history → still_pends (any_beyond config (take i items) counter) (step_in entry.act) counter ≡ any_beyond config (take (i + 1) items) counter
pends-next config history items i entry counter are at lawful =
    by-step config (take i items) entry _ counter (step_in entry.act) refl (subst (λ (h : List Entry). IsLawfulAfter config [] h) (sym are ∙ at.split) lawful)
    ∙ ap (λ (h : List Entry). any_beyond config h counter) (sym at.take_is)
