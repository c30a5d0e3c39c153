-- Every state that a lawful history leads to is sound.
use Rattle.std.proofs.Common.{◌≡◌, ℕ, List, [], ◌∷◌, ◌++◌, sym, subst, append_assoc, append-nil}
use Rattle.std.specs.Prelude.{IsTrue}
use Rattle.std.proofs.lemmas.List.Sums.{fold-append}
use Rattle.exp_model.specs.declared.session.Session.{Session}
use Rattle.exp_model.specs.Sessions.{is_session}
use Rattle.sched_state.specs.declared.entry.SchedAct.{SchedAct}
use Rattle.sched_state.specs.declared.entry.SchedAct.TheVariants as act
use Rattle.sched_state.specs.declared.entry.SchedEntry.{SchedEntry}
use Rattle.sched_state.specs.State.{SchedState}
use Rattle.sched_state.specs.Arrivals.{opening}
use Rattle.sched_state.specs.Lawful.{IsLawful, IsLawfulAfter, MayCome, after_act, after_entry, state_after}
use Rattle.sched_laws.specs.Sound.{IsSound, not_ahead}
use Rattle.sched_laws.proofs.Arriving.{by-clock, opening-sound}
use Rattle.sched_laws.proofs.Taking.{by-taking}
use Rattle.sched_laws.proofs.Reporting.{by-analyzed, by-prepared, by-refused}
use Rattle.sched_laws.proofs.Stepping.{by-stepped}

pub by-act : (session : Session) (chair : ℕ) (what : SchedAct) (state : SchedState) → IsTrue (is_session session) → IsSound session state
    → MayCome session state chair what → IsSound session (after_act session chair what state)
by-act session chair (act.Took job) state ok was may = by-taking session chair job state was may
by-act session chair (act.Prepared rid) state ok was may = by-prepared session chair rid state was may
by-act session chair (act.Stepped rid pos pipeline clock result word) state ok was may = by-stepped session chair rid pos result state ok was may.0
by-act session chair (act.Analyzed rid) state ok was may = by-analyzed session chair rid state was may
by-act session chair (act.SourceRefused rid) state ok was may = by-refused session chair rid state was may
by-act session chair (act.Jumped clock) state ok was may = by-clock session not_ahead clock state ok was
by-act session chair act.Halted state ok was may = was

-- one entry more
pub state-pushed : (session : Session) (history : List SchedEntry) (entry : SchedEntry)
    → state_after session (history ++ entry ∷ []) ≡ after_entry session (state_after session history) entry
state-pushed session history entry = fold-append (after_entry session) (opening session) history (entry ∷ [])

sound-from : (session : Session) (before rest : List SchedEntry) → IsTrue (is_session session) → IsLawfulAfter session before rest
    → IsSound session (state_after session before) → IsSound session (state_after session (before ++ rest))
sound-from session before [] ok lawful was =
    let P : List SchedEntry → Type 0 = λ h. IsSound session (state_after session h) in subst P (sym (append-nil before)) was
sound-from session before (entry ∷ rest) ok lawful was =
    let P : List SchedEntry → Type 0 = λ h. IsSound session (state_after session h) in
    let Q : SchedState → Type 0 = λ s. IsSound session s in
    let here : IsSound session (state_after session (before ++ entry ∷ [])) =
    subst Q (sym (state-pushed session before entry)) (by-act session entry.chair entry.act (state_after session before) ok was lawful.0.0) in
    subst P (append_assoc before (entry ∷ []) rest) (sound-from session (before ++ entry ∷ []) rest ok lawful.1 here)

pub sound-after : (session : Session) (history : List SchedEntry) → IsTrue (is_session session) → IsLawful session history
    → IsSound session (state_after session history)
sound-after session history ok lawful = sound-from session [] history ok lawful (opening-sound session not_ahead ok)

-- what comes first in a lawful history, and what comes then
pub lawful-front : (session : Session) (front before rest : List SchedEntry) → IsLawfulAfter session front (before ++ rest) → IsLawfulAfter session front before
lawful-front session front [] rest lawful = tt
lawful-front session front (entry ∷ before) rest lawful = (lawful.0, lawful-front session (front ++ entry ∷ []) before rest lawful.1)

pub lawful-back : (session : Session) (front before rest : List SchedEntry) → IsLawfulAfter session front (before ++ rest)
    → IsLawfulAfter session (front ++ before) rest
lawful-back session front [] rest lawful = let P : List SchedEntry → Type 0 = λ h. IsLawfulAfter session h rest in subst P (sym (append-nil front)) lawful
lawful-back session front (entry ∷ before) rest lawful =
    let P : List SchedEntry → Type 0 = λ h. IsLawfulAfter session h rest in
    subst P (append_assoc front (entry ∷ []) before) (lawful-back session (front ++ entry ∷ []) before rest lawful.1)
