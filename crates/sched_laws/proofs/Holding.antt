-- A job is in flight for a chair while that chair has taken and not yet reported it.
use Rattle.std.proofs.Common.{◌≡◌, ◌≢◌, ℕ, true, false, List, [], ◌∷◌, ◌++◌, refl, sym, ◌∙◌, ap, subst, append_assoc, append-nil, inl, inr}
use Rattle.std.specs.Prelude.{Option, Some, None, IsTrue, ◌==◌, ◌⊎◌}
use Rattle.std.specs.List.{AllByRecursion}
use Rattle.std.proofs.lemmas.Bool.Decides.{eqb_tells}
use Rattle.std.proofs.lemmas.List.Elements.{filter-append}
use Rattle.exp_model.specs.declared.session.Session.{Session}
use Rattle.exp_model.specs.Sessions.{is_session}
use Rattle.sched_state.specs.declared.entry.Flight.{Flight}
use Rattle.sched_state.specs.declared.entry.JobName.{JobName}
use Rattle.sched_state.specs.declared.entry.SchedAct.{SchedAct}
use Rattle.sched_state.specs.declared.entry.SchedAct.TheVariants as act
use Rattle.sched_state.specs.declared.entry.SchedEntry.{SchedEntry}
use Rattle.sched_state.specs.State.{SchedState, rid_of}
use Rattle.sched_state.specs.Arrivals.{opening}
use Rattle.sched_state.specs.Lawful.{IsFlying, IsLawfulAfter, MayCome, after_entry, state_after}
use Rattle.sched_laws.specs.Sound.{IsSound}
use Rattle.sched_laws.specs.Ladder.{takes}
use Rattle.sched_laws.specs.Workers.{HasTaken, JobsFlyUntilReported, Reports, TakersReport, flying_after, left_flying, reported}
use Rattle.sched_laws.proofs.Lookups.{all-push}
use Rattle.sched_laws.proofs.Flying.{leaves, leaves-other, leaves-own}
use Rattle.sched_laws.proofs.Arriving.{clock-flying, opening-sound}
use Rattle.sched_laws.proofs.Flights.{act-flies, report-flies, same-flight}
use Rattle.sched_laws.proofs.Histories.{by-act, lawful-back, lawful-front, sound-after, state-pushed}

abbrev flight : ℕ → JobName → Flight
flight chair job = record { chair = chair; job = job }

-- a flight is among these
abbrev Has : List Flight → Flight → Type 0
Has flying f = (before : List Flight) × (after : List Flight) × (flying ≡ before ++ f ∷ after)

nothing : (before after : List Flight) (f : Flight) → [] ≡ before ++ f ∷ after → ⊥
nothing [] after f e = cc
nothing (g ∷ before) after f e = cc

has-front : (g : Flight) (flying : List Flight) (f : Flight) → Has flying f → Has (g ∷ flying) f
has-front g flying f has = (g ∷ has.0, has.1, ap (λ fs. g ∷ fs) has.2)

-- a flight of another run stays where a run's job lands, and what stays was there
has-left : (rid : ℕ) (flying : List Flight) (f : Flight) → rid_of f.job ≢ rid → Has flying f → Has (leaves rid flying) f
has-left rid flying f other has = (
  leaves rid has.0,
  leaves rid has.1,
  ap (leaves rid) has.2 ∙ filter-append _ has.0 (f ∷ has.1) ∙ ap (λ fs. leaves rid has.0 ++ fs)
      (leaves-other f has.1 rid other),
)

left-at : (rid : ℕ) (g : Flight) (flying : List Flight)
    → ((before after : List Flight) (f : Flight) → leaves rid flying ≡ before ++ f ∷ after → Has flying f × (rid_of f.job ≢ rid))
    → ((rid_of g.job == rid) ≡ true) × (rid_of g.job ≡ rid) ⊎ ((rid_of g.job == rid) ≡ false) × (rid_of g.job ≢ rid)
    → (before after : List Flight) (f : Flight) → leaves rid (g ∷ flying) ≡ before ++ f ∷ after → Has (g ∷ flying) f × (rid_of f.job ≢ rid)
left-at rid g flying ih (inl k) before after f e = let rest = ih before after f (sym (leaves-own g flying rid k.1) ∙ e) in (has-front g flying f rest.0, rest.1)
left-at rid g flying ih (inr k) [] after f e =
    let parts : g ∷ leaves rid flying ≡ f ∷ after = sym (leaves-other g flying rid k.1) ∙ e in
    let is : g ≡ f = cc in
    (([], flying, ap (λ x. x ∷ flying) is), λ h. k.1 (ap (λ (x : Flight). rid_of x.job) is ∙ h))
left-at rid g flying ih (inr k) (h ∷ before) after f e =
    let parts : g ∷ leaves rid flying ≡ h ∷ (before ++ f ∷ after) = sym (leaves-other g flying rid k.1) ∙ e in
    let tail : leaves rid flying ≡ before ++ f ∷ after = cc in
    let rest = ih before after f tail in
    (has-front g flying f rest.0, rest.1)

was-left : (rid : ℕ) (flying before after : List Flight) (f : Flight) → leaves rid flying ≡ before ++ f ∷ after → Has flying f × (rid_of f.job ≢ rid)
was-left rid [] before after f e = absurd (nothing before after f e)
was-left rid (g ∷ flying) before after f e = left-at rid g flying (was-left rid flying) (eqb_tells (rid_of g.job) rid) before after f e

-- one more flight
pushed-at : (x : Flight) (flying : List Flight) (f g : Flight) → Has flying f ⊎ (g ≡ f) → Has (x ∷ flying) f ⊎ (g ≡ f)
pushed-at x flying f g (inl has) = inl (has-front x flying f has)
pushed-at x flying f g (inr is) = inr is

was-pushed : (flying : List Flight) (g : Flight) (before after : List Flight) (f : Flight) → flying ++ g ∷ [] ≡ before ++ f ∷ after → Has flying f ⊎ (g ≡ f)
was-pushed [] g [] after f e = let is : g ≡ f = cc in inr is
was-pushed [] g (h ∷ before) after f e = let rest : [] ≡ before ++ f ∷ after = cc in absurd (nothing before after f rest)
was-pushed (x ∷ flying) g [] after f e = let is : x ≡ f = cc in inl ([], flying, ap (λ y. y ∷ flying) is)
was-pushed (x ∷ flying) g (h ∷ before) after f e =
    let rest : flying ++ g ∷ [] ≡ before ++ f ∷ after = cc in pushed-at x flying f g (was-pushed flying g before after f rest)

-- a job stays in flight unless its chair reports it
landing : (session : Session) (state : SchedState) (chair by : ℕ) (job : JobName) (found : Option JobName) → IsSound session state
    → ((next : JobName) → found ≡ Some next → IsFlying state by next)
    → IsFlying state chair job → ((by ≡ chair) × (found ≡ Some job) → ⊥) → Has (left_flying found state.flying) (flight chair job)
landing session state chair by job None was reports flies other = flies
landing session state chair by job (Some next) was reports flies other = at (eqb_tells (rid_of job) (rid_of next))
  where
    f : Flight
    f = flight chair job

    at : ((rid_of job == rid_of next) ≡ true) × (rid_of job ≡ rid_of next) ⊎ ((rid_of job == rid_of next) ≡ false) × (rid_of job ≢ rid_of next)
        → Has (leaves (rid_of next) state.flying) f
    at (inl e) = let same = same-flight session state chair by job next was flies (reports next refl) e.1 in absurd (other (same.0, ap Some same.1))
    at (inr e) = has-left (rid_of next) state.flying f e.1 flies

stays-in : (session : Session) (state : SchedState) (chair by : ℕ) (job : JobName) (what : SchedAct) → IsSound session state → MayCome session state by what
    → IsFlying state chair job
    → ((by ≡ chair) × (reported what ≡ Some job) → ⊥) → Has (flying_after by what state.flying) (flight chair job)
stays-in session state chair by job (act.Took next) was may flies other =
    let f : Flight = flight chair job in
    let g : Flight = flight by next in
    (flies.0, flies.1 ++ g ∷ [], ap (λ fs. fs ++ g ∷ []) flies.2 ∙ append_assoc flies.0 (f ∷ flies.1) (g ∷ []))
stays-in session state chair by job (act.Prepared rid) was may flies other =
    landing session state chair by job (reported (act.Prepared rid)) was (λ next e. report-flies session by (act.Prepared rid) state next may e) flies other
stays-in session state chair by job (act.Stepped rid place pipeline clock result word) was may flies other =
    let what : SchedAct = act.Stepped rid place pipeline clock result word in
    landing session state chair by job (reported what) was (λ next e. report-flies session by what state next may e) flies other
stays-in session state chair by job (act.Analyzed rid) was may flies other =
    landing session state chair by job (reported (act.Analyzed rid)) was (λ next e. report-flies session by (act.Analyzed rid) state next may e) flies other
stays-in session state chair by job (act.SourceRefused rid) was may flies other =
    landing session state chair by job (reported (act.SourceRefused rid)) was (λ next e. report-flies session by (act.SourceRefused rid) state next may e) flies
    other
stays-in session state chair by job (act.Jumped clock) was may flies other = flies
stays-in session state chair by job act.Halted was may flies other = flies

still-flies : (session : Session) (before rest : List SchedEntry) (chair : ℕ) (job : JobName) → IsTrue (is_session session) → IsLawfulAfter session before rest
    → IsSound session (state_after session before)
    → IsFlying (state_after session before) chair job → AllByRecursion (λ entry. Reports chair job entry → ⊥) rest
    → IsFlying (state_after session (before ++ rest)) chair job
still-flies session before [] chair job ok lawful was flies none =
    let P : List SchedEntry → Type 0 = λ h. IsFlying (state_after session h) chair job in subst P (sym (append-nil before)) flies
still-flies session before (entry ∷ rest) chair job ok lawful was flies none =
    let P : List SchedEntry → Type 0 = λ h. IsFlying (state_after session h) chair job in
    let Q : SchedState → Type 0 = λ s. IsSound session s × IsFlying s chair job in
    let state : SchedState = state_after session before in
    let f : Flight = flight chair job in
    let N : List Flight → Type 0 = λ fs. Has fs f in
    let here : IsFlying (after_entry session state entry) chair job =
    subst N (sym (act-flies session entry.chair entry.act state ok was lawful.0.0))
    (stays-in session state chair entry.chair job entry.act was lawful.0.0 flies none.0) in
    let next : Q (state_after session (before ++ entry ∷ [])) =
    subst Q (sym (state-pushed session before entry)) (by-act session entry.chair entry.act state ok was lawful.0.0, here) in
    subst P (append_assoc before (entry ∷ []) rest) (still-flies session (before ++ entry ∷ []) rest chair job ok lawful.1 next.0 next.1 none.1)

-- and it was taken
taken-longer : (before : List SchedEntry) (entry : SchedEntry) (chair : ℕ) (job : JobName) → HasTaken before chair job → (Reports chair job entry → ⊥)
    → HasTaken (before ++ entry ∷ []) chair job
taken-longer before entry chair job has other = (
  has.0,
  has.1 ++ entry ∷ [],
  ap (λ h. h ++ entry ∷ []) has.2 ∙ append_assoc has.0 (takes chair job ∷ has.1) (entry ∷ []),
  all-push (λ e. Reports chair job e → ⊥) has.1 entry has.3 other,
)

abbrev WereTaken : Session → List SchedEntry → Type 0
WereTaken session history = (chair : ℕ) (job : JobName) → IsFlying (state_after session history) chair job → HasTaken history chair job

landed-taken : (before : List SchedEntry) (entry : SchedEntry) (chair : ℕ) (job : JobName) (flying : List Flight) (found : Option JobName)
    → reported entry.act ≡ found
    → (Has flying (flight chair job) → HasTaken before chair job) → Has (left_flying found flying) (flight chair job)
    → HasTaken (before ++ entry ∷ []) chair job
landed-taken before entry chair job flying None e took has = taken-longer before entry chair job (took has) (λ reports. cc (reports.1, e))
landed-taken before entry chair job flying (Some next) e took has =
    let was = was-left (rid_of next) flying has.0 has.1 (flight chair job) has.2 in
    taken-longer before entry chair job (took was.0) (λ reports.
    let is : job ≡ next = cc (reports.1, e) in
    was.1 (ap rid_of is))

pushed-taken : (before : List SchedEntry) (chair by : ℕ) (job next : JobName) (flying : List Flight)
    → (Has flying (flight chair job) → HasTaken before chair job)
    → Has flying (flight chair job) ⊎ (flight by next ≡ flight chair job) → HasTaken (before ++ takes by next ∷ []) chair job
pushed-taken before chair by job next flying took (inl has) = taken-longer before (takes by next) chair job (took has) (λ reports. absurd (cc (reports.1)))
pushed-taken before chair by job next flying took (inr is) = (before, [], ap (λ (f : Flight). before ++ takes f.chair f.job ∷ []) is, tt)

act-taken : (before : List SchedEntry) (by chair : ℕ) (what : SchedAct) (job : JobName) (flying : List Flight)
    → (Has flying (flight chair job) → HasTaken before chair job)
    → Has (flying_after by what flying) (flight chair job) → HasTaken (before ++ record { chair = by; act = what } ∷ []) chair job
act-taken before by chair (act.Took next) job flying took has =
    pushed-taken before chair by job next flying took (was-pushed flying (flight by next) has.0 has.1 (flight chair job) has.2)
act-taken before by chair (act.Prepared rid) job flying took has =
    landed-taken before (record { chair = by; act = act.Prepared rid }) chair job flying _ refl took has
act-taken before by chair (act.Stepped rid place pipeline clock result word) job flying took has =
    landed-taken before (record { chair = by; act = act.Stepped rid place pipeline clock result word }) chair job flying _ refl took has
act-taken before by chair (act.Analyzed rid) job flying took has =
    landed-taken before (record { chair = by; act = act.Analyzed rid }) chair job flying _ refl took has
act-taken before by chair (act.SourceRefused rid) job flying took has =
    landed-taken before (record { chair = by; act = act.SourceRefused rid }) chair job flying _ refl took has
act-taken before by chair (act.Jumped clock) job flying took has =
    taken-longer before (record { chair = by; act = act.Jumped clock }) chair job (took has) (λ reports. absurd (cc (reports.1)))
act-taken before by chair act.Halted job flying took has =
    taken-longer before (record { chair = by; act = act.Halted }) chair job (took has) (λ reports. absurd (cc (reports.1)))

taken-from : (session : Session) (before rest : List SchedEntry) → IsTrue (is_session session) → IsLawfulAfter session before rest
    → IsSound session (state_after session before) → WereTaken session before → WereTaken session (before ++ rest)
taken-from session before [] ok lawful was took = let P : List SchedEntry → Type 0 = λ h. WereTaken session h in subst P (sym (append-nil before)) took
taken-from session before (entry ∷ rest) ok lawful was took =
    let P : List SchedEntry → Type 0 = λ h. WereTaken session h in
    let Q : SchedState → Type 0 = λ s. IsSound session s × ((chair : ℕ) (job : JobName) → IsFlying s chair job → HasTaken (before ++ entry ∷ []) chair job) in
    let state : SchedState = state_after session before in
    let next : Q (state_after session (before ++ entry ∷ [])) =
    subst Q (sym (state-pushed session before entry)) (
      by-act session entry.chair entry.act state ok was lawful.0.0,
      λ chair job flies.
          let N : List Flight → Type 0 = λ fs. Has fs (flight chair job) in
          act-taken before entry.chair chair entry.act job state.flying (took chair job)
          (subst N (act-flies session entry.chair entry.act state ok was lawful.0.0) flies),
    ) in
    subst P (append_assoc before (entry ∷ []) rest) (taken-from session (before ++ entry ∷ []) rest ok lawful.1 next.0 next.1)

pub were-taken : (session : Session) (history : List SchedEntry) → IsTrue (is_session session) → IsLawfulAfter session [] history → WereTaken session history
were-taken session history ok lawful =
    taken-from session [] history ok lawful (opening-sound session (λ rid. 0) ok)
    (λ chair job flies.
    let none : (opening session).flying ≡ [] =
    clock-flying 0 (record { runs = []; stack = []; flying = []; clock = 0; arrivals = session.arrivals; datasets = [] }) in
    absurd (nothing flies.0 flies.1 (flight chair job) (sym none ∙ flies.2)))

pub fly-until-reported : JobsFlyUntilReported
fly-until-reported session history chair job ok lawful = (forth, were-taken session history ok lawful chair job)
  where
    forth : HasTaken history chair job → IsFlying (state_after session history) chair job
    forth has =
        let L : List SchedEntry → Type 0 = λ h. IsLawfulAfter session [] h in
        let P : List SchedEntry → Type 0 = λ h. IsFlying (state_after session h) chair job in
        let Q : SchedState → Type 0 = λ s. IsSound session s × IsFlying s chair job in
        let own : IsLawfulAfter session [] (has.0 ++ takes chair job ∷ has.1) = subst L has.2 lawful in
        let rest = lawful-back session [] has.0 (takes chair job ∷ has.1) own in
        let state : SchedState = state_after session has.0 in
        let was : IsSound session state = sound-after session has.0 ok (lawful-front session [] has.0 (takes chair job ∷ has.1) own) in
        let next : Q (state_after session (has.0 ++ takes chair job ∷ [])) =
        subst Q (sym (state-pushed session has.0 (takes chair job))) (
          by-act session chair (act.Took job) state ok was rest.0.0,
          (state.flying, [], act-flies session chair (act.Took job) state ok was rest.0.0),
        ) in
        subst P (append_assoc has.0 (takes chair job ∷ []) has.1 ∙ sym has.2)
        (still-flies session (has.0 ++ takes chair job ∷ []) has.1 chair job ok rest.1 next.0 next.1 has.3)

pub takers-report : TakersReport
takers-report session before entry job ok lawful e =
    let rest = lawful-back session [] before (entry ∷ []) lawful in
    were-taken session before ok (lawful-front session [] before (entry ∷ []) lawful) entry.chair job
    (report-flies session entry.chair entry.act (state_after session before) job rest.0.0 e)
