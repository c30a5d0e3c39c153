-- A scheduler that is over: nothing is in flight, and nobody halted it where no chair did.
use Rattle.std.proofs.Common.{◌≡◌, ℕ, Bool, true, false, List, [], ◌∷◌, refl, sym, ap, ◌∙◌, cond, filter}
use Rattle.std.specs.Prelude.{None, IsTrue, ◌==◌, length}
use Rattle.std.specs.List.{AllByRecursion, list_all}
use Rattle.desk_rule.specs.Histories.{Each}
use Rattle.exp_runs.specs.declared.run.Run.{Run}
use Rattle.exp_runs.specs.Statuses.{is_ended}
use Rattle.exp_model.specs.declared.session.Session.{Session}
use Rattle.exp_model.specs.Sessions.{is_session}
use Rattle.sched_state.specs.declared.entry.Flight.{Flight}
use Rattle.sched_state.specs.declared.entry.JobName.{JobName}
use Rattle.sched_state.specs.declared.entry.JobName.TheVariants.{Prepare, Step, Analyze}
use Rattle.sched_state.specs.declared.entry.SchedAct.{SchedAct}
use Rattle.sched_state.specs.declared.entry.SchedAct.TheVariants as act
use Rattle.sched_state.specs.declared.entry.SchedEntry.{SchedEntry}
use Rattle.sched_state.specs.Lawful.{IsLawful, halted_by, state_after}
use Rattle.sched_state.specs.Picks.{is_over}
use Rattle.sched_state.proofs.Openings.{second}
use Rattle.sched_laws.specs.Workers.{FlyingJobsStand, status_for}
use Rattle.lab_workers.specs.Workers.{is_halt}
use Rattle.sched_laws.proofs.Arriving.{all-from-test}
use Rattle.sched_laws.proofs.Lookups.{found-has}

-- a run whose job is in flight hasn't ended
in-flight : (job : JobName) → is_ended (status_for job) ≡ true → ⊥
in-flight (Prepare rid) e = cc
in-flight (Step rid place) e = cc
in-flight (Analyze rid) e = cc

-- where every run ended no job is in flight
pub flying-none : FlyingJobsStand → (session : Session) (history : List SchedEntry) → IsTrue (is_session session) → IsLawful session history
    → IsTrue (is_over (state_after session history)) → (state_after session history).flying ≡ []
flying-none law session history ok lawful over = by (state_after session history).flying refl
  where
    by : (flying : List Flight) → (state_after session history).flying ≡ flying → (state_after session history).flying ≡ []
    by [] is = is
    by (f ∷ rest) is =
        let stands = law session history f.chair f.job ok lawful ([], rest, is) in
        let ended : IsTrue (is_ended stands.0.status) =
        found-has (λ (run : Run). IsTrue (is_ended run.status)) (state_after session history).runs _ stands.0
        (all-from-test (λ (run : Run). is_ended run.status) (state_after session history).runs
        (second (length (state_after session history).arrivals == 0) (list_all (λ (run : Run). is_ended run.status) (state_after session history).runs) over))
        stands.1 in
        absurd (in-flight f.job (sym (ap is_ended stands.2.status) ∙ ended))

going-on : (chair : ℕ) (what : SchedAct) (rest : List SchedEntry) → is_halt what ≡ false → halted_by rest ≡ None
    → halted_by (record { chair = chair; act = what } ∷ rest) ≡ None
going-on chair (act.Took job) rest is none = none
going-on chair (act.Prepared rid) rest is none = none
going-on chair (act.Stepped rid place pipeline clock result word) rest is none = none
going-on chair (act.Analyzed rid) rest is none = none
going-on chair (act.SourceRefused rid) rest is none = none
going-on chair (act.Jumped clock) rest is none = none
going-on chair act.Halted rest is none = absurd (cc)

-- nobody halted it where no entry is a halt
pub no-halt : (history : List SchedEntry) → AllByRecursion (λ (entry : SchedEntry). is_halt entry.act ≡ false) history → halted_by history ≡ None
no-halt [] h = refl
no-halt (entry ∷ rest) h = going-on entry.chair entry.act rest h.0 (no-halt rest h.1)

keeps-none : (b : Bool) (what : SchedAct) (kept : List SchedAct) → cond b (what ∷ kept) kept ≡ [] → (b ≡ false) × (kept ≡ [])
keeps-none true what kept h = absurd (cc)
keeps-none false what kept h = (refl, h)

-- where no halt is kept, none is there
pub none-filtered : (acts : List SchedAct) → filter is_halt acts ≡ [] → Each (λ (what : SchedAct). is_halt what ≡ false) acts
none-filtered [] h = tt
none-filtered (what ∷ acts) h = let k = keeps-none (is_halt what) what (filter is_halt acts) h in (k.0, none-filtered acts k.1)
