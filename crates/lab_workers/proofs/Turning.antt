-- What a chair finds at the scheduler.
use Rattle.std.proofs.Common.{◌≡◌, ℕ, List, [], ◌∷◌, ◌++◌, refl, sym, ap, subst, ◌∙◌, append_assoc, append-nil}
use Rattle.std.specs.Prelude.{Option, Some, None, filter, fold, map}
use Rattle.std.proofs.lemmas.List.{map-append}
use Rattle.std.proofs.lemmas.List.Sums.{fold-append}
use mathlib.Core.List.{IsPrefix}
use Rattle.desk.specs.Seated.{Puts, holding, losing}
use Rattle.desk_rule.specs.Histories.{Each, acts_of}
use Rattle.exp_model.specs.declared.session.Session.{Session}
use Rattle.sched_state.specs.declared.entry.JobName.{JobName}
use Rattle.sched_state.specs.declared.entry.SchedAct.TheVariants.{Jumped, Took}
use Rattle.sched_state.specs.declared.entry.SchedEntry.{SchedEntry}
use Rattle.sched_state.specs.Lawful.{IsLawful, halt_by, halted_by}
use Rattle.sched_laws.specs.Ladder.{and_takes}
use Rattle.sched_laws.proofs.Holding.{fly-until-reported}
use Rattle.sched_core.specs.declared.answer.Job.{Job}
use Rattle.sched_core.specs.declared.answer.Next.{Next}
use Rattle.sched_core.specs.declared.answer.Next.TheVariants as next
use Rattle.sched_core.specs.Booked.{booked_acts}
use Rattle.sched_core.specs.Calls.{AnswersNext, IsJobFor, entry_of, jumped, jumps, name_of, with_entry}
use Rattle.sched_core.specs.Scheds.{IsSched, SchedValue, sched_state}
use Rattle.lab_kits.specs.declared.kit.Kit.{Kit}
use Rattle.lab_kits.specs.Kits.{KitCall, KitText, kit_source}
use Rattle.stage_work.specs.Judged.{IsJudged}
use Rattle.stage_work.specs.Ties.{reports_of}
use Rattle.stage_work.specs.Jobs.{Flies}
use Rattle.stage_work.proofs.Scheds.{job-lasts}
use Rattle.stage_work.specs.declared.tasks.Task.{Task}
use Rattle.lab_workers.specs.declared.turns.Turn.{Turn}
use Rattle.lab_workers.specs.declared.turns.Turn.TheVariants as turn
use Rattle.stage_work.specs.Tasks.{IsTaskIn, job_of}
use Rattle.lab_workers.specs.Tasks.{IsTakenLast, IsTurnIn, job_in}
use Rattle.lab_workers.specs.Turns.{AreQuiet, HasPut, HasTaken, HasTurned, IsTurn, PutsNothing, adds, goes_on}
use Rattle.lab_workers.specs.Workers.{SchedChair, is_halt, owed, sched_entries}
use Rattle.lab_workers.proofs.Holdings.{has-put, knows-put, puts-nothing, sees-put}
use Rattle.lab_workers.proofs.Owing.{owes-job, owes-jumps}

-- nothing was added
pub adds-none : (who : ℕ) (value : SchedValue) → value ≡ adds who [] value
adds-none who value = let same = sym (append-nil value.history) in λ i. record value { history = same i }

-- the clock moved on
jumps-are : (who : ℕ) (clocks : List ℕ) → map (entry_of who) (map Jumped clocks) ≡ jumps who clocks
jumps-are who [] = refl
jumps-are who (clock ∷ clocks) = ap (λ (es : List SchedEntry). entry_of who (Jumped clock) ∷ es) (jumps-are who clocks)

pub adds-jumps : (who : ℕ) (clocks : List ℕ) (value : SchedValue) → jumped who clocks value ≡ adds who (map Jumped clocks) value
adds-jumps who clocks value = let same = sym (jumps-are who clocks) in λ i. record value { history = value.history ++ same i }

-- and a job was taken
pub adds-job : (who : ℕ) (clocks : List ℕ) (job : JobName) (value : SchedValue)
    → with_entry who (Took job) (jumped who clocks value) ≡ adds who (map Jumped clocks ++ Took job ∷ []) value
adds-job who clocks job value =
    let last : List SchedEntry = entry_of who (Took job) ∷ [] in
    let same : (value.history ++ jumps who clocks) ++ last ≡ goes_on value.history who (map Jumped clocks ++ Took job ∷ []) =
    append_assoc value.history (jumps who clocks) last
    ∙ ap (λ (es : List SchedEntry). value.history ++ es)
    (ap (λ (es : List SchedEntry). es ++ last) (sym (jumps-are who clocks)) ∙ sym (map-append (entry_of who) (map Jumped clocks) (Took job ∷ []))) in
    λ i. record value { history = same i }

-- such acts are quiet
no-reports : (pipeline : ℕ) (clocks : List ℕ) (job : JobName) → reports_of pipeline (map Jumped clocks ++ Took job ∷ []) ≡ []
no-reports pipeline [] job = refl
no-reports pipeline (clock ∷ clocks) job = no-reports pipeline clocks job

no-halts : (clocks : List ℕ) (job : JobName) → filter is_halt (map Jumped clocks ++ Took job ∷ []) ≡ []
no-halts [] job = refl
no-halts (clock ∷ clocks) job = no-halts clocks job

no-judgements : (session : Session) (sched : List SchedEntry) (clocks : List ℕ) (job : JobName)
    → Each (IsJudged session sched) (map Jumped clocks ++ Took job ∷ [])
no-judgements session sched [] job = (tt, tt)
no-judgements session sched (clock ∷ clocks) job = (tt, no-judgements session sched clocks job)

pub quiet-job : (session : Session) (sched : List SchedEntry) (clocks : List ℕ) (job : JobName) → AreQuiet session sched (map Jumped clocks ++ Took job ∷ [])
quiet-job session sched clocks job = record {
  steps = λ pipeline. no-reports pipeline clocks job;
  halts = no-halts clocks job;
  judged = no-judgements session sched clocks job;
}

only-reports : (pipeline : ℕ) (clocks : List ℕ) → reports_of pipeline (map Jumped clocks) ≡ []
only-reports pipeline [] = refl
only-reports pipeline (clock ∷ clocks) = only-reports pipeline clocks

only-halts : (clocks : List ℕ) → filter is_halt (map Jumped clocks) ≡ []
only-halts [] = refl
only-halts (clock ∷ clocks) = only-halts clocks

only-judgements : (session : Session) (sched : List SchedEntry) (clocks : List ℕ) → Each (IsJudged session sched) (map Jumped clocks)
only-judgements session sched [] = tt
only-judgements session sched (clock ∷ clocks) = (tt, only-judgements session sched clocks)

pub quiet-jumps : (session : Session) (sched : List SchedEntry) (clocks : List ℕ) → AreQuiet session sched (map Jumped clocks)
quiet-jumps session sched clocks = record {
  steps = λ pipeline. only-reports pipeline clocks;
  halts = only-halts clocks;
  judged = only-judgements session sched clocks;
}

-- that the clock moved on is no halt
no-halt-comes : (who : ℕ) (clocks : List ℕ) (by : Option ℕ) → fold halt_by by (jumps who clocks) ≡ by
no-halt-comes who [] by = refl
no-halt-comes who (clock ∷ clocks) None = no-halt-comes who clocks None
no-halt-comes who (clock ∷ clocks) (Some chair) = no-halt-comes who clocks (Some chair)

still-going : (who : ℕ) (clocks : List ℕ) (history : List SchedEntry) → halted_by (history ++ jumps who clocks) ≡ halted_by history
still-going who clocks history = fold-append halt_by None history (jumps who clocks) ∙ no-halt-comes who clocks (halted_by history)

-- ---- what `next` answers

module _ (who : ℕ) (old : SchedValue) (given : Next Kit) (new : SchedValue) (answers : AnswersNext kit_source KitText KitCall who old given new) (known : IsSched new) where
  as-given : (other : Next Kit) → given ≡ other → AnswersNext kit_source KitText KitCall who old other new
  as-given other is = let A : Next Kit → Type 0 = λ n. AnswersNext kit_source KitText KitCall who old n new in subst A is answers

  -- a job: it flies, and has what belongs to it
  module _ (job : Job Kit) (is : given ≡ next.Job job) where
    ended : new.history ≡ and_takes (old.history ++ jumps who (as-given (next.Job job) is).1) who (name_of job)
    ended = ap (λ (v : SchedValue). v.history) (as-given (next.Job job) is).2

    pub next-flies : Flies who (name_of job) new
    next-flies =
        (fly-until-reported new.session new.history who (name_of job) known.session known.lawful).0
        (old.history ++ jumps who (as-given (next.Job job) is).1, [], ended, tt)

    pub next-is : IsJobFor kit_source KitText KitCall new.session (sched_state new) job
    next-is =
        let a = as-given (next.Job job) is in
        let J : SchedValue → Type 0 = λ v. IsJobFor kit_source KitText KitCall v.session (sched_state v) job in
        subst J (sym a.2) (job-lasts old.session (old.history ++ jumps who a.1) (entry_of who (Took (name_of job)) ∷ []) job a.3)

    pub next-turn : (task : Task) → job_of task ≡ name_of job → IsTaskIn new.session new.history task → IsTurn who (turn.Job task) old new
    next-turn task named has =
        let a = as-given (next.Job job) is in
        let L : JobName → Type 0 = λ n. IsTakenLast who n new.history in
        record {
          acts = map Jumped a.1 ++ Took (name_of job) ∷ [];
          went = a.2 ∙ adds-job who a.1 (name_of job) old;
          quiet = quiet-job new.session new.history a.1 (name_of job);
          owes = λ own. owes-job a.1 (name_of job) own ∙ ap (λ (n : JobName). owed own ++ n ∷ []) (sym named);
          lawful = known.lawful;
          turn_is = (subst L (sym named) (old.history ++ jumps who a.1, ended), has);
        }

  -- that a job of another has to be reported first
  pub next-idle : given ≡ next.Idle → IsTurn who turn.Idle old new
  next-idle is =
      let a = as-given next.Idle is in
      record {
        acts = [];
        went = a.4 ∙ adds-none who old;
        quiet = quiet-jumps new.session new.history [];
        owes = owes-jumps [];
        lawful = known.lawful;
        turn_is = tt;
      }

  -- that all is over
  pub next-over : given ≡ next.Finished → IsTurn who turn.Over old new
  next-over is =
      let a = as-given next.Finished is in
      record {
        acts = map Jumped a.1;
        went = a.2 ∙ adds-jumps who a.1 old;
        quiet = quiet-jumps new.session new.history a.1;
        owes = owes-jumps a.1;
        lawful = known.lawful;
        turn_is = (ap (λ (v : SchedValue). halted_by v.history) a.2 ∙ (still-going who a.1 old.history ∙ a.0), a.3);
      }

  -- that it was halted
  pub next-stopped : (by : ℕ) → given ≡ next.Stopped by → IsTurn who (turn.Stopped by) old new
  next-stopped by is =
      let a = as-given (next.Stopped by) is in
      record {
        acts = [];
        went = a.1 ∙ adds-none who old;
        quiet = quiet-jumps new.session new.history [];
        owes = owes-jumps [];
        lawful = known.lawful;
        turn_is = ap (λ (v : SchedValue). halted_by v.history) a.1 ∙ a.0;
      }

-- ---- the chair's turn

pub has-turned : (c d e : SchedChair) (lost : List ℕ) (was value now : SchedValue) (who : ℕ) (session : Session) (t : Turn)
    → who ≡ c.number → d ≡ holding (losing c lost) (booked_acts was.history) → value ≡ was → Puts d (booked_acts now.history) e
    → was.session ≡ session → IsSched value → IsPrefix c.seen (booked_acts was.history) → acts_of c.number (booked_acts was.history) ≡ c.own
    → IsTurn who t value now → HasTurned session t c e
has-turned c d e lost was value now who session t own held same puts is known begins knows turned =
    let put : HasPut session was.history turned.acts c e =
    has-put c d e lost was value now who turned.acts own held same turned.went puts session is (subst IsSched same known) begins knows in
    let kept : now.session ≡ session = ap (λ (v : SchedValue). v.session) turned.went ∙ (ap (λ (v : SchedValue). v.session) same ∙ is) in
    let seen : now.history ≡ sched_entries e.seen =
    ap (λ (v : SchedValue). v.history) turned.went
    ∙ ((λ i. goes_on ((same i).history) (own i) turned.acts) ∙ sym (sees-put session was.history turned.acts c e put)) in
    record {
      quietly = record {
        found = was.history;
        acts = turned.acts;
        put = put;
        quiet = (let T : (p : Session × List SchedEntry) → Type 0 = λ p. AreQuiet p.0 p.1 turned.acts in
            subst T (λ i. (kept i, seen i)) turned.quiet);
      };
      owes = ap owed put.own ∙ turned.owes c.own;
      lawful = (let T : (p : Session × List SchedEntry) → Type 0 = λ p. IsLawful p.0 p.1 in subst T (λ i. (kept i, seen i)) turned.lawful);
      turn_is =
          (let T : (p : Session × List SchedEntry × ℕ) → Type 0 = λ p. IsTurnIn p.0 p.1 p.2 t in
          subst T (λ i. (kept i, seen i, (own ∙ sym put.same.1) i)) turned.turn_is);
    }

-- a chair that owed nothing owes what it found
pub turned-owes : (session : Session) (t : Turn) (c e : SchedChair) → HasTurned session t c e → owed c.own ≡ [] → owed e.own ≡ job_in t
turned-owes session t c e turned none = turned.owes ∙ ap (λ (jobs : List JobName). jobs ++ job_in t) none

-- for want of memory it put nothing
pub has-looked : (c d e : SchedChair) (lost : List ℕ) (was value now : SchedValue) (who : ℕ) (session : Session)
    → who ≡ c.number → d ≡ holding (losing c lost) (booked_acts was.history) → value ≡ was → Puts d (booked_acts now.history) e
    → was.session ≡ session → IsSched value → IsPrefix c.seen (booked_acts was.history) → acts_of c.number (booked_acts was.history) ≡ c.own
    → now ≡ value → PutsNothing c e
has-looked c d e lost was value now who session own held same puts is known begins knows nothing =
    puts-nothing session was.history c e
    (has-put c d e lost was value now who [] own held same (nothing ∙ adds-none who value) puts session is (subst IsSched same known) begins knows)

-- a job that the chair found it has taken
pub taken-turn : (session : Session) (task : Task) (c e : SchedChair) → HasTurned session (turn.Job task) c e → HasTaken session (job_of task) e
taken-turn session task c e turned = record {
  lawful = turned.lawful;
  knows = knows-put session turned.quietly.found turned.quietly.acts c e turned.quietly.put;
  last = turned.turn_is.0;
}
