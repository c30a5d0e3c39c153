-- What a finished crew leaves of the scheduler.
use Rattle.std.proofs.Common.{◌≡◌, ℕ, ◌<◌, List, [], ◌∷◌, map, false, sym, ap, subst, ◌∙◌}
use Rattle.std.specs.Prelude.{IsTrue}
use Rattle.std.specs.List.{AllByRecursion}
use Rattle.std.proofs.lemmas.List.Elements.{All-from_recursion}
use mathlib.Core.List.{IsPrefix}
use Rattle.desk_rule.specs.Histories.{Each, acts_of}
use Rattle.desk_rule.proofs.Weights.{each_weaker}
use Rattle.exp_model.specs.declared.session.Session.{Session}
use Rattle.sched_state.specs.declared.entry.SchedAct.{SchedAct}
use Rattle.sched_state.specs.declared.entry.SchedEntry.{SchedEntry}
use Rattle.sched_state.specs.Lawful.{IsLawful, state_after}
use Rattle.sched_state.specs.Picks.{is_over}
use Rattle.sched_laws.specs.Workers.{FlyingJobsStand, OverStays}
use Rattle.sched_core.specs.Booked.{booked_acts as booked_sched}
use Rattle.sched_core.specs.Scheds.{SchedValue}
use Rattle.lab_workers.specs.Acts.{sched_acts}
use Rattle.lab_workers.specs.Finished.{IsFinishedSched}
use Rattle.lab_workers.specs.Judged.{IsJudged}
use Rattle.lab_workers.specs.Laws.{JudgementsLast}
use Rattle.worker_desks.specs.declared.desks.Desks.{Desks}
use Rattle.lab_workers.specs.Workers.{SchedChair, WorkerValue, is_halt, sched_entries}
use Rattle.lab_workers.proofs.Entries.{sched-further}
use Rattle.lab_desks.specs.Closed.{IsClosedSched}
use Rattle.lab_desks.specs.Seats.{AreSetFor}
use Rattle.lab_crew.specs.Crews.{IsCrewDone, IsDone, IsFreeWorker}
use Rattle.lab_crew.proofs.Among.{below-each, each-act}
use Rattle.lab_crew.proofs.Leaving.{both-each, of-number, of-scheds}
use Rattle.lab_crew.proofs.Over.{flying-none, no-halt, none-filtered}

-- ---- entries in the words of the values

of-sched : (Q : ℕ → SchedAct → Type 0) (history : List SchedEntry) → Each (λ (e : ℕ × SchedAct). Q e.0 e.1) (booked_sched history) → AllByRecursion (λ (entry : SchedEntry). Q entry.chair entry.act) history
of-sched Q [] all = tt
of-sched Q (e ∷ es) all = (all.0, of-sched Q es all.1)

-- ---- the scheduler

-- a worker that is done, beside the closed history of the scheduler
pub record Stands (session : Session) (history : List SchedEntry) (w : WorkerValue) : Type 0 where
  pub free : IsFreeWorker w
  pub done : IsDone session w
  pub seen : IsPrefix w.sched.seen (booked_sched history)
  pub own : sched_acts w.number history ≡ w.sched.own

module _ (desks : Desks) (ws : List WorkerValue) (set : AreSetFor desks.sched.chairs desks) (crew : IsCrewDone desks.sched.chairs desks ws) (free : Each IsFreeWorker ws)
    (sched : SchedValue) (closed : IsClosedSched desks.sched (map (λ (w : WorkerValue). w.sched) ws) sched) where
  pub stand : Each (Stands desks.session sched.history) ws
  stand =
      each_weaker
      (λ (w : WorkerValue). (IsFreeWorker w × IsDone desks.session w) × (IsPrefix w.sched.seen (booked_sched sched.history) × (acts_of w.sched.number (booked_sched sched.history) ≡ w.sched.own)))
      (Stands desks.session sched.history)
      (λ w a. record {
        free = a.0.0;
        done = a.0.1;
        seen = a.1.0;
        own = ap (λ (n : ℕ). sched_acts n sched.history) (sym a.0.0.0.0) ∙ a.1.1;
      })
      ws
      (both-each (λ (w : WorkerValue). IsFreeWorker w × IsDone desks.session w) (λ (w : WorkerValue). IsPrefix w.sched.seen (booked_sched sched.history) × (acts_of w.sched.number (booked_sched sched.history) ≡ w.sched.own)) ws
      (both-each IsFreeWorker (IsDone desks.session) ws free crew.done)
      (both-each (λ (w : WorkerValue). IsPrefix w.sched.seen (booked_sched sched.history)) (λ (w : WorkerValue). acts_of w.sched.number (booked_sched sched.history) ≡ w.sched.own) ws
      (of-scheds (λ (c : SchedChair). IsPrefix c.seen (booked_sched sched.history)) ws closed.closed.seen)
      (of-scheds (λ (c : SchedChair). acts_of c.number (booked_sched sched.history) ≡ c.own) ws closed.closed.own)))

  -- the worker with a number
  pub worker : (number : ℕ) → number < desks.sched.chairs → (w : WorkerValue) × (w.number ≡ number) × Stands desks.session sched.history w
  worker number low = of-number (Stands desks.session sched.history) ws number (crew.all number low) stand

  below : Each (λ (e : ℕ × SchedAct). e.0 < desks.sched.chairs) (booked_sched sched.history)
  below = below-each desks.sched.chairs (booked_sched sched.history) closed.closed.others

  -- what holds of the acts that each worker put holds of all
  of-all : (P : SchedAct → Type 0) → ((w : WorkerValue) → Stands desks.session sched.history w → Each P w.sched.own) → AllByRecursion (λ (entry : SchedEntry). P entry.act) sched.history
  of-all P own =
      of-sched (λ _ what. P what) sched.history
      (each-act P desks.sched.chairs (booked_sched sched.history) below
      (λ k low.
      let w = worker k low in
      subst (λ (n : ℕ). Each P (sched_acts n sched.history)) w.1
      (subst (Each P) (sym w.2.own) (own w.0 w.2))))

  judged : JudgementsLast → AllByRecursion (λ (entry : SchedEntry). IsJudged desks.session sched.history entry.act) sched.history
  judged law =
      of-all (IsJudged desks.session sched.history)
      (λ w s.
      each_weaker (IsJudged desks.session (sched_entries w.sched.seen)) (IsJudged desks.session sched.history)
      (λ what j.
      subst (λ (h : List SchedEntry). IsJudged desks.session h what) (sym (sched-further w.sched.seen sched.history s.seen))
      (law desks.session (sched_entries w.sched.seen) (sched_entries s.seen.0) what j))
      w.sched.own s.done.rest.judged)

  same : sched.session ≡ desks.session
  same = closed.session ∙ set.of.sched

  lawful : IsLawful desks.session sched.history
  lawful = subst (λ (s : Session). IsLawful s sched.history) same closed.is_sched.lawful

  over : OverStays → 0 < desks.sched.chairs → IsTrue (is_over (state_after desks.session sched.history))
  over law some =
      let w = worker 0 some in
      let whole = sched-further w.0.sched.seen sched.history w.2.seen in
      let stays =
      law desks.session (sched_entries w.0.sched.seen) (sched_entries w.2.seen.0) set.of.session
      (subst (IsLawful desks.session) whole lawful) w.2.done.over in
      subst (λ (h : List SchedEntry). IsTrue (is_over (state_after desks.session h))) (sym whole)
      (subst (λ s. IsTrue (is_over s)) (sym stays.0) w.2.done.over)

  pub finished-sched : JudgementsLast → OverStays → FlyingJobsStand → 0 < desks.sched.chairs → IsFinishedSched desks.session desks.sched.chairs sched
  finished-sched judge stay fly some = record {
    session_is = same;
    flying_is =
        ap (λ (s : Session). (state_after s sched.history).flying) same
        ∙ flying-none fly desks.session sched.history set.of.session lawful (over stay some);
    over = subst (λ (s : Session). IsTrue (is_over (state_after s sched.history))) (sym same) (over stay some);
    going = no-halt sched.history (of-all (λ what. is_halt what ≡ false) (λ w s. none-filtered w.sched.own s.done.going));
    chairs =
        All-from_recursion (λ (entry : SchedEntry). entry.chair < desks.sched.chairs) sched.history
        (of-sched (λ chair _. chair < desks.sched.chairs) sched.history below);
    judged =
        All-from_recursion (λ (entry : SchedEntry). IsJudged desks.session sched.history entry.act) sched.history (judged judge);
  }
