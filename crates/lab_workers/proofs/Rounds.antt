-- A worker whose fields are known, in a round.
use Rattle.std.proofs.Common.{◌≡◌, ◌≢◌, ℕ, ◌<◌, List, [], ◌∷◌, ◌++◌, length, false, refl, sym, ap, subst, ◌∙◌, inl, inr, arith}
use Rattle.std.specs.Prelude.{◌⊎◌, IsTrue, Option, Some, None, slice_get, slice_set}
use Rattle.std.proofs.lemmas.List.{length-append, length-set}
use mathlib.Core.List.{IsPrefix}
use Rattle.desk.specs.Seated.{Opened}
use Rattle.desk_rule.specs.Histories.{Each}
use Rattle.desk_rule.proofs.Prefixes.{prefix_same, prefix_trans}
use Rattle.rtio_core.specs.declared.data.Config.{Config}
use Rattle.exp_model.specs.declared.session.Session.{Session}
use Rattle.sched_state.specs.declared.entry.JobName.{JobName}
use Rattle.sched_state.specs.Lawful.{halted_by, state_after}
use Rattle.sched_state.specs.Picks.{is_over}
use Rattle.sched_core.specs.Booked.{booked_acts}
use Rattle.stage_work.proofs.Cores.{set-at}
use Rattle.desk_kernels.specs.Chairs.{CoreChair, IsAt, IsSameChair}
use Rattle.worker_desks.specs.declared.desks.Desks.{Desks}
use Rattle.lab_workers.specs.declared.turns.Turn.{Turn}
use Rattle.lab_workers.specs.declared.turns.Turn.TheVariants as turn
use Rattle.lab_workers.specs.declared.worker.WorkEnd.{WorkEnd}
use Rattle.lab_workers.specs.declared.worker.WorkEnd.TheVariants.{Finished, Memory, Stopped}
use Rattle.lab_workers.specs.Idling.{AreAt, HaveWaited}
use Rattle.lab_workers.specs.Rounds.{ComesTo, GoesOn, IsEnd, IsEndIf, KeepsRest}
use Rattle.lab_workers.specs.Turns.{Follows, HasAsked, HasTurned, PutsQuietly}
use Rattle.lab_workers.specs.Workers.{IsAtRest, IsFree, IsWorkerAt, SchedChair, StandsWith, WorkerValue, owed, sched_entries}
use Rattle.lab_workers.proofs.Resting.{comes-trans, each-get, each-set, goes-same, goes-sched, goes-trans, keeps-quiet}
use Rattle.lab_workers.proofs.Leaving.{AreUsed}
use Rattle.lab_workers.proofs.Waiting.{goes-waited, keeps-waited}

-- the same chair still has the number, and holds nothing
pub free-follows : (n : ℕ) (c e : SchedChair) → IsFree n c → Follows c e → IsFree n e
free-follows n c e free follows = (follows.same.1 ∙ free.0, follows.same.2)

free-core : (n : ℕ) (cores : List CoreChair) (pipeline : ℕ) (was now : CoreChair) → Each (IsFree n) cores → slice_get cores pipeline ≡ Some was
    → IsSameChair was now → Each (IsFree n) (slice_set cores pipeline now)
free-core n cores pipeline was now free found same =
    each-set (IsFree n) cores pipeline now free (same.1 ∙ (each-get (IsFree n) cores pipeline was free found).0, same.2)

pub free-used : (n : ℕ) (old new : List CoreChair) → Each (IsFree n) old → AreUsed old new → Each (IsFree n) new
free-used n old new free (inl same) = subst (Each (IsFree n)) (sym same) free
free-used n old new free (inr (pipeline, was, now, found, same, set)) =
    subst (Each (IsFree n)) (sym set) (free-core n old pipeline was now free found same)

pub turned-as : (session : Session) (t other : Turn) (c e : SchedChair) → t ≡ other → HasTurned session t c e → HasTurned session other c e
turned-as session t other c e is = let T : Turn → Type 0 = λ x. HasTurned session x c e in subst T is

module _ (desks : Desks) (inside w : WorkerValue) (is : inside ≡ w) (at : IsWorkerAt desks w) where
  at-inside : IsWorkerAt desks inside
  at-inside = subst (IsWorkerAt desks) (sym is) at

  -- its chair at the scheduler's desk
  pub sched-at : inside.sched.holds ≡ false → IsAt desks.sched inside.sched
  sched-at free = (at-inside.sched, free)

  pub goes-turn : (e : SchedChair) → Follows inside.sched e → GoesOn desks w (record inside { sched = e })
  goes-turn e follows =
      let G : WorkerValue → Type 0 = λ v. GoesOn desks v (record inside { sched = e }) in
      subst G is (goes-sched desks inside e at-inside follows)

  pub keeps-turn : (e : SchedChair) → PutsQuietly desks.session inside.sched e → (jobs now : List JobName) → (owed inside.sched.own ≡ jobs → owed e.own ≡ now)
      → ComesTo desks.session jobs (StandsWith desks.session now) w (record inside { sched = e })
  keeps-turn e quietly jobs now owes =
      let K : WorkerValue → Type 0 = λ v. ComesTo desks.session jobs (StandsWith desks.session now) v (record inside { sched = e }) in
      subst K is (keeps-quiet desks.session inside e quietly jobs now owes)

  -- its chairs at the cores' desks
  pub cores-at : Each (IsFree inside.number) inside.cores → AreAt desks.cores.items inside.cores
  cores-at free = λ pipeline desk chair there found.
      (at-inside.cores pipeline desk chair there found, (each-get (IsFree inside.number) inside.cores pipeline chair free found).1)

  pub cores-count : length inside.cores ≡ length desks.cores.items
  cores-count = at-inside.count

  -- it waited at them
  pub goes-idle : (e : SchedChair) (cores : List CoreChair) → Follows inside.sched e → HaveWaited inside.cores cores
      → GoesOn desks w (record { number = inside.number; sched = e; cores = cores })
  goes-idle e cores follows waited =
      let first = goes-turn e follows in
      goes-trans desks w (record inside { sched = e }) (record { number = inside.number; sched = e; cores = cores }) first
      (goes-waited (record inside { sched = e }) cores waited desks first.at)

  pub keeps-idle : (e : SchedChair) (cores : List CoreChair) → PutsQuietly desks.session inside.sched e → (owed inside.sched.own ≡ [] → owed e.own ≡ [])
      → Each (IsFree inside.number) inside.cores
      → HaveWaited inside.cores cores → KeepsRest desks.session w (record { number = inside.number; sched = e; cores = cores })
  keeps-idle e cores quietly owes free waited =
      comes-trans desks.session [] [] (IsAtRest desks.session) w (record inside { sched = e }) (record { number = inside.number; sched = e; cores = cores })
      (keeps-turn e quietly [] [] owes)
      (keeps-waited (record inside { sched = e }) cores waited desks.session free)

  -- it used one of them
  goes-core : (pipeline : ℕ) (was now : CoreChair) → slice_get inside.cores pipeline ≡ Some was → IsSameChair was now
      → GoesOn desks w (record inside { cores = slice_set inside.cores pipeline now })
  goes-core pipeline was now found same =
      let G : WorkerValue → Type 0 = λ v. GoesOn desks v (record inside { cores = slice_set inside.cores pipeline now }) in
      subst G is (record {
        at = record {
          sched = at-inside.sched;
          count = length-set inside.cores pipeline now ∙ at-inside.count;
          cores = λ other desk chair there set. which other desk chair there (set-at inside.cores pipeline other now chair set);
        };
        later = record { number = refl; seen = prefix_same inside.sched.seen; own = prefix_same inside.sched.own; takings = prefix_same inside.sched.takings };
      })
    where
      which : (other : ℕ) (desk : Opened Config) (chair : CoreChair) → slice_get desks.cores.items other ≡ Some desk
          → ((other ≡ pipeline) × (chair ≡ now)) ⊎ ((other ≢ pipeline) × (slice_get inside.cores other ≡ Some chair))
          → chair.desk ≡ desk.id
      which other desk chair there (inl here) =
          let F : ℕ → Type 0 = λ n. slice_get inside.cores n ≡ Some was in
          ap (λ (c : CoreChair). c.desk) here.1 ∙ (same.0 ∙ at-inside.cores other desk was there (subst F (sym here.0) found))
      which other desk chair there (inr apart) = at-inside.cores other desk chair there apart.1

  -- or it was left alone
  goes-used : (cores : List CoreChair) → AreUsed inside.cores cores → GoesOn desks w (record inside { cores = cores })
  goes-used cores (inl same) =
      let G : List CoreChair → Type 0 = λ cs. GoesOn desks w (record inside { cores = cs }) in
      let V : WorkerValue → Type 0 = λ v. GoesOn desks v inside in
      subst G (sym same) (subst V is (goes-same desks inside at-inside))
  goes-used cores (inr (pipeline, was, now, found, same, set)) =
      let G : List CoreChair → Type 0 = λ cs. GoesOn desks w (record inside { cores = cs }) in
      subst G (sym set) (goes-core pipeline was now found same)

  -- and it was at the scheduler's desk
  pub goes-done : (e : SchedChair) (cores : List CoreChair) → AreUsed inside.cores cores → Follows inside.sched e
      → GoesOn desks w (record { number = inside.number; sched = e; cores = cores })
  goes-done e cores used follows =
      let first = goes-used cores used in
      goes-trans desks w (record inside { cores = cores }) (record { number = inside.number; sched = e; cores = cores }) first
      (goes-sched desks (record inside { cores = cores }) e first.at follows)

-- ---- an end

-- a taking more
pub taken-since : {X : Type 0} (before mid now : List X) (x : X) → IsPrefix before mid → now ≡ mid ++ x ∷ [] → length before < length now
taken-since before mid now x later is =
    omega (arith, ap length is, length-append mid (x ∷ []), ap length later.1, length-append before later.0)

-- the answer that the chair was given now
pub asks-here : (session : Session) (t : Turn) (was before now : SchedChair) → before ≡ was → HasTurned session t before now → HasAsked session t was now
asks-here session t was before now is turned =
    let T : SchedChair → Type 0 = λ c. IsPrefix c.takings before.takings in
    record { before = before; since = subst T is (prefix_same before.takings); turned = turned }

asked-since : (session : Session) (t : Turn) (was mid now : SchedChair) → IsPrefix was.takings mid.takings → HasAsked session t mid now → HasAsked session t was now
asked-since session t was mid now later asked = record {
  before = asked.before;
  since = prefix_trans was.takings mid.takings asked.before.takings later asked.since;
  turned = asked.turned;
}

pub end-since : (session : Session) (was mid now : SchedChair) (end : WorkEnd) → IsPrefix was.takings mid.takings → IsEnd session mid now end → IsEnd session was now end
end-since session was mid now Finished later ended = asked-since session turn.Over was mid now later ended
end-since session was mid now (Stopped by) later ended = asked-since session (turn.Stopped by) was mid now later ended
end-since session was mid now Memory later ended = absurd ended

asked-taken : (session : Session) (t : Turn) (was now : SchedChair) → HasAsked session t was now → length was.takings < length now.takings
asked-taken session t was now asked =
    let quietly = asked.turned.quietly in
    taken-since was.takings asked.before.takings now.takings (booked_acts quietly.found) asked.since quietly.put.took

-- it has taken the scheduler
pub end-taken : (session : Session) (was now : SchedChair) (end : WorkEnd) → IsEnd session was now end → length was.takings < length now.takings
end-taken session was now Finished ended = asked-taken session turn.Over was now ended
end-taken session was now (Stopped by) ended = asked-taken session (turn.Stopped by) was now ended
end-taken session was now Memory ended = absurd ended

module _ (session : Session) (was now : SchedChair) (end : WorkEnd) (ended : IsEnd session was now end) where
  pub end-finished : end ≡ Finished → (halted_by (sched_entries now.seen) ≡ None) × IsTrue (is_over (state_after session (sched_entries now.seen)))
  end-finished is = (subst (IsEnd session was now) is ended).turned.turn_is

  pub end-stopped : (by : ℕ) → end ≡ Stopped by → halted_by (sched_entries now.seen) ≡ Some by
  end-stopped by is = (subst (IsEnd session was now) is ended).turned.turn_is

  pub end-no-memory : end ≡ Memory → ⊥
  end-no-memory is = subst (IsEnd session was now) is ended

pub ends-as : (session : Session) (was now : SchedChair) (found : Option WorkEnd) (end : WorkEnd) → found ≡ Some end → IsEndIf session was now found
    → IsEnd session was now end
ends-as session was now found end is ended = subst (IsEndIf session was now) is ended
