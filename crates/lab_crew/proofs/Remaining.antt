-- What a finished crew leaves of the cores.
use Rattle.std.proofs.Common.{◌≡◌, ℕ, zero, suc, ◌+◌, ◌<◌, ◌≤◌, List, [], ◌∷◌, ◌++◌, length, map, refl, sym, ap, subst, ◌∙◌, ⊎_elim, arith}
use Rattle.std.specs.Prelude.{Option, Some, None, slice_get}
use Rattle.std.specs.List.{AllByRecursion}
use Rattle.std.proofs.lemmas.Bool.{cases_lt}
use Rattle.std.proofs.lemmas.List.Elements.{All-from_recursion}
use Rattle.std.proofs.lemmas.Option.{none-some, same_Some}
use mathlib.Core.List.{IsPrefix}
use Rattle.desk_rule.specs.Histories.{Each, acts_of}
use Rattle.desk_rule.proofs.Weights.{each_weaker}
use Rattle.desk.specs.Seated.{Opened}
use Rattle.rtio_core.specs.Booked.{booked_acts as booked_core}
use Rattle.rtio_core.specs.Core.{CoreState}
use Rattle.rtio_core.specs.Entries.{open_session}
use Rattle.rtio_core.specs.Lawful.{IsLawful}
use Rattle.rtio_core.specs.declared.data.Act.{Act}
use Rattle.rtio_core.specs.declared.data.Config.{Config}
use Rattle.rtio_core.specs.declared.data.Entry.{Entry}
use Rattle.sched_state.specs.declared.entry.SchedAct.{SchedAct}
use Rattle.sched_state.specs.declared.entry.SchedEntry.{SchedEntry}
use Rattle.sched_laws.specs.Workers.{FlyingJobsStand, OverStays}
use Rattle.sched_core.specs.Scheds.{SchedValue}
use Rattle.lab_workers.specs.Acts.{core_acts, sched_acts}
use Rattle.lab_workers.specs.Finished.{IsFinished, IsFinishedCore}
use Rattle.lab_workers.specs.Laws.{JudgementsLast, TiesLast}
use Rattle.lab_workers.specs.Settings.{config_at}
use Rattle.lab_workers.specs.Ties.{AreTied}
use Rattle.lab_workers.proofs.Beginning.{tied-empty}
use Rattle.desk_kernels.specs.Alone.{OpenSessionsWereOpenBefore}
use Rattle.desk_kernels.specs.Chairs.{CoreChair, KnowsItsOwn, core_entries}
use Rattle.desk_kernels.proofs.Seen.{booked-entries}
use Rattle.worker_desks.specs.declared.desks.Desks.{Desks}
use Rattle.lab_workers.specs.Workers.{IsFree, WorkerValue, sched_entries}
use Rattle.lab_workers.proofs.Entries.{core-further, sched-further}
use Rattle.lab_desks.specs.Closed.{AreClosed, IsClosedCore, IsClosedSched}
use Rattle.lab_desks.specs.Columns.{column}
use Rattle.lab_desks.specs.Seats.{AreSetFor}
use Rattle.lab_crew.specs.Crews.{IsCrewDone, IsFreeWorker}
use Rattle.lab_crew.proofs.Among.{below-each, none-behind}
use Rattle.lab_crew.proofs.Finishing.{Stands, finished-sched, stand}
use Rattle.lab_crew.proofs.Leaving.{AtPlace, HasPlace, both-each, each-get, has-place, of-column, of-number, rows_of}

of-core : (Q : ℕ → Type 0) (history : List Entry) → Each (λ (e : ℕ × Act). Q e.0) (booked_core history) → AllByRecursion (λ (entry : Entry). Q entry.chair) history
of-core Q [] all = tt
of-core Q (e ∷ es) all = (all.0, of-core Q es all.1)

-- a worker that is done, and its chair at a core, beside the closed histories
record StandsAt (desks : Desks) (sched : List SchedEntry) (place : ℕ) (history : List Entry) (w : WorkerValue) : Type 0 where
  stands : Stands desks.session sched w
  chair : CoreChair
  there : slice_get w.cores place ≡ Some chair
  seen : IsPrefix chair.seen (booked_core history)
  own : core_acts w.number history ≡ chair.own

module _ (desks : Desks) (ws : List WorkerValue) (set : AreSetFor desks.sched.chairs desks) (crew : IsCrewDone desks.sched.chairs desks ws) (free : Each IsFreeWorker ws)
    (sched : SchedValue) (closed-sched : IsClosedSched desks.sched (map (λ (w : WorkerValue). w.sched) ws) sched)
    (place : ℕ) (desk : Opened Config) (at : slice_get desks.cores.items place ≡ Some desk) (core : CoreState) (closed : IsClosedCore desk (column place (rows_of ws)) core) where
  stand-at : Each (StandsAt desks sched.history place core.history) ws
  stand-at =
      each_weaker
      (λ (w : WorkerValue). (Stands desks.session sched.history w × HasPlace place w) × (AtPlace (λ c. IsPrefix c.seen (booked_core core.history)) place w × AtPlace (λ c. acts_of c.number (booked_core core.history) ≡ c.own) place w))
      (StandsAt desks sched.history place core.history)
      (λ w a.
      let number = each-get (IsFree w.number) w.cores place a.0.1.0 a.0.0.free.1 a.0.1.1 in
      record {
        stands = a.0.0;
        chair = a.0.1.0;
        there = a.0.1.1;
        seen = a.1.0 a.0.1.0 a.0.1.1;
        own = ap (λ (n : ℕ). core_acts n core.history) (sym number.0) ∙ a.1.1 a.0.1.0 a.0.1.1;
      })
      ws
      (both-each (λ (w : WorkerValue). Stands desks.session sched.history w × HasPlace place w) (λ (w : WorkerValue). AtPlace (λ c. IsPrefix c.seen (booked_core core.history)) place w × AtPlace (λ c. acts_of c.number (booked_core core.history) ≡ c.own) place w) ws
      (both-each (Stands desks.session sched.history) (HasPlace place) ws (stand desks ws set crew free sched closed-sched) (has-place desks.sched.chairs desks ws set crew free place desk at))
      (both-each (AtPlace (λ c. IsPrefix c.seen (booked_core core.history)) place) (AtPlace (λ c. acts_of c.number (booked_core core.history) ≡ c.own) place) ws
      (of-column (λ c. IsPrefix c.seen (booked_core core.history)) place ws closed.closed.seen)
      (of-column (λ c. acts_of c.number (booked_core core.history) ≡ c.own) place ws closed.closed.own)))

  worker-at : (number : ℕ) → number < desks.sched.chairs → (w : WorkerValue) × (w.number ≡ number) × StandsAt desks sched.history place core.history w
  worker-at number low = of-number (StandsAt desks sched.history place core.history) ws number (crew.all number low) stand-at

  count : desk.chairs ≡ desks.sched.chairs
  count = each-get (λ (d : Opened Config). d.chairs ≡ desks.sched.chairs) desks.cores.items place desk set.cores at

  others : (number : ℕ) → desks.sched.chairs ≤ number → core_acts number core.history ≡ []
  others number above = closed.closed.others number (subst (λ (n : ℕ). n ≤ number) (sym count) above)

  config : config_at desks.session place ≡ Some core.config
  config = set.of.cores place desk at ∙ ap Some (sym closed.config)

  -- a session that is open would be one of a worker between two jobs
  not-open : OpenSessionsWereOpenBefore → (number rid : ℕ) → open_session core.history ≡ Some (number, rid) → ⊥
  not-open law number rid is = ⊎_elim
      (λ (low : number < desks.sched.chairs).
      let w = worker-at number low in
      let whole = core-further w.2.chair.seen core.history w.2.seen in
      let free-chair = each-get (IsFree w.0.number) w.0.cores place w.2.chair w.2.stands.free.1 w.2.there in
      let knows = each-get KnowsItsOwn w.0.cores place w.2.chair w.2.stands.done.rest.core_own w.2.there in
      let none =
      none-behind w.0.number w.2.chair.seen (booked_core core.history) w.2.chair.own w.2.seen
      (ap (λ (n : ℕ). acts_of n w.2.chair.seen) (sym free-chair.0) ∙ knows) w.2.own in
      let early =
      law core.config (core_entries w.2.chair.seen) (core_entries w.2.seen.0) w.0.number rid
      (subst (IsLawful core.config) whole closed.is_core.lawful)
      (ap open_session (sym whole) ∙ is ∙ ap (λ (n : ℕ). Some (n, rid)) (sym w.1))
      (ap (acts_of w.0.number) (booked-entries w.2.seen.0) ∙ none) in
      each-get (λ (c : CoreChair). (r : ℕ) → open_session (core_entries c.seen) ≡ Some (w.0.number, r) → ⊥) w.0.cores place w.2.chair w.2.stands.done.rest.closed w.2.there rid early)
      (λ above. none-some (number, rid) (law core.config [] core.history number rid closed.is_core.lawful is (others number above)))
      (cases_lt number desks.sched.chairs)

  all-closed : OpenSessionsWereOpenBefore → open_session core.history ≡ None
  all-closed law = by (open_session core.history) refl
    where
      by : (o : Option (ℕ × ℕ)) → open_session core.history ≡ o → open_session core.history ≡ None
      by None is = is
      by (Some running) is = absurd (not-open law running.0 running.1 is)

  tied : TiesLast → (number : ℕ) → AreTied desks.session place core.config number sched.history (sched_acts number sched.history) core.history (core_acts number core.history)
  tied law number = ⊎_elim
      (λ (low : number < desks.sched.chairs).
      let w = worker-at number low in
      let t = w.2.stands.done.rest.tied place w.2.chair w.2.there in
      let same : t.0 ≡ core.config = same_Some t.0 core.config (sym t.1 ∙ config) in
      let whole-sched = sched-further w.0.sched.seen sched.history w.2.stands.seen in
      let whole-core = core-further w.2.chair.seen core.history w.2.seen in
      let lasts =
      law desks.session place t.0 w.0.number (sched_entries w.0.sched.seen) (sched_entries w.2.stands.seen.0) w.0.sched.own
      (core_entries w.2.chair.seen) (core_entries w.2.seen.0) w.2.chair.own t.2 in
      subst (λ (n : ℕ). AreTied desks.session place core.config n sched.history (sched_acts n sched.history) core.history (core_acts n core.history)) w.1
      (subst (λ (c : Config). AreTied desks.session place c w.0.number sched.history (sched_acts w.0.number sched.history) core.history (core_acts w.0.number core.history)) same
      (subst (λ (reports : List SchedAct). AreTied desks.session place t.0 w.0.number sched.history reports core.history (core_acts w.0.number core.history)) (sym w.2.stands.own)
      (subst (λ (acts : List Act). AreTied desks.session place t.0 w.0.number sched.history w.0.sched.own core.history acts) (sym w.2.own)
      (subst (λ (h : List SchedEntry). AreTied desks.session place t.0 w.0.number h w.0.sched.own core.history w.2.chair.own) (sym whole-sched)
      (subst (λ (h : List Entry). AreTied desks.session place t.0 w.0.number (sched_entries w.0.sched.seen ++ sched_entries w.2.stands.seen.0) w.0.sched.own h w.2.chair.own) (sym whole-core)
      lasts))))))
      (λ above.
      subst (λ (reports : List SchedAct). AreTied desks.session place core.config number sched.history reports core.history (core_acts number core.history)) (sym (closed-sched.closed.others number above))
      (subst (λ (acts : List Act). AreTied desks.session place core.config number sched.history [] core.history acts) (sym (others number above))
      (tied-empty desks.session place core.config number sched.history core.history)))
      (cases_lt number desks.sched.chairs)

  pub finished-core : TiesLast → OpenSessionsWereOpenBefore → IsFinishedCore desks.session desks.sched.chairs sched.history place core
  finished-core ties stay = record {
    config = config;
    closed = all-closed stay;
    chairs =
        All-from_recursion (λ (entry : Entry). entry.chair < desks.sched.chairs) core.history
        (of-core (λ chair. chair < desks.sched.chairs) core.history (below-each desks.sched.chairs (booked_core core.history) others));
    tied = tied ties;
  }

-- ---- all cores

pub closed-count : (rows : List (List CoreChair)) (place : ℕ) (desks : List (Opened Config)) (cores : List CoreState) → AreClosed rows place desks cores → length cores ≡ length desks
closed-count rows place [] [] c = refl
closed-count rows place (d ∷ desks) (core ∷ cores) c = ap suc (closed-count rows (suc place) desks cores c.1)
closed-count rows place desks cores c = absurd c

pub closed-at : (rows : List (List CoreChair)) (place : ℕ) (desks : List (Opened Config)) (cores : List CoreState) → AreClosed rows place desks cores
    → (i : ℕ) (core : CoreState) → slice_get cores i ≡ Some core → (desk : Opened Config) × (slice_get desks i ≡ Some desk) × IsClosedCore desk (column (place + i) rows) core
closed-at rows place [] [] c i core at = absurd (none-some core at)
closed-at rows place (d ∷ desks) (one ∷ cores) c zero core at = (
  d,
  refl,
  subst (λ (n : ℕ). IsClosedCore d (column n rows) core) (omega arith)
      (subst (IsClosedCore d (column place rows)) (same_Some one core at) c.0),
)
closed-at rows place (d ∷ desks) (one ∷ cores) c (suc i) core at =
    let later = closed-at rows (suc place) desks cores c.1 i core at in
    (later.0, later.1, subst (λ (n : ℕ). IsClosedCore later.0 (column n rows) core) (omega arith) later.2)
closed-at rows place desks cores c i core at = absurd c

-- all that a finished crew leaves
pub finished : TiesLast → JudgementsLast → OpenSessionsWereOpenBefore → OverStays → FlyingJobsStand
    → (desks : Desks) (ws : List WorkerValue) (sched : SchedValue) (cores : List CoreState) → 0 < desks.sched.chairs
    → AreSetFor desks.sched.chairs desks → IsCrewDone desks.sched.chairs desks ws → Each IsFreeWorker ws
    → IsClosedSched desks.sched (map (λ (w : WorkerValue). w.sched) ws) sched → AreClosed (rows_of ws) 0 desks.cores.items cores
    → IsFinished desks.session desks.sched.chairs sched cores
finished ties judge stays stay fly desks ws sched cores some set crew free closed closed-cores = record {
  scheduler = finished-sched desks ws set crew free sched closed judge stay fly some;
  count = closed-count (rows_of ws) 0 desks.cores.items cores closed-cores ∙ set.of.count;
  each = λ place core at.
      let c = closed-at (rows_of ws) 0 desks.cores.items cores closed-cores place core at in
      finished-core desks ws set crew free sched closed place c.0 c.1 core
      (subst (λ (n : ℕ). IsClosedCore c.0 (column n (rows_of ws)) core) (omega arith) c.2) ties stays;
}
