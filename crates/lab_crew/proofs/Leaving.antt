-- What a finished crew leaves, from what closing its desks says of the chairs.
use Rattle.std.proofs.Common.{◌≡◌, ℕ, zero, suc, ◌<◌, List, [], ◌∷◌, length, map, drop, get_or, refl, sym, ap, subst, ◌∙◌, ⊎_elim, inl, inr, arith}
use Rattle.std.specs.Prelude.{Option, Some, None, slice_get, false}
use Rattle.std.specs.List.{All, AllByRecursion, cons_option}
use Rattle.std.proofs.lemmas.List.{length-map}
use Rattle.std.proofs.lemmas.List.Elements.{All-from_recursion, recursion_from_All}
use Rattle.std.proofs.lemmas.Option.{none-some, same_Some, slice_get_within}
use Rattle.desk_rule.specs.Histories.{Each}
use Rattle.desk_rule.proofs.Weights.{each_weaker}
use Rattle.desk.specs.Closing.{HasNumber}
use Rattle.desk.specs.Seated.{Opened}
use Rattle.rtio_core.specs.declared.data.Config.{Config}
use Rattle.desk_kernels.specs.Chairs.{CoreChair}
use Rattle.worker_desks.specs.declared.desks.Desks.{Desks}
use Rattle.lab_workers.specs.Workers.{IsFree, IsWorkerAt, SchedChair, WorkerValue}
use Rattle.lab_crew.specs.declared.member.Member.{Member}
use Rattle.lab_desks.specs.Closed.{AreChairsOf}
use Rattle.lab_desks.specs.Columns.{Row, column, items_of}
use Rattle.lab_desks.specs.Seats.{AreSetFor}
use Rattle.lab_crew.specs.Crews.{HasWorker, IsCrewDone, IsFreeWorker}
use Rattle.lab_crew.proofs.Ended.{worker_of}

-- ---- of one worker among all

-- what holds of each worker holds of one with a number
pub of-number : (P : WorkerValue → Type 0) (ws : List WorkerValue) (number : ℕ) → HasWorker ws number → Each P ws → (w : WorkerValue) × (w.number ≡ number) × P w
of-number P [] number h all = absurd h
of-number P (w ∷ ws) number h all = ⊎_elim (λ (e : w.number ≡ number). (w, e, all.0)) (λ t. of-number P ws number t all.1) h

pub both-each : (P Q : WorkerValue → Type 0) (ws : List WorkerValue) → Each P ws → Each Q ws → Each (λ w. P w × Q w) ws
both-each P Q [] p q = tt
both-each P Q (w ∷ ws) p q = ((p.0, q.0), both-each P Q ws p.1 q.1)

-- of the chairs at the scheduler
pub of-scheds : (P : SchedChair → Type 0) (ws : List WorkerValue) → Each P (map (λ (w : WorkerValue). w.sched) ws) → Each (λ w. P w.sched) ws
of-scheds P [] all = tt
of-scheds P (w ∷ ws) all = (all.0, of-scheds P ws all.1)

pub to-scheds : (P : SchedChair → Type 0) (ws : List WorkerValue) → Each (λ w. P w.sched) ws → Each P (map (λ (w : WorkerValue). w.sched) ws)
to-scheds P [] all = tt
to-scheds P (w ∷ ws) all = (all.0, to-scheds P ws all.1)

abbrev pub rows_of : List WorkerValue → List (List CoreChair)
rows_of ws = map (λ (w : WorkerValue). w.cores) ws

-- what holds of each chair at a place, and of each worker's at this place
abbrev pub AtPlace : (CoreChair → Type 0) → ℕ → WorkerValue → Type 0
AtPlace P place w = (chair : CoreChair) → slice_get w.cores place ≡ Some chair → P chair

some-is : {X : Type 0} (P : X → Type 0) (x y : X) → Some x ≡ Some y → P x → P y
some-is P x y e p = subst P (same_Some x y e) p

front-of : (P : CoreChair → Type 0) (o : Option CoreChair) (rest : List CoreChair) → Each P (cons_option o rest) → ((chair : CoreChair) → o ≡ Some chair → P chair) × Each P rest
front-of P None rest all = ((λ chair e. absurd (none-some _ e)), all)
front-of P (Some c) rest all = ((λ chair e. some-is P c chair e all.0), all.1)

onto : (P : CoreChair → Type 0) (o : Option CoreChair) (rest : List CoreChair) → ((chair : CoreChair) → o ≡ Some chair → P chair) → Each P rest → Each P (cons_option o rest)
onto P None rest here all = all
onto P (Some c) rest here all = (here c refl, all)

pub of-column : (P : CoreChair → Type 0) (place : ℕ) (ws : List WorkerValue) → Each P (column place (rows_of ws)) → Each (AtPlace P place) ws
of-column P place [] all = tt
of-column P place (w ∷ ws) all = let f = front-of P (slice_get w.cores place) (column place (rows_of ws)) all in (f.0, of-column P place ws f.1)

pub to-column : (P : CoreChair → Type 0) (place : ℕ) (ws : List WorkerValue) → Each (AtPlace P place) ws → Each P (column place (rows_of ws))
to-column P place [] all = tt
to-column P place (w ∷ ws) all = onto P (slice_get w.cores place) (column place (rows_of ws)) all.0 (to-column P place ws all.1)

pub each-get : {X : Type 0} (P : X → Type 0) (xs : List X) (i : ℕ) (x : X) → Each P xs → slice_get xs i ≡ Some x → P x
each-get P [] i x all at = absurd (none-some x at)
each-get P (y ∷ xs) zero x all at = some-is P y x at all.0
each-get P (y ∷ xs) (suc i) x all at = each-get P xs i x all.1 at

-- a number that a worker has is that of a chair of its
pub sched-number : (ws : List WorkerValue) (number : ℕ) → HasWorker ws number → Each IsFreeWorker ws → HasNumber (map (λ (w : WorkerValue). w.sched) ws) number
sched-number [] number h free = absurd h
sched-number (w ∷ ws) number h free = ⊎_elim
    (λ (e : w.number ≡ number). inl (free.0.0.0 ∙ e))
    (λ t. inr (sched-number ws number t free.1)) h

behind : (o : Option CoreChair) (rest : List CoreChair) (number : ℕ) → HasNumber rest number → HasNumber (cons_option o rest) number
behind None rest number h = h
behind (Some c) rest number h = inr h

here : (o : Option CoreChair) (rest : List CoreChair) (number : ℕ) (c : CoreChair) → o ≡ Some c → c.number ≡ number → HasNumber (cons_option o rest) number
here None rest number c e is = absurd (none-some _ e)
here (Some d) rest number c e is = inl (some-is (λ (x : CoreChair). x.number ≡ number) c d (sym e) is)

-- the worker has a chair at this place
abbrev pub HasPlace : ℕ → WorkerValue → Type 0
HasPlace place w = (chair : CoreChair) × (slice_get w.cores place ≡ Some chair)

pub core-number : (place : ℕ) (ws : List WorkerValue) (number : ℕ) → HasWorker ws number → Each IsFreeWorker ws → Each (HasPlace place) ws → HasNumber (column place (rows_of ws)) number
core-number place [] number h free there = absurd h
core-number place (w ∷ ws) number h free there = ⊎_elim
    (λ (e : w.number ≡ number).
    here (slice_get w.cores place) (column place (rows_of ws)) number there.0.0 there.0.1
    ((each-get (IsFree w.number) w.cores place there.0.0 free.0.1 there.0.1).0 ∙ e))
    (λ t. behind (slice_get w.cores place) (column place (rows_of ws)) number (core-number place ws number t free.1 there.1)) h

-- ---- what was gathered is that of the workers

pub gathered-scheds : (crew : List Member) → map (λ (m : Member). m.worker.sched) crew ≡ map (λ (w : WorkerValue). w.sched) (map worker_of crew)
gathered-scheds [] = refl
gathered-scheds (m ∷ crew) = ap (λ (l : List SchedChair). m.worker.sched ∷ l) (gathered-scheds crew)

pub gathered-rows : (crew : List Member) → map (λ (m : Member). m.worker.cores) crew ≡ rows_of (map worker_of crew)
gathered-rows [] = refl
gathered-rows (m ∷ crew) = ap (λ (l : List (List CoreChair)). m.worker.cores ∷ l) (gathered-rows crew)

pub gathered-free : (crew : List Member) → All (λ (m : Member). IsFreeWorker m.worker) crew → Each IsFreeWorker (map worker_of crew)
gathered-free crew all = each crew (recursion_from_All (λ (m : Member). IsFreeWorker m.worker) crew all)
  where
    each : (ms : List Member) → AllByRecursion (λ (m : Member). IsFreeWorker m.worker) ms → Each IsFreeWorker (map worker_of ms)
    each [] h = tt
    each (m ∷ ms) h = (h.0, each ms h.1)

pub gathered-count : (rows : List (Row CoreChair)) (crew : List Member) → map items_of rows ≡ map (λ (m : Member). m.worker.cores) crew → length rows ≡ length crew
gathered-count rows crew is = sym (length-map rows items_of) ∙ ap length is ∙ length-map crew (λ (m : Member). m.worker.cores)

-- ---- what closing asks

module _ (workers : ℕ) (desks : Desks) (ws : List WorkerValue) (set : AreSetFor workers desks) (done : IsCrewDone workers desks ws) (free : Each IsFreeWorker ws) where
  pub sched-chairs : AreChairsOf desks.sched (map (λ (w : WorkerValue). w.sched) ws)
  sched-chairs = record {
    of =
        to-scheds (λ (c : SchedChair). (c.desk ≡ desks.sched.id) × (c.holds ≡ false)) ws
        (each_weaker (λ (w : WorkerValue). IsWorkerAt desks w × IsFreeWorker w) (λ w. (w.sched.desk ≡ desks.sched.id) × (w.sched.holds ≡ false))
        (λ w b. (b.0.sched, b.1.0.1)) ws (both-each (IsWorkerAt desks) IsFreeWorker ws done.at free));
    all = λ number low. sched-number ws number (done.all number (subst (λ (n : ℕ). number < n) set.sched low)) free;
  }

  -- each worker has a chair at each desk
  pub has-place : (place : ℕ) (desk : Opened Config) → slice_get desks.cores.items place ≡ Some desk → Each (HasPlace place) ws
  has-place place desk there =
      each_weaker (IsWorkerAt desks) (HasPlace place)
      (λ w at.
      let low = slice_get_within desks.cores.items place desk there in
      let count = at.count in
      found w.cores place (omega (arith, low, count)))
      ws done.at
    where
      found : (cs : List CoreChair) (i : ℕ) → i < length cs → (chair : CoreChair) × (slice_get cs i ≡ Some chair)
      found [] i low = absurd (omega arith)
      found (c ∷ cs) zero low = (c, refl)
      found (c ∷ cs) (suc i) low = found cs i (omega arith)

  pub core-chairs : (place : ℕ) (desk : Opened Config) → slice_get desks.cores.items place ≡ Some desk → AreChairsOf desk (column place (rows_of ws))
  core-chairs place desk there = record {
    of =
        to-column (λ (c : CoreChair). (c.desk ≡ desk.id) × (c.holds ≡ false)) place ws
        (each_weaker (λ (w : WorkerValue). IsWorkerAt desks w × IsFreeWorker w) (AtPlace (λ (c : CoreChair). (c.desk ≡ desk.id) × (c.holds ≡ false)) place)
        (λ w b chair at. (b.0.cores place desk chair there at, (each-get (IsFree w.number) w.cores place chair b.1.1 at).1))
        ws (both-each (IsWorkerAt desks) IsFreeWorker ws done.at free));
    all = λ number low.
        core-number place ws number
        (done.all number (subst (λ (n : ℕ). number < n) (each-get (λ (d : Opened Config). d.chairs ≡ workers) desks.cores.items place desk set.cores there) low))
        free (has-place place desk there);
  }

  -- as many as there are desks
  pub row-lengths : (rows : List (Row CoreChair)) → map items_of rows ≡ rows_of ws → All (λ (row : Row CoreChair). length row.items ≡ length desks.cores.items) rows
  row-lengths rows is = All-from_recursion (λ (row : Row CoreChair). length row.items ≡ length desks.cores.items) rows (each rows ws is done.at)
    where
      each : (vs : List (Row CoreChair)) (us : List WorkerValue) → map items_of vs ≡ rows_of us → Each (IsWorkerAt desks) us
          → AllByRecursion (λ (row : Row CoreChair). length row.items ≡ length desks.cores.items) vs
      each [] us same at = tt
      each (v ∷ vs) [] same at = absurd (cc)
      each (v ∷ vs) (u ∷ us) same at = (
        ap (λ (l : List (List CoreChair)). length (get_or l 0 [])) same ∙ at.0.count,
        each vs us (ap (λ (l : List (List CoreChair)). drop 1 l) same) at.1,
      )
