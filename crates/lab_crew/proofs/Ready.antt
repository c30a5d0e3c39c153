-- A new crew may begin, and has room.
use Rattle.std.proofs.Common.{◌≡◌, ℕ, zero, suc, List, [], ◌∷◌, length, map, get_or, drop, refl, sym, ap, subst, ◌∙◌}
use Rattle.std.specs.Prelude.{Option, Some, None, option_map, slice_get}
use Rattle.std.specs.List.{All, AllByRecursion}
use Rattle.std.proofs.lemmas.List.{length-map}
use Rattle.std.proofs.lemmas.List.Elements.{All-from_recursion}
use Rattle.std.proofs.lemmas.Option.{none-some, same_Some, slice_get-map}
use Rattle.desk_rule.specs.Histories.{Each}
use Rattle.desk.specs.Seated.{Opened, new_chair}
use Rattle.desk.proofs.Seating.{length-new_chairs}
use Rattle.rtio_core.specs.Entries.{open_session}
use Rattle.rtio_core.specs.declared.data.Config.{Config}
use Rattle.sched_state.specs.declared.entry.SchedAct.{SchedAct}
use Rattle.lab_workers.proofs.Beginning.{tied-empty}
use Rattle.desk_kernels.specs.Chairs.{CoreChair, KnowsItsOwn, core_entries}
use Rattle.worker_desks.specs.declared.desks.Desks.{Desks}
use Rattle.lab_workers.specs.Workers.{AreDesksOf, IsAtRest, IsTiedAt, IsWorkerAt, SchedChair, WorkerValue, halts}
use Rattle.lab_crew.specs.declared.member.Member.{Member}
use Rattle.lab_desks.specs.Columns.{Row, items_of}
use Rattle.lab_desks.specs.Seats.{AreNewChairs}
use Rattle.lab_crew.specs.Crews.{MayWork, new_worker, new_workers}
use Rattle.lab_crew.proofs.Ended.{worker_of}

-- ---- how many they are

pub new-count : (workers : ℕ) (desks : Desks) (scheds : List SchedChair) (columns : List (Row CoreChair)) → AreNewChairs workers desks scheds columns → length scheds ≡ workers
new-count workers desks scheds columns new = ap length new.sched ∙ length-new_chairs SchedAct desks.sched.id 0 workers

pub new-columns : (workers : ℕ) (desks : Desks) (scheds : List SchedChair) (columns : List (Row CoreChair)) → AreNewChairs workers desks scheds columns → length columns ≡ length desks.cores.items
new-columns workers desks scheds columns new =
    sym (length-map columns items_of) ∙ ap length new.cores ∙ length-map desks.cores.items _

as-numbered : (desks : Desks) (count : ℕ) → length (new_workers desks count) ≡ count
as-numbered desks zero = refl
as-numbered desks (suc count) = ap suc (as-numbered desks count)

pub crew-count : (desks : Desks) (count : ℕ) (crew : List Member) → map worker_of crew ≡ new_workers desks count → length crew ≡ count
crew-count desks count crew new = sym (length-map crew worker_of) ∙ ap length new ∙ as-numbered desks count

-- ---- a worker that has new chairs

abbrev chair_of : ℕ → Opened Config → CoreChair
chair_of number desk = new_chair desk.id number

module _ (desks : Desks) (of : AreDesksOf desks) (number : ℕ) where
  -- its chair at a desk
  its-chair : (place : ℕ) (desk : Opened Config) (chair : CoreChair) → slice_get desks.cores.items place ≡ Some desk → slice_get (map (chair_of number) desks.cores.items) place ≡ Some chair → chair_of number desk ≡ chair
  its-chair place desk chair there at =
      same_Some (chair_of number desk) chair
      (ap (option_map (chair_of number)) (sym there) ∙ sym (slice_get-map (chair_of number) desks.cores.items place) ∙ at)

  new-at : IsWorkerAt desks (new_worker desks number)
  new-at = record {
    sched = refl;
    count = length-map desks.cores.items (chair_of number);
    cores = λ place desk chair there at. ap (λ (c : CoreChair). c.desk) (sym (its-chair place desk chair there at));
  }

  -- what holds of new chairs holds of each
  each-new : (P : CoreChair → Type 0) → ((desk : Opened Config) → P (chair_of number desk)) → (ds : List (Opened Config)) → Each P (map (chair_of number) ds)
  each-new P p [] = tt
  each-new P p (d ∷ ds) = (p d, each-new P p ds)

  new-tied : (place : ℕ) (chair : CoreChair) → slice_get (map (chair_of number) desks.cores.items) place ≡ Some chair → IsTiedAt desks.session (new_worker desks number) place chair
  new-tied place chair at = by (slice_get desks.cores.items place) refl
    where
      by : (o : Option (Opened Config)) → slice_get desks.cores.items place ≡ o → IsTiedAt desks.session (new_worker desks number) place chair
      by None none = absurd (none-some chair (sym (slice_get-map (chair_of number) desks.cores.items place ∙ ap (option_map (chair_of number)) none) ∙ at))
      by (Some desk) there =
          subst (IsTiedAt desks.session (new_worker desks number) place) (its-chair place desk chair there at)
          (desk.fixed, of.cores place desk there, tied-empty desks.session place desk.fixed number [] [])

  new-rest : IsAtRest desks.session (new_worker desks number)
  new-rest = record {
    sched_own = refl;
    core_own = each-new KnowsItsOwn (λ desk. refl) desks.cores.items;
    closed = each-new (λ (c : CoreChair). (rid : ℕ) → open_session (core_entries c.seen) ≡ Some (number, rid) → ⊥) (λ desk rid is. none-some (number, rid) is) desks.cores.items;
    tied = new-tied;
    judged = tt;
    owes = refl;
  }

  new-may : (member : Member) → member.worker ≡ new_worker desks number → MayWork desks member
  new-may member is = record {
    at = subst (IsWorkerAt desks) (sym is) new-at;
    rest = subst (IsAtRest desks.session) (sym is) new-rest;
    going = ap (λ (w : WorkerValue). halts w.sched) is;
  }

pub all-may : (desks : Desks) (count : ℕ) (crew : List Member) → AreDesksOf desks → map worker_of crew ≡ new_workers desks count → All (MayWork desks) crew
all-may desks count crew of new = All-from_recursion (MayWork desks) crew (each crew count new)
  where
    each : (ms : List Member) (n : ℕ) → map worker_of ms ≡ new_workers desks n → AllByRecursion (MayWork desks) ms
    each [] n is = tt
    each (m ∷ ms) zero is = absurd (cc)
    each (m ∷ ms) (suc n) is = (
      new-may desks of n m (ap (λ (l : List WorkerValue). get_or l 0 (new_worker desks n)) is),
      each ms n (ap (λ (l : List WorkerValue). drop 1 l) is),
    )
