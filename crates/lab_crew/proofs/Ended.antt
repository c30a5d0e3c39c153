-- Members that have worked, beside those that began.
use Rattle.std.proofs.Common.{◌≡◌, ℕ, zero, suc, ◌<◌, List, [], ◌∷◌, length, get_or, map, refl, sym, ap, subst, ◌∙◌, ⊎_elim, inl, inr, arith}
use Rattle.std.specs.Prelude.{Some}
use Rattle.std.specs.List.{All, AllByRecursion, AllZip}
use Rattle.std.proofs.lemmas.List.Elements.{recursion_from_All}
use Rattle.std.proofs.lemmas.Bool.{cases_lt}
use Rattle.desk_rule.specs.Histories.{Each}
use Rattle.worker_desks.specs.declared.desks.Desks.{Desks}
use Rattle.lab_workers.specs.declared.worker.WorkEnd.TheVariants.{Finished}
use Rattle.lab_workers.specs.Workers.{IsWorkerAt, WorkerValue}
use Rattle.lab_crew.specs.declared.member.Member.{Member}
use Rattle.lab_crew.specs.Crews.{HasWorked, HasWorker, IsCrewDone, IsDone, new_workers}

module _ {X : Type 0} where
  -- what holds at each place holds of the lists
  pub zip-by-place : (R : X → X → Type 0) (xs ys : List X) → length ys ≡ length xs
      → ((i : ℕ) (d : X) → i < length xs → R (get_or xs i d) (get_or ys i d)) → AllZip R xs ys
  zip-by-place R [] [] same each = tt
  zip-by-place R [] (y ∷ ys) same each = absurd (omega arith)
  zip-by-place R (x ∷ xs) [] same each = absurd (omega arith)
  zip-by-place R (x ∷ xs) (y ∷ ys) same each =
      (each 0 x (omega arith), zip-by-place R xs ys (omega arith) (λ i d low. each (suc i) d (omega arith)))

abbrev pub worker_of : Member → WorkerValue
worker_of member = member.worker

module _ (desks : Desks) where
  numbers-stay : (olds news : List Member) (number : ℕ) → AllZip (HasWorked desks) olds news → HasWorker (map worker_of olds) number → HasWorker (map worker_of news) number
  numbers-stay [] [] number z h = absurd h
  numbers-stay [] (n ∷ news) number z h = absurd z
  numbers-stay (o ∷ olds) [] number z h = absurd z
  numbers-stay (o ∷ olds) (n ∷ news) number z h = ⊎_elim
      (λ (e : o.worker.number ≡ number). inl (z.0.number ∙ e))
      (λ t. inr (numbers-stay olds news number z.1 t)) h

  -- there is a new worker of each number
  new-numbers : (count number : ℕ) → number < count → HasWorker (new_workers desks count) number
  new-numbers zero number low = absurd (omega arith)
  new-numbers (suc count) number low = ⊎_elim
      (λ (below : number < count). inr (new-numbers count number below))
      (λ above. inl (omega arith)) (cases_lt number count)

  all-at : (olds news : List Member) → AllZip (HasWorked desks) olds news → Each (IsWorkerAt desks) (map worker_of news)
  all-at [] [] z = tt
  all-at [] (n ∷ news) z = absurd z
  all-at (o ∷ olds) [] z = absurd z
  all-at (o ∷ olds) (n ∷ news) z = (z.0.at, all-at olds news z.1)

  all-done : (olds news : List Member) → AllZip (HasWorked desks) olds news → AllByRecursion (λ (m : Member). m.end ≡ Some Finished) news
      → Each (IsDone desks.session) (map worker_of news)
  all-done [] [] z ended = tt
  all-done [] (n ∷ news) z ended = absurd z
  all-done (o ∷ olds) [] z ended = absurd z
  all-done (o ∷ olds) (n ∷ news) z ended = (z.0.done ended.0, all-done olds news z.1 ended.1)

  -- where each ended since nothing was left, all is done
  pub crew-done : (workers : ℕ) (olds news : List Member) → map worker_of olds ≡ new_workers desks workers → AllZip (HasWorked desks) olds news
      → All (λ (m : Member). m.end ≡ Some Finished) news → IsCrewDone workers desks (map worker_of news)
  crew-done workers olds news new z ended = record {
    at = all-at olds news z;
    done = all-done olds news z (recursion_from_All (λ (m : Member). m.end ≡ Some Finished) news ended);
    all = λ number low.
        numbers-stay olds news number z
        (subst (λ (ws : List WorkerValue). HasWorker ws number) (sym new) (new-numbers workers number low));
  }

  pub as-many : (olds news : List Member) → AllZip (HasWorked desks) olds news → length news ≡ length olds
  as-many [] [] z = refl
  as-many [] (n ∷ news) z = absurd z
  as-many (o ∷ olds) [] z = absurd z
  as-many (o ∷ olds) (n ∷ news) z = ap suc (as-many olds news z.1)
