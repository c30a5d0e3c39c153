-- Workers that get their chairs one after another, from the last number on.
use Rattle.std.proofs.Common.{◌≡◌, ℕ, suc, ◌+◌, ◌<◌, ◌≤◌, List, [], ◌∷◌, ◌++◌, length, map, get_or, drop, refl, sym, ap, subst, ◌∙◌, arith, length-append}
use Rattle.std.specs.Prelude.{Option, Some, vec_capacity}
use Rattle.std.specs.List.{All, AllByRecursion, cons_option}
use Rattle.std.proofs.lemmas.List.{append-nil, append_assoc, map-append, same_from_push}
use Rattle.std.proofs.lemmas.List.Elements.{All-from_recursion}
use Rattle.desk_rule.specs.Histories.{Each}
use Rattle.desk.specs.Seated.{Opened, new_chair, new_chairs}
use Rattle.desk.proofs.Seating.{length-new_chairs, new_chairs-get, new_chairs-snoc}
use Rattle.rtio_core.specs.declared.data.Act.{Act}
use Rattle.rtio_core.specs.declared.data.Config.{Config}
use Rattle.sched_state.specs.declared.entry.SchedAct.{SchedAct}
use Rattle.desk_kernels.specs.Chairs.{CoreChair}
use Rattle.worker_desks.specs.declared.desks.Desks.{Desks}
use Rattle.lab_workers.specs.Workers.{IsFree, SchedChair, WorkerValue}
use Rattle.lab_crew.specs.declared.member.Member.{Member}
use Rattle.lab_desks.specs.Columns.{HasRoom, Row, TakesLast, column, columns_of, fronts, items_of}
use Rattle.lab_desks.specs.Seats.{AreNewChairs}
use Rattle.lab_crew.specs.Crews.{new_worker, new_workers}
use Rattle.lab_crew.proofs.Ended.{worker_of}
use Rattle.lab_desks.proofs.Fronts.{fronts-some, fronts-whole, takes-fronts}

-- ---- columns of new chairs

long-columns : (P : ℕ → Type 0) (count : ℕ) (desks : List (Opened Config)) → P count → AllByRecursion (λ (row : List CoreChair). P (length row)) (columns_of count desks)
long-columns P count [] p = tt
long-columns P count (d ∷ desks) p = (subst P (sym (length-new_chairs Act d.id 0 count)) p, long-columns P count desks p)

new-column : (count number : ℕ) (desks : List (Opened Config)) → number < count
    → column number (columns_of {A = Act} count desks) ≡ map (λ (d : Opened Config). new_chair d.id number) desks
new-column count number [] low = refl
new-column count number (d ∷ desks) low =
    ap (λ (o : Option CoreChair). cons_option o (column number (columns_of {A = Act} count desks)))
    (new_chairs-get Act d.id 0 count number low ∙ ap (λ (n : ℕ). Some (new_chair {A = Act} d.id n)) (omega arith))
    ∙ ap (λ (l : List CoreChair). new_chair d.id number ∷ l) (new-column count number desks low)

free-column : (number : ℕ) (desks : List (Opened Config)) → Each (IsFree number) (map (λ (d : Opened Config). new_chair {A = Act} d.id number) desks)
free-column number [] = tt
free-column number (d ∷ desks) = ((refl, refl), free-column number desks)

roomy : (count : ℕ) (rows : List (Row CoreChair)) (desks : List (Opened Config)) → map items_of rows ≡ columns_of count desks → AllByRecursion (λ (row : Row CoreChair). count ≤ vec_capacity row) rows
roomy count [] desks is = tt
roomy count (r ∷ rows) [] is = absurd (cc)
roomy count (r ∷ rows) (d ∷ desks) is =
    let here : r.items ≡ new_chairs d.id 0 count = ap (λ (l : List (List CoreChair)). get_or l 0 []) is in
    let len : length r.items ≡ count = ap length here ∙ length-new_chairs Act d.id 0 count in
    let ok = r.ok in
    (omega (arith, len, ok.0, ok.1), roomy count rows desks (ap (λ (l : List (List CoreChair)). drop 1 l) is))

module _ {X : Type 0} (count : ℕ) where
  takes-room : (olds news : List (Row X)) (xs : List X) → TakesLast olds news xs → AllByRecursion (λ (row : Row X). count ≤ vec_capacity row) olds → AllByRecursion (λ (row : Row X). count ≤ vec_capacity row) news
  takes-room [] [] [] h room = tt
  takes-room (o ∷ olds) (n ∷ news) (x ∷ xs) h room = (let same = h.1 in let enough = room.0 in omega (arith, same, enough), takes-room olds news xs h.2 room.1)
  takes-room olds news xs h room = absurd h

  empty-rows : (rows : List (Row X)) (whole : List (List X)) → map items_of rows ≡ fronts 0 whole → AllByRecursion (λ (row : Row X). count ≤ vec_capacity row) rows → AllByRecursion (HasRoom count) rows
  empty-rows [] whole is room = tt
  empty-rows (r ∷ rows) [] is room = absurd (cc)
  empty-rows (r ∷ rows) (w ∷ whole) is room =
      ((ap (λ (l : List (List X)). get_or l 0 []) is, room.0), empty-rows rows whole (ap (λ (l : List (List X)). drop 1 l) is) room.1)

-- ---- while they are dealt

-- the workers from here on have their chairs, and those of the others are left
pub record IsDealing (desks : Desks) (count : ℕ) (scheds : Row SchedChair) (columns : List (Row CoreChair)) (crew : List Member) : Type 0 where
  pub few : length scheds.items ≤ count
  pub scheds_are : scheds.items ≡ new_chairs desks.sched.id 0 (length scheds.items)
  pub columns_are : map items_of columns ≡ fronts (length scheds.items) (columns_of count desks.cores.items)
  pub scheds_room : count ≤ vec_capacity scheds
  pub columns_room : AllByRecursion (λ (column : Row CoreChair). count ≤ vec_capacity column) columns
  pub crew_are : map worker_of crew ++ new_workers desks (length scheds.items) ≡ new_workers desks count

pub dealing-first : (desks : Desks) (scheds : Row SchedChair) (columns : List (Row CoreChair)) (crew : List Member)
    → AreNewChairs (length scheds.items) desks scheds.items columns → crew ≡ [] → IsDealing desks (length scheds.items) scheds columns crew
dealing-first desks scheds columns crew new none =
    let count : ℕ = length scheds.items in
    let ok = scheds.ok in
    record {
      few = omega arith;
      scheds_are = new.sched;
      columns_are = new.cores ∙ sym (fronts-whole (columns_of count desks.cores.items) count (long-columns (λ n. n ≡ count) count desks.cores.items refl));
      scheds_room = omega (arith, ok.0, ok.1);
      columns_room = roomy count columns desks.cores.items new.cores;
      crew_are = ap (λ (l : List Member). map worker_of l ++ new_workers desks count) none;
    }

module _ (desks : Desks) (count : ℕ) (scheds fewer : Row SchedChair) (sched : SchedChair) (columns : List (Row CoreChair)) (crew : List Member)
    (d : IsDealing desks count scheds columns crew) (popped : scheds.items ≡ fewer.items ++ sched ∷ []) where
  one-less : length scheds.items ≡ suc (length fewer.items)
  one-less = let len = ap length popped ∙ length-append fewer.items (sched ∷ []) in omega (arith, len)

  both : (fewer.items ≡ new_chairs desks.sched.id 0 (length fewer.items)) × (sched ≡ new_chair desks.sched.id (0 + length fewer.items))
  both =
      same_from_push fewer.items (new_chairs desks.sched.id 0 (length fewer.items)) sched (new_chair desks.sched.id (0 + length fewer.items))
      (sym popped ∙ d.scheds_are ∙ ap (new_chairs desks.sched.id 0) one-less ∙ sym (new_chairs-snoc SchedAct desks.sched.id 0 (length fewer.items)))

  pub dealt-sched : sched ≡ new_chair desks.sched.id (length fewer.items)
  dealt-sched = both.1 ∙ ap (new_chair desks.sched.id) (omega arith)

  low : length fewer.items < count
  low = let one = one-less in let few = d.few in omega (arith, one, few)

  pub dealing-some : All (λ (row : Row CoreChair). 0 < length row.items) columns
  dealing-some =
      let one = one-less in
      All-from_recursion (λ (row : Row CoreChair). 0 < length row.items) columns
      (fronts-some (columns_of count desks.cores.items) (length scheds.items) columns (omega (arith, one))
      (long-columns (λ n. length scheds.items ≤ n) count desks.cores.items d.few) d.columns_are)

  dealt : (news : List (Row CoreChair)) (cores : List CoreChair) → TakesLast columns news cores
      → (map items_of news ≡ fronts (length fewer.items) (columns_of count desks.cores.items)) × (cores ≡ column (length fewer.items) (columns_of count desks.cores.items))
  dealt news cores takes =
      takes-fronts (columns_of count desks.cores.items) (length fewer.items) columns news cores takes
      (d.columns_are ∙ ap (λ (n : ℕ). fronts n (columns_of count desks.cores.items)) one-less)
      (long-columns (λ n. length fewer.items < n) count desks.cores.items low)

  pub dealt-cores : (news : List (Row CoreChair)) (cores : List CoreChair) → TakesLast columns news cores
      → cores ≡ map (λ (e : Opened Config). new_chair e.id (length fewer.items)) desks.cores.items
  dealt-cores news cores takes = (dealt news cores takes).1 ∙ new-column count (length fewer.items) desks.cores.items low

  -- what a worker asks of its chairs
  pub dealt-free : (number : ℕ) → number ≡ sched.number → IsFree number sched
  dealt-free number is = (sym is, ap (λ (c : SchedChair). c.holds) dealt-sched)

  pub dealt-frees : (news : List (Row CoreChair)) (cores : List CoreChair) (number : ℕ) → TakesLast columns news cores → number ≡ sched.number → Each (IsFree number) cores
  dealt-frees news cores number takes is =
      let same : number ≡ length fewer.items = is ∙ ap (λ (c : SchedChair). c.number) dealt-sched in
      subst (λ (n : ℕ). Each (IsFree n) cores) (sym same)
      (subst (Each (IsFree (length fewer.items))) (sym (dealt-cores news cores takes)) (free-column (length fewer.items) desks.cores.items))

  pub dealing-more : (news : List (Row CoreChair)) (cores : List CoreChair) (number : ℕ) (member : Member) (more : List Member)
      → TakesLast columns news cores → number ≡ sched.number → vec_capacity fewer ≡ vec_capacity scheds
      → member.worker ≡ record { number = number; sched = sched; cores = cores } → more ≡ crew ++ member ∷ []
      → IsDealing desks count fewer news more
  dealing-more news cores number member more takes is room made more-is =
      let place : ℕ = length fewer.items in
      let same : number ≡ place = is ∙ ap (λ (c : SchedChair). c.number) dealt-sched in
      let worker : member.worker ≡ new_worker desks place =
      made ∙ (λ i. record { number = same i; sched = dealt-sched i; cores = dealt-cores news cores takes i }) in
      let below = low in
      let enough = d.scheds_room in
      record {
        few = omega (arith, below);
        scheds_are = both.0;
        columns_are = (dealt news cores takes).0;
        scheds_room = omega (arith, enough, room);
        columns_room = takes-room count columns news cores takes d.columns_room;
        crew_are =
            ap (λ (l : List Member). map worker_of l ++ new_workers desks place) more-is
            ∙ ap (λ (l : List WorkerValue). l ++ new_workers desks place) (map-append worker_of crew (member ∷ []))
            ∙ append_assoc (map worker_of crew) (member.worker ∷ []) (new_workers desks place)
            ∙ ap (λ (w : WorkerValue). map worker_of crew ++ w ∷ new_workers desks place) worker
            ∙ ap (λ (n : ℕ). map worker_of crew ++ new_workers desks n) (sym one-less)
            ∙ d.crew_are;
      }

-- ---- when all have theirs

module _ (desks : Desks) (count : ℕ) (scheds none : Row SchedChair) (columns : List (Row CoreChair)) (crew : List Member)
    (d : IsDealing desks count scheds columns crew) (popped : scheds.items ≡ none.items ++ []) (empty : length scheds.items ≡ 0) where
  pub dealt-crew : map worker_of crew ≡ new_workers desks count
  dealt-crew = sym (append-nil (map worker_of crew)) ∙ ap (λ (n : ℕ). map worker_of crew ++ new_workers desks n) (sym empty) ∙ d.crew_are

  pub dealt-scheds : vec_capacity none ≡ vec_capacity scheds → HasRoom count none
  dealt-scheds room =
      let enough = d.scheds_room in
      (sym (append-nil none.items) ∙ sym popped ∙ d.scheds_are ∙ ap (new_chairs desks.sched.id 0) empty, omega (arith, enough, room))

  pub dealt-columns : All (HasRoom count) columns
  dealt-columns =
      All-from_recursion (HasRoom count) columns
      (empty-rows count columns (columns_of count desks.cores.items) (d.columns_are ∙ ap (λ (n : ℕ). fronts n (columns_of count desks.cores.items)) empty) d.columns_room)
