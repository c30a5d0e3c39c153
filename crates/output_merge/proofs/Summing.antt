-- Groups of events, one event more, and the parts that they give.
use Rattle.std.proofs.Common.{◌≡◌, ◌<◌, ◌+◌, ℕ, zero, suc, Bool, true, false, List, [], ◌∷◌, ◌++◌, take, length, refl, ap, ◌∙◌, sym, cond, add-one}
use Rattle.std.specs.Prelude.{Some, None, filter, ◌==◌, ◌&&◌, ℤ}
use Rattle.std.specs.List.{list_all, slice_get}
use Rattle.std.specs.Ordering.{int_eq}
use Rattle.std.proofs.Math.Seq.{take-suc}
use Rattle.std.proofs.lemmas.List.Sums.{fold-append}
use Rattle.std.proofs.lemmas.Bool.{eqb-true}
use Rattle.std.proofs.lemmas.Option.{get_or_from_slice_get, same_Some, slice_get_within}
use Rattle.rtio_types.specs.declared.event.Event.{Event}
use Rattle.rtio_types.specs.Time.{cycle_of}
use Rattle.sed_lanes.specs.Sorting.{inserted, sorted}
use Rattle.output_merge.specs.Groups.{group_of, last_with, part_in, part_of}
use Rattle.output_merge.specs.Summaries.{part_by, summary_of}
use Rattle.output_merge.specs.declared.group.Group.{Group}

-- the same channel
abbrev pub is_on : ℕ → ℕ × Event → Bool
is_on channel p = p.1.channel == channel

last-more : (stamp : ℤ) (number : ℕ) (rest : List (ℕ × Event)) (p : ℕ × Event) → last_with stamp number (rest ++ p ∷ []) ≡ (cond (int_eq p.1.stamp stamp) p.0 (last_with stamp number rest))
last-more stamp number rest p = fold-append _ _ rest (p ∷ [])

-- a first event is a group of its own
pub summary-first : (before : List (ℕ × Event)) (p : ℕ × Event) → None ≡ summary_of before → summary_of (before ++ p ∷ []) ≡ Some (record { first = p.0; stamp = p.1.stamp; last = p.0 })
summary-first [] p is = refl
summary-first (q ∷ rest) p is = absurd (cc)

-- one of the first one's stamp is the last such
pub summary-same : (g : Group) (before : List (ℕ × Event)) (p : ℕ × Event) → Some g ≡ summary_of before → int_eq p.1.stamp g.stamp ≡ true → summary_of (before ++ p ∷ []) ≡ Some (record { first = g.first; stamp = g.stamp; last = p.0 })
summary-same g [] p is same = absurd (cc)
summary-same g (q ∷ rest) p is same =
    let e : g ≡ record { first = q.0; stamp = q.1.stamp; last = last_with q.1.stamp q.0 rest } = same_Some _ _ is in
    let one : int_eq p.1.stamp q.1.stamp ≡ true = ap (λ (h : Group). int_eq p.1.stamp h.stamp) (sym e) ∙ same in
    let last : last_with q.1.stamp q.0 (rest ++ p ∷ []) ≡ p.0 = last-more q.1.stamp q.0 rest p ∙ ap (λ b. cond b p.0 (last_with q.1.stamp q.0 rest)) one in
    ap (λ (n : ℕ). Some (record { first = q.0; stamp = q.1.stamp; last = n })) last
    ∙ ap (λ (h : Group). Some (record { first = h.first; stamp = h.stamp; last = p.0 })) (sym e)

-- one of another stamp changes nothing
pub summary-other : (g : Group) (before : List (ℕ × Event)) (p : ℕ × Event) → Some g ≡ summary_of before → int_eq p.1.stamp g.stamp ≡ false → summary_of (before ++ p ∷ []) ≡ Some g
summary-other g [] p is other = absurd (cc)
summary-other g (q ∷ rest) p is other =
    let e : g ≡ record { first = q.0; stamp = q.1.stamp; last = last_with q.1.stamp q.0 rest } = same_Some _ _ is in
    let one : int_eq p.1.stamp q.1.stamp ≡ false = ap (λ (h : Group). int_eq p.1.stamp h.stamp) (sym e) ∙ other in
    let last : last_with q.1.stamp q.0 (rest ++ p ∷ []) ≡ last_with q.1.stamp q.0 rest = last-more q.1.stamp q.0 rest p ∙ ap (λ b. cond b p.0 (last_with q.1.stamp q.0 rest)) one in
    ap (λ (n : ℕ). Some (record { first = q.0; stamp = q.1.stamp; last = n })) last ∙ ap Some (sym e)

-- an item that a place has comes behind those before it
pub take-item : (items : List (ℕ × Event)) (i : ℕ) (p : ℕ × Event) → slice_get items i ≡ Some p → take (i + 1) items ≡ take i items ++ p ∷ []
take-item items i p is =
    let lt : i < length items = slice_get_within items i p is in
    ap (λ (n : ℕ). take n items) (add-one i) ∙ take-suc items i p lt
    ∙ ap (λ (q : ℕ × Event). take i items ++ q ∷ []) (get_or_from_slice_get items i p p is)

-- a part by a group's summary is the part in the group
pub part-is : (group : List (ℕ × Event)) (p : ℕ × Event) → part_by (summary_of group) p.0 p.1 ≡ part_in group p
part-is [] p = refl
part-is (first ∷ rest) p = refl

left-true : (a b : Bool) → (a && b) ≡ true → a ≡ true
left-true true b h = refl
left-true false b h = absurd (cc)

right-true : (a b : Bool) → (a && b) ≡ true → b ≡ true
right-true true b h = h
right-true false b h = absurd (cc)

-- among events of one cycle a group is all of its channel
pub group-one-cycle : (cycle : ℕ) (e : Event) (events : List (ℕ × Event)) → cycle_of e ≡ cycle → list_all (λ p. cycle_of p.1 == cycle) events ≡ true → group_of e events ≡ filter (is_on e.channel) events
group-one-cycle cycle e [] is all = refl
group-one-cycle cycle e (p ∷ rest) is all =
    let here : (cycle_of p.1 == cycle) ≡ true = left-true _ _ all in
    let ih = group-one-cycle cycle e rest is (right-true (cycle_of p.1 == cycle) _ all) in
    let same : (cycle_of p.1 == cycle_of e) ≡ true = ap (λ (n : ℕ). cycle_of p.1 == n) is ∙ here in
    let test : ((p.1.channel == e.channel) && (cycle_of p.1 == cycle_of e)) ≡ (p.1.channel == e.channel) = rw same (and-true (p.1.channel == e.channel)) in
    ap (λ b. cond b (p ∷ group_of e rest) (group_of e rest)) test
    ∙ ap (λ (ps : List (ℕ × Event)). cond (p.1.channel == e.channel) (p ∷ ps) ps) ih
  where
    and-true : (b : Bool) → (b && true) ≡ b
    and-true true = refl
    and-true false = refl

all-item : (test : ℕ × Event → Bool) (events : List (ℕ × Event)) (i : ℕ) (p : ℕ × Event) → list_all test events ≡ true → slice_get events i ≡ Some p → test p ≡ true
all-item test [] i p all is = absurd (cc)
all-item test (q ∷ rest) zero p all is = ap test (sym (same_Some q p is)) ∙ left-true _ _ all
all-item test (q ∷ rest) (suc i) p all is = all-item test rest i p (right-true (test q) _ all) is

-- the part that the code gives is the part among all events
pub part-of-item : (cycle : ℕ) (events : List (ℕ × Event)) (i : ℕ) (p : ℕ × Event) → list_all (λ q. cycle_of q.1 == cycle) events ≡ true → slice_get events i ≡ Some p → part_by (summary_of (filter (is_on p.1.channel) events)) p.0 p.1 ≡ part_of events p
part-of-item cycle events i p all is =
    let at : cycle_of p.1 ≡ cycle = eqb-true (cycle_of p.1) cycle (all-item (λ q. cycle_of q.1 == cycle) events i p all is) in
    part-is (filter (is_on p.1.channel) events) p
    ∙ ap (λ (group : List (ℕ × Event)). part_in group p) (sym (group-one-cycle cycle p.1 events at all))

all-inserted : {X : Type 0} (before : X → X → Bool) (test : X → Bool) (x : X) (xs : List X) → test x ≡ true → list_all test xs ≡ true → list_all test (inserted before x xs) ≡ true
all-inserted before test x [] one all = rw one refl
all-inserted before test x (y ∷ ys) one all = at-head (before y x) (left-true (test y) _ all) (all-inserted before test x ys one (right-true (test y) _ all))
  where
    at-head : (b : Bool) → test y ≡ true → list_all test (inserted before x ys) ≡ true → list_all test (cond b (y ∷ inserted before x ys) (x ∷ y ∷ ys)) ≡ true
    at-head true head ih = rw head ih
    at-head false head ih = rw one all

-- what all pass they pass in order
pub all-sorted : {X : Type 0} (before : X → X → Bool) (test : X → Bool) (xs : List X) → list_all test xs ≡ true → list_all test (sorted before xs) ≡ true
all-sorted before test [] all = refl
all-sorted before test (x ∷ xs) all = all-inserted before test x (sorted before xs) (left-true (test x) _ all) (all-sorted before test xs (right-true (test x) _ all))
