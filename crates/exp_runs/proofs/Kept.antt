-- The parts of the runs that are kept.
use Rattle.std.proofs.Common.{◌≡◌, ◌≢◌, ℕ, zero, suc, ◌<◌, true, false, List, [], ◌∷◌, ◌++◌, length, map, get_or, replicate, refl, sym, ◌∙◌, ap, arith, subst, inl, inr}
use Rattle.std.specs.Prelude.{Some, slice_get, slice_index_or, slice_set, ◌⊎◌, ◌==◌, Result, Ok, Err, OnOk, OnErr}
use Rattle.std.proofs.lemmas.Option.{slice_get-get_or}
use Rattle.std.proofs.lemmas.Bool.Decides.{eqb_tells}
use Rattle.exp_runs.specs.declared.queue.Queue.{Queue}
use Rattle.exp_runs.specs.declared.run.Run.{Run}
use Rattle.exp_runs.specs.Queues.{IsQueue}
use Rattle.exp_runs.specs.Inside.{places_in, AreQueues}
use Rattle.exp_runs.proofs.Places.{KeepsKeys, queue_after-map, queue_after-other}

-- what is read at an index is there
got : {X : Type 0} (xs : List X) (i : ℕ) (x : X) → i < length xs → x ≡ slice_index_or xs i x → slice_get xs i ≡ Some x
got xs i x h e = slice_get-get_or xs i x h ∙ ap Some (sym e)

get-map : {X Y : Type 0} (f : X → Y) (xs : List X) (i : ℕ) (x : X) → slice_get xs i ≡ Some x → slice_get (map f xs) i ≡ Some (f x)
get-map f [] i x h = absurd (cc)
get-map f (y ∷ xs) zero x h = cc
get-map f (y ∷ xs) (suc i) x h = get-map f xs i x h

-- the queue that is read for a pipeline is its own
pub queue-read : (runs : List Run) (queues : List Queue) (pipeline : ℕ) (queue : Queue) → AreQueues runs (places_in queues) → pipeline < length queues → queue ≡ slice_index_or queues pipeline queue → IsQueue pipeline runs queue.places.items
queue-read runs queues pipeline queue all within e =
    all pipeline queue.places.items (get-map (λ (q : Queue). q.places.items) queues pipeline queue (got queues pipeline queue within e))

pub queues-same : (runs : List Run) (old new : List (List ℕ)) → new ≡ old → AreQueues runs old → AreQueues runs new
queues-same runs old new e all = let P : List (List ℕ) → Type 0 = λ queues. AreQueues runs queues in subst P (sym e) all

pub queues-changed : (f : Run → Run) (kept : KeepsKeys f) (runs : List Run) (queues : List (List ℕ)) → AreQueues runs queues → AreQueues (map f runs) queues
queues-changed f kept runs queues all pipeline places there = queue_after-map f kept pipeline runs places (all pipeline places there)

-- lists of which each item is changed by a function
pub all-changed : {X : Type 0} (f : X → X) (d : X) (xs ys : List X) → length ys ≡ length xs → ((k : ℕ) → k < length xs → get_or ys k d ≡ f (get_or xs k d)) → ys ≡ map f xs
all-changed f d [] [] same each = refl
all-changed f d [] (y ∷ ys) same each = absurd (omega arith)
all-changed f d (x ∷ xs) [] same each = absurd (omega arith)
all-changed f d (x ∷ xs) (y ∷ ys) same each =
    let here : y ≡ f x = each 0 (omega arith) in
    let rest : ys ≡ map f xs = all-changed f d xs ys (omega arith) (λ k lt. each (suc k) (omega (arith, lt))) in
    cc

none-empty : (count : ℕ) (pipeline : ℕ) (places : List ℕ) → slice_get (replicate count []) pipeline ≡ Some places → places ≡ []
none-empty zero pipeline places h = absurd (cc)
none-empty (suc count) zero places h = cc
none-empty (suc count) (suc pipeline) places h = none-empty count pipeline places h

-- queues without places are those of no runs
pub queues-none : (count : ℕ) → AreQueues [] (replicate count [])
queues-none count pipeline places h = rw (none-empty count pipeline places h) (record { below = tt; ordered = refl })

get-set-same : {X : Type 0} (xs : List X) (i : ℕ) (v x : X) → slice_get (slice_set xs i v) i ≡ Some x → x ≡ v
get-set-same [] i v x h = absurd (cc)
get-set-same (y ∷ xs) zero v x h = cc
get-set-same (y ∷ xs) (suc i) v x h = get-set-same xs i v x h

get-set-other : {X : Type 0} (xs : List X) (i k : ℕ) (v : X) → k ≢ i → slice_get (slice_set xs i v) k ≡ slice_get xs k
get-set-other [] i k v other = refl
get-set-other (y ∷ xs) zero zero v other = absurd (other refl)
get-set-other (y ∷ xs) zero (suc k) v other = refl
get-set-other (y ∷ xs) (suc i) zero v other = refl
get-set-other (y ∷ xs) (suc i) (suc k) v other = get-set-other xs i k v (λ e. other (ap suc e))

map-set : {X Y : Type 0} (f : X → Y) (xs : List X) (i : ℕ) (v : X) → map f (slice_set xs i v) ≡ slice_set (map f xs) i (f v)
map-set f [] i v = refl
map-set f (x ∷ xs) zero v = refl
map-set f (x ∷ xs) (suc i) v = ap (λ ys. f x ∷ ys) (map-set f xs i v)

added-at : (runs : List Run) (run : Run) (queues : List (List ℕ)) (own : List ℕ) (pipeline : ℕ) (places : List ℕ) → AreQueues runs queues → IsQueue run.pipeline (runs ++ run ∷ []) own
    → slice_get (slice_set queues run.pipeline own) pipeline ≡ Some places → ((run.pipeline == pipeline) ≡ true) × (run.pipeline ≡ pipeline) ⊎ ((run.pipeline == pipeline) ≡ false) × (run.pipeline ≢ pipeline) → IsQueue pipeline (runs ++ run ∷ []) places
added-at runs run queues own pipeline places all now there (inl e) =
    let P : ℕ → Type 0 = λ p. (slice_get (slice_set queues run.pipeline own) p ≡ Some places → IsQueue p (runs ++ run ∷ []) places) in
    let here : P run.pipeline = λ h. rw (get-set-same queues run.pipeline own places h) now in
    subst P e.1 here there
added-at runs run queues own pipeline places all now there (inr e) =
    let was : slice_get queues pipeline ≡ Some places = sym (get-set-other queues run.pipeline pipeline own (λ h. e.1 (sym h))) ∙ there in
    queue_after-other runs run pipeline places e.0 (all pipeline places was)

-- a run more, in the queue of its pipeline
pub queues-added : (runs : List Run) (run : Run) (queues : List (List ℕ)) (own : List ℕ) → AreQueues runs queues → IsQueue run.pipeline (runs ++ run ∷ []) own → AreQueues (runs ++ run ∷ []) (slice_set queues run.pipeline own)
queues-added runs run queues own all now pipeline places there = added-at runs run queues own pipeline places all now there (eqb_tells run.pipeline pipeline)

pub places-set : (queues : List Queue) (i : ℕ) (queue : Queue) → places_in (slice_set queues i queue) ≡ slice_set (places_in queues) i queue.places.items
places-set queues i queue = map-set (λ (q : Queue). q.places.items) queues i queue

pub length-set : {X : Type 0} (xs : List X) (i : ℕ) (v : X) → length (slice_set xs i v) ≡ length xs
length-set [] i v = refl
length-set (x ∷ xs) zero v = refl
length-set (x ∷ xs) (suc i) v = ap suc (length-set xs i v)

set-same : {X : Type 0} (xs : List X) (i : ℕ) (v : X) → slice_get xs i ≡ Some v → slice_set xs i v ≡ xs
set-same [] i v h = refl
set-same (x ∷ xs) zero v h = cc
set-same (x ∷ xs) (suc i) v h = ap (λ ys. x ∷ ys) (set-same xs i v h)

-- the queues after a run was added, or wasn't for want of memory
pub after-add : (r : Result (Unit {0}) Run) (old new : List Run) (run : Run) (queues : List Queue) (was now : Queue) → AreQueues old (places_in queues)
    → run.pipeline < length queues → was ≡ slice_index_or queues run.pipeline was
    → OnOk r (new ≡ old ++ run ∷ []) → OnOk r (IsQueue run.pipeline new now.places.items) → OnErr r ((new ≡ old) × (now.places.items ≡ was.places.items))
    → AreQueues new (places_in (slice_set queues run.pipeline now))
after-add (Ok u) old new run queues was now all within read pushed own kept =
    let P : List Run → Type 0 = λ runs. AreQueues runs (places_in (slice_set queues run.pipeline now)) in
    let own_then : IsQueue run.pipeline (old ++ run ∷ []) now.places.items = let Q : List Run → Type 0 = λ runs. IsQueue run.pipeline runs now.places.items in subst Q pushed own in
    subst P (sym pushed) (queues-same (old ++ run ∷ []) (slice_set (places_in queues) run.pipeline now.places.items) (places_in (slice_set queues run.pipeline now)) (places-set queues run.pipeline now)
    (queues-added old run (places_in queues) now.places.items all own_then))
after-add (Err e) old new run queues was now all within read pushed own kept =
    let P : List Run → Type 0 = λ runs. AreQueues runs (places_in (slice_set queues run.pipeline now)) in
    let there : slice_get (places_in queues) run.pipeline ≡ Some was.places.items = get-map (λ (q : Queue). q.places.items) queues run.pipeline was (got queues run.pipeline was within read) in
    let same : places_in (slice_set queues run.pipeline now) ≡ places_in queues =
    places-set queues run.pipeline now ∙ ap (λ places. slice_set (places_in queues) run.pipeline places) kept.1 ∙ set-same (places_in queues) run.pipeline was.places.items there in
    subst P (sym kept.0) (queues-same old (places_in queues) (places_in (slice_set queues run.pipeline now)) same all)
