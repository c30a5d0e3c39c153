-- Queues as runs change and are added.
use Rattle.std.proofs.Common.{◌≡◌, ℕ, ◌+◌, ◌<◌, ◌≤◌, zero, suc, Bool, true, false, List, [], ◌∷◌, ◌++◌, cond, filter, fold, map, length, take, drop, get_or, refl, sym, ◌∙◌, ap, arith, subst}
use Rattle.std.specs.Prelude.{◌==◌, slice_index_or}
use Rattle.std.specs.Ordering.{is_lt}
use Rattle.std.proofs.lemmas.List.{length-map, map-append, get_or-map, get_or_append_left, length-append}
use Rattle.std.proofs.Common.{add-one, drop-cons}
use Rattle.std.proofs.Math.Seq.{get_or-append_seam}
use Rattle.std.proofs.lemmas.List.Elements.{filter-append}
use Rattle.std.proofs.lemmas.List.Sums.{fold-append}
use Rattle.exp_runs.specs.declared.run.Run.{Run}
use Rattle.exp_runs.specs.declared.run.Status.{Status}
use Rattle.exp_runs.specs.Keys.{key_cmp, is_of}
use Rattle.exp_runs.specs.Table.{with_status, with_fields}
use Rattle.exp_runs.specs.Queues.{inserted, by_key, queue_of, no_run, at_places, AreBelow, IsQueue}

-- a change that leaves the keys and the pipelines of runs
pub record KeepsKeys (change : Run → Run) : Type 0 where
  pub keys : (a b : Run) → key_cmp (change a) (change b) ≡ key_cmp a b
  pub pipelines : (a : Run) → (change a).pipeline ≡ a.pipeline

inserted-map-at : (f : Run → Run) (run other : Run) (queue : List Run) (b : Bool) → inserted (f run) (map f queue) ≡ map f (inserted run queue) → cond b (f run ∷ f other ∷ map f queue) (f other ∷ inserted (f run) (map f queue)) ≡ map f (cond b (run ∷ other ∷ queue) (other ∷ inserted run queue))
inserted-map-at f run other queue true further = refl
inserted-map-at f run other queue false further = ap (λ rest. f other ∷ rest) further

inserted-map : (f : Run → Run) (kept : KeepsKeys f) (run : Run) (queue : List Run) → inserted (f run) (map f queue) ≡ map f (inserted run queue)
inserted-map f kept run [] = refl
inserted-map f kept run (other ∷ queue) = rw (kept.keys other run) (inserted-map-at f run other queue (is_lt (key_cmp other run)) (inserted-map f kept run queue))

filter-map-at : (f : Run → Run) (run : Run) (runs : List Run) (b : Bool) (rest : List Run) → rest ≡ map f runs → cond b (f run ∷ rest) rest ≡ map f (cond b (run ∷ runs) runs)
filter-map-at f run runs true rest e = ap (λ xs. f run ∷ xs) e
filter-map-at f run runs false rest e = e

filter-map : (f : Run → Run) (kept : KeepsKeys f) (pipeline : ℕ) (runs : List Run) → filter (is_of pipeline) (map f runs) ≡ map f (filter (is_of pipeline) runs)
filter-map f kept pipeline [] = refl
filter-map f kept pipeline (run ∷ runs) =
    let same : is_of pipeline (f run) ≡ is_of pipeline run = ap (λ p. p == pipeline) (kept.pipelines run) in
    ap (λ b. cond b (f run ∷ filter (is_of pipeline) (map f runs)) (filter (is_of pipeline) (map f runs))) same
    ∙ filter-map-at f run (filter (is_of pipeline) runs) (is_of pipeline run) (filter (is_of pipeline) (map f runs)) (filter-map f kept pipeline runs)

by_key-map : (f : Run → Run) (kept : KeepsKeys f) (queue runs : List Run) → fold (λ before r. inserted r before) (map f queue) (map f runs) ≡ map f (fold (λ before r. inserted r before) queue runs)
by_key-map f kept queue [] = refl
by_key-map f kept queue (run ∷ runs) =
    ap (λ q. fold (λ before r. inserted r before) q (map f runs)) (inserted-map f kept run queue) ∙ by_key-map f kept (inserted run queue) runs

pub queue-map : (f : Run → Run) (kept : KeepsKeys f) (pipeline : ℕ) (runs : List Run) → queue_of pipeline (map f runs) ≡ map f (queue_of pipeline runs)
queue-map f kept pipeline runs = ap by_key (filter-map f kept pipeline runs) ∙ by_key-map f kept [] (filter (is_of pipeline) runs)

pub places-map : (f : Run → Run) (runs : List Run) (places : List ℕ) → AreBelow (length runs) places → at_places (map f runs) places ≡ map f (at_places runs places)
places-map f runs [] below = refl
places-map f runs (place ∷ places) below =
    let here : get_or (map f runs) place no_run ≡ f (get_or runs place no_run) = get_or-map f runs place no_run no_run below.0 in
    let rest : at_places (map f runs) places ≡ map f (at_places runs places) = places-map f runs places below.1 in
    cc

below-same : (m n : ℕ) (places : List ℕ) → m ≡ n → AreBelow m places → AreBelow n places
below-same m n places e below = let P : ℕ → Type 0 = λ k. AreBelow k places in subst P e below

pub queue_after-map : (f : Run → Run) (kept : KeepsKeys f) (pipeline : ℕ) (runs : List Run) (places : List ℕ) → IsQueue pipeline runs places → IsQueue pipeline (map f runs) places
queue_after-map f kept pipeline runs places was =
    record {
      below = below-same (length runs) (length (map f runs)) places (sym (length-map runs f)) was.below;
      ordered = places-map f runs places was.below ∙ ap (map f) was.ordered ∙ sym (queue-map f kept pipeline runs);
    }

keys-at : (c : Run → Run) → ((a b : Run) → key_cmp (c a) (c b) ≡ key_cmp a b) → ((a b : Run) → key_cmp (c a) b ≡ key_cmp a b) → ((a b : Run) → key_cmp a (c b) ≡ key_cmp a b) → (x y : Bool) (a b : Run) → key_cmp (cond x (c a) a) (cond y (c b) b) ≡ key_cmp a b
keys-at c both left right true true a b = both a b
keys-at c both left right true false a b = left a b
keys-at c both left right false true a b = right a b
keys-at c both left right false false a b = refl

pipelines-at : (c : Run → Run) → ((a : Run) → (c a).pipeline ≡ a.pipeline) → (x : Bool) (a : Run) → (cond x (c a) a).pipeline ≡ a.pipeline
pipelines-at c same true a = same a
pipelines-at c same false a = refl

pub status-keeps : (status : Status) (rid : ℕ) → KeepsKeys (λ run. cond (run.rid == rid) (with_status status run) run)
status-keeps status rid =
    record {
      keys = λ a b. keys-at (with_status status) (λ x y. refl) (λ x y. refl) (λ x y. refl) (a.rid == rid) (b.rid == rid) a b;
      pipelines = λ a. pipelines-at (with_status status) (λ x. refl) (a.rid == rid) a;
    }

pub fields-keep : (pos : ℕ) (terminate doomed : Bool) (rid : ℕ) → KeepsKeys (λ run. cond (run.rid == rid) (with_fields pos terminate doomed run) run)
fields-keep pos terminate doomed rid =
    record {
      keys = λ a b. keys-at (with_fields pos terminate doomed) (λ x y. refl) (λ x y. refl) (λ x y. refl) (a.rid == rid) (b.rid == rid) a b;
      pipelines = λ a. pipelines-at (with_fields pos terminate doomed) (λ x. refl) (a.rid == rid) a;
    }

-- a run more leaves the runs at places
pub places-push : (runs : List Run) (run : Run) (places : List ℕ) → AreBelow (length runs) places → at_places (runs ++ run ∷ []) places ≡ at_places runs places
places-push runs run [] below = refl
places-push runs run (place ∷ places) below =
    let here : get_or (runs ++ run ∷ []) place no_run ≡ get_or runs place no_run = get_or_append_left runs (run ∷ []) no_run place below.0 in
    let rest : at_places (runs ++ run ∷ []) places ≡ at_places runs places = places-push runs run places below.1 in
    cc

below-more : (m n : ℕ) (places : List ℕ) → m ≤ n → AreBelow m places → AreBelow n places
below-more m n [] e below = tt
below-more m n (place ∷ places) e below = let here : place < m = below.0 in (omega arith, below-more m n places e below.1)

below-append : (n : ℕ) (xs ys : List ℕ) → AreBelow n xs → AreBelow n ys → AreBelow n (xs ++ ys)
below-append n [] ys a b = b
below-append n (x ∷ xs) ys a b = (a.0, below-append n xs ys a.1 b)

below-take : (n k : ℕ) (xs : List ℕ) → AreBelow n xs → AreBelow n (take k xs)
below-take n zero xs a = tt
below-take n (suc k) [] a = tt
below-take n (suc k) (x ∷ xs) a = (a.0, below-take n k xs a.1)

below-drop : (n k : ℕ) (xs : List ℕ) → AreBelow n xs → AreBelow n (drop k xs)
below-drop n zero xs a = a
below-drop n (suc k) [] a = tt
below-drop n (suc k) (x ∷ xs) a = below-drop n k xs a.1

-- the queue of the runs and one more: of its own pipeline, and of another
queue-push-at : (runs : List Run) (run : Run) (pipeline : ℕ) (b : Bool) → is_of pipeline run ≡ b → queue_of pipeline (runs ++ run ∷ []) ≡ cond b (inserted run (queue_of pipeline runs)) (queue_of pipeline runs)
queue-push-at runs run pipeline true e =
    let split : filter (is_of pipeline) (runs ++ run ∷ []) ≡ filter (is_of pipeline) runs ++ run ∷ [] = filter-append (is_of pipeline) runs (run ∷ []) ∙ ap (λ b. filter (is_of pipeline) runs ++ cond b (run ∷ []) []) e in
    ap by_key split ∙ fold-append (λ before r. inserted r before) [] (filter (is_of pipeline) runs) (run ∷ [])
queue-push-at runs run pipeline false e =
    let split : filter (is_of pipeline) (runs ++ run ∷ []) ≡ filter (is_of pipeline) runs ++ [] = filter-append (is_of pipeline) runs (run ∷ []) ∙ ap (λ b. filter (is_of pipeline) runs ++ cond b (run ∷ []) []) e in
    ap by_key split ∙ fold-append (λ before r. inserted r before) [] (filter (is_of pipeline) runs) []

-- a queue of another pipeline stays
pub queue_after-other : (runs : List Run) (run : Run) (pipeline : ℕ) (places : List ℕ) → is_of pipeline run ≡ false → IsQueue pipeline runs places → IsQueue pipeline (runs ++ run ∷ []) places
queue_after-other runs run pipeline places other was =
    let longer : length (runs ++ run ∷ []) ≡ length runs + 1 = simp length-append in
    record {
      below = below-more (length runs) (length (runs ++ run ∷ [])) places (omega (arith, longer)) was.below;
      ordered = places-push runs run places was.below ∙ was.ordered ∙ sym (queue-push-at runs run pipeline false other);
    }

places-append : (runs : List Run) (xs ys : List ℕ) → at_places runs (xs ++ ys) ≡ at_places runs xs ++ at_places runs ys
places-append runs xs ys = map-append (λ place. slice_index_or runs place no_run) xs ys

-- the queue of its own pipeline, with the new place where it belongs
pub queue_after-own : (runs : List Run) (run : Run) (pipeline position : ℕ) (places : List ℕ) → is_of pipeline run ≡ true → IsQueue pipeline runs places
    → inserted run (at_places runs places) ≡ at_places runs (take position places) ++ run ∷ at_places runs (drop position places)
    → IsQueue pipeline (runs ++ run ∷ []) (take position places ++ length runs ∷ drop position places)
queue_after-own runs run pipeline position places own was here =
    let all : List Run = runs ++ run ∷ [] in
    let longer : length all ≡ length runs + 1 = simp length-append in
    let front : List ℕ = take position places in
    let back : List ℕ = drop position places in
    let front_below : AreBelow (length runs) front = below-take (length runs) position places was.below in
    let back_below : AreBelow (length runs) back = below-drop (length runs) position places was.below in
    let front_is : at_places all front ≡ at_places runs front = places-push runs run front front_below in
    let back_is : at_places all back ≡ at_places runs back = places-push runs run back back_below in
    let new : slice_index_or all (length runs) no_run ≡ run = get_or-append_seam runs run [] no_run in
    let split : at_places all (front ++ length runs ∷ back) ≡ at_places all front ++ slice_index_or all (length runs) no_run ∷ at_places all back = places-append all front (length runs ∷ back) in
    let put : at_places all (front ++ length runs ∷ back) ≡ inserted run (at_places runs places) = cc in
    record {
      below = below-append (length all) front (length runs ∷ back) (below-more (length runs) (length all) front (omega (arith, longer)) front_below)
          (omega (arith, longer), below-more (length runs) (length all) back (omega (arith, longer)) back_below);
      ordered = put ∙ ap (inserted run) was.ordered ∙ sym (queue-push-at runs run pipeline true own);
    }

inserted-before : (run other : Run) (others : List Run) → is_lt (key_cmp other run) ≡ true → inserted run (other ∷ others) ≡ run ∷ other ∷ others
inserted-before run other others less = rw less refl

at-drop : (runs : List Run) (places : List ℕ) (i : ℕ) → i < length places → at_places runs (drop i places) ≡ slice_index_or runs (slice_index_or places i 0) no_run ∷ at_places runs (drop (i + 1) places)
at-drop runs places i h = let split : drop i places ≡ slice_index_or places i 0 ∷ drop (i + 1) places = rw add-one (drop-cons places i 0 h) in ap (at_places runs) split

-- a run goes before the first one that is less
pub stops : (runs : List Run) (places : List ℕ) (run : Run) (i : ℕ) → i < length places → is_lt (key_cmp (slice_index_or runs (slice_index_or places i 0) no_run) run) ≡ true
    → inserted run (at_places runs (drop i places)) ≡ run ∷ at_places runs (drop i places)
stops runs places run i h less =
    let other : Run = slice_index_or runs (slice_index_or places i 0) no_run in
    let split : at_places runs (drop i places) ≡ other ∷ at_places runs (drop (i + 1) places) = at-drop runs places i h in
    ap (inserted run) split ∙ inserted-before run other (at_places runs (drop (i + 1) places)) less ∙ ap (λ xs. run ∷ xs) (sym split)
