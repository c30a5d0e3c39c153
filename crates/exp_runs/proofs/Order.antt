-- The first of the runs by key is the greatest.
use Rattle.std.proofs.Common.{◌≡◌, ℕ, Bool, true, false, List, [], ◌∷◌, cond, filter, fold, refl, sym, ◌∙◌, ap}
use Rattle.std.specs.Prelude.{Option, Some, None, option_map, find}
use Rattle.std.specs.Cmp.{IsTotalOrder}
use Rattle.std.specs.List.{AllByRecursion}
use Rattle.std.specs.declared.cmp.Ordering.{Ordering}
use Rattle.std.specs.declared.cmp.Ordering.TheVariants.{Less, Equal, Greater}
use Rattle.std.specs.Ordering.{is_lt, ordering_reverse}
use Rattle.std.proofs.lemmas.Cmp.{on_total, then_total, back_total, nat_cmp_total, int_cmp_total}
use Rattle.exp_runs.specs.declared.run.Run.{Run}
use Rattle.exp_runs.specs.Keys.{key_cmp, greater, best, is_of}
use Rattle.exp_runs.specs.Queues.{inserted, queue_of}

pub keys_total : IsTotalOrder key_cmp
keys_total =
    then_total (on_total (λ (r : Run). r.priority) int_cmp_total)
    (then_total (on_total (λ (r : Run). r.due) (back_total nat_cmp_total)) (on_total (λ (r : Run). r.rid) (back_total nat_cmp_total)))

less : (o : Ordering) → is_lt o ≡ true → o ≡ Less
less Less h = refl
less Equal h = absurd (cc)
less Greater h = absurd (cc)

-- of two orders turned round, at most one is less
not_both : (a b : Ordering) → a ≡ ordering_reverse b → is_lt a ≡ true → is_lt b ≡ false
not_both a Less e h = absurd (cc)
not_both a Equal e h = refl
not_both a Greater e h = refl

pub asymmetric : (a b : Run) → is_lt (key_cmp a b) ≡ true → is_lt (key_cmp b a) ≡ false
asymmetric a b h = not_both (key_cmp a b) (key_cmp b a) (keys_total.antisymm a b) h

pub transitive : (a b c : Run) → is_lt (key_cmp a b) ≡ true → is_lt (key_cmp b c) ≡ true → is_lt (key_cmp a c) ≡ true
transitive a b c h k = ap is_lt (keys_total.trans a b c (less _ h) (less _ k))

-- what isn't greater than one that is less is less
below-at : (x y r : Run) (o : Ordering) → key_cmp y r ≡ o → is_lt (key_cmp x y) ≡ false → is_lt (key_cmp x r) ≡ true → is_lt o ≡ true
below-at x y r Less e h k = refl
below-at x y r Equal e h k =
    let back : key_cmp x y ≡ ordering_reverse (key_cmp y x) = keys_total.antisymm x y in
    let same : key_cmp y x ≡ key_cmp r x = keys_total.congr y r x e in
    let there : key_cmp x r ≡ ordering_reverse (key_cmp r x) = keys_total.antisymm x r in
    let turned : key_cmp x y ≡ key_cmp x r = back ∙ ap ordering_reverse same ∙ sym there in
    absurd (cc (ap is_lt turned))
below-at x y r Greater e h k =
    let turned : key_cmp r y ≡ ordering_reverse (key_cmp y r) = keys_total.antisymm r y in
    let back : is_lt (key_cmp r y) ≡ true = ap is_lt (turned ∙ ap ordering_reverse e) in
    absurd (cc (transitive x r y k back))

pub below : (x y r : Run) → is_lt (key_cmp x y) ≡ false → is_lt (key_cmp x r) ≡ true → is_lt (key_cmp y r) ≡ true
below x y r h k = below-at x y r (key_cmp y r) refl h k

-- no run in the list has a key above that of an earlier one
abbrev pub IsDescending : List Run → Type 0
IsDescending [] = Unit {0}
IsDescending (run ∷ runs) = AllByRecursion (λ other. is_lt (key_cmp run other) ≡ false) runs × IsDescending runs

all-inserted-at : (P : Run → Type 0) (run other : Run) (queue : List Run) (b : Bool) → P run → P other → AllByRecursion P queue → AllByRecursion P (inserted run queue) → AllByRecursion P (cond b (run ∷ other ∷ queue) (other ∷ inserted run queue))
all-inserted-at P run other queue true here first rest further = (here, (first, rest))
all-inserted-at P run other queue false here first rest further = (first, further)

all-inserted : (P : Run → Type 0) (run : Run) (queue : List Run) → P run → AllByRecursion P queue → AllByRecursion P (inserted run queue)
all-inserted P run [] here all = (here, tt)
all-inserted P run (other ∷ queue) here all = all-inserted-at P run other queue (is_lt (key_cmp other run)) here all.0 all.1 (all-inserted P run queue here all.1)

all-weaker : (P Q : Run → Type 0) → ((r : Run) → P r → Q r) → (queue : List Run) → AllByRecursion P queue → AllByRecursion Q queue
all-weaker P Q f [] all = tt
all-weaker P Q f (r ∷ queue) all = (f r all.0, all-weaker P Q f queue all.1)

-- what is below a run that is less than this one is below this one
under : (x r : Run) → is_lt (key_cmp x r) ≡ true → (y : Run) → is_lt (key_cmp x y) ≡ false → is_lt (key_cmp r y) ≡ false
under x r h y k = asymmetric y r (below x y r k h)

descending-at : (run other : Run) (queue : List Run) (b : Bool) → is_lt (key_cmp other run) ≡ b → IsDescending (other ∷ queue) → IsDescending (inserted run queue) → IsDescending (cond b (run ∷ other ∷ queue) (other ∷ inserted run queue))
descending-at run other queue true e was further =
    ((asymmetric other run e, all-weaker (λ y. is_lt (key_cmp other y) ≡ false) (λ y. is_lt (key_cmp run y) ≡ false) (under other run e) queue was.0), was)
descending-at run other queue false e was further = (all-inserted (λ y. is_lt (key_cmp other y) ≡ false) run queue e was.0, further)

pub descending-inserted : (run : Run) (queue : List Run) → IsDescending queue → IsDescending (inserted run queue)
descending-inserted run [] was = (tt, tt)
descending-inserted run (other ∷ queue) was = descending-at run other queue (is_lt (key_cmp other run)) refl was (descending-inserted run queue was.1)

-- what holds of each holds of the one that is found
abbrev IfFound : (Run → Type 0) → Option Run → Type 0
IfFound P None = Unit {0}
IfFound P (Some run) = P run

found-at : (P : Run → Type 0) (run : Run) (b : Bool) (further : Option Run) → P run → IfFound P further → IfFound P (cond b (Some run) further)
found-at P run true further here rest = here
found-at P run false further here rest = rest

found : (P : Run → Type 0) (test : Run → Bool) (runs : List Run) → AllByRecursion P runs → IfFound P (find test runs)
found P test [] all = tt
found P test (run ∷ runs) all = found-at P run (test run) (find test runs) all.0 (found P test runs all.1)

-- a run that is greater than the one found is the greater of the two
greater-than : (run : Run) (found : Option Run) → IfFound (λ other. is_lt (key_cmp other run) ≡ true) found → Some run ≡ greater found run
greater-than run None h = refl
greater-than run (Some other) h = rw h refl

-- where the test fails on it, a run that is inserted isn't found
passed-at : (test : Run → Bool) (run other : Run) (queue : List Run) (b : Bool) → test run ≡ false → find test (inserted run queue) ≡ find test queue → find test (cond b (run ∷ other ∷ queue) (other ∷ inserted run queue)) ≡ find test (other ∷ queue)
passed-at test run other queue true fails further = rw fails refl
passed-at test run other queue false fails further = rw further refl

pub find-passed : (test : Run → Bool) (run : Run) (queue : List Run) → test run ≡ false → find test (inserted run queue) ≡ find test queue
find-passed test run [] fails = rw fails refl
find-passed test run (other ∷ queue) fails = passed-at test run other queue (is_lt (key_cmp other run)) fails (find-passed test run queue fails)

-- where it passes, the greater of it and the one that was found is found
kept-at : (test : Run → Bool) (run other : Run) (queue : List Run) (less passes : Bool) → is_lt (key_cmp other run) ≡ less → test other ≡ passes → IsDescending (other ∷ queue) → test run ≡ true → find test (inserted run queue) ≡ greater (find test queue) run → find test (cond less (run ∷ other ∷ queue) (other ∷ inserted run queue)) ≡ greater (cond passes (Some other) (find test queue)) run
kept-at test run other queue true true is_less at_other was holds further = rw (holds, is_less) refl
kept-at test run other queue true false is_less at_other was holds further =
    let under_it : AllByRecursion (λ y. is_lt (key_cmp y run) ≡ true) queue =
    all-weaker (λ y. is_lt (key_cmp other y) ≡ false) (λ y. is_lt (key_cmp y run) ≡ true) (λ y k. below other y run k is_less) queue was.0 in
    rw holds (greater-than run (find test queue) (found (λ y. is_lt (key_cmp y run) ≡ true) test queue under_it))
kept-at test run other queue false true is_less at_other was holds further = rw (at_other, is_less) refl
kept-at test run other queue false false is_less at_other was holds further = rw at_other further

pub find-kept : (test : Run → Bool) (run : Run) (queue : List Run) → IsDescending queue → test run ≡ true → find test (inserted run queue) ≡ greater (find test queue) run
find-kept test run [] was holds = rw holds refl
find-kept test run (other ∷ queue) was holds =
    kept-at test run other queue (is_lt (key_cmp other run)) (test other) refl refl was holds (find-kept test run queue was.1 holds)

into : List Run → List Run → List Run
into queue runs = fold (λ before run. inserted run before) queue runs

step-at : (test all : Run → Bool) (run : Run) (runs queue : List Run) (there passes : Bool) → all run ≡ there → test run ≡ passes → ((r : Run) → test r ≡ true → all r ≡ true) → IsDescending queue
    → ((q : List Run) → IsDescending q → find test (fold (λ before r. inserted r before) q (filter all runs)) ≡ fold greater (find test q) (filter test runs))
    → find test (fold (λ before r. inserted r before) queue (cond there (run ∷ filter all runs) (filter all runs))) ≡ fold greater (find test queue) (cond passes (run ∷ filter test runs) (filter test runs))
step-at test all run runs queue true true a p only was further =
    further (inserted run queue) (descending-inserted run queue was) ∙ ap (λ g. fold greater g (filter test runs)) (find-kept test run queue was p)
step-at test all run runs queue true false a p only was further =
    further (inserted run queue) (descending-inserted run queue was) ∙ ap (λ g. fold greater g (filter test runs)) (find-passed test run queue p)
step-at test all run runs queue false true a p only was further = let holds : all run ≡ true = only run p in absurd (cc)
step-at test all run runs queue false false a p only was further = further queue was

pub first-is-greatest : (test all : Run → Bool) (runs queue : List Run) → ((r : Run) → test r ≡ true → all r ≡ true) → IsDescending queue → find test (fold (λ before r. inserted r before) queue (filter all runs)) ≡ fold greater (find test queue) (filter test runs)
first-is-greatest test all [] queue only was = refl
first-is-greatest test all (run ∷ runs) queue only was =
    step-at test all run runs queue (all run) (test run) refl refl only was (λ q d. first-is-greatest test all runs q only d)

-- the first run of a queue that passes a test is the best of all
pub best-is_first : (test : Run → Bool) (pipeline : ℕ) (runs : List Run) → ((r : Run) → test r ≡ true → is_of pipeline r ≡ true) → option_map (λ (r : Run). r.rid) (find test (queue_of pipeline runs)) ≡ best test runs
best-is_first test pipeline runs only = ap (option_map (λ (r : Run). r.rid)) (first-is-greatest test (is_of pipeline) runs [] only tt)
