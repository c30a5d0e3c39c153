-- What is known of runs while no job is in flight and none is due.
use Rattle.std.proofs.Common.{◌≡◌, ◌≢◌, ℕ, zero, suc, ◌+◌, ◌<◌, ◌≤◌, Bool, true, false, List, [], ◌∷◌, cond, filter, fold, length, map, refl, sym, ◌∙◌, ap, arith, subst, inl, inr}
use Rattle.std.specs.Prelude.{ℤ, ◌≤ℤ◌, int_lt, Option, Some, None, find, not, option_map, slice_get, ◌==◌, ◌⊎◌, ◌&&◌, ◌||◌}
use Rattle.std.specs.List.{AllByRecursion, list_all, list_any, range_with_len}
use Rattle.std.proofs.lemmas.Bool.{eqb-true}
use Rattle.std.proofs.lemmas.Bool.Decides.{eqb_tells}
use Rattle.std.proofs.lemmas.Int.{ints}
use Rattle.exp_runs.specs.declared.run.Run.{Run}
use Rattle.exp_runs.specs.Keys.{best, can_analyze, can_prepare, is_of, run_of}
use Rattle.exp_runs.specs.Statuses.{is_analyzing, is_preparing, is_started}
use Rattle.exp_model.specs.declared.session.Session.{Session}
use Rattle.exp_model.specs.declared.arrival.Arrival.{Arrival}
use Rattle.sched_state.specs.declared.entry.Flight.{Flight}
use Rattle.sched_state.specs.declared.entry.JobName.{JobName}
use Rattle.sched_state.specs.declared.entry.JobName.TheVariants.{Prepare, Analyze}
use Rattle.sched_state.specs.State.{SchedState, is_step_in, passes, top_of}
use Rattle.sched_state.specs.Picks.{analyzing, by_top, earlier, earliest, first_with, holds_back, is_held, job_or, or_later, preparing, stepping, unless_held}
use Rattle.sched_state.specs.Boards.{AreNumbered}
use Rattle.sched_state.specs.Reports.{run_steps}
use Rattle.sched_state.proofs.Openings.{first, second}
use Rattle.sched_laws.specs.Sound.{IsSound, Stands, StandsIn, is_on, jobs_of, not_ahead}
use Rattle.sched_laws.proofs.Lookups.{all-both, all-found, all-weaker}
use Rattle.sched_laws.proofs.Best.{best-over}
use Rattle.sched_laws.proofs.Statuses.{when-idle}
use Rattle.sched_laws.proofs.Taking.{found-test}

-- tests over a list
any-at : {X : Type 0} (P : X → Type 0) (t : X → Bool) (x : X) (rest b : Bool) → t x ≡ b → P x → (rest ≡ true → (y : X) × (t y ≡ true) × P y)
    → (b || rest) ≡ true → (y : X) × (t y ≡ true) × P y
any-at P t x rest true e p further h = (x, e, p)
any-at P t x rest false e p further h = further h

pub some-of : {X : Type 0} (P : X → Type 0) (t : X → Bool) (xs : List X) → AllByRecursion P xs → list_any t xs ≡ true → (y : X) × (t y ≡ true) × P y
some-of P t [] all h = absurd (cc)
some-of P t (x ∷ xs) all h = any-at P t x (list_any t xs) (t x) refl all.0 (some-of P t xs all.1) h

some-fails-at : {X : Type 0} (P : X → Type 0) (t : X → Bool) (x : X) (rest b : Bool) → t x ≡ b → P x → (rest ≡ false → (y : X) × (t y ≡ false) × P y)
    → (b && rest) ≡ false → (y : X) × (t y ≡ false) × P y
some-fails-at P t x rest true e p further h = further h
some-fails-at P t x rest false e p further h = (x, e, p)

pub some-fails : {X : Type 0} (P : X → Type 0) (t : X → Bool) (xs : List X) → AllByRecursion P xs → list_all t xs ≡ false → (y : X) × (t y ≡ false) × P y
some-fails P t [] all h = absurd (cc)
some-fails P t (x ∷ xs) all h = some-fails-at P t x (list_all t xs) (t x) refl all.0 (some-fails P t xs all.1) h

or-false : (a b : Bool) → a ≡ false → b ≡ false → (a || b) ≡ false
or-false true b e h = absurd (cc)
or-false false b e h = h

pub none-of : {X : Type 0} (t : X → Bool) (xs : List X) → AllByRecursion (λ x. t x ≡ false) xs → list_any t xs ≡ false
none-of t [] all = refl
none-of t (x ∷ xs) all = or-false (t x) (list_any t xs) all.0 (none-of t xs all.1)

each-false-at : {X : Type 0} (t : X → Bool) (x : X) (rest b : Bool) → t x ≡ b → (b || rest) ≡ false → (t x ≡ false) × (rest ≡ false)
each-false-at t x rest true e h = absurd (cc)
each-false-at t x rest false e h = (e, h)

pub each-false : {X : Type 0} (t : X → Bool) (xs : List X) → list_any t xs ≡ false → AllByRecursion (λ x. t x ≡ false) xs
each-false t [] h = tt
each-false t (x ∷ xs) h = let here = each-false-at t x (list_any t xs) (t x) refl h in (here.0, each-false t xs here.1)

pub and-true : (a b : Bool) → a ≡ true → b ≡ true → (a && b) ≡ true
and-true true b e h = h
and-true false b e h = absurd (cc)

and-second : (a b : Bool) → b ≡ false → (a && b) ≡ false
and-second true b e = e
and-second false b e = refl

-- where none is found, none passes
pub find-none : (q : ℕ → Bool) (x : ℕ) (stack : List ℕ) → is_on stack x ≡ true → q x ≡ true → find q stack ≡ None → ⊥
find-none q x [] on passes e = cc
find-none q x (y ∷ stack) on own e = at (find-none q x stack) (y == x) (q y) refl refl on e
  where
    at : (is_on stack x ≡ true → q x ≡ true → find q stack ≡ None → ⊥) → (here test : Bool) → (y == x) ≡ here → q y ≡ test → (here || is_on stack x) ≡ true
        → cond test (Some y) (find q stack) ≡ None → ⊥
    at ih here true h t o n = cc
    at ih true false h t o n = let same : y ≡ x = eqb-true y x h in cc (ap q same)
    at ih false false h t o n = ih o own n

pub on-has : (P : ℕ → Type 0) (x : ℕ) (stack : List ℕ) → AllByRecursion P stack → is_on stack x ≡ true → P x
on-has P x [] all on = absurd (cc)
on-has P x (y ∷ stack) all on = at (on-has P x stack all.1) (y == x) refl on
  where
    at : (is_on stack x ≡ true → P x) → (b : Bool) → (y == x) ≡ b → (b || is_on stack x) ≡ true → P x
    at ih true e h = subst P (eqb-true y x e) all.0
    at ih false e h = ih h

-- the dates
pub earlier-none : (a b : Option ℕ) → earlier a b ≡ None → (a ≡ None) × (b ≡ None)
earlier-none None b e = (refl, e)
earlier-none (Some x) None e = absurd (cc)
earlier-none (Some x) (Some y) e = absurd (cc)

there-at : (o : Option ℕ) (date : ℕ) → earlier o (Some date) ≡ None → ⊥
there-at None date e = cc
there-at (Some x) date e = cc

dates-keep : (dates : List ℕ) (o : Option ℕ) → (o ≡ None → ⊥) → fold (λ (p : Option ℕ) (d : ℕ). earlier p (Some d)) o dates ≡ None → ⊥
dates-keep [] o some e = some e
dates-keep (d ∷ dates) o some e = dates-keep dates (earlier o (Some d)) (there-at o d) e

pub no-dates : (dates : List ℕ) → earliest dates ≡ None → dates ≡ []
no-dates [] e = refl
no-dates (d ∷ dates) e = absurd (dates-keep dates (earlier None (Some d)) (there-at None d) e)

pub no-arrival : (arrivals : List Arrival) → option_map (λ (a : Arrival). a.at) (slice_get arrivals 0) ≡ None → arrivals ≡ []
no-arrival [] e = refl
no-arrival (a ∷ arrivals) e = absurd (cc)

pub filter-none : {X : Type 0} (t : X → Bool) (xs : List X) → filter t xs ≡ [] → AllByRecursion (λ x. t x ≡ false) xs
filter-none t [] e = tt
filter-none t (x ∷ xs) e = at (filter-none t xs) (t x) refl e
  where
    at : (filter t xs ≡ [] → AllByRecursion (λ x. t x ≡ false) xs) → (b : Bool) → t x ≡ b → cond b (x ∷ filter t xs) (filter t xs) ≡ []
        → (t x ≡ false) × AllByRecursion (λ x. t x ≡ false) xs
    at ih true h k = absurd (cc)
    at ih false h k = (h, ih k)

pub map-none : {X Y : Type 0} (f : X → Y) (xs : List X) → map f xs ≡ [] → xs ≡ []
map-none f [] e = refl
map-none f (x ∷ xs) e = absurd (cc)

-- no job
pub no-job : (f : ℕ → JobName) (a b c : Option ℕ) → job_or f a (job_or Prepare b (job_or Analyze c None)) ≡ None → (a ≡ None) × (b ≡ None) × (c ≡ None)
no-job f None None None e = (refl, refl, refl)
no-job f None None (Some c) e = absurd (cc)
no-job f None (Some b) c e = absurd (cc)
no-job f (Some a) b c e = absurd (cc)

later-none : (a b : Option ℕ) → or_later a b ≡ None → (a ≡ None) × (b ≡ None)
later-none None b e = (refl, e)
later-none (Some x) b e = absurd (cc)

first-at : (choose : ℕ → Option ℕ) (from k : ℕ) (rest : (from + 1 ≤ k → choose k ≡ None)) → choose from ≡ None → from ≤ k
    → ((from == k) ≡ true) × (from ≡ k) ⊎ ((from == k) ≡ false) × (from ≢ k) → choose k ≡ None
first-at choose from k rest here h (inl same) = ap choose (sym same.1) ∙ here
first-at choose from k rest here h (inr other) = let more : from ≢ k = other.1 in rest (omega (arith, h, more))

pub no-first : (choose : ℕ → Option ℕ) (from n k : ℕ) → first_with choose (range_with_len from n) ≡ None → from ≤ k → k < from + n → choose k ≡ None
no-first choose from zero k e h l = absurd (omega (arith, h, l))
no-first choose from (suc n) k e h l =
    let both : (choose from ≡ None) × (first_with choose (range_with_len (from + 1) n) ≡ None) =
    later-none (choose from) (first_with choose (range_with_len (from + 1) n)) e in
    first-at choose from k (λ more. no-first choose (from + 1) n k both.1 more (omega (arith, l))) both.0 h (eqb_tells from k)

-- what is known of each run while no job is in flight
abbrev pub Idle : Session → SchedState → Run → Type 0
Idle session state r =
    (run_of state.runs r.rid ≡ Some r) × StandsIn (length (run_steps session r)) 0 r.rid r.pos [] (is_on state.stack r.rid)
    (top_of state.runs state.stack r.pipeline) r.status
    × (is_preparing r.status ≡ false) × (is_analyzing r.status ≡ false)

idle-at : (session : Session) (state : SchedState) (r : Run) → state.flying ≡ [] → (run_of state.runs r.rid ≡ Some r) × Stands session not_ahead state r
    → Idle session state r
idle-at session state r none h =
    let P : List Flight → Type 0 =
    λ fs. StandsIn (length (run_steps session r)) 0 r.rid r.pos (jobs_of fs r.rid) (is_on state.stack r.rid)
    (top_of state.runs state.stack r.pipeline) r.status in
    let stood = subst P none h.1 in
    let idle = when-idle (length (run_steps session r)) 0 r.rid r.pos (is_on state.stack r.rid) (top_of state.runs state.stack r.pipeline) r.status stood in
    (h.0, stood, idle.0, idle.1)

pub all-idle : (session : Session) (state : SchedState) → IsSound session state → state.flying ≡ [] → AllByRecursion (Idle session state) state.runs
all-idle session state was none =
    all-weaker (λ (r : Run). (run_of state.runs r.rid ≡ Some r) × Stands session not_ahead state r) (Idle session state)
    (λ r h. idle-at session state r none h) state.runs
    (all-both (λ (r : Run). run_of state.runs r.rid ≡ Some r) (Stands session not_ahead state) state.runs (all-found state.runs was.numbered) was.stands)

-- where no best run is found, none passes
pub best-none : (test : Run → Bool) (runs : List Run) → AreNumbered runs → best test runs ≡ None → list_any test runs ≡ false
best-none test runs numbered e = at (list_any test runs) refl
  where
    at : (b : Bool) → list_any test runs ≡ b → b ≡ false
    at true h = let some = best-over test test runs numbered (λ x k. k) h in absurd (cc (some.2.1.0))
    at false h = refl

-- nothing is due in a pipeline
abbrev pub NothingDue : SchedState → ℕ → Type 0
NothingDue state pipeline = (stepping state pipeline ≡ None) × (preparing state pipeline ≡ None) × (analyzing state pipeline ≡ None)

free-at : (b : Bool) (found : Option ℕ) → b ≡ false → cond b None found ≡ None → found ≡ None
free-at true found e h = absurd (cc)
free-at false found e h = h

pub step-none : (state : SchedState) (pipeline : ℕ) → state.flying ≡ [] → stepping state pipeline ≡ None
    → by_top state.runs state.clock pipeline (top_of state.runs state.stack pipeline) ≡ None
step-none state pipeline none e =
    free-at (list_any (λ (flight : Flight). is_step_in state.runs pipeline flight.job) state.flying)
    (by_top state.runs state.clock pipeline (top_of state.runs state.stack pipeline))
    (ap (list_any (λ (flight : Flight). is_step_in state.runs pipeline flight.job)) none) e

held-at : (runs : List Run) (found : Option ℕ) (rid : ℕ) → found ≡ Some rid → unless_held runs found ≡ None → is_held runs rid ≡ true
held-at runs None rid e h = absurd (cc)
held-at runs (Some other) rid e h = at (is_held runs other) refl h
  where
    same : other ≡ rid
    same = cc

    at : (b : Bool) → is_held runs other ≡ b → cond b None (Some other) ≡ None → is_held runs rid ≡ true
    at true k n = ap (is_held runs) (sym same) ∙ k
    at false k n = absurd (cc)

-- whoever is to be prepared is held back
pub prepare-held : (session : Session) (state : SchedState) (pipeline rid : ℕ) → IsSound session state → state.flying ≡ [] → preparing state pipeline ≡ None
    → best (can_prepare pipeline state.clock) state.runs ≡ Some rid → is_held state.runs rid ≡ true
prepare-held session state pipeline rid was none e is_best =
    let t : Run → Bool = λ run. is_of pipeline run && is_preparing run.status in
    let no_one : list_any t state.runs ≡ false =
    none-of t state.runs (all-weaker (Idle session state) (λ r. t r ≡ false) (λ r h. and-second (is_of pipeline r) (is_preparing r.status) h.2) state.runs
    (all-idle session state was none)) in
    held-at state.runs (best (can_prepare pipeline state.clock) state.runs) rid is_best
    (free-at (list_any t state.runs) (unless_held state.runs (best (can_prepare pipeline state.clock) state.runs)) no_one e)

pub no-done : (session : Session) (state : SchedState) (pipeline : ℕ) → IsSound session state → state.flying ≡ [] → analyzing state pipeline ≡ None
    → AllByRecursion (λ (r : Run). can_analyze pipeline r ≡ false) state.runs
no-done session state pipeline was none e =
    let t : Run → Bool = λ run. is_of pipeline run && is_analyzing run.status in
    let no_one : list_any t state.runs ≡ false =
    none-of t state.runs (all-weaker (Idle session state) (λ r. t r ≡ false) (λ r h. and-second (is_of pipeline r) (is_analyzing r.status) h.3) state.runs
    (all-idle session state was none)) in
    each-false (can_analyze pipeline) state.runs (best-none (can_analyze pipeline) state.runs was.numbered
    (free-at (list_any t state.runs) (best (can_analyze pipeline) state.runs) no_one e))

-- a run that holds another back
pub holder : (session : Session) (state : SchedState) (b : Run) → run_of state.runs b.rid ≡ Some b → is_held state.runs b.rid ≡ true
    → AllByRecursion (Idle session state) state.runs
    → (x : Run) × (x.pipeline ≡ b.pipeline) × (is_started x.status ≡ true) × (b.priority ≤ℤ x.priority) × Idle session state x
holder session state b there held all =
    let both : (b.flush && list_any (holds_back b) state.runs) ≡ true =
    sym (found-test (λ (run : Run). run.flush && list_any (holds_back run) state.runs) state.runs b.rid b there) ∙ held in
    let some = some-of (Idle session state) (holds_back b) state.runs all (second b.flush (list_any (holds_back b) state.runs) both) in
    let x : Run = some.0 in
    let three : (is_of b.pipeline x && not (x.rid == b.rid) && is_started x.status) ≡ true =
    first (is_of b.pipeline x && not (x.rid == b.rid) && is_started x.status) (not (int_lt x.priority b.priority)) some.1 in
    let two : (is_of b.pipeline x && not (x.rid == b.rid)) ≡ true = first (is_of b.pipeline x && not (x.rid == b.rid)) (is_started x.status) three in
    let least : not (int_lt x.priority b.priority) ≡ true =
    second (is_of b.pipeline x && not (x.rid == b.rid) && is_started x.status) (not (int_lt x.priority b.priority)) some.1 in (
      x,
      eqb-true x.pipeline b.pipeline (first (is_of b.pipeline x) (not (x.rid == b.rid)) two),
      second (is_of b.pipeline x && not (x.rid == b.rid))
          (is_started x.status) three,
      not-less x.priority b.priority least,
      some.2,
    )
  where
    not-less : (m n : ℤ) → not (int_lt m n) ≡ true → n ≤ℤ m
    not-less m n h = grind (arith, ints)
