-- A sound state always has something to come: all is over, a job is due or in flight, or a later date is known.
use Rattle.std.proofs.Common.{◌≡◌, ℕ, ◌<◌, Bool, true, false, List, [], ◌∷◌, cond, filter, length, map, refl, sym, ◌∙◌, ap, arith, subst, inl, inr}
use Rattle.std.specs.Prelude.{ℤ, ◌<ℤ◌, ◌≤ℤ◌, int_lt, Option, Some, None, nat_lt, nat_le, option_map, slice_get, ◌==◌, ◌⊎◌, ◌&&◌, ◌||◌}
use Rattle.std.specs.List.{AllByRecursion, list_all, list_any}
use Rattle.std.proofs.lemmas.Bool.{eq-eqb, eqb-true}
use Rattle.std.proofs.lemmas.Bool.Decides.{nat_tests}
use Rattle.std.proofs.lemmas.Int.{ints}
use Rattle.exp_runs.specs.declared.run.Run.{Run}
use Rattle.exp_runs.specs.declared.run.Status.{Status}
use Rattle.exp_runs.specs.declared.run.Status.TheVariants as status
use Rattle.exp_runs.specs.Keys.{best, can_analyze, can_prepare, can_run, is_due, is_higher, is_of, run_of, some_higher}
use Rattle.exp_runs.specs.Statuses.{is_ended, is_pending, is_prepared, is_preparing, is_run_done, is_running, is_started}
use Rattle.exp_model.specs.declared.session.Session.{Session}
use Rattle.exp_model.specs.declared.arrival.Arrival.{Arrival}
use Rattle.sched_state.specs.declared.entry.JobName.TheVariants.{Step}
use Rattle.sched_state.specs.State.{SchedState, passes, top_of}
use Rattle.sched_state.specs.Picks.{analyzing, by_top, earliest, first_with, is_over, next_date, pick, pipelines_of, pos_of, prepared_above, prepared_higher, preparing, stepping, waits_longer}
use Rattle.sched_state.specs.Reports.{run_steps}
use Rattle.sched_state.proofs.Openings.{first, second}
use Rattle.sched_laws.specs.Sound.{IsRunOf, IsSound, StandsIn, is_on}
use Rattle.sched_laws.proofs.Lookups.{all-both, found-below, found-has}
use Rattle.sched_laws.proofs.Flying.{top-on}
use Rattle.sched_laws.proofs.Best.{best-over}
use Rattle.sched_laws.proofs.Statuses.{when-lives, when-started}
use Rattle.sched_laws.proofs.Taking.{IsAtMost, below-top, found-test, of-pipeline, on-known, prepared-best}
use Rattle.sched_laws.proofs.Idle.{Idle, NothingDue, all-idle, and-true, best-none, each-false, earlier-none, filter-none, find-none, holder, map-none, no-arrival, no-dates, no-done, no-first, no-job, on-has, prepare-held, some-fails, some-of, step-none}

-- The top of a stack can't be what nothing is due for. It would be paused, with a higher run that is due; the best of those
-- that are due is held back only by a run of at least its priority, and none on the stacks has one.
abbrev Around : Session → SchedState → Run → Run → Type 0
Around session state t r = Idle session state r × ((is_prepared r.status && is_higher state.clock t r) ≡ false)

-- a higher run that is neither prepared nor being prepared is due
higher-due : (t o : Run) (clock : ℕ) → is_higher clock t o ≡ true → is_preparing o.status ≡ false → (is_prepared o.status && is_higher clock t o) ≡ false
    → (can_prepare t.pipeline clock o && int_lt t.priority o.priority) ≡ true
higher-due t o clock higher no_preparing no_prepared =
    let two : (is_of t.pipeline o && int_lt t.priority o.priority) ≡ true =
    first (is_of t.pipeline o && int_lt t.priority o.priority) (is_due clock o || is_preparing o.status || is_prepared o.status) higher in
    let stands : (is_due clock o || is_preparing o.status || is_prepared o.status) ≡ true =
    second (is_of t.pipeline o && int_lt t.priority o.priority) (is_due clock o || is_preparing o.status || is_prepared o.status) higher in
    let own : is_of t.pipeline o ≡ true = first (is_of t.pipeline o) (int_lt t.priority o.priority) two in
    let lt : int_lt t.priority o.priority ≡ true = second (is_of t.pipeline o) (int_lt t.priority o.priority) two in
    let not_prepared : is_prepared o.status ≡ false = if-false (is_prepared o.status) (is_higher clock t o) higher no_prepared in
    let due : is_due clock o ≡ true = only-first (is_due clock o) (is_preparing o.status) (is_prepared o.status) stands no_preparing not_prepared in
    and-true (is_of t.pipeline o && is_due clock o) (int_lt t.priority o.priority) (and-true (is_of t.pipeline o) (is_due clock o) own due) lt
  where
    if-false : (a b : Bool) → b ≡ true → (a && b) ≡ false → a ≡ false
    if-false true b h e = absurd (cc)
    if-false false b h e = refl

    only-first : (a b c : Bool) → (a || b || c) ≡ true → b ≡ false → c ≡ false → a ≡ true
    only-first true b c h e k = refl
    only-first false true c h e k = absurd (cc)
    only-first false false c h e k = absurd (cc)

-- it holds back nobody
holds-none : (session : Session) (state : SchedState) (pipeline top : ℕ) (t x : Run) → IsSound session state → run_of state.runs top ≡ Some t
    → t.pipeline ≡ pipeline → top_of state.runs state.stack pipeline ≡ Some top → is_running t.status ≡ false
    → can_analyze pipeline x ≡ false → Around session state t x → x.pipeline ≡ pipeline → t.priority <ℤ x.priority
    → ((x.status ≡ status.Prepared) ⊎ (x.status ≡ status.Running)) ⊎ ((x.status ≡ status.Paused) ⊎ (x.status ≡ status.RunDone)) → ⊥
holds-none session state pipeline top t x was there own is_top paused no_done around p lt (inl (inl e)) =
    let prepared : is_prepared x.status ≡ true = ap is_prepared e in
    let lt_test : int_lt t.priority x.priority ≡ true = grind (arith, ints) in
    let of : is_of t.pipeline x ≡ true = eq-eqb x.pipeline t.pipeline (p ∙ sym own) in
    let any : (is_due state.clock x || is_preparing x.status || is_prepared x.status) ≡ true =
    any-last (is_due state.clock x || is_preparing x.status) (is_prepared x.status) prepared in
    let higher : is_higher state.clock t x ≡ true =
    and-true (is_of t.pipeline x && int_lt t.priority x.priority) (is_due state.clock x || is_preparing x.status || is_prepared x.status)
    (and-true (is_of t.pipeline x) (int_lt t.priority x.priority) of lt_test) any in
    cc (and-true (is_prepared x.status) (is_higher state.clock t x) prepared higher, around.1)
  where
    any-last : (a b : Bool) → b ≡ true → (a || b) ≡ true
    any-last true b h = refl
    any-last false b h = h
holds-none session state pipeline top t x was there own is_top paused no_done around p lt (inl (inr e)) =
    let Z : Status → Type 0 =
    λ is. StandsIn (length (run_steps session x)) 0 x.rid x.pos [] (is_on state.stack x.rid) (top_of state.runs state.stack x.pipeline) is in
    let stood : Z status.Running = subst Z e around.0.1 in
    let same : top ≡ x.rid = cc (ap (top_of state.runs state.stack) p, is_top, stood.0) in
    let is : t ≡ x = cc (ap (run_of state.runs) same, there, around.0.0) in
    let run : is_running t.status ≡ true = ap (λ (r : Run). is_running r.status) is ∙ ap is_running e in
    cc (run, paused)
holds-none session state pipeline top t x was there own is_top paused no_done around p lt (inr (inl e)) =
    let Z : Status → Type 0 =
    λ is. StandsIn (length (run_steps session x)) 0 x.rid x.pos [] (is_on state.stack x.rid) (top_of state.runs state.stack x.pipeline) is in
    let stood : Z status.Paused = subst Z e around.0.1 in
    let most : x.priority ≤ℤ t.priority =
    on-has (IsAtMost state.runs pipeline t.priority) x.rid state.stack (below-top state.runs pipeline top t state.stack there own was.rising is_top) stood.1 x
    around.0.0 p in
    absurd (omega (arith, ints, most, lt))
holds-none session state pipeline top t x was there own is_top paused no_done around p lt (inr (inr e)) =
    let done : is_run_done x.status ≡ true = ap is_run_done e in
    cc (and-true (is_of pipeline x) (is_run_done x.status) (eq-eqb x.pipeline pipeline p) done, no_done)

any-found-at : (test : Run → Bool) (r o : Run) (runs : List Run) (n : ℕ) (b : Bool) → (r.rid == n) ≡ b → test o ≡ true
    → (run_of runs n ≡ Some o → list_any test runs ≡ true) → cond b (Some r) (run_of runs n) ≡ Some o → (test r || list_any test runs) ≡ true
any-found-at test r o runs n true e h rest found = let is : r ≡ o = cc in rw (ap test is ∙ h) refl
any-found-at test r o runs n false e h rest found = any-rest (test r) (list_any test runs) (rest found)
  where
    any-rest : (a b : Bool) → b ≡ true → (a || b) ≡ true
    any-rest true b k = refl
    any-rest false b k = k

-- a run that is found and passes
pub any-found : (test : Run → Bool) (runs : List Run) (n : ℕ) (o : Run) → run_of runs n ≡ Some o → test o ≡ true → list_any test runs ≡ true
any-found test [] n o found h = absurd (cc)
any-found test (r ∷ runs) n o found h = any-found-at test r o runs n (r.rid == n) refl h (λ rest. any-found test runs n o rest h) found

some-above : (runs : List Run) (top clock : ℕ) (t : Run) → run_of runs top ≡ Some t → some_higher runs top clock ≡ true
    → list_any (is_higher clock t) runs ≡ true
some-above runs top clock t there h = rw there at h

less-all : (a b c d : ℤ) → int_lt a b ≡ true → b ≤ℤ c → c ≤ℤ d → a <ℤ d
less-all a b c d h k l = grind (arith, ints)

-- a top for which nothing is due
no-top : (session : Session) (state : SchedState) (pipeline top : ℕ) → IsSound session state → state.flying ≡ [] → NothingDue state pipeline
    → top_of state.runs state.stack pipeline ≡ Some top → ⊥
no-top session state pipeline top was none nothing is_top =
    let on = top-on (passes (is_of pipeline) state.runs) top state.stack is_top in
    let found = found-below 0 state.runs top was.numbered (omega arith) (omega (arith, on-known (length state.runs) top state.stack was.stacked on.0)) in
    let by : by_top state.runs state.clock pipeline (Some top) ≡ None =
    ap (by_top state.runs state.clock pipeline) (sym is_top) ∙ step-none state pipeline none nothing.0 in
    at found.0 found.1 (eqb-true found.0.pipeline pipeline (sym (found-test (is_of pipeline) state.runs top found.0 found.1) ∙ on.1))
    (passes (λ (r : Run). is_running r.status) state.runs top) (prepared_higher state.runs top state.clock)
    (some_higher state.runs top state.clock) refl refl refl by
  where
    at : (t : Run) → run_of state.runs top ≡ Some t → t.pipeline ≡ pipeline → (running prepared higher : Bool)
        → passes (λ (r : Run). is_running r.status) state.runs top ≡ running → prepared_higher state.runs top state.clock ≡ prepared
        → some_higher state.runs top state.clock ≡ higher
        → cond running (Some top) (cond prepared (best (can_run pipeline) state.runs) (cond higher None (Some top))) ≡ None → ⊥
    at t there own true prepared higher a b c e = cc
    at t there own false true higher a b c e =
        let some = prepared-best state.runs t state.clock was.numbered (sym (ap (prepared_above state.runs state.clock) there) ∙ b) in
        let P : ℕ → Type 0 = λ p. best (can_run p) state.runs ≡ Some some.0.rid in
        cc (subst P own some.1.0, e)
    at t there own false false false a b c e = cc
    at t there own false false true a b c e =
        let paused : is_running t.status ≡ false = sym (found-test (λ (r : Run). is_running r.status) state.runs top t there) ∙ a in
        let no_prepared : AllByRecursion (λ (r : Run). (is_prepared r.status && is_higher state.clock t r) ≡ false) state.runs =
        each-false (λ (r : Run). is_prepared r.status && is_higher state.clock t r) state.runs (sym (ap (prepared_above state.runs state.clock) there) ∙ b) in
        let around : AllByRecursion (Around session state t) state.runs =
        all-both (Idle session state) (λ (r : Run). (is_prepared r.status && is_higher state.clock t r) ≡ false) state.runs
        (all-idle session state was none) no_prepared in
        let higher : list_any (is_higher state.clock t) state.runs ≡ true = some-above state.runs top state.clock t there c in
        let o = some-of (Around session state t) (is_higher state.clock t) state.runs around higher in
        let test : Run → Bool = λ r. can_prepare t.pipeline state.clock r && int_lt t.priority r.priority in
        let passes_test : test o.0 ≡ true = higher-due t o.0 state.clock o.1 o.2.0.2 o.2.1 in
        let there_is : list_any test state.runs ≡ true = any-found test state.runs o.0.rid o.0 o.2.0.0 passes_test in
        let b =
        best-over (can_prepare t.pipeline state.clock) test state.runs was.numbered
        (λ x h. first (can_prepare t.pipeline state.clock x) (int_lt t.priority x.priority) h) there_is in
        let lt_o : int_lt t.priority b.0.priority ≡ true = second (can_prepare t.pipeline state.clock b.0) (int_lt t.priority b.0.priority) b.1 in
        let le_o : b.0.priority ≤ℤ b.2.0.priority = b.2.2 in
        let P : ℕ → Type 0 = λ p. best (can_prepare p state.clock) state.runs ≡ Some b.2.0.rid in
        let held = prepare-held session state pipeline b.2.0.rid was none nothing.1 (subst P own b.2.1.0) in
        let x = holder session state b.2.0 b.2.1.1 held (all-idle session state was none) in
        let of : is_of t.pipeline b.2.0 ≡ true = first (is_of t.pipeline b.2.0) (is_due state.clock b.2.0) b.2.1.2 in
        let same : x.0.pipeline ≡ pipeline = x.1 ∙ eqb-true b.2.0.pipeline t.pipeline of ∙ own in
        let le_x : b.2.0.priority ≤ℤ x.0.priority = x.3 in
        let lt : t.priority <ℤ x.0.priority = less-all t.priority b.0.priority b.2.0.priority x.0.priority lt_o le_o le_x in
        let near : Around session state t x.0 =
        (x.4, found-has (λ (r : Run). (is_prepared r.status && is_higher state.clock t r) ≡ false) state.runs x.0.rid x.0 no_prepared x.4.0) in
        holds-none session state pipeline top t x.0 was there own is_top paused
        (found-has (λ (r : Run). can_analyze pipeline r ≡ false) state.runs x.0.rid x.0 (no-done session state pipeline was none nothing.2) x.4.0) near same lt
        (when-started x.0.status x.4.2 x.4.3 x.2)

-- where no run of a pipeline is on the stacks, none of it has started
none-started : (session : Session) (state : SchedState) (pipeline : ℕ) (x : Run) → IsSound session state → state.flying ≡ [] → NothingDue state pipeline
    → top_of state.runs state.stack pipeline ≡ None → Idle session state x → x.pipeline ≡ pipeline
    → ((x.status ≡ status.Prepared) ⊎ (x.status ≡ status.Running)) ⊎ ((x.status ≡ status.Paused) ⊎ (x.status ≡ status.RunDone)) → ⊥
none-started session state pipeline x was none nothing no_stack idle p (inl (inl e)) =
    let by : best (can_run pipeline) state.runs ≡ None = ap (by_top state.runs state.clock pipeline) (sym no_stack) ∙ step-none state pipeline none nothing.0 in
    let test : can_run pipeline x ≡ true = and-true (is_of pipeline x) (is_prepared x.status) (eq-eqb x.pipeline pipeline p) (ap is_prepared e) in
    cc (any-found (can_run pipeline) state.runs x.rid x idle.0 test, best-none (can_run pipeline) state.runs was.numbered by)
none-started session state pipeline x was none nothing no_stack idle p (inl (inr e)) =
    let Z : Status → Type 0 =
    λ is. StandsIn (length (run_steps session x)) 0 x.rid x.pos [] (is_on state.stack x.rid) (top_of state.runs state.stack x.pipeline) is in
    let stood : Z status.Running = subst Z e idle.1 in
    cc (ap (top_of state.runs state.stack) p, no_stack, stood.0)
none-started session state pipeline x was none nothing no_stack idle p (inr (inl e)) =
    let Z : Status → Type 0 =
    λ is. StandsIn (length (run_steps session x)) 0 x.rid x.pos [] (is_on state.stack x.rid) (top_of state.runs state.stack x.pipeline) is in
    let stood : Z status.Paused = subst Z e idle.1 in
    find-none (passes (is_of pipeline) state.runs) x.rid state.stack stood.1 (of-pipeline state.runs pipeline x.rid x idle.0 p) no_stack
none-started session state pipeline x was none nothing no_stack idle p (inr (inr e)) =
    let done : is_run_done x.status ≡ true = ap is_run_done e in
    let no_done = found-has (λ (r : Run). can_analyze pipeline r ≡ false) state.runs x.rid x (no-done session state pipeline was none nothing.2) idle.0 in
    cc (and-true (is_of pipeline x) (is_run_done x.status) (eq-eqb x.pipeline pipeline p) done, no_done)

-- nor is any due
none-waits : (session : Session) (state : SchedState) (pipeline : ℕ) (r : Run) → IsSound session state → state.flying ≡ [] → NothingDue state pipeline
    → top_of state.runs state.stack pipeline ≡ None → Idle session state r → r.pipeline ≡ pipeline → waits_longer state.clock r ≡ false
    → (r.status ≡ status.Pending) ⊎ (is_started r.status ≡ true) → ⊥
none-waits session state pipeline r was none nothing no_stack idle p no_wait (inr started) =
    none-started session state pipeline r was none nothing no_stack idle p (when-started r.status idle.2 idle.3 started)
none-waits session state pipeline r was none nothing no_stack idle p no_wait (inl e) =
    let pending : is_pending r.status ≡ true = ap is_pending e in
    let come : nat_le r.due state.clock ≡ true = reached r.due state.clock (is_pending r.status) pending no_wait in
    let test : can_prepare pipeline state.clock r ≡ true =
    and-true (is_of pipeline r) (is_due state.clock r) (eq-eqb r.pipeline pipeline p)
    (and-true (is_pending r.status) (nat_le r.due state.clock) pending come) in
    let b =
    best-over (can_prepare pipeline state.clock) (can_prepare pipeline state.clock) state.runs was.numbered (λ x h. h)
    (any-found (can_prepare pipeline state.clock) state.runs r.rid r idle.0 test) in
    let held = prepare-held session state pipeline b.2.0.rid was none nothing.1 b.2.1.0 in
    let x = holder session state b.2.0 b.2.1.1 held (all-idle session state was none) in
    let of : is_of pipeline b.2.0 ≡ true = first (is_of pipeline b.2.0) (is_due state.clock b.2.0) b.2.1.2 in
    none-started session state pipeline x.0 was none nothing no_stack x.4 (x.1 ∙ eqb-true b.2.0.pipeline pipeline of) (when-started x.0.status x.4.2 x.4.3 x.2)
  where
    reached : (due clock : ℕ) (a : Bool) → a ≡ true → (a && nat_lt clock due) ≡ false → nat_le due clock ≡ true
    reached due clock true h k = grind (arith, nat_tests)
    reached due clock false h k = absurd (cc)

top-cases : (session : Session) (state : SchedState) (pipeline : ℕ) (top : Option ℕ) → IsSound session state → state.flying ≡ [] → NothingDue state pipeline
    → top_of state.runs state.stack pipeline ≡ top → top_of state.runs state.stack pipeline ≡ None
top-cases session state pipeline None was none nothing e = e
top-cases session state pipeline (Some top) was none nothing e = absurd (no-top session state pipeline top was none nothing e)

-- with no job due, none in flight and no later date, all is over
pub never-stuck : (session : Session) (state : SchedState) → IsSound session state → is_over state ≡ false → pick session state ≡ None → state.flying ≡ []
    → next_date state ≡ None → ⊥
never-stuck session state was goes_on no_pick none no_date =
    let dates =
    earlier-none (option_map (λ (a : Arrival). a.at) (slice_get state.arrivals 0))
    (earliest (map (λ (r : Run). r.due) (filter (waits_longer state.clock) state.runs))) no_date in
    let no_more : state.arrivals ≡ [] = no-arrival state.arrivals dates.0 in
    let no_wait : AllByRecursion (λ (r : Run). waits_longer state.clock r ≡ false) state.runs =
    filter-none (waits_longer state.clock) state.runs (map-none (λ (r : Run). r.due) (filter (waits_longer state.clock) state.runs)
    (no-dates (map (λ (r : Run). r.due) (filter (waits_longer state.clock) state.runs)) dates.1)) in
    let lives : list_all (λ (r : Run). is_ended r.status) state.runs ≡ false =
    rest-false (length state.arrivals == 0) (list_all (λ (r : Run). is_ended r.status) state.runs)
    (ap (λ (left : List Arrival). length left == 0) no_more) goes_on in
    let F : Run → Type 0 = λ r. IsRunOf session r × (waits_longer state.clock r ≡ false) in
    let G : Run → Type 0 = λ r. Idle session state r × F r in
    let all : AllByRecursion G state.runs =
    all-both (Idle session state) F state.runs (all-idle session state was none)
    (all-both (IsRunOf session) (λ (r : Run). waits_longer state.clock r ≡ false) state.runs was.fit no_wait) in
    let r = some-fails G (λ (x : Run). is_ended x.status) state.runs all lives in
    let p : ℕ = r.0.pipeline in
    let within : p < length session.pipelines = r.2.1.0.pipeline in
    let jobs =
    no-job (λ rid. Step rid (pos_of state.runs rid)) (first_with (stepping state) (pipelines_of session)) (first_with (preparing state) (pipelines_of session))
    (first_with (analyzing state) (pipelines_of session)) no_pick in
    let nothing : NothingDue state p = (
      no-first (stepping state) 0 (length session.pipelines) p jobs.0 (omega arith) (omega (arith, within)),
      no-first (preparing state) 0 (length session.pipelines) p jobs.1 (omega arith) (omega (arith, within)),
      no-first (analyzing state) 0 (length session.pipelines) p jobs.2 (omega arith) (omega (arith, within)),
    ) in
    let no_stack : top_of state.runs state.stack p ≡ None = top-cases session state p (top_of state.runs state.stack p) was none nothing refl in
    none-waits session state p r.0 was none nothing no_stack r.2.0 refl r.2.1.1 (when-lives r.0.status r.1)
  where
    rest-false : (a b : Bool) → a ≡ true → (a && b) ≡ false → b ≡ false
    rest-false true b h e = e
    rest-false false b h e = absurd (cc)
