-- The steps of a session that a schedule gives.
use Rattle.std.proofs.Common.{◌≡◌, ◌≢◌, ◌↔◌, ℕ, zero, suc, ◌+◌, ◌*◌, ◌-◌, ◌≤◌, ◌<◌, List, Bool, true, false, Some, None, IsTrue, [], ◌∷◌, ◌++◌, inl, inr, refl, sym, ap, subst, ◌∙◌, arith}
use Rattle.std.specs.Prelude.{ℤ, Option, ◌⊎◌, ◌==◌, if◌then◌else◌, min}
use Rattle.std.proofs.lemmas.Bool.{cases_lt, lt-ltb, le-ltb, eq-eqb, ne_eqb, both_ways}
use Rattle.std.proofs.lemmas.Nat.{row_fits}
use Rattle.rtio_types.specs.declared.outcome.Outcome.TheVariants as outcome
use Rattle.rtio_types.specs.declared.request.Request.{Request}
use Rattle.rtio_types.specs.declared.request.Reply.{Reply}
use Rattle.rtio_types.specs.declared.request.Waiting.{Waiting}
use Rattle.rtio_types.specs.declared.request.Waiting.TheVariants as waiting
use Rattle.rtio_types.specs.Requests.{request_waiting}
use Rattle.rtio_core.specs.declared.data.Act.TheVariants.{End}
use Rattle.rtio_core.specs.Calls.{NoOtherWaits, answered, ended}
use Rattle.rtio_core.specs.Core.{CoreState, IsCore, core_top}
use Rattle.rtio_core.specs.Lawful.{IsOpenFor}
use Rattle.rtio_core.specs.Reply.{reply_to}
use Rattle.run_schedule.specs.declared.schedule.Step.{Step}
use Rattle.run_schedule.specs.declared.schedule.Step.TheVariants.{Cpu, Tick}
use Rattle.run_schedule.specs.Schedules.{ScheduleState, Lockstep, Letters, Mix, ComesNearer, step_of, after_step, ticks_before_cpu}
use Rattle.core_session.specs.declared.turn.Turn.{Turn}
use Rattle.core_session.specs.declared.turn.Turn.TheVariants.{Replied, Again, Over}
use Rattle.core_session.specs.Scripts.{Next, Asks}
use Rattle.core_session.specs.Sessions.{entry_of}
use Rattle.core_session.specs.Stepping.{HasStoppedAsking, HasStoppedOnce, IsAnsweredBySteps, IsAskedByStep, IsCpuNext, IsGivenUpBySteps, LeadsBySteps, playing, ticks_in_a_row, waits_with}
use Rattle.core_session.specs.Timed.{IsStoppedAt, IsStoppedIn, Playing, as_waiting, played, played_steps, processed, replied, session_replies, stepped, ticked, waits, waits_for}

-- ---- some steps, and then some more

-- some steps, and then some more
pub steps-more : (next : List Reply → Next) (m n : ℕ) (p : Playing) → (k : ℕ) × (played_steps next 0 k p ≡ played_steps next 0 m (played_steps next 0 n p))
steps-more next zero n p = (n, refl)
steps-more next (suc m) n p = let more = steps-more next m n p in (suc more.0, ap (played next 0) more.1)

pub so-many : (next : List Reply → Next) {p q r : Playing} (n : ℕ) → played_steps next 0 n p ≡ q → (m : ℕ) × (played_steps next 0 m q ≡ r) → (k : ℕ) × (played_steps next 0 k p ≡ r)
so-many next {p} n first more =
    let whole = steps-more next more.0 n p in
    (whole.0, whole.1 ∙ ap (played_steps next 0 more.0) first ∙ more.1)

-- ---- one step

-- the test of the code is that of the definition
held-as : (held : Bool) (core : CoreState) → (IsTrue held ↔ (core.counter ≡ core_top core)) → held ≡ (core.counter == core_top core)
held-as true core tells = sym (eq-eqb core.counter (core_top core) (tells.0 refl))
held-as false core tells = sym (ne_eqb core.counter (core_top core) (λ same. both_ways false refl (tells.1 same)))

-- one step, by whose it is
by-step : (next : List Reply → Next) (core : CoreState) (schedule : ScheduleState) (held : Bool) (step : Step) → held ≡ (core.counter == core_top core) → step ≡ step_of schedule held
    → played next 0 (playing core schedule false) ≡ stepped next 0 step (playing core (after_step schedule) false)
by-step next core schedule held step is says =
    ap (λ (b : Bool). stepped next 0 (step_of schedule b) (playing core (after_step schedule) false)) (sym is) ∙ ap (λ (t : Step). stepped next 0 t (playing core (after_step schedule) false)) (sym says)

-- ---- ticks

one-tick : (next : List Reply → Next) (core : CoreState) → core.counter < core_top core → played next 0 (playing core Lockstep false) ≡ playing (record core { counter = core.counter + 1 }) Lockstep false
one-tick next core below =
    by-step next core Lockstep false Tick (sym (ne_eqb core.counter (core_top core) (λ same. let at : core.counter ≡ core_top core = same in absurd (omega (arith, at, below))))) refl
    ∙ ap (λ (b : Bool). playing (if b then record core { counter = core.counter + 1 } else core) Lockstep false) (lt-ltb core.counter (core_top core) below)

-- in lockstep as many ticks as the core may make are steps of the schedule
lockstep-ticks : (next : List Reply → Next) (core : CoreState) (n : ℕ) → core.counter + n ≤ core_top core → played_steps next 0 n (playing core Lockstep false) ≡ playing (record core { counter = core.counter + n }) Lockstep false
lockstep-ticks next core zero within = ap (λ (k : ℕ). playing (record core { counter = k }) Lockstep false) (omega arith)
lockstep-ticks next core (suc n) within =
    let one : (core.counter + n) + 1 ≡ core.counter + suc n = omega arith in
    ap (played next 0) (lockstep-ticks next core n (omega (arith, within)))
    ∙ one-tick next (record core { counter = core.counter + n }) (omega (arith, within))
    ∙ ap (λ (k : ℕ). playing (record core { counter = k }) Lockstep false) one

-- the core after so many ticks
abbrev pub later-by : CoreState → ℕ → CoreState
later-by core n = record core { counter = core.counter + n }

-- one tick that goes if it may
tick-is : (old : CoreState) (n : ℕ) → old.counter ≤ core_top old → n ≡ min 1 (core_top old - old.counter) → later-by old n ≡ ticked old
tick-is old n bounded is = by-order (cases_lt old.counter (core_top old))
  where
    by-order : (old.counter < core_top old) ⊎ (core_top old ≤ old.counter) → later-by old n ≡ ticked old
    by-order (inl below) =
        let one : old.counter + n ≡ old.counter + 1 = omega (arith, is, below) in
        ap (λ (k : ℕ). record old { counter = k }) one
        ∙ ap (λ (b : Bool). if b then record old { counter = old.counter + 1 } else old) (sym (lt-ltb old.counter (core_top old) below))
    by-order (inr there) =
        let none : old.counter + n ≡ old.counter = omega (arith, is, there) in
        ap (λ (k : ℕ). record old { counter = k }) none
        ∙ ap (λ (b : Bool). if b then record old { counter = old.counter + 1 } else old) (sym (le-ltb old.counter (core_top old) there))

-- a tick of a schedule that isn't lockstep
tick-played : (next : List Reply → Next) (old : CoreState) (before : ScheduleState) (held : Bool) (n : ℕ) → held ≡ (old.counter == core_top old) → old.counter ≤ core_top old → Tick ≡ step_of before held → n ≡ min 1 (core_top old - old.counter)
    → (k : ℕ) × (played_steps next 0 k (playing old before false) ≡ playing (later-by old n) (after_step before) false)
tick-played next old before held n tells bounded says is = (
  suc zero,
  by-step next old before held Tick tells says ∙ ap (λ (c : CoreState). playing c (after_step before) false) (sym (tick-is old n bounded is)),
)

-- what the schedule plays is those ticks
ticks-played : (next : List Reply → Next) (old : CoreState) (before : ScheduleState) (held : Bool) (n : ℕ) → held ≡ (old.counter == core_top old) → old.counter ≤ core_top old → Tick ≡ step_of before held → n ≡ min (ticks_in_a_row (after_step before)) (core_top old - old.counter)
    → (k : ℕ) × (played_steps next 0 k (playing old before false) ≡ playing (later-by old n) (after_step before) false)
ticks-played next old Lockstep held n tells bounded says is = (n, lockstep-ticks next old n (omega (arith, is, bounded)))
ticks-played next old (Letters word) held n tells bounded says is = tick-played next old (Letters word) held n tells bounded says is
ticks-played next old (Mix x ticks) held n tells bounded says is = tick-played next old (Mix x ticks) held n tells bounded says is

-- in lockstep the core isn't stopped at a tick
tick-nearer : (old : CoreState) (before after : ScheduleState) (held : Bool) → (IsTrue held ↔ (old.counter ≡ core_top old)) → ComesNearer before held Tick after → (ticks_before_cpu after < ticks_before_cpu before) ⊎ (old.counter ≢ core_top old)
tick-nearer old Lockstep after held tells near = inr (λ same. both_ways held near (tells.1 same))
tick-nearer old (Letters word) after held tells near = inl near
tick-nearer old (Mix x ticks) after held tells near = inl near

some-ticks : (schedule : ScheduleState) → 1 ≤ ticks_in_a_row schedule
some-ticks Lockstep = omega arith
some-ticks (Letters word) = omega arith
some-ticks (Mix x ticks) = omega arith

-- ---- until a step of the processor

-- more than the ticks before a step of the processor ever are
abbrev pub breadth : ScheduleState → ℕ
breadth before = 64 + ticks_before_cpu before

-- so near is a step of the processor: the cycles up to the horizon, then the ticks before it
abbrev pub nearness : (before : ScheduleState) → CoreState → ScheduleState → ℕ
nearness before core schedule = (core.config.horizon - core.counter) * breadth before + ticks_before_cpu schedule

falls : (a b w r q : ℕ) → b + 1 ≤ a → q < w → b * w + q < a * w + r
falls a b w r q less below = let more : b * w + w ≤ a * w = row_fits b w a w (omega (arith, less)) (omega arith) in omega (arith, more, below)

-- the core has only ticked, as the schedule says
pub record IsTickedOn (old : CoreState) (before : ScheduleState) (core : CoreState) (schedule : ScheduleState) : Type 0 where
  pub is : core ≡ record old { counter = core.counter }
  pub later : old.counter ≤ core.counter
  pub ticks : (next : List Reply → Next) → LeadsBySteps next (playing old before false) (playing core schedule false)
  pub few : ticks_before_cpu schedule < breadth before

pub ticked-first : (old : CoreState) (before : ScheduleState) → IsTickedOn old before old before
ticked-first old before = record { is = refl; later = omega arith; ticks = λ next. (0, refl); few = omega arith }

module _ (old core : CoreState) (before schedule after : ScheduleState) (held : Bool) (step : Step) (so : IsTickedOn old before core schedule)
    (tells : IsTrue held ↔ (core.counter ≡ core_top core)) (says : step ≡ step_of schedule held) (goes : after ≡ after_step schedule) where
  pub ticked-cpu : step ≡ Cpu → IsCpuNext old before core after
  ticked-cpu cpu = record {
    is = so.is;
    later = so.later;
    at = schedule;
    ticks = so.ticks;
    step = λ next.
        by-step next core schedule held step (held-as held core tells) says
        ∙ ap (λ (t : Step). stepped next 0 t (playing core (after_step schedule) false)) cpu
        ∙ ap (λ (z : ScheduleState). stepped next 0 Cpu (playing core z false)) (sym goes);
  }

  module _ (new : CoreState) (most n : ℕ) (known : IsCore core) (ticks : step ≡ Tick) (few : ticks_before_cpu after ≤ 63) (near : ComesNearer schedule held step after)
      (many : most ≡ ticks_in_a_row after) (count : n ≡ min most (core_top core - core.counter)) (is : new ≡ later-by core n) where
    within : core.counter + n ≤ core_top core
    within = let bounded = known.bounded in omega (arith, count, bounded)

    pub ticked-more : IsTickedOn old before new after
    ticked-more = record {
      is = is ∙ ap (λ (c : CoreState). later-by c n) so.is ∙ ap (λ (k : ℕ). record old { counter = k }) (sym (ap (λ (c : CoreState). c.counter) is));
      later = let up = ap (λ (c : CoreState). c.counter) is in let first = so.later in omega (arith, up, first);
      ticks = λ next.
          let first = so.ticks next in
          let played' = ticks-played next core schedule held n (held-as held core tells) known.bounded (sym ticks ∙ says) (count ∙ ap (λ (k : ℕ). min k (core_top core - core.counter)) (many ∙ ap ticks_in_a_row goes)) in
          so-many next first.0 first.1
          (played'.0, played'.1 ∙ ap (λ (z : ScheduleState). playing (later-by core n) z false) (sym goes) ∙ ap (λ (c : CoreState). playing c after false) (sym is));
      few = omega (arith, few);
    }

    -- fewer ticks come before the processor's step, or the core has ticked
    by-nearness : (ticks_before_cpu after < ticks_before_cpu schedule) ⊎ (core.counter ≢ core_top core) → (ticks_before_cpu after < ticks_before_cpu schedule) ⊎ (1 ≤ n)
    by-nearness (inl fewer) = inl fewer
    by-nearness (inr rises) =
        let bounded = known.bounded in
        let some : 1 ≤ most = subst (λ (k : ℕ). 1 ≤ k) (sym many) (some-ticks after) in
        let below : core.counter < core_top core = omega (arith, bounded, rises) in
        inr (omega (arith, count, some, below))

    by-count : (n ≡ 0) ⊎ (1 ≤ n) → (ticks_before_cpu after < ticks_before_cpu schedule) ⊎ (1 ≤ n) → nearness before (later-by core n) after < nearness before core schedule
    by-count (inr some) either =
        falls (core.config.horizon - core.counter) (core.config.horizon - (core.counter + n)) (breadth before) (ticks_before_cpu schedule) (ticks_before_cpu after)
        (let room = within in omega (arith, some, room)) (omega (arith, few))
    by-count (inl none) (inr some) = absurd (omega (arith, none, some))
    by-count (inl none) (inl fewer) =
        let still : core.counter + n ≡ core.counter = omega (arith, none) in
        subst (λ (k : ℕ). (core.config.horizon - k) * breadth before + ticks_before_cpu after < nearness before core schedule) (sym still) (omega (arith, fewer))

    some-or-none : (k : ℕ) → (k ≡ 0) ⊎ (1 ≤ k)
    some-or-none zero = inl refl
    some-or-none (suc k) = inr (omega arith)

    pub ticked-nearer : nearness before new after < nearness before core schedule
    ticked-nearer =
        subst (λ (c : CoreState). nearness before c after < nearness before core schedule) (sym is)
        (by-count (some-or-none n) (by-nearness (tick-nearer core schedule after held tells (subst (λ (x : Step). ComesNearer schedule held x after) ticks near))))

-- ---- a request that waits

waits-as : (w : Waiting) (request : Request) → request_waiting w ≡ request → as_waiting request ≡ Some w
waits-as w request is = subst (λ (q : Request). as_waiting q ≡ Some w) is (by-kind w)
  where
    by-kind : (w : Waiting) → as_waiting (request_waiting w) ≡ Some w
    by-kind (waiting.Out e) = refl
    by-kind (waiting.Wait until) = refl
    by-kind (waiting.Edge channel up_to) = refl

-- ---- one step of the processor, where this request comes next

module _ (core : CoreState) (schedule : ScheduleState) (request : Request) (cursor : ℤ) where
  answered-step : (reply : Reply) → reply_to core.config core.history request core.counter ≡ Some reply
      → processed (playing core schedule false) 0 (Asks request cursor) ≡ playing (answered core 0 request reply) schedule false
  answered-step reply right = ap (replied (playing core schedule false) 0 request cursor) right

  by-horizon : (b : Bool) → (core.counter == core.config.horizon) ≡ b → waits (playing core schedule false) 0 request cursor
      ≡ (if b then playing (ended (waits_for core request) 0 outcome.Horizon cursor) schedule true else playing (ticked (waits_for core request)) schedule false)
  by-horizon b is = rw is refl

  module _ (w : Waiting) (same : request_waiting w ≡ request) (undecided : reply_to core.config core.history request core.counter ≡ None) where
    pub waits-so : waits_with core w ≡ waits_for core request
    waits-so = ap (λ (v : Option Waiting). record core { waiting = v }) (sym (waits-as w request same))

    over-step : core.counter ≡ core.config.horizon → processed (playing core schedule false) 0 (Asks request cursor) ≡ playing (ended (waits_with core w) 0 outcome.Horizon cursor) schedule true
    over-step far =
        ap (replied (playing core schedule false) 0 request cursor) undecided
        ∙ by-horizon true (eq-eqb core.counter core.config.horizon far)
        ∙ ap (λ (c : CoreState). playing (ended c 0 outcome.Horizon cursor) schedule true) (sym waits-so)

    again-step : core.counter < core_top (waits_with core w) → processed (playing core schedule false) 0 (Asks request cursor) ≡ playing (record (waits_with core w) { counter = core.counter + 1 }) schedule false
    again-step below =
        ap (replied (playing core schedule false) 0 request cursor) undecided
        ∙ by-horizon false (ne_eqb core.counter core.config.horizon (λ same'. let at : core.counter ≡ core.config.horizon = same' in absurd (omega (arith, at, below))))
        ∙ ap (λ (c : CoreState). playing (ticked c) schedule false) (sym waits-so)
        ∙ ap (λ (b : Bool). playing (if b then record (waits_with core w) { counter = core.counter + 1 } else waits_with core w) schedule false) (lt-ltb core.counter (core_top (waits_with core w)) below)

-- ---- until it is decided

-- the request is the same; the core has only ticked; and no other request waits
pub record IsAskedStill (old : CoreState) (before : ScheduleState) (request : Request) (core : CoreState) (schedule : ScheduleState) (asked : Request) : Type 0 where
  pub same : asked ≡ request
  pub is : core ≡ record old { counter = core.counter; waiting = core.waiting }
  pub free : NoOtherWaits core.waiting request
  pub timed : (next : List Reply → Next) (cursor : ℤ) → next (session_replies old.history) ≡ Asks request cursor → LeadsBySteps next (playing old before false) (playing core schedule false)

pub asked-first : (old : CoreState) (before : ScheduleState) (request : Request) → NoOtherWaits old.waiting request → IsAskedStill old before request old before request
asked-first old before request free = record { same = refl; is = refl; free = free; timed = λ next cursor told. (0, refl) }

-- so far is the horizon
abbrev pub distance : CoreState → ℕ
distance core = core.config.horizon - core.counter

module _ (old core mid : CoreState) (before schedule after : ScheduleState) (request asked : Request) (so : IsAskedStill old before request core schedule asked) (cpu : IsCpuNext core schedule mid after) where
  mid-is : mid ≡ record old { counter = mid.counter; waiting = core.waiting }
  mid-is = cpu.is ∙ ap (λ (c : CoreState). record c { counter = mid.counter }) so.is

  mid-replies : session_replies mid.history ≡ session_replies old.history
  mid-replies = ap (λ (c : CoreState). session_replies c.history) mid-is

  -- steps lead to where the processor's step comes
  to-mid : (next : List Reply → Next) (cursor : ℤ) → next (session_replies old.history) ≡ Asks request cursor → LeadsBySteps next (playing old before false) (playing mid cpu.at false)
  to-mid next cursor told = let first = so.timed next cursor told in so-many next first.0 first.1 (cpu.ticks next)

  -- and that step
  through-mid : (next : List Reply → Next) (cursor : ℤ) → next (session_replies old.history) ≡ Asks request cursor → (to : Playing) → processed (playing mid after false) 0 (Asks request cursor) ≡ to
      → LeadsBySteps next (playing old before false) to
  through-mid next cursor told to leads =
      let first = to-mid next cursor told in
      so-many next first.0 first.1
      (1, cpu.step next ∙ ap (λ (n : Next). processed (playing mid after false) 0 n) (ap next mid-replies ∙ told) ∙ leads)

  pub open-mid : IsOpenFor 0 old.history → IsOpenFor 0 mid.history
  open-mid opened = subst (λ (c : CoreState). IsOpenFor 0 c.history) (sym mid-is) opened

  pub free-mid : NoOtherWaits mid.waiting asked
  free-mid =
      subst (λ (v : Option Waiting). NoOtherWaits v asked) (sym (ap (λ (c : CoreState). c.waiting) cpu.is))
      (subst (λ (q : Request). NoOtherWaits core.waiting q) (sym so.same) so.free)

  module _ (given : ℤ) (new : CoreState) where
    turned : (turn : Turn) → IsAskedByStep mid asked given turn new → IsAskedByStep mid request given turn new
    turned turn is = subst (λ (q : Request). IsAskedByStep mid q given turn new) so.same is

    pub replied-by-steps : (reply : Reply) → IsAskedByStep mid asked given (Replied reply) new → IsAnsweredBySteps old before request reply new after
    replied-by-steps reply does =
        let is = turned (Replied reply) does in
        record {
          at = mid.counter;
          right = subst (λ (c : CoreState). reply_to c.config c.history request mid.counter ≡ Some reply) mid-is is.0;
          leaves = is.1 ∙ ap (λ (c : CoreState). answered c 0 request reply) mid-is;
          timed = λ next cursor told.
              through-mid next cursor told (playing new after false)
              (answered-step mid after request cursor reply is.0 ∙ ap (λ (c : CoreState). playing c after false) (sym is.1));
        }

    pub over-by-steps : (cursor : ℤ) → given ≡ cursor → IsAskedByStep mid asked given Over new → IsGivenUpBySteps old before request cursor new after
    over-by-steps cursor as-given does =
        let is : IsAskedByStep mid request cursor Over new = subst (λ (z : ℤ). IsAskedByStep mid request z Over new) as-given (turned Over does) in
        let w = is.2.0 in
        let leaves : new ≡ ended (waits_with mid w) 0 outcome.Horizon cursor = is.2.2 in
        let far : reply_to mid.config mid.history request mid.config.horizon ≡ None = subst (λ (n : ℕ). reply_to mid.config mid.history request n ≡ None) is.0 is.1 in
        record {
          undecided = subst (λ (c : CoreState). reply_to c.config c.history request c.config.horizon ≡ None) mid-is far;
          config = ap (λ (c : CoreState). c.config) leaves ∙ ap (λ (c : CoreState). c.config) mid-is;
          history = over-history cursor w leaves;
          waiting = ap (λ (c : CoreState). c.waiting) leaves;
          timed = λ next told.
              through-mid next cursor told (playing new after true)
              (over-step mid after request cursor w is.2.1 is.1 is.0 ∙ ap (λ (c : CoreState). playing c after true) (sym leaves));
        }
      where
        over-history : (cursor : ℤ) (w : Waiting) → new ≡ ended (waits_with mid w) 0 outcome.Horizon cursor → new.history ≡ old.history ++ entry_of 0 (End outcome.Horizon cursor new.counter) ∷ []
        over-history cursor w leaves =
            ap (λ (c : CoreState). c.history) leaves
            ∙ ap (λ (c : CoreState). c.history ++ entry_of 0 (End outcome.Horizon cursor mid.counter) ∷ []) mid-is
            ∙ ap (λ (n : ℕ). old.history ++ entry_of 0 (End outcome.Horizon cursor n) ∷ []) (sym (ap (λ (c : CoreState). c.counter) leaves))

    pub again-still : (back : Request) → IsAskedByStep mid asked given (Again back) new → IsAskedStill old before request new after back
    again-still back does =
        let is = turned (Again back) does in
        let w = is.2.0 in
        let leaves : new ≡ record (waits_with mid w) { counter = mid.counter + 1 } = is.2.3 in
        record {
          same = is.0;
          is =
              leaves
              ∙ ap (λ (c : CoreState). record (waits_with c w) { counter = mid.counter + 1 }) mid-is
              ∙ ap (λ (c : CoreState). record old { counter = c.counter; waiting = c.waiting }) (sym leaves);
          free = subst (λ (v : Option Waiting). NoOtherWaits v request) (sym (ap (λ (c : CoreState). c.waiting) leaves)) is.2.1;
          timed = λ next cursor told.
              through-mid next cursor told (playing new after false)
              (again-step mid after request cursor w is.2.1 is.1 is.2.2 ∙ ap (λ (c : CoreState). playing c after false) (sym leaves));
        }

    pub again-nearer : (back : Request) → IsAskedByStep mid asked given (Again back) new → distance new < distance core
    again-nearer back does =
        let w = does.2.0 in
        let below : mid.counter < core_top (waits_with mid w) = does.2.2 in
        let up = cpu.later in
        let same : mid.config.horizon ≡ core.config.horizon = ap (λ (c : CoreState). c.config.horizon) cpu.is in
        subst (λ (c : CoreState). distance c < distance core) (sym does.2.3) (omega (arith, below, up, same))

    -- where a step stopped for want of memory
    pub stopped-by-steps : HasStoppedOnce mid asked new → HasStoppedAsking old before request new
    stopped-by-steps stopped next cursor told =
        let n = to-mid next cursor told in
        let next-here : next (session_replies mid.history) ≡ Asks request cursor = ap next mid-replies ∙ told in
        let here : IsStoppedAt mid (next (session_replies mid.history)) new =
        subst (λ (x : Next). IsStoppedAt mid x new) (sym next-here) (by-kind (subst (λ (q : Request). HasStoppedOnce mid q new) so.same stopped)) in
        (n.0, subst (λ (p : Playing). IsStoppedIn next p new) (sym n.1) (refl, here))
      where
        by-kind : HasStoppedOnce mid request new → IsStoppedAt mid (Asks request cursor) new
        by-kind (inl same) = inl same
        by-kind (inr (at, undecided, (w, same, leaves))) = inr (at, undecided, leaves ∙ waits-so mid after request cursor w same undecided)
