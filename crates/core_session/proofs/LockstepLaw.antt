-- In lockstep each request is asked where the core has stopped.
use Rattle.std.proofs.Common.{◌≡◌, ℕ, zero, suc, ◌+◌, ◌≤◌, List, [], ◌∷◌, ◌++◌, Bool, true, false, Some, None, refl, sym, ap, subst, ◌∙◌, append_assoc, arith}
use Rattle.std.specs.Prelude.{ℤ, Option, option_map, ◌==◌, nat_lt, if◌then◌else◌, is_some}
use Rattle.std.proofs.lemmas.Bool.{eqb-true, false≢true}
use Rattle.std.proofs.lemmas.List.Sums.{fold-append}
use Rattle.rtio_types.specs.declared.outcome.Outcome.{Outcome}
use Rattle.rtio_types.specs.declared.outcome.Outcome.TheVariants as outcome
use Rattle.rtio_types.specs.declared.request.Request.{Request}
use Rattle.rtio_types.specs.declared.request.Request.TheVariants as ask
use Rattle.rtio_types.specs.declared.request.Reply.{Reply}
use Rattle.rtio_types.specs.declared.request.Waiting.{Waiting}
use Rattle.rtio_types.specs.Requests.{request_waiting}
use Rattle.rtio_core.specs.declared.data.Act.{Act}
use Rattle.rtio_core.specs.declared.data.Act.TheVariants.{Start, Asked, End}
use Rattle.rtio_core.specs.declared.data.Config.{Config}
use Rattle.rtio_core.specs.declared.data.Entry.{Entry}
use Rattle.rtio_core.specs.declared.data.StartOf.{StartOf}
use Rattle.rtio_core.specs.Entries.{act_at, last_at, last_cursor, open_session}
use Rattle.rtio_core.specs.Reply.{reply_to}
use Rattle.rtio_core.specs.Top.{top}
use Rattle.rtio_core.specs.Core.{CoreState, core_top}
use Rattle.rtio_core.specs.Calls.{answered, ended}
use Rattle.run_schedule.specs.declared.schedule.Step.TheVariants.{Cpu, Tick}
use Rattle.run_schedule.specs.Schedules.{ScheduleState, Lockstep}
use Rattle.core_session.specs.Scripts.{Next, Asks, Ends}
use Rattle.core_session.specs.Sessions.{entry_of}
use Rattle.core_session.specs.Lockstep.{AreAtTop, EndsAtTop, IsAtTop, GrowsAtTop}
use Rattle.core_session.specs.Stepping.{playing}
use Rattle.core_session.specs.Timed.{Playing, IsTimed, as_waiting, begun, played, played_steps, processed, replied, session_replies, stepped, ticked, waits, waits_for}
use Rattle.core_session.proofs.AtTop.{at-top-push, decided-at-top}

-- what waits is what comes next
abbrev WaitsForNext : Option Waiting → Next → Type 0
WaitsForNext None n = Unit {0}
WaitsForNext (Some w) n = (cursor : ℤ) × (n ≡ Asks (request_waiting w) cursor)

-- a session is open, and what waits is what comes next
record IsGoing (next : List Reply → Next) (core : CoreState) : Type 0 where
  pub running : ℕ × ℕ
  pub opened : open_session core.history ≡ Some running
  pub waits : WaitsForNext core.waiting (next (session_replies core.history))

-- the entries so far stand at the top
record Stays (next : List Reply → Next) (old : CoreState) (core : CoreState) (over : Bool) : Type 0 where
  pub entries : List Entry
  pub history : core.history ≡ old.history ++ entries
  pub at_top : AreAtTop old.config old.history entries
  pub config : core.config ≡ old.config
  pub reached : last_at core.history ≤ core.counter
  pub going : over ≡ false → IsGoing next core

abbrev StaysIn : (List Reply → Next) → CoreState → Playing → Type 0
StaysIn next old p = Stays next old p.core p.over × (p.schedule ≡ Lockstep)

module _ (next : List Reply → Next) (old : CoreState) where
  -- one entry more
  push : (core new : CoreState) (over : Bool) (act : Act) → Stays next old core false → new.history ≡ core.history ++ entry_of 0 act ∷ [] → new.config ≡ core.config → act_at act ≤ new.counter
      → IsAtTop core.config core.history act → (over ≡ false → IsGoing next new) → Stays next old new over
  push core new over act s grown same at top going = record {
    entries = s.entries ++ entry_of 0 act ∷ [];
    history = grown ∙ ap (λ (h : List Entry). h ++ entry_of 0 act ∷ []) s.history ∙ append_assoc old.history s.entries (entry_of 0 act ∷ []);
    at_top =
        at-top-push old.config old.history s.entries (entry_of 0 act) s.at_top
        (subst (λ (h : List Entry). IsAtTop old.config h act) s.history (subst (λ (c : Config). IsAtTop c core.history act) s.config top));
    config = same ∙ s.config;
    reached = let last : last_at new.history ≡ act_at act = ap last_at grown ∙ fold-append _ _ core.history (entry_of 0 act ∷ []) in omega (arith, last, at);
    going = going;
  }

  -- only the counter rose
  later : (core new : CoreState) → Stays next old core false → new.history ≡ core.history → new.config ≡ core.config → core.counter ≤ new.counter → IsGoing next new → Stays next old new false
  later core new s same config up going = record {
    entries = s.entries;
    history = same ∙ s.history;
    at_top = s.at_top;
    config = config ∙ s.config;
    reached = let r = s.reached in let l : last_at new.history ≡ last_at core.history = ap last_at same in omega (arith, r, l, up);
    going = λ _. going;
  }

  -- a tick
  tick-stays : (core : CoreState) → Stays next old core false → Stays next old (ticked core) false
  tick-stays core s = by-test (nat_lt core.counter (core_top core))
    where
      by-test : (b : Bool) → Stays next old (if b then record core { counter = core.counter + 1 } else core) false
      by-test true =
          let g = s.going refl in
          later core (record core { counter = core.counter + 1 }) s refl refl (omega arith) (record { running = g.running; opened = g.opened; waits = g.waits })
      by-test false = s

  -- where the core has stopped without a request, or for this one, and it is decided there, it stands at its top
  asked-at-top : (core : CoreState) (request : Request) (cursor : ℤ) (reply : Reply) → Stays next old core false → core.counter ≡ core_top core → next (session_replies core.history) ≡ Asks request cursor
      → reply_to core.config core.history request core.counter ≡ Some reply → core.counter ≡ top core.config core.history (Some request)
  asked-at-top core request cursor reply s at is right = by-waiting core.waiting refl g.waits
    where
      g : IsGoing next core
      g = s.going refl

      by-waiting : (w : Option Waiting) → core.waiting ≡ w → WaitsForNext w (next (session_replies core.history)) → core.counter ≡ top core.config core.history (Some request)
      by-waiting None none waits =
          let here : core.counter ≡ top core.config core.history None = at ∙ ap (λ (v : Option Waiting). top core.config core.history (option_map request_waiting v)) none in
          decided-at-top core.config core.history request g.running core.counter g.opened here s.reached (ap is_some right)
      by-waiting (Some w) some waits =
          let both : Asks (request_waiting w) waits.0 ≡ Asks request cursor = sym waits.1 ∙ is in
          let same : request_waiting w ≡ request = cc in
          at ∙ ap (λ (v : Option Waiting). top core.config core.history (option_map request_waiting v)) some ∙ ap (λ (q : Request). top core.config core.history (Some q)) same

  ends-at-top : (core : CoreState) (how how' : Outcome) (cursor : ℤ) → Stays next old core false → core.counter ≡ core_top core → next (session_replies core.history) ≡ Ends how' cursor → EndsAtTop core.config core.history how core.counter
  ends-at-top core how how' cursor s at is = by-outcome how (by-waiting core.waiting refl g.waits)
    where
      g : IsGoing next core
      g = s.going refl

      by-waiting : (w : Option Waiting) → core.waiting ≡ w → WaitsForNext w (next (session_replies core.history)) → core.counter ≡ top core.config core.history None
      by-waiting None none waits = at ∙ ap (λ (v : Option Waiting). top core.config core.history (option_map request_waiting v)) none
      by-waiting (Some w) some waits = let clash : Asks (request_waiting w) waits.0 ≡ Ends how' cursor = sym waits.1 ∙ is in absurd (cc)

      by-outcome : (how : Outcome) → core.counter ≡ top core.config core.history None → EndsAtTop core.config core.history how core.counter
      by-outcome outcome.Horizon here = tt
      by-outcome outcome.Returned here = here
      by-outcome (outcome.Raised x) here = here
      by-outcome outcome.Budget here = here

  -- a request that waits
  waits-stays : (core : CoreState) (request : Request) (cursor : ℤ) → Stays next old core false → next (session_replies core.history) ≡ Asks request cursor → StaysIn next old (waits (playing core Lockstep false) 0 request cursor)
  waits-stays core request cursor s is = by-test (core.counter == core.config.horizon)
    where
      g : IsGoing next core
      g = s.going refl

      by-kind : (q : Request) → next (session_replies core.history) ≡ Asks q cursor → WaitsForNext (as_waiting q) (next (session_replies core.history))
      by-kind (ask.Out e) is = (cursor, is)
      by-kind (ask.Wait until) is = (cursor, is)
      by-kind (ask.Edge channel up_to) is = (cursor, is)
      by-kind ask.Counter is = tt
      by-kind ask.Reset is = tt
      by-kind (ask.Save name recording) is = tt
      by-kind (ask.Fetch name) is = tt
      by-kind (ask.FetchHandle handle) is = tt
      by-kind (ask.Handle name) is = tt
      by-kind (ask.Erase name) is = tt
      by-kind (ask.Data name value) is = tt

      on : Stays next old (waits_for core request) false
      on = later core (waits_for core request) s refl refl (omega arith) (record { running = g.running; opened = g.opened; waits = by-kind request is })

      by-test : (b : Bool) → StaysIn next old (if b then playing (ended (waits_for core request) 0 outcome.Horizon cursor) Lockstep true else playing (ticked (waits_for core request)) Lockstep false)
      by-test true = (push core (ended (waits_for core request) 0 outcome.Horizon cursor) true (End outcome.Horizon cursor core.counter) s refl refl (omega arith) tt (λ no. absurd (false≢true (sym no))), refl)
      by-test false = (tick-stays (waits_for core request) on, refl)

  -- a step of the processor where the core has stopped
  cpu-stays : (core : CoreState) (n : Next) → Stays next old core false → core.counter ≡ core_top core → next (session_replies core.history) ≡ n → StaysIn next old (processed (playing core Lockstep false) 0 n)
  cpu-stays core (Ends how cursor) s at is =
      (push core (ended core 0 how cursor) true (End how cursor core.counter) s refl refl (omega arith) (ends-at-top core how how cursor s at is) (λ no. absurd (false≢true (sym no))), refl)
  cpu-stays core (Asks request cursor) s at is = by-reply (reply_to core.config core.history request core.counter) refl
    where
      g : IsGoing next core
      g = s.going refl

      by-reply : (o : Option Reply) → reply_to core.config core.history request core.counter ≡ o → StaysIn next old (replied (playing core Lockstep false) 0 request cursor o)
      by-reply (Some reply) right = (
        push core (answered core 0 request reply) false (Asked request reply core.counter) s refl refl (omega arith) (asked-at-top core request cursor reply s at is right)
            (λ _. record { running = g.running; opened = fold-append _ _ core.history (entry_of 0 (Asked request reply core.counter) ∷ []) ∙ g.opened; waits = tt }),
        refl,
      )
      by-reply None right = waits-stays core request cursor s is

  -- a step
  step-stays : (core : CoreState) (over : Bool) → Stays next old core over → StaysIn next old (played next 0 (playing core Lockstep over))
  step-stays core true s = (s, refl)
  step-stays core false s = by-held (core.counter == core_top core) refl
    where
      by-held : (b : Bool) → (core.counter == core_top core) ≡ b → StaysIn next old (stepped next 0 (if b then Cpu else Tick) (playing core Lockstep false))
      by-held true held = cpu-stays core (next (session_replies core.history)) s (eqb-true core.counter (core_top core) held) refl
      by-held false held = (tick-stays core s, refl)

  steps-stay : (n : ℕ) (p : Playing) → StaysIn next old p → StaysIn next old (played_steps next 0 n p)
  steps-stay zero p s = s
  steps-stay (suc n) p s =
      let before = steps-stay n p s in
      let q = played_steps next 0 n p in
      subst (λ (z : ScheduleState). StaysIn next old (played next 0 (record { core = q.core; schedule = z; over = q.over }))) (sym before.1) (step-stays q.core q.over before.0)

pub grows-at-top : (next : List Reply → Next) (of : StartOf) (old new : CoreState) (before after : ScheduleState) → before ≡ Lockstep → IsTimed next 0 of old before new after → GrowsAtTop old new
grows-at-top next of old new before after lock timed =
    let entry = entry_of 0 (Start of (last_cursor old.history) old.counter) in
    let first : StaysIn next old (begun old before 0 of) = (
      record {
        entries = entry ∷ [];
        history = refl;
        at_top = (tt, tt);
        config = refl;
        reached = let last : last_at (old.history ++ entry ∷ []) ≡ old.counter = fold-append _ _ old.history (entry ∷ []) in omega (arith, last);
        going = λ _. record { running = (0, of.rid); opened = fold-append _ _ old.history (entry ∷ []); waits = tt };
      },
      lock,
    ) in
    let whole = subst (StaysIn next old) timed.1 (steps-stay next old timed.0 (begun old before 0 of) first) in
    (whole.0.entries, whole.0.history, whole.0.at_top)
