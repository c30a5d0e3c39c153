-- A request that is asked where the core has stopped.
use Rattle.std.proofs.Common.{◌≡◌, ◌≢◌, ℕ, ◌+◌, ◌-◌, ◌<◌, ◌≤◌, inl, inr, true, false, refl, sym, ap, subst, ◌∙◌, arith}
use Rattle.std.specs.Prelude.{Bool, Option, Some, None, option_map, is_some, min, IsSome, IsTrue, ◌↔◌}
use Rattle.std.proofs.lemmas.Bool.{both_ways}
use Rattle.rtio_types.specs.declared.request.Request.{Request}
use Rattle.rtio_types.specs.declared.request.Reply.{Reply}
use Rattle.rtio_types.specs.declared.request.Waiting.{Waiting}
use Rattle.rtio_types.specs.Requests.{request_waiting}
use Rattle.rtio_core.specs.declared.data.Ask.TheVariants as ask
use Rattle.rtio_core.specs.Entries.{last_at}
use Rattle.rtio_core.specs.Reply.{is_decided, reply_to}
use Rattle.rtio_core.specs.Lawful.{IsOpenFor}
use Rattle.rtio_core.specs.Top.{top}
use Rattle.rtio_core.specs.Core.{CoreState, IsCore, core_top}
use Rattle.rtio_core.specs.Calls.{AnswersAsk, NoOtherWaits, answered}
use Rattle.core_session.specs.declared.turn.Turn.TheVariants.{Replied, Again, Over}
use Rattle.lab_kernels.specs.Turns.{IsTurn, ticked_on, waits_with}
use Rattle.core_session.proofs.AtTop.{DecidedStays, decided-at-top, never-held}

-- what a leap leaves
pub leapt : (old mid : CoreState) (count : ℕ) → count ≡ min 4096 (core_top old - old.counter) → mid ≡ record old { counter = old.counter + count } → mid ≡ ticked_on old
leapt old mid count is leaves = leaves ∙ ap (λ (n : ℕ). record old { counter = old.counter + n }) is

-- where the core may still go on
pub goes-on : (old mid : CoreState) (who : ℕ) (request : Request) (stopped : Bool) → mid ≡ ticked_on old → stopped ≡ false → (IsTrue stopped ↔ (mid.counter ≡ core_top mid)) → mid.counter ≤ core_top mid
    → IsTurn old who request (Again request) mid
goes-on old mid who request stopped is still tells bounded =
    let differs : mid.counter ≢ core_top mid = λ same. both_ways stopped still (tells.1 same) in
    let below : mid.counter < core_top mid = omega (arith, bounded, differs) in
    (refl, inl (subst (λ (c : CoreState). c.counter < core_top c) is below, is))

module _ (old mid new : CoreState) (who : ℕ) (request : Request) (is : mid ≡ ticked_on old) (stopped : mid.counter ≡ core_top mid) (known : IsCore mid) (opened : IsOpenFor who old.history) where
  here : (ticked_on old).counter ≡ core_top old
  here = subst (λ (c : CoreState). c.counter ≡ core_top c) is stopped

  reached : last_at old.history ≤ (ticked_on old).counter
  reached = subst (λ (c : CoreState). last_at c.history ≤ c.counter) is known.reached

  at-top : (w : Option Waiting) → old.waiting ≡ w → NoOtherWaits w request → is_decided old.config old.history request (ticked_on old).counter ≡ true → (ticked_on old).counter ≡ top old.config old.history (Some request)
  at-top None none free decided =
      decided-at-top old.config old.history request (who, opened.0) (ticked_on old).counter opened.1
      (here ∙ ap (λ (v : Option Waiting). top old.config old.history (option_map request_waiting v)) none) reached decided
  at-top (Some w) some same decided =
      here
      ∙ ap (λ (v : Option Waiting). top old.config old.history (option_map request_waiting v)) some
      ∙ ap (λ (q : Request). top old.config old.history (Some q)) same

  pub replied-so : (reply : Reply) → AnswersAsk mid who request (ask.Reply reply) new → IsTurn old who request (Replied reply) new
  replied-so reply answers =
      let free : NoOtherWaits old.waiting request = subst (λ (c : CoreState). NoOtherWaits c.waiting request) is answers.0 in
      let right : reply_to old.config old.history request (ticked_on old).counter ≡ Some reply = subst (λ (c : CoreState). reply_to c.config c.history request c.counter ≡ Some reply) is answers.1 in
      record {
        free = free;
        at_top = at-top old.waiting refl free (ap is_some right);
        right = right;
        leaves = answers.2 ∙ ap (λ (c : CoreState). answered c who request reply) is;
      }

  -- where there is a reply, but no memory for it, it would stand there too
  pub due-so : NoOtherWaits mid.waiting request → IsSome (reply_to mid.config mid.history request mid.counter) → (ticked_on old).counter ≡ top old.config old.history (Some request)
  due-so free decided =
      at-top old.waiting refl (subst (λ (c : CoreState). NoOtherWaits c.waiting request) is free)
      (subst (λ (c : CoreState). IsSome (reply_to c.config c.history request c.counter)) is decided)

  module _ (until : ℕ) (w : Waiting) (answers : AnswersAsk mid who request (ask.NotYet until w) new) where
    free : NoOtherWaits old.waiting request
    free = subst (λ (c : CoreState). NoOtherWaits c.waiting request) is answers.0

    undecided : reply_to old.config old.history request (ticked_on old).counter ≡ None
    undecided = subst (λ (c : CoreState). reply_to c.config c.history request c.counter ≡ None) is answers.1

    leaves : new ≡ waits_with (ticked_on old) w
    leaves = answers.5 ∙ ap (λ (c : CoreState). waits_with c w) is

    pub over-so : new.counter ≡ new.config.horizon → IsTurn old who request Over new
    over-so at =
        let last : (ticked_on old).counter ≡ old.config.horizon = subst (λ (c : CoreState). c.counter ≡ c.config.horizon) leaves at in
        record {
          free = free;
          last = last;
          undecided = subst (λ (n : ℕ). reply_to old.config old.history request n ≡ None) last undecided;
          waiting = w;
          same = answers.2;
          leaves = leaves;
        }

    -- what waits already is decided where the core stops below the horizon
    idle : DecidedStays → (ticked_on old).counter < old.config.horizon → (v : Option Waiting) → old.waiting ≡ v → NoOtherWaits v request → v ≡ None
    idle stays early None none free = refl
    idle stays early (Some v) some same =
        let rises : (ticked_on old).counter < top old.config old.history (Some request) =
        never-held
        stays
        old.config
        old.history
        request
        (who, opened.0)
        (ticked_on old).counter
        (subst (λ (c : CoreState). IsCore c) is known).config
        (subst (λ (c : CoreState). IsCore c) is known).lawful
        opened.1
        reached
        early
        (ap is_some undecided)
        in
        let there : (ticked_on old).counter ≡ top old.config old.history (Some request) =
        here
        ∙ ap (λ (v : Option Waiting). top old.config old.history (option_map request_waiting v)) some
        ∙ ap (λ (q : Request). top old.config old.history (Some q)) same
        in
        absurd (omega (arith, rises, there))

    pub waits-so : DecidedStays → new.counter ≢ new.config.horizon → (back : Request) → back ≡ request_waiting w → IsTurn old who request (Again back) new
    waits-so stays far back is-back =
        let differs : (ticked_on old).counter ≢ old.config.horizon = λ same. far (subst (λ (c : CoreState). c.counter ≡ c.config.horizon) (sym leaves) same) in
        let early : (ticked_on old).counter < old.config.horizon = let at = here in omega (arith, differs, at) in (
          is-back ∙ answers.2,
          inr (inl (record {
            stopped = here;
            early = early;
            undecided = undecided;
            idle = idle stays early old.waiting refl free;
            waiting = w;
            same = answers.2;
            leaves = leaves;
          })),
        )

  pub another-so : (w : Waiting) (back : Request) → AnswersAsk mid who request (ask.OtherPending w back) new → IsTurn old who request (Again back) new
  another-so w back answers = (
    answers.2,
    inr (inr (record {
      stopped = here;
      waiting = w;
      is = subst (λ (c : CoreState). c.waiting ≡ Some w) is answers.0;
      differs = answers.1;
      leaves = answers.3 ∙ is;
    })),
  )

-- a turn without a reply keeps the settings and the history
pub again-keeps : (old : CoreState) (who : ℕ) (request back : Request) (new : CoreState) → IsTurn old who request (Again back) new → (new.history ≡ old.history) × (new.config ≡ old.config)
again-keeps old who request back new (same, inl goes) = (ap (λ (c : CoreState). c.history) goes.1, ap (λ (c : CoreState). c.config) goes.1)
again-keeps old who request back new (same, inr (inl waits)) = (ap (λ (c : CoreState). c.history) waits.leaves, ap (λ (c : CoreState). c.config) waits.leaves)
again-keeps old who request back new (same, inr (inr other)) = (ap (λ (c : CoreState). c.history) other.leaves, ap (λ (c : CoreState). c.config) other.leaves)

pub over-keeps : (old : CoreState) (who : ℕ) (request : Request) (new : CoreState) → IsTurn old who request Over new → (new.history ≡ old.history) × (new.config ≡ old.config)
over-keeps old who request new over = (ap (λ (c : CoreState). c.history) over.leaves, ap (λ (c : CoreState). c.config) over.leaves)
