-- Asking until a request is decided.
use Rattle.std.proofs.Common.{◌≡◌, ℕ, ◌+◌, ◌-◌, ◌*◌, ◌<◌, inl, inr, refl, sym, ap, subst, ◌∙◌, arith}
use Rattle.std.specs.Prelude.{◌⊎◌, Option, Some, None, IsSome, option_map}
use Rattle.rtio_types.specs.declared.request.Request.{Request}
use Rattle.rtio_types.specs.declared.request.Reply.{Reply}
use Rattle.rtio_types.specs.declared.request.Waiting.{Waiting}
use Rattle.rtio_types.specs.Requests.{request_waiting}
use Rattle.rtio_core.specs.Core.{CoreState}
use Rattle.rtio_core.specs.Calls.{NoOtherWaits, answered}
use Rattle.rtio_core.specs.Lawful.{IsOpenFor}
use Rattle.rtio_core.specs.Reply.{reply_to}
use Rattle.rtio_core.specs.Top.{top}
use Rattle.core_session.specs.declared.turn.Turn.TheVariants.{Replied, Again, Over}
use Rattle.lab_kernels.specs.Decided.{IsAnswered, IsHeldUp, IsLater, IsNeverAnswered, WaitsFor}
use Rattle.lab_kernels.specs.Turns.{BeginsToWait, IsReplied, IsTurn, IsUndecided, ticked_on, waits_with}
use Rattle.lab_kernels.proofs.Later.{later-on, later-same}

-- one more holding may begin with the request waiting
abbrev idle_count : Option Waiting → ℕ
idle_count None = 1
idle_count (Some w) = 0

-- so near is the request to being decided: the cycles up to the horizon count twice, and that it doesn't wait yet
abbrev pub distance : CoreState → ℕ
distance core = 2 * (core.config.horizon - core.counter) + idle_count core.waiting

-- whether the request waits is as before, or it waits since it wasn't decided where the core stops without it
abbrev pub WaitsSince : CoreState → Request → CoreState → Type 0
WaitsSince old request core =
    (core.waiting ≡ old.waiting) ⊎ ((reply_to old.config old.history request (top old.config old.history None) ≡ None) × WaitsFor core request)

-- where the holdings of a request stand
pub record IsAskedStill (old : CoreState) (request : Request) (core : CoreState) (asked : Request) : Type 0 where
  pub same : asked ≡ request
  pub later : IsLater old core
  pub free : NoOtherWaits core.waiting request
  pub waits : WaitsSince old request core

pub first-asked : (old : CoreState) (request : Request) → NoOtherWaits old.waiting request → IsAskedStill old request old request
first-asked old request free = record { same = refl; later = later-same old; free = free; waits = inl refl }

pub ticks-later : (old new : CoreState) → new ≡ ticked_on old → IsLater old new
ticks-later old new is = record { is = is ∙ ap (λ (c : CoreState). record old { counter = c.counter; waiting = c.waiting }) (sym is); later = let up = ap (λ (c : CoreState). c.counter) is in omega (arith, up) }

pub waits-later : (old new : CoreState) (w : Waiting) → new ≡ waits_with (ticked_on old) w → IsLater old new
waits-later old new w is = record { is = is ∙ ap (λ (c : CoreState). record old { counter = c.counter; waiting = c.waiting }) (sym is); later = let up = ap (λ (c : CoreState). c.counter) is in omega (arith, up) }

-- what a core decides that has only ticked is decided of the core before
module _ (old core new : CoreState) (later : IsLater old core) where
  pub later-replied : (chair : ℕ) (request : Request) (reply : Reply) → IsReplied core chair request reply new → IsAnswered old chair request reply new
  later-replied chair request reply turn = record {
    at = (ticked_on core).counter;
    later = let up = later.later in omega (arith, up);
    at_top = subst (λ (c : CoreState). (ticked_on core).counter ≡ top c.config c.history (Some request)) later.is turn.at_top;
    right = subst (λ (c : CoreState). reply_to c.config c.history request (ticked_on core).counter ≡ Some reply) later.is turn.right;
    leaves = turn.leaves ∙ ap (λ (c : CoreState). answered (record c { counter = (ticked_on core).counter }) chair request reply) later.is;
  }

  pub later-undecided : (request : Request) → IsUndecided core request new → IsNeverAnswered old request new
  later-undecided request turn =
      let horizon : core.config.horizon ≡ old.config.horizon = ap (λ (c : CoreState). c.config.horizon) later.is in
      record {
        undecided = subst (λ (c : CoreState). reply_to c.config c.history request c.config.horizon ≡ None) later.is turn.undecided;
        last = ap (λ (c : CoreState). c.counter) turn.leaves ∙ turn.last ∙ horizon;
        later = later-on old core new later (waits-later core new turn.waiting turn.leaves);
      }

module _ (old core new : CoreState) (request asked : Request) (still : IsAskedStill old request core asked) where
  waits-still : new.waiting ≡ core.waiting → WaitsSince old request core → WaitsSince old request new
  waits-still same (inl as-before) = inl (same ∙ as-before)
  waits-still same (inr (undecided, (w, is, its))) = inr (undecided, (w, same ∙ is, its))

  -- it begins to wait where the core stops without it
  waits-from-here : BeginsToWait core asked new → WaitsSince old request new
  waits-from-here waits =
      let here : (ticked_on core).counter ≡ top old.config old.history None =
      waits.stopped
      ∙ ap (λ (v : Option Waiting). top core.config core.history (option_map request_waiting v)) waits.idle
      ∙ ap (λ (c : CoreState). top c.config c.history None) still.later.is in
      let undecided : reply_to old.config old.history request (ticked_on core).counter ≡ None =
      subst (λ (q : Request). reply_to old.config old.history q (ticked_on core).counter ≡ None) still.same
      (subst (λ (c : CoreState). reply_to c.config c.history asked (ticked_on core).counter ≡ None) still.later.is waits.undecided) in
      inr (
        subst (λ (n : ℕ). reply_to old.config old.history request n ≡ None) here undecided,
        (waits.waiting, ap (λ (c : CoreState). c.waiting) waits.leaves, waits.same ∙ still.same),
      )

  -- asked again
  pub again-asked : (chair : ℕ) (back : Request) → IsTurn core chair asked (Again back) new → IsAskedStill old request new back
  again-asked chair back (same, inl goes) = record {
    same = same ∙ still.same;
    later = later-on old core new still.later (ticks-later core new goes.1);
    free = subst (λ (v : Option Waiting). NoOtherWaits v request) (sym (ap (λ (c : CoreState). c.waiting) goes.1)) still.free;
    waits = waits-still (ap (λ (c : CoreState). c.waiting) goes.1) still.waits;
  }
  again-asked chair back (same, inr (inl waits)) = record {
    same = same ∙ still.same;
    later = later-on old core new still.later (waits-later core new waits.waiting waits.leaves);
    free = subst (λ (v : Option Waiting). NoOtherWaits v request) (sym (ap (λ (c : CoreState). c.waiting) waits.leaves)) (waits.same ∙ still.same);
    waits = waits-from-here waits;
  }
  again-asked chair back (same, inr (inr other)) =
      absurd (other.differs (subst (λ (v : Option Waiting). NoOtherWaits v request) other.is still.free ∙ sym still.same))

  -- each such holding comes nearer
  pub again-nearer : (chair : ℕ) (back : Request) → IsTurn core chair asked (Again back) new → distance new < distance core
  again-nearer chair back (same, inl goes) =
      let below = goes.0 in
      let nearer : 2 * (core.config.horizon - (ticked_on core).counter) < 2 * (core.config.horizon - core.counter) = omega (arith, below) in
      subst (λ (c : CoreState). distance c < distance core) (sym goes.1) (omega (arith, nearer))
  again-nearer chair back (same, inr (inl waits)) =
      let one : idle_count core.waiting ≡ 1 = ap idle_count waits.idle in
      subst (λ (c : CoreState). distance c < distance core) (sym waits.leaves) (omega (arith, one))
  again-nearer chair back (same, inr (inr other)) =
      absurd (other.differs (subst (λ (v : Option Waiting). NoOtherWaits v request) other.is still.free ∙ sym still.same))

  -- decided, or never
  pub replied-decided : (chair : ℕ) (reply : Reply) → IsTurn core chair asked (Replied reply) new → IsAnswered old chair request reply new
  replied-decided chair reply turn = later-replied old core new still.later chair request reply (subst (λ (q : Request). IsReplied core chair q reply new) still.same turn)

  pub over-decided : (chair : ℕ) → IsTurn core chair asked Over new → IsNeverAnswered old request new
  over-decided chair turn = later-undecided old core new still.later request (subst (λ (q : Request). IsUndecided core q new) still.same turn)

  pub over-waits : (chair : ℕ) → IsTurn core chair asked Over new → WaitsFor new request
  over-waits chair turn = (turn.waiting, ap (λ (c : CoreState). c.waiting) turn.leaves, turn.same ∙ still.same)

  -- or held up
  pub held-up : new ≡ ticked_on core → IsSome (reply_to core.config core.history asked (ticked_on core).counter)
      → (ticked_on core).counter ≡ top core.config core.history (Some asked) → IsHeldUp old request new
  held-up is decided at =
      let here : new.counter ≡ (ticked_on core).counter = ap (λ (c : CoreState). c.counter) is in
      let known : IsSome (reply_to old.config old.history request (ticked_on core).counter) =
      subst (λ (q : Request). IsSome (reply_to old.config old.history q (ticked_on core).counter)) still.same
      (subst (λ (c : CoreState). IsSome (reply_to c.config c.history asked (ticked_on core).counter)) still.later.is decided) in
      record {
        later = later-on old core new still.later (ticks-later core new is);
        at_top =
            here
            ∙ at
            ∙ ap (λ (c : CoreState). top c.config c.history (Some asked)) still.later.is
            ∙ ap (λ (q : Request). top old.config old.history (Some q)) still.same;
        decided = subst (λ (n : ℕ). IsSome (reply_to old.config old.history request n)) (sym here) known;
        waits = waits-still (ap (λ (c : CoreState). c.waiting) is) still.waits;
      }

  pub open-still : (chair : ℕ) → IsOpenFor chair old.history → IsOpenFor chair core.history
  open-still chair opened = subst (λ (c : CoreState). IsOpenFor chair c.history) (sym still.later.is) opened

-- where a request has to be asked again the core has only ticked
pub again-later : (old : CoreState) (who : ℕ) (request back : Request) (new : CoreState) → IsTurn old who request (Again back) new → IsLater old new
again-later old who request back new (same, inl goes) = ticks-later old new goes.1
again-later old who request back new (same, inr (inl waits)) = waits-later old new waits.waiting waits.leaves
again-later old who request back new (same, inr (inr other)) = ticks-later old new other.leaves
