-- What a request for an edge means to a core.
use Rattle.std.proofs.Common.{◌≡◌, ◌+◌, ◌-◌, ◌^◌, ◌<◌, ℕ, Bool, true, false, List, [], ◌∷◌, ◌++◌, refl, ap, sym, subst, ◌∙◌, arith}
use Rattle.std.specs.Prelude.{ℤ, pos, negsuc, Option, Some, None, IsSome, is_some, int_le, min, max, Vec}
use Rattle.std.specs.declared.alloc.Global.{Global}
use Rattle.std.proofs.lemmas.Bool.{leb-false}
use Rattle.std.proofs.lemmas.List.Sums.{fold-append}
use Rattle.rtio_types.specs.declared.request.Request.TheVariants as ask
use Rattle.rtio_types.specs.declared.request.Reply.{Reply}
use Rattle.rtio_types.specs.declared.request.Reply.TheVariants as answer
use Rattle.rtio_types.specs.declared.request.Waiting.TheVariants as waiting
use Rattle.rtio_types.specs.Requests.{fits_request}
use Rattle.rtio_types.specs.Time.{counter_reaching, reading}
use Rattle.rtio_input.specs.Calls.{answered_steps}
use Rattle.rtio_input.specs.Channel.{InputsState, edge_reply}
use Rattle.rtio_input.specs.Past.{InputStep, InputsStandFor}
use Rattle.rtio_input.proofs.Fitting.{replies-fit}
use Rattle.rtio_input.proofs.Undecided.{undecided-parts}
use Rattle.rtio_core.specs.declared.data.Ask.TheVariants as asked
use Rattle.rtio_core.specs.declared.data.Entry.{Entry}
use Rattle.rtio_core.specs.declared.one_core.Core.TheInside.{Inside}
use Rattle.rtio_core.specs.Answers.{is_edge_reply}
use Rattle.rtio_core.specs.Calls.{AnswersAsk, NoOtherWaits, answered}
use Rattle.rtio_core.specs.Core.{CoreState}
use Rattle.rtio_core.specs.Entries.{input_steps}
use Rattle.rtio_core.specs.Fields.{IsCoreInside, core_state}
use Rattle.rtio_core.specs.Reply.{outputs_at, reply_to, unread_in}
use Rattle.rtio_core.proofs.Asked.{IsAsked, asked_entry, asked_keeps}
use Rattle.rtio_core.proofs.Next.{played-quiet}

-- what the inputs reply is what the history says
pub edge-answered : (a : Inside) (s : CoreState) (channel : ℕ) (bound given : ℤ) (reply : Option Reply) → core_state a ≡ s → given ≡ bound → reply ≡ edge_reply (unread_in a.config a.entries.items a.count channel) a.count given → reply_to s.config s.history (ask.Edge channel bound) s.counter ≡ reply
edge-answered a s channel bound given reply see same is =
    sym (is ∙ ap (λ (z : ℤ). edge_reply (unread_in a.config a.entries.items a.count channel) a.count z) same ∙ ap (λ (x : CoreState). reply_to x.config x.history (ask.Edge channel bound) x.counter) see)

-- it is decided where the inputs say so
pub edge-decided : (a : Inside) (s : CoreState) (channel : ℕ) (bound given : ℤ) (b : Bool) → core_state a ≡ s → given ≡ bound → b ≡ is_some (edge_reply (unread_in a.config a.entries.items a.count channel) a.count given) → b ≡ is_some (reply_to s.config s.history (ask.Edge channel bound) s.counter)
edge-decided a s channel bound given b see same is =
    is ∙ ap (λ (z : ℤ). is_some (edge_reply (unread_in a.config a.entries.items a.count channel) a.count z)) same
    ∙ ap (λ (x : CoreState). is_some (reply_to x.config x.history (ask.Edge channel bound) x.counter)) see

pub no-reply : (reply : Option Reply) → IsSome reply → reply ≡ None → ⊥
no-reply (Some r) some is = absurd (cc)
no-reply None some is = absurd (cc)

pub some-of : (reply : Option Reply) (b : Bool) → b ≡ true → b ≡ is_some reply → IsSome reply
some-of (Some r) b right is = refl
some-of None b right is = absurd (cc)

none-of : (reply : Option Reply) (b : Bool) → b ≡ false → b ≡ is_some reply → reply ≡ None
none-of (Some r) b wrong is = absurd (cc)
none-of None b wrong is = refl

of-edge : (channel : ℕ) (bound : ℤ) (reply : Reply) → fits_request (ask.Edge channel bound) reply ≡ true → is_edge_reply reply ≡ true
of-edge channel bound (answer.Stamp x) fits = refl
of-edge channel bound answer.NoEdge fits = refl
of-edge channel bound answer.Overflow fits = refl
of-edge channel bound other fits = absurd (cc)

edge-fits : (a : Inside) (channel : ℕ) (bound : ℤ) (reply : Reply) → IsCoreInside a → edge_reply (unread_in a.config a.entries.items a.count channel) a.count bound ≡ Some reply → fits_request (ask.Edge channel bound) reply ≡ true
edge-fits a channel bound reply h is = replies-fit a.config.edges (outputs_at a.config a.entries.items a.count) (input_steps a.entries.items) a.count channel bound reply h.inputs.ok is

pub is-edge-reply : (a : Inside) (channel : ℕ) (bound : ℤ) (reply : Reply) → IsCoreInside a → Some reply ≡ edge_reply (unread_in a.config a.entries.items a.count channel) a.count bound → is_edge_reply reply ≡ true
is-edge-reply a channel bound reply h is = of-edge channel bound reply (edge-fits a channel bound reply h (sym is))

-- the steps of the inputs are those that the entry stands for
edge-steps : (who channel at : ℕ) (bound : ℤ) (reply : Reply) → answered_steps at channel (Some reply) ≡ input_steps (asked_entry who (ask.Edge channel bound) reply at ∷ [])
edge-steps who channel at bound (answer.Stamp x) = refl
edge-steps who channel at bound answer.Overflow = refl
edge-steps who channel at bound other = refl

-- an answered request for an edge
pub edge_keeps : (a : Inside) (s : CoreState) (entries : Vec Entry Global) (inputs : InputsState) (who channel : ℕ) (bound given : ℤ) (reply : Reply) (result : Option Reply) (left : ℕ) → core_state a ≡ s → IsCoreInside a → given ≡ bound → IsAsked s who (ask.Edge channel bound) reply → result ≡ Some reply → InputsStandFor inputs a.config.edges (outputs_at a.config a.entries.items a.count) (input_steps a.entries.items ++ answered_steps a.count channel result) a.count → entries.items ≡ a.entries.items ++ asked_entry who (ask.Edge channel given) reply a.count ∷ [] → left ≡ min (max a.limit (reading a.count) + a.config.cost) (2 ^ 64 - 1) → IsCoreInside (record a { entries = entries; pending = None; inputs = inputs; limit = left })
edge_keeps a s entries inputs who channel bound given reply result left see h same was some stands is raised =
    let known : IsAsked (core_state a) who (ask.Edge channel bound) reply = subst (λ (x : CoreState). IsAsked x who (ask.Edge channel bound) reply) (sym see) was in
    asked_keeps a entries a.outputs inputs a.store who (ask.Edge channel bound) reply left h
    (record {
      running = known.running;
      no_other = known.no_other;
      formed = known.formed;
      fits = edge-fits a channel bound reply h known.right;
      right = known.right;
      played = played-quiet a (asked_entry who (ask.Edge channel bound) reply a.count) h refl;
      stands = subst (λ (steps : List InputStep). InputsStandFor inputs a.config.edges (outputs_at a.config a.entries.items a.count) (input_steps a.entries.items ++ steps) a.count) (ap (answered_steps a.count channel) some ∙ edge-steps who channel a.count bound reply) stands;
      store_is = h.store ∙ sym (fold-append _ _ a.entries.items (asked_entry who (ask.Edge channel bound) reply a.count ∷ []));
    }) (subst (λ (z : ℤ). entries.items ≡ a.entries.items ++ asked_entry who (ask.Edge channel z) reply a.count ∷ []) same is) raised

-- and what it answers
pub edge-answers : (a : Inside) (s : CoreState) (entries : Vec Entry Global) (inputs : InputsState) (who channel : ℕ) (bound given : ℤ) (reply told : Reply) (left : ℕ) → core_state a ≡ s → given ≡ bound → NoOtherWaits s.waiting (ask.Edge channel bound) → Some reply ≡ edge_reply (unread_in a.config a.entries.items a.count channel) a.count given → told ≡ reply → entries.items ≡ a.entries.items ++ asked_entry who (ask.Edge channel given) reply a.count ∷ [] → AnswersAsk s who (ask.Edge channel bound) (asked.Reply told) (core_state (record a { entries = entries; pending = None; inputs = inputs; limit = left }))
edge-answers a s entries inputs who channel bound given reply told left see same no_other is told_is pushed =
    let history : entries.items ≡ a.entries.items ++ asked_entry who (ask.Edge channel bound) told a.count ∷ [] =
    pushed ∙ ap (λ (z : ℤ). a.entries.items ++ asked_entry who (ask.Edge channel z) reply a.count ∷ []) same
    ∙ ap (λ (r : Reply). a.entries.items ++ asked_entry who (ask.Edge channel bound) r a.count ∷ []) (sym told_is) in (
      no_other,
      edge-answered a s channel bound given (Some reply) see same is ∙ ap (λ (r : Reply). Some r) (sym told_is),
      ap (λ (entries : List Entry). record (core_state a) { history = entries; waiting = None }) history ∙ ap (λ (x : CoreState). answered x who (ask.Edge channel bound) told) see,
    )

-- a moment that the counter hasn't reached is reached later
later-reached : (bound : ℤ) (counter n : ℕ) → int_le bound (pos (reading counter)) ≡ false → n ≡ counter_reaching bound → counter < n
later-reached (pos m) counter n early is = let above : reading counter < m = leb-false m (reading counter) early in omega (arith, above, is)
later-reached (negsuc m) counter n early is = absurd (cc)

-- one that has to wait
pub edge-waits : (a : Inside) (s : CoreState) (who channel n : ℕ) (bound given : ℤ) (b : Bool) → core_state a ≡ s → given ≡ bound → NoOtherWaits s.waiting (ask.Edge channel bound) → b ≡ false → b ≡ is_some (edge_reply (unread_in a.config a.entries.items a.count channel) a.count given) → n ≡ counter_reaching given → AnswersAsk s who (ask.Edge channel bound) (asked.NotYet n (waiting.Edge channel given)) (core_state (record a { pending = Some (waiting.Edge channel given) }))
edge-waits a s who channel n bound given b see same no_other wrong decides is =
    let none : edge_reply (unread_in a.config a.entries.items a.count channel) a.count given ≡ None = none-of (edge_reply (unread_in a.config a.entries.items a.count channel) a.count given) b wrong decides in
    let early : int_le given (pos (reading a.count)) ≡ false = (undecided-parts (unread_in a.config a.entries.items a.count channel) a.count given none).early in (
      no_other,
      edge-answered a s channel bound given None see same (sym none),
      ap (λ (z : ℤ). ask.Edge channel z) same,
      is,
      subst (λ (x : CoreState). x.counter < n) see (later-reached given a.count n early is),
      ap (λ (x : CoreState). record x { waiting = Some (waiting.Edge channel given) }) see,
    )
