-- What an answered request does to the parts of a core.
use Rattle.std.proofs.Common.{◌≡◌, ◌≢◌, ℕ, ◌+◌, ◌-◌, ◌*◌, ◌/◌, ◌^◌, ◌<◌, ◌≤◌, subst, List, [], ◌∷◌, ◌++◌, length, refl, sym, ◌∙◌, ap, arith}
use Rattle.std.specs.Prelude.{IsTrue, Option, Some, None, option_map, Vec, min, max}
use Rattle.std.specs.Prelude.{count_by, nat_le, pos}
use Rattle.std.proofs.Common.{true}
use Rattle.std.proofs.lemmas.Bool.{le-leb}
use Rattle.std.proofs.lemmas.List.Sums.{count_by-le-length, fold-append}
use Rattle.std.proofs.lemmas.List.Elements.{filter_map-append}
use Rattle.std.specs.declared.alloc.Global.{Global}
use Rattle.rtio_types.specs.declared.event.Event.{Event}
use Rattle.rtio_types.specs.declared.request.Request.{Request}
use Rattle.rtio_types.specs.declared.request.Request.TheVariants as ask
use Rattle.rtio_types.specs.declared.request.Reply.{Reply}
use Rattle.rtio_types.specs.declared.request.Reply.TheVariants as answer
use Rattle.rtio_types.specs.declared.request.Waiting.{Waiting}
use Rattle.rtio_types.specs.Requests.{fits_request, is_well_formed, request_waiting}
use Rattle.rtio_types.specs.Time.{cycle_of, reading}
use Rattle.sed_lanes.specs.Judged.{LaneStep, Submit, Clear, judged, next_number}
use Rattle.sed_lanes.proofs.Numbers.{is_submit, next-number-counts}
use Rattle.sed_lanes.specs.Lanes.{LanesState}
use Rattle.sed_lanes.specs.Verdict.{Verdict, Underflow, Lane, Sequence, Undecided, verdict}
use Rattle.sed_lanes.proofs.RisingLanes.{no-underflow}
use Rattle.rtio_input.specs.Channel.{InputsState}
use Rattle.rtio_input.specs.Past.{InputStep, Reset, InputsStandFor}
use Rattle.dma_store.specs.Kept.{KeptState}
use Rattle.rtio_core.specs.declared.data.Config.{Config}
use Rattle.rtio_core.specs.declared.data.Act.TheVariants.{Asked}
use Rattle.rtio_core.specs.declared.data.Entry.{Entry}
use Rattle.rtio_core.specs.declared.one_core.Core.TheInside.{Inside}
use Rattle.rtio_core.specs.declared.outputs.Outputs.{Outputs}
use Rattle.rtio_core.specs.Entries.{input_step, input_steps, kept_after, limit, open_session, lane_step, lane_steps}
use Rattle.rtio_core.specs.Reply.{lanes_at, outputs_at, reply_to, reply_to_event, verdict_at}
use Rattle.rtio_core.specs.Top.{top}
use Rattle.rtio_core.specs.Lawful.{IsOpenFor}
use Rattle.rtio_core.specs.Answers.{is_plain, plain_reply}
use Rattle.rtio_core.specs.Core.{CoreState}
use Rattle.rtio_core.specs.Calls.{NoOtherWaits}
use Rattle.rtio_core.specs.Fields.{IsCoreInside, core_state}
use Rattle.rtio_core.specs.Played.{IsPlayed}
use Rattle.rtio_core.proofs.Next.{entry_keeps, inputs-quiet, played-quiet, top-open}
use Rattle.rtio_core.proofs.Settings.{horizon-most}

abbrev pub asked_entry : ℕ → Request → Reply → ℕ → Entry
asked_entry who request reply at = record { chair = who; act = Asked request reply at }

-- a request may be answered where the counter stands
pub asked-bound : (config : Config) (history : List Entry) (pending : Option Waiting) (request : Request) (counter : ℕ) (running : ℕ × ℕ) → open_session history ≡ Some running → NoOtherWaits pending request → counter ≤ top config history (option_map request_waiting pending) → counter ≤ top config history (Some request)
asked-bound config history None request counter running is no_other le =
    let reached : counter ≤ min config.horizon (limit config.cost history / 8) = rw is at le in
    rw is (omega (arith, reached))
asked-bound config history (Some w) request counter running is no_other le = subst (λ (q : Request). counter ≤ top config history (Some q)) no_other le

-- the limit at the end of its type
capped-limit : (left before limit_before at cost : ℕ) → at ≤ 576460752303423488 → before ≡ min limit_before (2 ^ 64 - 1) → left ≡ min (max before (reading at) + cost) (2 ^ 64 - 1) → left ≡ min (max limit_before (reading at) + cost) (2 ^ 64 - 1)
capped-limit left before limit_before at cost few was is = omega (arith, few, was, is)

-- an answer, and what it makes of outputs, inputs and recordings
pub record IsAnswer (a : Inside) (outputs : Outputs) (inputs : InputsState) (store : KeptState) (who : ℕ) (request : Request) (reply : Reply) : Type 0 where
  pub running : IsOpenFor who a.entries.items
  pub no_other : NoOtherWaits a.pending request
  pub formed : IsTrue (is_well_formed request)
  pub fits : IsTrue (fits_request request reply)
  pub right : reply_to a.config a.entries.items request a.count ≡ Some reply
  pub played : IsPlayed outputs a.config.holds a.config.lanes a.config.depth (lane_steps (a.entries.items ++ asked_entry who request reply a.count ∷ [])) a.count
  pub stands : InputsStandFor inputs a.config.edges (outputs_at a.config a.entries.items a.count) (input_steps a.entries.items ++ input_steps (asked_entry who request reply a.count ∷ [])) a.count
  pub store_is : store ≡ kept_after a.config (a.entries.items ++ asked_entry who request reply a.count ∷ [])

pub asked_keeps : (a : Inside) (entries : Vec Entry Global) (outputs : Outputs) (inputs : InputsState) (store : KeptState) (who : ℕ) (request : Request) (reply : Reply) (left : ℕ) → IsCoreInside a → IsAnswer a outputs inputs store who request reply → entries.items ≡ a.entries.items ++ asked_entry who request reply a.count ∷ [] → left ≡ min (max a.limit (reading a.count) + a.config.cost) (2 ^ 64 - 1) → IsCoreInside (record a { entries = entries; pending = None; outputs = outputs; inputs = inputs; store = store; limit = left })
asked_keeps a entries outputs inputs store who request reply left h n is raised =
    let history : List Entry = a.entries.items in
    let entry : Entry = asked_entry who request reply a.count in
    let running = n.running in
    let still : open_session (history ++ entry ∷ []) ≡ open_session history = fold-append _ _ history (entry ∷ []) in
    let limited : limit a.config.cost (history ++ entry ∷ []) ≡ max (limit a.config.cost history) (reading a.count) + a.config.cost = fold-append _ _ history (entry ∷ []) in
    let within : a.count ≤ a.config.horizon = omega (arith, h.core.bounded) in
    let few : a.count ≤ 576460752303423488 = omega (arith, within, horizon-most a.config h.core.config) in
    let far : 8 * a.count ≤ limit a.config.cost (history ++ entry ∷ []) = omega (arith, limited) in
    entry_keeps a entries entry outputs inputs store a.session a.cursor left h
    (record {
      at = refl;
      may = (running, n.right, h.core.reached, asked-bound a.config history a.pending request a.count (who, running.0) running.1 n.no_other h.core.bounded);
      fitting = (n.formed, n.fits);
      bounded = top-open a.config (history ++ entry ∷ []) a.count (who, running.0) (still ∙ running.1) far within;
      played = n.played;
      stands = n.stands;
      store_is = n.store_is;
      session_is = h.session ∙ sym still;
      cursor_is = h.cursor ∙ sym (fold-append _ _ history (entry ∷ []));
      limit_is = capped-limit left a.limit (limit a.config.cost history) a.count a.config.cost few h.limit raised ∙ ap (λ (n : ℕ). min n (2 ^ 64 - 1)) (sym limited);
    }) is

-- what was known of the core where it was asked
pub record IsAsked (s : CoreState) (who : ℕ) (request : Request) (reply : Reply) : Type 0 where
  pub running : IsOpenFor who s.history
  pub no_other : NoOtherWaits s.waiting request
  pub formed : IsTrue (is_well_formed request)
  pub right : reply_to s.config s.history request s.counter ≡ Some reply

-- an answer that has no part in outputs and inputs
pub quiet_keeps : (a : Inside) (s : CoreState) (entries : Vec Entry Global) (store : KeptState) (who : ℕ) (request : Request) (reply : Reply) (left : ℕ) → core_state a ≡ s → IsCoreInside a → IsAsked s who request reply → IsTrue (fits_request request reply) → lane_step (Asked request reply a.count) ≡ None → input_step (Asked request reply a.count) ≡ None → store ≡ kept_after a.config (a.entries.items ++ asked_entry who request reply a.count ∷ []) → entries.items ≡ a.entries.items ++ asked_entry who request reply a.count ∷ [] → left ≡ min (max a.limit (reading a.count) + a.config.cost) (2 ^ 64 - 1) → IsCoreInside (record a { entries = entries; pending = None; store = store; limit = left })
quiet_keeps a s entries store who request reply left see h asked fits no_output no_input kept is raised =
    let known : IsAsked (core_state a) who request reply = subst (λ (x : CoreState). IsAsked x who request reply) (sym see) asked in
    let no_step : [] ≡ input_steps (asked_entry who request reply a.count ∷ []) = rw no_input refl in
    asked_keeps a entries a.outputs a.inputs store who request reply left h
    (record {
      running = known.running;
      no_other = known.no_other;
      formed = known.formed;
      fits = fits;
      right = known.right;
      played = played-quiet a (asked_entry who request reply a.count) h no_output;
      stands = subst (λ (steps : List InputStep). InputsStandFor a.inputs a.config.edges (outputs_at a.config a.entries.items a.count) (input_steps a.entries.items ++ steps) a.count) no_step (inputs-quiet a h);
      store_is = kept;
    }) is raised

-- an output is a step of the lanes
pub lane_steps-output : (history : List Entry) (who at : ℕ) (e : Event) (reply : Reply) → lane_steps (history ++ asked_entry who (ask.Out e) reply at ∷ []) ≡ lane_steps history ++ Submit at e ∷ []
lane_steps-output history who at e reply = filter_map-append (λ (entry : Entry). lane_step entry.act) history (asked_entry who (ask.Out e) reply at ∷ [])

-- so is a reset
pub lane_steps-reset : (history : List Entry) (who at : ℕ) (reply : Reply) → lane_steps (history ++ asked_entry who ask.Reset reply at ∷ []) ≡ lane_steps history ++ Clear at ∷ []
lane_steps-reset history who at reply = filter_map-append (λ (entry : Entry). lane_step entry.act) history (asked_entry who ask.Reset reply at ∷ [])

no-output : (request : Request) (reply : Reply) (at : ℕ) → IsTrue (is_plain request) → lane_step (Asked request reply at) ≡ None
no-output ask.Counter reply at plain = refl
no-output (ask.Wait until) reply at plain = refl
no-output (ask.Data name value) reply at plain = refl
no-output other reply at plain = absurd (cc)

no-input : (request : Request) (reply : Reply) (at : ℕ) → IsTrue (is_plain request) → input_step (Asked request reply at) ≡ None
no-input ask.Counter reply at plain = refl
no-input (ask.Wait until) reply at plain = refl
no-input (ask.Data name value) reply at plain = refl
no-input other reply at plain = absurd (cc)

no-recording : (config : Config) (request : Request) (reply : Reply) (who at : ℕ) (history : List Entry) → IsTrue (is_plain request) → kept_after config (history ++ asked_entry who request reply at ∷ []) ≡ kept_after config history
no-recording config ask.Counter reply who at history plain = fold-append _ _ history (asked_entry who ask.Counter reply at ∷ [])
no-recording config (ask.Wait until) reply who at history plain = fold-append _ _ history (asked_entry who (ask.Wait until) reply at ∷ [])
no-recording config (ask.Data name value) reply who at history plain = fold-append _ _ history (asked_entry who (ask.Data name value) reply at ∷ [])
no-recording config other reply who at history plain = absurd (cc)

plain-fits : (request : Request) (counter : ℕ) → IsTrue (is_plain request) → IsTrue (fits_request request (plain_reply request counter))
plain-fits ask.Counter counter plain = refl
plain-fits (ask.Wait until) counter plain = refl
plain-fits (ask.Data name value) counter plain = refl
plain-fits other counter plain = absurd (cc)

-- a reading, a wait or a dataset
pub plain_keeps : (a : Inside) (s : CoreState) (entries : Vec Entry Global) (who : ℕ) (request : Request) (reply : Reply) (left : ℕ) → core_state a ≡ s → IsCoreInside a → IsOpenFor who s.history → NoOtherWaits s.waiting request → IsTrue (is_well_formed request) → IsTrue (is_plain request) → reply_to s.config s.history request s.counter ≡ Some (plain_reply request s.counter) → reply ≡ plain_reply request a.count → entries.items ≡ a.entries.items ++ asked_entry who request reply a.count ∷ [] → left ≡ min (max a.limit (reading a.count) + a.config.cost) (2 ^ 64 - 1) → IsCoreInside (record a { entries = entries; pending = None; limit = left })
plain_keeps a s entries who request reply left see h running no_other formed plain right replies is raised =
    let counted : a.count ≡ s.counter = ap (λ (x : CoreState). x.counter) see in
    let same : plain_reply request s.counter ≡ reply = ap (plain_reply request) (sym counted) ∙ sym replies in
    quiet_keeps a s entries a.store who request reply left see h
    (record { running = running; no_other = no_other; formed = formed; right = right ∙ ap (λ (r : Reply). Some r) same })
    (subst (λ (r : Reply). IsTrue (fits_request request r)) (sym replies) (plain-fits request a.count plain))
    (no-output request reply a.count plain) (no-input request reply a.count plain) (h.store ∙ sym (no-recording a.config request reply who a.count a.entries.items plain)) is raised

-- an answered output
pub output_keeps : (a : Inside) (s : CoreState) (entries : Vec Entry Global) (outputs : Outputs) (who : ℕ) (e : Event) (reply : Reply) (left : ℕ) → core_state a ≡ s → IsCoreInside a → IsOpenFor who s.history → NoOtherWaits s.waiting (ask.Out e) → IsTrue (is_well_formed (ask.Out e)) → IsTrue (fits_request (ask.Out e) reply) → reply_to_event (verdict_at s.config s.history e s.counter) ≡ Some reply → IsPlayed outputs a.config.holds a.config.lanes a.config.depth (lane_steps a.entries.items ++ Submit a.count e ∷ []) a.count → entries.items ≡ a.entries.items ++ asked_entry who (ask.Out e) reply a.count ∷ [] → left ≡ min (max a.limit (reading a.count) + a.config.cost) (2 ^ 64 - 1) → IsCoreInside (record a { entries = entries; pending = None; outputs = outputs; limit = left })
output_keeps a s entries outputs who e reply left see h running no_other formed fits right played is raised =
    let seen = sym see in
    asked_keeps a entries outputs a.inputs a.store who (ask.Out e) reply left h
    (record {
      running = subst (λ (x : CoreState). IsOpenFor who x.history) seen running;
      no_other = subst (λ (x : CoreState). NoOtherWaits x.waiting (ask.Out e)) seen no_other;
      formed = formed;
      fits = fits;
      right = subst (λ (x : CoreState). reply_to_event (verdict_at x.config x.history e x.counter) ≡ Some reply) seen right;
      played = subst (λ (steps : List LaneStep). IsPlayed outputs a.config.holds a.config.lanes a.config.depth steps a.count) (sym (lane_steps-output a.entries.items who a.count e reply)) played;
      stands = inputs-quiet a h;
      store_is = h.store ∙ sym (fold-append _ _ a.entries.items (asked_entry who (ask.Out e) reply a.count ∷ []));
    }) is raised

-- an answered reset
pub reset_keeps : (a : Inside) (s : CoreState) (entries : Vec Entry Global) (outputs : Outputs) (inputs : InputsState) (who : ℕ) (reply : Reply) (left : ℕ) → core_state a ≡ s → IsCoreInside a → IsOpenFor who s.history → NoOtherWaits s.waiting ask.Reset → reply ≡ answer.Time (pos (reading a.count)) → IsPlayed outputs a.config.holds a.config.lanes a.config.depth (lane_steps a.entries.items ++ Clear a.count ∷ []) a.count → InputsStandFor inputs a.config.edges (outputs_at a.config a.entries.items a.count) (input_steps a.entries.items ++ Reset a.count ∷ []) a.count → entries.items ≡ a.entries.items ++ asked_entry who ask.Reset reply a.count ∷ [] → left ≡ min (max a.limit (reading a.count) + a.config.cost) (2 ^ 64 - 1) → IsCoreInside (record a { entries = entries; pending = None; outputs = outputs; inputs = inputs; limit = left })
reset_keeps a s entries outputs inputs who reply left see h running no_other replies played stands is raised =
    let seen = sym see in
    asked_keeps a entries outputs inputs a.store who ask.Reset reply left h
    (record {
      running = subst (λ (x : CoreState). IsOpenFor who x.history) seen running;
      no_other = subst (λ (x : CoreState). NoOtherWaits x.waiting ask.Reset) seen no_other;
      formed = refl;
      fits = subst (λ (r : Reply). IsTrue (fits_request ask.Reset r)) (sym replies) refl;
      right = ap (λ (r : Reply). Some r) (sym replies);
      played = subst (λ (steps : List LaneStep). IsPlayed outputs a.config.holds a.config.lanes a.config.depth steps a.count) (sym (lane_steps-reset a.entries.items who a.count reply)) played;
      stands = stands;
      store_is = h.store ∙ sym (fold-append _ _ a.entries.items (asked_entry who ask.Reset reply a.count ∷ []));
    }) is raised

steps-few : (history : List Entry) → length (lane_steps history) ≤ length history
steps-few [] = omega arith
steps-few (entry ∷ rest) = at-most (lane_step entry.act) refl (steps-few rest)
  where
    at-most : (step : Option LaneStep) → lane_step entry.act ≡ step → length (lane_steps rest) ≤ length rest → length (lane_steps (entry ∷ rest)) ≤ length (entry ∷ rest)
    at-most None is h = rw is (omega (arith, h))
    at-most (Some s) is h = rw is (omega (arith, h))

-- there are no more outputs than entries
pub number-few : (a : Inside) → IsCoreInside a → a.outputs.number ≤ length a.entries.items
number-few a h =
    let counted : next_number (judged a.config.lanes a.config.depth (lane_steps a.entries.items)) ≡ count_by is_submit (lane_steps a.entries.items) = next-number-counts a.config.lanes a.config.depth (lane_steps a.entries.items) in
    omega (arith, h.played.number, counted, count_by-le-length is_submit (lane_steps a.entries.items), steps-few a.entries.items)

-- the verdict on the lanes that are kept is that of the history
pub verdict-seen : (a : Inside) (s : CoreState) (e : Event) → core_state a ≡ s → IsCoreInside a → verdict a.outputs.lanes e a.count ≡ verdict_at s.config s.history e s.counter
verdict-seen a s e see h = ap (λ (x : LanesState). verdict x e a.count) h.played.standing ∙ ap (λ (x : CoreState). verdict_at x.config x.history e x.counter) see

-- an output that neither waits nor comes too late is done
pub reply-done : (v : Verdict) → v ≢ Undecided → v ≢ Underflow → reply_to_event v ≡ Some answer.Done
reply-done Underflow decided in_time = absurd (in_time refl)
reply-done (Lane k) decided in_time = refl
reply-done Sequence decided in_time = refl
reply-done Undecided decided in_time = absurd (decided refl)

-- what comes before the counter underflows
pub reply-late : (s : CoreState) (e : Event) → cycle_of e ≤ s.counter → reply_to_event (verdict_at s.config s.history e s.counter) ≡ Some answer.Underflow
reply-late s e late =
    let yes : nat_le (cycle_of e) s.counter ≡ true = le-leb (cycle_of e) s.counter late in
    rw yes refl

-- what comes later, and is decided, is done
pub reply-placed : (s : CoreState) (e : Event) → verdict_at s.config s.history e s.counter ≢ Undecided → s.counter < cycle_of e → reply_to_event (verdict_at s.config s.history e s.counter) ≡ Some answer.Done
reply-placed s e decided later =
    reply-done (verdict_at s.config s.history e s.counter) decided (no-underflow (lanes_at s.config s.history s.counter) e s.counter later)
