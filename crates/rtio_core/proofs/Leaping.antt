-- What passing over cycles in which nothing happens does to a core.
use Rattle.std.proofs.Common.{◌≡◌, ◌<◌, ◌≤◌, ◌+◌, ◌-◌, ◌/◌, ◌⊎◌, inl, inr, ℕ, Bool, true, false, List, [], ◌∷◌, length, refl, ap, sym, subst, ◌∙◌, arith, cond}
use Rattle.std.specs.Prelude.{IsTrue, ℤ, pos, negsuc, int_le, max, min, nat_le, nat_lt, option_map, slice_get, Option, Some, None, is_some, ◌&&◌}
use Rattle.std.specs.List.{list_all}
use Rattle.std.specs.Option.{unwrap_or}
use Rattle.std.proofs.lemmas.Bool.{and_from, and_parts, cases_lt, leb-true, lt-leb, lt-ltb, ltb-true}
use Rattle.rtio_types.specs.declared.event.Edge.{Edge}
use Rattle.rtio_types.specs.declared.event.Event.{Event}
use Rattle.rtio_types.specs.declared.request.Request.TheVariants as ask
use Rattle.rtio_types.specs.declared.request.Waiting.{Waiting}
use Rattle.rtio_types.specs.declared.request.Waiting.TheVariants as waiting
use Rattle.rtio_types.specs.Board.{is_input}
use Rattle.rtio_types.specs.Requests.{request_waiting}
use Rattle.rtio_types.specs.Time.{counter_reaching, reading}
use Rattle.sed_lanes.specs.Calls.{wait_of}
use Rattle.sed_lanes.specs.Judged.{judged, lanes_after}
use Rattle.sed_lanes.specs.Lanes.{LanesState}
use Rattle.sed_lanes.specs.Verdict.{until, verdict}
use Rattle.sed_lanes.specs.Waits.{WaitsUntil}
use Rattle.sed_lanes.proofs.Freeing.{waits-until}
use Rattle.output_merge.specs.Live.{greatest_cycle, live}
use Rattle.rtio_input.specs.Calls.{passed}
use Rattle.rtio_input.specs.Channel.{edge_reply, next_cycle}
use Rattle.rtio_input.specs.Past.{InputsStandFor}
use Rattle.rtio_input.specs.Script.{are_by_cycle, are_rising, edge_cycle, is_edge_ok}
use Rattle.rtio_input.proofs.Scripts.{by-cycle-filter, rising-by-cycle}
use Rattle.rtio_input.proofs.Standing.{channel-stands}
use Rattle.rtio_input.proofs.Undecided.{undecided-parts}
use Rattle.rtio_input.proofs.Waiting.{stands-later}
use Rattle.rtio_core.specs.declared.one_core.Core.TheInside.{Inside}
use Rattle.rtio_core.specs.Core.{CoreState, core_top}
use Rattle.rtio_core.specs.Entries.{input_steps, judged_history, lane_steps, last_at, limit, open_session}
use Rattle.rtio_core.specs.Fields.{IsCoreInside, core_state, is_formed}
use Rattle.rtio_core.specs.Leaps.{goes_to, waits_to}
use Rattle.rtio_core.specs.Played.{IsPlayed}
use Rattle.rtio_core.specs.Reply.{is_decided, outputs_at, reply_to_event, unread_in, verdict_at}
use Rattle.rtio_core.specs.Top.{first_decided, top_in_session}
use Rattle.rtio_core.proofs.AskedEdges.{edge-decided}
use Rattle.rtio_core.proofs.Ticked.{played-quiet}
use Rattle.rtio_core.proofs.Tops.{decided-later, first-later}
use Rattle.rtio_core.proofs.Waited.{has-to-wait}

-- no edge comes up to a counter below the first
later-all : (to m : ℕ) (edges : List Edge) → to < m → list_all (λ y. nat_le m (edge_cycle y)) edges ≡ true → list_all (λ y. nat_lt to (edge_cycle y)) edges ≡ true
later-all to m [] lt all = refl
later-all to m (x ∷ edges) lt all =
    let parts = and_parts (nat_le m (edge_cycle x)) (list_all (λ y. nat_le m (edge_cycle y)) edges) all in
    let above : m ≤ edge_cycle x = leb-true m (edge_cycle x) parts.0 in
    and_from (nat_lt to (edge_cycle x)) (list_all (λ y. nat_lt to (edge_cycle y)) edges) (lt-ltb to (edge_cycle x) (omega (arith, above, lt))) (later-all to m edges lt parts.1)

none-comes : (edges : List Edge) (to : ℕ) → are_by_cycle edges ≡ true → to < unwrap_or (option_map edge_cycle (slice_get edges 0)) 18446744073709551615 → list_all (λ y. nat_lt to (edge_cycle y)) edges ≡ true
none-comes [] to by lt = refl
none-comes (x ∷ edges) to by lt =
    let parts = and_parts (list_all (λ y. nat_le (edge_cycle x) (edge_cycle y)) edges) (are_by_cycle edges) by in
    and_from (nat_lt to (edge_cycle x)) (list_all (λ y. nat_lt to (edge_cycle y)) edges) (lt-ltb to (edge_cycle x) lt) (later-all to (edge_cycle x) edges lt parts.0)

-- nothing happens up to a counter: no held event and no edge is of a cycle up to it
pub record IsQuiet (a : Inside) (to : ℕ) : Type 0 where
  pub later : a.count ≤ to
  pub events : to < a.outputs.next
  pub edges : passed to a.inputs ≡ true

pub is-quiet : (a : Inside) (to edge : ℕ) (next : Option ℕ) → IsCoreInside a → a.count ≤ to → to < a.outputs.next → next ≡ next_cycle a.inputs → edge ≡ unwrap_or next 18446744073709551615 → to < edge → IsQuiet a to
is-quiet a to edge next h later events is un lt =
    let rising : are_rising a.config.edges ≡ true = (and_parts (nat_le (length a.config.edges) 4096 && list_all is_edge_ok a.config.edges) (are_rising a.config.edges) h.inputs.ok).1 in
    let by : are_by_cycle a.inputs.left ≡ true =
    ap (λ (edges : List Edge). are_by_cycle edges) h.inputs.left
    ∙ by-cycle-filter (λ x. nat_lt a.count (edge_cycle x)) a.config.edges (rising-by-cycle a.config.edges rising) in
    record {
      later = later;
      events = events;
      edges = none-comes a.inputs.left to by (subst (λ (n : ℕ). to < n) (un ∙ ap (λ (o : Option ℕ). unwrap_or o 18446744073709551615) is) lt);
    }

earlier : (a : Inside) (to : ℕ) → IsQuiet a to → a.count < to → IsQuiet a (to - 1)
earlier a to quiet more = record { later = omega (arith, more); events = omega (arith, quiet.events, more); edges = fewer a.inputs.left quiet.edges }
  where
    fewer : (edges : List Edge) → list_all (λ y. nat_lt to (edge_cycle y)) edges ≡ true → list_all (λ y. nat_lt (to - 1) (edge_cycle y)) edges ≡ true
    fewer [] all = refl
    fewer (x ∷ edges) all =
        let parts = and_parts (nat_lt to (edge_cycle x)) (list_all (λ y. nat_lt to (edge_cycle y)) edges) all in
        let above : to < edge_cycle x = ltb-true to (edge_cycle x) parts.0 in
        and_from (nat_lt (to - 1) (edge_cycle x)) (list_all (λ y. nat_lt (to - 1) (edge_cycle y)) edges) (lt-ltb (to - 1) (edge_cycle x) (omega (arith, above))) (fewer edges parts.1)

-- what was put out is the same there
played-there : (a : Inside) (to : ℕ) → IsCoreInside a → IsQuiet a to → IsPlayed a.outputs a.config.holds a.config.lanes a.config.depth (lane_steps a.entries.items) to
played-there a to h quiet =
    let more : a.count + (to - a.count) ≡ to = omega (arith, quiet.later) in
    subst (IsPlayed a.outputs a.config.holds a.config.lanes a.config.depth (lane_steps a.entries.items)) more
    (played-quiet a.outputs a.config.holds (to - a.count) a.count a.config.lanes a.config.depth (lane_steps a.entries.items) h.played (omega (arith, quiet.later, quiet.events)))

-- and the inputs stand for the same
stands-there : (a : Inside) (to : ℕ) → IsCoreInside a → IsQuiet a to → InputsStandFor a.inputs a.config.edges (outputs_at a.config a.entries.items to) (input_steps a.entries.items) to
stands-there a to h quiet =
    let played = played-there a to h quiet in
    subst (λ (events : List Event). InputsStandFor a.inputs a.config.edges events (input_steps a.entries.items) to) (sym h.played.put_out ∙ played.put_out)
    (stands-later a.inputs a.config.edges (outputs_at a.config a.entries.items a.count) (input_steps a.entries.items) a.count to quiet.later quiet.edges h.inputs)

-- each part is what the history makes of it there, within the top
pub pass_keeps : (a : Inside) (to : ℕ) → IsCoreInside a → IsQuiet a to → to ≤ core_top (core_state a) → IsCoreInside (record a { count = to })
pass_keeps a to h quiet within =
    record {
      core = record {
        config = h.core.config;
        lawful = h.core.lawful;
        fitting = h.core.fitting;
        reached = omega (arith, h.core.reached, quiet.later);
        bounded = within;
      };
      pending = h.pending;
      formed = h.formed;
      played = played-there a to h quiet;
      inputs = stands-there a to h quiet;
      store = h.store;
      session = h.session;
      cursor = h.cursor;
      limit = h.limit;
    }

-- an output waits until a lane frees
output-waits-to : (a : Inside) (e : Event) (n : ℕ) → IsCoreInside a → a.count ≤ n → n < unwrap_or (wait_of (lanes_after a.config.lanes a.config.depth (judged a.config.lanes a.config.depth (lane_steps a.entries.items)) a.count) e (verdict_at a.config a.entries.items e a.count)) 0 → is_decided a.config a.entries.items (ask.Out e) n ≡ false
output-waits-to a e n h later lt = by-wait (wait_of (lanes_then a.count) e (verdict_at a.config a.entries.items e a.count)) refl lt
  where
    lanes_then : ℕ → LanesState
    lanes_then = lanes_after a.config.lanes a.config.depth (judged a.config.lanes a.config.depth (lane_steps a.entries.items))

    by-wait : (o : Option ℕ) → wait_of (lanes_after a.config.lanes a.config.depth (judged a.config.lanes a.config.depth (lane_steps a.entries.items)) a.count) e (verdict_at a.config a.entries.items e a.count) ≡ o → n < unwrap_or o 0 → is_decided a.config a.entries.items (ask.Out e) n ≡ false
    by-wait None is less = absurd (omega (arith, less))
    by-wait (Some m) is less =
        let told = has-to-wait (lanes_after a.config.lanes a.config.depth (judged a.config.lanes a.config.depth (lane_steps a.entries.items)) a.count) e (verdict_at a.config a.entries.items e a.count) m is in
        let known : WaitsUntil (lanes_after a.config.lanes a.config.depth (judged a.config.lanes a.config.depth (lane_steps a.entries.items))) e a.count (until (lanes_after a.config.lanes a.config.depth (judged a.config.lanes a.config.depth (lane_steps a.entries.items)) a.count) e) =
        waits-until a.config.lanes a.config.depth (lane_steps a.entries.items) a.count e h.played.lanes_least h.played.depth_least h.played.in_time told.0 in
        ap (λ v. is_some (reply_to_event v)) (known.waits n later (subst (λ (k : ℕ). n < k) told.1 less))

not-reached : (bound : ℤ) (n : ℕ) → n < counter_reaching bound → int_le bound (pos (reading n)) ≡ false
not-reached (pos m) n lt = let far : reading n < m = omega (arith, lt) in lt-leb m (reading n) far
not-reached (negsuc m) n lt = absurd (omega (arith, lt))

-- an edge is waited for until its moment
edge-waits-to : (a : Inside) (channel n : ℕ) (up_to : ℤ) → IsCoreInside a → IsQuiet a n → is_input channel ≡ true → is_decided a.config a.entries.items (ask.Edge channel up_to) a.count ≡ false → n < counter_reaching up_to → is_decided a.config a.entries.items (ask.Edge channel up_to) n ≡ false
edge-waits-to a channel n up_to h quiet input waits lt =
    ap (λ (u : _). is_some (edge_reply u n up_to)) (sym same)
    ∙ still (unread_in a.config a.entries.items a.count channel) (edge_reply (unread_in a.config a.entries.items a.count channel) a.count up_to) refl waits
  where
    same : unread_in a.config a.entries.items a.count channel ≡ unread_in a.config a.entries.items n channel
    same =
        ap (λ c. c.unread) (sym (channel-stands a.inputs a.config.edges (outputs_at a.config a.entries.items a.count) (input_steps a.entries.items) a.count channel input h.inputs))
        ∙ ap (λ c. c.unread) (channel-stands a.inputs a.config.edges (outputs_at a.config a.entries.items n) (input_steps a.entries.items) n channel input (stands-there a n h quiet))

    still : (u : _) (o : Option _) → edge_reply u a.count up_to ≡ o → is_some o ≡ false → is_some (edge_reply u n up_to) ≡ false
    still u (Some r) is some = absurd (cc)
    still u None is none =
        let parts = undecided-parts u a.count up_to is in
        rw (parts.idle.clear, parts.idle.none, not-reached up_to n lt) refl

-- a request waits as long as it says
waits-undecided : (a : Inside) (w : Waiting) (n : ℕ) → IsCoreInside a → a.pending ≡ Some w → IsQuiet a n → n < waits_to (core_state a) (Some w) → is_decided a.config a.entries.items (request_waiting w) n ≡ false
waits-undecided a (waiting.Out e) n h is quiet lt = output-waits-to a e n h quiet.later lt
waits-undecided a (waiting.Wait until) n h is quiet lt = rw (not-reached until n lt) refl
waits-undecided a (waiting.Edge channel up_to) n h is quiet lt = by-decided (is_decided a.config a.entries.items (ask.Edge channel up_to) a.count) refl lt
  where
    input : is_input channel ≡ true
    input = subst (λ (p : Option Waiting). IsTrue (is_formed p)) is h.formed

    by-decided : (b : Bool) → is_decided a.config a.entries.items (ask.Edge channel up_to) a.count ≡ b → n < cond b 0 (counter_reaching up_to) → is_decided a.config a.entries.items (ask.Edge channel up_to) n ≡ false
    by-decided true decided less = absurd (omega (arith, less))
    by-decided false waits less = edge-waits-to a channel n up_to h quiet input waits less

-- the counter goes beyond each number that is quiet and less
pub goes-beyond : (a : Inside) (n : ℕ) → IsCoreInside a → IsQuiet a n → n < goes_to (core_state a) → n < core_top (core_state a)
goes-beyond a n h quiet lt = by-session (open_session a.entries.items) refl
  where
    in-session : (w : Option Waiting) → a.pending ≡ w → n < a.config.horizon → n < max (limit a.config.cost a.entries.items / 8) (waits_to (core_state a) w) → n < min a.config.horizon (top_in_session a.config a.entries.items (option_map request_waiting w))
    in-session None is low reach = omega (arith, low, reach)
    in-session (Some w) is low reach = by-order (cases_lt n (limit a.config.cost a.entries.items / 8))
      where
        by-order : (n < limit a.config.cost a.entries.items / 8) ⊎ (limit a.config.cost a.entries.items / 8 ≤ n) → n < min a.config.horizon (max (limit a.config.cost a.entries.items / 8) (first_decided a.config a.entries.items (request_waiting w)))
        by-order (inl near) = omega (arith, low, near)
        by-order (inr far) =
            let waits : n < waits_to (core_state a) (Some w) = omega (arith, reach, far) in
            let fails : is_decided a.config a.entries.items (request_waiting w) n ≡ false = waits-undecided a w n h is quiet waits in
            let first : n < first_decided a.config a.entries.items (request_waiting w) =
            first-later (is_decided a.config a.entries.items (request_waiting w)) (last_at a.entries.items) (a.config.horizon - last_at a.entries.items) n
            (λ m k early less. decided-later a.config a.entries.items (request_waiting w) m k h.inputs.ok h.core.lawful early less)
            (omega (arith, h.core.reached, quiet.later)) (omega (arith, h.core.reached, quiet.later, low)) fails in
            omega (arith, low, first)

    by-session : (o : Option (ℕ × ℕ)) → open_session a.entries.items ≡ o → n < core_top (core_state a)
    by-session None is =
        let reach : n < min (greatest_cycle (live (judged_history a.config a.entries.items))) a.config.horizon = rw is at lt in
        rw is (omega (arith, reach))
    by-session (Some running) is =
        let reach : n < min (max (limit a.config.cost a.entries.items / 8) (waits_to (core_state a) a.pending)) a.config.horizon = rw is at lt in
        rw is (in-session a.pending refl (omega (arith, reach)) (omega (arith, reach)))

-- so it goes as far, where nothing happens before
goes-within : (a : Inside) (to : ℕ) → IsCoreInside a → IsQuiet a to → a.count < to → to ≤ goes_to (core_state a) → to ≤ core_top (core_state a)
goes-within a to h quiet more le =
    let beyond : to - 1 < core_top (core_state a) = goes-beyond a (to - 1) h (earlier a to quiet more) (omega (arith, le, more)) in
    omega (arith, beyond, more)

-- a leap behind some cycles
pub record IsLeaping (old now : CoreState) (most left : ℕ) : Type 0 where
  pub moved : now ≡ record old { counter = old.counter + (most - left) }
  pub within : old.counter + (most - left) ≤ core_top old
  pub few : left ≤ most

-- how long an output waits, from the lanes
pub waits-out : (a : Inside) (s : CoreState) (e : Event) (n : ℕ) (o : Option ℕ) → core_state a ≡ s → IsCoreInside a → a.pending ≡ Some (waiting.Out e) → o ≡ wait_of a.outputs.lanes e (verdict a.outputs.lanes e a.count) → n ≡ unwrap_or o 0 → n ≡ waits_to s s.waiting
waits-out a s e n o see h pends is un =
    un ∙ ap (λ (x : Option ℕ). unwrap_or x 0) is ∙ ap (λ (x : LanesState). unwrap_or (wait_of x e (verdict x e a.count)) 0) h.played.standing
    ∙ ap (waits_to (core_state a)) (sym pends) ∙ ap (λ (x : CoreState). waits_to x x.waiting) see

-- and how long an edge is waited for, from the inputs
pub waits-edge : (a : Inside) (s : CoreState) (channel : ℕ) (bound given : ℤ) (b : Bool) (n : ℕ) → core_state a ≡ s → a.pending ≡ Some (waiting.Edge channel bound) → given ≡ bound → b ≡ is_some (edge_reply (unread_in a.config a.entries.items a.count channel) a.count given) → n ≡ cond b 0 (counter_reaching bound) → n ≡ waits_to s s.waiting
waits-edge a s channel bound given b n see pends same is told =
    let decided : b ≡ is_decided s.config s.history (ask.Edge channel bound) s.counter = edge-decided a s channel bound given b see same is in
    let waits : s.waiting ≡ Some (waiting.Edge channel bound) = ap (λ (x : CoreState). x.waiting) (sym see) ∙ pends in
    told ∙ ap (λ (x : Bool). cond x 0 (counter_reaching bound)) decided ∙ ap (waits_to s) (sym waits)

-- so many cycles are passed over, where they end before anything happens and the core goes as far
pub passed-over : (a : Inside) (s : CoreState) (next : Option ℕ) (edge passed : ℕ) → core_state a ≡ s → IsCoreInside a → next ≡ next_cycle a.inputs → edge ≡ unwrap_or next 18446744073709551615 → (0 < passed → (a.count + passed ≤ goes_to s) × (a.count + passed < min a.outputs.next edge)) → IsCoreInside (record a { count = a.count + passed }) × (s.counter + passed ≤ core_top s)
passed-over a s next edge passed see h is un fits = by-order (cases_lt 0 passed)
  where
    by-order : (0 < passed) ⊎ (passed ≤ 0) → IsCoreInside (record a { count = a.count + passed }) × (s.counter + passed ≤ core_top s)
    by-order (inl more) =
        let parts = fits more in
        let up : a.count < a.count + passed = omega (arith, more) in
        let quiet : IsQuiet a (a.count + passed) = is-quiet a (a.count + passed) edge next h (omega (arith)) (omega (arith, parts.1)) is un (omega (arith, parts.1)) in
        let within : a.count + passed ≤ core_top (core_state a) = goes-within a (a.count + passed) h quiet up (subst (λ (x : CoreState). a.count + passed ≤ goes_to x) (sym see) parts.0) in
        (pass_keeps a (a.count + passed) h quiet within, subst (λ (x : CoreState). x.counter + passed ≤ core_top x) see within)
    by-order (inr none) =
        let same : a.count ≡ a.count + passed = omega (arith, none) in
        let within : a.count + passed ≤ core_top (core_state a) = subst (λ (n : ℕ). n ≤ core_top (core_state a)) same h.core.bounded in
        (subst (λ (n : ℕ). IsCoreInside (record a { count = n })) same h, subst (λ (x : CoreState). x.counter + passed ≤ core_top x) see within)

-- and it may go on, where it was to go further
pub passed-beyond : (a : Inside) (s : CoreState) (next : Option ℕ) (edge passed : ℕ) → core_state a ≡ s → IsCoreInside a → next ≡ next_cycle a.inputs → edge ≡ unwrap_or next 18446744073709551615 → a.count + passed < goes_to s → a.count + passed < min a.outputs.next edge → s.counter + passed < core_top s
passed-beyond a s next edge passed see h is un lt early =
    let quiet : IsQuiet a (a.count + passed) = is-quiet a (a.count + passed) edge next h (omega (arith)) (omega (arith, early)) is un (omega (arith, early)) in
    let beyond : a.count + passed < core_top (core_state a) = goes-beyond a (a.count + passed) h quiet (subst (λ (x : CoreState). a.count + passed < goes_to x) (sym see) lt) in
    subst (λ (x : CoreState). x.counter + passed < core_top x) see beyond
