-- When the counter may rise.
use Rattle.std.proofs.Common.{◌≡◌, ◌+◌, ◌-◌, ◌/◌, ◌^◌, ◌<◌, ◌≤◌, ◌⊎◌, inl, inr, ℕ, Bool, true, false, List, refl, ap, sym, subst, ◌∙◌, arith}
use Rattle.std.specs.Prelude.{ℤ, pos, negsuc, IsTrue, int_le, Option, Some, None, option_map, is_some, max, min, not, if◌then◌else◌}
use Rattle.std.proofs.lemmas.Bool.Decides.{nat_tests}
use Rattle.std.proofs.lemmas.Bool.{cases_lt}
use Rattle.rtio_types.specs.declared.event.Event.{Event}
use Rattle.rtio_types.specs.declared.request.Request.{Request}
use Rattle.rtio_types.specs.declared.request.Request.TheVariants as ask
use Rattle.rtio_types.specs.declared.request.Reply.TheVariants as answer
use Rattle.rtio_types.specs.declared.request.Waiting.{Waiting}
use Rattle.rtio_types.specs.Requests.{request_waiting}
use Rattle.rtio_types.specs.Time.{reading}
use Rattle.sed_lanes.specs.Calls.{wait_of}
use Rattle.sed_lanes.specs.Lanes.{LanesState}
use Rattle.sed_lanes.specs.Verdict.{Verdict, Underflow, Lane, Sequence, Undecided, verdict}
use Rattle.rtio_input.specs.Channel.{edge_reply}
use Rattle.rtio_input.specs.Past.{are_made_by}
use Rattle.rtio_input.specs.Script.{are_edges_ok}
use Rattle.rtio_core.specs.declared.data.Config.{Config}
use Rattle.rtio_core.specs.declared.data.Entry.{Entry}
use Rattle.rtio_core.specs.declared.one_core.Core.TheInside.{Inside}
use Rattle.rtio_core.specs.Entries.{input_steps, last_at, limit, open_session}
use Rattle.rtio_core.specs.Reply.{is_decided, reply_to_event, unread_in}
use Rattle.rtio_core.specs.Lawful.{IsLawful}
use Rattle.rtio_core.specs.Top.{first_decided, least_from, top}
use Rattle.rtio_core.specs.Core.{CoreState, core_top}
use Rattle.rtio_core.specs.Calls.{has_to_wait}
use Rattle.rtio_core.specs.Fields.{IsCoreInside, core_state}
use Rattle.rtio_core.proofs.Laws.{least_from-above, least_from-before, least_from-passes}
use Rattle.rtio_core.proofs.OutputsDecided.{output-decided-stays}
use Rattle.rtio_core.proofs.AskedEdges.{edge-decided}
use Rattle.rtio_core.proofs.Edges.{edge-stays, made-by-last, made-later}
use Rattle.rtio_core.proofs.Settings.{horizon-most}

wait-stays : (until : ℤ) (from to : ℕ) → from ≤ to → is_some (if int_le until (pos (reading from)) then Some answer.Done else None) ≡ true → is_some (if int_le until (pos (reading to)) then Some answer.Done else None) ≡ true
wait-stays (pos n) from to le h = grind (arith, nat_tests, le, h)
wait-stays (negsuc n) from to le h = refl

-- what is decided at a counter, no earlier than the history, is decided at each later one
pub decided-stays : (config : Config) (history : List Entry) (request : Request) (from to : ℕ) → IsTrue (are_edges_ok config.edges) → are_made_by from (input_steps history) ≡ true → from ≤ to → is_decided config history request from ≡ true → is_decided config history request to ≡ true
decided-stays config history (ask.Out e) from to ok made le h = output-decided-stays config history e from to le h
decided-stays config history ask.Counter from to ok made le h = refl
decided-stays config history ask.Reset from to ok made le h = refl
decided-stays config history (ask.Wait until) from to ok made le h = wait-stays until from to le h
decided-stays config history (ask.Edge channel up_to) from to ok made le h = edge-stays config history channel from to up_to ok made le h
decided-stays config history (ask.Save name recording) from to ok made le h = h
decided-stays config history (ask.Fetch name) from to ok made le h = refl
decided-stays config history (ask.FetchHandle handle) from to ok made le h = refl
decided-stays config history (ask.Handle name) from to ok made le h = refl
decided-stays config history (ask.Erase name) from to ok made le h = h
decided-stays config history (ask.Data name value) from to ok made le h = refl

-- the same of a lawful history
pub decided-later : (config : Config) (history : List Entry) (request : Request) (from to : ℕ) → IsTrue (are_edges_ok config.edges) → IsLawful config history → last_at history ≤ from → from ≤ to → is_decided config history request from ≡ true → is_decided config history request to ≡ true
decided-later config history request from to ok lawful last le =
    decided-stays config history request from to ok (made-later (last_at history) from (input_steps history) last (made-by-last config history lawful)) le

-- the search for the least number that passes goes past one that doesn't, where what passes stays
pub first-later : (test : ℕ → Bool) (from more counter : ℕ) → ((m n : ℕ) → from ≤ m → m ≤ n → test m ≡ true → test n ≡ true) → from ≤ counter → counter < from + more → test counter ≡ false → counter < least_from test from more
first-later test from more counter stays low high fails = by-order (cases_lt counter (least_from test from more))
  where
    by-order : (counter < least_from test from more) ⊎ (least_from test from more ≤ counter) → counter < least_from test from more
    by-order (inl lt) = lt
    by-order (inr le) = absurd (by-end (least_from-passes test from more))
      where
        by-end : (test (least_from test from more) ≡ true) ⊎ (least_from test from more ≡ from + more) → ⊥
        by-end (inl passes) = let again : test counter ≡ true = stays (least_from test from more) counter (least_from-above test from more) le passes in let clash : true ≡ false = sym again ∙ fails in absurd (cc)
        by-end (inr is) = omega (arith, is, le, high)

-- the counter may rise where a request waits that isn't decided, within the horizon and behind the limit
top-waits : (config : Config) (history : List Entry) (request : Request) (counter : ℕ) (running : ℕ × ℕ) (b : Bool) → IsTrue (are_edges_ok config.edges) → IsLawful config history → open_session history ≡ Some running → limit config.cost history / 8 ≤ counter → last_at history ≤ counter → counter < config.horizon → is_decided config history request counter ≡ b → (IsTrue (not b) → counter < top config history (Some request)) × (counter < top config history (Some request) → IsTrue (not b))
top-waits config history request counter running true ok lawful is far last below decided = (
  (λ no_wait. absurd (cc)),
  (λ lt.
      let reach : counter < max (limit config.cost history / 8) (first_decided config history request) = let up : counter < min config.horizon (max (limit config.cost history / 8) (first_decided config history request)) = rw is at lt in omega (arith, up) in
      let before : counter < first_decided config history request = omega (arith, reach, far) in
      let fails : is_decided config history request counter ≡ false = least_from-before (is_decided config history request) (last_at history) (config.horizon - last_at history) counter last before in
      let clash : true ≡ false = sym decided ∙ fails in absurd (cc)),
)
top-waits config history request counter running false ok lawful is far last below waits = (
  (λ yes. let before : counter < first_decided config history request =
      first-later (is_decided config history request) (last_at history) (config.horizon - last_at history) counter (λ m n low le. decided-later config history request m n ok lawful low le) last (omega (arith, last, below)) waits in
      rw is (omega (arith, before, below))),
  (λ lt. refl),
)

-- the same of whatever waits
top-rises : (config : Config) (history : List Entry) (waiting : Option Waiting) (counter : ℕ) (running : ℕ × ℕ) → IsTrue (are_edges_ok config.edges) → IsLawful config history → open_session history ≡ Some running → limit config.cost history / 8 ≤ counter → last_at history ≤ counter → counter < config.horizon → (IsTrue (has_to_wait (record { config = config; history = history; counter = counter; waiting = waiting })) → counter < top config history (option_map request_waiting waiting)) × (counter < top config history (option_map request_waiting waiting) → IsTrue (has_to_wait (record { config = config; history = history; counter = counter; waiting = waiting })))
top-rises config history None counter running ok lawful is far last below =
    ((λ no_wait. absurd (cc)), (λ lt. let up : counter < min config.horizon (limit config.cost history / 8) = rw is at lt in absurd (omega (arith, up, far))))
top-rises config history (Some w) counter running ok lawful is far last below = top-waits config history (request_waiting w) counter running (is_decided config history (request_waiting w) counter) ok lawful is far last below refl

-- the kept limit tells as much as the whole one, within the horizon
pub limit-tells : (left whole counter : ℕ) → left ≡ min whole (2 ^ 64 - 1) → counter ≤ 576460752303423488 → left / 8 ≤ counter → whole / 8 ≤ counter
limit-tells left whole counter is few far = omega (arith, is, few, far)

pub waits-rise : (a : Inside) (s : CoreState) (running : ℕ × ℕ) (b : Bool) → core_state a ≡ s → IsCoreInside a → a.session ≡ Some running → a.limit / 8 ≤ a.count → s.counter < s.config.horizon → b ≡ has_to_wait s → (IsTrue b → s.counter < core_top s) × (s.counter < core_top s → IsTrue b)
waits-rise a s running b see h started far below is =
    let few : a.count ≤ 576460752303423488 = let within : a.count ≤ a.config.horizon = omega (arith, h.core.bounded) in omega (arith, within, horizon-most a.config h.core.config) in
    let here : a.count < a.config.horizon = subst (λ (x : CoreState). x.counter < x.config.horizon) (sym see) below in
    let rises = top-rises a.config a.entries.items a.pending a.count running h.inputs.ok h.core.lawful (sym h.session ∙ started) (limit-tells a.limit (limit a.config.cost a.entries.items) a.count h.limit few far) h.core.reached here in
    subst (λ (c : Bool). (IsTrue c → s.counter < core_top s) × (s.counter < core_top s → IsTrue c)) (sym is)
    (subst (λ (x : CoreState). (IsTrue (has_to_wait x) → x.counter < core_top x) × (x.counter < core_top x → IsTrue (has_to_wait x))) see rises)

-- an output that has to wait is one that isn't decided
pub output-undecided : (a : Inside) (s : CoreState) (e : Event) (b : Bool) → core_state a ≡ s → IsCoreInside a → b ≡ is_some (wait_of a.outputs.lanes e (verdict a.outputs.lanes e a.count)) → b ≡ not (is_decided s.config s.history (ask.Out e) s.counter)
output-undecided a s e b see h is =
    is ∙ by-verdict (verdict a.outputs.lanes e a.count)
    ∙ ap (λ (v : Verdict). not (is_some (reply_to_event v))) (ap (λ (x : LanesState). verdict x e a.count) h.played.standing)
    ∙ ap (λ (x : CoreState). not (is_decided x.config x.history (ask.Out e) x.counter)) see
  where
    by-verdict : (v : Verdict) → is_some (wait_of a.outputs.lanes e v) ≡ not (is_some (reply_to_event v))
    by-verdict Underflow = refl
    by-verdict (Lane k) = refl
    by-verdict Sequence = refl
    by-verdict Undecided = refl

-- so is an edge
pub edge-undecided : (a : Inside) (s : CoreState) (channel : ℕ) (bound given : ℤ) (b : Bool) → core_state a ≡ s → given ≡ bound → b ≡ is_some (edge_reply (unread_in a.config a.entries.items a.count channel) a.count given) → not b ≡ not (is_decided s.config s.history (ask.Edge channel bound) s.counter)
edge-undecided a s channel bound given b see same is = ap not (edge-decided a s channel bound given b see same is)
