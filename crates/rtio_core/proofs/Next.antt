-- What an entry more does to the parts of a core.
use Rattle.std.proofs.Common.{◌≡◌, ℕ, ◌-◌, ◌*◌, ◌/◌, ◌^◌, ◌≤◌, subst, List, [], ◌∷◌, ◌++◌, refl, sym, ◌∙◌, ap, arith, append-nil}
use Rattle.std.specs.Prelude.{ℤ, Option, Some, None, option_map, Vec, min}
use Rattle.std.proofs.lemmas.List.Sums.{fold-append}
use Rattle.std.proofs.lemmas.List.Elements.{filter_map-append}
use Rattle.std.specs.declared.alloc.Global.{Global}
use Rattle.rtio_types.specs.declared.outcome.Outcome.{Outcome}
use Rattle.rtio_types.specs.declared.outcome.Outcome.TheVariants as outcome
use Rattle.rtio_types.specs.declared.request.Waiting.{Waiting}
use Rattle.rtio_types.specs.Requests.{request_waiting}
use Rattle.sed_lanes.specs.Counters.{NeverFall}
use Rattle.sed_lanes.specs.Judged.{LaneStep, judged}
use Rattle.output_merge.specs.Outputs.{outputs}
use Rattle.output_merge.proofs.Staying.{outputs-stay}
use Rattle.rtio_input.specs.Channel.{InputsState}
use Rattle.rtio_input.specs.Past.{InputStep, InputsStandFor}
use Rattle.dma_store.specs.Kept.{KeptState}
use Rattle.rtio_types.specs.declared.request.Request.{Request}
use Rattle.rtio_types.specs.declared.request.Request.TheVariants as ask
use Rattle.rtio_types.specs.declared.request.Reply.{Reply}
use Rattle.rtio_core.specs.declared.data.Config.{Config}
use Rattle.rtio_core.specs.declared.data.Act.{Act}
use Rattle.rtio_core.specs.declared.data.Act.TheVariants.{Start, Asked, End}
use Rattle.rtio_core.specs.declared.data.StartOf.{StartOf}
use Rattle.rtio_core.specs.declared.data.Entry.{Entry}
use Rattle.rtio_core.specs.declared.one_core.Core.TheInside.{Inside}
use Rattle.rtio_core.specs.Entries.{act_at, input_step, input_steps, kept_after, last_at, last_cursor, limit, open_session, lane_step, lane_steps}
use Rattle.rtio_core.specs.Reply.{outputs_at}
use Rattle.rtio_core.specs.Top.{top}
use Rattle.rtio_core.specs.Lawful.{IsOpenFor, end_top, MayFollow, IsActFitting}
use Rattle.rtio_core.specs.declared.outputs.Outputs.{Outputs}
use Rattle.rtio_core.specs.Played.{IsPlayed}
use Rattle.rtio_core.specs.Fields.{IsCoreInside}
use Rattle.rtio_core.specs.Calls.{MayEnd}
use Rattle.rtio_core.proofs.Laws.{IsLawfulAfter-push, AreFitting-push}
use Rattle.rtio_core.proofs.Settings.{horizon-most}

-- it is no step of the lanes
lane_steps-quiet : (history : List Entry) (entry : Entry) → lane_step entry.act ≡ None → lane_steps (history ++ entry ∷ []) ≡ lane_steps history
lane_steps-quiet history entry quiet =
    let tail : lane_steps (entry ∷ []) ≡ [] = rw quiet refl in
    filter_map-append (λ (e : Entry). lane_step e.act) history (entry ∷ []) ∙ ap (λ (steps : List LaneStep). lane_steps history ++ steps) tail ∙ append-nil _

asked-in-time : (request : Request) (reply : Reply) (chair at counter : ℕ) → at ≡ counter → NeverFall counter (lane_steps (record { chair = chair; act = Asked request reply at } ∷ [])) counter
asked-in-time (ask.Out e) reply chair at counter is = (omega (arith, is), omega (arith, is))
asked-in-time ask.Reset reply chair at counter is = (omega (arith, is), omega (arith, is))
asked-in-time other reply chair at counter is = omega arith

entry-in-time : (chair : ℕ) (act : Act) (counter : ℕ) → act_at act ≡ counter → NeverFall counter (lane_steps (record { chair = chair; act = act } ∷ [])) counter
entry-in-time chair (Start of cursor at) counter is = omega arith
entry-in-time chair (Asked request reply at) counter is = asked-in-time request reply chair at counter is
entry-in-time chair (End outcome cursor at) counter is = omega arith

-- it changes no event that is put out up to its counter
pub outputs-kept : (config : Config) (history : List Entry) (entry : Entry) (counter : ℕ) → act_at entry.act ≡ counter → outputs_at config (history ++ entry ∷ []) counter ≡ outputs_at config history counter
outputs-kept config history entry counter at =
    let grows : lane_steps (history ++ entry ∷ []) ≡ lane_steps history ++ lane_steps (entry ∷ []) = filter_map-append (λ (e : Entry). lane_step e.act) history (entry ∷ []) in
    ap (λ (steps : List LaneStep). outputs config.holds (judged config.lanes config.depth steps) counter) grows
    ∙ outputs-stay config.holds config.lanes config.depth (lane_steps history) (lane_steps (entry ∷ [])) counter counter (entry-in-time entry.chair entry.act counter at)

-- so the inputs stand for the history with it where they stand for one step of the inputs more, or for none if it is none
pub inputs-grown : (config : Config) (history : List Entry) (entry : Entry) (counter : ℕ) (inputs : InputsState) → act_at entry.act ≡ counter → InputsStandFor inputs config.edges (outputs_at config history counter) (input_steps history ++ input_steps (entry ∷ [])) counter → InputsStandFor inputs config.edges (outputs_at config (history ++ entry ∷ []) counter) (input_steps (history ++ entry ∷ [])) counter
inputs-grown config history entry counter inputs at stands =
    let grows : input_steps (history ++ entry ∷ []) ≡ input_steps history ++ input_steps (entry ∷ []) = filter_map-append (λ (e : Entry). input_step e.act) history (entry ∷ []) in
    subst (λ (steps : List InputStep). InputsStandFor inputs config.edges (outputs_at config (history ++ entry ∷ []) counter) steps counter) (sym grows)
    (subst (λ events. InputsStandFor inputs config.edges events (input_steps history ++ input_steps (entry ∷ [])) counter) (sym (outputs-kept config history entry counter at)) stands)

-- what an entry brings
pub record IsNextEntry (a : Inside) (entry : Entry) (outputs : Outputs) (inputs : InputsState) (store : KeptState) (session : Option (ℕ × ℕ)) (cursor : ℤ) (left : ℕ) : Type 0 where
  pub at : act_at entry.act ≡ a.count
  pub may : MayFollow a.config a.entries.items entry.chair entry.act
  pub fitting : IsActFitting entry.act
  pub bounded : a.count ≤ top a.config (a.entries.items ++ entry ∷ []) None
  pub played : IsPlayed outputs a.config.holds a.config.lanes a.config.depth (lane_steps (a.entries.items ++ entry ∷ [])) a.count
  pub stands : InputsStandFor inputs a.config.edges (outputs_at a.config a.entries.items a.count) (input_steps a.entries.items ++ input_steps (entry ∷ [])) a.count
  pub store_is : store ≡ kept_after a.config (a.entries.items ++ entry ∷ [])
  pub session_is : session ≡ open_session (a.entries.items ++ entry ∷ [])
  pub cursor_is : cursor ≡ last_cursor (a.entries.items ++ entry ∷ [])
  pub limit_is : left ≡ min (limit a.config.cost (a.entries.items ++ entry ∷ [])) (2 ^ 64 - 1)

-- each part stays what the history makes of it
pub entry_keeps : (a : Inside) (entries : Vec Entry Global) (entry : Entry) (outputs : Outputs) (inputs : InputsState) (store : KeptState) (session : Option (ℕ × ℕ)) (cursor : ℤ) (left : ℕ) → IsCoreInside a → IsNextEntry a entry outputs inputs store session cursor left → entries.items ≡ a.entries.items ++ entry ∷ [] → IsCoreInside (record a { entries = entries; pending = None; outputs = outputs; inputs = inputs; store = store; session = session; cursor = cursor; limit = left })
entry_keeps a entries entry outputs inputs store session cursor left h n is =
    let history : List Entry = a.entries.items in
    let last : last_at (history ++ entry ∷ []) ≡ a.count = fold-append _ _ history (entry ∷ []) ∙ n.at in
    record {
      core = record {
        config = h.core.config;
        lawful = rw is (IsLawfulAfter-push a.config [] history entry h.core.lawful n.may);
        fitting = rw is (AreFitting-push history entry h.core.fitting n.fitting);
        reached = rw (is, last) (omega arith);
        bounded = rw is n.bounded;
      };
      pending = λ _. refl;
      formed = refl;
      played = rw is n.played;
      inputs = rw is (inputs-grown a.config history entry a.count inputs n.at n.stands);
      store = rw is n.store_is;
      session = rw is n.session_is;
      cursor = rw is n.cursor_is;
      limit = rw is n.limit_is;
    }

-- room for entries changes nothing
pub room_keeps : (a : Inside) (entries : Vec Entry Global) (outputs : Outputs) → IsCoreInside a → entries.items ≡ a.entries.items → outputs ≡ a.outputs → IsCoreInside (record a { entries = entries; outputs = outputs })
room_keeps a entries outputs h is same =
    record {
      core = record {
        config = h.core.config;
        lawful = rw is h.core.lawful;
        fitting = rw is h.core.fitting;
        reached = rw is h.core.reached;
        bounded = rw is h.core.bounded;
      };
      pending = rw is h.pending;
      formed = h.formed;
      played = rw is (subst (λ (o : Outputs). IsPlayed o a.config.holds a.config.lanes a.config.depth (lane_steps a.entries.items) a.count) (sym same) h.played);
      inputs = rw is h.inputs;
      store = rw is h.store;
      session = rw is h.session;
      cursor = rw is h.cursor;
      limit = rw is h.limit;
    }

-- inputs that stand for the history stand for it with no step more
pub inputs-quiet : (a : Inside) → IsCoreInside a → InputsStandFor a.inputs a.config.edges (outputs_at a.config a.entries.items a.count) (input_steps a.entries.items ++ []) a.count
inputs-quiet a h = rw append-nil h.inputs

-- an entry that is no output and no reset leaves the outputs as they are
pub played-quiet : (a : Inside) (entry : Entry) → IsCoreInside a → lane_step entry.act ≡ None → IsPlayed a.outputs a.config.holds a.config.lanes a.config.depth (lane_steps (a.entries.items ++ entry ∷ [])) a.count
played-quiet a entry h quiet = rw (lane_steps-quiet a.entries.items entry quiet) h.played

-- the end of a session may stand at the counter
end-bound : (config : Config) (history : List Entry) (pending : Option Waiting) (how : Outcome) (counter : ℕ) → MayEnd pending how → counter ≤ top config history (option_map request_waiting pending) → counter ≤ end_top config history how
end-bound config history pending outcome.Horizon counter may le = omega (arith, le)
end-bound config history None outcome.Returned counter may le = le
end-bound config history None (outcome.Raised exc) counter may le = le
end-bound config history None outcome.Budget counter may le = le
end-bound config history (Some w) outcome.Returned counter may le = absurd (cc)
end-bound config history (Some w) (outcome.Raised exc) counter may le = absurd (cc)
end-bound config history (Some w) outcome.Budget counter may le = absurd (cc)

-- with no session open the counter may stand at the last entry
top-closed : (config : Config) (history : List Entry) (n : ℕ) → open_session history ≡ None → last_at history ≡ n → n ≤ config.horizon → n ≤ top config history None
top-closed config history n closed last le = rw (closed, last) (omega (arith, le))

-- in an open session it may stand where the limit reaches
pub top-open : (config : Config) (history : List Entry) (n : ℕ) (running : ℕ × ℕ) → open_session history ≡ Some running → 8 * n ≤ limit config.cost history → n ≤ config.horizon → n ≤ top config history None
top-open config history n running is far le = let reached : n ≤ limit config.cost history / 8 = omega (arith, far) in rw is (omega (arith, reached, le))

pub end_keeps : (a : Inside) (entries : Vec Entry Global) (who : ℕ) (how : Outcome) (cursor kept : ℤ) → IsCoreInside a → IsOpenFor who a.entries.items → MayEnd a.pending how → entries.items ≡ a.entries.items ++ record { chair = who; act = End how cursor a.count } ∷ [] → kept ≡ cursor → IsCoreInside (record a { entries = entries; pending = None; session = None; cursor = kept })
end_keeps a entries who how cursor kept h running may is same =
    let history : List Entry = a.entries.items in
    let entry : Entry = record { chair = who; act = End how cursor a.count } in
    let closed : open_session (history ++ entry ∷ []) ≡ None = fold-append _ _ history (entry ∷ []) in
    let last : last_at (history ++ entry ∷ []) ≡ a.count = fold-append _ _ history (entry ∷ []) in
    let within : a.count ≤ a.config.horizon = omega (arith, h.core.bounded) in
    entry_keeps a entries entry a.outputs a.inputs a.store None kept a.limit h
    (record {
      at = refl;
      played = played-quiet a entry h refl;
      stands = inputs-quiet a h;
      store_is = h.store ∙ sym (fold-append _ _ history (entry ∷ []));
      may = (running, h.core.reached, end-bound a.config history a.pending how a.count may h.core.bounded);
      fitting = tt;
      bounded = top-closed a.config (history ++ entry ∷ []) a.count closed last within;
      session_is = sym closed;
      cursor_is = same ∙ sym (fold-append _ _ history (entry ∷ []));
      limit_is = h.limit ∙ ap (λ n. min n (2 ^ 64 - 1)) (sym (fold-append _ _ history (entry ∷ [])));
    }) is

pub start_keeps : (a : Inside) (entries : Vec Entry Global) (who : ℕ) (of : StartOf) (session : Option (ℕ × ℕ)) (cursor : ℤ) (left : ℕ) → IsCoreInside a → a.session ≡ None → cursor ≡ a.cursor → entries.items ≡ a.entries.items ++ record { chair = who; act = Start of cursor a.count } ∷ [] → session ≡ Some (who, of.rid) → left ≡ 8 * a.count → IsCoreInside (record a { entries = entries; session = session; limit = left })
start_keeps a entries who of session cursor left h free same is running reading_is =
    let history : List Entry = a.entries.items in
    let entry : Entry = record { chair = who; act = Start of cursor a.count } in
    let closed : open_session history ≡ None = sym h.session ∙ free in
    let none : a.pending ≡ None = h.pending closed in
    let opened : open_session (history ++ entry ∷ []) ≡ Some (who, of.rid) = fold-append _ _ history (entry ∷ []) in
    let limited : limit a.config.cost (history ++ entry ∷ []) ≡ 8 * a.count = fold-append _ _ history (entry ∷ []) in
    let within : a.count ≤ a.config.horizon = omega (arith, h.core.bounded) in
    let horizon : a.config.horizon ≤ 576460752303423488 = horizon-most a.config h.core.config in
    let bounded : a.count ≤ top a.config history None = subst (λ (w : Option Waiting). a.count ≤ top a.config history (option_map request_waiting w)) none h.core.bounded in
    let kept : IsCoreInside (record a { entries = entries; pending = None; session = session; cursor = a.cursor; limit = left }) =
    entry_keeps a entries entry a.outputs a.inputs a.store session a.cursor left h
    (record {
      at = refl;
      played = played-quiet a entry h refl;
      stands = inputs-quiet a h;
      store_is = h.store ∙ sym (fold-append _ _ history (entry ∷ []));
      may = (closed, same ∙ h.cursor, h.core.reached, bounded);
      fitting = tt;
      bounded = top-open a.config (history ++ entry ∷ []) a.count (who, of.rid) opened (rw limited (omega arith)) within;
      session_is = running ∙ sym opened;
      cursor_is = h.cursor ∙ sym (fold-append _ _ history (entry ∷ []));
      limit_is = reading_is ∙ rw limited (omega (arith, within, horizon));
    }) is in
    subst (λ (w : Option Waiting). IsCoreInside (record a { entries = entries; pending = w; session = session; cursor = a.cursor; limit = left })) (sym none) kept
