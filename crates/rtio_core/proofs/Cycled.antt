-- What one cycle more does to a core.
use Rattle.std.proofs.Common.{◌≡◌, ◌+◌, ◌<◌, ◌≤◌, ℕ, List, ◌++◌, drop, length, length-append, true, ap, sym, subst, ◌∙◌, arith}
use Rattle.std.proofs.Math.Seq.{drop-append_seam}
use Rattle.rtio_types.specs.declared.event.Edge.{Edge}
use Rattle.rtio_types.specs.declared.event.Event.{Event}
use Rattle.rtio_input.specs.Calls.{are_of_cycle}
use Rattle.rtio_input.specs.Channel.{InputsState}
use Rattle.rtio_input.specs.Past.{InputStep, InputsStandFor}
use Rattle.rtio_core.specs.declared.one_core.Core.TheInside.{Inside}
use Rattle.rtio_core.specs.declared.outputs.Outputs.{Outputs}
use Rattle.rtio_core.specs.Core.{CoreState, core_top}
use Rattle.rtio_core.specs.Entries.{input_steps, lane_steps}
use Rattle.rtio_core.specs.Fields.{IsCoreInside, core_state}
use Rattle.rtio_core.specs.Played.{IsPlayed}
use Rattle.rtio_core.specs.Reply.{outputs_at}
use Rattle.rtio_core.proofs.Edges.{next-of-cycle, next_outputs, outputs-grow}

-- what was put out grows by the events of the cycle
put-out-grows : (a : Inside) (outputs : Outputs) → IsCoreInside a → IsPlayed outputs a.config.holds a.config.lanes a.config.depth (lane_steps a.entries.items) (a.count + 1) → outputs.put_out.items ≡ a.outputs.put_out.items ++ next_outputs a.config a.entries.items a.count
put-out-grows a outputs h played =
    played.put_out ∙ outputs-grow a.config a.entries.items a.count ∙ ap (λ (events : List Event). events ++ next_outputs a.config a.entries.items a.count) (sym h.played.put_out)

pub put-out-longer : (a : Inside) (outputs : Outputs) → IsCoreInside a → IsPlayed outputs a.config.holds a.config.lanes a.config.depth (lane_steps a.entries.items) (a.count + 1) → length a.outputs.put_out.items ≤ length outputs.put_out.items
put-out-longer a outputs h played =
    let long : length outputs.put_out.items ≡ length a.outputs.put_out.items + length (next_outputs a.config a.entries.items a.count) = simp length-append at (ap (λ (events : List Event). length events) (put-out-grows a outputs h played)) in
    omega (arith, long)

-- behind what was put out before it stand just these
pub put-out-behind : (a : Inside) (outputs : Outputs) (count : ℕ) → IsCoreInside a → IsPlayed outputs a.config.holds a.config.lanes a.config.depth (lane_steps a.entries.items) (a.count + 1) → count ≡ length a.outputs.put_out.items → drop count outputs.put_out.items ≡ next_outputs a.config a.entries.items a.count
put-out-behind a outputs count h played is =
    ap (λ (n : ℕ). drop n outputs.put_out.items) is ∙ ap (drop (length a.outputs.put_out.items)) (put-out-grows a outputs h played)
    ∙ drop-append_seam a.outputs.put_out.items (next_outputs a.config a.entries.items a.count)

pub put-out-of-cycle : (a : Inside) (outputs : Outputs) (count : ℕ) (kept : List Event) → IsCoreInside a → IsPlayed outputs a.config.holds a.config.lanes a.config.depth (lane_steps a.entries.items) (a.count + 1) → count ≡ length a.outputs.put_out.items → kept ≡ drop count outputs.put_out.items → are_of_cycle (a.count + 1) kept ≡ true
put-out-of-cycle a outputs count kept h played counted is =
    ap (are_of_cycle (a.count + 1)) (is ∙ put-out-behind a outputs count h played counted) ∙ next-of-cycle a.config a.entries.items a.count

-- each part is what the history makes of it at the next counter
pub tick_keeps : (a : Inside) (s : CoreState) (outputs : Outputs) (inputs : InputsState) (count : ℕ) (kept : List Event) → core_state a ≡ s → IsCoreInside a → s.counter < core_top s → IsPlayed outputs a.config.holds a.config.lanes a.config.depth (lane_steps a.entries.items) (a.count + 1) → count ≡ length a.outputs.put_out.items → kept ≡ drop count outputs.put_out.items → ((script : List Edge) (events : List Event) (steps : List InputStep) (counter : ℕ) → counter < a.count + 1 → InputsStandFor a.inputs script events steps counter → InputsStandFor inputs script (events ++ kept) steps (a.count + 1)) → IsCoreInside (record a { count = a.count + 1; outputs = outputs; inputs = inputs })
tick_keeps a s outputs inputs count kept see h below played counted is stands =
    let later : a.count < core_top (core_state a) = subst (λ (x : CoreState). x.counter < core_top x) (sym see) below in
    let events : outputs_at a.config a.entries.items a.count ++ kept ≡ outputs_at a.config a.entries.items (a.count + 1) =
    ap (λ (more : List Event). outputs_at a.config a.entries.items a.count ++ more) (is ∙ put-out-behind a outputs count h played counted) ∙ sym (outputs-grow a.config a.entries.items a.count) in
    record {
      core = record {
        config = h.core.config;
        lawful = h.core.lawful;
        fitting = h.core.fitting;
        reached = omega (arith, h.core.reached);
        bounded = omega (arith, later);
      };
      pending = h.pending;
      formed = h.formed;
      played = played;
      inputs = subst (λ (es : List Event). InputsStandFor inputs a.config.edges es (input_steps a.entries.items) (a.count + 1)) events (stands _ _ _ a.count (omega arith) h.inputs);
      store = h.store;
      session = h.session;
      cursor = h.cursor;
      limit = h.limit;
    }
