-- The parts of a new core.
use Rattle.std.proofs.Common.{◌≡◌, ◌≤◌, ℕ, zero, suc, ◌+◌, List, [], ◌∷◌, map, replicate, refl, sym, ◌∙◌, ap, arith, length}
use Rattle.std.specs.Prelude.{IsTrue, None, Vec, nat_le, pos, vec_len}
use Rattle.std.proofs.Common.{lit<}
use Rattle.std.specs.declared.alloc.Global.{Global}
use Rattle.std.specs.List.{list_all, range_with_len}
use Rattle.rtio_types.specs.declared.event.Event.{Event}
use Rattle.rtio_types.specs.Time.{cycle_of}
use Rattle.sed_lanes.specs.Lanes.{LanesState, empty_lanes, held_events}
use Rattle.rtio_input.specs.Channel.{InputsState}
use Rattle.rtio_input.specs.Past.{InputsStandFor}
use Rattle.dma_store.specs.Kept.{KeptState}
use Rattle.output_merge.specs.Sieve.{holds_after}
use Rattle.rtio_core.specs.Handed.{kept_of}
use Rattle.rtio_core.specs.declared.data.Config.{Config}
use Rattle.rtio_core.specs.declared.data.Entry.{Entry}
use Rattle.rtio_core.specs.Entries.{is_config_ok}
use Rattle.sed_lanes.proofs.Unplaced.{lanes_after-nothing}
use Rattle.rtio_core.specs.declared.outputs.Outputs.{Outputs}
use Rattle.rtio_core.specs.Played.{IsPlayed}
use Rattle.rtio_core.specs.Fields.{IsCoreInside}

peaks-none : (from lanes : ℕ) → map {B = ℕ} (λ k. 0) (range_with_len from lanes) ≡ replicate lanes 0
peaks-none from zero = refl
peaks-none from (suc lanes) = ap (λ ps. 0 ∷ ps) (peaks-none (from + 1) lanes)

pub held-none : (lanes depth : ℕ) → held_events (empty_lanes lanes depth) ≡ []
held-none zero depth = refl
held-none (suc lanes) depth = held-none lanes depth

-- outputs without any step
pub played-new : (holds : List ℕ) (lanes depth : ℕ) (o : Outputs) → 1 ≤ lanes → lanes ≤ 32 → 1 ≤ depth → o.lanes ≡ empty_lanes lanes depth → o.log ≡ record { lines = []; room = 0 } → o.holds ≡ holds_after holds [] → o.put_out.items ≡ [] → vec_len o.put_out ≡ 0 → o.peaks.items ≡ replicate lanes 0 → o.number ≡ 0 → o.greatest ≡ 0 → o.reached ≡ 0 → o.heads ≡ record { items = []; room = 32 } → o.kept ≡ record { items = []; room = 32 } → o.collided ≡ record { items = []; room = 32 } → o.busy ≡ record { items = []; room = 32 } → IsPlayed o holds lanes depth [] 0
played-new holds lanes depth o some few deep is_empty no_lines no_hold no_output short zeros no_number no_greatest no_reached is_heads is_kept is_collided is_busy =
    let nothing : held_events o.lanes ≡ [] = ap (λ (l : LanesState). held_events l) is_empty ∙ held-none lanes depth in
    let held : length (held_events o.lanes) ≡ 0 = rw (is_empty, held-none lanes depth) refl in
    record {
      lanes_least = some;
      lanes_most = few;
      depth_least = deep;
      in_time = omega arith;
      standing = is_empty ∙ sym (lanes_after-nothing lanes depth [] 0 refl);
      put_out = no_output;
      holds_are = no_hold;
      log = rw no_lines (record { sequence = refl; collided = refl; busy = refl; cleared = refl });
      lines = rw no_lines refl;
      peaks = zeros ∙ sym (peaks-none 0 lanes);
      number = no_number;
      greatest = no_greatest;
      reached = no_reached;
      small = rw no_greatest (lit< tt);
      next = ap (list_all (λ (p : ℕ × Event). nat_le o.next (cycle_of p.1))) nothing;
      output_room = rw held (omega (arith, short));
      log_room = rw held (omega arith);
      heads = is_heads;
      kept = is_kept;
      collided = is_collided;
      busy = is_busy;
    }

-- what `new` makes is what an empty history makes of it
pub new_keeps : (config : Config) (entries : Vec Entry Global) (outputs : Outputs) (inputs : InputsState) (store : KeptState) → IsTrue (is_config_ok config) → entries.items ≡ [] → IsPlayed outputs config.holds config.lanes config.depth [] 0 → InputsStandFor inputs config.edges [] [] 0 → store ≡ kept_of config.kept → IsCoreInside (record { config = config; entries = entries; count = 0; pending = None; outputs = outputs; inputs = inputs; store = store; session = None; cursor = pos 0; limit = 0 })
new_keeps config entries outputs inputs store ok none played stands kept =
    record {
      core = record {
        config = ok;
        lawful = rw none tt;
        fitting = rw none tt;
        reached = rw none (omega arith);
        bounded = omega arith;
      };
      pending = λ _. refl;
      formed = refl;
      played = rw none played;
      inputs = rw none stands;
      store = rw none kept;
      session = rw none refl;
      cursor = rw none refl;
      limit = rw none refl;
    }
