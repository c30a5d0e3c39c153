-- What a reset does to what a core keeps of its outputs.
use Rattle.std.proofs.Common.{◌≡◌, ◌≤◌, ℕ, List, [], ◌∷◌, ◌++◌, length, ap, sym, subst, ◌∙◌, arith}
use Rattle.std.specs.Prelude.{nat_le}
use Rattle.std.specs.List.{list_all}
use Rattle.rtio_types.specs.declared.event.Event.{Event}
use Rattle.rtio_types.specs.Time.{cycle_of}
use Rattle.rtio_log.specs.Lines.{LogState}
use Rattle.rtio_log.specs.declared.LogLine.{LogLine}
use Rattle.rtio_log.specs.declared.LogKind.TheVariants as kind
use Rattle.sed_lanes.specs.Heads.{HeadsState, by_number, is_earlier}
use Rattle.sed_lanes.specs.Judged.{Judged, LaneStep, Clear, Cleared, judged, lanes_after, next_number}
use Rattle.sed_lanes.specs.Lanes.{LanesState, empty_lanes, held_events}
use Rattle.sed_lanes.specs.Peaks.{peaks_of}
use Rattle.sed_lanes.proofs.Growing.{never-fall-push}
use Rattle.sed_lanes.proofs.Histories.{judged-clear, since_clearing-cleared}
use Rattle.sed_lanes.proofs.Numbers.{next-number-cleared}
use Rattle.sed_lanes.proofs.Peaks.{peaks-cleared}
use Rattle.sed_lanes.proofs.Since.{length-lanes_after}
use Rattle.sed_lanes.proofs.Unplaced.{lanes_after-nothing}
use Rattle.output_merge.specs.Live.{greatest_cycle, live}
use Rattle.output_merge.specs.Outputs.{logged, outputs, put_out_by, up_to}
use Rattle.output_merge.specs.Sieve.{holds_after}
use Rattle.output_merge.proofs.Greatest.{greatest-cleared, greatest-part}
use Rattle.output_merge.proofs.LiveHeld.{cleared-cleared}
use Rattle.output_merge.proofs.Parts.{live-up_to-cleared, outputs-same, put_out-same}
use Rattle.output_merge.proofs.Steps.{out_of_sequence-cleared}
use Rattle.output_merge.proofs.Ticks.{length-sorted}
use Rattle.rtio_core.specs.declared.outputs.Outputs.{Outputs}
use Rattle.rtio_core.specs.Lines.{lines_for}
use Rattle.rtio_core.specs.LogOrder.{log_lines}
use Rattle.rtio_core.specs.Played.{IsPlayed}
use Rattle.rtio_core.specs.Told.{TellsLog}
use Rattle.rtio_core.proofs.LogLines.{tells-cleared}
use Rattle.rtio_core.proofs.LogOrder.{lines-cleared, tells-live}
use Rattle.rtio_core.proofs.Made.{held-none}

-- sorted by number they are as many
pub length-by_number : (pairs : List (ℕ × Event)) → length (by_number pairs) ≡ length pairs
length-by_number pairs = length-sorted is_earlier pairs

-- the held events are logged, and the lanes are empty
pub played-cleared : (o : Outputs) (holds : List ℕ) (left : LanesState) (cleared : HeadsState) (log : LogState) (greatest next counter lanes depth : ℕ) (steps : List LaneStep) → IsPlayed o holds lanes depth steps counter → left ≡ empty_lanes (length o.lanes.lanes) o.lanes.depth → cleared.items ≡ by_number (held_events o.lanes) → log.lines ≡ o.log.lines ++ lines_for kind.Cleared cleared.items → greatest ≡ o.reached → IsPlayed (record o { lanes = left; log = log; greatest = greatest; next = next }) holds lanes depth (steps ++ Clear counter ∷ []) counter
played-cleared o holds left cleared log greatest next counter lanes depth steps h after moved logs falls =
    let old : List Judged = judged lanes depth steps in
    let new : List Judged = old ++ Cleared counter ∷ [] in
    let grows : new ≡ judged lanes depth (steps ++ Clear counter ∷ []) = sym (judged-clear lanes depth steps counter) in
    let long : length o.lanes.lanes ≡ lanes = ap (λ (s : LanesState). length s.lanes) h.standing ∙ length-lanes_after lanes depth old counter in
    let deep : o.lanes.depth ≡ depth = ap (λ (s : LanesState). s.depth) h.standing in
    let empty : left ≡ empty_lanes lanes depth = after ∙ ap (λ (n : ℕ). empty_lanes n o.lanes.depth) long ∙ ap (empty_lanes lanes) deep in
    let nothing : held_events left ≡ [] = ap (λ (s : LanesState). held_events s) empty ∙ held-none lanes depth in
    let held : length (held_events left) ≡ 0 = ap (λ (s : LanesState). length (held_events s)) empty ∙ ap (λ (ps : List (ℕ × Event)). length ps) (held-none lanes depth) in
    let there : cleared.items ≡ by_number (held_events (lanes_after lanes depth old counter)) = moved ∙ ap (λ (s : LanesState). by_number (held_events s)) h.standing in
    let settled : up_to counter (live new) ≡ up_to counter (live old) = live-up_to-cleared old counter counter (omega arith) in
    let same = tells-live holds old new counter settled in
    let part : greatest ≤ o.greatest = rw (falls, h.reached, h.greatest) (greatest-part counter (live old)) in
    record {
      lanes_least = h.lanes_least;
      lanes_most = h.lanes_most;
      depth_least = h.depth_least;
      in_time = never-fall-push 0 steps (Clear counter) counter h.in_time (omega arith);
      standing = empty ∙ sym (lanes_after-nothing lanes depth new counter (since_clearing-cleared old counter)) ∙ ap (λ (j : List Judged). lanes_after lanes depth j counter) grows;
      put_out = h.put_out ∙ sym (outputs-same holds new old counter settled) ∙ ap (λ (j : List Judged). outputs holds j counter) grows;
      holds_are = h.holds_are ∙ ap (holds_after holds) (sym (put_out-same holds new old counter settled)) ∙ ap (λ (j : List Judged). holds_after holds (put_out_by holds j counter)) grows;
      log = subst (λ (j : List Judged). TellsLog (logged holds j counter) log.lines) grows
          (subst (TellsLog (logged holds new counter)) (sym logs)
          (tells-cleared (logged holds old counter) (logged holds new counter) o.log.lines cleared.items h.log
          (out_of_sequence-cleared old counter) same.collided same.busy
          (cleared-cleared lanes depth steps counter h.lanes_least h.in_time ∙ ap (λ (ps : List (ℕ × Event)). (logged holds old counter).cleared ++ ps) (sym there))));
      lines = logs ∙ ap (λ (ls : List LogLine). ls ++ lines_for kind.Cleared cleared.items) h.lines
          ∙ ap (λ (ps : List (ℕ × Event)). log_lines holds old counter ++ lines_for kind.Cleared ps) there
          ∙ sym (lines-cleared holds lanes depth steps counter h.lanes_least h.in_time) ∙ ap (λ (j : List Judged). log_lines holds j counter) grows;
      peaks = h.peaks ∙ sym (peaks-cleared lanes old counter) ∙ ap (peaks_of lanes) grows;
      number = h.number ∙ sym (next-number-cleared old counter) ∙ ap next_number grows;
      greatest = falls ∙ h.reached ∙ sym (greatest-cleared old counter) ∙ ap (λ (j : List Judged). greatest_cycle (live j)) grows;
      reached = h.reached ∙ ap greatest_cycle (sym settled) ∙ ap (λ (j : List Judged). greatest_cycle (up_to counter (live j))) grows;
      small = omega (arith, part, h.small);
      next = ap (list_all (λ (p : ℕ × Event). nat_le next (cycle_of p.1))) nothing;
      output_room = omega (arith, held, h.output_room);
      log_room = omega (arith, held);
      heads = h.heads;
      kept = h.kept;
      collided = h.collided;
      busy = h.busy;
    }
