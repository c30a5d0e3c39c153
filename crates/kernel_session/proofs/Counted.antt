-- Outputs and resets alone count for what is put out.
use Rattle.std.proofs.Common.{◌≡◌, List, ◌∷◌, ◌++◌, Option, None, ap, ◌∙◌, sym}
use Rattle.std.specs.List.{cons_option}
use Rattle.std.proofs.lemmas.List.Elements.{filter_map-append}
use Rattle.sed_lanes.specs.Judged.{Judged, LaneStep, judged, lanes_after}
use Rattle.sed_lanes.specs.Verdict.{verdict}
use Rattle.output_merge.specs.Outputs.{logged, outputs}
use Rattle.rtio_core.specs.declared.data.Config.{Config}
use Rattle.rtio_core.specs.declared.data.Entry.{Entry}
use Rattle.rtio_core.specs.Entries.{judged_history, lane_step, lane_steps}
use Rattle.rtio_core.specs.LogOrder.{log_lines}
use Rattle.kernel_session.specs.Counted.{OutputsAndResetsCount, PutsOutTheSame}

same_put_out : (config : Config) (one other : List Entry) → lane_steps one ≡ lane_steps other → PutsOutTheSame config one other
same_put_out config one other steps =
    let same : judged_history config one ≡ judged_history config other = ap (λ (s : List LaneStep). judged config.lanes config.depth s) steps in
    record {
      verdicts = λ e counter. ap (λ (j : List Judged). verdict (lanes_after config.lanes config.depth j counter) e counter) same;
      outputs = λ counter. ap (λ (j : List Judged). outputs config.holds j counter) same;
      log = λ counter. ap (λ (j : List Judged). logged config.holds j counter) same;
      lines = λ counter. ap (λ (j : List Judged). log_lines config.holds j counter) same;
    }

-- an entry that is nothing to the lanes
without_it : (front : List Entry) (entry : Entry) (back : List Entry) → lane_step entry.act ≡ None → lane_steps (front ++ entry ∷ back) ≡ lane_steps (front ++ back)
without_it front entry back nothing =
    filter_map-append (λ (entry : Entry). lane_step entry.act) front (entry ∷ back)
    ∙ ap (λ (o : Option LaneStep). lane_steps front ++ cons_option o (lane_steps back)) nothing
    ∙ sym (filter_map-append (λ (entry : Entry). lane_step entry.act) front back)

pub outputs_and_resets_count : (config : Config) → OutputsAndResetsCount config
outputs_and_resets_count config = record {
  same = same_put_out config;
  others = λ front entry back nothing. same_put_out config (front ++ entry ∷ back) (front ++ back) (without_it front entry back nothing);
}
