use Rattle.std.proofs.Common.{◌++◌, ℕ, List, [], ap, sym, ◌∙◌, string_bytes}
use Rattle.std.specs.Option.{option_copied}
use Rattle.std.specs.Prelude.{slice_get}
use Rattle.std.proofs.lemmas.Option.{same_Some}
use Rattle.dma_store.specs.Kept.{KeptState}
use Rattle.rtio_types.specs.Recordings.{Recorded}
use Rattle.rtio_core.specs.Entries.{kept_after}
use Rattle.sim_report.specs.Recordings.{recording_line}
use Rattle.sim_report.proofs.Distinct.{entry-at}
use Rattle.sim_report.proofs.Joined.{lines-more}
use Rattle.sim_report.proofs.recordings.dma_lines.Goals as goal

pub read-requires : goal.read-requires
read-requires c =
    let named = sym (ap option_copied c.unwrap-name.ensures) ∙ c.name_at.ensures in
    let entry = entry-at c.args.core.now.config c.args.core.now.history c.store-store.result.now c.loop-position.position c.unwrap-name.result.now c.store-store.ensures c.history-known.ensures.core.config named in
    (entry.recording, entry.found)

pub loop-position-preserved : goal.loop-position-preserved
loop-position-preserved c =
    let named = sym (ap option_copied c.unwrap-name.ensures) ∙ c.name_at.ensures in
    let entry = entry-at c.args.core.now.config c.args.core.now.history c.store-store.result.now c.loop-position.position c.unwrap-name.result.now c.store-store.ensures c.history-known.ensures.core.config named in
    let name : List ℕ = c.unwrap-name.result.now in
    let same = same_Some c.in_ok-recording.recording entry.recording (sym c.in_ok-recording.ensures.value ∙ entry.found) in
    c.in_ok-write_recording.ensures
    ∙ ap (λ (r : Recorded). string_bytes c.loop-position.text ++ recording_line (name, r)) same
    ∙ ap (λ (t : List ℕ). t ++ recording_line (name, entry.recording)) c.loop-position.invariant
    ∙ lines-more recording_line [] (kept_after c.args.core.now.config c.args.core.now.history).entries c.loop-position.position (name, entry.recording) (ap (λ (k : KeptState). slice_get k.entries c.loop-position.position) (sym c.store-store.ensures) ∙ entry.at)
