use Rattle.std.specs.Prelude.{[]}
use Rattle.output_merge.specs.Groups.{keepers}
use Rattle.output_merge.specs.Live.{live}
use Rattle.output_merge.proofs.Alone.{busy-have-holds, collisions-have-company}
use Rattle.rtio_core.specs.Entries.{judged_history}
use Rattle.rtio_core.proofs.Reasons.{have-reasons}
use Rattle.rtio_core.proofs.Settings.{ranges-of}
use Rattle.rtio_core.proofs.histories.no_error_comes_without_reason.Goals as goal

pub returns : goal.returns
returns c = record {
  outputs = λ config history ok lawful. have-reasons config [] history (ranges-of config ok) lawful;
  collisions = λ config history lawful. collisions-have-company (live (judged_history config history));
  busy = λ config history lawful. busy-have-holds config.holds (keepers (live (judged_history config history)));
}
