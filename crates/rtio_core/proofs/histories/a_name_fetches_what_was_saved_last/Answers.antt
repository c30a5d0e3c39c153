use Rattle.std.proofs.Common.{ap}
use Rattle.std.specs.Prelude.{Some}
use Rattle.rtio_types.specs.declared.request.Reply.TheVariants as answer
use Rattle.rtio_core.specs.Recordings.{trace_or}
use Rattle.rtio_core.proofs.LastSaved.{has-last}
use Rattle.rtio_core.proofs.histories.a_name_fetches_what_was_saved_last.Goals as goal

pub returns : goal.returns
returns c = λ config history name counter. ap (λ found. Some (trace_or answer.NoTrace found)) (has-last config history name)
