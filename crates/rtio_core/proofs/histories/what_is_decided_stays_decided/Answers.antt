use Rattle.rtio_core.proofs.Settings.{ranges-of}
use Rattle.rtio_core.proofs.Tops.{decided-later}
use Rattle.rtio_core.proofs.histories.what_is_decided_stays_decided.Goals as goal

pub returns : goal.returns
returns c = λ config history request from to ok lawful last le decided.
    decided-later config history request from to (ranges-of config ok).edges lawful last le decided
