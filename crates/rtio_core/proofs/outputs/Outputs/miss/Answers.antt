use Rattle.std.proofs.Common.{refl}
use Rattle.rtio_core.proofs.Submitted.{played-missed}
use Rattle.rtio_core.proofs.outputs.Outputs.miss.Goals as goal

pub returns : goal.returns
returns c = λ holds lanes depth steps h. played-missed c.args.self.now holds lanes depth steps c.args.counter c.args.event _ h c.requires.late refl
