use Rattle.std.proofs.Common.{refl}
use Rattle.rtio_core.proofs.Emptied.{played-cleared}
use Rattle.rtio_core.proofs.outputs.Outputs.clear.Goals as goal

pub returns-clause-ok : goal.returns-clause-ok
returns-clause-ok c = λ holds lanes depth steps h.
    played-cleared c.args.self.now holds c.clear.new.self c.clear.new.into c.log_all.new.log _ _ c.args.counter lanes depth steps h c.clear.ensures.after c.clear.ensures.moved c.log_all.ensures.lines refl
