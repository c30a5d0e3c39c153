use Rattle.std.proofs.lemmas.Result.{IfOk-weaker, on_err_weaker}
use Rattle.lab_kernels.proofs.Owning.{started-own}
use Rattle.lab_kernels.proofs.owner.OwnerLender.start.Goals as goal

pub returns-clause-started : goal.returns-clause-started
returns-clause-started c =
    started-own c.args.self.now.who (c.args.core.now, c.args._sets.now) c.start_free.new.core c.args.of c.start_free.result c.requires.1 c.start_free.ensures.cursor c.start_free.ensures.ok
