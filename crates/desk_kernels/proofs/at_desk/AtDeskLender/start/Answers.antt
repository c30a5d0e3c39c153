use Rattle.std.proofs.lemmas.Result.{IfOk-weaker, on_err_weaker}
use Rattle.desk_kernels.proofs.Lending.{started-seen}
use Rattle.desk_kernels.proofs.at_desk.AtDeskLender.start.Goals as goal

pub start-requires : goal.start-requires
start-requires g c = record { at = c.requires.0 }

pub returns-clause-started : goal.returns-clause-started
returns-clause-started g c =
    IfOk-weaker c.start.result _ _
    (λ cursor begun. (started-seen c.args.self.now.desk.now (c.args.chair.now, c.args._sets.now) (c.start.new.chair, c.args._sets.now) c.args.of cursor begun, c.requires.1))
    c.start.ensures.started

pub returns-clause-err : goal.returns-clause-err
returns-clause-err g c = on_err_weaker c.start.result (λ own. (own, c.start.ensures.goes)) c.start.ensures.err
