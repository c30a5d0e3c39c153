use Rattle.std.proofs.Common.{refl}
use Rattle.std.proofs.lemmas.Result.{IfOk-weaker, on_err_weaker}
use Rattle.std.specs.Int.{w64}
use Rattle.std.proofs.lemmas.Int.{to_z-of_z}
use Rattle.desk_kernels.proofs.Lending.{ended-at, open-at, ready-at, seen-still}
use Rattle.desk_kernels.proofs.at_desk.AtDeskLender.end.Goals as goal

pub end-requires-clause-ready : goal.end-requires-clause-ready
end-requires-clause-ready g c = ready-at c.args.self.now.desk.now (c.args.chair.now, c.args._sets.now) c.requires

pub end-requires-clause-open : goal.end-requires-clause-open
end-requires-clause-open g c = open-at c.args.self.now.desk.now (c.args.chair.now, c.args._sets.now) c.requires

pub returns-clause-ended : goal.returns-clause-ended
returns-clause-ended g c =
    IfOk-weaker c.end.result _ _
    (λ done put. ended-at c.args.self.now.desk.now (c.args.chair.now, c.args._sets.now) (c.end.new.chair, c.args._sets.now) c.end.ensures.goes c.args.outcome c.args.cursor _ (to_z-of_z w64 c.args.cursor c.ranges.cursor) put refl)
    c.end.ensures.ended

pub returns-clause-err : goal.returns-clause-err
returns-clause-err g c =
    on_err_weaker c.end.result
    (λ same o asked is. (seen-still c.args.self.now.desk.now (c.args.chair.now, c.args._sets.now) (c.end.new.chair, c.args._sets.now) c.end.ensures.goes same o asked is.0, is.1))
    c.end.ensures.err
