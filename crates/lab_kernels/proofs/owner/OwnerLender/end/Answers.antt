use Rattle.std.proofs.Common.{refl}
use Rattle.std.proofs.lemmas.Result.{on_err_weaker}
use Rattle.std.specs.Int.{w64}
use Rattle.std.proofs.lemmas.Int.{to_z-of_z}
use Rattle.core_session.proofs.Lent.{ok-is}
use Rattle.lab_kernels.proofs.Owning.{ended-own, may-end-own, open-own, unended-own}
use Rattle.lab_kernels.proofs.owner.OwnerLender.end.Goals as goal

pub end-requires-clause-open : goal.end-requires-clause-open
end-requires-clause-open c = open-own c.args.self.now.who (c.args.core.now, c.args._sets.now) c.requires

pub end-requires-clause-waiting : goal.end-requires-clause-waiting
end-requires-clause-waiting c = may-end-own c.args.self.now.who (c.args.core.now, c.args._sets.now) c.args.outcome c.requires

pub returns-clause-ended : goal.returns-clause-ended
returns-clause-ended c =
    ok-is c.end.result _ _ (λ is. ended-own c.args.self.now.who (c.args.core.now, c.args._sets.now) (c.end.new.self, c.args._sets.now) c.args.outcome c.args.cursor _ (to_z-of_z w64 c.args.cursor c.ranges.cursor) is refl) c.end.ensures.ok

pub returns-clause-err : goal.returns-clause-err
returns-clause-err c =
    on_err_weaker c.end.result (λ same o asked is. unended-own c.args.self.now.who (c.args.core.now, c.args._sets.now) c.end.new.self same o asked is) c.end.ensures.err
