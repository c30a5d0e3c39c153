use Rattle.std.proofs.Common.{sym, arith, inr}
use Rattle.trace_fates.proofs.Marking.{marked_there, others_stay}
use Rattle.trace_fates.proofs.naming.mark.Goals as goal

pub returns-then-place-outputs-clause-outputs : goal.returns-then-place-outputs-clause-outputs
returns-then-place-outputs-clause-outputs c =
    (marked_there c.args.fate (c.args.line.number, c.args.line.event) _ _ c.args.outputs.now c.requires c.if-place-outputs.true c.marked.ensures).0

pub returns-then-place-outputs-clause-numbers : goal.returns-then-place-outputs-clause-numbers
returns-then-place-outputs-clause-numbers c =
    (marked_there c.args.fate (c.args.line.number, c.args.line.event) _ _ c.args.outputs.now c.requires c.if-place-outputs.true c.marked.ensures).1

pub returns-else-place-outputs-clause-outputs : goal.returns-else-place-outputs-clause-outputs
returns-else-place-outputs-clause-outputs c =
    sym (others_stay c.args.fate (c.args.line.number, c.args.line.event) 0 c.args.outputs.now c.requires (inr (omega (arith, c.if-place-outputs.false))))
