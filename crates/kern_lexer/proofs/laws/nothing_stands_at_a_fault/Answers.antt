use Rattle.std.proofs.Common.{subst}
use Rattle.kern_lexer.specs.Wrong.{IsWrong}
use Rattle.kern_lexer.proofs.OneCut.{not-wrong}
use Rattle.kern_lexer.proofs.laws.nothing_stands_at_a_fault.Goals as goal

pub returns : goal.returns
returns c text fault has p following is =
    not-wrong fault.kind has.pieces p following (subst (IsWrong fault.kind has.pieces) is has.wrong)
