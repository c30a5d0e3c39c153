-- What goes into threads may cross them: a kit may, and so the scheduler that keeps kits, and the desks.
use denote.Param.Send.{IsSend, sendable}
use Rattle.std.proofs.Crossing.{crosses}
use Rattle.core_image.proofs.verifying.Verified.TheSendSync as Verified
use Rattle.kern_syntax.proofs.expression.Argument.TheLaws.TheKnot as Argument
use Rattle.kern_syntax.proofs.expression.BinaryOperator.TheSendSync as BinaryOperator
use Rattle.kern_syntax.proofs.expression.Comparison.TheSendSync as Comparison
use Rattle.kern_syntax.proofs.expression.UnaryOperator.TheSendSync as UnaryOperator
use Rattle.kern_syntax.proofs.identifier.Identifier.TheSendSync as Identifier
use Rattle.kern_syntax.proofs.program.DeclaredType.TheSendSync as DeclaredType
use Rattle.kern_syntax.proofs.program.ParameterList.TheSendSync as ParameterList
use Rattle.kern_syntax.proofs.statement.Augment.TheSendSync as Augment
use Rattle.kern_syntax.proofs.statement.StmtKind.TheLaws.TheKnot as StmtKind
use Rattle.rtio_types.proofs.name.Name.TheSendSync as Name
use Rattle.std.proofs.option.Option.TheSendSync as Option
use Rattle.lab_kits.specs.contracts.kit.Kit as Kit

pub kit_send : IsSend Kit.the_row
kit_send = search (
  Verified.the_send,
  BinaryOperator.the_field_send,
  Comparison.the_field_send,
  UnaryOperator.the_field_send,
  Identifier.the_send,
  DeclaredType.the_send,
  ParameterList.the_send,
  Augment.the_field_send,
  Name.the_send,
  Option.the_field_send,
  Option.the_send,
  Argument.crosses,
  StmtKind.crosses,
  crosses,
  sendable,
) depth 60 fits 20000
