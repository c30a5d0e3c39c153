use Rattle.std.proofs.Common.{arith, ap, length}
use Rattle.kern_lexer.proofs.TextLemmas.{return-shorter, comment-shorter}
use Rattle.kern_lexer.proofs.line.read_ended_line.Goals as goal

pub read_line-requires : goal.read_line-requires
read_line-requires c =
    omega (arith, return-shorter c.args.bytes.now, comment-shorter c.without_return.result.now, ap length c.without_return.ensures, ap length c.without_comment.ensures)
