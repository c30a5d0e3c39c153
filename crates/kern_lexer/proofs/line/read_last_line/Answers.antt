use Rattle.std.proofs.Common.{arith, ap, length}
use Rattle.kern_lexer.proofs.TextLemmas.{comment-shorter}
use Rattle.kern_lexer.proofs.line.read_last_line.Goals as goal

pub read_line-requires : goal.read_line-requires
read_line-requires c = omega (arith, comment-shorter c.args.bytes.now, ap length c.without_comment.ensures)
