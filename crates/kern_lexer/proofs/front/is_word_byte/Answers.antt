use Rattle.std.proofs.Common.{not, nat_eq, get_or, refl, arith}
use Rattle.kern_lexer.specs.Bytes.{is_word_byte}
use Rattle.kern_lexer.specs.declared.front.TheConstants.{WORD_BYTES}
use Rattle.kern_lexer.proofs.ByteTable.{agree_below, agree_at}
use Rattle.kern_lexer.proofs.front.is_word_byte.Goals as goal

pub returns : goal.returns
unfolding agree_below
returns c = agree_at (λ b. not (nat_eq (get_or WORD_BYTES b 0) 44)) is_word_byte 256 refl c.args.b (omega arith)
