use Rattle.kern_lexer.proofs.Uniqueness.{one-list}
use Rattle.kern_lexer.proofs.laws.one_token_list.Goals as goal

pub returns : goal.returns
returns c = one-list
