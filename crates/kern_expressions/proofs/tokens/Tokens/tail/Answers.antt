use Rattle.kern_grammar.proofs.SpelledLists.{tail_spelled}
use Rattle.kern_expressions.proofs.tokens.Tokens.tail.Goals as goal

pub invariant_of-result : goal.invariant_of-result
invariant_of-result c = record { spelled = tail_spelled c.args.self.text.now c.args.self.list.now c.in-len1-up.len_at_least c.args.self.spelled }
