use Rattle.kern_expressions.proofs.Lexemes.{last_lexemes}
use Rattle.kern_grammar.proofs.SpelledLists.{last_spelled}
use Rattle.kern_expressions.proofs.tokens.Tokens.last.Goals as goal

pub invariant_of-result : goal.invariant_of-result
invariant_of-result c = record { spelled = last_spelled c.args.self.text.now c.args.self.list.now c.saturating_sub-start.result c.args.self.spelled }

pub returns : goal.returns
returns c = last_lexemes c.args.self.text.now c.args.self.list.now c.args.count c.saturating_sub-start.result c.saturating_sub-start.ensures
