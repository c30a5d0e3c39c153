use Rattle.std.proofs.Common.{◌∙◌, refl}
use Rattle.kern_grammar.specs.Reading.{first_form, not_at}
use Rattle.kern_expressions.proofs.Exits.{at_front}
use Rattle.kern_expressions.proofs.operator.begins_with_not.Goals as goal

pub returns-in-len1-up : goal.returns-in-len1-up
returns-in-len1-up c =
    at_front (first_form not_at) not_at c.args.tokens _ (λ s rest. refl) c.in-len1-up.len_at_least
    ∙ c.is_not.ensures c.args.tokens.text.now _ _
