use Rattle.std.proofs.Common.{sym, ◌∙◌, refl}
use Rattle.kern_grammar.specs.Reading.{first_form, unary_at}
use Rattle.kern_expressions.proofs.Exits.{at_front}
use Rattle.kern_expressions.proofs.operator.prefix_at.Goals as goal

pub returns-in-len1-up : goal.returns-in-len1-up
returns-in-len1-up c =
    c.prefix_of_kind.ensures c.args.tokens.text.now _ _
    ∙ sym (at_front (first_form unary_at) unary_at c.args.tokens _ (λ s rest. refl) c.in-len1-up.len_at_least)
