use Rattle.std.proofs.Common.{sym, ◌∙◌, refl}
use Rattle.kern_grammar.specs.Operators.{comparison_of}
use Rattle.kern_grammar.specs.Reading.{first_comparison}
use Rattle.kern_expressions.proofs.Exits.{at_front}
use Rattle.kern_expressions.proofs.operator.comparison_at.Goals as goal

pub returns-in-len1-up : goal.returns-in-len1-up
returns-in-len1-up c =
    c.comparison_of_kind.ensures c.args.tokens.text.now _ _
    ∙ sym (at_front first_comparison comparison_of c.args.tokens _ (λ s rest. refl) c.in-len1-up.len_at_least)
