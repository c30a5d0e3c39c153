use Rattle.std.proofs.Common.{sym, ap, ◌∙◌, refl}
use Rattle.kern_grammar.specs.Operators.{first_joiner, if_of_level, joiner_of}
use Rattle.kern_expressions.proofs.Exits.{at_front}
use Rattle.kern_expressions.proofs.operator.joiner_at.Goals as goal

pub returns-in-len1-up : goal.returns-in-len1-up
returns-in-len1-up c =
    c.of_level.ensures
    ∙ ap (if_of_level c.args.level) (c.joiner_of_kind.ensures c.args.tokens.text.now _ _)
    ∙ sym (at_front (first_joiner c.args.level) (λ s. if_of_level c.args.level (joiner_of s)) c.args.tokens _ (λ s rest. refl) c.in-len1-up.len_at_least)
