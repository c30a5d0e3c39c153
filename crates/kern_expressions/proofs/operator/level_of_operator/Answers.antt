use Rattle.std.proofs.Common.{sym, ◌∙◌, refl}
use Rattle.kern_expressions.specs.Passing.{level_of_symbol, operator_level}
use Rattle.kern_expressions.proofs.Exits.{at_front}
use Rattle.kern_expressions.proofs.operator.level_of_operator.Goals as goal

pub returns-in-len1-up : goal.returns-in-len1-up
returns-in-len1-up c =
    c.level_of_kind.ensures c.args.tokens.text.now _ _
    ∙ sym (at_front operator_level level_of_symbol c.args.tokens _ (λ s rest. refl) c.in-len1-up.len_at_least)
