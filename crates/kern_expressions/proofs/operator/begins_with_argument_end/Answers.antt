use Rattle.std.proofs.Common.{sym, ◌∙◌, refl}
use Rattle.kern_expressions.specs.Passing.{argument_ended, ends_argument}
use Rattle.kern_expressions.proofs.Exits.{at_front}
use Rattle.kern_expressions.proofs.operator.begins_with_argument_end.Goals as goal

pub returns-in-len1-up : goal.returns-in-len1-up
returns-in-len1-up c =
    c.ends_argument.ensures c.args.tokens.text.now _ _
    ∙ sym (at_front argument_ended ends_argument c.args.tokens _ (λ s rest. refl) c.in-len1-up.len_at_least)
