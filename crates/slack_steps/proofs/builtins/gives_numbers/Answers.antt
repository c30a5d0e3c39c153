use Rattle.std.proofs.Common.{ap, sym, ◌∙◌}
use Rattle.kern_syntax.specs.TreeOf.{arguments_of}
use Rattle.kern_names.specs.ScopeOf.{scope_of}
use Rattle.slack_meaning.specs.Actions.{normal}
use Rattle.slack_meaning.specs.Expressions.{are_numbers, held_by}
use Rattle.slack_steps.proofs.Datasets.{array_gives_numbers, value_gives_numbers}
use Rattle.slack_steps.proofs.builtins.gives_numbers.Goals as goal

pub returns-in-Some : goal.returns-in-Some
returns-in-Some c =
    let s = c.args.state.now in
    array_gives_numbers (scope_of c.args.scope.now) (arguments_of c.args.arguments.now) c.args.span s c.in-Some.array.now c.in-Some.ensures
    ∙ ap (λ b. normal b s) (sym (c.holds_numbers.ensures ∙ ap (λ x. are_numbers (held_by s.values x)) c.bytes.ensures))

pub returns-in-None : goal.returns-in-None
returns-in-None c =
    let s = c.args.state.now in
    value_gives_numbers (scope_of c.args.scope.now) (arguments_of c.args.arguments.now) c.args.span s c.in-None.ensures
    ∙ ap (λ b. normal b s) (sym c.is_number.ensures)
