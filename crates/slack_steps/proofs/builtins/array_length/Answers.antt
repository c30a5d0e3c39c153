use Rattle.std.proofs.Common.{rules, ap, length, sym, ◌∙◌, FitsSigned}
use Rattle.std.specs.Prelude.{pos}
use Rattle.std.specs.Int.{w64}
use Rattle.std.proofs.lemmas.Int.{to_z-of_z}
use Rattle.kern_syntax.specs.TreeOf.{arguments_of}
use Rattle.kern_names.specs.ScopeOf.{scope_of}
use Rattle.slack_meaning.specs.Actions.{normal}
use Rattle.slack_meaning.specs.Expressions.{held_by, spans_in}
use Rattle.slack_meaning.specs.Spans.{exactly}
use Rattle.slack_steps.proofs.Datasets.{length_given, no_length}
use Rattle.slack_steps.proofs.builtins.array_length.Goals as goal

pub returns-in-Some : goal.returns-in-Some
returns-in-Some c =
    let s = c.args.state.now in
    let fits : FitsSigned w64 c.length_of.result = search rules in
    length_given (scope_of c.args.scope.now) (arguments_of c.args.arguments.now) s c.in-Some.array.now c.in-Some.ensures
    ∙ ap (λ span. normal span s)
    (sym (c.exactly.ensures
    ∙ ap exactly
    (to_z-of_z w64 c.length_of.result fits
    ∙ c.length_of.ensures
    ∙ ap (λ held. pos (length held)) (c.spans.ensures ∙ ap (λ x. spans_in (held_by s.values x)) c.bytes.ensures))))

pub returns-in-None : goal.returns-in-None
returns-in-None c =
    let s = c.args.state.now in
    no_length (scope_of c.args.scope.now) (arguments_of c.args.arguments.now) s c.in-None.ensures
    ∙ ap (λ span. normal span s) (sym c.exactly-in-None.ensures)
