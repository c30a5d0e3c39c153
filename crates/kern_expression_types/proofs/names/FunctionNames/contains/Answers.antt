use Rattle.std.proofs.Common.{ap, ◌∙◌}
use Rattle.kern_expression_types.specs.Before.{is_in}
use Rattle.kern_expression_types.proofs.Pairs.{found-among}
use Rattle.kern_expression_types.proofs.names.FunctionNames.contains.Goals as goal

pub returns-in-None : goal.returns-in-None
returns-in-None c =
    let x = c.args.name.now in
    c.is_some.ensures ∙ found-among c.first_named.result c.self.inside.functions.now x c.first_named.ensures ∙ ap (λ names. is_in names x) c.self.view_is
