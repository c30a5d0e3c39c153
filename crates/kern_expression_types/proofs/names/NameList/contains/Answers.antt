use Rattle.std.proofs.Common.{ap, ◌∙◌}
use Rattle.kern_expression_types.specs.Before.{is_in}
use Rattle.kern_expression_types.proofs.Named.{list_any-names}
use Rattle.kern_expression_types.proofs.names.NameList.contains.Goals as goal

pub returns : goal.returns
returns c =
    c.contains.ensures ∙ list_any-names c.args.name.now c.self.inside.names.keys ∙ ap (λ names. is_in names c.args.name.now) c.self.view_is
