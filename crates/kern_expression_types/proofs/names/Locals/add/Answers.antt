use Rattle.std.proofs.Common.{◌++◌, [], ◌∷◌, ap, ◌∙◌, map}
use Rattle.std.proofs.lemmas.List.{map-append}
use Rattle.kern_expression_types.proofs.Pairs.{pair_of}
use Rattle.kern_expression_types.proofs.names.Locals.add.Goals as goal

pub returns : goal.returns
returns c =
    let before = c.self.inside.names.items in
    ap (map pair_of) c.push.ensures.items ∙ map-append pair_of before _ ∙ ap (λ pairs. pairs ++ (c.args.name.now, c.args.kind) ∷ []) c.self.view_is
