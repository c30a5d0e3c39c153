use Rattle.std.proofs.Common.{rules, ◌≡◌, ap, ◌∙◌}
use Rattle.kern_expression_types.specs.Before.{with_member}
use Rattle.kern_expression_types.proofs.Named.{insert_key-names, names_of_keys}
use Rattle.kern_expression_types.proofs.names.NameList.add.Goals as goal

pub returns : goal.returns
returns c =
    let key = c.in_ok-from_slice.field-0 in
    let items : key.items ≡ c.args.name.now = search rules in
    ap names_of_keys c.in_ok-insert.ensures.keys ∙ insert_key-names c.self.inside.names.keys key ∙ ap (λ names. with_member names key.items) c.self.view_is ∙ ap (with_member c.args.self.now) items
