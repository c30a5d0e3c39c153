use Rattle.std.proofs.Common.{rules, ◌≡◌, ap, ◌∙◌}
use Rattle.kern_expression_types.specs.Before.{with_member}
use Rattle.kern_expression_types.proofs.Named.{insert_key-names, names_of_keys}
use Rattle.core_code_names.proofs.Named.{inserted_named}
use Rattle.core_code_names.proofs.texts.Texts.add.Goals as goal

pub invariant_of-self-2 : goal.invariant_of-self-2
invariant_of-self-2 c =
    let key = c.in_ok-from_slice.field-0 in
    let items : key.items ≡ c.bytes.result.now = search rules in
    inserted_named c.self.inside.texts.keys c.insert.new.self.keys key c.bytes.result.now c.self.invariant items c.bytes.ensures.formed c.in_ok-insert.ensures.keys

pub returns : goal.returns
returns c =
    let key = c.in_ok-from_slice.field-0 in
    let items : key.items ≡ c.args.name.now = search rules in
    ap names_of_keys c.in_ok-insert.ensures.keys ∙ insert_key-names c.self.inside.texts.keys key ∙ ap (λ names. with_member names key.items) c.self.view_is ∙ ap (with_member c.args.self.now) items
