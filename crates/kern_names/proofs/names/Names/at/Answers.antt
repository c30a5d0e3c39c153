use Rattle.std.proofs.Common.{rules, ◌≡◌, Some, ap, sym, ◌∙◌, option_map}
use Rattle.std.specs.Prelude.{slice_get}
use Rattle.std.proofs.lemmas.Option.{slice_get-map}
use Rattle.kern_names.proofs.names.Names.at.Goals as goal

pub returns : goal.returns
returns c =
    let entries = c.self.inside.types.entries in
    let key = c.unwrap.result.0.now in
    let kind = c.unwrap.result.1.now in
    let at : slice_get entries c.args.place ≡ Some (key, kind) = search rules in
    ap (λ names. slice_get names c.args.place) (sym c.self.view_is)
    ∙ slice_get-map (λ entry. (entry.0.items, entry.1)) entries c.args.place
    ∙ ap (option_map (λ entry. (entry.0.items, entry.1))) at
    ∙ ap (λ name. Some (name, kind)) (sym c.as_slice.ensures.value)
