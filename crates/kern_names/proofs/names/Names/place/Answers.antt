use Rattle.std.proofs.Common.{ap, sym, ◌∙◌, position, bytes_eq}
use Rattle.kern_names.proofs.Positions.{position_map}
use Rattle.kern_names.proofs.names.Names.place.Goals as goal

pub returns : goal.returns
returns c =
    let x = c.args.name.now in
    let entries = c.self.inside.types.entries in
    c.get_index_of.ensures.index
    ∙ sym (position_map (λ key. bytes_eq x key.items) (λ entry. entry.0) entries)
    ∙ position_map (λ known. bytes_eq x known.0) (λ entry. (entry.0.items, entry.1)) entries
    ∙ ap (position (λ known. bytes_eq x known.0)) c.self.view_is
