use Rattle.std.proofs.Common.{ap, ◌∙◌, position, bytes_eq}
use Rattle.kern_names.proofs.Positions.{position_map}
use Rattle.core_code_names.proofs.texts.Texts.place.Goals as goal

pub returns : goal.returns
returns c =
    c.get_index_of.ensures.index ∙ position_map (bytes_eq c.args.text.now) (λ key. key.items) c.self.inside.texts.keys ∙ ap (position (bytes_eq c.args.text.now)) c.self.view_is
