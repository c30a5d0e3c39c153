use Rattle.std.proofs.Common.{◌∙◌, ap, List}
use Rattle.std.specs.List.{list_all, zip}
use Rattle.rtio_types.specs.declared.event.Edge.{Edge}
use Rattle.rtio_input.specs.Script.{is_edge_before}
use Rattle.rtio_input.proofs.Scripts.{rest-whole, zip-rising}
use Rattle.rtio_input.proofs.script.are_rising.Goals as goal

pub returns-else-is_empty : goal.returns-else-is_empty
returns-else-is_empty c =
    c.each_before.ensures
    ∙ ap (λ (next : List Edge). list_all (λ p. is_edge_before p.0 p.1) (zip c.args.edges.now next)) (rest-whole 1 c.args.edges.now)
    ∙ zip-rising c.args.edges.now
