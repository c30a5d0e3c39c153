use Rattle.std.proofs.Common.{◌∙◌}
use Rattle.kern_expression_types.proofs.Pairs.{list_any-borrowed}
use Rattle.kern_expression_types.proofs.known.Known.is_plain.Goals as goal

pub returns : goal.returns
returns c = c.is_among.ensures ∙ list_any-borrowed c.args.self.now.plain.now c.args.name.now
