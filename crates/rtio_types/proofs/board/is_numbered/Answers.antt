use Rattle.std.proofs.Common.{◌∙◌, Some, None}
use Rattle.std.proofs.lemmas.Slice.Eq.{strip_prefix_is}
use Rattle.std.proofs.lemmas.Bool.Decides.{Decides-eqb}
use Rattle.rtio_types.proofs.Numbered.{equal_behind, unequal_without}
use Rattle.rtio_types.proofs.board.is_numbered.Goals as goal

pub returns-in-Some : goal.returns-in-Some
returns-in-Some c =
    c.are_digits_of.ensures ∙ equal_behind c.args.prefix.now _ c.in-Some.digits.now c.args.name.now (strip_prefix_is Decides-eqb c.args.name.now c.args.prefix.now (Some c.in-Some.digits) c.in-Some.ensures.cases)

pub returns-in-None : goal.returns-in-None
returns-in-None c =
    unequal_without c.args.prefix.now _ c.args.name.now (strip_prefix_is Decides-eqb c.args.name.now c.args.prefix.now None c.in-None.ensures.cases)
