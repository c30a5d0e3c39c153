use Rattle.std.proofs.Common.{Bor, List, ap, map, ℕ, ◌∙◌}
use Rattle.kern_expression_types.specs.Before.{is_in}
use Rattle.kern_expression_types.proofs.Pairs.{list_any-borrowed}
use Rattle.core_code.proofs.functions.is_plain.Goals as goal

pub returns : goal.returns
returns c =
    let names = map (λ (n : Bor (List ℕ)). n.now) c.args.plain.now in
    c.is_among.ensures ∙ list_any-borrowed c.args.plain.now c.bytes.result.now ∙ ap (is_in names) c.bytes.ensures
