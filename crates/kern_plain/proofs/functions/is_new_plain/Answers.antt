use Rattle.std.proofs.Common.{◌≡◌, true, not, ◌&&◌, sym, ap, ◌∙◌}
use Rattle.kern_syntax.specs.TreeOf.{function_of}
use Rattle.kern_expression_types.specs.Before.{is_in}
use Rattle.kern_expression_types.proofs.Pairs.{list_any-borrowed}
use Rattle.kern_plain.specs.Plain.{is_plain_function}
use Rattle.kern_plain.proofs.PlainFunctions.{names_of}
use Rattle.kern_plain.proofs.functions.is_new_plain.Goals as goal

pub returns-then-is_plain_function : goal.returns-then-is_plain_function
returns-then-is_plain_function c =
    let names = names_of c.args.plain.now in
    let f = c.args.function.now in
    let plain : is_plain_function names (function_of f) ≡ true = sym c.is_plain_function.ensures ∙ c.if-is_plain_function.true in
    let among : c.is_among.result ≡ is_in names f.name = c.is_among.ensures ∙ list_any-borrowed c.args.plain.now c.bytes.result.now ∙ ap (is_in names) c.bytes.ensures in
    ap not among ∙ sym (ap (λ b. b && not (is_in names f.name)) plain)
