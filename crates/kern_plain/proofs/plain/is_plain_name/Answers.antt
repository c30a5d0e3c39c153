use Rattle.std.proofs.Common.{◌||◌, sym, ap, ◌∙◌, bytes_eq}
use Rattle.kern_expression_types.proofs.Pairs.{list_any-borrowed}
use Rattle.kern_plain.proofs.PlainFunctions.{names_of}
use Rattle.kern_plain.proofs.PlainNames.{is_in_more}
use Rattle.kern_plain.proofs.plain.is_plain_name.Goals as goal

pub returns-then-is_among : goal.returns-then-is_among
returns-then-is_among c =
    let own = c.args.own.now in
    let x = c.args.name.now in
    let among = sym (c.is_among.ensures ∙ list_any-borrowed c.args.plain.now x) ∙ c.if-is_among.true in
    c.if-is_among.true ∙ sym (is_in_more (names_of c.args.plain.now) own x ∙ ap (λ b. b || bytes_eq x own) among)

pub returns-else-is_among : goal.returns-else-is_among
returns-else-is_among c =
    let own = c.args.own.now in
    let x = c.args.name.now in
    let among = sym (c.is_among.ensures ∙ list_any-borrowed c.args.plain.now x) ∙ c.if-is_among.false in
    c.eq.ensures ∙ sym (is_in_more (names_of c.args.plain.now) own x ∙ ap (λ b. b || bytes_eq x own) among)
