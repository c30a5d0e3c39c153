use Rattle.std.proofs.Common.{sym, ap, ◌∙◌}
use Rattle.kern_syntax.specs.TreeOf.{function_of}
use Rattle.kern_plain.proofs.PlainFunctions.{is_new, names_of, put-new, put-none}
use Rattle.kern_plain.proofs.functions.note_plain.Goals as goal

pub returns-then-is_new_plain : goal.returns-then-is_new_plain
returns-then-is_new_plain c =
    let f = function_of c.args.function.now in
    put-new c.args.plain.now.items c.push.new.self.items c.bytes.result f c.push.ensures.items c.bytes.ensures (sym c.if-is_new_plain.true ∙ c.is_new_plain.ensures ∙ ap (λ plain. is_new (names_of plain) f) c.as_slice.ensures.value)

pub returns-else-is_new_plain : goal.returns-else-is_new_plain
returns-else-is_new_plain c =
    let f = function_of c.args.function.now in
    put-none c.args.plain.now.items f (sym c.if-is_new_plain.false ∙ c.is_new_plain.ensures ∙ ap (λ plain. is_new (names_of plain) f) c.as_slice.ensures.value)
