use Rattle.std.proofs.Common.{◌≡◌, ◌++◌, [], ◌∷◌, sym, ap, ◌∙◌}
use Rattle.kern_syntax.specs.TreeOf.{function_of, tree_of}
use Rattle.kern_plain.specs.Plain.{with_plain}
use Rattle.kern_plain.specs.PlainFunctions.{plain_names}
use Rattle.kern_plain.proofs.PlainFunctions.{is_new, names_of, plain_step, put-new, put-none}
use Rattle.kern_plain.proofs.functions.plain_functions.Goals as goal
use Rattle.kern_plain.proofs.functions.plain_functions.Goals.{then-is_new_plain+in_ok-push, else-is_new_plain}

pub loop-function-preserved : goal.loop-function-preserved
loop-function-preserved c =
    let functions = c.args.functions.now in
    let before = c.loop-function.plain.items in
    let after = c.if-is_new_plain.plain.items in
    let f = c.function-item.result in
    let new : c.is_new_plain.result ≡ is_new (names_of before) (function_of f) = c.is_new_plain.ensures ∙ ap (λ plain. is_new (names_of plain) (function_of f)) c.deref.ensures.value in
    let put : names_of after ≡ with_plain (names_of before) (function_of f) = elim c.if-is_new_plain.branch [
      | then-is_new_plain+in_ok-push w ↦
          let grown : after ≡ before ++ w.bytes.result ∷ [] = cc (w.plain-is, w.in_ok-push.ensures.items) in
          put-new before after w.bytes.result (function_of f) grown w.bytes.ensures (sym w.if-is_new_plain.true ∙ new)
      | else-is_new_plain w ↦
          let same : after ≡ before = cc (w.plain-is) in
          ap names_of same ∙ put-none before (function_of f) (sym w.if-is_new_plain.false ∙ new)
    ] in
    plain_step functions (plain_names [] (tree_of functions)) (names_of before) (names_of after) c.loop-function.function-index f c.loop-function-test.true c.function-item.is c.loop-function.invariant put
