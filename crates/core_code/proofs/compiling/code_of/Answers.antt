use Rattle.std.proofs.Common.{◌≡◌, List, ◌≤◌, ◌<◌, ◌^◌, length, sym, subst, ◌∙◌, arith}
use Rattle.std.proofs.lemmas.List.{length-map}
use Rattle.kern_syntax.specs.declared.program.Function.{Function}
use Rattle.kern_syntax.specs.TreeOf.{function_of, tree_of}
use Rattle.kern_types.specs.Checked.{IsChecked}
use Rattle.kern_types.specs.Programs.{IsTyped}
use Rattle.code_forms.specs.Texts.{texts_of}
use Rattle.code_law.proofs.Whole.{few_functions}
use Rattle.core_code.specs.Ready.{AreReadyFrom}
use Rattle.core_code.proofs.Put.{ready_from_zero}
use Rattle.core_code.proofs.compiling.code_of.Goals as goal

pub invariant_of-program : goal.invariant_of-program
invariant_of-program c =
    record {
      numbered = c.in_ok-numbers.ensures;
      typed = subst (λ fs. IsTyped (tree_of fs)) (sym (c.functions-functions.ensures ∙ c.program.ensures.kept)) c.requires.checked.typed;
    }

-- a checked program has few functions
few : (functions checked : List Function) → functions ≡ checked → IsChecked (tree_of checked) → length functions < 2 ^ 16
few functions checked same is =
    let all : length (tree_of functions) ≤ 256 = subst (λ fs. length (tree_of fs) ≤ 256) (sym same) (few_functions (tree_of checked) is) in
    let trees : length (tree_of functions) ≡ length functions = length-map functions function_of in
    omega (arith, all, trees)

pub put_functions-requires-clause-few : goal.put_functions-requires-clause-few
put_functions-requires-clause-few c =
    few c.functions-functions.result.now c.args.checked.now (c.functions-functions.ensures ∙ c.program.ensures.kept) c.requires.checked

pub main_of-requires : goal.main_of-requires
main_of-requires c =
    few c.functions-functions.result.now c.args.checked.now (c.functions-functions.ensures ∙ c.program.ensures.kept) c.requires.checked

pub put_functions-requires-clause-ready : goal.put_functions-requires-clause-ready
put_functions-requires-clause-ready c =
    let functions = c.functions-functions.result.now in
    let checked = c.args.checked.now in
    let same : functions ≡ checked = c.functions-functions.ensures ∙ c.program.ensures.kept in
    let ready : AreReadyFrom (tree_of checked) (texts_of (tree_of checked)) 0 (tree_of checked) = ready_from_zero (tree_of checked) (texts_of (tree_of checked)) (tree_of checked) (c.functions_are_ready.ensures (tree_of checked) c.requires) in
    let own : AreReadyFrom (tree_of functions) (texts_of (tree_of functions)) 0 (tree_of functions) = subst (λ fs. AreReadyFrom (tree_of fs) (texts_of (tree_of fs)) 0 (tree_of fs)) (sym same) ready in
    subst (λ texts. AreReadyFrom (tree_of functions) texts 0 (tree_of functions)) (sym c.in_ok-texts.ensures) own
