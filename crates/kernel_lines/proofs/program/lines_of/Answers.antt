use Rattle.std.proofs.Common.{◌≡◌, All, subst, sym}
use Rattle.kern_syntax.specs.TreeOf.{tree_of}
use Rattle.kern_types.specs.Programs.{IsTyped}
use Rattle.code_forms.specs.Texts.{texts_of}
use Rattle.kernel_lines.specs.Ready.{IsReadySomewhere}
use Rattle.kernel_lines.proofs.Ready.{all_ready}
use Rattle.kernel_lines.proofs.program.lines_of.Goals as goal

pub invariant_of-numbered : goal.invariant_of-numbered
invariant_of-numbered c =
    record {
      numbered = c.in_ok-numbers.ensures;
      typed = subst (λ fs. IsTyped (tree_of fs)) (sym c.functions-functions.ensures) c.requires.checked.typed;
    }

pub functions_lines-requires : goal.functions_lines-requires
functions_lines-requires c =
    let functions = c.functions-functions.result.now in
    let program = c.args.program.now in
    let same : functions ≡ program = c.functions-functions.ensures in
    let ready : All (IsReadySomewhere (tree_of program) (texts_of (tree_of program))) (tree_of program) = all_ready (tree_of program) (c.functions_are_ready.ensures (tree_of program) c.requires) in
    let own : All (IsReadySomewhere (tree_of functions) (texts_of (tree_of functions))) (tree_of functions) = subst (λ fs. All (IsReadySomewhere (tree_of fs) (texts_of (tree_of fs))) (tree_of fs)) (sym same) ready in
    subst (λ texts. All (IsReadySomewhere (tree_of functions) texts) (tree_of functions)) (sym c.in_ok-texts.ensures) own
