use Rattle.std.proofs.Common.{◌≡◌, ◌+◌, [], Bor, List, ℕ, IsTrue, take, drop, ap, subst, sym, ◌∙◌, arith}
use Rattle.std.proofs.Math.ListN.{drop_of_length-le}
use Rattle.std.proofs.lemmas.Result.{err_from_is_err_and}
use Rattle.kern_syntax.specs.TreeOf.{function_of, tree_of}
use Rattle.kern_expression_types.specs.Answers.{Passes}
use Rattle.kern_expression_types.specs.Verdicts.{fault, is_well}
use Rattle.kern_types.specs.Programs.{function_verdict, functions_verdict, main_verdict, program_verdict}
use Rattle.kern_expression_types.proofs.Lists.{drop-item}
use Rattle.kern_types.proofs.Passed.{names_of, few-noted, function-faulted, item-at, length-before, passes-finding, program-step}
use Rattle.kern_types.proofs.Places.{few-before}
use Rattle.kern_types.proofs.program.check_each.Goals as goal

pub check_function-requires-clause-next : goal.check_function-requires-clause-next
check_function-requires-clause-next c =
    item-at c.args.functions.now c.loop-number.number c.index-functions-number.result c.loop-number-test.true c.index-functions-number.is

pub returns-in_err-check_function : goal.returns-in_err-check_function
returns-in_err-check_function c =
    let fs = c.args.functions.now in
    let i = c.loop-number.number in
    let item = c.index-functions-number.result in
    let plain = names_of c.loop-number.plain.items in
    let found = c.in_err-check_function.field-0.0 in
    let next = drop-item fs i item c.loop-number-test.true c.index-functions-number.is in
    let faulted : function_verdict (tree_of fs) (tree_of (take i fs)) plain (function_of item) ≡ fault found.line found.kind = subst (λ (names : List (Bor (List ℕ))). function_verdict (tree_of fs) (tree_of (take i fs)) (names_of names) (function_of item) ≡ fault found.line found.kind) c.as_slice.ensures.value c.in_err-check_function.ensures in
    let whole = function-faulted found (tree_of fs) (tree_of (take i fs)) plain (function_of item) (tree_of (drop (i + 1) fs)) (program_verdict (tree_of fs)) (c.loop-number.invariant.left ∙ ap (λ rest. functions_verdict (tree_of fs) (tree_of (take i fs)) plain (tree_of rest)) next) faulted in
    let p = err_from_is_err_and c.from_residual.result c.from_residual.ensures.1 in
    rw (p.1, p.2) whole

pub note_plain-requires : goal.note_plain-requires
note_plain-requires c =
    let fs = c.args.functions.now in
    let i = c.loop-number.number in
    let item = c.index-functions-number.result in
    let at = item-at fs i item c.loop-number-test.true c.index-functions-number.is in
    let few = few-before (tree_of fs) (tree_of (take i fs)) (names_of c.as_slice.result.now) (function_of item) c.in_ok-check_function.ensures in
    omega (arith, few, length-before fs i item at, c.loop-number.invariant.few)

pub loop-number-preserved : goal.loop-number-preserved
loop-number-preserved c =
    let fs = c.args.functions.now in
    let i = c.loop-number.number in
    let item = c.index-functions-number.result in
    let plain = names_of c.loop-number.plain.items in
    let at = item-at fs i item c.loop-number-test.true c.index-functions-number.is in
    let next = drop-item fs i item c.loop-number-test.true c.index-functions-number.is in
    let passes : IsTrue (is_well (function_verdict (tree_of fs) (tree_of (take i fs)) plain (function_of item))) = subst (λ (names : List (Bor (List ℕ))). IsTrue (is_well (function_verdict (tree_of fs) (tree_of (take i fs)) (names_of names) (function_of item)))) c.as_slice.ensures.value c.in_ok-check_function.ensures in
    record {
      few = omega (arith, few-noted c.loop-number.plain.items c.note_plain.new.plain.items (function_of item) c.note_plain.ensures, c.loop-number.invariant.few);
      left = program-step fs i plain item (program_verdict (tree_of fs)) at next c.loop-number.invariant.left passes ∙ ap (λ names. functions_verdict (tree_of fs) (tree_of (take (i + 1) fs)) names (tree_of (drop (i + 1) fs))) (sym c.note_plain.ensures);
    }

pub returns : goal.returns
returns c =
    let fs = c.args.functions.now in
    let i = c.loop-number.number in
    let all : drop i fs ≡ [] = drop_of_length-le fs c.loop-number-test.false in
    let whole : program_verdict (tree_of fs) ≡ main_verdict (tree_of fs) = c.loop-number.invariant.left ∙ ap (λ rest. functions_verdict (tree_of fs) (tree_of (take i fs)) (names_of c.loop-number.plain.items) (tree_of rest)) all in
    subst (Passes c.check_main.result) (sym whole) (passes-finding c.check_main.result (main_verdict (tree_of fs)) c.check_main.ensures)
