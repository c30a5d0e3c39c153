use Rattle.std.proofs.Common.{◌≡◌, ap, sym, subst, ◌∙◌}
use Rattle.std.specs.Prelude.{IfOk, unwrap_or}
use Rattle.std.proofs.lemmas.Result.{IfOk-weaker}
use Rattle.kern_syntax.specs.TreeOf.{tree_of}
use Rattle.kern_types.specs.Programs.{IsTyped}
use Rattle.kern_names.proofs.Members.{first_is_among}
use Rattle.meaning_frames.proofs.First.{first_runs}
use Rattle.meaning_runnable.proofs.Functions.{typed_can_run}
use Rattle.meaning_steps.specs.RunnableStatements.{AreRunnableFunctions}
use Rattle.slack_meaning.specs.declared.verdict.Verdict.{Verdict}
use Rattle.slack_meaning.specs.Programs.{slack_verdict}
use Rattle.slack_check.proofs.First.{holds_of_verdict}
use Rattle.slack_check.specs.Mains.{place_of_main, verdict_of_main}
use Rattle.slack_check.proofs.whole.slack.Goals as goal

pub invariant_of-program : goal.invariant_of-program
invariant_of-program c =
    record {
      numbered = c.in_ok-numbers.ensures;
      typed = subst (λ fs. IsTyped (tree_of fs)) (sym c.functions-functions.ensures) c.program.ensures.typed;
    }

pub run_first-ran-requires-clause-functions : goal.run_first-ran-requires-clause-functions
run_first-ran-requires-clause-functions c =
    subst (λ functions. AreRunnableFunctions (tree_of functions)) (sym c.functions-functions.ensures) (typed_can_run (tree_of c.program.result.now) c.program.ensures.spellable c.program.ensures.typed)

pub run_first-ran-requires-clause-body : goal.run_first-ran-requires-clause-body
run_first-ran-requires-clause-body c =
    first_runs (tree_of c.functions-functions.result.now) c.unwrap_or-main.result c.function_at-first.result c.function_at-first.ensures (run_first-ran-requires-clause-functions c)

pub run_first-ran-requires-clause-own : goal.run_first-ran-requires-clause-own
run_first-ran-requires-clause-own c =
    first_is_among (tree_of c.functions-functions.result.now) c.unwrap_or-main.result c.function_at-first.result c.function_at-first.ensures

pub returns : goal.returns
returns c =
    let tree = tree_of c.args.checked.now in
    let cost = c.args.cost in
    let depth = c.args.depth in
    let main = c.unwrap_or-main.result in
    let left = c.run_first-ran.new.state in
    let result = c.verdict_of.result in
    let given : Verdict → Verdict → Type 0 = λ v verdict. v ≡ verdict in
    let holds : Verdict → Type 0 = λ v. IfOk result (given v) in
    let same = c.functions-functions.ensures ∙ c.program.ensures.kept in
    let ran : holds (slack_verdict tree main cost depth) = holds_of_verdict main cost depth c.args.checked.now c.functions-functions.result.now c.function_at-first.result holds c.opening-state.result left c.run_first-ran.result same c.function_at-first.ensures c.opening-state.ensures c.run_first-ran.ensures (λ m does. c.verdict_of.ensures left m c.outs.ensures does) in
    let at : main ≡ place_of_main tree = c.unwrap_or-main.ensures ∙ ap (λ place. unwrap_or place 0) c.function.ensures in
    let found : holds (verdict_of_main tree cost depth) = subst (λ place. holds (slack_verdict tree place cost depth)) at ran in
    record {
      verdict = IfOk-weaker result (given (verdict_of_main tree cost depth)) _ (λ verdict is. sym is) found;
      yes = IfOk-weaker result (given (verdict_of_main tree cost depth)) _ (λ verdict is outs yes. c.a_yes_means_no_underflow.ensures tree (place_of_main tree) cost depth outs (is ∙ yes)) found;
    }
