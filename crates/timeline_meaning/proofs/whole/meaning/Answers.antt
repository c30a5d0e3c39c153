use Rattle.std.proofs.Common.{rules, ◌≡◌, ap, sym, subst, ◌∙◌, FitsSigned}
use Rattle.std.specs.Int.{w64}
use Rattle.std.proofs.lemmas.Int.{to_z-of_z}
use Rattle.kern_syntax.specs.TreeOf.{tree_of}
use Rattle.kern_types.specs.Programs.{IsTyped}
use Rattle.kern_names.proofs.Members.{first_is_among}
use Rattle.meaning_runnable.proofs.Functions.{typed_can_run}
use Rattle.meaning_steps.specs.RunnableStatements.{AreRunnableFunctions}
use Rattle.timeline_sem.specs.Programs.{Meaning, meaning, opening}
use Rattle.meaning_frames.proofs.First.{first_runs}
use Rattle.timeline_meaning.proofs.First.{gives_meaning}
use Rattle.timeline_meaning.proofs.whole.meaning.Goals as goal

pub invariant_of-program : goal.invariant_of-program
invariant_of-program c =
    record {
      numbered = c.in_ok-numbers.ensures;
      typed = subst (λ fs. IsTyped (tree_of fs)) (sym c.functions-functions.ensures) c.program.ensures.typed;
    }

pub run_first-requires-clause-functions : goal.run_first-requires-clause-functions
run_first-requires-clause-functions c =
    subst (λ functions. AreRunnableFunctions (tree_of functions)) (sym c.functions-functions.ensures) (typed_can_run (tree_of c.program.result.now) c.program.ensures.spellable c.program.ensures.typed)

pub run_first-requires-clause-body : goal.run_first-requires-clause-body
run_first-requires-clause-body c =
    first_runs (tree_of c.functions-functions.result.now) c.args.function c.function_at-first.result c.function_at-first.ensures (run_first-requires-clause-functions c)

pub run_first-requires-clause-own : goal.run_first-requires-clause-own
run_first-requires-clause-own c =
    first_is_among (tree_of c.functions-functions.result.now) c.args.function c.function_at-first.result c.function_at-first.ensures

pub returns : goal.returns
returns c =
    let left = c.run_first.new.state in
    let same = c.functions-functions.ensures ∙ c.program.ensures.kept in
    let begun = c.opening-state.ensures ∙ ap (λ cursor. opening cursor c.args.units c.args.replies.now) (to_z-of_z w64 c.args.cursor c.ranges.cursor) in
    let gives : Meaning = record { requests = left.asked; cursor = left.cursor; units = left.units; outcome = c.in_ok-outcome.outcome } in
    let meant : meaning (tree_of c.args.checked.now) c.args.function c.args.args.now c.args.cursor c.args.units c.args.replies.now ≡ gives = gives_meaning c.args.function c.args.args.now c.args.checked.now c.functions-functions.result.now c.function_at-first.result c.args.cursor c.args.units c.args.replies.now c.opening-state.result left c.run_first.result gives same c.function_at-first.ensures begun c.run_first.ensures (c.in_ok-outcome.ensures left) in
    let fits : FitsSigned w64 c.cursor-cursor.result = search rules in
    let cursor = to_z-of_z w64 c.cursor-cursor.result fits ∙ c.cursor-cursor.ensures in
    (λ i. record { requests = c.into_asked.ensures i; cursor = cursor i; units = c.units-units.ensures i; outcome = c.in_ok-outcome.outcome }) ∙ sym meant
