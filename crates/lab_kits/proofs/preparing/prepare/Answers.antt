use Rattle.std.proofs.Common.{◌<◌, ◌^◌, length, refl, sym, subst, ◌∙◌}
use Rattle.std.specs.List.{AllByRecursion}
use Rattle.std.proofs.lemmas.Bool.{false≢true}
use Rattle.std.proofs.lemmas.Result.{err_from_is_err_and}
use Rattle.kern_syntax.specs.Tree.{Bytes}
use Rattle.kern_syntax.specs.TreeOf.{tree_of}
use Rattle.kern_accepted.specs.Refusals.{IsEndOf}
use Rattle.kern_accepted.specs.Texts.{IsKernelText}
use Rattle.sched_core.specs.Scheds.{HasCall}
use Rattle.lab_kits.specs.Calls.{HasCallOf}
use Rattle.lab_kits.proofs.Prepared.{accepted-is, calls-end, found-at, kit-is, text-end}
use Rattle.lab_kits.proofs.Sessions.{short-source}
use Rattle.lab_kits.proofs.preparing.prepare.Goals as goal

pub compile_text-requires : goal.compile_text-requires
compile_text-requires g c =
    let e = c.in-Some.experiment.now in
    let text = c.in-Some-get.text.now in
    let found = found-at c.items-2.result.now c.args.session.now.sources e.source text c.items-2.ensures c.in-Some-get.ensures.lookup.0 c.in-Some-get.ensures.lookup.1 in
    subst (λ (t : Bytes). length t < 2 ^ 31) (sym c.items-3.ensures) (short-source c.args.session.now e.source text c.requires found)

pub returns-in_err-compiled-clause-end : goal.returns-in_err-compiled-clause-end
returns-in_err-compiled-clause-end g c =
    let session = c.args.session.now in
    let run = c.args.run.now in
    let e = c.in-Some.experiment.now in
    let text = c.in-Some-get.text.now in
    let there = found-at c.items.result.now session.experiments run.experiment e c.items.ensures c.in-Some.ensures.lookup.0 c.in-Some.ensures.lookup.1 in
    let found = found-at c.items-2.result.now session.sources e.source text c.items-2.ensures c.in-Some-get.ensures.lookup.0 c.in-Some-get.ensures.lookup.1 in
    let end = c.in_err-compiled.field-0.0 in
    let p = err_from_is_err_and c.from_residual.result c.from_residual.ensures.1 in
    rw (p.1, p.2) (text-end session run e there text found end (subst (λ (t : Bytes). IsEndOf t end) c.items-3.ensures c.in_err-compiled.ensures.end))

pub returns-then-serves_all-clause-kit : goal.returns-then-serves_all-clause-kit
returns-then-serves_all-clause-kit g c =
    let session = c.args.session.now in
    let run = c.args.run.now in
    let e = c.in-Some.experiment.now in
    let text = c.in-Some-get.text.now in
    let compiled = c.in_ok-compiled.compiled in
    let there = found-at c.items.result.now session.experiments run.experiment e c.items.ensures c.in-Some.ensures.lookup.0 c.in-Some.ensures.lookup.1 in
    let found = found-at c.items-2.result.now session.sources e.source text c.items-2.ensures c.in-Some-get.ensures.lookup.0 c.in-Some-get.ensures.lookup.1 in
    kit-is session run e there text found (record { source = e.source; compiled = compiled }) refl
    (subst (λ (t : Bytes). IsKernelText t (tree_of compiled.0)) c.items-3.ensures c.in_ok-compiled.ensures.kernel)
    (subst (AllByRecursion (HasCall HasCallOf (tree_of compiled.0))) c.items-4.ensures (c.serves_all.ensures.0 c.if-serves_all.true))

pub returns-then-serves_all-clause-accepted : goal.returns-then-serves_all-clause-accepted
returns-then-serves_all-clause-accepted g c =
    let session = c.args.session.now in
    let run = c.args.run.now in
    let e = c.in-Some.experiment.now in
    let text = c.in-Some-get.text.now in
    let compiled = c.in_ok-compiled.compiled in
    let there = found-at c.items.result.now session.experiments run.experiment e c.items.ensures c.in-Some.ensures.lookup.0 c.in-Some.ensures.lookup.1 in
    let found = found-at c.items-2.result.now session.sources e.source text c.items-2.ensures c.in-Some-get.ensures.lookup.0 c.in-Some-get.ensures.lookup.1 in
    accepted-is session run e there text found (tree_of compiled.0)
    (subst (λ (t : Bytes). IsKernelText t (tree_of compiled.0)) c.items-3.ensures c.in_ok-compiled.ensures.kernel)
    (subst (AllByRecursion (HasCall HasCallOf (tree_of compiled.0))) c.items-4.ensures (c.serves_all.ensures.0 c.if-serves_all.true))

pub returns-else-serves_all-clause-end : goal.returns-else-serves_all-clause-end
returns-else-serves_all-clause-end g c =
    let session = c.args.session.now in
    let run = c.args.run.now in
    let e = c.in-Some.experiment.now in
    let text = c.in-Some-get.text.now in
    let compiled = c.in_ok-compiled.compiled in
    let there = found-at c.items.result.now session.experiments run.experiment e c.items.ensures c.in-Some.ensures.lookup.0 c.in-Some.ensures.lookup.1 in
    let found = found-at c.items-2.result.now session.sources e.source text c.items-2.ensures c.in-Some-get.ensures.lookup.0 c.in-Some-get.ensures.lookup.1 in
    calls-end session run e there text found (tree_of compiled.0)
    (subst (λ (t : Bytes). IsKernelText t (tree_of compiled.0)) c.items-3.ensures c.in_ok-compiled.ensures.kernel)
    (λ all. false≢true (sym c.if-serves_all.false ∙ c.serves_all.ensures.1 (subst (AllByRecursion (HasCall HasCallOf (tree_of compiled.0))) (sym c.items-4.ensures) all)))
