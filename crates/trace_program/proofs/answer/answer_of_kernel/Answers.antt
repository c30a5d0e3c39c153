use Rattle.std.proofs.Common.{◌≤◌, ap, subst, sym, ◌∙◌}
use Rattle.limits.specs.Limits.{most_nodes}
use Rattle.code_law.specs.DoesAs.{DoesAs}
use Rattle.kern_syntax.specs.Nodes.{program_nodes}
use Rattle.kern_syntax.specs.Tree.{ProgramTree}
use Rattle.kern_syntax.specs.TreeOf.{tree_of}
use Rattle.kernel_lines.specs.KernelLines.{program_lines}
use Rattle.trace_program.proofs.Telling.{main-places, main-session, seen-session, tell-where, trace-answers}
use Rattle.trace_program.proofs.answer.answer_of_kernel.Goals as goal

pub program_lines-requires : goal.program_lines-requires
program_lines-requires c =
    subst (λ (p : ProgramTree). program_nodes p ≤ most_nodes) (ap tree_of (sym c.checked.ensures.kept)) c.requires.kernel.small

pub places_of_main-requires : goal.places_of_main-requires
places_of_main-requires c =
    let made = c.in_ok-run.ensures.run in
    let session = main-session (tree_of c.args.compiled.now.0) c.args.compiled.now.1 c.args.options c.in_ok-run.run'.core c.in_ok-run.run'.outcome c.in_ok-run.run'.steps made in (
      made.counted.asked,
      seen-session c.args.compiled.now.1 c.code.result.now c.args.options.budget c.in_ok-run.run'.core.history made.counted.asked c.in_ok-run.run'.steps c.code.ensures.kept session,
    )

pub returns : goal.returns
returns c = λ text is_text.
    let program = tree_of c.args.compiled.now.0 in
    let code = c.args.compiled.now.1 in
    let run = c.in_ok-run.run' in
    let made = c.in_ok-run.ensures.run in
    let session = main-session program code c.args.options run.core run.outcome run.steps made in
    let have = c.what_asks_has_a_line.ensures.texts text is_text.tokens program is_text.lexed is_text.parsed in
    let tell = tell-where program code c.requires.code (c.what_asks_has_a_line.ensures.asks program have) (c.what_asks_has_a_line.ensures.begins program have) in
    let lines_are = c.in_ok-lines.ensures ∙ ap program_lines (ap tree_of c.checked.ensures.kept) in
    let has =
    main-places program code c.code.result.now c.deref.result.now c.args.options.budget run.core.history made.counted.asked run.outcome run.steps c.in_ok-places.places
    c.code.ensures.kept (c.deref.ensures.value ∙ lines_are) tell session c.in_ok-places.ensures
    in
    trace-answers c.args.options text program code run c.in_ok-places.places (record { is_text = is_text; kernel = c.requires.kernel }) (subst (DoesAs program) c.code.ensures.kept c.code.ensures.does) c.requires.code made has
    c.trace_of.result c.deref-2.result.now (c.deref-2.ensures.value ∙ lines_are) c.trace_of.ensures
