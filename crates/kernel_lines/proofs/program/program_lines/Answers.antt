use Rattle.std.proofs.Common.{◌≤◌, subst, sym}
use Rattle.kern_syntax.specs.Nodes.{program_nodes}
use Rattle.kern_syntax.specs.TreeOf.{tree_of}
use Rattle.kern_types.specs.Checked.{IsChecked}
use Rattle.kernel_lines.proofs.program.program_lines.Goals as goal

pub lines_of-requires : goal.lines_of-requires
lines_of-requires c =
    let program = c.program.result.now in
    let checked : IsChecked (tree_of program) = record {
      grammatical = c.program.ensures.grammatical;
      spellable = c.program.ensures.spellable;
      typed = c.program.ensures.typed;
    } in
    let small : program_nodes (tree_of program) ≤ 16384 = subst (λ fs. program_nodes (tree_of fs) ≤ 16384) (sym c.program.ensures.kept) c.requires in
    c.checked_programs_are_fit.ensures (tree_of program) checked small
