-- The code of a checked program does what the program does.
use Rattle.std.proofs.Common.{◌≡◌, ℕ, zero, suc, ◌+◌, ◌≤◌, List, [], ◌∷◌, length, slice_get, Some, refl, sym, ap, subst}
use Rattle.std.specs.Prelude.{is_some, unwrap_or, codes}
use Rattle.std.proofs.lemmas.Bool.{false≢true}
use Rattle.kern_syntax.specs.Nodes.{program_nodes}
use Rattle.kern_syntax.specs.Tree.{Bytes, FunctionTree, ProgramTree}
use Rattle.kern_types.specs.Checked.{IsChecked}
use Rattle.kern_types.specs.Programs.{place_of_function}
use Rattle.core_isa.specs.declared.code.CodeFunction.{CodeFunction}
use Rattle.code_forms.specs.Programs.{function_size, entry_of, entries_of, plain_names, code_of_program}
use Rattle.code_forms.specs.Texts.{texts_of}
use Rattle.code_meaning.proofs.Functions.{agrees}
use Rattle.code_meaning.proofs.Order.{has_order}
use Rattle.code_meaning.proofs.Short.{is_short, typed_is_suited}
use Rattle.code_marks.proofs.Functions.{checked_is_marked}
use Rattle.code_ranges.specs.Laws.{IsFit}
pub use Rattle.code_ranges.proofs.Functions.{few_functions}
use Rattle.code_ranges.proofs.Functions.{main_is}
use Rattle.code_ranges.proofs.InRange.{entries_long, in_range, main_takes_nothing}
use Rattle.code_law.specs.DoesAs.{HasFunctions, DoesAs}

pub is_fit : (program : ProgramTree) → IsChecked program → program_nodes program ≤ 16384 → IsFit program
is_fit program checked few =
    record { checked = checked; nodes = few; short = is_short program checked; order = has_order program }

-- each function has its entry
entry_there : (program : ProgramTree) (plain texts : List Bytes) (fs : ProgramTree) (place k : ℕ) (f : FunctionTree) → slice_get fs k ≡ Some f → (g : CodeFunction) × (slice_get (entries_of program plain texts place fs) k ≡ Some g) × (g.params ≡ length f.parameters) × (g.value ≡ is_some f.result)
entry_there program plain texts [] place k f e = absurd (false≢true (ap is_some e))
entry_there program plain texts (h ∷ fs) place zero f e =
    let same : h ≡ f = ap (λ o. unwrap_or o f) e in
    (entry_of program plain place h, refl, ap (λ (x : FunctionTree). length x.parameters) same, ap (λ (x : FunctionTree). is_some x.result) same)
entry_there program plain texts (h ∷ fs) place (suc k) f e =
    entry_there program plain texts fs (place + function_size program texts h) k f e

functions_stand : (program : ProgramTree) → HasFunctions program (code_of_program program)
functions_stand program =
    record {
      count = entries_long program (plain_names [] program) program 0;
      each = λ k f e. entry_there program (plain_names [] program) (texts_of program) program 0 k f e;
    }

pub does_as : (program : ProgramTree) → IsChecked program → program_nodes program ≤ 16384 → DoesAs program (code_of_program program)
does_as program checked few =
    let fit = is_fit program checked few in
    let m = main_is program checked in
    let at : unwrap_or (place_of_function program (codes "main")) 0 ≡ m.0 = ap (λ o. unwrap_or o 0) m.2 in
    record {
      in_range = in_range program fit;
      marked = checked_is_marked program checked;
      main_takes_nothing = main_takes_nothing program fit;
      functions = functions_stand program;
      main = (m.1, subst (λ k. slice_get program k ≡ Some m.1) (sym at) m.3, m.5);
      short = fit.short;
      agrees = agrees program (typed_is_suited program checked.spellable checked.typed);
    }
