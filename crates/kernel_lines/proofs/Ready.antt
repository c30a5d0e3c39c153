-- Each function of a program can be put at some place, and what it rests on.
use Rattle.std.proofs.Common.{◌≡◌, ℕ, ◌<◌, List, All, length, take, get_or, is_some, Bool, ap, sym, subst, ◌∙◌}
use Rattle.std.proofs.lemmas.Option.{slice_get-get_or}
use Rattle.std.proofs.lemmas.List.{get_or-map, length-map}
use Rattle.kern_syntax.specs.declared.program.Function.{Function}
use Rattle.kern_syntax.specs.Tree.{Bytes, FunctionTree, ProgramTree}
use Rattle.kern_syntax.specs.TreeOf.{function_of, tree_of}
use Rattle.kern_calls.specs.Types.{Names, names_of}
use Rattle.code_forms.specs.Programs.{setting_of, functions_code}
use Rattle.code_forms.specs.Setting.{Setting}
use Rattle.code_forms.specs.Texts.{texts_of}
use Rattle.code_law.specs.Laws.{FunctionsAreReady}
use Rattle.kernel_lines.specs.Ready.{IsReadySomewhere}

pub all_ready : (program : ProgramTree) → FunctionsAreReady program → All (IsReadySomewhere program (texts_of program)) program
all_ready program ready =
    λ k d within. (
      length (functions_code program (texts_of program) 0 (take k program)),
      ready k (get_or program k d) (slice_get-get_or program k d within),
    )

-- the one at an index
pub ready_at : (program : ProgramTree) (texts : List Bytes) (functions : List Function) (i : ℕ) (f : Function) → i < length functions → f ≡ get_or functions i f → All (IsReadySomewhere program texts) (tree_of functions) → IsReadySomewhere program texts (function_of f)
ready_at program texts functions i f within is all =
    let inside : i < length (tree_of functions) = subst (λ n. i < n) (sym (length-map functions function_of)) within in
    let same : get_or (tree_of functions) i (function_of f) ≡ function_of f = get_or-map function_of functions i f (function_of f) within ∙ ap function_of (sym is) in
    subst (IsReadySomewhere program texts) same (all i (function_of f) inside)

-- what a function rests on, from its parts
abbrev from_parts : (program : ProgramTree) (texts : List Bytes) (names : Names) (value : Bool) → Setting
from_parts program texts names value = record { scope = record { program = program; names = names }; texts = texts; value = value }

pub same_setting : (program : ProgramTree) (texts : List Bytes) (f : FunctionTree) (names : Names) (value : Bool) (setting : Setting) → setting ≡ record { scope = record { program = program; names = names }; texts = texts; value = value } → names ≡ names_of program f → value ≡ is_some f.result → setting ≡ setting_of program texts f
same_setting program texts f names value setting e named valued =
    e ∙ ap (λ ns. from_parts program texts ns value) named ∙ ap (from_parts program texts (names_of program f)) valued
