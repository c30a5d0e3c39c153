-- The laws: what the code of a checked program fits.
use Rattle.std.specs.Prelude.{◌≡◌, ℕ, ◌+◌, ◌*◌, ◌≤◌, ◌<◌, ◌^◌, List, length, take, slice_get, Some}
use Rattle.limits.specs.Limits.{most_nodes}
use Rattle.kern_syntax.specs.Nodes.{program_nodes}
use Rattle.kern_syntax.specs.Tree.{Bytes, FunctionTree, ProgramTree}
use Rattle.kern_calls.specs.Types.{names_of}
use Rattle.kern_types.specs.Checked.{IsChecked}
use Rattle.core_isa.specs.Marks.{HasOrder}
use Rattle.code_forms.specs.Programs.{setting_of, body_inside, block_slots}
use Rattle.code_forms.specs.Programs.{function_size, functions_code, code_of_program}
use Rattle.code_forms.specs.Setting.{slots_of_names}
use Rattle.code_forms.specs.Texts.{texts_of}
use Rattle.code_ranges.specs.Fits.{SettingFits}
use Rattle.code_ranges.specs.ReadyStatements.{IsReadyBlock}

-- a program that is checked and not too large, whose code is short and has its functions in order
pub record IsFit (program : ProgramTree) : Type 0 where
  pub checked : IsChecked program
  pub nodes : program_nodes program ≤ most_nodes
  pub short : length (code_of_program program).lines ≤ 16 * program_nodes program
  pub order : HasOrder (code_of_program program)

-- the code of a function can be put at a place: its body can, and its entry has a number of slots of two bytes
pub record IsReadyFunction (program : ProgramTree) (texts : List Bytes) (place : ℕ) (f : FunctionTree) : Type 0 where
  pub setting : SettingFits (setting_of program texts f)
  pub body : IsReadyBlock (setting_of program texts f) (body_inside (setting_of program texts f)) place f.body
  pub parameters : length f.parameters ≤ 8
  pub slots : slots_of_names (names_of program f) + block_slots f.body < 2 ^ 16
  pub lines : place + function_size program texts f ≤ 262144

-- each function's code can be put behind those before it
abbrev pub FunctionsAreReady : ProgramTree → Type 0
FunctionsAreReady program =
    (k : ℕ) (f : FunctionTree)
    → slice_get program k ≡ Some f
    → IsReadyFunction program (texts_of program) (length (functions_code program (texts_of program) 0 (take k program))) f
