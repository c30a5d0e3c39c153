-- The code of functions and of whole programs.
use Rattle.std.specs.Prelude.{ℕ, ◌+◌, max, List, [], ◌∷◌, ◌++◌, length, is_some, unwrap_or, codes}
use Rattle.kern_syntax.specs.Tree.{Bytes, Statement, augment_element, assign_list, if_then, while_do, for_range}
use Rattle.kern_syntax.specs.Tree.{parallel, sequential, record_as, try_do, Block, done, line_then, Otherwise, no_else}
use Rattle.kern_syntax.specs.Tree.{else_do, elif_then, Handlers, no_handler, except_then, FunctionTree, ProgramTree}
use Rattle.kern_types.specs.Plain.{is_in}
pub use Rattle.kern_types.specs.PlainFunctions.{plain_names}
use Rattle.kern_types.specs.Programs.{place_of_function}
use Rattle.kern_calls.specs.Types.{names_of}
use Rattle.core_isa.specs.declared.code.Code.{Code}
use Rattle.core_isa.specs.declared.code.CodeFunction.{CodeFunction}
use Rattle.core_isa.specs.declared.code.CodeLine.{CodeLine}
use Rattle.core_isa.specs.declared.instr.Instr.TheVariants as I
use Rattle.core_isa.specs.Marks.{first_mark}
use Rattle.code_forms.specs.Lines.{straight}
use Rattle.code_forms.specs.Setting.{Setting, slots_of_names}
use Rattle.code_forms.specs.Sizes.{block_size, when}
use Rattle.code_forms.specs.StatementCode.{Inside, LoopPlaces, block_code, no_result}
use Rattle.code_forms.specs.Texts.{texts_of}

-- the places of a loop where there is none
abbrev pub no_loop : LoopPlaces
no_loop = record { again = 0; past = 0; tries = 0 }

abbrev mutual
  -- how many slots beside those of the names the code of a statement uses; an expression uses one at most
  pub statement_slots : Statement → ℕ
  statement_slots (augment_element x i op e) = 2
  statement_slots (assign_list x es) = length es + 1
  statement_slots (if_then c b rest) = max (block_slots b) (otherwise_slots rest)
  statement_slots (while_do c b) = block_slots b
  statement_slots (for_range x from to b) = 2 + block_slots b
  statement_slots (parallel b) = 2 + block_slots b
  statement_slots (sequential b) = block_slots b
  statement_slots (record_as name b) = block_slots b
  statement_slots (try_do b handlers) = max (block_slots b) (handlers_slots handlers)
  statement_slots s = 1

  -- of a block; at least one
  pub block_slots : Block → ℕ
  block_slots done = 1
  block_slots (line_then line s rest) = max (statement_slots s) (block_slots rest)

  -- of the further branches of an `if`
  pub otherwise_slots : Otherwise → ℕ
  otherwise_slots no_else = 1
  otherwise_slots (else_do b) = block_slots b
  otherwise_slots (elif_then line c b rest) = max (block_slots b) (otherwise_slots rest)

  -- of handlers
  pub handlers_slots : Handlers → ℕ
  handlers_slots no_handler = 1
  handlers_slots (except_then line x b rest) = max (block_slots b) (handlers_slots rest)

-- what the code of a function rests on
abbrev pub setting_of : ProgramTree → (texts : List Bytes) → FunctionTree → Setting
setting_of program texts f =
    record {
      scope = record { program = program; names = names_of program f };
      texts = texts;
      value = is_some f.result;
    }

-- what stands round the body of a function
abbrev pub body_inside : Setting → Inside
body_inside setting =
    record { mark = first_mark; free = slots_of_names setting.scope.names; loop = no_loop }

-- the code of a function that begins at a place: its body, and its end with 0 where it has a value
abbrev pub body_code : Setting → (place : ℕ) → Block → List CodeLine
body_code setting place b =
    block_code setting (body_inside setting) place b
    ++ straight first_mark (no_result setting.value ++ I.Return ∷ [])

-- how many instructions it has
abbrev pub body_size : Setting → Block → ℕ
body_size setting b = block_size setting 0 0 b + (when setting.value + 1)

-- the code of a function at a place
abbrev pub function_code : ProgramTree → (texts : List Bytes) → (place : ℕ) → FunctionTree → List CodeLine
function_code program texts place f = body_code (setting_of program texts f) place f.body

-- how many instructions a function has
abbrev pub function_size : ProgramTree → (texts : List Bytes) → FunctionTree → ℕ
function_size program texts f = body_size (setting_of program texts f) f.body

-- the code of functions one after another, from a place on
abbrev pub functions_code : ProgramTree → (texts : List Bytes) → (place : ℕ) → List FunctionTree → List CodeLine
functions_code program texts place [] = []
functions_code program texts place (f ∷ rest) =
    function_code program texts place f
    ++ functions_code program texts (place + function_size program texts f) rest

-- the entry of a function
abbrev pub entry_of : ProgramTree → (plain : List Bytes) → (place : ℕ) → FunctionTree → CodeFunction
entry_of program plain place f =
    record {
      first = place;
      params = length f.parameters;
      slots = slots_of_names (names_of program f) + block_slots f.body;
      value = is_some f.result;
      plain = is_in plain f.name;
    }

-- the entries of functions one after another, from a place on
abbrev pub entries_of : ProgramTree → (plain texts : List Bytes) → (place : ℕ) → List FunctionTree → List CodeFunction
entries_of program plain texts place [] = []
entries_of program plain texts place (f ∷ rest) =
    entry_of program plain place f
    ∷ entries_of program plain texts (place + function_size program texts f) rest

-- the code of a program
abbrev pub code_of_program : ProgramTree → Code
code_of_program program =
    record {
      main = unwrap_or (place_of_function program (codes "main")) 0;
      names = texts_of program;
      functions = entries_of program (plain_names [] program) (texts_of program) 0 program;
      lines = functions_code program (texts_of program) 0 program;
    }
