-- The line of the kernel's text that each instruction has: that of the innermost statement, `elif` or `except` whose
-- code it is. What compares an exception on its way with the name of a handler, and what raises it again where none
-- fits, has line 0: nothing is asked there, and nothing is raised that wasn't on its way before.
use Rattle.std.specs.Prelude.{ℕ, ◌+◌, List, [], ◌∷◌, ◌++◌, replicate}
use Rattle.kern_syntax.specs.Tree.{Bytes, Statement, if_then, while_do, for_range, parallel, sequential, record_as}
use Rattle.kern_syntax.specs.Tree.{try_do, Block, done, line_then, Otherwise, no_else, else_do, elif_then, Handlers}
use Rattle.kern_syntax.specs.Tree.{no_handler, except_then, FunctionTree, ProgramTree}
use Rattle.code_forms.specs.declared.test_kind.TestKind.TheVariants.{Branch, LoopEnd}
use Rattle.code_forms.specs.Conditions.{is_turned, asked, test_size, loop_size}
use Rattle.code_forms.specs.Programs.{setting_of}
use Rattle.code_forms.specs.Setting.{Setting}
use Rattle.code_forms.specs.Sizes.{when, has_second, parallel_begin_size, expression_size, from_size, exit_size}
use Rattle.code_forms.specs.Sizes.{statement_size}
use Rattle.code_forms.specs.Texts.{texts_of}

-- so many instructions of a line
abbrev pub of_line : (line count : ℕ) → List ℕ
of_line line count = replicate count line

module _ (setting : Setting) where
  abbrev mutual
    -- of a statement that stands at a line, under so many handlers, of which so many stood before the enclosing loop:
    -- what isn't of a statement inside it has its line. So has a `for`'s step, what begins, parts and joins the
    -- statements of a parallel block, the end of a recording, and what goes past the handlers of a `try`
    pub statement_lines : (tries kept line : ℕ) → Statement → List ℕ
    statement_lines tries kept line (if_then c b rest) =
        of_line line (expression_size setting (asked Branch c) + test_size (is_turned Branch c))
        ++ block_lines tries kept b
        ++ of_line line (exit_size setting rest)
        ++ otherwise_lines tries kept rest
    statement_lines tries kept line (while_do c b) =
        of_line line 2
        ++ block_lines tries tries b
        ++ of_line line (expression_size setting (asked LoopEnd c) + loop_size (is_turned LoopEnd c))
    statement_lines tries kept line (for_range x from to b) =
        of_line line (from_size setting from + expression_size setting to + 10)
        ++ block_lines tries tries b
        ++ of_line line 4
    statement_lines tries kept line (parallel b) =
        of_line line (parallel_begin_size (has_second b)) ++ parallel_lines tries kept line b
    statement_lines tries kept line (sequential b) = block_lines tries kept b
    statement_lines tries kept line (record_as name b) =
        of_line line 1 ++ block_lines tries kept b ++ of_line line 1
    statement_lines tries kept line (try_do b handlers) =
        of_line line 1 ++ block_lines (tries + 1) kept b ++ of_line line 2 ++ handlers_lines tries kept handlers
    statement_lines tries kept line s = of_line line (statement_size setting tries kept s)

    -- of a block
    pub block_lines : (tries kept : ℕ) → Block → List ℕ
    block_lines tries kept done = []
    block_lines tries kept (line_then line s rest) =
        statement_lines tries kept line s ++ block_lines tries kept rest

    -- of the statements of a parallel block whose header stands at a line
    pub parallel_lines : (tries kept header : ℕ) → Block → List ℕ
    parallel_lines tries kept header done = []
    parallel_lines tries kept header (line_then line s rest) =
        statement_lines tries kept line s ++ others_lines tries kept header rest

    -- of those behind one of them
    pub others_lines : (tries kept header : ℕ) → Block → List ℕ
    others_lines tries kept header done = of_line header 4
    others_lines tries kept header (line_then line s rest) =
        of_line header 6 ++ statement_lines tries kept line s ++ others_lines tries kept header rest

    -- of the further branches of an `if`: an `elif` has its own line
    pub otherwise_lines : (tries kept : ℕ) → Otherwise → List ℕ
    otherwise_lines tries kept no_else = []
    otherwise_lines tries kept (else_do b) = block_lines tries kept b
    otherwise_lines tries kept (elif_then line c b rest) =
        of_line line (expression_size setting (asked Branch c) + test_size (is_turned Branch c))
        ++ block_lines tries kept b
        ++ of_line line (exit_size setting rest)
        ++ otherwise_lines tries kept rest

    -- of handlers: a name is compared by four instructions; what drops the exception that is
    -- taken, and what goes past the further handlers, has the line of the `except`
    pub handlers_lines : (tries kept : ℕ) → Handlers → List ℕ
    handlers_lines tries kept no_handler = of_line 0 1
    handlers_lines tries kept (except_then line name b rest) =
        of_line 0 4
        ++ of_line line 1
        ++ block_lines tries kept b
        ++ of_line line 1
        ++ handlers_lines tries kept rest

-- of the body of a function whose `def` stands at a line, which is that of its end
abbrev pub body_lines : Setting → (line : ℕ) → Block → List ℕ
body_lines setting line b = block_lines setting 0 0 b ++ of_line line (when setting.value + 1)

-- of a function
abbrev pub function_lines : ProgramTree → (texts : List Bytes) → FunctionTree → List ℕ
function_lines program texts f = body_lines (setting_of program texts f) f.line f.body

-- of functions one after another
abbrev pub functions_lines : ProgramTree → (texts : List Bytes) → List FunctionTree → List ℕ
functions_lines program texts [] = []
functions_lines program texts (f ∷ rest) = function_lines program texts f ++ functions_lines program texts rest

-- of the code of a program
abbrev pub program_lines : ProgramTree → List ℕ
program_lines program = functions_lines program (texts_of program) program
