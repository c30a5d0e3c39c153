-- The first instruction of each function has a line.
use Rattle.std.proofs.Common.{◌≡◌, ℕ, suc, zero, ◌+◌, ◌≤◌, List, [], ◌∷◌, ◌++◌, length, Some, None, refl, sym, ap, ◌∙◌, subst, arith}
use Rattle.std.specs.Prelude.{slice_get}
use Rattle.kern_syntax.specs.Tree.{Bytes, Statement, if_then, while_do, for_range, parallel, sequential, record_as, try_do, Block, done, line_then, Otherwise, no_else, else_do, elif_then, FunctionTree, ProgramTree}
use Rattle.core_isa.specs.declared.code.CodeFunction.{CodeFunction}
use Rattle.code_follows.proofs.Lists.{get_behind}
use Rattle.code_forms.specs.declared.test_kind.TestKind.TheVariants.{Branch}
use Rattle.code_forms.specs.Conditions.{is_turned, asked, test_size}
use Rattle.code_forms.specs.Programs.{entries_of, entry_of, function_size, plain_names, setting_of}
use Rattle.code_forms.specs.Setting.{Setting}
use Rattle.code_forms.specs.Sizes.{when, has_second, parallel_begin_size, expression_size, from_size, exit_size, statement_size, block_size}
use Rattle.code_forms.specs.Texts.{texts_of}
use Rattle.kernel_lines.specs.HaveLines.{StatementHasLines, BlockHasLines, OtherwiseHasLines, ProgramHasLines}
use Rattle.kernel_lines.specs.KernelLines.{of_line, statement_lines, block_lines, parallel_lines, others_lines, otherwise_lines, function_lines, functions_lines, program_lines}
use Rattle.kernel_lines.specs.Laws.{FirstsHaveLines, HasLine}
use Rattle.kernel_lines.proofs.Lengths.{length-function}

-- the first of some lines, if there is one, isn't 0
abbrev Begins : List ℕ → Type 0
Begins [] = Unit {0}
Begins (n ∷ rest) = 1 ≤ n

join : (a b : List ℕ) → Begins a → Begins b → Begins (a ++ b)
join [] b first second = second
join (n ∷ a) b first second = first

all : (line n : ℕ) → 1 ≤ line → Begins (of_line line n)
all line zero own = tt
all line (suc n) own = own

module _ (setting : Setting) where
  branch : (tries kept line n m : ℕ) (b : Block) (rest : Otherwise) → 1 ≤ line → Begins (block_lines setting tries kept b) → Begins (otherwise_lines setting tries kept rest)
      → Begins (of_line line n ++ block_lines setting tries kept b ++ of_line line m ++ otherwise_lines setting tries kept rest)
  branch tries kept line n m b rest own inner others =
      join (of_line line n ++ block_lines setting tries kept b ++ of_line line m) (otherwise_lines setting tries kept rest)
      (join (of_line line n ++ block_lines setting tries kept b) (of_line line m) (join (of_line line n) (block_lines setting tries kept b) (all line n own) inner) (all line m own))
      others

  mutual
    begins_statement : (tries kept line : ℕ) (s : Statement) → 1 ≤ line → StatementHasLines s → Begins (statement_lines setting tries kept line s)
    begins_statement tries kept line (if_then c b rest) own have =
        branch tries kept line (expression_size setting (asked Branch c) + test_size (is_turned Branch c)) (exit_size setting rest) b rest own (begins_block tries kept b have.0) (begins_otherwise tries kept rest have.1)
    begins_statement tries kept line (while_do c b) own have = own
    begins_statement tries kept line (for_range x from to b) own have =
        let n = from_size setting from + expression_size setting to + 10 in
        join (of_line line n ++ block_lines setting tries tries b) (of_line line 4) (join (of_line line n) (block_lines setting tries tries b) (all line n own) (begins_block tries tries b have)) own
    begins_statement tries kept line (parallel b) own have =
        let n = parallel_begin_size (has_second b) in
        join (of_line line n) (parallel_lines setting tries kept line b) (all line n own) (begins_parallel tries kept line b own have)
    begins_statement tries kept line (sequential b) own have = begins_block tries kept b have
    begins_statement tries kept line (record_as name b) own have = own
    begins_statement tries kept line (try_do b handlers) own have = own
    begins_statement tries kept line s own have = all line (statement_size setting tries kept s) own

    begins_block : (tries kept : ℕ) (b : Block) → BlockHasLines b → Begins (block_lines setting tries kept b)
    begins_block tries kept done have = tt
    begins_block tries kept (line_then line s rest) have =
        join (statement_lines setting tries kept line s) (block_lines setting tries kept rest) (begins_statement tries kept line s have.0 have.1) (begins_block tries kept rest have.2)

    begins_parallel : (tries kept header : ℕ) (b : Block) → 1 ≤ header → BlockHasLines b → Begins (parallel_lines setting tries kept header b)
    begins_parallel tries kept header done own have = tt
    begins_parallel tries kept header (line_then line s rest) own have =
        join (statement_lines setting tries kept line s) (others_lines setting tries kept header rest) (begins_statement tries kept line s have.0 have.1) (begins_others tries kept header rest own)

    begins_others : (tries kept header : ℕ) (b : Block) → 1 ≤ header → Begins (others_lines setting tries kept header b)
    begins_others tries kept header done own = own
    begins_others tries kept header (line_then line s rest) own = own

    begins_otherwise : (tries kept : ℕ) (rest : Otherwise) → OtherwiseHasLines rest → Begins (otherwise_lines setting tries kept rest)
    begins_otherwise tries kept no_else have = tt
    begins_otherwise tries kept (else_do b) have = begins_block tries kept b have
    begins_otherwise tries kept (elif_then line c b rest) have =
        branch tries kept line (expression_size setting (asked Branch c) + test_size (is_turned Branch c)) (exit_size setting rest) b rest have.0 (begins_block tries kept b have.1) (begins_otherwise tries kept rest have.2)

begins_function : (program : ProgramTree) (texts : List Bytes) (f : FunctionTree) → 1 ≤ f.line → BlockHasLines f.body → Begins (function_lines program texts f)
begins_function program texts f own have =
    let setting = setting_of program texts f in
    join (block_lines setting 0 0 f.body) (of_line f.line (when setting.value + 1)) (begins_block setting 0 0 f.body have) (all f.line (when setting.value + 1) own)

-- the first of some lines that there are
first_of : (lines more : List ℕ) → 1 ≤ length lines → Begins lines → HasLine (lines ++ more) 0
first_of [] more some begins = absurd (omega (arith, some))
first_of (n ∷ rest) more some begins = (n, refl, begins)

-- how far behind the first of some functions one begins, and its line there
abbrev IsThere : List ℕ → (place : ℕ) → CodeFunction → Type 0
IsThere lines place entry = (far : ℕ) × (entry.first ≡ place + far) × HasLine lines far

module _ (program : ProgramTree) (plain texts : List Bytes) where
  there : (place : ℕ) (functions : List FunctionTree) → ProgramHasLines functions → (index : ℕ) (entry : CodeFunction)
      → slice_get (entries_of program plain texts place functions) index ≡ Some entry
      → IsThere (functions_lines program texts functions) place entry
  there place [] have index entry found = absurd (let no : None ≡ Some entry = found in cc)
  there place (f ∷ rest) have zero entry found =
      let same : entry_of program plain place f ≡ entry = (let both : Some (entry_of program plain place f) ≡ Some entry = found in cc) in
      let some : 1 ≤ length (function_lines program texts f) =
      (let setting = setting_of program texts f in
      let long : length (function_lines program texts f) ≡ block_size setting 0 0 f.body + (when setting.value + 1) = length-function program texts f in
      omega (arith, long))
      in (
        0,
        ap (λ (e : CodeFunction). e.first) (sym same) ∙ (let e : place ≡ place + 0 = omega arith in e),
        first_of (function_lines program texts f) (functions_lines program texts rest) some (begins_function program texts f have.0 have.1),
      )
  there place (f ∷ rest) have (suc index) entry found =
      let own = function_lines program texts f in
      let size = function_size program texts f in
      let long : length own ≡ size = length-function program texts f in
      let behind = there (place + size) rest have.2 index entry found in
      let line = behind.2 in
      let at : slice_get (own ++ functions_lines program texts rest) (length own + behind.0) ≡ Some line.0 =
      get_behind own (functions_lines program texts rest) behind.0 ∙ line.1
      in (
        length own + behind.0,
        (let first : entry.first ≡ place + size + behind.0 = behind.1 in omega (arith, first, long)),
        (line.0, at, line.2),
      )

pub firsts_have_lines : (program : ProgramTree) → ProgramHasLines program → FirstsHaveLines program
firsts_have_lines program have index entry found =
    let it = there program (plain_names [] program) (texts_of program) 0 program have index entry found in
    let same : it.0 ≡ entry.first = (let first : entry.first ≡ 0 + it.0 = it.1 in omega (arith, first)) in
    subst (HasLine (program_lines program)) same it.2
