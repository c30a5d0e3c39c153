-- There are as many lines as instructions.
use Rattle.std.proofs.Common.{◌≡◌, ℕ, ◌+◌, List, [], ◌∷◌, ◌++◌, length, refl, sym, ◌∙◌, arith, length-append}
use Rattle.std.proofs.lemmas.List.{length-replicate}
use Rattle.kern_syntax.specs.Tree.{Bytes, Statement, if_then, while_do, for_range, parallel, sequential, record_as, try_do, Block, done, line_then, Otherwise, no_else, else_do, elif_then, Handlers, no_handler, except_then, FunctionTree, ProgramTree}
use Rattle.code_forms.specs.declared.test_kind.TestKind.TheVariants.{Branch, LoopEnd}
use Rattle.code_forms.specs.Conditions.{is_turned, asked, test_size, loop_size}
use Rattle.code_forms.specs.Laws.{FunctionsHaveTheirSize}
use Rattle.code_forms.specs.Programs.{setting_of, function_code, function_size, functions_code}
use Rattle.code_forms.specs.Setting.{Setting}
use Rattle.code_forms.specs.Sizes.{when, has_second, parallel_begin_size, expression_size, from_size, exit_size, statement_size, block_size, parallel_size, others_size, otherwise_size, handlers_size}
use Rattle.code_forms.specs.Texts.{texts_of}
use Rattle.kernel_lines.specs.KernelLines.{of_line, statement_lines, block_lines, parallel_lines, others_lines, otherwise_lines, handlers_lines, function_lines, functions_lines}
use Rattle.kernel_lines.specs.Laws.{HaveTheirSize, InstructionsHaveLines}

-- how many there are in lists one behind the other
two : (a b : List ℕ) {n m : ℕ} → length a ≡ n → length b ≡ m → length (a ++ b) ≡ n + m
two a b ea eb = omega (arith, length-append a b, ea, eb)

three : (a b c : List ℕ) {n m k : ℕ} → length a ≡ n → length b ≡ m → length c ≡ k → length (a ++ b ++ c) ≡ n + (m + k)
three a b c ea eb ec = omega (arith, length-append (a ++ b) c, two a b ea eb, ec)

four : (a b c d : List ℕ) {n m k l : ℕ} → length a ≡ n → length b ≡ m → length c ≡ k → length d ≡ l → length (a ++ b ++ c ++ d) ≡ n + (m + (k + l))
four a b c d ea eb ec ed = omega (arith, length-append (a ++ b ++ c) d, three a b c ea eb ec, ed)

five : (a b c d e : List ℕ) {n m k l j : ℕ} → length a ≡ n → length b ≡ m → length c ≡ k → length d ≡ l → length e ≡ j → length (a ++ b ++ c ++ d ++ e) ≡ n + (m + (k + (l + j)))
five a b c d e ea eb ec ed ee = omega (arith, length-append (a ++ b ++ c ++ d) e, four a b c d ea eb ec ed, ee)

-- so many of a line
all : (line n : ℕ) → length (of_line line n) ≡ n
all line n = length-replicate n line

-- the same sums
regroup4 : (a b c d e : ℕ) → (a + b) + (c + (d + e)) ≡ a + (b + (c + (d + e)))
regroup4 a b c d e = omega arith

regroup-for : (f e b : ℕ) → (f + e + 10) + (b + 4) ≡ f + (e + (10 + (b + 4)))
regroup-for f e b = omega arith

regroup-handler : (b h : ℕ) → 4 + (1 + (b + (1 + h))) ≡ 5 + (b + (1 + h))
regroup-handler b h = omega arith

-- of each part there are as many as its size says
module _ (setting : Setting) where
  mutual
    pub length-statement : (tries kept line : ℕ) (s : Statement) → length (statement_lines setting tries kept line s) ≡ statement_size setting tries kept s
    length-statement tries kept line (if_then c b rest) =
        let e = expression_size setting (asked Branch c) in
        let t = test_size (is_turned Branch c) in
        four (of_line line (e + t)) (block_lines setting tries kept b) (of_line line (exit_size setting rest)) (otherwise_lines setting tries kept rest) (all line (e + t)) (length-block tries kept b) (all line (exit_size setting rest)) (length-otherwise tries kept rest)
        ∙ regroup4 e t (block_size setting tries kept b) (exit_size setting rest) (otherwise_size setting tries kept rest)
    length-statement tries kept line (while_do c b) =
        let e = expression_size setting (asked LoopEnd c) in
        let t = loop_size (is_turned LoopEnd c) in
        three (of_line line 2) (block_lines setting tries tries b) (of_line line (e + t)) (all line 2) (length-block tries tries b) (all line (e + t))
    length-statement tries kept line (for_range x from to b) =
        let f = from_size setting from in
        let e = expression_size setting to in
        three (of_line line (f + e + 10)) (block_lines setting tries tries b) (of_line line 4) (all line (f + e + 10)) (length-block tries tries b) (all line 4)
        ∙ regroup-for f e (block_size setting tries tries b)
    length-statement tries kept line (parallel b) =
        two (of_line line (parallel_begin_size (has_second b))) (parallel_lines setting tries kept line b) (all line (parallel_begin_size (has_second b))) (length-parallel tries kept line b)
    length-statement tries kept line (sequential b) = length-block tries kept b
    length-statement tries kept line (record_as name b) =
        three (of_line line 1) (block_lines setting tries kept b) (of_line line 1) (all line 1) (length-block tries kept b) (all line 1)
    length-statement tries kept line (try_do b handlers) =
        four (of_line line 1) (block_lines setting (tries + 1) kept b) (of_line line 2) (handlers_lines setting tries kept handlers) (all line 1) (length-block (tries + 1) kept b) (all line 2) (length-handlers tries kept handlers)
    length-statement tries kept line s = all line (statement_size setting tries kept s)

    pub length-block : (tries kept : ℕ) (b : Block) → length (block_lines setting tries kept b) ≡ block_size setting tries kept b
    length-block tries kept done = refl
    length-block tries kept (line_then line s rest) =
        two (statement_lines setting tries kept line s) (block_lines setting tries kept rest) (length-statement tries kept line s) (length-block tries kept rest)

    pub length-parallel : (tries kept header : ℕ) (b : Block) → length (parallel_lines setting tries kept header b) ≡ parallel_size setting tries kept b
    length-parallel tries kept header done = refl
    length-parallel tries kept header (line_then line s rest) =
        two (statement_lines setting tries kept line s) (others_lines setting tries kept header rest) (length-statement tries kept line s) (length-others tries kept header rest)

    pub length-others : (tries kept header : ℕ) (b : Block) → length (others_lines setting tries kept header b) ≡ others_size setting tries kept b
    length-others tries kept header done = refl
    length-others tries kept header (line_then line s rest) =
        three (of_line header 6) (statement_lines setting tries kept line s) (others_lines setting tries kept header rest) (all header 6) (length-statement tries kept line s) (length-others tries kept header rest)

    pub length-otherwise : (tries kept : ℕ) (rest : Otherwise) → length (otherwise_lines setting tries kept rest) ≡ otherwise_size setting tries kept rest
    length-otherwise tries kept no_else = refl
    length-otherwise tries kept (else_do b) = length-block tries kept b
    length-otherwise tries kept (elif_then line c b rest) =
        let e = expression_size setting (asked Branch c) in
        let t = test_size (is_turned Branch c) in
        four (of_line line (e + t)) (block_lines setting tries kept b) (of_line line (exit_size setting rest)) (otherwise_lines setting tries kept rest) (all line (e + t)) (length-block tries kept b) (all line (exit_size setting rest)) (length-otherwise tries kept rest)
        ∙ regroup4 e t (block_size setting tries kept b) (exit_size setting rest) (otherwise_size setting tries kept rest)

    pub length-handlers : (tries kept : ℕ) (handlers : Handlers) → length (handlers_lines setting tries kept handlers) ≡ handlers_size setting tries kept handlers
    length-handlers tries kept no_handler = refl
    length-handlers tries kept (except_then line name b rest) =
        five (of_line 0 4) (of_line line 1) (block_lines setting tries kept b) (of_line line 1) (handlers_lines setting tries kept rest) (all 0 4) (all line 1) (length-block tries kept b) (all line 1) (length-handlers tries kept rest)
        ∙ regroup-handler (block_size setting tries kept b) (handlers_size setting tries kept rest)

pub have_their_size : (setting : Setting) → HaveTheirSize setting
have_their_size setting =
    record {
      statements = length-statement setting;
      blocks = length-block setting;
      parallel_blocks = length-parallel setting;
      others = length-others setting;
      branches = length-otherwise setting;
      handlers = length-handlers setting;
    }

-- of a function, and of some
pub length-function : (program : ProgramTree) (texts : List Bytes) (f : FunctionTree) → length (function_lines program texts f) ≡ function_size program texts f
length-function program texts f =
    let setting = setting_of program texts f in
    two (block_lines setting 0 0 f.body) (of_line f.line (when setting.value + 1)) (length-block setting 0 0 f.body) (all f.line (when setting.value + 1))

length-functions : (program : ProgramTree) (texts : List Bytes) → FunctionsHaveTheirSize program texts → (place : ℕ) (functions : List FunctionTree) → length (functions_lines program texts functions) ≡ length (functions_code program texts place functions)
length-functions program texts sized place [] = refl
length-functions program texts sized place (f ∷ rest) =
    let behind = place + function_size program texts f in
    two (function_lines program texts f) (functions_lines program texts rest) (length-function program texts f ∙ sym (sized place f)) (length-functions program texts sized behind rest)
    ∙ sym (length-append (function_code program texts place f) (functions_code program texts behind rest))

pub instructions_have_lines : (program : ProgramTree) → FunctionsHaveTheirSize program (texts_of program) → InstructionsHaveLines program
instructions_have_lines program sized = length-functions program (texts_of program) sized 0 program
