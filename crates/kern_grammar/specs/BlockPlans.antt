-- For the proofs alone: statements with blocks, functions and
-- programs, which Blocks defines, stated again as plans of reading.
use Rattle.std.specs.Prelude.{◌≡◌, ℕ, zero, suc, Bool, true, false, not, List}
use Rattle.std.specs.Prelude.{[], ◌∷◌, Option, Some, None, IsTrue, codes}
use Rattle.kern_lexer.specs.Bytes.{Bytes}
use Rattle.kern_lexer.specs.Symbols.{Symbol, Lexeme}
use Rattle.kern_syntax.specs.declared.program.DeclaredType.{DeclaredType}
use Rattle.kern_syntax.specs.Grammatical.{has_statement, IsStatement, AreLines, IsFunction}
use Rattle.kern_syntax.specs.Tree.{Expression, Statement, if_then, while_do, for_range, parallel, sequential}
use Rattle.kern_syntax.specs.Tree.{record_as, try_do, Block, line_then, Otherwise, no_else, else_do, elif_then}
use Rattle.kern_syntax.specs.Tree.{Handlers, no_handler, except_then, ParameterTree, FunctionTree, ProgramTree}
use Rattle.kern_syntax.specs.Tree as Tree
use Rattle.kern_grammar.specs.Blocks.{body, lines, statement, function}
use Rattle.kern_grammar.specs.Phrases.{on_line}
use Rattle.kern_grammar.specs.Plans.{Taker, Plan, done, token, peek, part, last, run, Spells}
use Rattle.kern_grammar.specs.Plans.{many, EachOf, ends_with, EachEnds, maybe, MaybeOf, MaybeEnds}
use Rattle.kern_grammar.specs.SimplePlans.{an_expression, Line, simple_plan, simple_line_plan}
use Rattle.kern_grammar.specs.Views.{line_end, indented, dedented, text_end, colon, comma, dot, at_sign}
use Rattle.kern_grammar.specs.Views.{open_parenthesis, close_parenthesis, in_key, def_key, elif_key, else_key}
use Rattle.kern_grammar.specs.Views.{except_key, is_seen, a_name, a_text, the_name, a_type, WithItem}
use Rattle.kern_grammar.specs.Views.{in_parallel, in_sequence, recording, a_with_item, comma_or_close}
use Rattle.kern_grammar.specs.Views.{arrow_or_colon, Opening, ifs, whiles, fors, withs, tries, opening, any}

-- the tokens of a statement with its line, with room for so many blocks in one another
abbrev pub line_phrase : (room : ℕ) → Line → List Lexeme → Type 0
line_phrase room x tokens = (on_line x.0 (statement x.1)) tokens × IsStatement room x.1

abbrev pub is_elif : Symbol → Bool
is_elif s = is_seen (elif_key s)

abbrev pub is_else : Symbol → Bool
is_else s = is_seen (else_key s)

abbrev pub is_except : Symbol → Bool
is_except s = is_seen (except_key s)

-- what follows doesn't go on with the branches of an `if`
abbrev pub otherwise_stop : Otherwise → List Lexeme → Type 0
otherwise_stop no_else rest = (ends_with is_else rest ≡ true) × (ends_with is_elif rest ≡ true)
otherwise_stop (else_do b) rest = Unit {0}
otherwise_stop (elif_then line c b more) rest = otherwise_stop more rest

-- what follows doesn't go on with a statement
abbrev pub statement_stop : Statement → List Lexeme → Type 0
statement_stop (if_then c b more) rest = otherwise_stop more rest
statement_stop (try_do b handlers) rest = ends_with is_except rest ≡ true
statement_stop s rest = Unit {0}

abbrev pub line_stop : Line → List Lexeme → Type 0
line_stop x rest = statement_stop x.1 rest

-- anything may follow
abbrev pub no_stop : {A : Type 0} → A → List Lexeme → Type 0
no_stop x rest = Unit {0}

-- a block of statements with their lines
abbrev pub block_of_lines : List Line → Block
block_of_lines [] = Tree.done
block_of_lines (x ∷ more) = line_then x.0 x.1 (block_of_lines more)

-- the tokens of a block, with room for so many blocks in it
abbrev pub block_phrase : (room : ℕ) → Block → List Lexeme → Type 0
block_phrase room b tokens = (body b (lines b)) tokens × (IsTrue (has_statement b) × AreLines room b)

-- a statement of a block begins, where the block doesn't end
abbrev pub is_line : Symbol → Bool
is_line s = not (is_seen (dedented s))

-- a block: indented lines, or one line behind the header
abbrev pub block_by : (room : ℕ) → Taker Line → Lexeme → (is_indented : Bool) → Plan Block
block_by room take t true =
    token line_end (λ seen. token indented (λ seen. part (line_phrase room) line_stop take (λ first.
    part (EachOf (line_phrase room)) (EachEnds line_stop is_line) (many is_line take) (λ more. token dedented (λ seen. done (block_of_lines (first ∷ more)))))))
block_by room take t false = simple_plan (λ s. line_then t.line s Tree.done) (opening t.symbol)

abbrev pub block_plan : (room : ℕ) → Taker Line → Plan Block
block_plan room take = peek (λ t. block_by room take t (is_seen (line_end t.symbol)))

-- a colon and a block
abbrev pub a_block : {A : Type 0} → (room : ℕ) → Taker Line → (Block → Plan A) → Plan A
a_block room take next = token colon (λ seen. part (block_phrase room) no_stop (run (block_plan room take)) next)

-- an `elif` branch with its line
abbrev pub ElifLine : Type 0
ElifLine = ℕ × Expression × Block

abbrev pub elif_plan : (room : ℕ) → Taker Line → Plan ElifLine
elif_plan room take = peek (λ t. token elif_key (λ seen. an_expression 16 (λ c. a_block room take (λ b. done (t.line, c, b)))))

-- an `else` branch
abbrev pub else_plan : (room : ℕ) → Taker Line → Plan Block
else_plan room take = token else_key (λ seen. a_block room take (λ b. done b))

-- the branches behind an `if`
abbrev pub otherwise_of : List ElifLine → Option Block → Otherwise
otherwise_of [] None = no_else
otherwise_of [] (Some b) = else_do b
otherwise_of (x ∷ more) ending = elif_then x.0 x.1 x.2 (otherwise_of more ending)

abbrev pub branches_plan : {A : Type 0} → (room : ℕ) → Taker Line → (Otherwise → A) → Plan A
branches_plan room take build =
    part (EachOf (Spells (elif_plan room take))) (EachEnds no_stop is_elif) (many is_elif (run (elif_plan room take))) (λ more.
    last (MaybeOf (Spells (else_plan room take))) (MaybeEnds no_stop is_else is_elif) (maybe is_else is_elif (run (else_plan room take))) (λ end. build (otherwise_of more end)))

-- an `except` branch with its line
abbrev pub ExceptLine : Type 0
ExceptLine = ℕ × Bytes × Block

abbrev pub except_plan : (room : ℕ) → Taker Line → Plan ExceptLine
except_plan room take = peek (λ t. token except_key (λ seen. token a_name (λ x. a_block room take (λ b. done (t.line, x, b)))))

abbrev pub handlers_of_lines : List ExceptLine → Handlers
handlers_of_lines [] = no_handler
handlers_of_lines (x ∷ more) = except_then x.0 x.1 x.2 (handlers_of_lines more)

-- the branches behind a `try`, of which there is one at least
abbrev pub handlers_plan : {A : Type 0} → (room : ℕ) → Taker Line → (Handlers → A) → Plan A
handlers_plan room take build =
    part (Spells (except_plan room take)) no_stop (run (except_plan room take)) (λ first.
    last (EachOf (Spells (except_plan room take))) (EachEnds no_stop is_except) (many is_except (run (except_plan room take))) (λ more. build (handlers_of_lines (first ∷ more))))

-- the upper bound of a `for`, where a lower one came first
abbrev pub range_plan : {A : Type 0} → (Option Expression → Expression → Plan A) → Expression → (has_more : Bool) → Plan A
range_plan next first true = an_expression 15 (λ to. token close_parenthesis (λ seen. next (Some first) to))
range_plan next first false = next None first

-- what the item of a `with` is
abbrev pub with_plan : (room : ℕ) → Taker Line → (line : ℕ) → WithItem → Plan Line
with_plan room take line in_parallel = a_block room take (λ b. done (line, parallel b))
with_plan room take line in_sequence = a_block room take (λ b. done (line, sequential b))
with_plan room take line recording =
    token dot (λ seen. token (the_name (codes "record")) (λ seen. token open_parenthesis (λ seen. token a_text (λ text. token close_parenthesis (λ seen.
    a_block room take (λ b. done (line, record_as text b)))))))

-- a statement with room for blocks, by how it begins
abbrev pub statement_plan : (room : ℕ) → Taker Line → (line : ℕ) → Opening → Plan Line
statement_plan room take line ifs =
    token any (λ seen. an_expression 16 (λ c. a_block room take (λ b. branches_plan room take (λ more. (line, if_then c b more)))))
statement_plan room take line whiles = token any (λ seen. an_expression 16 (λ c. a_block room take (λ b. done (line, while_do c b))))
statement_plan room take line fors =
    token any (λ seen. token a_name (λ x. token in_key (λ seen. token (the_name (codes "range")) (λ seen. token open_parenthesis (λ seen.
    an_expression 15 (λ first. token comma_or_close (range_plan (λ from to. a_block room take (λ b. done (line, for_range x from to b))) first)))))))
statement_plan room take line withs = token any (λ seen. token a_with_item (with_plan room take line))
statement_plan room take line tries =
    token any (λ seen. a_block room take (λ b. handlers_plan room take (λ handlers. (line, try_do b handlers))))
statement_plan room take line o = simple_plan (λ s. (line, s)) o

-- a statement with its line, with room for so many blocks in one another
abbrev pub line_plan : (room : ℕ) → Plan Line
line_plan zero = simple_line_plan
line_plan (suc room) = peek (λ t. statement_plan room (run (line_plan room)) t.line (opening t.symbol))

-- a parameter
abbrev pub a_parameter : {A : Type 0} → (ParameterTree → Plan A) → Plan A
a_parameter next = token a_name (λ x. token colon (λ seen. token a_type (λ d. next (record { name = x; declared = d }))))

abbrev pub comma_parameter : Plan ParameterTree
comma_parameter = token comma (λ seen. a_parameter (λ p. done p))

abbrev pub is_comma : Symbol → Bool
is_comma s = is_seen (comma s)

abbrev pub more_parameters : {A : Type 0} → (List ParameterTree → Plan A) → Plan A
more_parameters next = part (EachOf (Spells comma_parameter)) (EachEnds no_stop is_comma) (many is_comma (run comma_parameter)) next

-- the block of a function
abbrev pub function_block : (line : ℕ) → Bytes → List ParameterTree → Option DeclaredType → Plan FunctionTree
function_block line name parameters result =
    part (block_phrase 15) no_stop (run (block_plan 15 (run (line_plan 15)))) (λ b.
    done (record { line = line; name = name; parameters = parameters; result = result; body = b }))

-- the result type, or none
abbrev pub result_plan : (line : ℕ) → Bytes → List ParameterTree → (has_result : Bool) → Plan FunctionTree
result_plan line name parameters true = token a_type (λ d. token colon (λ seen. function_block line name parameters (Some d)))
result_plan line name parameters false = function_block line name parameters None

-- parameters, or none
abbrev pub parameters_plan : (line : ℕ) → Bytes → (is_empty : Bool) → Plan FunctionTree
parameters_plan line name true = token any (λ seen. token arrow_or_colon (result_plan line name []))
parameters_plan line name false =
    a_parameter (λ p. more_parameters (λ more. token close_parenthesis (λ seen. token arrow_or_colon (result_plan line name (p ∷ more)))))

-- a function without decorator
abbrev pub def_plan : Plan FunctionTree
def_plan =
    peek (λ t. token def_key (λ seen. token a_name (λ name. token open_parenthesis (λ seen.
    peek (λ u. parameters_plan t.line name (is_seen (close_parenthesis u.symbol)))))))

abbrev pub decorated : (has_decorator : Bool) → Plan FunctionTree
decorated true = token any (λ seen. token (the_name (codes "kernel")) (λ seen. token line_end (λ seen. def_plan)))
decorated false = def_plan

-- a function
abbrev pub function_plan : Plan FunctionTree
function_plan = peek (λ t. decorated (is_seen (at_sign t.symbol)))

abbrev pub function_phrase : FunctionTree → List Lexeme → Type 0
function_phrase f tokens = (function f) tokens × IsFunction f

-- a function begins, where the text doesn't end
abbrev pub is_function : Symbol → Bool
is_function s = not (is_seen (text_end s))

-- a program
abbrev pub program_plan : Plan ProgramTree
program_plan =
    part function_phrase no_stop (run function_plan) (λ f.
    part (EachOf function_phrase) (EachEnds no_stop is_function) (many is_function (run function_plan)) (λ more.
    token text_end (λ seen. done (f ∷ more))))
