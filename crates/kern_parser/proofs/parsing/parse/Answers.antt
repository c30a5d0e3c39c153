use Rattle.std.proofs.Common.{◌≡◌, ℕ, List, ◌≤◌, ◌<◌, ◌+◌, ◌*◌, ◌^◌, ◌-◌, ◌∙◌, ap, subst, sym, arith, length}
use Rattle.std.proofs.lemmas.List.{length-map}
use Rattle.std.specs.Prelude.{Option, Some, Ok, Err}
use Rattle.kern_lexer.specs.Bytes.{Bytes}
use Rattle.kern_lexer.specs.Spelled.{EndsOnce}
use Rattle.kern_lexer.specs.Symbols.{lexeme_of, lexemes_of}
use Rattle.kern_lexer.specs.declared.token.Token.{Token}
use Rattle.kern_syntax.specs.declared.program.Function.{Function}
use Rattle.kern_syntax.specs.Tree.{ProgramTree}
use Rattle.kern_syntax.specs.TreeOf.{tree_of}
use Rattle.kern_grammar.specs.Accepted.{HasTree, IsFirstFault}
use Rattle.kern_grammar.specs.BlockPlans.{program_plan}
use Rattle.kern_grammar.specs.Plans.{run}
use Rattle.kern_expressions.specs.Kept.{KeptAs}
use Rattle.kern_expressions.specs.TakenBy.{GivesTaken, lexemes_left}
use Rattle.kern_expressions.specs.declared.tokens.Tokens.{Tokens}
use Rattle.kern_expressions.specs.declared.tokens.WrongToken.{WrongToken}
use Rattle.kern_expressions.proofs.Exits.{found, refused}
use Rattle.kern_grammar.proofs.FirstFaults.{no_fault, one_fault}
use Rattle.kern_grammar.proofs.ParseExits.{lexed-spelled, lexed-spellable, lexed-ended, read-lexed, fault-there, left-within, not-both}
use Rattle.kern_grammar.proofs.ProgramReads
use Rattle.kern_parser.specs.declared.parsing.SyntaxEnd.TheVariants as E
use Rattle.kern_parser.proofs.parsing.parse.Goals as goal

-- where a program was read there is its tree, whether it was kept or lost
tree_there : (text : Bytes) (tokens : List Token) (program : Option (List Function)) (at rest : Tokens) → EndsOnce text tokens → lexemes_left at ≡ lexemes_of text tokens → GivesTaken tree_of (Ok (program, rest)) (run program_plan (lexemes_left at)) → (tree : ProgramTree) × KeptAs tree_of program tree × HasTree (lexemes_of text tokens) tree
tree_there text tokens program at rest ends_once same h =
    let read = found lexemes_left (KeptAs tree_of) program rest (run program_plan (lexemes_left at)) h in
    (read.0, read.1, read-lexed text tokens ends_once read.0 (lexemes_left rest) (ap (run program_plan) (sym same) ∙ read.2))

kept_there : (text : Bytes) (tokens : List Token) (read : Option (List Function)) (program : List Function) (at rest : Tokens) → EndsOnce text tokens → lexemes_left at ≡ lexemes_of text tokens → GivesTaken tree_of (Ok (read, rest)) (run program_plan (lexemes_left at)) → read ≡ Some program → HasTree (lexemes_of text tokens) (tree_of program)
kept_there text tokens read program at rest ends_once same h is =
    let there = tree_there text tokens read at rest ends_once same h in
    let kept : tree_of program ≡ there.0 = subst (λ (p : Option (List Function)). KeptAs tree_of p there.0) is there.1 in
    subst (HasTree (lexemes_of text tokens)) (sym kept) there.2

-- where it stopped it is refused
refused_there : (text : Bytes) (tokens : List Token) (wrong : WrongToken) (at : Tokens) → lexemes_left at ≡ lexemes_of text tokens → GivesTaken tree_of (Err wrong) (run program_plan (lexemes_left at)) → run program_plan (lexemes_of text tokens) ≡ Err (lexemes_left wrong.left)
refused_there text tokens wrong at same h = ap (run program_plan) (sym same) ∙ refused lexemes_left (KeptAs tree_of) wrong (run program_plan (lexemes_left at)) h

-- where the code stopped is the first fault
first_there : (text : Bytes) (tokens : List Token) (left : Tokens) → EndsOnce text tokens → run program_plan (lexemes_of text tokens) ≡ Err (lexemes_left left) → IsFirstFault (lexemes_of text tokens) (length tokens - length left.list.now)
first_there text tokens left ends_once refused =
    let all = lexemes_of text tokens in
    let place : length all - length (lexemes_left left) ≡ length tokens - length left.list.now =
    omega (arith, length-map tokens (lexeme_of text), length-map left.list.now (lexeme_of left.text.now)) in
    subst (IsFirstFault all) place (fault-there all (lexed-ended text tokens ends_once) (lexemes_left left) refused)

-- and so any other is that
fault_is_there : (text : Bytes) (tokens : List Token) (left : Tokens) → EndsOnce text tokens → run program_plan (lexemes_of text tokens) ≡ Err (lexemes_left left) → (place : ℕ) → IsFirstFault (lexemes_of text tokens) place → length tokens - length left.list.now ≡ place
fault_is_there text tokens left ends_once refused place f = one_fault (lexemes_of text tokens) (length tokens - length left.list.now) place (first_there text tokens left ends_once refused) f

pub of-requires : goal.of-requires
of-requires c = lexed-spelled c.args.bytes.now c.args.tokens.now (c.tokens_end_once.ensures c.args.bytes.now c.args.tokens.now c.requires.lexed)

pub overflow_sub-result : goal.overflow_sub-result
overflow_sub-result c =
    let within = left-within (lexemes_of c.args.bytes.now c.args.tokens.now) (lexemes_left c.in-Err.wrong.left) (refused_there c.args.bytes.now c.args.tokens.now c.in-Err.wrong c.of.result c.of.ensures c.in-Err.ensures) in
    omega (arith, within, length-map c.args.tokens.now (lexeme_of c.args.bytes.now), length-map c.in-Err.wrong.left.list.now (lexeme_of c.in-Err.wrong.left.text.now))

pub overflow_cast-result : goal.overflow_cast-result
overflow_cast-result c =
    let few : length c.args.tokens.now ≤ 2 * length c.args.bytes.now + 1 = c.two_tokens_a_byte.ensures c.args.bytes.now c.args.tokens.now c.requires.lexed in
    let short : length c.args.bytes.now < 2 ^ 31 = c.requires.short in
    omega (arith, few, short)

pub returns-in-Some-clause-found : goal.returns-in-Some-clause-found
returns-in-Some-clause-found c = kept_there c.args.bytes.now c.args.tokens.now c.in-Ok.program c.in-Some.program c.of.result c.in-Ok._rest (c.tokens_end_once.ensures c.args.bytes.now c.args.tokens.now c.requires.lexed) c.of.ensures c.in-Ok.ensures c.in-Some.is

pub returns-in-Some-clause-spellable : goal.returns-in-Some-clause-spellable
returns-in-Some-clause-spellable c = lexed-spellable c.args.bytes.now c.args.tokens.now (c.tokens_end_once.ensures c.args.bytes.now c.args.tokens.now c.requires.lexed) (tree_of c.in-Some.program) (kept_there c.args.bytes.now c.args.tokens.now c.in-Ok.program c.in-Some.program c.of.result c.in-Ok._rest (c.tokens_end_once.ensures c.args.bytes.now c.args.tokens.now c.requires.lexed) c.of.ensures c.in-Ok.ensures c.in-Some.is)

pub returns-in-Some-clause-printed : goal.returns-in-Some-clause-printed
returns-in-Some-clause-printed c =
    let tree = kept_there c.args.bytes.now c.args.tokens.now c.in-Ok.program c.in-Some.program c.of.result c.in-Ok._rest (c.tokens_end_once.ensures c.args.bytes.now c.args.tokens.now c.requires.lexed) c.of.ensures c.in-Ok.ensures c.in-Some.is in
    c.canonical_text_reads_back.ensures (tree_of c.in-Some.program) tree.grammatical (lexed-spellable c.args.bytes.now c.args.tokens.now (c.tokens_end_once.ensures c.args.bytes.now c.args.tokens.now c.requires.lexed) (tree_of c.in-Some.program) tree)

pub returns-in-Some-clause-only : goal.returns-in-Some-clause-only
returns-in-Some-clause-only c = λ tree h. ProgramReads.one_tree (lexemes_of c.args.bytes.now c.args.tokens.now) (tree_of c.in-Some.program) tree (kept_there c.args.bytes.now c.args.tokens.now c.in-Ok.program c.in-Some.program c.of.result c.in-Ok._rest (c.tokens_end_once.ensures c.args.bytes.now c.args.tokens.now c.requires.lexed) c.of.ensures c.in-Ok.ensures c.in-Some.is) h

pub returns-in-Some-clause-refused : goal.returns-in-Some-clause-refused
returns-in-Some-clause-refused c = λ place f. absurd (no_fault (lexemes_of c.args.bytes.now c.args.tokens.now) (tree_of c.in-Some.program) place (kept_there c.args.bytes.now c.args.tokens.now c.in-Ok.program c.in-Some.program c.of.result c.in-Ok._rest (c.tokens_end_once.ensures c.args.bytes.now c.args.tokens.now c.requires.lexed) c.of.ensures c.in-Ok.ensures c.in-Some.is) f)

pub returns-in-None-clause-fault : goal.returns-in-None-clause-fault
returns-in-None-clause-fault c =
    let there = tree_there c.args.bytes.now c.args.tokens.now c.in-Ok.program c.of.result c.in-Ok._rest (c.tokens_end_once.ensures c.args.bytes.now c.args.tokens.now c.requires.lexed) c.of.ensures c.in-Ok.ensures in
    (there.0, there.2)

pub returns-in-None-clause-refused : goal.returns-in-None-clause-refused
returns-in-None-clause-refused c = λ place f.
    let there = tree_there c.args.bytes.now c.args.tokens.now c.in-Ok.program c.of.result c.in-Ok._rest (c.tokens_end_once.ensures c.args.bytes.now c.args.tokens.now c.requires.lexed) c.of.ensures c.in-Ok.ensures in
    absurd (no_fault (lexemes_of c.args.bytes.now c.args.tokens.now) there.0 place there.2 f)

pub returns-in-Err-clause-only : goal.returns-in-Err-clause-only
returns-in-Err-clause-only c = λ tree h. not-both (lexemes_of c.args.bytes.now c.args.tokens.now) tree (lexemes_left c.in-Err.wrong.left) h (refused_there c.args.bytes.now c.args.tokens.now c.in-Err.wrong c.of.result c.of.ensures c.in-Err.ensures)

pub returns-in-Err-clause-fault : goal.returns-in-Err-clause-fault
returns-in-Err-clause-fault c = first_there c.args.bytes.now c.args.tokens.now c.in-Err.wrong.left (c.tokens_end_once.ensures c.args.bytes.now c.args.tokens.now c.requires.lexed) (refused_there c.args.bytes.now c.args.tokens.now c.in-Err.wrong c.of.result c.of.ensures c.in-Err.ensures)

pub returns-in-Err-clause-refused : goal.returns-in-Err-clause-refused
returns-in-Err-clause-refused c = λ place f. ap (λ n. Err (E.Fault n)) (fault_is_there c.args.bytes.now c.args.tokens.now c.in-Err.wrong.left (c.tokens_end_once.ensures c.args.bytes.now c.args.tokens.now c.requires.lexed) (refused_there c.args.bytes.now c.args.tokens.now c.in-Err.wrong c.of.result c.of.ensures c.in-Err.ensures) place f)
