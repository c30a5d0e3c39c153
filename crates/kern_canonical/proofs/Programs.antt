-- The canonical text of a program has its canonical tokens.
use Rattle.std.proofs.Common.{◌≡◌, List, [], ◌∷◌, ◌++◌, Ok, refl, inl}
use Rattle.kern_lexer.specs.Bytes.{Bytes}
use Rattle.kern_lexer.specs.Symbols.{Symbol, dedent, lexemes_of}
use Rattle.kern_lexer.specs.Tokens.{tokens_of}
use Rattle.kern_lexer.specs.declared.token.Token.{Token}
use Rattle.kern_syntax.specs.Grammatical.{AreFunctions, IsFunction, IsGrammatical}
use Rattle.kern_syntax.specs.Print.{block_text, function_text, program_text}
use Rattle.kern_syntax.specs.Spellable.{IsSpellableFunction, IsSpellableProgram}
use Rattle.kern_syntax.specs.Tree.{FunctionTree, ProgramTree}
use Rattle.kern_grammar.specs.Blocks.{function_symbols}
use Rattle.kern_grammar.specs.Canonical.{block_tokens, function_tokens, program_tokens}
use Rattle.kern_grammar.specs.Phrases.{symbols_of}
use Rattle.kern_canonical.proofs.Blocks.{Reads, Begun, begun-reads, reads-inside, block-alone}
use Rattle.kern_canonical.proofs.HeaderLines.{function-line}
use Rattle.kern_canonical.proofs.Statements.{block-then}
use Rattle.kern_canonical.proofs.Texts.{lexes-end}

-- a function
function-then : (f : FunctionTree) (rest : Bytes) (others : List Symbol) → IsSpellableFunction f → IsFunction f → Reads 0 rest others
    → Begun 0 (function_text f ++ rest) (function_tokens f ++ others)
function-then f rest others good fits r =
    block-alone 0 _ (function_symbols f) (block_text f.body 1) (block_tokens f.body) rest others (function-line f good.0 good.1)
    (block-then f.body 1 15 rest (dedent ∷ others) fits.0 good.2 fits.1 (reads-inside 0 rest others r))

-- functions, and the end
program-reads : (p : ProgramTree) → AreFunctions p → IsSpellableProgram p → Reads 0 (program_text p) (program_tokens p)
program-reads [] fits good = record { lexes = lexes-end; goes_on = inl refl }
program-reads (f ∷ fs) fits good =
    begun-reads 0 (function_text f ++ program_text fs) (function_tokens f ++ program_tokens fs)
    (function-then f (program_text fs) (program_tokens fs) good.0 fits.0 (program-reads fs fits.1 good.1))

-- so the lexer gives them
pub program-lexes : (p : ProgramTree) → IsGrammatical p → IsSpellableProgram p
    → (tokens : List Token) × (tokens_of (program_text p) ≡ Ok tokens) × (symbols_of (lexemes_of (program_text p) tokens) ≡ program_tokens p)
unfolding tokens_of
program-lexes p fits good =
    let l = (program-reads p fits.1 good).lexes in
    (l.tokens 1 0, l.read 1 0, l.spelled (program_text p) [] 1 refl)
