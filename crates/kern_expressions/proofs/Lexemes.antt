-- Tokens with what they spell, and reading expressions of them.
use Rattle.std.proofs.Common.{◌≡◌, ℕ, ◌-◌, List, sym, ◌∙◌, ap, arith, length, take, drop, length-drop}
use Rattle.std.proofs.lemmas.List.{take_all, length-map, drop-map}
use Rattle.std.specs.Prelude.{Ok, Err}
use Rattle.kern_lexer.specs.Bytes.{Bytes}
use Rattle.kern_lexer.specs.Symbols.{symbol_of, lexeme_of, lexemes_of}
use Rattle.kern_lexer.specs.declared.token.Token.{Token}
use Rattle.kern_syntax.specs.Tree.{Expression}
use Rattle.kern_expressions.specs.declared.tokens.Tokens.{Tokens}
use Rattle.kern_expressions.specs.Given.{symbols_left}
use Rattle.kern_grammar.specs.Phrases.{symbols_of}
use Rattle.kern_grammar.specs.Plans.{of_symbols}
use Rattle.kern_grammar.specs.Reading.{level_reader, readers, inside_of}
use Rattle.kern_grammar.specs.SimplePlans.{take_expression}
use Rattle.kern_expressions.specs.TakenBy.{lexemes_left}
use Rattle.kern_grammar.proofs.SpelledLists.{symbols-of}
use Rattle.kern_expressions.proofs.Exits.{readers_of}

-- the last tokens, counted from the end
pub last_lexemes : (text : Bytes) (tokens : List Token) (count start : ℕ) → start ≡ length tokens - count → lexemes_of text (take (length tokens - start) (drop start tokens)) ≡ drop (length (lexemes_of text tokens) - count) (lexemes_of text tokens)
last_lexemes text tokens count start h =
    ap (lexemes_of text) (take_all (length tokens - start) (drop start tokens) (omega (arith, length-drop start tokens)))
    ∙ sym (drop-map (lexeme_of text) start tokens)
    ∙ ap (λ n. drop n (lexemes_of text tokens)) (h ∙ ap (λ n. n - count) (sym (length-map tokens (lexeme_of text))))

-- the symbols of the tokens that are left
pub symbols-left : (tokens : Tokens) → symbols_of (lexemes_left tokens) ≡ symbols_left tokens
symbols-left tokens = symbols-of tokens.text.now tokens.list.now

symbols-count : (tokens : Tokens) → length (symbols_left tokens) ≡ length tokens.list.now
symbols-count tokens = length-map tokens.list.now (λ t. symbol_of tokens.text.now t.at t.len t.kind)

-- an expression that the symbols give is taken from the tokens
taken_by : (room : ℕ) (tokens : Tokens) → take_expression room (lexemes_left tokens) ≡ of_symbols (lexemes_left tokens) (level_reader (inside_of room) 11 (symbols_left tokens))
taken_by room tokens = ap (λ y. of_symbols (lexemes_left tokens) (readers room 11 y)) (symbols-left tokens) ∙ ap (of_symbols (lexemes_left tokens)) (readers_of room 11 (symbols_left tokens))

pub expression_taken : (room : ℕ) (tokens rest last : Tokens) (e : Expression) → level_reader (inside_of room) 11 (symbols_left tokens) ≡ Ok (e, symbols_left rest) → lexemes_left last ≡ drop (length (lexemes_left tokens) - length rest.list.now) (lexemes_left tokens) → take_expression room (lexemes_left tokens) ≡ Ok (e, lexemes_left last)
expression_taken room tokens rest last e h l =
    taken_by room tokens
    ∙ ap (of_symbols (lexemes_left tokens)) h
    ∙ ap (λ n. Ok (e, drop (length (lexemes_left tokens) - n) (lexemes_left tokens))) (symbols-count rest)
    ∙ ap (λ y. Ok (e, y)) (sym l)

pub expression_refused : (room : ℕ) (tokens left last : Tokens) → level_reader (inside_of room) 11 (symbols_left tokens) ≡ Err (symbols_left left) → lexemes_left last ≡ drop (length (lexemes_left tokens) - length left.list.now) (lexemes_left tokens) → take_expression room (lexemes_left tokens) ≡ Err (lexemes_left last)
expression_refused room tokens left last h l =
    taken_by room tokens
    ∙ ap (of_symbols (lexemes_left tokens)) h
    ∙ ap (λ n. Err (drop (length (lexemes_left tokens) - n) (lexemes_left tokens))) (symbols-count left)
    ∙ ap (λ y. Err y) (sym l)
