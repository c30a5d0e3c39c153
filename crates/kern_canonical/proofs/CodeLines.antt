-- The text of a line, without its leading spaces, and its symbols.
use Rattle.std.proofs.Common.{◌≡◌, ℕ, ◌<◌, ◌∙◌, true, List, [], ◌∷◌, ◌++◌, length, replicate, ap, refl, sym, subst, arith, append-nil}
use Rattle.std.proofs.lemmas.List.{length-map, length-replicate}
use Rattle.kern_lexer.specs.Brackets.{open_behind}
use Rattle.kern_lexer.specs.Bytes.{Bytes, space}
use Rattle.kern_lexer.specs.Keys.{key_text}
use Rattle.kern_lexer.specs.Symbols.{Symbol, key, sign, lexeme_of, lexemes_of}
use Rattle.kern_lexer.specs.Tokens.{Left}
use Rattle.kern_lexer.specs.declared.token.Key.{Key}
use Rattle.kern_lexer.specs.declared.token.Sign.TheVariants as S
use Rattle.kern_grammar.specs.Phrases.{symbols_of}
use Rattle.kern_canonical.proofs.Beginnings.{begins_operand}
use Rattle.kern_canonical.proofs.Closings.{opens, opens-brackets}
use Rattle.kern_canonical.proofs.Pieces.{Piece}
use Rattle.kern_canonical.proofs.Words.{Words, words-none, symbol-then, space-then}

-- a text that can be a line behind its leading spaces: it has symbols, begins with a token, and closes the brackets that it opens
pub record CodeLine (code : Bytes) (symbols : List Symbol) : Type 0 where
  pub words : Words code symbols
  pub begins : begins_operand code ≡ true
  pub some : 0 < length symbols
  pub closed : (left : Left) → opens left symbols ≡ left

-- a piece with nothing behind it
pub piece-alone : (text : Bytes) (symbols : List Symbol) → Piece text symbols → Words text symbols
piece-alone text symbols piece =
    subst (λ t. Words t symbols) (append-nil text) (subst (λ s. Words (text ++ []) s) (append-nil symbols) (piece [] [] refl words-none))

-- a keyword and its space
pub key-then : (k : Key) (code : Bytes) (symbols : List Symbol) → Words code symbols → Words (key_text k ++ space ∷ code) (key k ∷ symbols)
key-then k code symbols w = symbol-then (key k) (space ∷ code) symbols tt refl (space-then code symbols w)

-- a colon at the end
pub colon-alone : Words (58 ∷ []) (sign S.Colon ∷ [])
colon-alone = symbol-then (sign S.Colon) [] [] tt refl words-none

-- the tokens of words have their symbols, whatever their place
words-symbols : (code : Bytes) (symbols : List Symbol) (w : Words code symbols) (line at : ℕ)
    → (text : Bytes) × (symbols_of (lexemes_of text (w.tokens line at)) ≡ symbols)
words-symbols code symbols w line at =
    let before : Bytes = replicate at space in
    let text : Bytes = before ++ (code ++ []) in
    (text, ap (λ n. symbols_of (lexemes_of text (w.tokens line n))) (sym (length-replicate at space)) ∙ w.spelled text before [] line refl)

-- so there are some
pub words-some : (code : Bytes) (symbols : List Symbol) (w : Words code symbols) (line at : ℕ) → 0 < length symbols → 0 < length (w.tokens line at)
words-some code symbols w line at some =
    let there = words-symbols code symbols w line at in
    let count : length (symbols_of (lexemes_of there.0 (w.tokens line at))) ≡ length (w.tokens line at) =
    length-map (lexemes_of there.0 (w.tokens line at)) (λ t. t.symbol) ∙ length-map (w.tokens line at) (lexeme_of there.0) in
    omega (arith, count, ap length there.1)

-- and they leave no bracket open, where the symbols don't
pub words-close : (code : Bytes) (symbols : List Symbol) (w : Words code symbols) → ((left : Left) → opens left symbols ≡ left)
    → (line at : ℕ) (left : Left) → open_behind left.brackets (w.tokens line at) ≡ left.brackets
words-close code symbols w closed line at left =
    let there = words-symbols code symbols w line at in
    sym (opens-brackets there.0 (w.tokens line at) left) ∙ ap (λ y. (opens left y).brackets) there.1 ∙ ap (λ (l : Left). l.brackets) (closed left)
