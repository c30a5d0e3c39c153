-- Texts within a line, and the symbols that they have.
use Rattle.std.proofs.Common.{◌≡◌, ℕ, suc, ◌+◌, ◌-◌, ◌∙◌, true, List, [], ◌∷◌, ◌++◌, take, length, Ok, ap, refl, sym, arith, append_assoc, length-append}
use Rattle.std.proofs.lemmas.List.{take_at, drop_at}
use Rattle.kern_lexer.specs.Bytes.{Bytes, space, quote}
use Rattle.kern_lexer.specs.Spelled.{IsInner}
use Rattle.kern_lexer.specs.Spellings.{spelling, kind_of, StandsBefore, token_of, followed_by}
use Rattle.kern_lexer.specs.Symbols.{Symbol, name, key, number, quoted, sign, newline, indent, dedent, end, bytes_at, symbol_of, lexemes_of}
use Rattle.kern_lexer.specs.Words.{words_from}
use Rattle.kern_lexer.specs.declared.token.Token.{Token}
use Rattle.kern_lexer.proofs.PrintedLemmas.{spelled-is_read, space-is_skipped}
use Rattle.kern_grammar.specs.Phrases.{symbols_of}
use Rattle.kern_canonical.proofs.Plain.{are_plain, plain-append, spelling-plain}

-- a text within a line has these symbols, wherever it stands at the end of a line
pub record Words (code : Bytes) (symbols : List Symbol) : Type 0 where
  pub tokens : (line at : ℕ) → List Token
  pub read : (line at : ℕ) → words_from line at 0 code ≡ Ok (tokens line at)
  pub spelled : (text before after : Bytes) (line : ℕ) → text ≡ before ++ (code ++ after)
      → symbols_of (lexemes_of text (tokens line (length before))) ≡ symbols
  pub plain : are_plain code ≡ true

-- the end of a line
pub words-none : Words [] []
words-none = record {
  tokens = λ line at. [];
  read = λ line at. refl;
  spelled = λ text before after line is. refl;
  plain = refl;
}

-- the bytes that stand somewhere
bytes-there : (text before word after : Bytes) → text ≡ before ++ (word ++ after)
    → bytes_at (length before) (length word) text ≡ word
bytes-there text before word after is =
    ap (λ t. bytes_at (length before) (length word) t) is
    ∙ ap (take (length word)) (drop_at before (word ++ after) (length before) refl)
    ∙ take_at word after (length word) refl

-- what stands between quotes
quoted-there : (text before word after : Bytes) → text ≡ before ++ (spelling (quoted word) ++ after)
    → bytes_at (length before + 1) (length (spelling (quoted word)) - 2) text ≡ word
quoted-there text before word after is =
    let place : length (before ++ quote ∷ []) ≡ length before + 1 = length-append before (quote ∷ []) in
    let long : length (spelling (quoted word)) - 2 ≡ length word = omega (arith, length-append word (quote ∷ [])) in
    let whole : text ≡ (before ++ quote ∷ []) ++ (word ++ (quote ∷ after)) =
    is ∙ ap (λ y. before ++ quote ∷ y) (append_assoc word (quote ∷ []) after) ∙ sym (append_assoc before (quote ∷ []) (word ++ (quote ∷ after))) in
    ap (λ n. bytes_at n (length (spelling (quoted word)) - 2) text) (sym place)
    ∙ ap (λ n. bytes_at (length (before ++ quote ∷ [])) n text) long
    ∙ bytes-there text (before ++ quote ∷ []) word (quote ∷ after) whole

-- a spelling that stands somewhere is its symbol
symbol-there : (s : Symbol) (text before after : Bytes) → IsInner s → text ≡ before ++ (spelling s ++ after)
    → symbol_of text (length before) (length (spelling s)) (kind_of s) ≡ s
symbol-there (name word) text before after inner is = ap name (bytes-there text before word after is)
symbol-there (key k) text before after inner is = refl
symbol-there (number n) text before after inner is = refl
symbol-there (quoted word) text before after inner is = ap quoted (quoted-there text before word after is)
symbol-there (sign s) text before after inner is = refl
symbol-there newline text before after inner is = refl
symbol-there indent text before after inner is = refl
symbol-there dedent text before after inner is = refl
symbol-there end text before after inner is = absurd inner

-- a symbol before words that don't go on with it
pub symbol-then : (s : Symbol) (code : Bytes) (symbols : List Symbol) → IsInner s → StandsBefore s code
    → Words code symbols → Words (spelling s ++ code) (s ∷ symbols)
symbol-then s code symbols inner stands w = record {
  tokens = λ line at. token_of line at s ∷ w.tokens line (at + length (spelling s));
  read = λ line at. spelled-is_read line at s code inner stands
      ∙ ap (followed_by (token_of line at s)) (w.read line (at + length (spelling s)));
  spelled = λ text before after line is.
      let whole : text ≡ before ++ (spelling s ++ (code ++ after)) = is ∙ ap (λ y. before ++ y) (append_assoc (spelling s) code after) in
      let place : length before + length (spelling s) ≡ length (before ++ spelling s) = sym (length-append before (spelling s)) in
      ap (λ y. y ∷ symbols_of (lexemes_of text (w.tokens line (length before + length (spelling s))))) (symbol-there s text before (code ++ after) inner whole)
      ∙ ap (λ n. s ∷ symbols_of (lexemes_of text (w.tokens line n))) place
      ∙ ap (λ y. s ∷ y) (w.spelled text (before ++ spelling s) after line (whole ∙ sym (append_assoc before (spelling s) (code ++ after))));
  plain = plain-append (spelling s) code (spelling-plain s inner) w.plain;
}

-- a space before words
pub space-then : (code : Bytes) (symbols : List Symbol) → Words code symbols → Words (space ∷ code) symbols
space-then code symbols w = record {
  tokens = λ line at. w.tokens line (suc at);
  read = λ line at. space-is_skipped line at code ∙ w.read line (suc at);
  spelled = λ text before after line is.
      let place : suc (length before) ≡ length (before ++ space ∷ []) = omega (arith, length-append before (space ∷ [])) in
      ap (λ n. symbols_of (lexemes_of text (w.tokens line n))) place
      ∙ w.spelled text (before ++ space ∷ []) after line (is ∙ sym (append_assoc before (space ∷ []) (code ++ after)));
  plain = w.plain;
}
