-- The brackets that symbols leave open: an expression closes those that it opens.
use Rattle.std.proofs.Common.{◌≡◌, ℕ, ◌∙◌, List, [], ◌∷◌, ◌++◌, ap, refl, sym, append_assoc, append-nil}
use Rattle.std.specs.Prelude.{fold}
use Rattle.kern_lexer.specs.Brackets.{open_after, open_behind}
use Rattle.kern_lexer.specs.Bytes.{Bytes}
use Rattle.kern_lexer.specs.Spellings.{kind_of}
use Rattle.kern_lexer.specs.Symbols.{Symbol, sign, symbol_of, lexemes_of}
use Rattle.kern_lexer.specs.Tokens.{Left}
use Rattle.kern_lexer.specs.declared.token.Sign.TheVariants as S
use Rattle.kern_lexer.specs.declared.token.Token.{Token}
use Rattle.kern_lexer.specs.declared.token.TokenKind.{TokenKind}
use Rattle.kern_lexer.specs.declared.token.TokenKind.TheVariants as T
use Rattle.kern_syntax.specs.declared.expression.BinaryOperator.{BinaryOperator}
use Rattle.kern_syntax.specs.declared.expression.BinaryOperator.TheVariants as B
use Rattle.kern_syntax.specs.declared.expression.Comparison.{Comparison}
use Rattle.kern_syntax.specs.declared.expression.Comparison.TheVariants as C
use Rattle.kern_syntax.specs.declared.expression.UnaryOperator.TheVariants as U
use Rattle.kern_syntax.specs.Tree.{Expression, integer, true_literal, false_literal, variable, element, group, unary, binary, compare, negation, conjunction, disjunction, call, method, Arguments, no_more, value_then, text_then}
use Rattle.kern_grammar.specs.Expressions.{expression_symbols, argument_symbols, list_symbols, comma_before, binary_sign, comparison_sign}
use Rattle.kern_grammar.specs.Phrases.{symbols_of}

-- what is open behind a symbol
abbrev opened : Left → Symbol → Left
opened left s = record { widths = left.widths; brackets = open_after left.brackets (kind_of s) }

-- what is open behind some symbols
abbrev pub opens : Left → List Symbol → Left
opens left symbols = fold opened left symbols

-- symbols that close what they open, before any others
abbrev pub Closed : List Symbol → Type 0
Closed symbols = (left : Left) (rest : List Symbol) → opens left (symbols ++ rest) ≡ opens left rest

-- a token's symbol is of its kind
kind-kept : (text : Bytes) (at len : ℕ) (kind : TokenKind) → kind_of (symbol_of text at len kind) ≡ kind
kind-kept text at len T.Name = refl
kind-kept text at len (T.Key k) = refl
kind-kept text at len (T.Integer n) = refl
kind-kept text at len T.Text = refl
kind-kept text at len (T.Sign s) = refl
kind-kept text at len T.Newline = refl
kind-kept text at len T.Indent = refl
kind-kept text at len T.Dedent = refl
kind-kept text at len T.End = refl

-- so the open brackets behind tokens are those behind their symbols
pub opens-brackets : (text : Bytes) (tokens : List Token) (left : Left)
    → (opens left (symbols_of (lexemes_of text tokens))).brackets ≡ open_behind left.brackets tokens
opens-brackets text [] left = refl
opens-brackets text (t ∷ tokens) left =
    ap (λ kind. (opens (record { widths = left.widths; brackets = open_after left.brackets kind }) (symbols_of (lexemes_of text tokens))).brackets) (kind-kept text t.at t.len t.kind)
    ∙ opens-brackets text tokens (record { widths = left.widths; brackets = open_after left.brackets t.kind })

-- no operator opens or closes a bracket
binary-closed : (op : BinaryOperator) (left : Left) (rest : List Symbol) → opens left (sign (binary_sign op) ∷ rest) ≡ opens left rest
binary-closed B.Add left rest = refl
binary-closed _ left rest = refl

comparison-closed : (op : Comparison) (left : Left) (rest : List Symbol) → opens left (sign (comparison_sign op) ∷ rest) ≡ opens left rest
comparison-closed C.Less left rest = refl
comparison-closed _ left rest = refl

-- symbols in round brackets
pub round-closed : (symbols : List Symbol) → Closed symbols → (left : Left) (rest : List Symbol)
    → opens left (sign S.OpenParenthesis ∷ ((symbols ++ sign S.CloseParenthesis ∷ []) ++ rest)) ≡ opens left rest
round-closed symbols closed left rest =
    ap (opens (opened left (sign S.OpenParenthesis))) (append_assoc symbols (sign S.CloseParenthesis ∷ []) rest)
    ∙ closed (opened left (sign S.OpenParenthesis)) (sign S.CloseParenthesis ∷ rest)

-- symbols in square brackets
pub square-closed : (symbols : List Symbol) → Closed symbols → (left : Left) (rest : List Symbol)
    → opens left (sign S.OpenBracket ∷ ((symbols ++ sign S.CloseBracket ∷ []) ++ rest)) ≡ opens left rest
square-closed symbols closed left rest =
    ap (opens (opened left (sign S.OpenBracket))) (append_assoc symbols (sign S.CloseBracket ∷ []) rest)
    ∙ closed (opened left (sign S.OpenBracket)) (sign S.CloseBracket ∷ rest)

-- two groups of symbols
pub append-closed : (a b : List Symbol) → Closed a → Closed b → Closed (a ++ b)
append-closed a b p q left rest = ap (opens left) (append_assoc a b rest) ∙ p left (b ++ rest) ∙ q left rest

-- a comma before others
pub comma-closed : (symbols : List Symbol) → Closed symbols → Closed (comma_before symbols)
comma-closed [] closed left rest = closed left rest
comma-closed (s ∷ more) closed left rest = closed left rest

mutual
  -- an expression
  pub expression-closed : (e : Expression) → Closed (expression_symbols e)
  expression-closed (integer n) left rest = refl
  expression-closed true_literal left rest = refl
  expression-closed false_literal left rest = refl
  expression-closed (variable x) left rest = refl
  expression-closed (element x i) left rest = square-closed (expression_symbols i) (expression-closed i) left rest
  expression-closed (group e) left rest = round-closed (expression_symbols e) (expression-closed e) left rest
  expression-closed (unary U.Negate e) left rest = expression-closed e left rest
  expression-closed (unary U.Invert e) left rest = expression-closed e left rest
  expression-closed (binary op a b) left rest =
      append-closed (expression_symbols a) (sign (binary_sign op) ∷ expression_symbols b) (expression-closed a)
      (λ l others. binary-closed op l (expression_symbols b ++ others) ∙ expression-closed b l others) left rest
  expression-closed (compare op a b) left rest =
      append-closed (expression_symbols a) (sign (comparison_sign op) ∷ expression_symbols b) (expression-closed a)
      (λ l others. comparison-closed op l (expression_symbols b ++ others) ∙ expression-closed b l others) left rest
  expression-closed (negation e) left rest = expression-closed e left rest
  expression-closed (conjunction a b) left rest = append-closed (expression_symbols a) _ (expression-closed a) (λ l others. expression-closed b l others) left rest
  expression-closed (disjunction a b) left rest = append-closed (expression_symbols a) _ (expression-closed a) (λ l others. expression-closed b l others) left rest
  expression-closed (call f args) left rest = round-closed (argument_symbols args) (arguments-closed args) left rest
  expression-closed (method o m args) left rest = round-closed (argument_symbols args) (arguments-closed args) left rest

  -- arguments
  pub arguments-closed : (args : Arguments) → Closed (argument_symbols args)
  arguments-closed no_more left rest = refl
  arguments-closed (value_then e args) left rest =
      append-closed (expression_symbols e) (comma_before (argument_symbols args)) (expression-closed e) (comma-closed (argument_symbols args) (arguments-closed args)) left rest
  arguments-closed (text_then t args) left rest = comma-closed (argument_symbols args) (arguments-closed args) left rest

-- expressions joined by commas
pub list-closed : (es : List Expression) → Closed (list_symbols es)
list-closed [] left rest = refl
list-closed (e ∷ es) left rest =
    append-closed (expression_symbols e) (comma_before (list_symbols es)) (expression-closed e) (comma-closed (list_symbols es) (list-closed es)) left rest

-- with nothing behind them
pub closed-alone : (symbols : List Symbol) → Closed symbols → (left : Left) → opens left symbols ≡ left
closed-alone symbols closed left = ap (opens left) (sym (append-nil symbols)) ∙ closed left []
