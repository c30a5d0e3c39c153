-- The texts of expressions have the symbols of expressions.
use Rattle.std.proofs.Common.{◌≡◌, ◌<◌, true, List, [], ◌∷◌, ◌++◌, length, map, refl, arith, append_assoc, length-append, Some}
use Rattle.std.specs.Prelude.{codes, IsTrue}
use Rattle.kern_lexer.specs.Bytes.{Bytes, space}
use Rattle.kern_lexer.specs.Signs.{sign_at, sign_text}
use Rattle.kern_lexer.specs.Spellings.{ends_word}
use Rattle.kern_lexer.specs.Symbols.{Symbol, name, key, number, quoted, sign}
use Rattle.kern_lexer.specs.declared.token.Key.TheVariants as K
use Rattle.kern_lexer.specs.declared.token.Sign.TheVariants as S
use Rattle.kern_syntax.specs.Print as P
use Rattle.kern_syntax.specs.Print.{expression_text, argument_texts, joined, sign_of_binary, sign_of_comparison, sign_of_unary}
use Rattle.kern_syntax.specs.Spellable.{IsSpellable, AreSpellable, EachSpellable}
use Rattle.kern_syntax.specs.declared.expression.BinaryOperator.{BinaryOperator}
use Rattle.kern_syntax.specs.declared.expression.BinaryOperator.TheVariants as B
use Rattle.kern_syntax.specs.declared.expression.Comparison.{Comparison}
use Rattle.kern_syntax.specs.declared.expression.Comparison.TheVariants as C
use Rattle.kern_syntax.specs.declared.expression.UnaryOperator.{UnaryOperator}
use Rattle.kern_syntax.specs.declared.expression.UnaryOperator.TheVariants as U
use Rattle.kern_syntax.specs.Tree.{Expression, integer, true_literal, false_literal, variable, element, group, unary, binary, compare, negation, conjunction, disjunction, call, method, Arguments, no_more, value_then, text_then}
use Rattle.kern_grammar.specs.Expressions.{expression_symbols, argument_symbols, list_symbols, comma_before, binary_sign, comparison_sign, unary_sign}
use Rattle.kern_canonical.proofs.Beginnings.{begins_operand, expression-begins}
use Rattle.kern_canonical.proofs.Signs.{operator-then, minus-before_operand}
use Rattle.kern_canonical.proofs.Pieces.{Piece, group-piece, element-piece, call-piece, method-piece, quoted-piece, infix-piece, EmptyTogether, neither-empty, joined-piece}
use Rattle.kern_canonical.proofs.Words.{Words, symbol-then, space-then}

-- an operator with its spaces
binary-then : (op : BinaryOperator) (code : Bytes) (symbols : List Symbol) → Words code symbols
    → Words (sign_of_binary op ++ code) (sign (binary_sign op) ∷ symbols)
binary-then op code symbols w = operator-then (binary_sign op) (sign_of_binary op) code symbols (printed op) w
  where
    printed : (op : BinaryOperator) → sign_of_binary op ≡ space ∷ (sign_text (binary_sign op) ++ space ∷ [])
    printed B.Add = refl
    printed _ = refl

binary-ends : (op : BinaryOperator) (code : Bytes) → IsTrue (ends_word (sign_of_binary op ++ code))
binary-ends B.Add code = refl
binary-ends _ code = refl

comparison-then : (op : Comparison) (code : Bytes) (symbols : List Symbol) → Words code symbols
    → Words (sign_of_comparison op ++ code) (sign (comparison_sign op) ∷ symbols)
comparison-then op code symbols w = operator-then (comparison_sign op) (sign_of_comparison op) code symbols (printed op) w
  where
    printed : (op : Comparison) → sign_of_comparison op ≡ space ∷ (sign_text (comparison_sign op) ++ space ∷ [])
    printed C.Less = refl
    printed _ = refl

comparison-ends : (op : Comparison) (code : Bytes) → IsTrue (ends_word (sign_of_comparison op ++ code))
comparison-ends C.Less code = refl
comparison-ends _ code = refl

-- a minus before an operand
minus-stands : (code : Bytes) → begins_operand code ≡ true → sign_at (sign_text S.Minus ++ code) ≡ Some S.Minus
minus-stands [] begins = absurd cc
minus-stands (b ∷ rest) begins = minus-before_operand b rest (grind arith) (grind arith)

unary-then : (op : UnaryOperator) (code : Bytes) (symbols : List Symbol) → begins_operand code ≡ true → Words code symbols
    → Words (sign_of_unary op ++ code) (sign (unary_sign op) ∷ symbols)
unary-then U.Negate code symbols begins w = symbol-then (sign S.Minus) code symbols tt (minus-stands code begins) w
unary-then U.Invert code symbols begins w = symbol-then (sign S.Tilde) code symbols tt refl w

-- a keyword between spaces
and-then : (code : Bytes) (symbols : List Symbol) → Words code symbols → Words (codes " and " ++ code) (key K.And ∷ symbols)
and-then code symbols w =
    space-then (codes "and " ++ code) (key K.And ∷ symbols) (symbol-then (key K.And) (space ∷ code) symbols tt refl (space-then code symbols w))

or-then : (code : Bytes) (symbols : List Symbol) → Words code symbols → Words (codes " or " ++ code) (key K.Or ∷ symbols)
or-then code symbols w =
    space-then (codes "or " ++ code) (key K.Or ∷ symbols) (symbol-then (key K.Or) (space ∷ code) symbols tt refl (space-then code symbols w))

-- `not` and its space
not-then : (code : Bytes) (symbols : List Symbol) → Words code symbols → Words (codes "not " ++ code) (key K.Not ∷ symbols)
not-then code symbols w = symbol-then (key K.Not) (space ∷ code) symbols tt refl (space-then code symbols w)

-- an expression has a symbol
pub expression-some : (e : Expression) → 0 < length (expression_symbols e)
expression-some (disjunction a b) = omega (arith, expression-some a, length-append (expression_symbols a) (key K.Or ∷ expression_symbols b))
expression-some (conjunction a b) = omega (arith, expression-some a, length-append (expression_symbols a) (key K.And ∷ expression_symbols b))
expression-some (compare op a b) = omega (arith, expression-some a, length-append (expression_symbols a) (sign (comparison_sign op) ∷ expression_symbols b))
expression-some (binary op a b) = omega (arith, expression-some a, length-append (expression_symbols a) (sign (binary_sign op) ∷ expression_symbols b))
expression-some e = omega arith

-- so have arguments that begin with one
pub value-some : (e : Expression) (more : List Symbol) → 0 < length (expression_symbols e ++ more)
value-some e more = omega (arith, expression-some e, length-append (expression_symbols e) more)

arguments-together : (args : Arguments) → EmptyTogether (argument_texts args) (argument_symbols args)
arguments-together no_more = tt
arguments-together (value_then e args) = neither-empty (expression_text e) (argument_texts args) _ (value-some e (comma_before (argument_symbols args)))
arguments-together (text_then t args) = tt

mutual
  -- an expression's text
  pub expression-piece : (e : Expression) → IsSpellable e → Piece (expression_text e) (expression_symbols e)
  expression-piece (integer n) good code others ends w = symbol-then (number n) code others good ends w
  expression-piece true_literal good code others ends w = symbol-then (key K.True) code others tt ends w
  expression-piece false_literal good code others ends w = symbol-then (key K.False) code others tt ends w
  expression-piece (variable x) good code others ends w = symbol-then (name x) code others good ends w
  expression-piece (element x i) good code others ends w =
      element-piece x (expression_text i) (expression_symbols i) good.0 (expression-piece i good.1) code others ends w
  expression-piece (group e) good code others ends w = group-piece (expression_text e) (expression_symbols e) (expression-piece e good) code others ends w
  expression-piece (unary op e) good code others ends w =
      simp append_assoc (unary-then op (expression_text e ++ code) (expression_symbols e ++ others) (expression-begins e code good) (expression-piece e good code others ends w))
  expression-piece (binary op a b) good code others ends w =
      infix-piece (expression_text a) (sign_of_binary op) (expression_text b) (expression_symbols a) (sign (binary_sign op)) (expression_symbols b)
      (expression-piece a good.0) (binary-ends op) (binary-then op) (expression-piece b good.1) code others ends w
  expression-piece (compare op a b) good code others ends w =
      infix-piece (expression_text a) (sign_of_comparison op) (expression_text b) (expression_symbols a) (sign (comparison_sign op)) (expression_symbols b)
      (expression-piece a good.0) (comparison-ends op) (comparison-then op) (expression-piece b good.1) code others ends w
  expression-piece (negation e) good code others ends w =
      not-then (expression_text e ++ code) (expression_symbols e ++ others) (expression-piece e good code others ends w)
  expression-piece (conjunction a b) good code others ends w =
      infix-piece (expression_text a) (codes " and ") (expression_text b) (expression_symbols a) (key K.And) (expression_symbols b)
      (expression-piece a good.0) (λ more. refl) and-then (expression-piece b good.1) code others ends w
  expression-piece (disjunction a b) good code others ends w =
      infix-piece (expression_text a) (codes " or ") (expression_text b) (expression_symbols a) (key K.Or) (expression_symbols b)
      (expression-piece a good.0) (λ more. refl) or-then (expression-piece b good.1) code others ends w
  expression-piece (call f args) good code others ends w =
      call-piece f (joined (argument_texts args)) (argument_symbols args) good.0 (arguments-piece args good.1) code others ends w
  expression-piece (method o m args) good code others ends w =
      method-piece o m (joined (argument_texts args)) (argument_symbols args) good.0 good.1 (arguments-piece args good.2) code others ends w

  -- arguments with their commas
  pub arguments-piece : (args : Arguments) → AreSpellable args → Piece (joined (argument_texts args)) (argument_symbols args)
  arguments-piece no_more good code others ends w = w
  arguments-piece (value_then e args) good code others ends w =
      joined-piece (expression_text e) (argument_texts args) (expression_symbols e) (argument_symbols args) (arguments-together args)
      (expression-piece e good.0) (arguments-piece args good.1) code others ends w
  arguments-piece (text_then t args) good code others ends w =
      joined-piece (P.quoted t) (argument_texts args) (quoted t ∷ []) (argument_symbols args) (arguments-together args)
      (quoted-piece t good.0) (arguments-piece args good.1) code others ends w

list-together : (es : List Expression) → EmptyTogether (map expression_text es) (list_symbols es)
list-together [] = tt
list-together (e ∷ es) = neither-empty (expression_text e) (map expression_text es) _ (value-some e (comma_before (list_symbols es)))

-- expressions with their commas
pub list-piece : (es : List Expression) → EachSpellable es → Piece (joined (map expression_text es)) (list_symbols es)
list-piece [] good code others ends w = w
list-piece (e ∷ es) good code others ends w =
    joined-piece (expression_text e) (map expression_text es) (expression_symbols e) (list_symbols es) (list-together es)
    (expression-piece e good.0) (list-piece es good.1) code others ends w
