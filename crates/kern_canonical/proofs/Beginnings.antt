-- How texts begin: with no space, and with no byte that goes on with a minus.
use Rattle.std.proofs.Common.{◌≡◌, ℕ, ◌<◌, Bool, true, false, not, ◌&&◌, [], ◌∷◌, ◌++◌, length, refl, arith, nat_eq, nat_le, append_assoc}
use Rattle.std.specs.Fmt.{decimal}
use Rattle.std.specs.List.{list_all}
use Rattle.std.proofs.lemmas.Bool.{and_parts, leb-true}
use Rattle.std.proofs.lemmas.Fmt.{decimal_nonempty}
use Rattle.kern_lexer.specs.Bytes.{Bytes, is_word_byte, space}
use Rattle.kern_lexer.proofs.DecimalLemmas.{decimal-digits_are}
use Rattle.kern_syntax.specs.Print.{expression_text}
use Rattle.kern_syntax.specs.Spellable.{IsName, IsNumber, IsSpellable}
use Rattle.kern_syntax.specs.declared.expression.UnaryOperator.TheVariants as U
use Rattle.kern_syntax.specs.Tree.{Expression, integer, true_literal, false_literal, variable, element, group, unary, binary, compare, negation, conjunction, disjunction, call, method}
use Rattle.kern_canonical.proofs.Plain.{word_byte-other, other-word_byte, digits-run}

-- whether some bytes begin with neither a space nor `=` nor `>`
abbrev pub begins_operand : Bytes → Bool
begins_operand [] = false
begins_operand (b ∷ rest) = not (nat_eq b space) && not (nat_eq 61 b) && not (nat_eq 62 b)

-- a word does
word-begins : (word rest : Bytes) → 0 < length word → list_all is_word_byte word ≡ true → begins_operand (word ++ rest) ≡ true
word-begins [] rest some run = absurd (omega arith)
word-begins (b ∷ more) rest some run =
    let first = (and_parts (is_word_byte b) (list_all is_word_byte more) run).0 in
    let no_space : nat_eq b space ≡ false = word_byte-other b space first refl in
    let no_assign : nat_eq 61 b ≡ false = other-word_byte 61 b refl first in
    let no_greater : nat_eq 62 b ≡ false = other-word_byte 62 b refl first in
    rw (no_space, no_assign, no_greater) refl

-- a name does
pub name-begins : (x rest : Bytes) → IsName x → begins_operand (x ++ rest) ≡ true
name-begins x rest named =
    let low : nat_le 1 (length x) ≡ true = grind arith in
    let run : list_all is_word_byte x ≡ true = grind arith in
    word-begins x rest (omega (arith, leb-true 1 (length x) low)) run

-- a number does
number-begins : (n : ℕ) (rest : Bytes) → IsNumber n → begins_operand (decimal n ++ rest) ≡ true
number-begins n rest small =
    word-begins (decimal n) rest (decimal_nonempty n (omega (arith, small))) (digits-run (decimal n) (decimal-digits_are n (omega (arith, small))))

-- an expression does
pub expression-begins : (e : Expression) (rest : Bytes) → IsSpellable e → begins_operand (expression_text e ++ rest) ≡ true
expression-begins (integer n) rest good = number-begins n rest good
expression-begins true_literal rest good = refl
expression-begins false_literal rest good = refl
expression-begins (variable x) rest good = name-begins x rest good
expression-begins (element x i) rest good = simp append_assoc (name-begins x _ good.0)
expression-begins (group e) rest good = refl
expression-begins (unary U.Negate e) rest good = refl
expression-begins (unary U.Invert e) rest good = refl
expression-begins (binary op a b) rest good = simp append_assoc (expression-begins a _ good.0)
expression-begins (compare op a b) rest good = simp append_assoc (expression-begins a _ good.0)
expression-begins (negation e) rest good = refl
expression-begins (conjunction a b) rest good = simp append_assoc (expression-begins a _ good.0)
expression-begins (disjunction a b) rest good = simp append_assoc (expression-begins a _ good.0)
expression-begins (call f args) rest good = simp append_assoc (name-begins f _ good.0)
expression-begins (method o m args) rest good = simp append_assoc (name-begins o _ good.0)
