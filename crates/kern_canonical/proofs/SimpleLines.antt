-- The lines of simple statements.
use Rattle.std.proofs.Common.{◌≡◌, ℕ, ◌∙◌, List, [], ◌∷◌, ◌++◌, map, refl, subst, arith, append_assoc, append-nil}
use Rattle.std.specs.Fmt.{decimal}
use Rattle.std.specs.Prelude.{codes, Option, Some, None}
use Rattle.kern_lexer.specs.Bytes.{Bytes, space}
use Rattle.kern_lexer.specs.Signs.{sign_text}
use Rattle.kern_lexer.specs.Symbols.{Symbol, name, key, number, sign}
use Rattle.kern_lexer.specs.Tokens.{Left}
use Rattle.kern_lexer.specs.declared.token.Key.TheVariants as K
use Rattle.kern_lexer.specs.declared.token.Sign.TheVariants as S
use Rattle.kern_syntax.specs.Print.{expression_text, joined, return_text, sign_of_augment}
use Rattle.kern_syntax.specs.Spellable.{IsName, IsNumber, IsSpellable, IfThereSpellable, EachSpellable}
use Rattle.kern_syntax.specs.declared.statement.Augment.{Augment}
use Rattle.kern_syntax.specs.declared.statement.Augment.TheVariants as A
use Rattle.kern_syntax.specs.Tree.{Expression}
use Rattle.kern_grammar.specs.Expressions.{expression_symbols, list_symbols, in_brackets}
use Rattle.kern_grammar.specs.Simple.{augment_sign, optional_symbols}
use Rattle.kern_canonical.proofs.Beginnings.{name-begins, expression-begins}
use Rattle.kern_canonical.proofs.Closings.{opens, square-closed, expression-closed, list-closed, closed-alone}
use Rattle.kern_canonical.proofs.CodeLines.{CodeLine, piece-alone, key-then}
use Rattle.kern_canonical.proofs.Expressions.{expression-piece, expression-some, list-piece}
use Rattle.kern_canonical.proofs.Pieces.{Piece, square-then, element-then}
use Rattle.kern_canonical.proofs.Signs.{operator-then}
use Rattle.kern_canonical.proofs.Words.{Words, words-none, symbol-then}

-- an expression alone
expression-words : (e : Expression) → IsSpellable e → Words (expression_text e) (expression_symbols e)
expression-words e good = piece-alone (expression_text e) (expression_symbols e) (expression-piece e good)

-- a number alone
number-words : (n : ℕ) → IsNumber n → Words (decimal n) (number n ∷ [])
number-words n small = subst (λ t. Words t (number n ∷ [])) (append-nil (decimal n)) (symbol-then (number n) [] [] small refl words-none)

-- the sign of an augmented assignment
augment-then : (op : Augment) (code : Bytes) (symbols : List Symbol) → Words code symbols
    → Words (sign_of_augment op ++ code) (sign (augment_sign op) ∷ symbols)
augment-then op code symbols w = operator-then (augment_sign op) (sign_of_augment op) code symbols (printed op) w
  where
    printed : (op : Augment) → sign_of_augment op ≡ space ∷ (sign_text (augment_sign op) ++ space ∷ [])
    printed A.Add = refl
    printed A.Subtract = refl

-- it ends the name before it
augment-parted : (op : Augment) (x code : Bytes) (symbols : List Symbol) → IsName x → Words (sign_of_augment op ++ code) symbols
    → Words (x ++ (sign_of_augment op ++ code)) (name x ∷ symbols)
augment-parted A.Add x code symbols named w = symbol-then (name x) (codes " += " ++ code) symbols named refl w
augment-parted A.Subtract x code symbols named w = symbol-then (name x) (codes " -= " ++ code) symbols named refl w

-- it opens and closes no bracket
augment-closed : (op : Augment) (left : Left) (rest : List Symbol) → opens left (sign (augment_sign op) ∷ rest) ≡ opens left rest
augment-closed A.Add left rest = refl
augment-closed A.Subtract left rest = refl

-- an expression closes its brackets
whole-closed : (e : Expression) (left : Left) → opens left (expression_symbols e) ≡ left
whole-closed e left = closed-alone (expression_symbols e) (expression-closed e) left

pub pass-line : CodeLine (codes "pass") (key K.Pass ∷ [])
pass-line = record { words = symbol-then (key K.Pass) [] [] tt refl words-none; begins = refl; some = omega arith; closed = λ left. refl }

pub break-line : CodeLine (codes "break") (key K.Break ∷ [])
break-line = record { words = symbol-then (key K.Break) [] [] tt refl words-none; begins = refl; some = omega arith; closed = λ left. refl }

pub continue-line : CodeLine (codes "continue") (key K.Continue ∷ [])
continue-line = record { words = symbol-then (key K.Continue) [] [] tt refl words-none; begins = refl; some = omega arith; closed = λ left. refl }

pub return-line : (e : Option Expression) → IfThereSpellable e → CodeLine (return_text e) (key K.Return ∷ optional_symbols e)
return-line None good = record { words = symbol-then (key K.Return) [] [] tt refl words-none; begins = refl; some = omega arith; closed = λ left. refl }
return-line (Some e) good = record {
  words = key-then K.Return (expression_text e) (expression_symbols e) (expression-words e good);
  begins = refl;
  some = omega arith;
  closed = λ left. whole-closed e left;
}

pub evaluate-line : (e : Expression) → IsSpellable e → CodeLine (expression_text e) (expression_symbols e)
evaluate-line e good = record {
  words = expression-words e good;
  begins = rw (← append-nil (expression_text e)) (expression-begins e [] good);
  some = expression-some e;
  closed = λ left. whole-closed e left;
}

pub assign-line : (x : Bytes) (e : Expression) → IsName x → IsSpellable e
    → CodeLine (x ++ codes " = " ++ expression_text e) (name x ∷ sign S.Assign ∷ expression_symbols e)
assign-line x e named good = record {
  words = simp append_assoc (symbol-then (name x) (codes " = " ++ expression_text e) (sign S.Assign ∷ expression_symbols e) named refl
      (operator-then S.Assign (codes " = ") (expression_text e) (expression_symbols e) refl (expression-words e good)));
  begins = simp append_assoc (name-begins x _ named);
  some = omega arith;
  closed = λ left. whole-closed e left;
}

pub augment-line : (x : Bytes) (op : Augment) (e : Expression) → IsName x → IsSpellable e
    → CodeLine (x ++ sign_of_augment op ++ expression_text e) (name x ∷ sign (augment_sign op) ∷ expression_symbols e)
augment-line x op e named good = record {
  words = simp append_assoc (augment-parted op x (expression_text e) (sign (augment_sign op) ∷ expression_symbols e) named
      (augment-then op (expression_text e) (expression_symbols e) (expression-words e good)));
  begins = simp append_assoc (name-begins x _ named);
  some = omega arith;
  closed = λ left. augment-closed op left (expression_symbols e) ∙ whole-closed e left;
}

pub assign_element-line : (x : Bytes) (i e : Expression) → IsName x → IsSpellable i → IsSpellable e
    → CodeLine (x ++ codes "[" ++ expression_text i ++ codes "] = " ++ expression_text e) (name x ∷ in_brackets (expression_symbols i) ++ sign S.Assign ∷ expression_symbols e)
assign_element-line x i e named inside good = record {
  words = simp append_assoc (element-then x (expression_text i) (expression_symbols i) (codes " = " ++ expression_text e) (sign S.Assign ∷ expression_symbols e) named (expression-piece i inside)
      (operator-then S.Assign (codes " = ") (expression_text e) (expression_symbols e) refl (expression-words e good)));
  begins = simp append_assoc (name-begins x _ named);
  some = omega arith;
  closed = λ left. square-closed (expression_symbols i) (expression-closed i) left (sign S.Assign ∷ expression_symbols e) ∙ whole-closed e left;
}

pub augment_element-line : (x : Bytes) (i : Expression) (op : Augment) (e : Expression) → IsName x → IsSpellable i → IsSpellable e
    → CodeLine (x ++ codes "[" ++ expression_text i ++ codes "]" ++ sign_of_augment op ++ expression_text e) (name x ∷ in_brackets (expression_symbols i) ++ sign (augment_sign op) ∷ expression_symbols e)
augment_element-line x i op e named inside good = record {
  words = simp append_assoc (element-then x (expression_text i) (expression_symbols i) (sign_of_augment op ++ expression_text e) (sign (augment_sign op) ∷ expression_symbols e) named (expression-piece i inside)
      (augment-then op (expression_text e) (expression_symbols e) (expression-words e good)));
  begins = simp append_assoc (name-begins x _ named);
  some = omega arith;
  closed = λ left. square-closed (expression_symbols i) (expression-closed i) left (sign (augment_sign op) ∷ expression_symbols e) ∙ augment-closed op left (expression_symbols e) ∙ whole-closed e left;
}

pub repeat-line : (x : Bytes) (e : Expression) (n : ℕ) → IsName x → IsSpellable e → IsNumber n
    → CodeLine (x ++ codes " = [" ++ expression_text e ++ codes "] * " ++ decimal n) (name x ∷ sign S.Assign ∷ in_brackets (expression_symbols e) ++ sign S.Star ∷ number n ∷ [])
repeat-line x e n named good small =
    let array : List Symbol = sign S.OpenBracket ∷ (expression_symbols e ++ sign S.CloseBracket ∷ sign S.Star ∷ number n ∷ []) in
    let array_text : Bytes = 91 ∷ (expression_text e ++ 93 ∷ (codes " * " ++ decimal n)) in
    let array_words : Words array_text array =
    square-then (expression_text e) (expression_symbols e) (codes " * " ++ decimal n) (sign S.Star ∷ number n ∷ []) (expression-piece e good)
    (operator-then S.Star (codes " * ") (decimal n) (number n ∷ []) refl (number-words n small)) in
    record {
      words = simp append_assoc (symbol-then (name x) (codes " = " ++ array_text) (sign S.Assign ∷ array) named refl
          (operator-then S.Assign (codes " = ") array_text array refl array_words));
      begins = simp append_assoc (name-begins x _ named);
      some = omega arith;
      closed = λ left. square-closed (expression_symbols e) (expression-closed e) left (sign S.Star ∷ number n ∷ []);
    }

pub list-line : (x : Bytes) (es : List Expression) → IsName x → EachSpellable es
    → CodeLine (x ++ codes " = [" ++ joined (map expression_text es) ++ codes "]") (name x ∷ sign S.Assign ∷ in_brackets (list_symbols es))
list-line x es named good = listed x (joined (map expression_text es)) (list_symbols es) named (list-piece es good) (closed-alone (in_brackets (list_symbols es)) (square-closed (list_symbols es) (list-closed es)))
  where
    listed : (x text : Bytes) (symbols : List Symbol) → IsName x → Piece text symbols
        → ((left : Left) → opens left (in_brackets symbols) ≡ left)
        → CodeLine (x ++ codes " = [" ++ text ++ codes "]") (name x ∷ sign S.Assign ∷ in_brackets symbols)
    listed x text symbols named piece closed = record {
      words = simp append_assoc (symbol-then (name x) (codes " = [" ++ (text ++ 93 ∷ [])) (sign S.Assign ∷ sign S.OpenBracket ∷ (symbols ++ sign S.CloseBracket ∷ [])) named refl
          (operator-then S.Assign (codes " = ") (91 ∷ (text ++ 93 ∷ [])) (sign S.OpenBracket ∷ (symbols ++ sign S.CloseBracket ∷ [])) refl
          (square-then text symbols [] [] piece words-none)));
      begins = simp append_assoc (name-begins x _ named);
      some = omega arith;
      closed = λ left. closed left;
    }
