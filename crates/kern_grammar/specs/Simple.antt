-- The tokens of the statements that stand on one line, without their Newline.
use Rattle.std.specs.Prelude.{List, [], ◌∷◌, ◌++◌, Option, Some, None}
use Rattle.kern_lexer.specs.Symbols.{Symbol, name, key, number, sign}
use Rattle.kern_lexer.specs.declared.token.Key.TheVariants as K
use Rattle.kern_lexer.specs.declared.token.Sign.{Sign}
use Rattle.kern_lexer.specs.declared.token.Sign.TheVariants as S
use Rattle.kern_syntax.specs.declared.statement.Augment.{Augment}
use Rattle.kern_syntax.specs.declared.statement.Augment.TheVariants as A
use Rattle.kern_syntax.specs.Tree.{Expression, Statement, pass, break, continue, return, evaluate, assign}
use Rattle.kern_syntax.specs.Tree.{assign_element, augment, augment_element, assign_repeated, assign_list}
use Rattle.kern_grammar.specs.Expressions.{expression_symbols, list_symbols, in_brackets}

-- the sign of an augmented assignment
abbrev pub augment_sign : Augment → Sign
augment_sign A.Add = S.AddAssign
augment_sign A.Subtract = S.SubtractAssign

-- the tokens of an expression that may be missing
abbrev pub optional_symbols : Option Expression → List Symbol
optional_symbols None = []
optional_symbols (Some e) = expression_symbols e

-- the tokens of a simple statement; no other statement is simple
abbrev pub simple_symbols : Statement → Option (List Symbol)
simple_symbols pass = Some (key K.Pass ∷ [])
simple_symbols break = Some (key K.Break ∷ [])
simple_symbols continue = Some (key K.Continue ∷ [])
simple_symbols (return e) = Some (key K.Return ∷ optional_symbols e)
simple_symbols (evaluate e) = Some (expression_symbols e)
simple_symbols (assign x e) = Some (name x ∷ sign S.Assign ∷ expression_symbols e)
simple_symbols (assign_element x i e) = Some (name x ∷ in_brackets (expression_symbols i) ++ sign S.Assign ∷ expression_symbols e)
simple_symbols (augment x op e) = Some (name x ∷ sign (augment_sign op) ∷ expression_symbols e)
simple_symbols (augment_element x i op e) = Some (name x ∷ in_brackets (expression_symbols i) ++ sign (augment_sign op) ∷ expression_symbols e)
simple_symbols (assign_repeated x e n) = Some (name x ∷ sign S.Assign ∷ in_brackets (expression_symbols e) ++ sign S.Star ∷ number n ∷ [])
simple_symbols (assign_list x es) = Some (name x ∷ sign S.Assign ∷ in_brackets (list_symbols es))
simple_symbols s = None
