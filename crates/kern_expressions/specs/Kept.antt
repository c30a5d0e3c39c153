-- What is kept of what was read, against the trees: where memory was refused to a part, any tree may stand for it.
use Rattle.std.specs.Prelude.{◌≡◌, List, [], ◌∷◌, ◌++◌, Option, Some, None}
use Rattle.kern_lexer.specs.Bytes.{Bytes}
use Rattle.kern_syntax.specs.declared.expression.Argument.{Argument}
use Rattle.kern_syntax.specs.declared.expression.Argument.TheVariants as A
use Rattle.kern_syntax.specs.Tree.{Expression, variable, element}
use Rattle.kern_syntax.specs.TreeOf.{expression_of}
use Rattle.kern_grammar.specs.Reading.{Item, value, text}
use Rattle.kern_expressions.specs.declared.parts.Form.{Form}
use Rattle.kern_expressions.specs.declared.parts.Form.TheVariants.{Name, Element, Other}
use Rattle.kern_expressions.specs.declared.parts.ReadExpr.{ReadExpr}
use Rattle.kern_expressions.specs.declared.parts.ReadExpr.TheVariants.{Kept, Lost}

-- a part, unless it was lost, is this one, seen by a view
abbrev pub KeptAs : {X Y : Type 0} → (X → Y) → Option X → Y → Type 0
KeptAs view (Some x) y = view x ≡ y
KeptAs view None y = Unit {0}

-- a name, unless it was lost, has these bytes
abbrev pub IsNamed : Option Bytes → Bytes → Type 0
IsNamed name x = KeptAs (λ y. y) name x

-- the form of an expression
abbrev pub form_of : Expression → Form
form_of (variable x) = Name
form_of (element x i) = Element
form_of e = Other

-- an expression is this one, or if it was lost, has its form
abbrev pub ReadAs : ReadExpr → Expression → Type 0
ReadAs (Kept tree) e = expression_of tree ≡ e
ReadAs (Lost form) e = form_of e ≡ form

-- an argument as reading gives it
abbrev pub item_of : Argument → Item
item_of (A.Value e) = value (expression_of e)
item_of (A.Text name) = text name

-- items, unless they were lost, are others with one more behind them
abbrev pub AddsItem : {V X : Type 0} → (V → List X) → Option V → Option X → Option V → Type 0
AddsItem list (Some v) (Some x) (Some w) = list w ≡ list v ++ x ∷ []
AddsItem list before item (Some w) = ⊥
AddsItem list before item None = Unit {0}
