-- What a reading function of the parser gives, against the reading of symbols.
use Rattle.std.specs.Prelude.{◌≡◌, List, Option, Result, Ok, Err}
use Rattle.kern_lexer.specs.Symbols.{Symbol}
use Rattle.kern_syntax.specs.Tree.{Expression}
use Rattle.kern_grammar.specs.Reading.{Read}
use Rattle.kern_grammar.specs.Spelled.{symbols_in}
use Rattle.kern_expressions.specs.Kept.{KeptAs, ReadAs}
use Rattle.kern_expressions.specs.declared.parts.ReadExpr.{ReadExpr}
use Rattle.kern_expressions.specs.declared.tokens.Tokens.{Tokens}
use Rattle.kern_expressions.specs.declared.tokens.WrongToken.{WrongToken}

-- the symbols of the tokens that are left
abbrev pub symbols_left : Tokens → List Symbol
symbols_left tokens = symbols_in tokens.text.now tokens.list.now

-- what a function gives is kept of what reading gives, before the same tokens; and an end is the first fault
abbrev pub Gives : {X Y S : Type 0} → (left : Tokens → List S) → (kept : X → Y → Type 0) → Result (X × Tokens) WrongToken → Result (Y × List S) (List S) → Type 0
Gives left kept (Ok x) (Ok y) = kept x.0 y.0 × (y.1 ≡ left x.1)
Gives left kept (Ok x) (Err rest) = ⊥
Gives left kept (Err wrong) (Ok y) = ⊥
Gives left kept (Err wrong) (Err rest) = rest ≡ left wrong.left

-- of a part that may be lost, seen by a view
abbrev pub GivesRead : {X Y : Type 0} → (X → Y) → Result (Option X × Tokens) WrongToken → Read Y → Type 0
GivesRead view result read = Gives symbols_left (KeptAs view) result read

-- of an expression
abbrev pub GivesExpression : Result (ReadExpr × Tokens) WrongToken → Read Expression → Type 0
GivesExpression result read = Gives symbols_left ReadAs result read

-- of a function that takes no memory: what it gives, seen by a view, and the tokens behind it, are what reading gives
abbrev pub FindsRead : {X Y : Type 0} → (X → Y) → Result (X × Tokens) WrongToken → Read Y → Type 0
FindsRead view (Ok x) read = read ≡ Ok (view x.0, symbols_left x.1)
FindsRead view (Err wrong) read = read ≡ Err (symbols_left wrong.left)
