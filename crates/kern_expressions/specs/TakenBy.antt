-- What a reading function gives, against the taking of tokens.
use Rattle.std.specs.Prelude.{◌≡◌, Bool, false, List, [], ◌∷◌, Option, Result, Ok, Err}
use Rattle.kern_lexer.specs.Symbols.{Symbol, Lexeme, lexemes_of}
use Rattle.kern_grammar.specs.Plans.{Taken, Taker, ◌>>=◌, Plan, done, token, peek, part, last}
use Rattle.kern_grammar.specs.Reading.{choose}
use Rattle.kern_syntax.specs.Tree.{Expression}
use Rattle.kern_expressions.specs.Given.{Gives}
use Rattle.kern_expressions.specs.Kept.{KeptAs, ReadAs}
use Rattle.kern_expressions.specs.declared.parts.ReadExpr.{ReadExpr}
use Rattle.kern_expressions.specs.declared.tokens.Tokens.{Tokens}
use Rattle.kern_expressions.specs.declared.tokens.WrongToken.{WrongToken}

-- the tokens that are left, with what they spell
abbrev pub lexemes_left : Tokens → List Lexeme
lexemes_left tokens = lexemes_of tokens.text.now tokens.list.now

-- what a function gives is kept of what is taken, unless it was lost
abbrev pub GivesTaken : {X Y : Type 0} → (X → Y) → Result (Option X × Tokens) WrongToken → Taken Y → Type 0
GivesTaken view result taken = Gives lexemes_left (KeptAs view) result taken

-- of an expression
abbrev pub TakesExpression : Result (ReadExpr × Tokens) WrongToken → Taken Expression → Type 0
TakesExpression result taken = Gives lexemes_left ReadAs result taken

-- of a function that takes no memory: what it gives, seen by a view, and the tokens behind it, are what is taken
abbrev pub FindsTaken : {X Y : Type 0} → (X → Y) → Result (X × Tokens) WrongToken → Taken Y → Type 0
FindsTaken view (Ok x) taken = taken ≡ Ok (view x.0, lexemes_left x.1)
FindsTaken view (Err wrong) taken = taken ≡ Err (lexemes_left wrong.left)

-- the tokens that such a function gives are those behind what is taken
abbrev pub FindsRest : Result Tokens WrongToken → Taken (Unit {0}) → Type 0
FindsRest (Ok rest) taken = taken ≡ Ok (tt, lexemes_left rest)
FindsRest (Err wrong) taken = taken ≡ Err (lexemes_left wrong.left)

-- a first token that is seen as something
abbrev pub first_seen : {V : Type 0} → (view : Symbol → Option V) → Taker V
first_seen view [] = Err []
first_seen view (t ∷ rest) = choose (view t.symbol) (Err (t ∷ rest)) (λ v. Ok (v, rest))

-- taking by a plan, step by step: `run` of Plans.antt, stated a second time for the proof's sake
abbrev pub perform : {A : Type 0} → Plan A → Taker A
perform (done a) tokens = Ok (a, tokens)
perform (token view next) tokens = do
  v ← first_seen view tokens
  perform (next v.0) v.1
perform (peek next) [] = Err []
perform (peek next) (t ∷ rest) = perform (next t) (t ∷ rest)
perform (part phrase stop take next) tokens = do
  x ← take tokens
  perform (next x.0) x.1
perform (last phrase stop take build) tokens = do
  x ← take tokens
  Ok (build x.0, x.1)

-- one token and no more
abbrev pub a_token : {V : Type 0} → (view : Symbol → Option V) → Plan V
a_token view = token view (λ v. done v)

-- whether the first symbol passes a test
abbrev pub begins_with : (test : Symbol → Bool) → List Lexeme → Bool
begins_with test [] = false
begins_with test (t ∷ rest) = test t.symbol
