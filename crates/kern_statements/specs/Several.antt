-- Items one after another, of which there is one at least.
use Rattle.std.specs.Prelude.{Bool, List, [], ◌∷◌, ◌++◌, Ok}
use Rattle.kern_lexer.specs.Symbols.{Symbol}
use Rattle.kern_grammar.specs.Plans.{Taken, Taker, ◌>>=◌, many}

-- an item, and as many more as begin with a symbol that passes a test
abbrev pub several : {X : Type 0} → (test : Symbol → Bool) → Taker X → Taker (List X)
several test take tokens = do
  x ← take tokens
  xs ← many test take x.1
  Ok (x.0 ∷ xs.0, xs.1)

-- one more item behind others
abbrev pub one_behind : {X : Type 0} → List X → Taken X → Taken (List X)
one_behind xs taken = do
  x ← taken
  Ok (xs ++ x.0 ∷ [], x.1)
