-- The first fault of a text, and steps up to it.
use Rattle.std.specs.Prelude.{ℕ, Result, Ok, Err}
use Rattle.kern_lexer.specs.declared.fault.LexKind.{LexKind}

-- a fault and its place
pub record LexFault : Type 0 where
  pub at : ℕ
  pub kind : LexKind

-- one step after another, up to the first fault
infixl 10 ◌>>=◌
abbrev pub ◌>>=◌ : {A B : Type 0} → Result A LexFault → (A → Result B LexFault) → Result B LexFault
(Ok x) >>= f = f x
(Err e) >>= f = Err e

-- a fault of this kind stands here
abbrev pub placed : {A : Type 0} → ℕ → Result A LexKind → Result A LexFault
placed at (Ok x) = Ok x
placed at (Err kind) = Err (record { at = at; kind = kind })
