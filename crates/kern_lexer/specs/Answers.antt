-- The tokens of a text, and its first fault.
use Rattle.std.specs.Prelude.{◌≡◌, List, []}
use Rattle.kern_lexer.specs.Bytes.{Bytes}
use Rattle.kern_lexer.specs.Cuts.{IsCut}
use Rattle.kern_lexer.specs.Faults.{LexFault}
use Rattle.kern_lexer.specs.Layouts.{place_behind}
use Rattle.kern_lexer.specs.Made.{tokens_of_pieces}
use Rattle.kern_lexer.specs.Pieces.{Piece}
use Rattle.kern_lexer.specs.Wrong.{EachFits, IsWrong}
use Rattle.kern_lexer.specs.declared.fault.LexEnd.{LexEnd}
use Rattle.kern_lexer.specs.declared.fault.LexEnd.TheVariants.{Fault, Memory}
use Rattle.kern_lexer.specs.declared.token.Token.{Token}

-- a text has these tokens: it is cut into pieces whose lines have right widths, and these make the tokens
pub record HasTokens (text : Bytes) (tokens : List Token) : Type 0 where
  pub pieces : List Piece
  pub cut : IsCut text pieces []
  pub fits : EachFits [] pieces
  pub made : tokens ≡ tokens_of_pieces pieces

-- a text has this first fault: what stands before its place is so cut, and what stands there is wrong
pub record HasFault (text : Bytes) (fault : LexFault) : Type 0 where
  pub pieces : List Piece
  pub rest : Bytes
  pub cut : IsCut text pieces rest
  pub fits : EachFits [] pieces
  pub at : fault.at ≡ place_behind pieces
  pub wrong : IsWrong fault.kind pieces rest

-- an end is the first fault of a text, or want of memory
abbrev pub IsEndOf : Bytes → LexEnd → Type 0
IsEndOf text (Fault at kind) = HasFault text (record { at = at; kind = kind })
IsEndOf text Memory = Unit {0}

-- an end is this fault, or want of memory
abbrev pub IsEndAt : LexFault → LexEnd → Type 0
IsEndAt fault (Fault at kind) = record { at = at; kind = kind } ≡ fault
IsEndAt fault Memory = Unit {0}

-- an end is want of memory
abbrev pub IsMemory : LexEnd → Type 0
IsMemory (Fault at kind) = ⊥
IsMemory Memory = Unit {0}
