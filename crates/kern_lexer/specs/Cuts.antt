-- How a text is cut into pieces.
use Rattle.std.specs.Prelude.{◌≡◌, List, [], ◌∷◌, ◌++◌}
use Rattle.kern_lexer.specs.Bytes.{Bytes}
use Rattle.kern_lexer.specs.Pieces.{Piece, StandsRightly, bytes_of_pieces}

-- each piece rightly stands before those that follow it and the rest
abbrev pub EachStands : List Piece → (rest : Bytes) → Type 0
EachStands [] rest = Unit {0}
EachStands (p ∷ pieces) rest = StandsRightly p (bytes_of_pieces pieces ++ rest) × EachStands pieces rest

-- a text is these pieces one after another, each of which stands rightly, and then the rest
pub record IsCut (text : Bytes) (pieces : List Piece) (rest : Bytes) : Type 0 where
  pub whole : text ≡ bytes_of_pieces pieces ++ rest
  pub each : EachStands pieces rest
