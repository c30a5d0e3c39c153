-- The signs and their spelling.
use Rattle.std.specs.Prelude.{List, [], ◌∷◌, codes, Option, find, nat_eq}
use Rattle.std.specs.List.{starts_with}
use Rattle.kern_lexer.specs.Bytes.{Bytes}
use Rattle.kern_lexer.specs.declared.token.Sign.{Sign}
use Rattle.kern_lexer.specs.declared.token.Sign.TheVariants as S

-- how a sign is spelled
abbrev pub sign_text : Sign → Bytes
sign_text S.OpenParenthesis = codes "("
sign_text S.CloseParenthesis = codes ")"
sign_text S.OpenBracket = codes "["
sign_text S.CloseBracket = codes "]"
sign_text S.Comma = codes ","
sign_text S.Colon = codes ":"
sign_text S.Dot = codes "."
sign_text S.At = codes "@"
sign_text S.Assign = codes "="
sign_text S.AddAssign = codes "+="
sign_text S.SubtractAssign = codes "-="
sign_text S.Arrow = codes "->"
sign_text S.Equal = codes "=="
sign_text S.NotEqual = codes "!="
sign_text S.Less = codes "<"
sign_text S.LessEqual = codes "<="
sign_text S.Greater = codes ">"
sign_text S.GreaterEqual = codes ">="
sign_text S.Plus = codes "+"
sign_text S.Minus = codes "-"
sign_text S.Star = codes "*"
sign_text S.DoubleSlash = codes "//"
sign_text S.Percent = codes "%"
sign_text S.ShiftLeft = codes "<<"
sign_text S.ShiftRight = codes ">>"
sign_text S.Ampersand = codes "&"
sign_text S.Caret = codes "^"
sign_text S.Tilde = codes "~"
sign_text S.Bar = codes "|"

-- all signs, those of two bytes first, so that the longest of some bytes is met first
abbrev pub signs : List Sign
signs =
    S.AddAssign ∷ S.SubtractAssign ∷ S.Arrow ∷ S.Equal ∷ S.NotEqual ∷ S.LessEqual ∷ S.GreaterEqual
    ∷ S.DoubleSlash ∷ S.ShiftLeft ∷ S.ShiftRight
    ∷ S.OpenParenthesis ∷ S.CloseParenthesis ∷ S.OpenBracket ∷ S.CloseBracket ∷ S.Comma ∷ S.Colon
    ∷ S.Dot ∷ S.At ∷ S.Assign ∷ S.Less ∷ S.Greater ∷ S.Plus ∷ S.Minus ∷ S.Star ∷ S.Percent
    ∷ S.Ampersand ∷ S.Caret ∷ S.Tilde ∷ S.Bar ∷ []

-- the longest sign that some bytes begin with
abbrev pub sign_at : Bytes → Option Sign
sign_at bytes = find (λ s. starts_with nat_eq bytes (sign_text s)) signs
