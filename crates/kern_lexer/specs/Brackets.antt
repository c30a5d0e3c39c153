-- The open brackets.
use Rattle.std.specs.Prelude.{List, ◌∷◌, fold}
use Rattle.kern_lexer.specs.declared.layout.Bracket.{Bracket}
use Rattle.kern_lexer.specs.declared.layout.Bracket.TheVariants.{Round, Square}
use Rattle.kern_lexer.specs.declared.token.Sign.TheVariants as S
use Rattle.kern_lexer.specs.declared.token.Token.{Token}
use Rattle.kern_lexer.specs.declared.token.TokenKind.{TokenKind}
use Rattle.kern_lexer.specs.declared.token.TokenKind.TheVariants as T

-- the open brackets without the last, where that is of this shape
abbrev pub without_last : Bracket → List Bracket → List Bracket
without_last Round (Round ∷ rest) = rest
without_last Square (Square ∷ rest) = rest
without_last shape open_ones = open_ones

-- the open brackets behind a token, the last first; a closing sign closes the last where that is of its shape
abbrev pub open_after : List Bracket → TokenKind → List Bracket
open_after open_ones (T.Sign S.OpenParenthesis) = Round ∷ open_ones
open_after open_ones (T.Sign S.OpenBracket) = Square ∷ open_ones
open_after open_ones (T.Sign S.CloseParenthesis) = without_last Round open_ones
open_after open_ones (T.Sign S.CloseBracket) = without_last Square open_ones
open_after open_ones kind = open_ones

-- the open brackets behind some tokens
abbrev pub open_behind : List Bracket → List Token → List Bracket
open_behind open_ones tokens = fold (λ brackets t. open_after brackets t.kind) open_ones tokens
