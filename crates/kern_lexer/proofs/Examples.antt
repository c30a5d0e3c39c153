-- The tokens and the faults of some small texts, computed.
use Rattle.std.specs.Prelude.{◌≡◌, ℕ, List, [], ◌∷◌, Result, Ok, Err, codes, refl, map}
use Rattle.kern_lexer.specs.Bytes.{Bytes}
use Rattle.kern_lexer.specs.Faults.{LexFault}
use Rattle.kern_lexer.specs.Tokens.{tokens_of}
use Rattle.kern_lexer.specs.declared.token.Token.{Token}
use Rattle.kern_lexer.specs.declared.token.TokenKind.{TokenKind}
use Rattle.kern_lexer.specs.declared.token.TokenKind.TheVariants as T
use Rattle.kern_lexer.specs.declared.token.Key.TheVariants as K
use Rattle.kern_lexer.specs.declared.token.Sign.TheVariants as S
use Rattle.kern_lexer.specs.declared.fault.LexKind.{LexKind}
use Rattle.kern_lexer.specs.declared.fault.LexKind.TheVariants as F

-- a text is given these tokens
abbrev GivesTokens : Bytes → List Token → Type 0
GivesTokens text tokens = tokens_of text ≡ Ok tokens

-- a text is given this fault
abbrev GivesFault : Bytes → LexFault → Type 0
GivesFault text fault = tokens_of text ≡ Err fault

-- a token
abbrev token : TokenKind → (at len line : ℕ) → Token
token kind at len line = record { kind = kind; at = at; len = len; line = line }

-- a fault
abbrev fault : ℕ → LexKind → LexFault
fault at kind = record { at = at; kind = kind }

empty : GivesTokens [] (token T.End 0 0 1 ∷ [])
unfolding tokens_of
empty = refl

two_statements_on_a_line : GivesTokens (codes "def main(): pass pass")
    (token (T.Key K.Def) 0 3 1 ∷ token T.Name 4 4 1 ∷ token (T.Sign S.OpenParenthesis) 8 1 1
    ∷ token (T.Sign S.CloseParenthesis) 9 1 1 ∷ token (T.Sign S.Colon) 10 1 1
    ∷ token (T.Key K.Pass) 12 4 1 ∷ token (T.Key K.Pass) 17 4 1 ∷ token T.Newline 21 0 1
    ∷ token T.End 21 0 1 ∷ [])
unfolding tokens_of
two_statements_on_a_line = refl

number_for_a_name : GivesTokens (codes "def 5():")
    (token (T.Key K.Def) 0 3 1 ∷ token (T.Integer 5) 4 1 1 ∷ token (T.Sign S.OpenParenthesis) 5 1 1
    ∷ token (T.Sign S.CloseParenthesis) 6 1 1 ∷ token (T.Sign S.Colon) 7 1 1 ∷ token T.Newline 8 0 1
    ∷ token T.End 8 0 1 ∷ [])
unfolding tokens_of
number_for_a_name = refl

doubled_underscore : GivesFault (codes "def main(): x = 1__2") (fault 16 F.Number)
unfolding tokens_of
doubled_underscore = refl

-- a block, its lines ended by a carriage return and a line feed, with a comment and a blank line
block : GivesTokens (codes "if a:\r\n  # c\r\n\r\n    b")
    (token (T.Key K.If) 0 2 1 ∷ token T.Name 3 1 1 ∷ token (T.Sign S.Colon) 4 1 1
    ∷ token T.Newline 6 1 1 ∷ token T.Indent 20 0 4 ∷ token T.Name 20 1 4 ∷ token T.Newline 21 0 4
    ∷ token T.Dedent 21 0 4 ∷ token T.End 21 0 4 ∷ [])
unfolding tokens_of
block = refl

-- a bracket over two lines
bracketed : GivesTokens (codes "f(\n 1)\n")
    (token T.Name 0 1 1 ∷ token (T.Sign S.OpenParenthesis) 1 1 1 ∷ token (T.Integer 1) 4 1 2
    ∷ token (T.Sign S.CloseParenthesis) 5 1 2 ∷ token T.Newline 6 1 2 ∷ token T.End 7 0 3 ∷ [])
unfolding tokens_of
bracketed = refl

-- an open bracket at the end leaves no Newline
open_bracket : GivesTokens (codes "f(") (token T.Name 0 1 1 ∷ token (T.Sign S.OpenParenthesis) 1 1 1
    ∷ token T.End 2 0 1 ∷ [])
unfolding tokens_of
open_bracket = refl

-- at the first byte behind the spaces a tab or a wrong byte comes before the indent, a number behind it
deeper_tab : GivesFault (codes "if a:\n  b\n \tc") (fault 11 F.Tab)
unfolding tokens_of
deeper_tab = refl

deeper_byte : GivesFault (codes "if a:\n  b\n $c") (fault 11 F.Byte)
unfolding tokens_of
deeper_byte = refl

deeper_number : GivesFault (codes "if a:\n  b\n 1__2") (fault 11 F.Indent)
unfolding tokens_of
deeper_number = refl

tab_line : GivesFault (codes "def main():\n\tpass") (fault 12 F.Tab)
unfolding tokens_of
tab_line = refl

tab_alone : GivesFault (codes "  \t\n") (fault 2 F.Tab)
unfolding tokens_of
tab_alone = refl

tab_in_comment : GivesTokens (codes "#\t") (token T.End 2 0 1 ∷ [])
unfolding tokens_of
tab_in_comment = refl

tab_in_quotes : GivesFault (codes "x \"a\tb\"") (fault 2 F.Text)
unfolding tokens_of
tab_in_quotes = refl

line_end_in_quotes : GivesFault (codes "x \"a\n\"") (fault 2 F.Text)
unfolding tokens_of
line_end_in_quotes = refl

lone_return : GivesFault (codes "a\r") (fault 1 F.Byte)
unfolding tokens_of
lone_return = refl

lone_exclamation_mark : GivesFault (codes "a ! b") (fault 2 F.Byte)
unfolding tokens_of
lone_exclamation_mark = refl

fraction : GivesTokens (codes "1.5")
    (token (T.Integer 1) 0 1 1 ∷ token (T.Sign S.Dot) 1 1 1 ∷ token (T.Integer 5) 2 1 1
    ∷ token T.Newline 3 0 1 ∷ token T.End 3 0 1 ∷ [])
unfolding tokens_of
fraction = refl

wrong_numbers : List (Result (List Token) LexFault)
wrong_numbers = map tokens_of (codes "0X10" ∷ codes "0x1_0" ∷ codes "0x" ∷ codes "1_" ∷ codes "12ab"
    ∷ codes "9223372036854775808" ∷ [])

all_wrong : wrong_numbers ≡ Err (fault 0 F.Number) ∷ Err (fault 0 F.Number) ∷ Err (fault 0 F.Number)
    ∷ Err (fault 0 F.Number) ∷ Err (fault 0 F.Number) ∷ Err (fault 0 F.Number) ∷ []
unfolding tokens_of wrong_numbers
all_wrong = refl

right_numbers : GivesTokens (codes "0x1f 1_000 9223372036854775807 007")
    (token (T.Integer 31) 0 4 1 ∷ token (T.Integer 1000) 5 5 1
    ∷ token (T.Integer 9223372036854775807) 11 19 1 ∷ token (T.Integer 7) 31 3 1
    ∷ token T.Newline 34 0 1 ∷ token T.End 34 0 1 ∷ [])
unfolding tokens_of
right_numbers = refl

-- the longest sign wins, and two Dedents at once
longest_sign : GivesTokens (codes "a<<=b->=+=")
    (token T.Name 0 1 1 ∷ token (T.Sign S.ShiftLeft) 1 2 1 ∷ token (T.Sign S.Assign) 3 1 1
    ∷ token T.Name 4 1 1 ∷ token (T.Sign S.Arrow) 5 2 1 ∷ token (T.Sign S.Assign) 7 1 1
    ∷ token (T.Sign S.AddAssign) 8 2 1 ∷ token T.Newline 10 0 1 ∷ token T.End 10 0 1 ∷ [])
unfolding tokens_of
longest_sign = refl

two_dedents : GivesTokens (codes "a\n b\n  c\nd\n")
    (token T.Name 0 1 1 ∷ token T.Newline 1 1 1 ∷ token T.Indent 3 0 2 ∷ token T.Name 3 1 2
    ∷ token T.Newline 4 1 2 ∷ token T.Indent 7 0 3 ∷ token T.Name 7 1 3 ∷ token T.Newline 8 1 3
    ∷ token T.Dedent 9 0 4 ∷ token T.Dedent 9 0 4 ∷ token T.Name 9 1 4 ∷ token T.Newline 10 1 4
    ∷ token T.End 11 0 5 ∷ [])
unfolding tokens_of
two_dedents = refl
