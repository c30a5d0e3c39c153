-- For the proofs alone: what the plans of reading see in a symbol.
use Rattle.std.specs.Prelude.{ℕ, Bool, true, false, Option, Some, None, codes, if◌then◌else◌}
use Rattle.std.specs.Str.{bytes_eq}
use Rattle.kern_lexer.specs.Bytes.{Bytes}
use Rattle.kern_lexer.specs.Symbols.{Symbol, name, key, number, quoted, sign, newline, indent, dedent, end}
use Rattle.kern_lexer.specs.declared.token.Key.TheVariants as K
use Rattle.kern_lexer.specs.declared.token.Sign.TheVariants as S
use Rattle.kern_syntax.specs.declared.program.DeclaredType.{DeclaredType}
use Rattle.kern_syntax.specs.declared.program.DeclaredType.TheVariants as D
use Rattle.kern_syntax.specs.declared.statement.Augment.{Augment}
use Rattle.kern_syntax.specs.declared.statement.Augment.TheVariants as A
use Rattle.kern_syntax.specs.Tree.{Expression, variable, element}

-- nothing but that it is there
abbrev pub Seen : Type 0
Seen = Option (Unit {0})

-- one key, sign or mark
abbrev pub line_end : Symbol → Seen
line_end newline = Some tt
line_end s = None

abbrev pub indented : Symbol → Seen
indented indent = Some tt
indented s = None

abbrev pub dedented : Symbol → Seen
dedented dedent = Some tt
dedented s = None

abbrev pub text_end : Symbol → Seen
text_end end = Some tt
text_end s = None

abbrev pub colon : Symbol → Seen
colon (sign S.Colon) = Some tt
colon s = None

abbrev pub comma : Symbol → Seen
comma (sign S.Comma) = Some tt
comma s = None

abbrev pub dot : Symbol → Seen
dot (sign S.Dot) = Some tt
dot s = None

abbrev pub at_sign : Symbol → Seen
at_sign (sign S.At) = Some tt
at_sign s = None

abbrev pub open_parenthesis : Symbol → Seen
open_parenthesis (sign S.OpenParenthesis) = Some tt
open_parenthesis s = None

abbrev pub close_parenthesis : Symbol → Seen
close_parenthesis (sign S.CloseParenthesis) = Some tt
close_parenthesis s = None

abbrev pub open_bracket : Symbol → Seen
open_bracket (sign S.OpenBracket) = Some tt
open_bracket s = None

abbrev pub close_bracket : Symbol → Seen
close_bracket (sign S.CloseBracket) = Some tt
close_bracket s = None

abbrev pub in_key : Symbol → Seen
in_key (key K.In) = Some tt
in_key s = None

abbrev pub def_key : Symbol → Seen
def_key (key K.Def) = Some tt
def_key s = None

abbrev pub elif_key : Symbol → Seen
elif_key (key K.Elif) = Some tt
elif_key s = None

abbrev pub else_key : Symbol → Seen
else_key (key K.Else) = Some tt
else_key s = None

abbrev pub except_key : Symbol → Seen
except_key (key K.Except) = Some tt
except_key s = None

-- whether it is there
abbrev pub is_seen : Seen → Bool
is_seen None = false
is_seen (Some u) = true

-- names, numbers and texts
abbrev pub a_name : Symbol → Option Bytes
a_name (name x) = Some x
a_name s = None

abbrev pub a_number : Symbol → Option ℕ
a_number (number n) = Some n
a_number s = None

abbrev pub a_text : Symbol → Option Bytes
a_text (quoted text) = Some text
a_text s = None

-- one name
abbrev pub the_name : Bytes → Symbol → Seen
the_name word (name x) = if bytes_eq x word then Some tt else None
the_name word s = None

-- the type that a word names
abbrev pub type_of_word : Bytes → Option DeclaredType
type_of_word x =
    if bytes_eq x (codes "int32") then Some D.Int32 else (if bytes_eq x (codes "int64") then Some D.Int64 else (if bytes_eq x (codes "bool") then Some D.Bool else None))

abbrev pub a_type : Symbol → Option DeclaredType
a_type (name x) = type_of_word x
a_type s = None

-- the item of a `with`
pub data WithItem : Type 0 where
  in_parallel in_sequence recording : WithItem

abbrev pub item_of_word : Bytes → Option WithItem
item_of_word x =
    if bytes_eq x (codes "parallel") then Some in_parallel else (if bytes_eq x (codes "sequential") then Some in_sequence else (if bytes_eq x (codes "core_dma") then Some recording else None))

abbrev pub a_with_item : Symbol → Option WithItem
a_with_item (name x) = item_of_word x
a_with_item s = None

-- whether more bounds follow, or the parenthesis closes
abbrev pub comma_or_close : Symbol → Option Bool
comma_or_close (sign S.Comma) = Some true
comma_or_close (sign S.CloseParenthesis) = Some false
comma_or_close s = None

-- whether a result type follows, or the header ends
abbrev pub arrow_or_colon : Symbol → Option Bool
arrow_or_colon (sign S.Arrow) = Some true
arrow_or_colon (sign S.Colon) = Some false
arrow_or_colon s = None

-- whether an array's length follows, or the line ends
abbrev pub star_or_end : Symbol → Option Bool
star_or_end (sign S.Star) = Some true
star_or_end newline = Some false
star_or_end s = None

-- how a statement begins
pub data Opening : Type 0 where
  passes breaks continues returns ifs whiles fors withs tries others : Opening

abbrev pub opening : Symbol → Opening
opening (key K.Pass) = passes
opening (key K.Break) = breaks
opening (key K.Continue) = continues
opening (key K.Return) = returns
opening (key K.If) = ifs
opening (key K.While) = whiles
opening (key K.For) = fors
opening (key K.With) = withs
opening (key K.Try) = tries
opening s = others

-- any symbol, where it was looked at before
abbrev pub any : Symbol → Seen
any s = Some tt

-- what may be assigned to
pub data Place : Type 0 where
  to_name : Bytes → Place
  to_element : Bytes → Expression → Place

abbrev pub place_of : Expression → Option Place
place_of (variable x) = Some (to_name x)
place_of (element x i) = Some (to_element x i)
place_of e = None

-- what stands behind the expression that a statement begins with
pub data Tail : Type 0 where
  ends assigns : Tail
  augments : Augment → Tail

abbrev pub tail_of : Symbol → Option Tail
tail_of newline = Some ends
tail_of (sign S.Assign) = Some assigns
tail_of (sign S.AddAssign) = Some (augments A.Add)
tail_of (sign S.SubtractAssign) = Some (augments A.Subtract)
tail_of s = None

-- what a statement that begins with an expression does
pub data Deed : Type 0 where
  evaluates : Deed
  assigns_to : Place → Deed
  augments_at : Place → Augment → Deed

abbrev pub deed_of : Option Place → Option Tail → Option Deed
deed_of place None = None
deed_of place (Some ends) = Some evaluates
deed_of None (Some assigns) = None
deed_of None (Some (augments op)) = None
deed_of (Some p) (Some assigns) = Some (assigns_to p)
deed_of (Some p) (Some (augments op)) = Some (augments_at p op)

-- what a statement that begins with this expression does, by the symbol behind it
abbrev pub deed : Expression → Symbol → Option Deed
deed e s = deed_of (place_of e) (tail_of s)
