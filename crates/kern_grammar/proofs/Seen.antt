-- What is seen in a symbol says which it is.
use Rattle.std.proofs.Common.{◌≡◌, ℕ, Bool, true, false, cond, refl, sym, ◌∙◌, ap, ◌⊎◌, inl, inr}
use Rattle.std.proofs.lemmas.Slice.Eq.{bytes_eq-Decides}
use Rattle.std.specs.Prelude.{Option, Some, None, codes}
use Rattle.std.specs.Str.{bytes_eq}
use Rattle.kern_lexer.specs.Bytes.{Bytes}
use Rattle.kern_lexer.specs.Symbols.{Symbol, name, key, number, quoted, sign, newline, indent, dedent, end}
use Rattle.kern_lexer.specs.declared.token.Key.TheVariants as K
use Rattle.kern_lexer.specs.declared.token.Sign.TheVariants as S
use Rattle.kern_syntax.specs.declared.program.DeclaredType.{DeclaredType}
use Rattle.kern_syntax.specs.declared.program.DeclaredType.TheVariants as D
use Rattle.kern_syntax.specs.declared.statement.Augment.TheVariants as A
use Rattle.kern_syntax.specs.Print.{name_of_type}
use Rattle.kern_syntax.specs.Tree.{Expression, variable, element}
use Rattle.kern_grammar.specs.Simple.{augment_sign}
use Rattle.kern_grammar.specs.Views.{line_end, indented, dedented, text_end, colon, comma, dot, at_sign, open_parenthesis, close_parenthesis, open_bracket, close_bracket, in_key, def_key, elif_key, else_key, except_key, a_name, a_number, a_text, the_name, type_of_word, a_type, WithItem, in_parallel, in_sequence, recording, item_of_word, a_with_item, comma_or_close, arrow_or_colon, star_or_end, Opening, passes, breaks, continues, returns, ifs, whiles, fors, withs, tries, others, opening, Place, to_name, to_element, place_of, Tail, ends, assigns, augments, tail_of}
use Rattle.kern_grammar.proofs.Taking.{bool_tells}

pub line_end-is : (s : Symbol) (u : Unit {0}) → line_end s ≡ Some u → s ≡ newline
line_end-is newline u h = refl
line_end-is s u h = absurd cc

pub indented-is : (s : Symbol) (u : Unit {0}) → indented s ≡ Some u → s ≡ indent
indented-is indent u h = refl
indented-is s u h = absurd cc

pub dedented-is : (s : Symbol) (u : Unit {0}) → dedented s ≡ Some u → s ≡ dedent
dedented-is dedent u h = refl
dedented-is s u h = absurd cc

pub text_end-is : (s : Symbol) (u : Unit {0}) → text_end s ≡ Some u → s ≡ end
text_end-is end u h = refl
text_end-is s u h = absurd cc

pub colon-is : (s : Symbol) (u : Unit {0}) → colon s ≡ Some u → s ≡ sign S.Colon
colon-is (sign S.Colon) u h = refl
colon-is s u h = absurd cc

pub comma-is : (s : Symbol) (u : Unit {0}) → comma s ≡ Some u → s ≡ sign S.Comma
comma-is (sign S.Comma) u h = refl
comma-is s u h = absurd cc

pub dot-is : (s : Symbol) (u : Unit {0}) → dot s ≡ Some u → s ≡ sign S.Dot
dot-is (sign S.Dot) u h = refl
dot-is s u h = absurd cc

pub at_sign-is : (s : Symbol) (u : Unit {0}) → at_sign s ≡ Some u → s ≡ sign S.At
at_sign-is (sign S.At) u h = refl
at_sign-is s u h = absurd cc

pub open_parenthesis-is : (s : Symbol) (u : Unit {0}) → open_parenthesis s ≡ Some u → s ≡ sign S.OpenParenthesis
open_parenthesis-is (sign S.OpenParenthesis) u h = refl
open_parenthesis-is s u h = absurd cc

pub close_parenthesis-is : (s : Symbol) (u : Unit {0}) → close_parenthesis s ≡ Some u → s ≡ sign S.CloseParenthesis
close_parenthesis-is (sign S.CloseParenthesis) u h = refl
close_parenthesis-is s u h = absurd cc

pub open_bracket-is : (s : Symbol) (u : Unit {0}) → open_bracket s ≡ Some u → s ≡ sign S.OpenBracket
open_bracket-is (sign S.OpenBracket) u h = refl
open_bracket-is s u h = absurd cc

pub close_bracket-is : (s : Symbol) (u : Unit {0}) → close_bracket s ≡ Some u → s ≡ sign S.CloseBracket
close_bracket-is (sign S.CloseBracket) u h = refl
close_bracket-is s u h = absurd cc

pub in_key-is : (s : Symbol) (u : Unit {0}) → in_key s ≡ Some u → s ≡ key K.In
in_key-is (key K.In) u h = refl
in_key-is s u h = absurd cc

pub def_key-is : (s : Symbol) (u : Unit {0}) → def_key s ≡ Some u → s ≡ key K.Def
def_key-is (key K.Def) u h = refl
def_key-is s u h = absurd cc

pub elif_key-is : (s : Symbol) (u : Unit {0}) → elif_key s ≡ Some u → s ≡ key K.Elif
elif_key-is (key K.Elif) u h = refl
elif_key-is s u h = absurd cc

pub else_key-is : (s : Symbol) (u : Unit {0}) → else_key s ≡ Some u → s ≡ key K.Else
else_key-is (key K.Else) u h = refl
else_key-is s u h = absurd cc

pub except_key-is : (s : Symbol) (u : Unit {0}) → except_key s ≡ Some u → s ≡ key K.Except
except_key-is (key K.Except) u h = refl
except_key-is s u h = absurd cc

pub a_name-is : (s : Symbol) (x : Bytes) → a_name s ≡ Some x → s ≡ name x
a_name-is (name y) x h = cc
a_name-is s x h = absurd cc

pub a_number-is : (s : Symbol) (n : ℕ) → a_number s ≡ Some n → s ≡ number n
a_number-is (number m) n h = cc
a_number-is s n h = absurd cc

pub a_text-is : (s : Symbol) (x : Bytes) → a_text s ≡ Some x → s ≡ quoted x
a_text-is (quoted y) x h = cc
a_text-is s x h = absurd cc

-- one word among others
chosen : {A : Type 0} (x word : Bytes) (v w : A) (other : Option A) → cond (bytes_eq x word) (Some v) other ≡ Some w → ((x ≡ word) × (v ≡ w)) ⊎ (other ≡ Some w)
chosen x word v w other h =
    elim (bool_tells (bytes_eq x word)) [
      | inl holds ↦ inl ((bytes_eq-Decides x word).0 holds, (let e : Some v ≡ Some w = ap (λ c. cond c (Some v) other) (sym holds) ∙ h in cc))
      | inr fails ↦ inr (ap (λ c. cond c (Some v) other) (sym fails) ∙ h)
    ]

word_only : {A : Type 0} (x word : Bytes) (v w : A) → cond (bytes_eq x word) (Some v) None ≡ Some w → (x ≡ word) × (v ≡ w)
word_only x word v w h = elim (chosen x word v w None h) [ inl e ↦ e | inr e ↦ absurd cc ]

pub the_name-is : (word : Bytes) (s : Symbol) (u : Unit {0}) → the_name word s ≡ Some u → s ≡ name word
the_name-is word (name x) u h = ap (λ y. name y) (word_only x word tt u h).0
the_name-is word s u h = absurd cc

type_of_word-is : (x : Bytes) (d : DeclaredType) → type_of_word x ≡ Some d → x ≡ name_of_type d
type_of_word-is x d h =
    elim (chosen x (codes "int32") D.Int32 d (cond (bytes_eq x (codes "int64")) (Some D.Int64) (cond (bytes_eq x (codes "bool")) (Some D.Bool) None)) h) [
      | inl e ↦ e.0 ∙ ap name_of_type e.1
      | inr g ↦ elim (chosen x (codes "int64") D.Int64 d (cond (bytes_eq x (codes "bool")) (Some D.Bool) None) g) [
        | inl e ↦ e.0 ∙ ap name_of_type e.1
        | inr f ↦ (let e = word_only x (codes "bool") D.Bool d f in e.0 ∙ ap name_of_type e.1)
      ]
    ]

pub a_type-is : (s : Symbol) (d : DeclaredType) → a_type s ≡ Some d → s ≡ name (name_of_type d)
a_type-is (name x) d h = ap (λ y. name y) (type_of_word-is x d h)
a_type-is s d h = absurd cc

-- a type's name is seen as the type
pub a_type-of : (d : DeclaredType) → a_type (name (name_of_type d)) ≡ Some d
a_type-of D.Int32 = refl
a_type-of D.Int64 = refl
a_type-of D.Bool = refl

-- the word of a `with` item
abbrev pub item_word : WithItem → Bytes
item_word in_parallel = codes "parallel"
item_word in_sequence = codes "sequential"
item_word recording = codes "core_dma"

item_of_word-is : (x : Bytes) (i : WithItem) → item_of_word x ≡ Some i → x ≡ item_word i
item_of_word-is x i h =
    elim (chosen x (codes "parallel") in_parallel i (cond (bytes_eq x (codes "sequential")) (Some in_sequence) (cond (bytes_eq x (codes "core_dma")) (Some recording) None)) h) [
      | inl e ↦ e.0 ∙ ap item_word e.1
      | inr g ↦ elim (chosen x (codes "sequential") in_sequence i (cond (bytes_eq x (codes "core_dma")) (Some recording) None) g) [
        | inl e ↦ e.0 ∙ ap item_word e.1
        | inr f ↦ (let e = word_only x (codes "core_dma") recording i f in e.0 ∙ ap item_word e.1)
      ]
    ]

pub a_with_item-is : (s : Symbol) (i : WithItem) → a_with_item s ≡ Some i → s ≡ name (item_word i)
a_with_item-is (name x) i h = ap (λ y. name y) (item_of_word-is x i h)
a_with_item-is s i h = absurd cc

-- the symbols of a choice of two
abbrev pub comma_or_close_symbol : Bool → Symbol
comma_or_close_symbol true = sign S.Comma
comma_or_close_symbol false = sign S.CloseParenthesis

pub comma_or_close-is : (s : Symbol) (b : Bool) → comma_or_close s ≡ Some b → s ≡ comma_or_close_symbol b
comma_or_close-is (sign S.Comma) b h = ap comma_or_close_symbol (let e : true ≡ b = cc in e)
comma_or_close-is (sign S.CloseParenthesis) b h = ap comma_or_close_symbol (let e : false ≡ b = cc in e)
comma_or_close-is s b h = absurd cc

abbrev pub arrow_or_colon_symbol : Bool → Symbol
arrow_or_colon_symbol true = sign S.Arrow
arrow_or_colon_symbol false = sign S.Colon

pub arrow_or_colon-is : (s : Symbol) (b : Bool) → arrow_or_colon s ≡ Some b → s ≡ arrow_or_colon_symbol b
arrow_or_colon-is (sign S.Arrow) b h = ap arrow_or_colon_symbol (let e : true ≡ b = cc in e)
arrow_or_colon-is (sign S.Colon) b h = ap arrow_or_colon_symbol (let e : false ≡ b = cc in e)
arrow_or_colon-is s b h = absurd cc

abbrev pub star_or_end_symbol : Bool → Symbol
star_or_end_symbol true = sign S.Star
star_or_end_symbol false = newline

pub star_or_end-is : (s : Symbol) (b : Bool) → star_or_end s ≡ Some b → s ≡ star_or_end_symbol b
star_or_end-is (sign S.Star) b h = ap star_or_end_symbol (let e : true ≡ b = cc in e)
star_or_end-is newline b h = ap star_or_end_symbol (let e : false ≡ b = cc in e)
star_or_end-is s b h = absurd cc

-- how a statement begins says its first symbol, where that is a keyword
abbrev pub OpeningIs : Symbol → Opening → Type 0
OpeningIs s passes = s ≡ key K.Pass
OpeningIs s breaks = s ≡ key K.Break
OpeningIs s continues = s ≡ key K.Continue
OpeningIs s returns = s ≡ key K.Return
OpeningIs s ifs = s ≡ key K.If
OpeningIs s whiles = s ≡ key K.While
OpeningIs s fors = s ≡ key K.For
OpeningIs s withs = s ≡ key K.With
OpeningIs s tries = s ≡ key K.Try
OpeningIs s others = Unit {0}

pub opening-is : (s : Symbol) → OpeningIs s (opening s)
opening-is (key K.Pass) = refl
opening-is (key K.Break) = refl
opening-is (key K.Continue) = refl
opening-is (key K.Return) = refl
opening-is (key K.If) = refl
opening-is (key K.While) = refl
opening-is (key K.For) = refl
opening-is (key K.With) = refl
opening-is (key K.Try) = refl
opening-is s = tt

-- the expression of a place
abbrev pub expression_at : Place → Expression
expression_at (to_name x) = variable x
expression_at (to_element x i) = element x i

pub place_of-is : (e : Expression) (p : Place) → place_of e ≡ Some p → e ≡ expression_at p
place_of-is (variable x) p h = ap expression_at (let same : to_name x ≡ p = cc in same)
place_of-is (element x i) p h = ap expression_at (let same : to_element x i ≡ p = cc in same)
place_of-is e p h = absurd cc

-- the symbol of a tail
abbrev pub tail_symbol : Tail → Symbol
tail_symbol ends = newline
tail_symbol assigns = sign S.Assign
tail_symbol (augments op) = sign (augment_sign op)

pub tail_of-is : (s : Symbol) (t : Tail) → tail_of s ≡ Some t → s ≡ tail_symbol t
tail_of-is newline t h = ap tail_symbol (let same : ends ≡ t = cc in same)
tail_of-is (sign S.Assign) t h = ap tail_symbol (let same : assigns ≡ t = cc in same)
tail_of-is (sign S.AddAssign) t h = ap tail_symbol (let same : augments A.Add ≡ t = cc in same)
tail_of-is (sign S.SubtractAssign) t h = ap tail_symbol (let same : augments A.Subtract ≡ t = cc in same)
tail_of-is s t h = absurd cc
