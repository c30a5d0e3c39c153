-- Texts that may stand before whatever doesn't go on with a word, and how they are put together.
use Rattle.std.proofs.Common.{◌<◌, List, [], ◌∷◌, ◌++◌, length, refl, arith, append_assoc}
use Rattle.std.specs.Prelude.{codes, IsTrue}
use Rattle.kern_lexer.specs.Bytes.{Bytes}
use Rattle.kern_lexer.specs.Spellings.{ends_word}
use Rattle.kern_lexer.specs.Symbols.{Symbol, name, quoted, sign}
use Rattle.kern_lexer.specs.declared.token.Sign.TheVariants as S
use Rattle.kern_syntax.specs.Print as P
use Rattle.kern_syntax.specs.Print.{joined}
use Rattle.kern_syntax.specs.Spellable.{IsName, IsQuotable}
use Rattle.kern_grammar.specs.Expressions.{comma_before, in_brackets, in_parentheses}
use Rattle.kern_canonical.proofs.Words.{Words, symbol-then, space-then}

-- a text that has these symbols before whatever doesn't go on with a word
abbrev pub Piece : Bytes → List Symbol → Type 0
Piece text symbols = (code : Bytes) (others : List Symbol) → IsTrue (ends_word code) → Words code others → Words (text ++ code) (symbols ++ others)

-- a piece in round brackets
pub round-then : (text : Bytes) (symbols : List Symbol) (code : Bytes) (others : List Symbol) → Piece text symbols → Words code others
    → Words (40 ∷ (text ++ 41 ∷ code)) (sign S.OpenParenthesis ∷ (symbols ++ sign S.CloseParenthesis ∷ others))
round-then text symbols code others piece w =
    symbol-then (sign S.OpenParenthesis) (text ++ 41 ∷ code) (symbols ++ sign S.CloseParenthesis ∷ others) tt refl
    (piece (41 ∷ code) (sign S.CloseParenthesis ∷ others) refl (symbol-then (sign S.CloseParenthesis) code others tt refl w))

-- and in square ones
pub square-then : (text : Bytes) (symbols : List Symbol) (code : Bytes) (others : List Symbol) → Piece text symbols → Words code others
    → Words (91 ∷ (text ++ 93 ∷ code)) (sign S.OpenBracket ∷ (symbols ++ sign S.CloseBracket ∷ others))
square-then text symbols code others piece w =
    symbol-then (sign S.OpenBracket) (text ++ 93 ∷ code) (symbols ++ sign S.CloseBracket ∷ others) tt refl
    (piece (93 ∷ code) (sign S.CloseBracket ∷ others) refl (symbol-then (sign S.CloseBracket) code others tt refl w))

-- a group
pub group-piece : (text : Bytes) (symbols : List Symbol) → Piece text symbols → Piece (codes "(" ++ text ++ codes ")") (in_parentheses symbols)
group-piece text symbols piece code others ends w = simp append_assoc (round-then text symbols code others piece w)

-- an element of an array, before more
pub element-then : (x text : Bytes) (symbols : List Symbol) (code : Bytes) (others : List Symbol) → IsName x → Piece text symbols → Words code others
    → Words (x ++ 91 ∷ (text ++ 93 ∷ code)) (name x ∷ sign S.OpenBracket ∷ (symbols ++ sign S.CloseBracket ∷ others))
element-then x text symbols code others named piece w =
    symbol-then (name x) (91 ∷ (text ++ 93 ∷ code)) (sign S.OpenBracket ∷ (symbols ++ sign S.CloseBracket ∷ others)) named refl (square-then text symbols code others piece w)

-- as it is printed
pub element-piece : (x text : Bytes) (symbols : List Symbol) → IsName x → Piece text symbols
    → Piece (x ++ codes "[" ++ text ++ codes "]") (name x ∷ in_brackets symbols)
element-piece x text symbols named piece code others ends w =
    simp append_assoc (element-then x text symbols code others named piece w)

-- a call
pub call-piece : (f text : Bytes) (symbols : List Symbol) → IsName f → Piece text symbols
    → Piece (f ++ codes "(" ++ text ++ codes ")") (name f ∷ in_parentheses symbols)
call-piece f text symbols named piece code others ends w =
    simp append_assoc (symbol-then (name f) (40 ∷ (text ++ 41 ∷ code)) (sign S.OpenParenthesis ∷ (symbols ++ sign S.CloseParenthesis ∷ others)) named refl (round-then text symbols code others piece w))

-- a call of a method
pub method-piece : (o m text : Bytes) (symbols : List Symbol) → IsName o → IsName m → Piece text symbols
    → Piece (o ++ codes "." ++ m ++ codes "(" ++ text ++ codes ")") (name o ∷ sign S.Dot ∷ name m ∷ in_parentheses symbols)
method-piece o m text symbols object_named named piece code others ends w =
    let inside : List Symbol = sign S.OpenParenthesis ∷ (symbols ++ sign S.CloseParenthesis ∷ others) in
    let tail : Words (m ++ 40 ∷ (text ++ 41 ∷ code)) (name m ∷ inside) =
    symbol-then (name m) (40 ∷ (text ++ 41 ∷ code)) inside named refl (round-then text symbols code others piece w) in
    simp append_assoc (symbol-then (name o) (46 ∷ (m ++ 40 ∷ (text ++ 41 ∷ code))) (sign S.Dot ∷ name m ∷ inside) object_named refl
    (symbol-then (sign S.Dot) (m ++ 40 ∷ (text ++ 41 ∷ code)) (name m ∷ inside) tt refl tail))

-- a text in quotes
pub quoted-piece : (text : Bytes) → IsQuotable text → Piece (P.quoted text) (quoted text ∷ [])
quoted-piece text good code others ends w = symbol-then (quoted text) code others good tt w

-- two operands and what stands between them
pub infix-piece : (a between b : Bytes) (before : List Symbol) (operator : Symbol) (after : List Symbol) → Piece a before
    → ((code : Bytes) → IsTrue (ends_word (between ++ code)))
    → ((code : Bytes) (symbols : List Symbol) → Words code symbols → Words (between ++ code) (operator ∷ symbols))
    → Piece b after → Piece (a ++ between ++ b) (before ++ operator ∷ after)
infix-piece a between b before operator after left parted join right code others ends w =
    simp append_assoc (left (between ++ (b ++ code)) (operator ∷ (after ++ others)) (parted (b ++ code))
    (join (b ++ code) (after ++ others) (right code others ends w)))

-- an item, and more behind a comma
pub comma-piece : (text more : Bytes) (symbols others : List Symbol) → Piece text symbols → Piece more others
    → Piece (text ++ 44 ∷ 32 ∷ more) (symbols ++ sign S.Comma ∷ others)
comma-piece text more symbols others item items code behind ends w =
    simp append_assoc (item (44 ∷ 32 ∷ (more ++ code)) (sign S.Comma ∷ (others ++ behind)) refl
    (symbol-then (sign S.Comma) (32 ∷ (more ++ code)) (others ++ behind) tt refl (space-then (more ++ code) (others ++ behind) (items code behind ends w))))

-- both are empty, or neither is
abbrev pub EmptyTogether : List Bytes → List Symbol → Type 0
EmptyTogether [] [] = Unit {0}
EmptyTogether [] (s ∷ symbols) = ⊥
EmptyTogether (t ∷ texts) [] = ⊥
EmptyTogether (t ∷ texts) (s ∷ symbols) = Unit {0}

-- a list of texts that isn't empty, with some symbols
pub neither-empty : (text : Bytes) (texts : List Bytes) (symbols : List Symbol) → 0 < length symbols → EmptyTogether (text ∷ texts) symbols
neither-empty text texts [] some = absurd (omega arith)
neither-empty text texts (s ∷ symbols) some = tt

-- one more item of a list
pub joined-piece : (text : Bytes) (texts : List Bytes) (symbols more : List Symbol) → EmptyTogether texts more
    → Piece text symbols → Piece (joined texts) more → Piece (joined (text ∷ texts)) (symbols ++ comma_before more)
joined-piece text [] symbols [] empty item items code behind ends w = simp append_assoc (item code behind ends w)
joined-piece text [] symbols (s ∷ more) empty item items code behind ends w = absurd empty
joined-piece text (t ∷ texts) symbols [] empty item items code behind ends w = absurd empty
joined-piece text (t ∷ texts) symbols (s ∷ more) empty item items code behind ends w =
    comma-piece text (joined (t ∷ texts)) symbols (s ∷ more) item items code behind ends w
