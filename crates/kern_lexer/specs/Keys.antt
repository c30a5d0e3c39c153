-- The keywords and their spelling.
use Rattle.std.specs.Prelude.{ℕ, ◌-◌, List, [], ◌∷◌, Bool, ◌&&◌, ◌==◌, codes, length, Option, find, nat_eq, slice_index}
use Rattle.std.specs.Cmp.Lexicographic.{pointwise}
use Rattle.kern_lexer.specs.Bytes.{Bytes}
use Rattle.kern_lexer.specs.declared.token.Key.{Key}
use Rattle.kern_lexer.specs.declared.token.Key.TheVariants as K

-- how a keyword is spelled
abbrev pub key_text : Key → Bytes
key_text K.Def = codes "def"
key_text K.Return = codes "return"
key_text K.If = codes "if"
key_text K.Elif = codes "elif"
key_text K.Else = codes "else"
key_text K.While = codes "while"
key_text K.For = codes "for"
key_text K.In = codes "in"
key_text K.With = codes "with"
key_text K.Try = codes "try"
key_text K.Except = codes "except"
key_text K.Pass = codes "pass"
key_text K.Break = codes "break"
key_text K.Continue = codes "continue"
key_text K.And = codes "and"
key_text K.Or = codes "or"
key_text K.Not = codes "not"
key_text K.True = codes "True"
key_text K.False = codes "False"

-- all keywords
abbrev pub keys : List Key
keys =
    K.Def ∷ K.Return ∷ K.If ∷ K.Elif ∷ K.Else ∷ K.While ∷ K.For ∷ K.In ∷ K.With ∷ K.Try ∷ K.Except
    ∷ K.Pass ∷ K.Break ∷ K.Continue ∷ K.And ∷ K.Or ∷ K.Not ∷ K.True ∷ K.False ∷ []

-- the keyword that a word is
abbrev pub key_of : Bytes → Option Key
key_of word = find (λ k. pointwise nat_eq word (key_text k)) keys

-- whether a word has this first and this last byte
abbrev pub is_between : (first last : ℕ) → Bytes → Bool
is_between first last word = (slice_index word 0 == first) && (slice_index word (length word - 1) == last)
