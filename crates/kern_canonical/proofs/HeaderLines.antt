-- The lines of headers.
use Rattle.std.proofs.Common.{◌≡◌, ◌∙◌, List, [], ◌∷◌, ◌++◌, map, ap, refl, sym, subst, arith, append_assoc}
use Rattle.std.specs.Prelude.{codes, Option, Some, None}
use Rattle.kern_lexer.specs.Bytes.{Bytes, space}
use Rattle.kern_lexer.specs.Keys.{key_text}
use Rattle.kern_lexer.specs.Symbols.{Symbol, name, key, quoted, sign}
use Rattle.kern_lexer.specs.Tokens.{Left}
use Rattle.kern_lexer.specs.declared.token.Key.{Key}
use Rattle.kern_lexer.specs.declared.token.Key.TheVariants as K
use Rattle.kern_lexer.specs.declared.token.Sign.TheVariants as S
use Rattle.kern_syntax.specs.declared.program.DeclaredType.{DeclaredType}
use Rattle.kern_syntax.specs.declared.program.DeclaredType.TheVariants as D
use Rattle.kern_syntax.specs.Print as P
use Rattle.kern_syntax.specs.Print.{expression_text, joined, bounds_text, name_of_type, parameter_text, result_text, header_text}
use Rattle.kern_syntax.specs.Spellable.{IsName, IsQuotable, IsSpellable, IfThereSpellable, AreParametersSpellable}
use Rattle.kern_syntax.specs.Tree.{Expression, ParameterTree, FunctionTree}
use Rattle.kern_grammar.specs.Blocks.{range_symbols, record_symbols, parameter_symbols, result_symbols, function_symbols}
use Rattle.kern_grammar.specs.Expressions.{expression_symbols, in_parentheses}
use Rattle.kern_canonical.proofs.Closings.{opens, Closed, round-closed, append-closed, comma-closed, expression-closed}
use Rattle.kern_canonical.proofs.CodeLines.{CodeLine, key-then, colon-alone}
use Rattle.kern_canonical.proofs.Expressions.{expression-piece}
use Rattle.kern_canonical.proofs.Pieces.{Piece, round-then, quoted-piece, comma-piece, EmptyTogether, joined-piece}
use Rattle.kern_canonical.proofs.Signs.{operator-then}
use Rattle.kern_canonical.proofs.Words.{Words, symbol-then, space-then}

-- the line of a header
abbrev pub HeaderLine : Bytes → List Symbol → Type 0
HeaderLine code header = CodeLine code (header ++ sign S.Colon ∷ [])

-- a keyword and a condition
condition-words : (k : Key) (c : Expression) → IsSpellable c
    → Words (key_text k ++ space ∷ (expression_text c ++ 58 ∷ [])) (key k ∷ (expression_symbols c ++ sign S.Colon ∷ []))
condition-words k c good =
    key-then k (expression_text c ++ 58 ∷ []) (expression_symbols c ++ sign S.Colon ∷ []) (expression-piece c good (58 ∷ []) (sign S.Colon ∷ []) refl colon-alone)

pub if-line : (c : Expression) → IsSpellable c → HeaderLine (codes "if " ++ expression_text c ++ codes ":") (key K.If ∷ expression_symbols c)
if-line c good = record { words = condition-words K.If c good; begins = refl; some = omega arith; closed = λ left. expression-closed c left (sign S.Colon ∷ []) }

pub elif-line : (c : Expression) → IsSpellable c → HeaderLine (codes "elif " ++ expression_text c ++ codes ":") (key K.Elif ∷ expression_symbols c)
elif-line c good = record { words = condition-words K.Elif c good; begins = refl; some = omega arith; closed = λ left. expression-closed c left (sign S.Colon ∷ []) }

pub while-line : (c : Expression) → IsSpellable c → HeaderLine (codes "while " ++ expression_text c ++ codes ":") (key K.While ∷ expression_symbols c)
while-line c good = record { words = condition-words K.While c good; begins = refl; some = omega arith; closed = λ left. expression-closed c left (sign S.Colon ∷ []) }

pub else-line : HeaderLine (codes "else:") (key K.Else ∷ [])
else-line = record { words = symbol-then (key K.Else) (58 ∷ []) (sign S.Colon ∷ []) tt refl colon-alone; begins = refl; some = omega arith; closed = λ left. refl }

pub try-line : HeaderLine (codes "try:") (key K.Try ∷ [])
try-line = record { words = symbol-then (key K.Try) (58 ∷ []) (sign S.Colon ∷ []) tt refl colon-alone; begins = refl; some = omega arith; closed = λ left. refl }

pub except-line : (x : Bytes) → IsName x → HeaderLine (codes "except " ++ x ++ codes ":") (key K.Except ∷ name x ∷ [])
except-line x named = record {
  words = key-then K.Except (x ++ 58 ∷ []) (name x ∷ sign S.Colon ∷ []) (symbol-then (name x) (58 ∷ []) (sign S.Colon ∷ []) named refl colon-alone);
  begins = refl;
  some = omega arith;
  closed = λ left. refl;
}

pub parallel-line : HeaderLine (codes "with parallel:") (key K.With ∷ name (codes "parallel") ∷ [])
parallel-line = record {
  words = key-then K.With (codes "parallel:") (name (codes "parallel") ∷ sign S.Colon ∷ []) (symbol-then (name (codes "parallel")) (58 ∷ []) (sign S.Colon ∷ []) refl refl colon-alone);
  begins = refl;
  some = omega arith;
  closed = λ left. refl;
}

pub sequential-line : HeaderLine (codes "with sequential:") (key K.With ∷ name (codes "sequential") ∷ [])
sequential-line = record {
  words = key-then K.With (codes "sequential:") (name (codes "sequential") ∷ sign S.Colon ∷ []) (symbol-then (name (codes "sequential")) (58 ∷ []) (sign S.Colon ∷ []) refl refl colon-alone);
  begins = refl;
  some = omega arith;
  closed = λ left. refl;
}

pub record-line : (text : Bytes) → IsQuotable text
    → HeaderLine (codes "with core_dma.record(" ++ P.quoted text ++ codes "):") (key K.With ∷ record_symbols text)
record-line text good = recorded (P.quoted text) (quoted-piece text good)
  where
    recorded : (item : Bytes) → Piece item (quoted text ∷ []) → HeaderLine (codes "with core_dma.record(" ++ item ++ codes "):") (key K.With ∷ record_symbols text)
    recorded item piece =
        let tail : Words (40 ∷ (item ++ 41 ∷ 58 ∷ [])) (sign S.OpenParenthesis ∷ quoted text ∷ sign S.CloseParenthesis ∷ sign S.Colon ∷ []) =
        round-then item (quoted text ∷ []) (58 ∷ []) (sign S.Colon ∷ []) piece colon-alone in
        record {
          words = key-then K.With _ _ (symbol-then (name (codes "core_dma")) _ _ refl refl (symbol-then (sign S.Dot) _ _ tt refl (symbol-then (name (codes "record")) _ _ refl refl tail)));
          begins = refl;
          some = omega arith;
          closed = λ left. refl;
        }

-- the bounds of a loop
abbrev bound_symbols : Option Expression → Expression → List Symbol
bound_symbols None to = expression_symbols to
bound_symbols (Some from) to = expression_symbols from ++ sign S.Comma ∷ expression_symbols to

bounds-piece : (from : Option Expression) (to : Expression) → IfThereSpellable from → IsSpellable to → Piece (bounds_text from to) (bound_symbols from to)
bounds-piece None to there good code others ends w = expression-piece to good code others ends w
bounds-piece (Some from) to there good code others ends w =
    subst (λ t. Words (t ++ code) ((expression_symbols from ++ sign S.Comma ∷ expression_symbols to) ++ others)) (sym (append_assoc (expression_text from) (codes ", ") (expression_text to)))
    (comma-piece (expression_text from) (expression_text to) (expression_symbols from) (expression_symbols to) (expression-piece from there) (expression-piece to good) code others ends w)

bounds-closed : (from : Option Expression) (to : Expression) → Closed (bound_symbols from to)
bounds-closed None to left rest = expression-closed to left rest
bounds-closed (Some from) to left rest =
    append-closed (expression_symbols from) (sign S.Comma ∷ expression_symbols to) (expression-closed from) (λ l others. expression-closed to l others) left rest

range-is : (from : Option Expression) (to : Expression) → name (codes "range") ∷ in_parentheses (bound_symbols from to) ≡ range_symbols from to
range-is None to = refl
range-is (Some from) to = refl

ranged-line : (x bounds : Bytes) (symbols : List Symbol) → IsName x → Piece bounds symbols → Closed symbols
    → HeaderLine (codes "for " ++ x ++ codes " in range(" ++ bounds ++ codes "):") (key K.For ∷ name x ∷ key K.In ∷ name (codes "range") ∷ in_parentheses symbols)
ranged-line x bounds symbols named piece closed =
    let inside : List Symbol = sign S.OpenParenthesis ∷ (symbols ++ sign S.CloseParenthesis ∷ sign S.Colon ∷ []) in
    let range : Words (codes "range(" ++ (bounds ++ 41 ∷ 58 ∷ [])) (name (codes "range") ∷ inside) =
    symbol-then (name (codes "range")) (40 ∷ (bounds ++ 41 ∷ 58 ∷ [])) inside refl refl (round-then bounds symbols (58 ∷ []) (sign S.Colon ∷ []) piece colon-alone) in
    let tail : Words (codes " in range(" ++ (bounds ++ 41 ∷ 58 ∷ [])) (key K.In ∷ name (codes "range") ∷ inside) =
    space-then _ _ (key-then K.In _ _ range) in
    record {
      words = simp append_assoc (key-then K.For (x ++ (codes " in range(" ++ (bounds ++ 41 ∷ 58 ∷ []))) _ (symbol-then (name x) _ _ named refl tail));
      begins = refl;
      some = omega arith;
      closed = λ left. round-closed symbols closed left (sign S.Colon ∷ []);
    }

pub for-line : (x : Bytes) (from : Option Expression) (to : Expression) → IsName x → IfThereSpellable from → IsSpellable to
    → HeaderLine (codes "for " ++ x ++ codes " in range(" ++ bounds_text from to ++ codes "):") (key K.For ∷ name x ∷ key K.In ∷ range_symbols from to)
for-line x from to named there good =
    subst (λ symbols. HeaderLine (codes "for " ++ x ++ codes " in range(" ++ bounds_text from to ++ codes "):") (key K.For ∷ name x ∷ key K.In ∷ symbols)) (range-is from to)
    (ranged-line x (bounds_text from to) (bound_symbols from to) named (bounds-piece from to there good) (bounds-closed from to))

-- a type's name
type-named : (t : DeclaredType) → IsName (name_of_type t)
type-named D.Int32 = refl
type-named D.Int64 = refl
type-named D.Bool = refl

-- a parameter
parameter-piece : (p : ParameterTree) → IsName p.name → Piece (parameter_text p) (name p.name ∷ sign S.Colon ∷ name (name_of_type p.declared) ∷ [])
parameter-piece p named code others ends w =
    simp append_assoc (symbol-then (name p.name) (58 ∷ 32 ∷ (name_of_type p.declared ++ code)) (sign S.Colon ∷ name (name_of_type p.declared) ∷ others) named refl
    (symbol-then (sign S.Colon) (32 ∷ (name_of_type p.declared ++ code)) (name (name_of_type p.declared) ∷ others) tt refl
    (space-then (name_of_type p.declared ++ code) (name (name_of_type p.declared) ∷ others)
    (symbol-then (name (name_of_type p.declared)) code others (type-named p.declared) ends w))))

parameters-together : (ps : List ParameterTree) → EmptyTogether (map parameter_text ps) (parameter_symbols ps)
parameters-together [] = tt
parameters-together (p ∷ ps) = tt

parameters-piece : (ps : List ParameterTree) → AreParametersSpellable ps → Piece (joined (map parameter_text ps)) (parameter_symbols ps)
parameters-piece [] good code others ends w = w
parameters-piece (p ∷ ps) good code others ends w =
    joined-piece (parameter_text p) (map parameter_text ps) (name p.name ∷ sign S.Colon ∷ name (name_of_type p.declared) ∷ []) (parameter_symbols ps) (parameters-together ps)
    (parameter-piece p good.0) (parameters-piece ps good.1) code others ends w

parameters-closed : (ps : List ParameterTree) → Closed (parameter_symbols ps)
parameters-closed [] left rest = refl
parameters-closed (p ∷ ps) left rest = comma-closed (parameter_symbols ps) (parameters-closed ps) left rest

-- a result type and the colon
result-words : (r : Option DeclaredType) → Words (result_text r ++ 58 ∷ []) (result_symbols r ++ sign S.Colon ∷ [])
result-words None = colon-alone
result-words (Some t) =
    operator-then S.Arrow (codes " -> ") (name_of_type t ++ 58 ∷ []) (name (name_of_type t) ∷ sign S.Colon ∷ []) refl
    (symbol-then (name (name_of_type t)) (58 ∷ []) (sign S.Colon ∷ []) (type-named t) refl colon-alone)

result-closed : (r : Option DeclaredType) (left : Left) → opens left (result_symbols r ++ sign S.Colon ∷ []) ≡ left
result-closed None left = refl
result-closed (Some t) left = refl

def-line : (f items result : Bytes) (symbols results : List Symbol) → IsName f → Piece items symbols → Closed symbols
    → Words (result ++ 58 ∷ []) (results ++ sign S.Colon ∷ []) → ((left : Left) → opens left (results ++ sign S.Colon ∷ []) ≡ left)
    → HeaderLine (codes "def " ++ f ++ codes "(" ++ items ++ codes ")" ++ result ++ codes ":") (key K.Def ∷ name f ∷ in_parentheses symbols ++ results)
def-line f items result symbols results named piece closed ended results_closed =
    let behind : List Symbol = results ++ sign S.Colon ∷ [] in
    let inside : List Symbol = sign S.OpenParenthesis ∷ (symbols ++ sign S.CloseParenthesis ∷ behind) in
    let tail : Words (40 ∷ (items ++ 41 ∷ (result ++ 58 ∷ []))) inside = round-then items symbols (result ++ 58 ∷ []) behind piece ended in
    record {
      words = simp append_assoc (key-then K.Def (f ++ 40 ∷ (items ++ 41 ∷ (result ++ 58 ∷ []))) (name f ∷ inside) (symbol-then (name f) _ inside named refl tail));
      begins = refl;
      some = omega arith;
      closed = λ left.
          ap (λ y. opens left (sign S.OpenParenthesis ∷ y)) (append_assoc (symbols ++ sign S.CloseParenthesis ∷ []) results (sign S.Colon ∷ []))
          ∙ round-closed symbols closed left behind ∙ results_closed left;
    }

pub function-line : (f : FunctionTree) → IsName f.name → AreParametersSpellable f.parameters → HeaderLine (header_text f ++ codes ":") (function_symbols f)
function-line f named good =
    def-line f.name (joined (map parameter_text f.parameters)) (result_text f.result) (parameter_symbols f.parameters) (result_symbols f.result) named
    (parameters-piece f.parameters good) (parameters-closed f.parameters) (result-words f.result) (result-closed f.result)
