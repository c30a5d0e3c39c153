-- What the reading functions of the parser need at their exits.
use Rattle.std.proofs.Common.{◌≡◌, ◌≢◌, ℕ, zero, suc, ◌-◌, ◌≤◌, Bool, List, [], ◌∷◌, refl, sym, ◌∙◌, ap, subst, arith, length, drop, get_or}
use Rattle.std.specs.Prelude.{Option, Some, Result, Ok, Err, IsErrAnd}
use Rattle.kern_lexer.specs.Bytes.{Bytes}
use Rattle.kern_lexer.specs.Symbols.{Symbol, bytes_at, name, sign, symbol_of}
use Rattle.kern_lexer.specs.declared.token.Sign.TheVariants as S
use Rattle.kern_lexer.specs.declared.token.Token.{Token}
use Rattle.kern_lexer.specs.declared.token.TokenKind.{TokenKind}
use Rattle.kern_lexer.specs.declared.token.TokenKind.TheVariants as T
use Rattle.kern_syntax.specs.Tree.{Expression, compare}
use Rattle.kern_syntax.specs.declared.expression.Comparison.{Comparison}
use Rattle.kern_grammar.specs.declared.joiner.Joiner.{Joiner}
use Rattle.kern_expressions.specs.declared.tokens.Tokens.{Tokens}
use Rattle.kern_grammar.specs.Operators.{first_joiner, join}
use Rattle.kern_grammar.specs.Reading.{Read, Reader, Inside, ◌>>=◌, choose, row_behind, level_reader, readers, behind_dot, behind_method, closed, enclosed, operand, first_form, prefixed, value, value_item, comparison_behind, end_of_comparison, first_comparison, inside_of}
use Rattle.kern_expressions.specs.Given.{Gives, GivesExpression, symbols_left}
use Rattle.kern_expressions.specs.Kept.{ReadAs}
use Rattle.kern_expressions.specs.declared.parts.ReadExpr.{ReadExpr}
use Rattle.kern_expressions.specs.declared.tokens.WrongToken.{WrongToken}
use Rattle.kern_grammar.specs.Spelled.{symbols_in}
use Rattle.kern_grammar.proofs.RowReads.{row_behind-some, then_ok}

-- the symbols of tokens of which there is a first
opened_list : (text : Bytes) (tokens : List Token) (d : Token) (kind : TokenKind) → 1 ≤ length tokens → (get_or tokens 0 d).kind ≡ kind → symbols_in text tokens ≡ symbol_of text (get_or tokens 0 d).at (get_or tokens 0 d).len kind ∷ drop 1 (symbols_in text tokens)
opened_list text [] d kind h e = absurd (omega (arith, h))
opened_list text (t ∷ tokens) d kind h e = ap (λ k. symbol_of text t.at t.len k ∷ symbols_in text tokens) e

pub opened : (tokens : Tokens) (d : Token) (kind : TokenKind) → 1 ≤ length tokens.list.now → (get_or tokens.list.now 0 d).kind ≡ kind → symbols_left tokens ≡ symbol_of tokens.text.now (get_or tokens.list.now 0 d).at (get_or tokens.list.now 0 d).len kind ∷ drop 1 (symbols_left tokens)
opened tokens d kind h e = opened_list tokens.text.now tokens.list.now d kind h e

-- a function of the symbols whose first is there
pub at_front : {A : Type 0} (f : List Symbol → A) (g : Symbol → A) (tokens : Tokens) (d : Token) → ((s : Symbol) (rest : List Symbol) → f (s ∷ rest) ≡ g s) → 1 ≤ length tokens.list.now → f (symbols_left tokens) ≡ g (symbol_of tokens.text.now (get_or tokens.list.now 0 d).at (get_or tokens.list.now 0 d).len (get_or tokens.list.now 0 d).kind)
at_front f g tokens d same h = ap f (opened tokens d (get_or tokens.list.now 0 d).kind h refl) ∙ same _ _

-- what was given is there, and what was kept of it
pub found : {X Y S : Type 0} (left : Tokens → List S) (kept : X → Y → Type 0) (x : X) (rest : Tokens) (read : Result (Y × List S) (List S)) → Gives left kept (Ok (x, rest)) read → (y : Y) × kept x y × (read ≡ Ok (y, left rest))
found left kept x rest (Ok y) h = (y.0, h.0, ap (λ l. Ok (y.0, l)) h.1)
found left kept x rest (Err end) h = absurd h

pub given : {X Y S : Type 0} (left : Tokens → List S) (kept : X → Y → Type 0) (x : X) (rest : Tokens) (read : Result (Y × List S) (List S)) (y : Y) → kept x y → read ≡ Ok (y, left rest) → Gives left kept (Ok (x, rest)) read
given left kept x rest read y k h = subst (Gives left kept (Ok (x, rest))) (sym h) (k, refl)

pub refused : {X Y S : Type 0} (left : Tokens → List S) (kept : X → Y → Type 0) (wrong : WrongToken) (read : Result (Y × List S) (List S)) → Gives left kept (Err wrong) read → read ≡ Err (left wrong.left)
refused left kept wrong (Ok y) h = absurd h
refused left kept wrong (Err rest) h = ap (λ r. Err r) h

-- what a `?` hands on is the first fault still
pub hands_on : {X Y S : Type 0} (left : Tokens → List S) (kept : X → Y → Type 0) (result : Result (X × Tokens) WrongToken) (wrong : WrongToken) (read : Result (Y × List S) (List S)) → IsErrAnd result (λ w. w ≡ wrong) → read ≡ Err (left wrong.left) → Gives left kept result read
hands_on left kept (Ok x) wrong read e h = absurd e
hands_on left kept (Err w) wrong read e h = subst (Gives left kept (Err w)) (sym h) (ap (λ v. left v.left) (sym e))

-- an end stays the end of what would have gone on
pub end_passes : {A B : Type 0} (left : List Symbol) (r : Read A) (f : A × List Symbol → Read B) → r ≡ Err left → (r >>= f) ≡ Err left
end_passes left r f h = ap (λ q. q >>= f) h

-- reading goes on behind an expression that was given, and stops where that stopped
pub goes : {X Y : Type 0} (kept : X → Y → Type 0) (e : ReadExpr) (rest : Tokens) (result : Result (X × Tokens) WrongToken) (whole : Read Y) (first : Read Expression) (f : Expression × List Symbol → Read Y) → whole ≡ (first >>= f) → GivesExpression (Ok (e, rest)) first → ((tree : Expression) → ReadAs e tree → Gives symbols_left kept result (f (tree, symbols_left rest))) → Gives symbols_left kept result whole
goes kept e rest result whole first f w h k =
    let there = found symbols_left ReadAs e rest first h in
    subst (Gives symbols_left kept result) (sym (w ∙ then_ok first there.0 (symbols_left rest) f there.2)) (k there.0 there.1)

pub stops : {X Y : Type 0} (kept : X → Y → Type 0) (wrong : WrongToken) (result : Result (X × Tokens) WrongToken) (whole : Read Y) (first : Read Expression) (f : Expression × List Symbol → Read Y) → whole ≡ (first >>= f) → GivesExpression (Err wrong) first → IsErrAnd result (λ w. w ≡ wrong) → Gives symbols_left kept result whole
stops kept wrong result whole first f w h e =
    hands_on symbols_left kept result wrong whole e (w ∙ end_passes (symbols_left wrong.left) first f (refused symbols_left ReadAs wrong first h))

-- the readers with so much room
pub readers_of : (room : ℕ) (level : ℕ) (symbols : List Symbol) → readers room level symbols ≡ level_reader (inside_of room) level symbols
readers_of zero level symbols = refl
readers_of (suc room) level symbols = refl

-- what stands in brackets, where there is room for it
pub enclosed_read : (room : ℕ) (is_closing : Symbol → Bool) (build : Expression → Expression) (symbols rest : List Symbol) → room ≢ 0 → rest ≡ drop 1 symbols → enclosed (inside_of room) is_closing build symbols ≡ (level_reader (inside_of (room - 1)) 11 rest >>= λ e. closed is_closing (build e.0) e.1)
enclosed_read zero is_closing build symbols rest h d = absurd (h refl)
enclosed_read (suc room) is_closing build symbols rest h d =
    ap (λ r. r >>= λ e. closed is_closing (build e.0) e.1) (ap (readers room 11) (sym d) ∙ readers_of room 11 rest)
    ∙ ap (λ n. level_reader (inside_of n) 11 rest >>= λ e. closed is_closing (build e.0) e.1) (omega arith)

-- what stands behind a prefix, where there is room for it
operand_read : (room level : ℕ) (build : Expression → Expression) (symbols rest : List Symbol) → room ≢ 0 → rest ≡ drop 1 symbols → operand (inside_of room) level build symbols ≡ (level_reader (inside_of (room - 1)) level rest >>= λ e. Ok (build e.0, e.1))
operand_read zero level build symbols rest h d = absurd (h refl)
operand_read (suc room) level build symbols rest h d =
    ap (λ r. r >>= λ e. Ok (build e.0, e.1)) (ap (readers room level) (sym d) ∙ readers_of room level rest)
    ∙ ap (λ n. level_reader (inside_of n) level rest >>= λ e. Ok (build e.0, e.1)) (omega arith)

pub prefixed_read : (form_at : Symbol → Option (Expression → Expression)) (room level : ℕ) (tighter : Reader) (symbols rest : List Symbol) (build : Expression → Expression) → first_form form_at symbols ≡ Some build → room ≢ 0 → rest ≡ drop 1 symbols → prefixed form_at (inside_of room) level tighter symbols ≡ (level_reader (inside_of (room - 1)) level rest >>= λ e. Ok (build e.0, e.1))
prefixed_read form_at room level tighter symbols rest build f h d =
    ap (λ o. choose o (tighter symbols) (λ build. operand (inside_of room) level build symbols)) f ∙ operand_read room level build symbols rest h d

-- an expression as an argument, where there is room for it
pub value_read : (room : ℕ) (symbols : List Symbol) → room ≢ 0 → value_item (inside_of room) symbols ≡ (level_reader (inside_of (room - 1)) 11 symbols >>= λ e. Ok (value e.0, e.1))
value_read zero symbols h = absurd (h refl)
value_read (suc room) symbols h =
    ap (λ r. r >>= λ e. Ok (value e.0, e.1)) (readers_of room 11 symbols) ∙ ap (λ n. level_reader (inside_of n) 11 symbols >>= λ e. Ok (value e.0, e.1)) (omega arith)

-- a comparison behind its left operand
pub comparison_read : (tighter : Reader) (symbols rest : List Symbol) (left : Expression) (op : Comparison) → first_comparison symbols ≡ Some op → rest ≡ drop 1 symbols → comparison_behind tighter left symbols ≡ (tighter rest >>= λ right. end_of_comparison (compare op left right.0) right.1)
comparison_read tighter symbols rest left op f d =
    ap (λ o. choose o (Ok (left, symbols)) (λ op. tighter (drop 1 symbols) >>= λ right. end_of_comparison (compare op left right.0) right.1)) f
    ∙ ap (λ y. tighter y >>= λ right. end_of_comparison (compare op left right.0) right.1) (sym d)

-- a row goes on behind a joiner, in a loop that counts down
pub row_read : (more level : ℕ) (tighter : Reader) (e : Expression) (symbols rest : List Symbol) (j : Joiner) → more ≢ 0 → first_joiner level symbols ≡ Some j → rest ≡ drop 1 symbols → row_behind more level tighter e symbols ≡ (tighter rest >>= λ right. row_behind (more - 1) level tighter (join j e right.0) right.1)
row_read zero level tighter e symbols rest j h f d = absurd (h refl)
row_read (suc more) level tighter e symbols rest j h f d =
    row_behind-some more level tighter e symbols j f
    ∙ ap (λ y. tighter y >>= λ right. row_behind more level tighter (join j e right.0) right.1) (sym d)
    ∙ ap (λ n. tighter rest >>= λ right. row_behind n level tighter (join j e right.0) right.1) (omega arith)

-- the method behind a dot
behind_dot-name : (inside : Inside) (x m : Bytes) (rest : List Symbol) → behind_dot inside x (name m ∷ rest) ≡ behind_method inside x m rest
behind_dot-name inside x m [] = refl
behind_dot-name inside x m (sign S.OpenParenthesis ∷ rest) = refl
behind_dot-name inside x m (s ∷ rest) = refl

pub dot_read : (inside : Inside) (x m : Bytes) (tokens rest : Tokens) (d : Token) → 1 ≤ length tokens.list.now → (get_or tokens.list.now 0 d).kind ≡ T.Name → m ≡ bytes_at (get_or tokens.list.now 0 d).at (get_or tokens.list.now 0 d).len tokens.text.now → symbols_left rest ≡ drop 1 (symbols_left tokens) → behind_dot inside x (symbols_left tokens) ≡ behind_method inside x m (symbols_left rest)
dot_read inside x m tokens rest d h n b e =
    ap (behind_dot inside x) (opened tokens d T.Name h n)
    ∙ behind_dot-name inside x (bytes_at (get_or tokens.list.now 0 d).at (get_or tokens.list.now 0 d).len tokens.text.now) (drop 1 (symbols_left tokens))
    ∙ ap (λ y. behind_method inside x y (drop 1 (symbols_left tokens))) (sym b)
    ∙ ap (behind_method inside x m) (sym e)
