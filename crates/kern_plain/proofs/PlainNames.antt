-- Names with one more behind them, and tests of the branches of an `if`.
use Rattle.std.proofs.Common.{◌≡◌, Bool, true, false, ◌||◌, ◌&&◌, List, [], ◌∷◌, ◌++◌, Option, None, option_map, refl, sym, ap, ◌∙◌, bytes_eq}
use Rattle.kern_syntax.specs.declared.statement.Elif.{Elif}
use Rattle.kern_syntax.specs.declared.statement.Block.{Block}
use Rattle.kern_syntax.specs.Tree.{Bytes, Expression, Otherwise, no_else, else_do, elif_then, if_then}
use Rattle.kern_syntax.specs.Tree
use Rattle.kern_syntax.specs.TreeOf.{block_of, branches_of, elif_of, else_of}
use Rattle.kern_expression_types.specs.Before.{is_in}
use Rattle.kern_plain.specs.Plain.{is_plain_otherwise, is_plain_expression, is_plain_block, is_plain_statement}
use Rattle.kern_plain.proofs.Branches.{with_end, IsOpen, elif-end, elif-open, branches_of-end, open-branches}

or-false : (b : Bool) → (b || false) ≡ b
or-false true = refl
or-false false = refl

or-assoc : (a b c : Bool) → (a || (b || c)) ≡ ((a || b) || c)
or-assoc true b c = refl
or-assoc false b c = refl

pub and_true : (b : Bool) → (b && true) ≡ b
and_true true = refl
and_true false = refl

and-assoc : (a b c : Bool) → ((a && b) && c) ≡ (a && (b && c))
and-assoc true b c = refl
and-assoc false b c = refl

-- a name among others with one more behind them
pub is_in_more : (names : List Bytes) (more name : Bytes) → is_in (names ++ more ∷ []) name ≡ (is_in names name || bytes_eq name more)
is_in_more [] more name = or-false (bytes_eq name more)
is_in_more (first ∷ names) more name =
    ap (λ b. bytes_eq name first || b) (is_in_more names more name) ∙ or-assoc (bytes_eq name first) (is_in names name) (bytes_eq name more)

-- branches with something at their end
plain-with_end : (plain : List Bytes) (rest end : Otherwise) → IsOpen rest → is_plain_otherwise plain (with_end rest end) ≡ (is_plain_otherwise plain rest && is_plain_otherwise plain end)
plain-with_end plain no_else end open_ = refl
plain-with_end plain (else_do body) end open_ = absurd open_
plain-with_end plain (elif_then line condition body rest) end open_ =
    ap (λ b. is_plain_expression plain condition && (is_plain_block plain body && b)) (plain-with_end plain rest end open_)
    ∙ ap (λ b. is_plain_expression plain condition && b) (sym (and-assoc (is_plain_block plain body) (is_plain_otherwise plain rest) (is_plain_otherwise plain end)))
    ∙ sym (and-assoc (is_plain_expression plain condition) (is_plain_block plain body && is_plain_otherwise plain rest) (is_plain_otherwise plain end))

-- an `else` comes after the branches
pub plain_else : (plain : List Bytes) (branches : List Elif) (last : Option Block) → is_plain_otherwise plain (branches_of branches last) ≡ (is_plain_otherwise plain (branches_of branches None) && is_plain_otherwise plain (else_of (option_map block_of last)))
plain_else plain branches last =
    ap (is_plain_otherwise plain) (branches_of-end branches last) ∙ plain-with_end plain (branches_of branches None) (else_of (option_map block_of last)) (open-branches branches)

-- a branch comes before the others
plain-first : (plain : List Bytes) (branch : Elif) (rest : Otherwise) → is_plain_otherwise plain (elif_of branch rest) ≡ (is_plain_otherwise plain (elif_of branch no_else) && is_plain_otherwise plain rest)
plain-first plain branch rest =
    ap (is_plain_otherwise plain) (elif-end branch no_else rest) ∙ plain-with_end plain (elif_of branch no_else) rest (elif-open branch no_else tt)

-- a branch that is plain is behind
pub branch-plain : (plain : List Bytes) (branch : Elif) (rest : Otherwise) (whole : Bool) → whole ≡ is_plain_otherwise plain (elif_of branch rest) → is_plain_otherwise plain (elif_of branch no_else) ≡ true → whole ≡ is_plain_otherwise plain rest
branch-plain plain branch rest whole is first =
    is ∙ plain-first plain branch rest ∙ ap (λ b. b && is_plain_otherwise plain rest) first

-- a branch that isn't plain
pub branch-live : (plain : List Bytes) (branch : Elif) (rest : Otherwise) (whole : Bool) → whole ≡ is_plain_otherwise plain (elif_of branch rest) → is_plain_otherwise plain (elif_of branch no_else) ≡ false → false ≡ whole
branch-live plain branch rest whole is first =
    sym (is ∙ plain-first plain branch rest ∙ ap (λ b. b && is_plain_otherwise plain rest) first)

-- the parts of an `if`
pub if-plain : (plain : List Bytes) (condition : Expression) (body : Tree.Block) (branches : List Elif) (last : Option Block) → is_plain_statement plain (if_then condition body (branches_of branches last)) ≡ (is_plain_expression plain condition && (is_plain_block plain body && (is_plain_otherwise plain (branches_of branches None) && is_plain_otherwise plain (else_of (option_map block_of last)))))
if-plain plain condition body branches last =
    ap (λ b. is_plain_expression plain condition && (is_plain_block plain body && b)) (plain_else plain branches last)

-- an `if` whose parts are known
pub if-values : (plain : List Bytes) (condition : Expression) (body : Tree.Block) (branches : List Elif) (last : Option Block) (a b d e : Bool) → is_plain_expression plain condition ≡ a → is_plain_block plain body ≡ b → is_plain_otherwise plain (branches_of branches None) ≡ d → is_plain_otherwise plain (else_of (option_map block_of last)) ≡ e → is_plain_statement plain (if_then condition body (branches_of branches last)) ≡ (a && (b && (d && e)))
if-values plain condition body branches last a b d e first second third fourth =
    if-plain plain condition body branches last
    ∙ ap (λ v. v && (is_plain_block plain body && (is_plain_otherwise plain (branches_of branches None) && is_plain_otherwise plain (else_of (option_map block_of last))))) first
    ∙ ap (λ v. a && (v && (is_plain_otherwise plain (branches_of branches None) && is_plain_otherwise plain (else_of (option_map block_of last))))) second
    ∙ ap (λ v. a && (b && (v && is_plain_otherwise plain (else_of (option_map block_of last))))) third
    ∙ ap (λ v. a && (b && (d && v))) fourth
