-- A list of tokens has at most one first fault, at one of its tokens, and none beside a tree.
use Rattle.std.proofs.Common.{◌≡◌, ℕ, suc, ◌<◌, ◌≤◌, List, ◌++◌, Bool, true, false, refl, sym, ◌∙◌, subst, arith, append_assoc, length, take, drop, nat_lt}
use Rattle.std.proofs.lemmas.List.{take-append-drop, take_all, take-take}
use Rattle.kern_lexer.specs.Symbols.{Lexeme}
use Rattle.kern_syntax.specs.Tree.{ProgramTree}
use Rattle.kern_grammar.specs.Accepted.{HasTree, Begins, IsFirstFault}

-- a list of which more begins an accepted one begins one
fewer : (front back : List Lexeme) → Begins (front ++ back) → Begins front
fewer front back b = record { more = back ++ b.more; tree = b.tree; accepted = subst (λ ts. HasTree ts b.tree) (append_assoc front back b.more) b.accepted }

-- the first tokens of those that begin an accepted list do too
cut : (tokens : List Lexeme) (n : ℕ) → Begins tokens → Begins (take n tokens)
cut tokens n b = fewer (take n tokens) (drop n tokens) (subst Begins (sym (take-append-drop n tokens)) b)

-- one of two places isn't before the other
not_before : (tokens : List Lexeme) (a b : ℕ) → IsFirstFault tokens a → IsFirstFault tokens b → a < b → ⊥
not_before tokens a b f g h = f.through (subst Begins (take-take (suc a) b tokens (omega (arith, h))) (cut (take b tokens) (suc a) g.before))

by_order : (tokens : List Lexeme) (a b : ℕ) → IsFirstFault tokens a → IsFirstFault tokens b → (p q : Bool) → nat_lt a b ≡ p → nat_lt b a ≡ q → a ≡ b
by_order tokens a b f g true q h k = absurd (not_before tokens a b f g (grind arith))
by_order tokens a b f g false true h k = absurd (not_before tokens b a g f (grind arith))
by_order tokens a b f g false false h k = grind arith

pub one_fault : (tokens : List Lexeme) (a b : ℕ) → IsFirstFault tokens a → IsFirstFault tokens b → a ≡ b
one_fault tokens a b f g = by_order tokens a b f g (nat_lt a b) (nat_lt b a) refl refl

-- tokens that have a tree begin an accepted list wherever they are cut
pub no_fault : (tokens : List Lexeme) (tree : ProgramTree) (place : ℕ) → HasTree tokens tree → ¬ IsFirstFault tokens place
no_fault tokens tree place has f =
    f.through (record { more = drop (suc place) tokens; tree = tree; accepted = subst (λ ts. HasTree ts tree) (sym (take-append-drop (suc place) tokens)) has })

-- no fault stands behind the last token
beyond : (tokens : List Lexeme) (place : ℕ) → IsFirstFault tokens place → length tokens ≤ place → ⊥
beyond tokens place f past =
    let all : take place tokens ≡ tokens = take_all place tokens past in
    let more : take (suc place) tokens ≡ tokens = take_all (suc place) tokens (omega (arith, past)) in
    f.through (subst Begins (all ∙ sym more) f.before)

within_by : (tokens : List Lexeme) (place : ℕ) → IsFirstFault tokens place → (b : Bool) → nat_lt place (length tokens) ≡ b → place < length tokens
within_by tokens place f true e = grind arith
within_by tokens place f false e =
    let past : length tokens ≤ place = grind arith in
    absurd (beyond tokens place f past)

pub within : (tokens : List Lexeme) (place : ℕ) → IsFirstFault tokens place → place < length tokens
within tokens place f = within_by tokens place f (nat_lt place (length tokens)) refl
