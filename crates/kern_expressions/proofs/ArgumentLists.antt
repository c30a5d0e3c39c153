-- The arguments of a call, read one after another in a loop.
use Rattle.std.proofs.Common.{◌≡◌, ◌≢◌, ◌-◌, ℕ, zero, suc, ◌<◌, Bool, true, false, List, [], ◌∷◌, ◌++◌, map, refl, sym, ◌∙◌, ap, arith, rules, length, length-append}
use Rattle.std.specs.Prelude.{Option, Some, None, Ok, Err}
use Rattle.kern_lexer.specs.Symbols.{Symbol, number, sign}
use Rattle.kern_lexer.specs.declared.token.Sign.TheVariants as S
use Rattle.kern_syntax.specs.Tree.{Arguments, integer, no_more}
use Rattle.kern_syntax.specs.TreeOf.{argument_of, arguments_of}
use Rattle.kern_syntax.specs.declared.expression.Argument.{Argument}
use Rattle.kern_syntax.specs.declared.expression.Argument.TheFolds.{the_lemmas}
use Rattle.kern_syntax.specs.declared.expression.Argument.TheVariants as A
use Rattle.kern_syntax.specs.declared.expression.Expr.TheVariants as X
use Rattle.kern_expressions.specs.Kept.{KeptAs, item_of}
use Rattle.kern_expressions.specs.Passing.{argument_ended}
use Rattle.kern_grammar.specs.Reading.{Read, Inside, ◌>>=◌, Item, value, item_then, item, items, items_behind, comma_or_close, inside_of}
use Rattle.kern_grammar.proofs.ArgumentFaults.{inside_reads}
use Rattle.kern_expressions.proofs.Exits.{end_passes, value_read}
use Rattle.kern_expressions.proofs.Passing.{integer-alone}
use Rattle.kern_grammar.proofs.FirstSymbols.{item_symbols}
use Rattle.kern_grammar.proofs.Items.{item_found}
use Rattle.kern_grammar.proofs.RowFaults.{ok_pair}
use Rattle.kern_grammar.proofs.RowReads.{then_ok}

-- arguments before others
abbrev pub before : List Item → Arguments → Arguments
before [] rest = rest
before (a ∷ done) rest = item_then a (before done rest)

-- the arguments that were read, put before those that are read behind them
abbrev pub with_first : List Item → Read Arguments → Read Arguments
with_first done read = read >>= λ others. Ok (before done others.0, others.1)

-- the arguments that were read, and what is read behind them, make a whole
pub record ArgumentsSoFar (inside : Inside) (done : List Item) (rest : List Symbol) (whole : Read Arguments) : Type 0 where
  pub most : ℕ
  pub enough : length rest < most
  pub same : with_first done (items inside most rest) ≡ whole

-- an argument joins those behind it
argument_then : (a : Argument) (rest : Arguments) → argument_of a rest ≡ item_then (item_of a) rest
argument_then (A.Value e) rest = search (rules, the_lemmas)
argument_then (A.Text name) rest = search (rules, the_lemmas)

arguments-of : (args : List Argument) → arguments_of args ≡ before (map item_of args) no_more
arguments-of [] = refl
arguments-of (a ∷ args) = argument_then a (arguments_of args) ∙ ap (item_then (item_of a)) (arguments-of args)

-- items that were kept are arguments that were
pub arguments-kept : {V : Type 0} (list : V → List Argument) (args : Option V) (done : List Item) → KeptAs (λ v. map item_of (list v)) args done → KeptAs (λ v. arguments_of (list v)) args (before done no_more)
arguments-kept list (Some v) done k = arguments-of (list v) ∙ ap (λ d. before d no_more) k
arguments-kept list None done k = tt

before-append : (done : List Item) (a : Item) (rest : Arguments) → before (done ++ a ∷ []) rest ≡ before done (item_then a rest)
before-append [] a rest = refl
before-append (first ∷ done) a rest = ap (item_then first) (before-append done a rest)

-- what is read by what stands behind an argument
abbrev pub then_more : Item → (more : List Symbol → Read Arguments) → Bool → List Symbol → Read Arguments
then_more first more true rest = more rest >>= λ others. Ok (item_then first others.0, others.1)
then_more first more false rest = Ok (item_then first no_more, rest)

items_behind-by : (first : Item) (more : List Symbol → Read Arguments) (symbols : List Symbol) → items_behind first more symbols ≡ (comma_or_close symbols >>= λ r. then_more first more r.0 r.1)
items_behind-by first more (sign S.Comma ∷ rest) = refl
items_behind-by first more (sign S.CloseParenthesis ∷ rest) = refl
items_behind-by first more symbols = refl

-- nothing before what is read
nothing_first : (read : Read Arguments) → with_first [] read ≡ read
nothing_first (Ok x) = refl
nothing_first (Err left) = refl

-- at the start there are none
pub none_so_far : (inside : Inside) (symbols : List Symbol) → ArgumentsSoFar inside [] symbols (items inside (suc (length symbols)) symbols)
none_so_far inside symbols = record { most = suc (length symbols); enough = omega arith; same = nothing_first (items inside (suc (length symbols)) symbols) }

-- one argument before the others
first_then : (done : List Item) (a : Item) (read : Read Arguments) → with_first done (read >>= λ others. Ok (item_then a others.0, others.1)) ≡ with_first (done ++ a ∷ []) read
first_then done a (Ok x) = ap (λ args. Ok (args, x.1)) (sym (before-append done a x.0))
first_then done a (Err left) = refl

-- the items from an argument that was read on
pub items_from : (inside : Inside) (most : ℕ) (a : Item) (rest behind : List Symbol) → item inside rest ≡ Ok (a, behind) → items inside (suc most) rest ≡ (comma_or_close behind >>= λ r. then_more a (items inside most) r.0 r.1)
items_from inside most a rest behind h =
    then_ok (item inside rest) a behind (λ first. items_behind first.0 (items inside most) first.1) h
    ∙ items_behind-by a (items inside most) behind

-- the items from an argument and what stands behind it on
pub items_next : (inside : Inside) (most : ℕ) (a : Item) (more : Bool) (rest behind next : List Symbol) → item inside rest ≡ Ok (a, behind) → comma_or_close behind ≡ Ok (more, next) → items inside (suc most) rest ≡ then_more a (items inside most) more next
items_next inside most a more rest behind next h k =
    items_from inside most a rest behind h ∙ then_ok (comma_or_close behind) more next (λ r. then_more a (items inside most) r.0 r.1) k

-- what stands behind a comma is shorter
comma_shorter : (more : Bool) (behind next : List Symbol) → comma_or_close behind ≡ Ok (more, next) → length next < length behind
comma_shorter more (sign S.Comma ∷ rest) next h =
    let r : Read Bool = Ok (true, rest) in
    omega (arith, ap (λ p. length p.1) (ok_pair r (true, rest) (more, next) refl h))
comma_shorter more (sign S.CloseParenthesis ∷ rest) next h =
    let r : Read Bool = Ok (false, rest) in
    omega (arith, ap (λ p. length p.1) (ok_pair r (false, rest) (more, next) refl h))
comma_shorter more behind next h = absurd cc

-- what stands behind an argument and its comma is shorter
pub next_shorter : (room : ℕ) (a : Item) (more : Bool) (rest behind next : List Symbol) → item (inside_of room) rest ≡ Ok (a, behind) → comma_or_close behind ≡ Ok (more, next) → length next < length rest
next_shorter room a more rest behind next h k =
    omega (arith, ap length (item_found room (inside_reads room) rest a behind h).whole, length-append (item_symbols a) behind, comma_shorter more behind next k)

one_more_of : (room : ℕ) (done : List Item) (a : Item) (rest behind next : List Symbol) (whole : Read Arguments) (most : ℕ) → length rest < most → with_first done (items (inside_of room) most rest) ≡ whole → item (inside_of room) rest ≡ Ok (a, behind) → comma_or_close behind ≡ Ok (true, next) → length next < length rest → ArgumentsSoFar (inside_of room) (done ++ a ∷ []) next whole
one_more_of room done a rest behind next whole zero enough same h k shorter = absurd (omega (arith, enough))
one_more_of room done a rest behind next whole (suc most) enough same h k shorter = record {
  most = most;
  enough = omega (arith, enough, shorter);
  same = sym (first_then done a (items (inside_of room) most next)) ∙ ap (with_first done) (sym (items_next (inside_of room) most a true rest behind next h k)) ∙ same;
}

-- one more argument
pub one_more : (room : ℕ) (done : List Item) (a : Item) (more : Bool) (rest behind next : List Symbol) (whole : Read Arguments) → ArgumentsSoFar (inside_of room) done rest whole → item (inside_of room) rest ≡ Ok (a, behind) → comma_or_close behind ≡ Ok (more, next) → more ≡ true → ArgumentsSoFar (inside_of room) (done ++ a ∷ []) next whole
one_more room done a more rest behind next whole s h k t = one_more_of room done a rest behind next whole s.most s.enough s.same h (k ∙ ap (λ b. Ok (b, next)) t) (next_shorter room a more rest behind next h k)

last_argument : (inside : Inside) (done : List Item) (a : Item) (rest behind next : List Symbol) (whole : Read Arguments) (most : ℕ) → length rest < most → with_first done (items inside most rest) ≡ whole → item inside rest ≡ Ok (a, behind) → comma_or_close behind ≡ Ok (false, next) → whole ≡ Ok (before (done ++ a ∷ []) no_more, next)
last_argument inside done a rest behind next whole zero enough same h k = absurd (omega (arith, enough))
last_argument inside done a rest behind next whole (suc most) enough same h k =
    sym same
    ∙ ap (with_first done) (items_next inside most a false rest behind next h k)
    ∙ ap (λ args. Ok (args, next)) (sym (before-append done a no_more))

-- the last argument
pub no_more_left : (inside : Inside) (done : List Item) (a : Item) (more : Bool) (rest behind next : List Symbol) (whole : Read Arguments) → ArgumentsSoFar inside done rest whole → item inside rest ≡ Ok (a, behind) → comma_or_close behind ≡ Ok (more, next) → more ≡ false → whole ≡ Ok (before (done ++ a ∷ []) no_more, next)
no_more_left inside done a more rest behind next whole s h k f = last_argument inside done a rest behind next whole s.most s.enough s.same h (k ∙ ap (λ b. Ok (b, next)) f)

item_ended : (inside : Inside) (end : List Symbol) (done : List Item) (rest : List Symbol) (whole : Read Arguments) (most : ℕ) → length rest < most → with_first done (items inside most rest) ≡ whole → item inside rest ≡ Err end → whole ≡ Err end
item_ended inside end done rest whole zero enough same h = absurd (omega (arith, enough))
item_ended inside end done rest whole (suc most) enough same h =
    sym same ∙ end_passes end (items inside (suc most) rest) (λ others. Ok (before done others.0, others.1)) (end_passes end (item inside rest) (λ first. items_behind first.0 (items inside most) first.1) h)

-- a first wrong symbol in an argument, or behind it, is the whole's
pub item_end : (inside : Inside) (end : List Symbol) (done : List Item) (rest : List Symbol) (whole : Read Arguments) → ArgumentsSoFar inside done rest whole → item inside rest ≡ Err end → whole ≡ Err end
item_end inside end done rest whole s h = item_ended inside end done rest whole s.most s.enough s.same h

comma_ended : (inside : Inside) (end : List Symbol) (done : List Item) (a : Item) (rest behind : List Symbol) (whole : Read Arguments) (most : ℕ) → length rest < most → with_first done (items inside most rest) ≡ whole → item inside rest ≡ Ok (a, behind) → comma_or_close behind ≡ Err end → whole ≡ Err end
comma_ended inside end done a rest behind whole zero enough same h k = absurd (omega (arith, enough))
comma_ended inside end done a rest behind whole (suc most) enough same h k =
    sym same
    ∙ ap (with_first done) (items_from inside most a rest behind h)
    ∙ end_passes end (comma_or_close behind >>= λ r. then_more a (items inside most) r.0 r.1) (λ others. Ok (before done others.0, others.1)) (end_passes end (comma_or_close behind) (λ r. then_more a (items inside most) r.0 r.1) k)

pub comma_end : (inside : Inside) (end : List Symbol) (done : List Item) (a : Item) (rest behind : List Symbol) (whole : Read Arguments) → ArgumentsSoFar inside done rest whole → item inside rest ≡ Ok (a, behind) → comma_or_close behind ≡ Err end → whole ≡ Err end
comma_end inside end done a rest behind whole s h k = comma_ended inside end done a rest behind whole s.most s.enough s.same h k

-- an integer that ends there is an argument
pub integer-argument : (room n : ℕ) (rest : List Symbol) → room ≢ 0 → argument_ended rest ≡ true → item (inside_of room) (number n ∷ rest) ≡ Ok (value (integer n), rest)
integer-argument room n rest h e =
    value_read room (number n ∷ rest) h ∙ ap (λ r. r >>= λ x. Ok (value x.0, x.1)) (integer-alone (inside_of (room - 1)) n rest e)

pub integer-kept : (n : ℕ) → item_of (A.Value (X.Integer n)) ≡ value (integer n)
integer-kept n = search (rules, the_lemmas)
