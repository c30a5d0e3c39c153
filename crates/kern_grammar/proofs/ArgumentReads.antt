-- Arguments are read, and so every expression is.
use Rattle.std.proofs.Common.{◌≡◌, ℕ, zero, suc, ◌≤◌, List, ◌∷◌, ◌++◌, refl, sym, ◌∙◌, ap, subst, arith, length, length-append}
use Rattle.std.specs.Prelude.{Ok}
use Rattle.kern_lexer.specs.Symbols.{Symbol, sign}
use Rattle.kern_lexer.specs.declared.token.Sign.TheVariants as S
use Rattle.kern_syntax.specs.Grammatical.{ArgumentsFit}
use Rattle.kern_syntax.specs.Tree.{Arguments, no_more, value_then, text_then}
use Rattle.kern_grammar.specs.Expressions.{expression_symbols}
use Rattle.kern_grammar.specs.Reading.{Read, Item, value, text, item_then, item, items_behind, items, arguments, inside_of}
use Rattle.kern_grammar.proofs.Atoms.{closed_arguments}
use Rattle.kern_grammar.proofs.FirstSymbols.{begins_as, item_symbols, after_item, closed_item}
use Rattle.kern_grammar.proofs.Items.{fits_then, ItemFound, item_found, count, items_complete}
use Rattle.kern_grammar.proofs.Phrased.{bind_ok}
use Rattle.kern_grammar.proofs.PrefixReads.{ReadsInside}
use Rattle.kern_grammar.proofs.RowFaults.{ok_pair}

-- some arguments, of which there is a first
pub record ItemsFound (room : ℕ) (given : List Symbol) (args : Arguments) (rest : List Symbol) : Type 0 where
  pub first : Item
  pub others : Arguments
  pub is : args ≡ item_then first others
  pub whole : given ≡ closed_arguments args ++ rest
  pub fits : ArgumentsFit room args

pub after_more : (x : Item) (args : Arguments) (rest : List Symbol) → after_item (item_then x args) rest ≡ sign S.Comma ∷ (closed_arguments (item_then x args) ++ rest)
after_more (value e) args rest = refl
after_more (text t) args rest = refl

-- one more argument before some, and before none
join_items : (room : ℕ) (given z : List Symbol) (x : Item) (others : Arguments) (rest : List Symbol) → ItemFound room given x (sign S.Comma ∷ z) → ItemsFound room z others rest → (args : Arguments) (last : List Symbol) → item_then x others ≡ args → rest ≡ last → ItemsFound room given args last
join_items room given z x others rest f g args last left right = record {
  first = x;
  others = others;
  is = sym left;
  whole = f.whole
      ∙ ap (λ y. item_symbols x ++ (sign S.Comma ∷ y)) (g.whole ∙ ap (λ y. closed_arguments y ++ rest) g.is)
      ∙ ap (λ y. item_symbols x ++ y) (sym (after_more g.first g.others rest))
      ∙ ap (λ y. item_symbols x ++ after_item y rest) (sym g.is)
      ∙ sym (closed_item x others rest)
      ∙ ap (λ y. closed_arguments y ++ rest) left
      ∙ ap (λ y. closed_arguments args ++ y) right;
  fits = subst (ArgumentsFit room) left (fits_then room x others f.fits g.fits);
}

last_item : (room : ℕ) (given z : List Symbol) (x : Item) → ItemFound room given x (sign S.CloseParenthesis ∷ z) → (args : Arguments) (rest : List Symbol) → item_then x no_more ≡ args → z ≡ rest → ItemsFound room given args rest
last_item room given z x f args rest left right = record {
  first = x;
  others = no_more;
  is = sym left;
  whole = f.whole ∙ sym (closed_item x no_more z) ∙ ap (λ y. closed_arguments y ++ z) left ∙ ap (λ y. closed_arguments args ++ y) right;
  fits = subst (ArgumentsFit room) left (fits_then room x no_more f.fits tt);
}

-- what is read behind an argument
behind_found : (room most : ℕ) → ((z : List Symbol) (args : Arguments) (rest : List Symbol) → items (inside_of room) most z ≡ Ok (args, rest) → ItemsFound room z args rest) → (given : List Symbol) (x : Item) (r : List Symbol) → ItemFound room given x r → (args : Arguments) (rest : List Symbol) → items_behind x (items (inside_of room) most) r ≡ Ok (args, rest) → ItemsFound room given args rest
behind_found room most more given x (sign S.Comma ∷ z) f args rest h =
    let step = bind_ok (items (inside_of room) most z) (λ others. Ok (item_then x others.0, others.1)) (args, rest) h in
    let r : Read Arguments = Ok (item_then x step.0.0, step.0.1) in
    let both = ok_pair r (item_then x step.0.0, step.0.1) (args, rest) refl step.2 in
    join_items room given z x step.0.0 step.0.1 f (more z step.0.0 step.0.1 step.1) args rest (ap (λ p. p.0) both) (ap (λ p. p.1) both)
behind_found room most more given x (sign S.CloseParenthesis ∷ z) f args rest h =
    let r : Read Arguments = Ok (item_then x no_more, z) in
    let both = ok_pair r (item_then x no_more, z) (args, rest) refl h in
    last_item room given z x f args rest (ap (λ p. p.0) both) (ap (λ p. p.1) both)
behind_found room most more given x r f args rest h = absurd cc

pub items_found : (room : ℕ) → ReadsInside room → (most : ℕ) (given : List Symbol) (args : Arguments) (rest : List Symbol) → items (inside_of room) most given ≡ Ok (args, rest) → ItemsFound room given args rest
items_found room i zero given args rest h = absurd cc
items_found room i (suc most) given args rest h =
    let step = bind_ok (item (inside_of room) given) (λ first. items_behind first.0 (items (inside_of room) most) first.1) (args, rest) h in
    behind_found room most (items_found room i most) given step.0.0 step.0.1 (item_found room i given step.0.0 step.0.1 step.1) args rest step.2

-- each argument has a symbol behind it
count-le : (args : Arguments) (rest : List Symbol) → count args ≤ length (closed_arguments args ++ rest)
count-le no_more rest = omega arith
count-le (value_then e no_more) rest = omega (arith, ap length (closed_item (value e) no_more rest), length-append (expression_symbols e) (after_item no_more rest))
count-le (value_then e (value_then a args)) rest = omega (arith, ap length (closed_item (value e) (value_then a args) rest), length-append (expression_symbols e) (after_item (value_then a args) rest), count-le (value_then a args) rest)
count-le (value_then e (text_then t args)) rest = omega (arith, ap length (closed_item (value e) (text_then t args) rest), length-append (expression_symbols e) (after_item (text_then t args) rest), count-le (text_then t args) rest)
count-le (text_then t no_more) rest = omega (arith, ap length (closed_item (text t) no_more rest))
count-le (text_then t (value_then a args)) rest = omega (arith, ap length (closed_item (text t) (value_then a args) rest), count-le (value_then a args) rest)
count-le (text_then t (text_then u args)) rest = omega (arith, ap length (closed_item (text t) (text_then u args) rest), count-le (text_then u args) rest)

pub arguments_complete : (room : ℕ) → ReadsInside room → (args : Arguments) (rest : List Symbol) → ArgumentsFit room args → arguments (inside_of room) (closed_arguments args ++ rest) ≡ Ok (args, rest)
arguments_complete room i no_more rest f = refl
arguments_complete room i (text_then t args) rest f =
    items_complete room i (text t) args (length (closed_arguments (text_then t args) ++ rest)) rest (omega (arith, count-le (text_then t args) rest)) tt f
arguments_complete room i (value_then e args) rest f =
    let all = closed_item (value e) args rest in
    let b = begins_as e in
    let first : closed_arguments (value_then e args) ++ rest ≡ b.first ∷ (b.others ++ after_item args rest) = all ∙ ap (λ y. y ++ after_item args rest) b.is in
    ap (arguments (inside_of room)) first
    ∙ b.as_items (inside_of room) (b.others ++ after_item args rest)
    ∙ ap (λ y. items (inside_of room) (suc (length y)) y) (sym first)
    ∙ items_complete room i (value e) args (length (closed_arguments (value_then e args) ++ rest)) rest (omega (arith, count-le (value_then e args) rest)) f.0 f.1
