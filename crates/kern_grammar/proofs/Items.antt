-- One argument is read, and lists of them are.
use Rattle.std.proofs.Common.{◌≡◌, ℕ, zero, suc, ◌≤◌, true, List, [], ◌∷◌, ◌++◌, refl, sym, ◌∙◌, ap, subst, arith}
use Rattle.std.specs.Prelude.{Ok}
use Rattle.kern_lexer.specs.Symbols.{Symbol, quoted, sign}
use Rattle.kern_lexer.specs.declared.token.Sign.TheVariants as S
use Rattle.kern_syntax.specs.Grammatical.{PartsFit, Deeper, ArgumentsFit}
use Rattle.kern_syntax.specs.Tree.{Expression, Arguments, no_more, value_then, text_then}
use Rattle.kern_grammar.specs.Expressions.{expression_symbols}
use Rattle.kern_grammar.specs.Operators.{stops}
use Rattle.kern_grammar.specs.Reading.{Read, Inside, readers, Item, value, text, item_then, item, value_item, items_behind, items, inside_of}
use Rattle.kern_grammar.proofs.Atoms.{closed_arguments}
use Rattle.kern_grammar.proofs.Enclosed.{any_level}
use Rattle.kern_grammar.proofs.FirstSymbols.{begins_as, item_symbols, after_item, closed_item}
use Rattle.kern_grammar.proofs.Phrased.{SameFirst, bind_ok, stops-same}
use Rattle.kern_grammar.proofs.PrefixReads.{ReadsInside}
use Rattle.kern_grammar.proofs.RowReads.{then_ok}
use Rattle.kern_grammar.proofs.RowFaults.{ok_pair}

-- an argument is in the grammar
abbrev pub ItemFits : (room : ℕ) → Item → Type 0
ItemFits room (value e) = Deeper room (λ inside. PartsFit inside e)
ItemFits room (text t) = Unit {0}

-- what follows doesn't go on with an argument
abbrev pub ItemStops : Item → List Symbol → Type 0
ItemStops (value e) rest = stops 11 rest ≡ true
ItemStops (text t) rest = Unit {0}

pub fits_then : (room : ℕ) (x : Item) (args : Arguments) → ItemFits room x → ArgumentsFit room args → ArgumentsFit room (item_then x args)
fits_then room (value e) args f g = (f, g)
fits_then room (text t) args f g = g

pub ItemStops-same : (x : Item) (left other : List Symbol) → SameFirst left other → ItemStops x left → ItemStops x other
ItemStops-same (value e) left other f h = stops-same 11 [] left other f h
ItemStops-same (text t) left other f h = tt

pub stops_by_comma : (x : Item) (args : Arguments) (rest : List Symbol) → ItemStops x (after_item args rest)
stops_by_comma (value e) no_more rest = refl
stops_by_comma (value e) (value_then a args) rest = refl
stops_by_comma (value e) (text_then t args) rest = refl
stops_by_comma (text t) args rest = tt

-- an expression is read as an argument
as_value : (e : Expression) (inside : Inside) (rest : List Symbol) → item inside (expression_symbols e ++ rest) ≡ value_item inside (expression_symbols e ++ rest)
as_value e inside rest =
    let f = begins_as e in
    ap (λ y. item inside (y ++ rest)) f.is ∙ f.as_value inside (f.others ++ rest) ∙ ap (λ y. value_item inside (y ++ rest)) (sym f.is)

value_ok : (room : ℕ) → ReadsInside room → (e : Expression) (rest : List Symbol) → ItemFits room (value e) → stops 11 rest ≡ true → value_item (inside_of room) (expression_symbols e ++ rest) ≡ Ok (value e, rest)
value_ok zero i e rest f s = absurd f
value_ok (suc room) i e rest f s = then_ok (readers room 11 (expression_symbols e ++ rest)) e rest (λ x. Ok (value x.0, x.1)) ((i 11 (omega arith)).complete e rest (any_level e, f) s)

pub item_ok : (room : ℕ) → ReadsInside room → (x : Item) (rest : List Symbol) → ItemFits room x → ItemStops x rest → item (inside_of room) (item_symbols x ++ rest) ≡ Ok (x, rest)
item_ok room i (value e) rest f s = as_value e (inside_of room) rest ∙ value_ok room i e rest f s
item_ok room i (text t) rest f s = refl

-- what was read as an argument
pub record ItemFound (room : ℕ) (given : List Symbol) (x : Item) (rest : List Symbol) : Type 0 where
  pub whole : given ≡ item_symbols x ++ rest
  pub fits : ItemFits room x
  pub stopped : ItemStops x rest

value_found : (room : ℕ) → ReadsInside room → (given : List Symbol) (x : Item) (rest : List Symbol) → value_item (inside_of room) given ≡ Ok (x, rest) → ItemFound room given x rest
value_found zero i given x rest h = absurd cc
value_found (suc room) i given x rest h =
    let step = bind_ok (readers room 11 given) (λ e. Ok (value e.0, e.1)) (x, rest) h in
    let f = (i 11 (omega arith)).found given step.0.0 step.0.1 step.1 in
    let r : Read Item = Ok (value step.0.0, step.0.1) in
    let both = ok_pair r (value step.0.0, step.0.1) (x, rest) refl step.2 in
    let left : value step.0.0 ≡ x = ap (λ p. p.0) both in
    let right : step.0.1 ≡ rest = ap (λ p. p.1) both in
    record {
      whole = f.whole ∙ ap (λ y. item_symbols y ++ step.0.1) left ∙ ap (λ y. item_symbols x ++ y) right;
      fits = subst (ItemFits (suc room)) left f.fits.1;
      stopped = subst (λ y. ItemStops y rest) left (ap (stops 11) (sym right) ∙ f.stopped);
    }

text_found : (room : ℕ) (t : List ℕ) (z : List Symbol) (x : Item) (rest : List Symbol) → item (inside_of room) (quoted t ∷ z) ≡ Ok (x, rest) → ItemFound room (quoted t ∷ z) x rest
text_found room t z x rest h =
    let r : Read Item = Ok (text t, z) in
    let both = ok_pair r (text t, z) (x, rest) refl h in
    let left : text t ≡ x = ap (λ p. p.0) both in
    let right : z ≡ rest = ap (λ p. p.1) both in
    record {
      whole = ap (λ y. quoted t ∷ y) right ∙ ap (λ y. item_symbols y ++ rest) left;
      fits = subst (ItemFits room) left tt;
      stopped = subst (λ y. ItemStops y rest) left tt;
    }

pub item_found : (room : ℕ) → ReadsInside room → (given : List Symbol) (x : Item) (rest : List Symbol) → item (inside_of room) given ≡ Ok (x, rest) → ItemFound room given x rest
item_found room i (quoted t ∷ z) x rest h = text_found room t z x rest h
item_found room i given x rest h = value_found room i given x rest h

-- how many arguments
abbrev pub count : Arguments → ℕ
count no_more = 0
count (value_then e args) = suc (count args)
count (text_then t args) = suc (count args)

-- one argument, before what is read behind it
pub items_step : (room : ℕ) → ReadsInside room → (most : ℕ) (x : Item) (rest : List Symbol) → ItemFits room x → ItemStops x rest → items (inside_of room) (suc most) (item_symbols x ++ rest) ≡ items_behind x (items (inside_of room) most) rest
items_step room i most x rest f s = then_ok (item (inside_of room) (item_symbols x ++ rest)) x rest (λ first. items_behind first.0 (items (inside_of room) most) first.1) (item_ok room i x rest f s)

-- the rest of the arguments behind a comma
more_args : (room : ℕ) (most : ℕ) (x : Item) (args : Arguments) (rest : List Symbol) → items (inside_of room) most (closed_arguments args ++ rest) ≡ Ok (args, rest) → items_behind x (items (inside_of room) most) (sign S.Comma ∷ (closed_arguments args ++ rest)) ≡ Ok (item_then x args, rest)
more_args room most x args rest h = then_ok (items (inside_of room) most (closed_arguments args ++ rest)) args rest (λ others. Ok (item_then x others.0, others.1)) h

pub items_complete : (room : ℕ) → ReadsInside room → (x : Item) (args : Arguments) (most : ℕ) (rest : List Symbol) → count args ≤ most → ItemFits room x → ArgumentsFit room args → items (inside_of room) (suc most) (closed_arguments (item_then x args) ++ rest) ≡ Ok (item_then x args, rest)
items_complete room i x no_more most rest c f g =
    ap (items (inside_of room) (suc most)) (closed_item x no_more rest) ∙ items_step room i most x (sign S.CloseParenthesis ∷ rest) f (stops_by_comma x no_more rest)
items_complete room i x (value_then e args) zero rest c f g = absurd (omega (arith, c))
items_complete room i x (value_then e args) (suc most) rest c f g =
    ap (items (inside_of room) (suc (suc most))) (closed_item x (value_then e args) rest)
    ∙ items_step room i (suc most) x (after_item (value_then e args) rest) f (stops_by_comma x (value_then e args) rest)
    ∙ more_args room (suc most) x (value_then e args) rest (items_complete room i (value e) args most rest (omega (arith, c)) g.0 g.1)
items_complete room i x (text_then t args) zero rest c f g = absurd (omega (arith, c))
items_complete room i x (text_then t args) (suc most) rest c f g =
    ap (items (inside_of room) (suc (suc most))) (closed_item x (text_then t args) rest)
    ∙ items_step room i (suc most) x (after_item (text_then t args) rest) f (stops_by_comma x (text_then t args) rest)
    ∙ more_args room (suc most) x (text_then t args) rest (items_complete room i (text t) args most rest (omega (arith, c)) tt g)
