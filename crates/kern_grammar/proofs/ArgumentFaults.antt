-- The faults of arguments; with them every expression is read, and has one tree.
use Rattle.std.proofs.Common.{◌≡◌, ℕ, zero, suc, ◌<◌, true, List, [], ◌∷◌, ◌++◌, refl, sym, ◌∙◌, ap, subst, arith, inl, inr, append_assoc, length, length-append, drop}
use Rattle.std.specs.Prelude.{Ok, Err}
use Rattle.kern_lexer.specs.Symbols.{Symbol, quoted, sign}
use Rattle.kern_lexer.specs.declared.token.Sign.TheVariants as S
use Rattle.kern_syntax.specs.Grammatical.{Fits, ArgumentsFit}
use Rattle.kern_syntax.specs.Tree.{Expression, Arguments, no_more}
use Rattle.kern_grammar.specs.Expressions.{expression_symbols}
use Rattle.kern_grammar.specs.Operators.{stops}
use Rattle.kern_grammar.specs.Reading.{Read, Inside, readers, Item, value, text, item_then, item, value_item, items_behind, items, arguments, inside_of}
use Rattle.kern_grammar.proofs.ArgumentReads.{after_more, items_found, arguments_complete}
use Rattle.kern_grammar.proofs.AtomReads.{goes_on}
use Rattle.kern_grammar.proofs.Atoms.{closed_arguments, ReadsArguments}
use Rattle.kern_grammar.proofs.AtomsEnded.{atoms_read}
use Rattle.kern_grammar.proofs.FirstSymbols.{item_symbols, after_item, closed_item}
use Rattle.kern_grammar.proofs.Items.{ItemFits, ItemStops, fits_then, ItemStops-same, ItemFound, item_found, items_step}
use Rattle.kern_grammar.proofs.Levels.{all_read, one_expression}
use Rattle.kern_grammar.proofs.Phrased.{SameFirst, FaultOf, FoundBy, bind_err}
use Rattle.kern_grammar.proofs.PrefixReads.{ReadsInside}
use Rattle.kern_grammar.proofs.RowReads.{ReadsLevel}
use Rattle.kern_grammar.proofs.RowFaults.{then_err, ok_pair, err_same, ok_err, append_nil}

-- a fault of an argument
pub record ItemFault (room : ℕ) (given left : List Symbol) : Type 0 where
  pub before : List Symbol
  pub completion : Item
  pub more : List Symbol
  pub whole : given ≡ before ++ left
  pub fits : ItemFits room completion
  pub completed : item_symbols completion ≡ before ++ more
  pub same : (other : List Symbol) → SameFirst left other → item (inside_of room) (before ++ other) ≡ Err other

-- a symbol that begins no text
abbrev AsValue : Symbol → Type 0
AsValue s = (inside : Inside) (z : List Symbol) → item inside (s ∷ z) ≡ value_item inside (s ∷ z)

refused_value : (s : Symbol) → AsValue s → (z other : List Symbol) → SameFirst (s ∷ z) other → item (inside_of 0) other ≡ Err other
refused_value s v z [] f = absurd f
refused_value s v z (o ∷ other) f = subst (λ y. item (inside_of 0) (y ∷ other) ≡ Err (y ∷ other)) f (v (inside_of 0) other)

value_fault : (room : ℕ) → ReadsInside room → (s : Symbol) → AsValue s → (z left : List Symbol) → value_item (inside_of room) (s ∷ z) ≡ Err left → ItemFault room (s ∷ z) left
value_fault zero i s v z left h =
    let r : Read Item = Err (s ∷ z) in
    let same = err_same r (s ∷ z) left refl h in
    record {
      before = [];
      completion = text [];
      more = quoted [] ∷ [];
      whole = same;
      fits = tt;
      completed = refl;
      same = λ other f. refused_value s v z other (subst (λ l. SameFirst l other) (sym same) f);
    }
value_fault (suc room) i s v z left h =
    let go : Expression × List Symbol → Read Item = λ e. Ok (value e.0, e.1) in
    elim (bind_err (readers room 11 (s ∷ z)) go left h) [
      | inl g ↦
          let f = (i 11 (omega arith)).fault (s ∷ z) left g in
          record {
            before = f.before;
            completion = value f.completion;
            more = f.more;
            whole = f.whole;
            fits = f.fits.1;
            completed = f.completed;
            same = λ other d.
                let head = goes_on s z f.before left other f.whole d in
                ap (item (inside_of (suc room))) head
                ∙ v (inside_of (suc room)) (drop 1 (f.before ++ other))
                ∙ ap (value_item (inside_of (suc room))) (sym head)
                ∙ then_err (readers room 11 (f.before ++ other)) other go (f.same other d);
          }
      | inr g ↦ let r : Read Item = Ok (value g.0.0, g.0.1) in ok_err r (value g.0.0, g.0.1) left refl g.2
    ]

nothing_left : (before left : List Symbol) → [] ≡ before ++ left → [] ≡ left
nothing_left [] left h = h
nothing_left (b ∷ before) left h = absurd cc

-- at the end of the symbols
nothing_fault : (room : ℕ) → ReadsInside room → (left : List Symbol) → value_item (inside_of room) [] ≡ Err left → ItemFault room [] left
nothing_fault zero i left h =
    let r : Read Item = Err [] in
    let same = err_same r [] left refl h in
    record { before = []; completion = text []; more = quoted [] ∷ []; whole = same; fits = tt; completed = refl; same = λ other f. absurd (subst (λ l. SameFirst l other) (sym same) f) }
nothing_fault (suc room) i left h =
    let go : Expression × List Symbol → Read Item = λ e. Ok (value e.0, e.1) in
    elim (bind_err (readers room 11 []) go left h) [
      | inl g ↦
          let f = (i 11 (omega arith)).fault [] left g in
          let none : [] ≡ left = nothing_left f.before left f.whole in
          record {
            before = f.before;
            completion = value f.completion;
            more = f.more;
            whole = f.whole;
            fits = f.fits.1;
            completed = f.completed;
            same = λ other d. absurd (subst (λ l. SameFirst l other) (sym none) d);
          }
      | inr g ↦ let r : Read Item = Ok (value g.0.0, g.0.1) in ok_err r (value g.0.0, g.0.1) left refl g.2
    ]

item_fault : (room : ℕ) → ReadsInside room → (given left : List Symbol) → item (inside_of room) given ≡ Err left → ItemFault room given left
item_fault room i [] left h = nothing_fault room i left h
item_fault room i (quoted t ∷ z) left h = absurd cc
item_fault room i (s ∷ z) left h = value_fault room i s (λ inside z. refl) z left h

-- a fault of arguments, however many may come
pub record ItemsFault (room : ℕ) (given left : List Symbol) : Type 0 where
  pub before : List Symbol
  pub first : Item
  pub others : Arguments
  pub more : List Symbol
  pub whole : given ≡ before ++ left
  pub fits : ArgumentsFit room (item_then first others)
  pub completed : closed_arguments (item_then first others) ≡ before ++ more
  pub same : (other : List Symbol) → SameFirst left other → (most : ℕ) → length (before ++ other) < most → items (inside_of room) most (before ++ other) ≡ Err other

-- arguments with nothing behind them
closed_alone : (x : Item) (args : Arguments) → closed_arguments (item_then x args) ≡ item_symbols x ++ after_item args []
closed_alone x args = append_nil (closed_arguments (item_then x args)) ∙ closed_item x args []

next_same : (room : ℕ) (before other : List Symbol) → item (inside_of room) (before ++ other) ≡ Err other → (most : ℕ) → length (before ++ other) < most → items (inside_of room) most (before ++ other) ≡ Err other
next_same room before other h zero enough = absurd (omega (arith, enough))
next_same room before other h (suc most) enough = then_err (item (inside_of room) (before ++ other)) other (λ first. items_behind first.0 (items (inside_of room) most) first.1) h

comma_same : (room : ℕ) → ReadsInside room → (x : Item) → ItemFits room x → (y other : List Symbol) → ItemStops x (sign S.Comma ∷ y) → (most : ℕ) → length (item_symbols x ++ (sign S.Comma ∷ y)) < most → ((m : ℕ) → length y < m → items (inside_of room) m y ≡ Err other) → items (inside_of room) most (item_symbols x ++ (sign S.Comma ∷ y)) ≡ Err other
comma_same room i x f y other s zero enough h = absurd (omega (arith, enough))
comma_same room i x f y other s (suc most) enough h =
    items_step room i most x (sign S.Comma ∷ y) f s
    ∙ then_err (items (inside_of room) most y) other (λ others. Ok (item_then x others.0, others.1)) (h most (omega (arith, enough, length-append (item_symbols x) (sign S.Comma ∷ y))))

behind_same : (room : ℕ) → ReadsInside room → (x : Item) → ItemFits room x → (s : Symbol) (z : List Symbol) → ((more : List Symbol → Read Arguments) (y : List Symbol) → items_behind x more (s ∷ y) ≡ Err (s ∷ y)) → ItemStops x (s ∷ z) → (other : List Symbol) → SameFirst (s ∷ z) other → (most : ℕ) → length (item_symbols x ++ other) < most → items (inside_of room) most (item_symbols x ++ other) ≡ Err other
behind_same room i x f s z r st other d zero enough = absurd (omega (arith, enough))
behind_same room i x f s z r st [] d (suc most) enough = absurd d
behind_same room i x f s z r st (o ∷ other) d (suc most) enough =
    items_step room i most x (o ∷ other) f (ItemStops-same x (s ∷ z) (o ∷ other) d st)
    ∙ subst (λ y. items_behind x (items (inside_of room) most) (y ∷ other) ≡ Err (y ∷ other)) d (r (items (inside_of room) most) other)

-- a fault of the next argument
next_fault : (room : ℕ) (given left : List Symbol) → ItemFault room given left → ItemsFault room given left
next_fault room given left f = record {
  before = f.before;
  first = f.completion;
  others = no_more;
  more = f.more ++ sign S.CloseParenthesis ∷ [];
  whole = f.whole;
  fits = fits_then room f.completion no_more f.fits tt;
  completed = closed_alone f.completion no_more ∙ ap (λ y. y ++ sign S.CloseParenthesis ∷ []) f.completed ∙ append_assoc f.before f.more (sign S.CloseParenthesis ∷ []);
  same = λ other d most enough. next_same room f.before other (f.same other d) most enough;
}

-- a fault behind an argument and its comma
comma_fault : (room : ℕ) → ReadsInside room → (given z left : List Symbol) (x : Item) → ItemFound room given x (sign S.Comma ∷ z) → ItemsFault room z left → ItemsFault room given left
comma_fault room i given z left x f g = record {
  before = item_symbols x ++ (sign S.Comma ∷ g.before);
  first = x;
  others = item_then g.first g.others;
  more = g.more;
  whole = f.whole ∙ ap (λ y. item_symbols x ++ (sign S.Comma ∷ y)) g.whole ∙ sym (append_assoc (item_symbols x) (sign S.Comma ∷ g.before) left);
  fits = fits_then room x (item_then g.first g.others) f.fits g.fits;
  completed = closed_alone x (item_then g.first g.others)
      ∙ ap (λ y. item_symbols x ++ y) (after_more g.first g.others [])
      ∙ ap (λ y. item_symbols x ++ (sign S.Comma ∷ y)) (sym (append_nil (closed_arguments (item_then g.first g.others))) ∙ g.completed)
      ∙ sym (append_assoc (item_symbols x) (sign S.Comma ∷ g.before) g.more);
  same = λ other d most enough.
      ap (items (inside_of room) most) (append_assoc (item_symbols x) (sign S.Comma ∷ g.before) other)
      ∙ comma_same room i x f.fits (g.before ++ other) other (ItemStops-same x (sign S.Comma ∷ z) (sign S.Comma ∷ (g.before ++ other)) refl f.stopped) most
      (subst (λ y. length y < most) (append_assoc (item_symbols x) (sign S.Comma ∷ g.before) other) enough)
      (λ m e. g.same other d m e);
}

-- a fault at what stands behind an argument
behind_fault : (room : ℕ) → ReadsInside room → (given z left : List Symbol) (x : Item) (s : Symbol) → ItemFound room given x (s ∷ z) → ((more : List Symbol → Read Arguments) (y : List Symbol) → items_behind x more (s ∷ y) ≡ Err (s ∷ y)) → (s ∷ z) ≡ left → ItemsFault room given left
behind_fault room i given z left x s f r e = record {
  before = item_symbols x;
  first = x;
  others = no_more;
  more = sign S.CloseParenthesis ∷ [];
  whole = f.whole ∙ ap (λ y. item_symbols x ++ y) e;
  fits = fits_then room x no_more f.fits tt;
  completed = closed_alone x no_more;
  same = λ other d most enough. behind_same room i x f.fits s z r f.stopped other (subst (λ l. SameFirst l other) (sym e) d) most enough;
}

-- what stands behind an argument that was read
after_fault : (room : ℕ) → ReadsInside room → (most : ℕ) → ((z left : List Symbol) → length z < most → items (inside_of room) most z ≡ Err left → ItemsFault room z left) → (given r left : List Symbol) (x : Item) → ItemFound room given x r → length given < suc most → items_behind x (items (inside_of room) most) r ≡ Err left → ItemsFault room given left
after_fault room i most more given [] left x f enough h =
    let r : Read Arguments = Err [] in
    let same = err_same r [] left refl h in
    record {
      before = item_symbols x;
      first = x;
      others = no_more;
      more = sign S.CloseParenthesis ∷ [];
      whole = f.whole ∙ ap (λ y. item_symbols x ++ y) same;
      fits = fits_then room x no_more f.fits tt;
      completed = closed_alone x no_more;
      same = λ other d m e. absurd (subst (λ l. SameFirst l other) (sym same) d);
    }
after_fault room i most more given (sign S.Comma ∷ z) left x f enough h =
    let go : Arguments × List Symbol → Read Arguments = λ others. Ok (item_then x others.0, others.1) in
    elim (bind_err (items (inside_of room) most z) go left h) [
      | inl g ↦ comma_fault room i given z left x f (more z left (omega (arith, enough, ap length f.whole, length-append (item_symbols x) (sign S.Comma ∷ z))) g)
      | inr g ↦ let r : Read Arguments = Ok (item_then x g.0.0, g.0.1) in ok_err r (item_then x g.0.0, g.0.1) left refl g.2
    ]
after_fault room i most more given (sign S.CloseParenthesis ∷ z) left x f enough h = absurd cc
after_fault room i most more given (s ∷ z) left x f enough h =
    let r : Read Arguments = Err (s ∷ z) in
    behind_fault room i given z left x s f (λ more y. refl) (err_same r (s ∷ z) left refl h)

items_fault : (room : ℕ) → ReadsInside room → (most : ℕ) (given left : List Symbol) → length given < most → items (inside_of room) most given ≡ Err left → ItemsFault room given left
items_fault room i zero given left enough h = absurd (omega (arith, enough))
items_fault room i (suc most) given left enough h =
    let go : Item × List Symbol → Read Arguments = λ first. items_behind first.0 (items (inside_of room) most) first.1 in
    elim (bind_err (item (inside_of room) given) go left h) [
      | inl g ↦ next_fault room given left (item_fault room i given left g)
      | inr g ↦ after_fault room i most (items_fault room i most) given g.0.1 left g.0.0 (item_found room i given g.0.0 g.0.1 g.1) enough g.2
    ]

-- the fault of arguments is that of a list of them, where they don't close at once
from_items : (room : ℕ) → ReadsInside room → (s : Symbol) → ((z : List Symbol) → arguments (inside_of room) (s ∷ z) ≡ items (inside_of room) (suc (length (s ∷ z))) (s ∷ z)) → (z left : List Symbol) → arguments (inside_of room) (s ∷ z) ≡ Err left → FaultOf closed_arguments (ArgumentsFit room) (arguments (inside_of room)) (s ∷ z) left
from_items room i s reads z left h =
    let g = items_fault room i (suc (length (s ∷ z))) (s ∷ z) left (omega arith) (sym (reads z) ∙ h) in
    record {
      before = g.before;
      completion = item_then g.first g.others;
      more = g.more;
      whole = g.whole;
      fits = g.fits;
      completed = g.completed;
      same = λ other d.
          let head = goes_on s z g.before left other g.whole d in
          ap (arguments (inside_of room)) head
          ∙ reads (drop 1 (g.before ++ other))
          ∙ ap (λ y. items (inside_of room) (suc (length y)) y) (sym head)
          ∙ g.same other d (suc (length (g.before ++ other))) (omega arith);
    }

arguments_fault : (room : ℕ) → ReadsInside room → (given left : List Symbol) → arguments (inside_of room) given ≡ Err left → FaultOf closed_arguments (ArgumentsFit room) (arguments (inside_of room)) given left
arguments_fault room i [] left h =
    let g = items_fault room i 1 [] left (omega arith) h in
    let none : [] ≡ left = nothing_left g.before left g.whole in
    record {
      before = g.before;
      completion = item_then g.first g.others;
      more = g.more;
      whole = g.whole;
      fits = g.fits;
      completed = g.completed;
      same = λ other d. absurd (subst (λ l. SameFirst l other) (sym none) d);
    }
arguments_fault room i (sign S.CloseParenthesis ∷ z) left h = absurd cc
arguments_fault room i (s ∷ z) left h = from_items room i s (λ z. refl) z left h

-- arguments that don't close at once
from_found : (room : ℕ) → ReadsInside room → (most : ℕ) (given : List Symbol) (args : Arguments) (rest : List Symbol) → items (inside_of room) most given ≡ Ok (args, rest) → FoundBy closed_arguments (ArgumentsFit room) (λ rest. true) given args rest
from_found room i most given args rest h = let f = items_found room i most given args rest h in record { whole = f.whole; fits = f.fits; stopped = refl }

arguments_found : (room : ℕ) → ReadsInside room → (given : List Symbol) (args : Arguments) (rest : List Symbol) → arguments (inside_of room) given ≡ Ok (args, rest) → FoundBy closed_arguments (ArgumentsFit room) (λ rest. true) given args rest
arguments_found room i [] args rest h = from_found room i 1 [] args rest h
arguments_found room i (sign S.CloseParenthesis ∷ z) args rest h =
    let r : Read Arguments = Ok (no_more, z) in
    let both = ok_pair r (no_more, z) (args, rest) refl h in
    let left : no_more ≡ args = ap (λ p. p.0) both in
    let right : z ≡ rest = ap (λ p. p.1) both in
    record { whole = ap (λ y. sign S.CloseParenthesis ∷ y) right ∙ ap (λ y. closed_arguments y ++ rest) left; fits = subst (ArgumentsFit room) left tt; stopped = refl }
arguments_found room i (s ∷ z) args rest h = from_found room i (suc (length (s ∷ z))) (s ∷ z) args rest h

pub arguments_read : (room : ℕ) → ReadsInside room → ReadsArguments room
arguments_read room i = record { complete = λ args rest f s. arguments_complete room i args rest f; found = arguments_found room i; fault = arguments_fault room i }

-- every level of expressions is read at every nesting
pub expressions_read : (room level : ℕ) → ReadsLevel level room (readers room level)
expressions_read room level = all_read (atoms_read arguments_read) room level

-- an expression's tokens have one tree
pub one_tree : (level room : ℕ) (a b : Expression) (rest others : List Symbol) → Fits level room a → Fits level room b → stops level rest ≡ true → stops level others ≡ true → expression_symbols a ++ rest ≡ expression_symbols b ++ others → (a ≡ b) × (rest ≡ others)
one_tree = one_expression (atoms_read arguments_read)

-- what stands one deeper is read
pub inside_reads : (room : ℕ) → ReadsInside room
inside_reads zero = tt
inside_reads (suc room) = λ level h. expressions_read room level
