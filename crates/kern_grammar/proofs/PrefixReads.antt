-- The levels of prefixes and of `not` read their phrases where the next tighter level and the next deeper nesting do.
use Rattle.std.proofs.Common.{◌≡◌, ℕ, zero, suc, ◌≤◌, true, List, [], ◌∷◌, ◌++◌, refl, sym, ◌∙◌, ap, subst, arith, inl, inr}
use Rattle.std.specs.Prelude.{Ok, Err}
use Rattle.kern_lexer.specs.Symbols.{Symbol, number}
use Rattle.kern_syntax.specs.Levels.{level_of}
use Rattle.kern_syntax.specs.Grammatical.{PartsFit, Fits, Deeper}
use Rattle.kern_syntax.specs.Tree.{Expression, integer}
use Rattle.kern_grammar.specs.Expressions.{expression_symbols}
use Rattle.kern_grammar.specs.Operators.{stops}
use Rattle.kern_grammar.specs.Reading.{Read, Reader, operand, readers, inside_of}
use Rattle.kern_grammar.proofs.Phrased.{SameFirst, FaultOf, FoundBy, bind_ok, bind_err}
use Rattle.kern_grammar.proofs.RowReads.{ReadsLevel, then_ok}
use Rattle.kern_grammar.proofs.RowFaults.{then_err, ok_pair, err_same, ok_err}

-- what stands one deeper is read, where there is room for it
abbrev pub ReadsInside : (room : ℕ) → Type 0
ReadsInside zero = Unit {0}
ReadsInside (suc room) = (level : ℕ) → level ≤ 11 → ReadsLevel level room (readers room level)

-- a form that is a symbol before an operand of a level one deeper
pub record IsPrefixForm (level : ℕ) (s : Symbol) (build : Expression → Expression) : Type 0 where
  pub spelled : (e : Expression) → expression_symbols (build e) ≡ s ∷ expression_symbols e
  pub level_is : (e : Expression) → level_of (build e) ≡ level
  pub in_range : level ≤ 11
  pub inward : (room : ℕ) (e : Expression) → PartsFit room (build e) → Deeper room (λ inside. Fits level inside e)
  pub outward : (room : ℕ) (e : Expression) → Deeper room (λ inside. Fits level inside e) → PartsFit room (build e)

pub prefix-complete : (level : ℕ) (s : Symbol) (build : Expression → Expression) → IsPrefixForm level s build → (room : ℕ) → ReadsInside room → (e : Expression) (rest : List Symbol) → PartsFit room (build e) → stops level rest ≡ true → operand (inside_of room) level build (s ∷ (expression_symbols e ++ rest)) ≡ Ok (build e, rest)
prefix-complete level s build form zero i e rest f h = absurd (form.inward zero e f)
prefix-complete level s build form (suc room) i e rest f h =
    then_ok (readers room level (expression_symbols e ++ rest)) e rest (λ x. Ok (build x.0, x.1)) ((i level form.in_range).complete e rest (form.inward (suc room) e f) h)

pub prefix-found : (level : ℕ) (s : Symbol) (build : Expression → Expression) → IsPrefixForm level s build → (room : ℕ) → ReadsInside room → (given : List Symbol) (x : Expression) (rest : List Symbol) → operand (inside_of room) level build (s ∷ given) ≡ Ok (x, rest) → FoundBy expression_symbols (Fits level room) (stops level) (s ∷ given) x rest
prefix-found level s build form zero i given x rest h = absurd cc
prefix-found level s build form (suc room) i given x rest h =
    let step = bind_ok (readers room level given) (λ e. Ok (build e.0, e.1)) (x, rest) h in
    let inner = (i level form.in_range).found given step.0.0 step.0.1 step.1 in
    let r : Read Expression = Ok (build step.0.0, step.0.1) in
    let same = ok_pair r (build step.0.0, step.0.1) (x, rest) refl step.2 in
    let left : build step.0.0 ≡ x = ap (λ p. p.0) same in
    let right : step.0.1 ≡ rest = ap (λ p. p.1) same in
    record {
      whole = ap (λ y. s ∷ y) inner.whole ∙ ap (λ y. y ++ step.0.1) (sym (form.spelled step.0.0)) ∙ ap (λ y. expression_symbols y ++ step.0.1) left ∙ ap (λ y. expression_symbols x ++ y) right;
      fits = subst (Fits level (suc room)) left (omega (arith, form.level_is step.0.0), form.outward (suc room) step.0.0 inner.fits);
      stopped = ap (stops level) (sym right) ∙ inner.stopped;
    }

-- without room a prefix is a fault, whatever follows
at_prefix : (level : ℕ) (s : Symbol) (build : Expression → Expression) (read : Reader) → ((given : List Symbol) → read (s ∷ given) ≡ Err (s ∷ given)) → (given other : List Symbol) → SameFirst (s ∷ given) other → read other ≡ Err other
at_prefix level s build read reads given [] f = absurd f
at_prefix level s build read reads given (o ∷ other) f = subst (λ x. read (x ∷ other) ≡ Err (x ∷ other)) f (reads other)

-- a fault at the prefix, where there is no room, or behind it
pub prefix-fault : (level : ℕ) (s : Symbol) (build : Expression → Expression) → IsPrefixForm level s build → (room : ℕ) → ReadsInside room → (read : Reader) → ((given : List Symbol) → read (s ∷ given) ≡ operand (inside_of room) level build (s ∷ given)) → (given left : List Symbol) → operand (inside_of room) level build (s ∷ given) ≡ Err left → FaultOf expression_symbols (Fits level room) read (s ∷ given) left
prefix-fault level s build form zero i read reads given left h =
    let r : Read Expression = Err (s ∷ given) in
    let same = err_same r (s ∷ given) left refl h in
    record {
      before = [];
      completion = integer 0;
      more = number 0 ∷ [];
      whole = same;
      fits = (omega arith, tt);
      completed = refl;
      same = λ other f. at_prefix level s build read reads given other (subst (λ l. SameFirst l other) (sym same) f);
    }
prefix-fault level s build form (suc room) i read reads given left h =
    let go : Expression × List Symbol → Read Expression = λ e. Ok (build e.0, e.1) in
    elim (bind_err (readers room level given) go left h) [
      | inl g ↦
          let f = (i level form.in_range).fault given left g in
          record {
            before = s ∷ f.before;
            completion = build f.completion;
            more = f.more;
            whole = ap (λ y. s ∷ y) f.whole;
            fits = (omega (arith, form.level_is f.completion), form.outward (suc room) f.completion f.fits);
            completed = form.spelled f.completion ∙ ap (λ y. s ∷ y) f.completed;
            same = λ other e. reads (f.before ++ other) ∙ then_err (readers room level (f.before ++ other)) other go (f.same other e);
          }
      | inr g ↦ let r : Read Expression = Ok (build g.0.0, g.0.1) in ok_err r (build g.0.0, g.0.1) left refl g.2
    ]
