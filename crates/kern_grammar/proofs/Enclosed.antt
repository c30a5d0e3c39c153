-- What stands in brackets is read, where there is room for it.
use Rattle.std.proofs.Common.{◌≡◌, ℕ, zero, suc, ◌≤◌, Bool, true, false, List, [], ◌∷◌, ◌++◌, refl, sym, ◌∙◌, ap, subst, arith, ◌⊎◌, inl, inr, append_assoc, cond}
use Rattle.std.specs.Prelude.{Ok, Err}
use Rattle.kern_lexer.specs.Symbols.{Symbol}
use Rattle.kern_syntax.specs.declared.expression.BinaryOperator.{BinaryOperator}
use Rattle.kern_syntax.specs.declared.expression.BinaryOperator.TheVariants as B
use Rattle.kern_syntax.specs.Levels.{level_of, binary_level}
use Rattle.kern_syntax.specs.Grammatical.{PartsFit, Fits, Deeper}
use Rattle.kern_syntax.specs.Tree.{Expression, binary}
use Rattle.kern_grammar.specs.Expressions.{expression_symbols}
use Rattle.kern_grammar.specs.Operators.{stops}
use Rattle.kern_grammar.specs.Reading.{Read, Reader, enclosed, closed, readers, inside_of}
use Rattle.kern_grammar.proofs.Phrased.{SameFirst, bind_ok, bind_err, stops-same}
use Rattle.kern_grammar.proofs.PrefixReads.{ReadsInside}
use Rattle.kern_grammar.proofs.RowReads.{then_ok}
use Rattle.kern_grammar.proofs.RowFaults.{then_err, ok_pair, err_same, ok_err}

-- a form that is an expression between an opening and a closing symbol, behind some symbols of its own
pub record IsBracketForm (front : List Symbol) (opening closing : Symbol) (is_closing : Symbol → Bool) (build : Expression → Expression) : Type 0 where
  pub spelled : (e : Expression) → expression_symbols (build e) ≡ front ++ (opening ∷ (expression_symbols e ++ closing ∷ []))
  pub level_is : (e : Expression) → level_of (build e) ≡ 0
  pub inward : (room : ℕ) (e : Expression) → PartsFit room (build e) → Deeper room (λ inside. PartsFit inside e)
  pub outward : (room : ℕ) (e : Expression) → Deeper room (λ inside. PartsFit inside e) → PartsFit room (build e)
  pub closes : is_closing closing ≡ true
  pub only : (s : Symbol) → is_closing s ≡ true → s ≡ closing
  pub stop : (rest : List Symbol) → stops 11 (closing ∷ rest) ≡ true
  pub alone : Expression
  pub alone_more : List Symbol
  pub alone_spelled : expression_symbols alone ≡ front ++ alone_more
  pub alone_fits : (room : ℕ) → Fits 0 room alone

-- what was read between the symbols
pub record Between (room : ℕ) (closing : Symbol) (build : Expression → Expression) (given : List Symbol) (x : Expression) (rest : List Symbol) : Type 0 where
  pub inner : Expression
  pub is : x ≡ build inner
  pub whole : given ≡ expression_symbols inner ++ (closing ∷ rest)
  pub fits : PartsFit room (build inner)

-- a fault from the opening symbol on
pub record BracketFault (front : List Symbol) (room : ℕ) (read : Reader) (symbols left : List Symbol) : Type 0 where
  pub before : List Symbol
  pub completion : Expression
  pub more : List Symbol
  pub whole : symbols ≡ before ++ left
  pub fits : Fits 0 room completion
  pub completed : expression_symbols completion ≡ front ++ (before ++ more)
  pub same : (other : List Symbol) → SameFirst left other → read (before ++ other) ≡ Err other

at_most_11 : (op : BinaryOperator) → binary_level op ≤ 11
at_most_11 B.Add = omega arith
at_most_11 B.Subtract = omega arith
at_most_11 B.Multiply = omega arith
at_most_11 B.Divide = omega arith
at_most_11 B.Remainder = omega arith
at_most_11 B.ShiftLeft = omega arith
at_most_11 B.ShiftRight = omega arith
at_most_11 B.BitAnd = omega arith
at_most_11 B.BitXor = omega arith
at_most_11 B.BitOr = omega arith

-- every expression may stand where all levels may
pub any_level : (e : Expression) → level_of e ≤ 11
any_level (binary op a b) = at_most_11 op
any_level e = omega arith

pub tells_bool : (b : Bool) → (b ≡ true) ⊎ (b ≡ false)
tells_bool true = inl refl
tells_bool false = inr refl

module _ (front : List Symbol) (opening closing : Symbol) (is_closing : Symbol → Bool) (build : Expression → Expression) (form : IsBracketForm front opening closing is_closing build) where
  abbrev between : ℕ → Reader
  between room = enclosed (inside_of room) is_closing build

  -- the closing symbol is read
  closed_here : (e : Expression) (rest : List Symbol) → closed is_closing e (closing ∷ rest) ≡ Ok (e, rest)
  closed_here e rest = ap (λ b. cond b (Ok (e, rest)) (Err (closing ∷ rest))) form.closes

  pub enclosed-complete : (room : ℕ) → ReadsInside room → (e : Expression) (rest : List Symbol) → PartsFit room (build e) → between room (opening ∷ (expression_symbols e ++ (closing ∷ rest))) ≡ Ok (build e, rest)
  enclosed-complete zero i e rest f = absurd (form.inward zero e f)
  enclosed-complete (suc room) i e rest f =
      then_ok (readers room 11 (expression_symbols e ++ (closing ∷ rest))) e (closing ∷ rest) (λ x. closed is_closing (build x.0) x.1) ((i 11 (omega arith)).complete e (closing ∷ rest) (any_level e, form.inward (suc room) e f) (form.stop rest))
      ∙ closed_here (build e) rest

  -- what closed gives
  closed_ok : (e x : Expression) (symbols rest : List Symbol) → closed is_closing e symbols ≡ Ok (x, rest) → (x ≡ e) × (symbols ≡ closing ∷ rest)
  closed_ok e x [] rest h = absurd cc
  closed_ok e x (s ∷ symbols) rest h = elim (tells_bool (is_closing s)) [
    | inl closes ↦
        let r : Read Expression = Ok (e, symbols) in
        let same = ok_pair r (e, symbols) (x, rest) refl (ap (λ b. cond b (Ok (e, symbols)) (Err (s ∷ symbols))) (sym closes) ∙ h) in
        (sym (ap (λ p. p.0) same), ap (λ y. y ∷ symbols) (form.only s closes) ∙ ap (λ y. closing ∷ y) (ap (λ p. p.1) same))
    | inr keeps ↦
        let r : Read Expression = Err (s ∷ symbols) in
        ok_err r (x, rest) (s ∷ symbols) (ap (λ b. cond b (Ok (e, symbols)) (Err (s ∷ symbols))) (sym keeps) ∙ h) refl
  ]

  pub enclosed-found : (room : ℕ) → ReadsInside room → (given : List Symbol) (x : Expression) (rest : List Symbol) → between room (opening ∷ given) ≡ Ok (x, rest) → Between room closing build given x rest
  enclosed-found zero i given x rest h = absurd cc
  enclosed-found (suc room) i given x rest h =
      let step = bind_ok (readers room 11 given) (λ e. closed is_closing (build e.0) e.1) (x, rest) h in
      let inner = (i 11 (omega arith)).found given step.0.0 step.0.1 step.1 in
      let last = closed_ok (build step.0.0) x step.0.1 rest step.2 in
      record { inner = step.0.0; is = last.0; whole = inner.whole ∙ ap (λ y. expression_symbols step.0.0 ++ y) last.1; fits = form.outward (suc room) step.0.0 inner.fits.1 }

  refused : (s : Symbol) (e : Expression) → is_closing s ≡ false → (symbols other : List Symbol) → SameFirst (s ∷ symbols) other → closed is_closing e other ≡ Err other
  refused s e keeps symbols [] f = absurd f
  refused s e keeps symbols (o ∷ other) f = ap (λ b. cond b (Ok (e, other)) (Err (o ∷ other))) (sym (ap is_closing f) ∙ keeps)

  -- what closed refuses, it refuses whatever follows
  closed_err : (e : Expression) (symbols left : List Symbol) → closed is_closing e symbols ≡ Err left → (symbols ≡ left) × ((other : List Symbol) → SameFirst left other → closed is_closing e other ≡ Err other)
  closed_err e [] left h =
      let r : Read Expression = Err [] in
      let same = err_same r [] left refl h in
      (same, λ other f. absurd (subst (λ l. SameFirst l other) (sym same) f))
  closed_err e (s ∷ symbols) left h = elim (tells_bool (is_closing s)) [
    | inl closes ↦
        let r : Read Expression = Ok (e, symbols) in
        ok_err r (e, symbols) left refl (ap (λ b. cond b (Ok (e, symbols)) (Err (s ∷ symbols))) (sym closes) ∙ h)
    | inr keeps ↦
        let r : Read Expression = Err (s ∷ symbols) in
        let same = err_same r (s ∷ symbols) left refl (ap (λ b. cond b (Ok (e, symbols)) (Err (s ∷ symbols))) (sym keeps) ∙ h) in
        (same, λ other f. refused s e keeps symbols other (subst (λ l. SameFirst l other) (sym same) f))
  ]

  -- without room the opening symbol is a fault, whatever follows
  no_room : (given other : List Symbol) → SameFirst (opening ∷ given) other → between 0 other ≡ Err other
  no_room given other f = refl

  pub enclosed-fault : (room : ℕ) → ReadsInside room → (given left : List Symbol) → between room (opening ∷ given) ≡ Err left → BracketFault front room (between room) (opening ∷ given) left
  enclosed-fault zero i given left h =
      let r : Read Expression = Err (opening ∷ given) in
      record {
        before = [];
        completion = form.alone;
        more = form.alone_more;
        whole = err_same r (opening ∷ given) left refl h;
        fits = form.alone_fits zero;
        completed = form.alone_spelled;
        same = λ other f. refl;
      }
  enclosed-fault (suc room) i given left h =
      let go : Expression × List Symbol → Read Expression = λ e. closed is_closing (build e.0) e.1 in
      elim (bind_err (readers room 11 given) go left h) [
        | inl g ↦
            let f = (i 11 (omega arith)).fault given left g in
            record {
              before = opening ∷ f.before;
              completion = build f.completion;
              more = f.more ++ closing ∷ [];
              whole = ap (λ y. opening ∷ y) f.whole;
              fits = (omega (arith, form.level_is f.completion), form.outward (suc room) f.completion f.fits.1);
              completed = form.spelled f.completion ∙ ap (λ y. front ++ (opening ∷ y)) (ap (λ y. y ++ closing ∷ []) f.completed ∙ append_assoc f.before f.more (closing ∷ []));
              same = λ other e. then_err (readers room 11 (f.before ++ other)) other go (f.same other e);
            }
        | inr g ↦
            let inner = (i 11 (omega arith)).found given g.0.0 g.0.1 g.1 in
            let last = closed_err (build g.0.0) g.0.1 left g.2 in
            record {
              before = opening ∷ expression_symbols g.0.0;
              completion = build g.0.0;
              more = closing ∷ [];
              whole = ap (λ y. opening ∷ y) (inner.whole ∙ ap (λ y. expression_symbols g.0.0 ++ y) last.0);
              fits = (omega (arith, form.level_is g.0.0), form.outward (suc room) g.0.0 inner.fits.1);
              completed = form.spelled g.0.0;
              same = λ other e.
                  then_ok (readers room 11 (expression_symbols g.0.0 ++ other)) g.0.0 other go ((i 11 (omega arith)).complete g.0.0 other inner.fits (stops-same 11 [] left other e (subst (λ x. stops 11 x ≡ true) last.0 inner.stopped)))
                  ∙ last.1 other e;
            }
      ]
