-- A level of prefixes over the next tighter one.
use Rattle.std.proofs.Common.{◌≡◌, ◌≢◌, ℕ, suc, true, List, [], ◌∷◌, ◌++◌, refl, sym, ◌∙◌, ap, subst, arith, inl, inr}
use Rattle.std.proofs.lemmas.Bool.{lt-ltb, ltb-true}
use Rattle.std.proofs.lemmas.Bool.Decides.{eqb_tells}
use Rattle.std.specs.Prelude.{Option, Some, None, Ok, Err}
use Rattle.kern_lexer.specs.Symbols.{Symbol}
use Rattle.kern_syntax.specs.Levels.{level_of}
use Rattle.kern_syntax.specs.Grammatical.{PartsFit, Fits}
use Rattle.kern_syntax.specs.Tree.{Expression}
use Rattle.kern_grammar.specs.Expressions.{expression_symbols}
use Rattle.kern_grammar.specs.Operators.{stops, stops_at, continues_at}
use Rattle.kern_grammar.specs.Reading.{choose, Reader, Inside, operand, first_form, prefixed, inside_of}
use Rattle.kern_grammar.proofs.Phrased.{SameFirst, FaultOf, FoundBy}
use Rattle.kern_grammar.proofs.PrefixReads.{ReadsInside, IsPrefixForm, prefix-complete, prefix-found, prefix-fault}
use Rattle.kern_grammar.proofs.RowReads.{ReadsLevel}

-- an expression that is a prefix and its operand
pub record IsPrefixed (form_at : Symbol → Option (Expression → Expression)) (e : Expression) : Type 0 where
  pub symbol : Symbol
  pub build : Expression → Expression
  pub inner : Expression
  pub form : form_at symbol ≡ Some build
  pub is : e ≡ build inner

-- what holds of the prefixes of a level, which is suc level
pub record ArePrefixes (level : ℕ) (form_at : Symbol → Option (Expression → Expression)) : Type 0 where
  pub forms : (s : Symbol) (build : Expression → Expression) → form_at s ≡ Some build → IsPrefixForm (suc level) s build
  pub own : (e : Expression) → level_of e ≡ suc level → IsPrefixed form_at e
  pub others : (room : ℕ) (e : Expression) (rest : List Symbol) → Fits level room e → first_form form_at (expression_symbols e ++ rest) ≡ None
  pub gap : (s : Symbol) → continues_at s ≢ Some (suc level)

-- the first form depends on the first symbol alone
first_form-same : (form_at : Symbol → Option (Expression → Expression)) (before left other : List Symbol) → SameFirst left other → first_form form_at (before ++ left) ≡ None → first_form form_at (before ++ other) ≡ None
first_form-same form_at [] (s ∷ a) (t ∷ b) e h = subst (λ x. form_at x ≡ None) e h
first_form-same form_at [] [] b e h = absurd e
first_form-same form_at [] (s ∷ a) [] e h = absurd e
first_form-same form_at (x ∷ before) left other e h = h

prefixed-some : (form_at : Symbol → Option (Expression → Expression)) (inside : Inside) (level : ℕ) (tighter : Reader) (symbols : List Symbol) (build : Expression → Expression) → first_form form_at symbols ≡ Some build → prefixed form_at inside level tighter symbols ≡ operand inside level build symbols
prefixed-some form_at inside level tighter symbols build h = ap (λ o. choose o (tighter symbols) (λ build. operand inside level build symbols)) h

prefixed-none : (form_at : Symbol → Option (Expression → Expression)) (inside : Inside) (level : ℕ) (tighter : Reader) (symbols : List Symbol) → first_form form_at symbols ≡ None → prefixed form_at inside level tighter symbols ≡ tighter symbols
prefixed-none form_at inside level tighter symbols h = ap (λ o. choose o (tighter symbols) (λ build. operand inside level build symbols)) h

-- no symbol goes on at this very level
stops_at-gap : (level : ℕ) (s : Symbol) (o : Option ℕ) → continues_at s ≡ o → continues_at s ≢ Some (suc level) → stops_at level o ≡ true → stops_at (suc level) o ≡ true
stops_at-gap level s None e g h = refl
stops_at-gap level s (Some c) e g h =
    let other : c ≢ suc level = λ same. g (e ∙ ap (λ x. Some x) same) in
    lt-ltb (suc level) c (omega (arith, ltb-true level c h, other))

stops-gap : (level : ℕ) (symbols : List Symbol) → ((s : Symbol) → continues_at s ≢ Some (suc level)) → stops level symbols ≡ true → stops (suc level) symbols ≡ true
stops-gap level [] g h = refl
stops-gap level (s ∷ rest) g h = stops_at-gap level s (continues_at s) refl (g s) h

stops_at-lower : (level : ℕ) (o : Option ℕ) → stops_at (suc level) o ≡ true → stops_at level o ≡ true
stops_at-lower level None h = refl
stops_at-lower level (Some c) h = lt-ltb level c (omega (arith, ltb-true (suc level) c h))

stops-lower : (level : ℕ) (symbols : List Symbol) → stops (suc level) symbols ≡ true → stops level symbols ≡ true
stops-lower level [] h = refl
stops-lower level (s ∷ rest) h = stops_at-lower level (continues_at s) h

module _ (level : ℕ) (form_at : Symbol → Option (Expression → Expression)) (p : ArePrefixes level form_at) (room : ℕ) (i : ReadsInside room) (tighter : Reader) (t : ReadsLevel level room tighter) where
  abbrev reader : Reader
  reader = prefixed form_at (inside_of room) (suc level) tighter

  reads_prefix : (s : Symbol) (build : Expression → Expression) → form_at s ≡ Some build → (given : List Symbol) → reader (s ∷ given) ≡ operand (inside_of room) (suc level) build (s ∷ given)
  reads_prefix s build f given = prefixed-some form_at (inside_of room) (suc level) tighter (s ∷ given) build f

  complete_own : (e : Expression) (rest : List Symbol) → PartsFit room e → stops (suc level) rest ≡ true → IsPrefixed form_at e → reader (expression_symbols e ++ rest) ≡ Ok (e, rest)
  complete_own e rest f s own =
      let form = p.forms own.symbol own.build own.form in
      ap (λ x. reader (expression_symbols x ++ rest)) own.is
      ∙ ap (λ x. reader (x ++ rest)) (form.spelled own.inner)
      ∙ reads_prefix own.symbol own.build own.form (expression_symbols own.inner ++ rest)
      ∙ prefix-complete (suc level) own.symbol own.build form room i own.inner rest (subst (PartsFit room) own.is f) s
      ∙ ap (λ x. Ok (x, rest)) (sym own.is)

  complete_other : (e : Expression) (rest : List Symbol) → Fits level room e → stops (suc level) rest ≡ true → reader (expression_symbols e ++ rest) ≡ Ok (e, rest)
  complete_other e rest f s =
      prefixed-none form_at (inside_of room) (suc level) tighter (expression_symbols e ++ rest) (p.others room e rest f)
      ∙ t.complete e rest f (stops-lower level rest s)

  prefixed-complete : (e : Expression) (rest : List Symbol) → Fits (suc level) room e → stops (suc level) rest ≡ true → reader (expression_symbols e ++ rest) ≡ Ok (e, rest)
  prefixed-complete e rest f s = elim (eqb_tells (level_of e) (suc level)) [
    | inl same ↦ complete_own e rest f.1 s (p.own e same.1)
    | inr other ↦ complete_other e rest (omega (arith, f.0, other.1), f.1) s
  ]

  found_by : (given : List Symbol) (o : Option (Expression → Expression)) → first_form form_at given ≡ o → (x : Expression) (rest : List Symbol) → reader given ≡ Ok (x, rest) → FoundBy expression_symbols (Fits (suc level) room) (stops (suc level)) given x rest
  found_by given None o x rest h =
      let f = t.found given x rest (sym (prefixed-none form_at (inside_of room) (suc level) tighter given o) ∙ h) in
      record { whole = f.whole; fits = (omega (arith, f.fits.0), f.fits.1); stopped = stops-gap level rest p.gap f.stopped }
  found_by [] (Some build) o x rest h = absurd cc
  found_by (s ∷ given) (Some build) o x rest h =
      prefix-found (suc level) s build (p.forms s build o) room i given x rest (sym (reads_prefix s build o given) ∙ h)

  fault_by : (given : List Symbol) (o : Option (Expression → Expression)) → first_form form_at given ≡ o → (left : List Symbol) → reader given ≡ Err left → FaultOf expression_symbols (Fits (suc level) room) reader given left
  fault_by given None o left h =
      let f = t.fault given left (sym (prefixed-none form_at (inside_of room) (suc level) tighter given o) ∙ h) in
      record {
        before = f.before;
        completion = f.completion;
        more = f.more;
        whole = f.whole;
        fits = (omega (arith, f.fits.0), f.fits.1);
        completed = f.completed;
        same = λ other e. prefixed-none form_at (inside_of room) (suc level) tighter (f.before ++ other) (first_form-same form_at f.before left other e (subst (λ x. first_form form_at x ≡ None) f.whole o)) ∙ f.same other e;
      }
  fault_by [] (Some build) o left h = absurd cc
  fault_by (s ∷ given) (Some build) o left h =
      prefix-fault (suc level) s build (p.forms s build o) room i reader (reads_prefix s build o) given left (sym (reads_prefix s build o given) ∙ h)

  pub prefixed-reads : ReadsLevel (suc level) room reader
  prefixed-reads = record {
    complete = prefixed-complete;
    found = λ given x rest h. found_by given (first_form form_at given) refl x rest h;
    fault = λ given left h. fault_by given (first_form form_at given) refl left h;
  }
