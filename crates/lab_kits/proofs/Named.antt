-- A typed program names each of its functions once.
use Rattle.std.proofs.Common.{◌≡◌, ◌↔◌, ℕ, zero, suc, ◌<◌, List, [], ◌∷◌, ◌++◌, map, length, get_or, Option, Some, IsTrue, refl, sym, ap, subst, ◌∙◌, arith}
use Rattle.std.specs.Prelude.{Bool, true, false, ◌||◌, nat_le, bytes_eq, slice_get, option_map, is_some, IsSome, IfSome, unwrap_or, ℤ}
use Rattle.std.specs.List.{position}
use Rattle.std.proofs.lemmas.Bool.{false≢true}
use Rattle.std.proofs.lemmas.List.{length-map}
use Rattle.std.proofs.lemmas.List.Quantifiers.{position-Some}
use Rattle.std.proofs.lemmas.Option.{slice_get-get_or, slice_get-map, slice_get_within}
use Rattle.std.proofs.lemmas.Slice.Eq.{bytes_eq-Decides}
use Rattle.kern_syntax.specs.declared.program.Function.{Function}
use Rattle.kern_syntax.specs.declared.program.Parameter.{Parameter}
use Rattle.kern_syntax.specs.Tree.{Bytes, FunctionTree, ProgramTree}
use Rattle.kern_syntax.specs.TreeOf.{function_of, parameter_of, tree_of}
use Rattle.kern_arguments.specs.Fitting.{ArgumentsFit}
use Rattle.kern_calls.specs.Types.{function_named}
use Rattle.kern_expression_types.specs.Before.{is_reserved}
use Rattle.kern_expression_types.specs.Verdicts.{Verdict, well, fault, ◌>>=◌, refuse_if, is_well}
use Rattle.kern_expression_types.specs.declared.fault.TypeKind.TheVariants as K
use Rattle.kern_types.specs.Plain.{with_plain}
use Rattle.kern_types.specs.Programs.{IsTyped, body_functions, body_verdict, function_verdict, functions_verdict, most_functions, place_of_function, program_verdict}
use Rattle.code_suited.proofs.Inverted.{inverted, not_refused}
use Rattle.kern_names.proofs.Positions.{position_behind, position_first}
use Rattle.lab_kits.specs.Calls.{HasCallOf, HasFunction}

abbrev has_name : Bytes → FunctionTree → Bool
has_name name f = bytes_eq name f.name

well-is : (v : Verdict (Unit {0})) → IsTrue (is_well v) → v ≡ well tt
well-is (well a) h = refl
well-is (fault line kind) h = absurd (false≢true h)

neither : (a b : Bool) → (a || b) ≡ false → a ≡ false
neither true b h = absurd (false≢true (sym h))
neither false b h = refl

-- where no function has a name, none of those before has it, and not the last
none-before : (name : Bytes) (earlier : ProgramTree) (f : FunctionTree) → is_some (function_named (earlier ++ f ∷ []) name) ≡ false → (is_some (function_named earlier name) ≡ false) × (bytes_eq name f.name ≡ false)
none-before name [] f none = (refl, by (bytes_eq name f.name) refl)
  where
    by : (b : Bool) → bytes_eq name f.name ≡ b → bytes_eq name f.name ≡ false
    by true is = absurd (false≢true (sym (rw is at none)))
    by false is = is
none-before name (g ∷ earlier) f none = by (bytes_eq name g.name) refl (none-before name earlier f)
  where
    by : (b : Bool) → bytes_eq name g.name ≡ b → (is_some (function_named (earlier ++ f ∷ []) name) ≡ false → (is_some (function_named earlier name) ≡ false) × (bytes_eq name f.name ≡ false))
        → (is_some (function_named (g ∷ earlier) name) ≡ false) × (bytes_eq name f.name ≡ false)
    by true is rest = absurd (false≢true (sym (rw is at none)))
    by false is rest = let more = rest (rw is at none) in (rw is more.0, more.1)

module _ (program : ProgramTree) where
  -- a function's own verdict, and that of those behind it
  split : (earlier : ProgramTree) (plain : List Bytes) (f : FunctionTree) (rest : ProgramTree) → functions_verdict program earlier plain (f ∷ rest) ≡ well tt → (is_some (function_named earlier f.name) ≡ false) × (functions_verdict program (earlier ++ f ∷ []) (with_plain plain f) rest ≡ well tt)
  split earlier plain f rest e =
      let s = inverted (function_verdict program earlier plain f) (λ z. functions_verdict program (earlier ++ f ∷ []) (with_plain plain f) rest) tt e in
      let a = inverted (refuse_if (is_some (function_named earlier f.name) || is_reserved f.name) f.line K.Name) (λ z. refuse_if (nat_le most_functions (length earlier)) f.line K.Size >>= λ y. body_verdict (body_functions program earlier plain f) f) s.0 s.1 in
      (neither (is_some (function_named earlier f.name)) (is_reserved f.name) (not_refused (is_some (function_named earlier f.name) || is_reserved f.name) f.line K.Name a.0 a.1), s.2)

  -- where a function stands behind others, none of those has its name, and it is the first one that has it
  stands-first : (name : Bytes) (f : FunctionTree) → f.name ≡ name → (earlier : ProgramTree) (plain : List Bytes) (rest : ProgramTree) (k : ℕ) → functions_verdict program earlier plain rest ≡ well tt → slice_get rest k ≡ Some f
      → (is_some (function_named earlier name) ≡ false) × (position (has_name name) rest ≡ Some k)
  stands-first name f named earlier plain [] k e at = absurd (false≢true (ap is_some at))
  stands-first name f named earlier plain (h ∷ rest) zero e at =
      let own : h ≡ f = ap (λ o. unwrap_or o f) at in
      let same : h.name ≡ name = ap (λ (g : FunctionTree). g.name) own ∙ named in (
        subst (λ x. is_some (function_named earlier x) ≡ false) same (split earlier plain h rest e).0,
        position_first (has_name name) h rest ((bytes_eq-Decides name h.name).1 (sym same)),
      )
  stands-first name f named earlier plain (h ∷ rest) (suc k) e at =
      let next = stands-first name f named (earlier ++ h ∷ []) (with_plain plain h) rest k (split earlier plain h rest e).1 at in
      let before = none-before name earlier h next.0 in
      (before.0, position_behind (has_name name) h rest before.1 ∙ ap (option_map suc) next.1)

-- the function that a call is of stands at the place of its name
pub place-is : (program : ProgramTree) (name : Bytes) (args : List ℤ) (k : ℕ) → IsTyped program → HasFunction program name args k → place_of_function program name ≡ Some k
place-is program name args k typed has =
    (stands-first program name has.f has.named [] [] program k (well-is (program_verdict program) typed) has.found).1

-- at the place of a name stands a function of this name
pub at-place : (program : ProgramTree) (name : Bytes) (k : ℕ) → place_of_function program name ≡ Some k → (f : FunctionTree) × (slice_get program k ≡ Some f) × (f.name ≡ name)
at-place [] name k e = absurd (false≢true (ap is_some e))
at-place (d ∷ program) name k e =
    let p = position-Some (has_name name) (d ∷ program) k d e in
    (get_or (d ∷ program) k d, slice_get-get_or (d ∷ program) k d p.0, sym ((bytes_eq-Decides name (get_or (d ∷ program) k d).name).0 p.1))

-- what is told of the place of a name
module _ (program : ProgramTree) (name : Bytes) (told : Option ℕ) (is : told ≡ place_of_function program name) (typed : IsTyped program) (args : List ℤ) (has : HasCallOf program name args) where
  pub place-there : IsSome told
  place-there = ap is_some (is ∙ place-is program name args has.0 typed has.1)

  pub place-takes : IfSome told (λ function. HasFunction program name args function)
  place-takes =
      subst (λ (o : Option ℕ). IfSome o (λ function. HasFunction program name args function)) (sym (is ∙ place-is program name args has.0 typed has.1)) has.1

-- ---- the function at a place, in the code's own types

module _ (program functions : List Function) (same : functions ≡ program) (name : Bytes) (k : ℕ) (at : place_of_function (tree_of program) name ≡ Some k) where
  there : (f : FunctionTree) × (slice_get (tree_of functions) k ≡ Some f) × (f.name ≡ name)
  there = at-place (tree_of functions) name k (ap (λ (fs : List Function). place_of_function (tree_of fs) name) same ∙ at)

  pub place-within : k < length functions
  place-within =
      let within = slice_get_within (tree_of functions) k there.0 there.1 in
      omega (arith, within, length-map functions function_of)

  module _ (default : Function) where
    one : there.0 ≡ function_of (get_or functions k default)
    one =
        ap (λ o. unwrap_or o there.0)
        (sym there.1 ∙ slice_get-map function_of functions k ∙ ap (option_map function_of) (slice_get-get_or functions k default place-within))

    -- arguments fit it where they fit the parameters that stand there
    pub called-there : (args : List ℤ) (parameters : List Parameter) (b : Bool) → parameters ≡ (get_or functions k default).parameters
        → (HasCallOf (tree_of program) name args → HasFunction (tree_of program) name args k)
        → (IsTrue b ↔ ArgumentsFit (map parameter_of parameters) args)
        → IsTrue b ↔ HasCallOf (tree_of program) name args
    called-there args parameters b own takes fits = (
      λ so. (
        k,
        record {
          f = there.0;
          found = subst (λ (fs : List Function). slice_get (tree_of fs) k ≡ Some there.0) same there.1;
          named = there.2;
          fit = subst (λ (f : FunctionTree). ArgumentsFit f.parameters args) (sym one) (subst (λ (ps : List Parameter). ArgumentsFit (map parameter_of ps) args) own (fits.0 so));
        },
      ),
      λ has.
          let h = takes has in
          let found : slice_get (tree_of program) k ≡ Some there.0 = subst (λ (fs : List Function). slice_get (tree_of fs) k ≡ Some there.0) same there.1 in
          let f-is : h.f ≡ function_of (get_or functions k default) = ap (λ o. unwrap_or o h.f) (sym h.found ∙ found) ∙ one in
          fits.1
          (subst (λ (ps : List Parameter). ArgumentsFit (map parameter_of ps) args) (sym own)
          (subst (λ (f : FunctionTree). ArgumentsFit f.parameters args) f-is h.fit)),
    )
