-- What the verdict finds of an expression gives the compiler what it asks for.
use Rattle.std.proofs.Common.{◌≡◌, ℕ, ◌+◌, ◌<◌, ◌^◌, List, [], ◌∷◌, length, Option, Some, None, refl, sym, ◌∙◌, ap, subst, arith}
use Rattle.std.specs.Prelude.{Bool, true, false, not, ◌&&◌, ◌||◌, ◌==◌, is_some, unwrap_or, option_and_then, if◌then◌else◌}
use Rattle.std.proofs.lemmas.Bool.{false≢true}
use Rattle.kern_syntax.specs.declared.program.DeclaredType.{DeclaredType}
use Rattle.kern_syntax.specs.Spellable.{IsSpellable, AreSpellable}
use Rattle.kern_syntax.specs.Tree.{Bytes, Expression, integer, true_literal, false_literal, variable, element, group, unary, binary, compare, negation, conjunction, disjunction, call, method, Arguments, no_more, value_then, text_then, FunctionTree}
use Rattle.kern_calls.specs.declared.calls.Builtin.{Builtin}
use Rattle.kern_calls.specs.declared.calls.Builtin.TheVariants.{NowMu, AtMu, DelayMu, SetDataset, Len, ToInt32, ToInt64}
use Rattle.kern_calls.specs.declared.calls.Operation.{Operation}
use Rattle.kern_calls.specs.declared.types.ValueType.{ValueType}
use Rattle.kern_calls.specs.declared.types.ValueType.TheVariants as V
use Rattle.kern_calls.specs.declared.wanted.Wanted.{Wanted}
use Rattle.kern_calls.specs.declared.wanted.Wanted.TheVariants as W
use Rattle.kern_calls.specs.Calls.{look_up, builtin_named, builtin_result, builtin_takes, builtin_is_live, object_named, method_of, method_named, operation_result, operation_takes, is_live}
use Rattle.kern_calls.specs.Types.{Names, Scope, declared_type, result_type, literal_type, wider_type, binary_type, function_named, type_of}
use Rattle.kern_expression_types.specs.declared.place.Given.{Given}
use Rattle.kern_expression_types.specs.declared.place.Given.TheVariants as G
use Rattle.kern_expression_types.specs.declared.place.Place.{Place}
use Rattle.kern_expression_types.specs.declared.fault.TypeKind.TheVariants as K
use Rattle.kern_expression_types.specs.Before.{Functions, is_in}
use Rattle.kern_expression_types.specs.Verdicts.{Verdict, well, ◌>>=◌, found_or}
use Rattle.kern_expression_types.specs.Fits.{misfit, wanted_of, given_result, fit, fit_all, as_condition, as_integer, as_compared}
use Rattle.kern_expression_types.specs.Expressions.{expression_verdict, arguments_verdict, call_verdict, named_verdict, method_verdict}
use Rattle.timeline_sem.specs.Expressions.{array_in, if_array}
use Rattle.code_forms.specs.Setting as C
use Rattle.code_forms.specs.ExpressionCode.{numbers_in}
use Rattle.code_forms.specs.Operations.{call_has_value, method_has_value, takes_numbers, array_argument}
use Rattle.code_forms.specs.Suited.{is_scalar, IsSuited, AreSuited, IsSuitedAlone, IsArrayName, IsAnArray, HasWhatItTakes, MethodHasWhatItTakes, builtin_takes_text, has_text, call_is_live, method_is_live, IsStill}
use Rattle.code_suited.proofs.Inverted.{same_found, inverted, not_refused, none_refused, was_there, same_type, is_text, is_array, integer_given, condition_given, fitting_scalar, wants_text, text_wanted, value_wanted, no_array, array_wanted}
use Rattle.code_suited.proofs.Wanted.{literal_scalar, binary_scalar, not_array, IsScalarGiven, compared_given, result_typed, result_there, result_scalar, result_no_text, count, wants, NoArrayWanted, NoArrays, parameters_no_array, parameters_count, fits_no_array, builtin_count, operation_count, operation_wants, operation_no_array, equal_lengths}

module _ (functions : Functions) (place : Place) (ns : Names) (cs : C.Setting) (plain : List Bytes) (callable : (name : Bytes) (f : FunctionTree) → function_named functions.callable name ≡ Some f → function_named cs.scope.program name ≡ Some f) (plainly : (name : Bytes) (f : FunctionTree) → function_named functions.callable name ≡ Some f → is_in functions.plain f.name ≡ true → is_in plain name ≡ true) (kept : (x : Bytes) (t : ValueType) → look_up ns x ≡ Some t → look_up cs.scope.names x ≡ Some t) (small : (x : Bytes) (n : ℕ) → look_up cs.scope.names x ≡ Some (V.Array n) → n < 2 ^ 63) where
  -- the names so far
  abbrev pub so_far : Scope
  so_far = record { program = cs.scope.program; names = ns }

  abbrev recording : Bool
  recording = place.in_record

  -- what is found of an expression: its type, what it has, and that an array is a name's
  pub record Found (e : Expression) (g : Given) : Type 0 where
    pub typed : (t : ValueType) → g ≡ G.Typed t → type_of so_far e ≡ t
    pub suited : (t : ValueType) → g ≡ G.Typed t → is_scalar t ≡ true → IsSuited cs plain recording e
    pub array : (n : ℕ) → g ≡ G.Typed (V.Array n) → (x : Bytes) × (array_in cs.scope e ≡ Some x) × (look_up ns x ≡ Some (V.Array n))
    pub alone : is_array g ≡ false → IsSuitedAlone cs plain recording e
    pub no_text : is_text g ≡ false

  -- of arguments, one by one
  abbrev pub FoundAll : Arguments → List Given → Type 0
  FoundAll no_more gs = gs ≡ []
  FoundAll (value_then e rest) gs = (g : Given) × (others : List Given) × (gs ≡ g ∷ others) × Found e g × FoundAll rest others
  FoundAll (text_then text rest) gs = (others : List Given) × (gs ≡ G.Text ∷ others) × FoundAll rest others

  -- an expression that gives one number
  scalar_found : (e : Expression) (t : ValueType) → is_scalar t ≡ true → type_of so_far e ≡ t → IsSuited cs plain recording e → (IsSuited cs plain recording e → IsSuitedAlone cs plain recording e) → Found e (G.Typed t)
  scalar_found e t s ty r up =
      record {
        typed = λ u q. ty ∙ same_type q;
        suited = λ u q k. r;
        array = λ n q. absurd (false≢true (sym (ap is_scalar (same_type q)) ∙ s));
        alone = λ a. up r;
        no_text = refl;
      }

  -- an operand that is a number
  operand : (e : Expression) (g : Given) → Found e g → IsScalarGiven g → IsSuited cs plain recording e
  operand e g f s = f.suited s.0 s.1 s.2

  -- arguments that fit: as many numbers, a text where one is wanted, and suited where none is an array
  fits : (line : ℕ) (ws : List Wanted) (args : Arguments) (gs : List Given) (u : Unit {0}) → FoundAll args gs → length gs ≡ length ws → fit_all line ws gs ≡ well u → (numbers_in args ≡ count ws) × (wants ws ≡ true → has_text args ≡ true) × (NoArrays gs → AreSuited cs plain recording args)
  fits line [] no_more gs u f long e = (refl, (λ w. w), λ n. tt)
  fits line (w ∷ ws) no_more gs u f long e = absurd (omega (arith, long, ap length f))
  fits line [] (value_then x rest) gs u f long e = absurd (omega (arith, long, ap length f.2))
  fits line [] (text_then text rest) gs u f long e = absurd (omega (arith, long, ap length f.1))
  fits line (w ∷ ws) (value_then x rest) gs u f long e =
      let g = f.0 in
      let i = inverted (fit line w g) _ u (subst (λ l. fit_all line (w ∷ ws) l ≡ well u) f.2 e) in
      let fitting = none_refused (misfit w g) line i.0 i.1 in
      let isnt = value_wanted w g fitting f.3.no_text in
      let r = fits line ws rest f.1 u f.4 (omega (arith, long, ap length f.2)) i.2 in
      let one : (if wants_text w then 0 else 1) + count ws ≡ 1 + count ws = ap (λ b. (if b then 0 else 1) + count ws) isnt in
      (omega (arith, r.0, one), (λ t. r.1 (subst (λ b. (b || wants ws) ≡ true) isnt t)), λ n. let n' = subst NoArrays f.2 n in let s = fitting_scalar w g fitting f.3.no_text n'.0 in (f.3.suited s.0 s.1 s.2, r.2 n'.1))
  fits line (w ∷ ws) (text_then text rest) gs u f long e =
      let i = inverted (fit line w G.Text) _ u (subst (λ l. fit_all line (w ∷ ws) l ≡ well u) f.1 e) in
      let is = text_wanted w (none_refused (misfit w G.Text) line i.0 i.1) in
      let r = fits line ws rest f.0 u f.2 (omega (arith, long, ap length f.1)) i.2 in
      let none : (if wants_text w then 0 else 1) + count ws ≡ 0 + count ws = ap (λ b. (if b then 0 else 1) + count ws) is in
      (omega (arith, r.0, none), (λ t. refl), λ n. r.2 (subst NoArrays f.1 n).1)

  -- the parts of a call that has no fault
  called : (ws : List Wanted) (result : Option DeclaredType) (live : Bool) (gs : List Given) (g : Given) → call_verdict place ws result live gs ≡ well g → (length gs ≡ length ws) × ((u : Unit {0}) × (fit_all place.line ws gs ≡ well u)) × ((place.in_record && live) ≡ false) × (given_result result ≡ g)
  called ws result live gs g e =
      let a = inverted _ _ g e in
      let b = inverted _ _ g a.2 in
      let c = inverted _ _ g b.2 in
      let same : not (length gs == length ws) ≡ false = not_refused _ _ _ a.0 a.1 in
      (equal_lengths (length gs) (length ws) same, (b.0, b.1), not_refused _ _ _ c.0 c.1, same_found c.2)

  -- no live call where a recording may be open
  still : (d live : Bool) → (d && live) ≡ false → IsStill d live
  still true live e q = e
  still false live e q = absurd (false≢true q)

  not_live : (d live : Bool) → (d && not live) ≡ false → d ≡ true → live ≡ true
  not_live true true e q = refl
  not_live true false e q = absurd (false≢true (sym e))
  not_live false live e q = absurd (false≢true q)

  -- an array argument is a name's
  named_array : (e : Expression) (x : Bytes) → array_in cs.scope e ≡ Some x → (n : ℕ) × IsArrayName cs x n
  named_array (variable y) x e = by_type (look_up cs.scope.names y) refl e
    where
      by_type : (o : Option ValueType) → look_up cs.scope.names y ≡ o → if_array y o ≡ Some x → (n : ℕ) × IsArrayName cs x n
      by_type None q e' = absurd (false≢true (ap is_some e'))
      by_type (Some V.Int32) q e' = absurd (false≢true (ap is_some e'))
      by_type (Some V.Int64) q e' = absurd (false≢true (ap is_some e'))
      by_type (Some V.Bool) q e' = absurd (false≢true (ap is_some e'))
      by_type (Some (V.Array n)) q e' = (n, subst (λ z. look_up cs.scope.names z ≡ Some (V.Array n)) (ap (λ o. unwrap_or o y) e') q)
  named_array (group e) x q = named_array e x q
  named_array (integer n) x e = absurd (false≢true (ap is_some e))
  named_array true_literal x e = absurd (false≢true (ap is_some e))
  named_array false_literal x e = absurd (false≢true (ap is_some e))
  named_array (element a i) x e = absurd (false≢true (ap is_some e))
  named_array (unary op a) x e = absurd (false≢true (ap is_some e))
  named_array (binary op a b) x e = absurd (false≢true (ap is_some e))
  named_array (compare op a b) x e = absurd (false≢true (ap is_some e))
  named_array (negation a) x e = absurd (false≢true (ap is_some e))
  named_array (conjunction a b) x e = absurd (false≢true (ap is_some e))
  named_array (disjunction a b) x e = absurd (false≢true (ap is_some e))
  named_array (call f args) x e = absurd (false≢true (ap is_some e))
  named_array (method o m args) x e = absurd (false≢true (ap is_some e))

  argument_array : (args : Arguments) (x : Bytes) → array_argument cs args ≡ Some x → (n : ℕ) × IsArrayName cs x n
  argument_array no_more x e = absurd (false≢true (ap is_some e))
  argument_array (text_then text rest) x e = argument_array rest x e
  argument_array (value_then a rest) x e = named_array a x e

  is_an_array : (args : Arguments) (o : Option Bytes) → array_argument cs args ≡ o → is_some o ≡ true → IsAnArray cs o
  is_an_array args None e s = absurd (false≢true s)
  is_an_array args (Some x) e s = let a = argument_array args x e in (a.0, a.1, small x a.0 a.1)

  -- where the only value is no array, no argument is one
  only_texts : (args : Arguments) (gs : List Given) → FoundAll args gs → numbers_in args ≡ 0 → NoArrays gs
  only_texts no_more gs f e = subst NoArrays (sym f) tt
  only_texts (text_then text rest) gs f e = subst NoArrays (sym f.1) (refl, only_texts rest f.0 f.2 e)
  only_texts (value_then x rest) gs f e = absurd (omega (arith, e))

  is_no_array : (x : Expression) (g : Given) → Found x g → array_in cs.scope x ≡ None → is_array g ≡ false
  is_no_array x (G.Typed (V.Array n)) f e = absurd (false≢true (sym (ap is_some e) ∙ ap is_some (f.array n refl).1))
  is_no_array x (G.Typed V.Int32) f e = refl
  is_no_array x (G.Typed V.Int64) f e = refl
  is_no_array x (G.Typed V.Bool) f e = refl
  is_no_array x G.Text f e = refl
  is_no_array x G.Nothing f e = refl

  none_array : (args : Arguments) (gs : List Given) → FoundAll args gs → numbers_in args ≡ 1 → array_argument cs args ≡ None → NoArrays gs
  none_array no_more gs f one e = absurd (omega (arith, one))
  none_array (text_then text rest) gs f one e = subst NoArrays (sym f.1) (refl, none_array rest f.0 f.2 one e)
  none_array (value_then x rest) gs f one e = subst NoArrays (sym f.2) (is_no_array x f.0 f.3 e, only_texts rest f.1 f.4 (omega (arith, one)))

  -- the array that `len` takes
  the_array : (line : ℕ) (args : Arguments) (gs : List Given) (u : Unit {0}) → FoundAll args gs → length gs ≡ 1 → fit_all line (W.Array ∷ []) gs ≡ well u → is_some (array_argument cs args) ≡ true
  the_array line no_more gs u f one e = absurd (omega (arith, one, ap length f))
  the_array line (text_then text rest) gs u f one e =
      let i = inverted (fit line W.Array G.Text) (λ a. fit_all line [] f.0) u (subst (λ l. fit_all line (W.Array ∷ []) l ≡ well u) f.1 e) in
      absurd (false≢true (text_wanted W.Array (none_refused (misfit W.Array G.Text) line i.0 i.1)))
  the_array line (value_then x rest) gs u f one e =
      let i = inverted (fit line W.Array f.0) (λ a. fit_all line [] f.1) u (subst (λ l. fit_all line (W.Array ∷ []) l ≡ well u) f.2 e) in
      let a = array_wanted f.0 (none_refused (misfit W.Array f.0) line i.0 i.1) in
      ap is_some (f.3.array a.0 a.1).1

  -- a function of the language that takes numbers alone always takes them
  abbrev takes_lists : Builtin → Bool
  takes_lists SetDataset = true
  takes_lists Len = true
  takes_lists _ = false

  always : (a : Option Bytes) (b : Builtin) → takes_lists b ≡ false → takes_numbers a (Some b) ≡ true
  always None NowMu e = refl
  always None AtMu e = refl
  always None DelayMu e = refl
  always None ToInt32 e = refl
  always None ToInt64 e = refl
  always None SetDataset e = absurd (false≢true (sym e))
  always None Len e = absurd (false≢true (sym e))
  always (Some x) NowMu e = refl
  always (Some x) AtMu e = refl
  always (Some x) DelayMu e = refl
  always (Some x) ToInt32 e = refl
  always (Some x) ToInt64 e = refl
  always (Some x) SetDataset e = absurd (false≢true (sym e))
  always (Some x) Len e = absurd (false≢true (sym e))

  -- what a call of a function of the language has
  abbrev Has : Bytes → Arguments → Option Builtin → Type 0
  Has f args b =
      HasWhatItTakes cs plain recording f args (array_argument cs args) b
      × (takes_numbers (array_argument cs args) b ≡ true → AreSuited cs plain recording args)

  module _ (f : Bytes) (args : Arguments) (gs : List Given) (all : FoundAll args gs) (u : Unit {0}) where
    -- one that takes no array
    simple : (b : Builtin) → takes_lists b ≡ false → builtin_takes_text b ≡ false → NoArrayWanted (builtin_takes b) → length gs ≡ length (builtin_takes b) → fit_all place.line (builtin_takes b) gs ≡ well u → Has f args (Some b)
    simple b lists text none long e =
        let r = fits place.line (builtin_takes b) args gs u all long e in
        ((r.0 ∙ builtin_count b, (λ t. absurd (false≢true (sym text ∙ t))), (λ t. absurd (false≢true (sym t ∙ always (array_argument cs args) b lists)))), λ t. r.2 (fits_no_array place.line (builtin_takes b) gs u long none e))

    data_by : (o : Option Bytes) → array_argument cs args ≡ o → length gs ≡ 2 → fit_all place.line (builtin_takes SetDataset) gs ≡ well u → (takes_numbers o (Some SetDataset) ≡ false → IsAnArray cs o) × (takes_numbers o (Some SetDataset) ≡ true → AreSuited cs plain recording args)
    data_by None q long e =
        let r = fits place.line (builtin_takes SetDataset) args gs u all long e in
        ((λ t. absurd (false≢true (sym t))), λ t. r.2 (none_array args gs all r.0 q))
    data_by (Some x) q long e = ((λ t. is_an_array args (Some x) q refl), λ t. absurd (false≢true t))

    length_by : (o : Option Bytes) → array_argument cs args ≡ o → is_some o ≡ true → (takes_numbers o (Some Len) ≡ false → IsAnArray cs o) × (takes_numbers o (Some Len) ≡ true → AreSuited cs plain recording args)
    length_by None q s = absurd (false≢true s)
    length_by (Some x) q s = ((λ t. is_an_array args (Some x) q refl), λ t. absurd (false≢true t))

    builtin_has : (b : Builtin) → length gs ≡ length (builtin_takes b) → fit_all place.line (builtin_takes b) gs ≡ well u → Has f args (Some b)
    builtin_has NowMu long e = simple NowMu refl refl tt long e
    builtin_has AtMu long e = simple AtMu refl refl (refl, tt) long e
    builtin_has DelayMu long e = simple DelayMu refl refl (refl, tt) long e
    builtin_has ToInt32 long e = simple ToInt32 refl refl (refl, tt) long e
    builtin_has ToInt64 long e = simple ToInt64 refl refl (refl, tt) long e
    builtin_has SetDataset long e =
        let r = fits place.line (builtin_takes SetDataset) args gs u all long e in
        let d = data_by (array_argument cs args) refl long e in
        ((r.0, (λ t. r.1 refl), d.0), d.1)
    builtin_has Len long e =
        let r = fits place.line (builtin_takes Len) args gs u all long e in
        let d = length_by (array_argument cs args) refl (the_array place.line args gs u all long e) in
        ((r.0, (λ t. absurd (false≢true t)), d.0), d.1)

  -- a call that has what it takes, and gives what its result says
  called_found : (f : Bytes) (args : Arguments) (result : Option DeclaredType) → Has f args (builtin_named f) → IsStill recording (call_is_live (builtin_named f)) → ((t : ValueType) → result_type result ≡ t → type_of so_far (call f args) ≡ t) → (is_some result ≡ call_has_value cs f (builtin_named f)) → Found (call f args) (given_result result)
  called_found f args result has silent ty value =
      record {
        typed = λ t q. ty t (result_typed result t q);
        suited = λ t q s. (sym value ∙ result_there result t q, has.0, has.1, silent);
        array = λ n q. absurd (false≢true (result_scalar result (V.Array n) q));
        alone = λ a. (has.0, has.1, silent);
        no_text = result_no_text result;
      }

  named_found : (f : Bytes) (args : Arguments) (b : Option Builtin) → builtin_named f ≡ b → (gs : List Given) → FoundAll args gs → (g : Given) → named_verdict functions place f b gs ≡ well g → Found (call f args) g
  named_found f args (Some b) is gs all g e =
      let c = called (builtin_takes b) (builtin_result b) (builtin_is_live b) gs g e in
      let has = builtin_has f args gs all c.1.0 b c.0 c.1.1 in
      let has' = subst (λ o. Has f args o) (sym is) has in
      subst (Found (call f args)) c.3 (called_found f args (builtin_result b) has' (subst (λ o. IsStill recording (call_is_live o)) (sym is) (still recording (builtin_is_live b) c.2)) (λ t q. ap (λ o. Rattle.kern_calls.specs.Types.call_type cs.scope.program f o) is ∙ q) (sym (ap (λ o. call_has_value cs f o) is)))
  named_found f args None is gs all g e =
      let i = inverted _ _ g e in
      let fn = i.0 in
      let found = was_there _ _ _ fn i.1 in
      let ws = wanted_of fn.parameters in
      let live = not (is_in functions.plain fn.name) in
      let c = called ws fn.result live gs g i.2 in
      let r = fits place.line ws args gs c.1.0 all c.0 c.1.1 in
      let here = callable f fn found in
      let many : length fn.parameters ≡ numbers_in args = sym (r.0 ∙ parameters_count fn.parameters) in
      let may : recording ≡ true → is_in plain f ≡ true = λ q. plainly f fn found (not_live recording (is_in functions.plain fn.name) c.2 q) in
      let has : Has f args None = ((fn, here, many, may), λ t. r.2 (fits_no_array place.line ws gs c.1.0 c.0 (parameters_no_array fn.parameters) c.1.1)) in
      let has' = subst (λ o. Has f args o) (sym is) has in
      let result_here : option_and_then (λ h. h.result) (function_named cs.scope.program f) ≡ fn.result = ap (λ o. option_and_then (λ h. h.result) o) here in
      subst (Found (call f args)) c.3 (called_found f args fn.result has' (subst (λ o. IsStill recording (call_is_live o)) (sym is) (λ q. refl)) (λ t q. ap (λ o. Rattle.kern_calls.specs.Types.call_type cs.scope.program f o) is ∙ (ap result_type result_here ∙ q)) (sym (ap (λ o. call_has_value cs f o) is ∙ ap is_some result_here)))

  method_found : (o m : Bytes) (args : Arguments) (op : Operation) → method_named o m ≡ Some op → (gs : List Given) → FoundAll args gs → (g : Given) → call_verdict place (operation_takes op) (operation_result op) (is_live op) gs ≡ well g → Found (method o m args) g
  method_found o m args op is gs all g e =
      let c = called (operation_takes op) (operation_result op) (is_live op) gs g e in
      let r = fits place.line (operation_takes op) args gs c.1.0 all c.0 c.1.1 in
      let suit = r.2 (fits_no_array place.line (operation_takes op) gs c.1.0 c.0 (operation_no_array op) c.1.1) in
      let has : MethodHasWhatItTakes args (Some op) = (r.0 ∙ operation_count op, λ t. r.1 (operation_wants op t)) in
      let has' = subst (λ x. MethodHasWhatItTakes args x) (sym is) has in
      let silent = subst (λ x. IsStill recording (method_is_live x)) (sym is) (still recording (is_live op) c.2) in
      let result = operation_result op in
      let whole : Found (method o m args) (given_result result) =
      record {
        typed = λ t q. ap (λ x. result_type (option_and_then operation_result x)) is ∙ result_typed result t q;
        suited = λ t q s. (ap method_has_value is ∙ result_there result t q, has', suit, silent);
        array = λ n q. absurd (false≢true (result_scalar result (V.Array n) q));
        alone = λ a. (has', suit, silent);
        no_text = result_no_text result;
      } in
      subst (Found (method o m args)) c.3 whole

  method_inverted : (o m : Bytes) (gs : List Given) (g : Given) → method_verdict place (object_named o) m gs ≡ well g → (op : Operation) × (method_named o m ≡ Some op) × (call_verdict place (operation_takes op) (operation_result op) (is_live op) gs ≡ well g)
  method_inverted o m gs g e =
      let next : Operation → Verdict Given = λ op. call_verdict place (operation_takes op) (operation_result op) (is_live op) gs in
      let b = inverted (found_or (object_named o) place.line K.Unknown) (λ x. found_or (method_of (object_named o) m) place.line K.Method >>= next) g e in
      let c = inverted (found_or (method_of (object_named o) m) place.line K.Method) next g b.2 in
      (c.0, was_there (method_of (object_named o) m) place.line K.Method c.0 c.1, c.2)

  mutual
    pub found_expression : (e : Expression) → IsSpellable e → (g : Given) → expression_verdict functions place ns e ≡ well g → Found e g
    found_expression (integer n) s g e = subst (Found (integer n)) (same_found e) (scalar_found (integer n) (literal_type n) (literal_scalar n) refl s (λ r. r))
    found_expression true_literal s g e = subst (Found true_literal) (same_found e) (scalar_found true_literal V.Bool refl refl tt (λ r. r))
    found_expression false_literal s g e = subst (Found false_literal) (same_found e) (scalar_found false_literal V.Bool refl refl tt (λ r. r))
    found_expression (variable x) s g e =
        let i = inverted _ _ g e in
        let t = i.0 in
        let there = was_there (look_up ns x) _ _ t i.1 in
        let whole : Found (variable x) (G.Typed t) =
        record {
          typed = λ u q. ap (λ o. unwrap_or o V.Int64) there ∙ same_type q;
          suited = λ u q k. (t, kept x t there, subst (λ v. is_scalar v ≡ true) (sym (same_type q)) k);
          array = λ n q. (x, ap (if_array x) (kept x t there ∙ ap Some (same_type q)), there ∙ ap Some (same_type q));
          alone = λ a. (t, kept x t there, not_array t a);
          no_text = refl;
        } in
        subst (Found (variable x)) (same_found i.2) whole
    found_expression (element x i) s g e =
        let a = inverted (expression_verdict functions place ns i) _ g e in
        let b = inverted _ _ g a.2 in
        let c = inverted _ _ b.0 b.1 in
        let t = c.0 in
        let there = was_there (look_up ns x) _ _ t c.1 in
        let p = inverted (fit place.line W.Array (G.Typed t)) (λ z. fit place.line W.Int64 a.0) b.0 c.2 in
        let arr = array_wanted (G.Typed t) (none_refused _ _ p.0 p.1) in
        let fi = found_expression i s.1 a.0 a.1 in
        let fitting = none_refused (misfit W.Int64 a.0) _ b.0 p.2 in
        let num = fitting_scalar W.Int64 a.0 fitting fi.no_text (no_array W.Int64 a.0 refl fitting) in
        let named : IsArrayName cs x arr.0 = kept x t there ∙ ap Some (same_type arr.1) in
        subst (Found (element x i)) (same_found b.2) (scalar_found (element x i) V.Int64 refl refl (arr.0, named, fi.suited num.0 num.1 num.2) (λ r. r))
    found_expression (group x) s g e =
        let f = found_expression x s g e in
        record { typed = f.typed; suited = f.suited; array = f.array; alone = f.alone; no_text = f.no_text }
    found_expression (unary op x) s g e =
        let a = inverted (expression_verdict functions place ns x) _ g e in
        let b = inverted (as_integer place.line a.0) _ g a.2 in
        let f = found_expression x s a.0 a.1 in
        let n = integer_given place.line a.0 b.0 b.1 in
        subst (Found (unary op x)) (same_found b.2) (scalar_found (unary op x) b.0 n.1 (f.typed b.0 n.0) (f.suited b.0 n.0 n.1) (λ r. r))
    found_expression (binary op x y) s g e =
        let a = inverted (expression_verdict functions place ns x) _ g e in
        let b = inverted (expression_verdict functions place ns y) _ g a.2 in
        let c = inverted (as_integer place.line a.0) _ g b.2 in
        let d = inverted (as_integer place.line b.0) _ g c.2 in
        let fx = found_expression x s.0 a.0 a.1 in
        let fy = found_expression y s.1 b.0 b.1 in
        let n = integer_given place.line a.0 c.0 c.1 in
        let m = integer_given place.line b.0 d.0 d.1 in
        let ty : binary_type op (type_of so_far x) (type_of so_far y) ≡ binary_type op c.0 d.0 = ap (λ t. binary_type op t (type_of so_far y)) (fx.typed c.0 n.0) ∙ ap (λ t. binary_type op c.0 t) (fy.typed d.0 m.0) in
        subst (Found (binary op x y)) (same_found d.2) (scalar_found (binary op x y) (binary_type op c.0 d.0) (binary_scalar op c.0 d.0 n.1) ty (fx.suited c.0 n.0 n.1, fy.suited d.0 m.0 m.1) (λ r. r))
    found_expression (compare op x y) s g e =
        let a = inverted (expression_verdict functions place ns x) _ g e in
        let b = inverted (expression_verdict functions place ns y) _ g a.2 in
        let c = inverted (as_compared place.line op a.0 b.0) _ g b.2 in
        let fx = found_expression x s.0 a.0 a.1 in
        let fy = found_expression y s.1 b.0 b.1 in
        let n = compared_given place.line op a.0 b.0 c.0 c.1 in
        subst (Found (compare op x y)) (same_found c.2) (scalar_found (compare op x y) V.Bool refl refl (operand x a.0 fx n.0, operand y b.0 fy n.1) (λ r. r))
    found_expression (negation x) s g e =
        let a = inverted (expression_verdict functions place ns x) _ g e in
        let b = inverted (as_condition place.line a.0) _ g a.2 in
        let f = found_expression x s a.0 a.1 in
        subst (Found (negation x)) (same_found b.2) (scalar_found (negation x) V.Bool refl refl (f.suited V.Bool (condition_given place.line a.0 b.0 b.1) refl) (λ r. r))
    found_expression (conjunction x y) s g e =
        let a = inverted (expression_verdict functions place ns x) _ g e in
        let b = inverted (expression_verdict functions place ns y) _ g a.2 in
        let c = inverted (as_condition place.line a.0) _ g b.2 in
        let d = inverted (as_condition place.line b.0) _ g c.2 in
        let fx = found_expression x s.0 a.0 a.1 in
        let fy = found_expression y s.1 b.0 b.1 in
        subst (Found (conjunction x y)) (same_found d.2) (scalar_found (conjunction x y) V.Bool refl refl (fx.suited V.Bool (condition_given place.line a.0 c.0 c.1) refl, fy.suited V.Bool (condition_given place.line b.0 d.0 d.1) refl) (λ r. r))
    found_expression (disjunction x y) s g e =
        let a = inverted (expression_verdict functions place ns x) _ g e in
        let b = inverted (expression_verdict functions place ns y) _ g a.2 in
        let c = inverted (as_condition place.line a.0) _ g b.2 in
        let d = inverted (as_condition place.line b.0) _ g c.2 in
        let fx = found_expression x s.0 a.0 a.1 in
        let fy = found_expression y s.1 b.0 b.1 in
        subst (Found (disjunction x y)) (same_found d.2) (scalar_found (disjunction x y) V.Bool refl refl (fx.suited V.Bool (condition_given place.line a.0 c.0 c.1) refl, fy.suited V.Bool (condition_given place.line b.0 d.0 d.1) refl) (λ r. r))
    found_expression (call f args) s g e =
        let a = inverted (arguments_verdict functions place ns args) _ g e in
        named_found f args (builtin_named f) refl a.0 (found_arguments args s.1 a.0 a.1) g a.2
    found_expression (method o m args) s g e =
        let a = inverted (arguments_verdict functions place ns args) _ g e in
        let b = method_inverted o m a.0 g a.2 in
        method_found o m args b.0 b.1 a.0 (found_arguments args s.2 a.0 a.1) g b.2

    pub found_arguments : (args : Arguments) → AreSpellable args → (gs : List Given) → arguments_verdict functions place ns args ≡ well gs → FoundAll args gs
    found_arguments no_more s gs e = sym (same_found e)
    found_arguments (value_then x rest) s gs e =
        let a = inverted (expression_verdict functions place ns x) _ gs e in
        let b = inverted (arguments_verdict functions place ns rest) _ gs a.2 in
        (a.0, b.0, sym (same_found b.2), found_expression x s.0 a.0 a.1, found_arguments rest s.1 b.0 b.1)
    found_arguments (text_then text rest) s gs e =
        let b = inverted (arguments_verdict functions place ns rest) _ gs e in
        (b.0, sym (same_found b.2), found_arguments rest s.1 b.0 b.1)
