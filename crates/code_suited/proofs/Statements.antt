-- What the verdict finds of statements gives the compiler what it asks for.
use Rattle.std.proofs.Common.{◌≡◌, ℕ, ◌<◌, ◌^◌, List, [], ◌∷◌, length, Option, Some, None, refl, sym, ◌∙◌, ap, subst}
use Rattle.std.specs.Prelude.{Bool, true, false, not, is_some}
use Rattle.std.proofs.lemmas.Bool.{false≢true}
use Rattle.kern_syntax.specs.declared.program.DeclaredType.{DeclaredType}
use Rattle.kern_syntax.specs.declared.program.DeclaredType.TheVariants as D
use Rattle.kern_syntax.specs.Spellable.{IsSpellable, IfThereSpellable, EachSpellable, IsSpellableStatement, AreSpellableLines, AreSpellableBranches, AreSpellableHandlers}
use Rattle.kern_syntax.specs.Tree as T
use Rattle.kern_syntax.specs.Tree.{Bytes, Expression, Statement, pass, evaluate, assign, assign_element, augment, augment_element, assign_repeated, assign_list, if_then, while_do, for_range, parallel, sequential, record_as, try_do, Block, done, line_then, Otherwise, no_else, else_do, elif_then, Handlers, no_handler, except_then, FunctionTree}
use Rattle.kern_calls.specs.declared.types.ValueType.{ValueType}
use Rattle.kern_calls.specs.declared.types.ValueType.TheVariants as V
use Rattle.kern_calls.specs.declared.wanted.Wanted.{Wanted}
use Rattle.kern_calls.specs.declared.wanted.Wanted.TheVariants as W
use Rattle.kern_calls.specs.Calls.{look_up}
use Rattle.kern_calls.specs.Types.{Names, function_named, type_of, with_name, wider_type, range_type, names_after, names_after_block, names_after_otherwise, names_after_handlers}
use Rattle.kern_expression_types.specs.declared.place.Given.{Given}
use Rattle.kern_expression_types.specs.declared.place.Given.TheVariants as G
use Rattle.kern_expression_types.specs.declared.place.Place.{Place}
use Rattle.kern_expression_types.specs.declared.fault.TypeKind.TheVariants as K
use Rattle.kern_expression_types.specs.Before.{Functions, is_in, exceptions}
use Rattle.kern_expression_types.specs.Verdicts.{Verdict, well, fault, ◌>>=◌, ◌>>◌, refuse_if, found_or}
use Rattle.kern_expression_types.specs.Fits.{misfit, declared_wanted, fit, fit_each, as_condition, as_integer, as_statement, scalar_of}
use Rattle.kern_expression_types.specs.Expressions.{variable_verdict, element_verdict, expression_verdict, condition_verdict, fitting_verdict, elements_verdict}
use Rattle.kern_types.specs.Statements.{at_line, inside_loop, inside_parallel, inside_record, turn_verdict, augmented_verdict, bounds_verdict, assigned_verdict, array_verdict, value_verdict, return_verdict, alone_verdict, element_assigned_verdict, name_augmented_verdict, element_augmented_verdict, range_verdict, loop_verdict, statement_verdict, block_verdict, branches_verdict, handlers_verdict}
use Rattle.code_forms.specs.Setting as C
use Rattle.code_forms.specs.Suited.{is_scalar, IsSized, IsScalarName, IsArrayName, IsSuited, IfThereSuited, EachSuited, IsSuitedStatement, IsSuitedBlock, IsSuitedOtherwise, AreSuitedHandlers}
use Rattle.code_suited.proofs.Inverted.{same_found, no_fault, inverted, not_refused, none_refused, was_there, same_type, is_array, integer_given, condition_given, scalar_given, fitting_scalar, takes_array, no_array, array_wanted}
use Rattle.code_suited.proofs.Expressions.{Found, found_expression}
use Rattle.code_suited.proofs.Wanted.{wider_scalar}
use Rattle.code_suited.proofs.NamesGrow.{Kept, kept_same, kept_then, AllSmall, small_found, scalar_small, kept_scalar, kept_array, Assigned, assigned, array_assigned}

not_false : (b : Bool) → not b ≡ false → b ≡ true
not_false true e = refl
not_false false e = absurd (false≢true (sym e))

not_an_array : (line : ℕ) (g : Given) (u : Unit {0}) → as_statement line g ≡ well u → is_array g ≡ false
not_an_array line (G.Typed (V.Array n)) u e = absurd (no_fault e)
not_an_array line (G.Typed V.Int32) u e = refl
not_an_array line (G.Typed V.Int64) u e = refl
not_an_array line (G.Typed V.Bool) u e = refl
not_an_array line G.Text u e = refl
not_an_array line G.Nothing u e = refl

declared_no_array : (t : DeclaredType) → takes_array (declared_wanted t) ≡ false
declared_no_array D.Int32 = refl
declared_no_array D.Int64 = refl
declared_no_array D.Bool = refl

-- an element's array, and its index
element_given : (line : ℕ) (ns : Names) (x : Bytes) (index : Given) (u : Unit {0}) → element_verdict line ns x index ≡ well u → (n : ℕ) × (look_up ns x ≡ Some (V.Array n)) × (misfit W.Int64 index ≡ None)
element_given line ns x index u e =
    let a = inverted (found_or (look_up ns x) line K.Unknown) (λ t. fit line W.Array (G.Typed t) >>= λ z. fit line W.Int64 index) u e in
    let b = inverted (fit line W.Array (G.Typed a.0)) (λ z. fit line W.Int64 index) u a.2 in
    let arr = array_wanted (G.Typed a.0) (none_refused (misfit W.Array (G.Typed a.0)) line b.0 b.1) in
    (arr.0, was_there (look_up ns x) line K.Unknown a.0 a.1 ∙ ap Some (same_type arr.1), none_refused (misfit W.Int64 index) line u b.2)

module _ (functions : Functions) (cs : C.Setting) (plain : List Bytes) (callable : (name : Bytes) (f : FunctionTree) → function_named functions.callable name ≡ Some f → function_named cs.scope.program name ≡ Some f) (plainly : (name : Bytes) (f : FunctionTree) → function_named functions.callable name ≡ Some f → is_in functions.plain f.name ≡ true → is_in plain name ≡ true) where
  -- the compiler's setting at these names
  abbrev at_names : Names → C.Setting
  at_names ns = record { scope = record { program = cs.scope.program; names = ns }; texts = cs.texts; value = cs.value }

  typed_here : (place : Place) (ns : Names) → AllSmall ns → (e : Expression) → IsSpellable e → (t : ValueType) → expression_verdict functions place ns e ≡ well (G.Typed t) → type_of (record { program = cs.scope.program; names = ns }) e ≡ t
  typed_here place ns s e k t v =
      (found_expression functions place ns (at_names ns) plain callable plainly (kept_same ns).known (small_found ns s) e k (G.Typed t) v).typed t refl

  -- the names after a part: more than before, those that the definitions give, and with short arrays
  pub record Sound (ns after expected : Names) : Type 0 where
    pub kept : Kept ns after
    pub is : after ≡ expected
    pub small : AllSmall after

  unchanged : {A : Type 0} (v : Verdict A) (ns after : Names) → AllSmall ns → (v >>= λ a. well ns) ≡ well after → Sound ns after ns
  unchanged v ns after s e =
      let i = inverted v (λ a. well ns) after e in
      let is = same_found i.2 in
      record { kept = subst (Kept ns) is (kept_same ns); is = sym is; small = subst AllSmall is s }

  sound_assigned : (ns after : Names) (x : Bytes) (value : Option ValueType) (t : ValueType) → AllSmall ns → Assigned ns x value after → value ≡ Some t → IsSized t → Sound ns after (with_name ns x t)
  sound_assigned ns after x value t s a e own =
      let same : a.type ≡ t = ap (λ o. Rattle.std.specs.Prelude.unwrap_or o t) (sym a.value_is ∙ e) in
      record { kept = a.grown; is = a.after_is ∙ ap (with_name ns x) same; small = a.small s (subst IsSized (sym same) own) }

  -- the type of a loop's variable
  range_typed : (place : Place) (ns : Names) → AllSmall ns → (from : Option Expression) (to : Expression) → IfThereSpellable from → IsSpellable to → (t : ValueType) → range_verdict functions place ns from to ≡ well t → (range_type (record { program = cs.scope.program; names = ns }) from to ≡ t) × (is_scalar t ≡ true)
  range_typed place ns s None to kf kt t e =
      let a = inverted (expression_verdict functions place ns to) (λ g. as_integer place.line g) t e in
      let i = integer_given place.line a.0 t a.2 in
      (typed_here place ns s to kt t (a.1 ∙ ap well i.0), i.1)
  range_typed place ns s (Some from) to kf kt t e =
      let a = inverted (expression_verdict functions place ns from) (λ g. expression_verdict functions place ns to >>= λ h. bounds_verdict place.line g h) t e in
      let b = inverted (expression_verdict functions place ns to) (λ h. bounds_verdict place.line a.0 h) t a.2 in
      let c = inverted (as_integer place.line a.0) (λ v. as_integer place.line b.0 >>= λ u. well (wider_type v u)) t b.2 in
      let d = inverted (as_integer place.line b.0) (λ u. well (wider_type c.0 u)) t c.2 in
      let i = integer_given place.line a.0 c.0 c.1 in
      let j = integer_given place.line b.0 d.0 d.1 in
      let is : wider_type c.0 d.0 ≡ t = same_found d.2 in
      let tf = typed_here place ns s from kf c.0 (a.1 ∙ ap well i.0) in
      let tt' = typed_here place ns s to kt d.0 (b.1 ∙ ap well j.0) in
      (ap (λ v. wider_type v (type_of (record { program = cs.scope.program; names = ns }) to)) tf ∙ ap (λ v. wider_type c.0 v) tt' ∙ is, subst (λ v. is_scalar v ≡ true) is (wider_scalar c.0 d.0))

  header : (place : Place) (ns after : Names) (x : Bytes) (from : Option Expression) (to : Expression) → AllSmall ns → IfThereSpellable from → IsSpellable to → loop_verdict functions place ns x from to ≡ well after → Sound ns after (with_name ns x (range_type (record { program = cs.scope.program; names = ns }) from to))
  header place ns after x from to s kf kt e =
      let a = inverted (range_verdict functions place ns from to) (λ t. assigned_verdict functions place ns x (Some t)) after e in
      let ty = range_typed place ns s from to kf kt a.0 a.1 in
      let r = sound_assigned ns after x (Some a.0) a.0 s (assigned functions place ns x (Some a.0) after a.2) refl (scalar_small a.0 ty.1) in
      record { kept = r.kept; is = r.is ∙ ap (with_name ns x) (sym ty.0); small = r.small }

  then_sound : {a b c d : Names} (f : Names → Names) → Sound a b d → Sound b c (f b) → Sound a c (f d)
  then_sound f p q = record { kept = kept_then p.kept q.kept; is = q.is ∙ ap f p.is; small = q.small }

  mutual
    pub sound_statement : (st : Statement) (place : Place) (ns after : Names) → IsSpellableStatement st → AllSmall ns → statement_verdict functions st place ns ≡ well after → Sound ns after (names_after cs.scope.program st ns)
    sound_statement pass place ns after k s e = let is = same_found e in record { kept = subst (Kept ns) is (kept_same ns); is = sym is; small = subst AllSmall is s }
    sound_statement T.break place ns after k s e = unchanged (turn_verdict place) ns after s e
    sound_statement T.continue place ns after k s e = unchanged (turn_verdict place) ns after s e
    sound_statement (T.return x) place ns after k s e = unchanged (return_verdict functions place ns x) ns after s e
    sound_statement (evaluate x) place ns after k s e = unchanged (alone_verdict functions place ns x) ns after s e
    sound_statement (assign x v) place ns after k s e =
        let a = inverted (expression_verdict functions place ns v) (λ g. assigned_verdict functions place ns x (scalar_of g)) after e in
        let r = assigned functions place ns x (scalar_of a.0) after a.2 in
        let g = scalar_given a.0 r.type r.value_is in
        let ty = typed_here place ns s v k.1 r.type (a.1 ∙ ap well g.0) in
        let q = sound_assigned ns after x (scalar_of a.0) r.type s r r.value_is (scalar_small r.type g.1) in
        record { kept = q.kept; is = q.is ∙ ap (with_name ns x) (sym ty); small = q.small }
    sound_statement (assign_element x i v) place ns after k s e = unchanged (element_assigned_verdict functions place ns x i v) ns after s e
    sound_statement (augment x op v) place ns after k s e = unchanged (name_augmented_verdict functions place ns x v) ns after s e
    sound_statement (augment_element x i op v) place ns after k s e = unchanged (element_augmented_verdict functions place ns x i v) ns after s e
    sound_statement (assign_repeated x v n) place ns after k s e =
        let a = inverted (fitting_verdict functions place ns W.Int64 v) (λ z. array_verdict functions place ns x n) after e in
        let r = array_assigned functions place ns x n after a.2 in
        sound_assigned ns after x (Some (V.Array n)) (V.Array n) s r.0 refl r.1
    sound_statement (assign_list x vs) place ns after k s e =
        let a = inverted (elements_verdict functions place ns vs) (λ gs. fit_each place.line W.Int64 gs >>= λ z. array_verdict functions place ns x (length vs)) after e in
        let b = inverted (fit_each place.line W.Int64 a.0) (λ z. array_verdict functions place ns x (length vs)) after a.2 in
        let r = array_assigned functions place ns x (length vs) after b.2 in
        sound_assigned ns after x (Some (V.Array (length vs))) (V.Array (length vs)) s r.0 refl r.1
    sound_statement (if_then c b rest) place ns after k s e =
        let a = inverted (condition_verdict functions place ns c) (λ z. block_verdict functions b place ns >>= λ m. branches_verdict functions rest place m) after e in
        let h = inverted (block_verdict functions b place ns) (λ m. branches_verdict functions rest place m) after a.2 in
        let p = sound_block b place ns h.0 k.1 s h.1 in
        then_sound (names_after_otherwise cs.scope.program rest) p (sound_branches rest place h.0 after k.2 p.small h.2)
    sound_statement (while_do c b) place ns after k s e =
        let a = inverted (condition_verdict functions place ns c) (λ z. block_verdict functions b (inside_loop place) ns) after e in
        sound_block b (inside_loop place) ns after k.1 s a.2
    sound_statement (for_range x from to b) place ns after k s e =
        let a = inverted (loop_verdict functions place ns x from to) (λ m. block_verdict functions b (inside_loop place) m) after e in
        let p = header place ns a.0 x from to s k.1 k.2 a.1 in
        then_sound (names_after_block cs.scope.program b) p (sound_block b (inside_loop place) a.0 after k.3 p.small a.2)
    sound_statement (parallel b) place ns after k s e = sound_block b (inside_parallel place) ns after k s e
    sound_statement (sequential b) place ns after k s e = sound_block b place ns after k s e
    sound_statement (record_as name b) place ns after k s e =
        let a = inverted (refuse_if place.in_record place.line K.NestedRecord) (λ z. block_verdict functions b (inside_record place) ns) after e in
        sound_block b (inside_record place) ns after k.1 s a.2
    sound_statement (try_do b handlers) place ns after k s e =
        let a = inverted (block_verdict functions b place ns) (λ m. handlers_verdict functions handlers place m) after e in
        let p = sound_block b place ns a.0 k.0 s a.1 in
        then_sound (names_after_handlers cs.scope.program handlers) p (sound_handlers handlers place a.0 after k.1 p.small a.2)

    pub sound_block : (b : Block) (place : Place) (ns after : Names) → AreSpellableLines b → AllSmall ns → block_verdict functions b place ns ≡ well after → Sound ns after (names_after_block cs.scope.program b ns)
    sound_block done place ns after k s e = let is = same_found e in record { kept = subst (Kept ns) is (kept_same ns); is = sym is; small = subst AllSmall is s }
    sound_block (line_then ln st rest) place ns after k s e =
        let a = inverted (statement_verdict functions st (at_line place ln) ns) (λ m. block_verdict functions rest place m) after e in
        let p = sound_statement st (at_line place ln) ns a.0 k.0 s a.1 in
        then_sound (names_after_block cs.scope.program rest) p (sound_block rest place a.0 after k.1 p.small a.2)

    pub sound_branches : (rest : Otherwise) (place : Place) (ns after : Names) → AreSpellableBranches rest → AllSmall ns → branches_verdict functions rest place ns ≡ well after → Sound ns after (names_after_otherwise cs.scope.program rest ns)
    sound_branches no_else place ns after k s e = let is = same_found e in record { kept = subst (Kept ns) is (kept_same ns); is = sym is; small = subst AllSmall is s }
    sound_branches (else_do b) place ns after k s e = sound_block b place ns after k s e
    sound_branches (elif_then ln c b rest) place ns after k s e =
        let a = inverted (condition_verdict functions (at_line place ln) ns c >>= λ z. block_verdict functions b place ns) (λ m. branches_verdict functions rest place m) after e in
        let h = inverted (condition_verdict functions (at_line place ln) ns c) (λ z. block_verdict functions b place ns) a.0 a.1 in
        let p = sound_block b place ns a.0 k.1 s h.2 in
        then_sound (names_after_otherwise cs.scope.program rest) p (sound_branches rest place a.0 after k.2 p.small a.2)

    pub sound_handlers : (handlers : Handlers) (place : Place) (ns after : Names) → AreSpellableHandlers handlers → AllSmall ns → handlers_verdict functions handlers place ns ≡ well after → Sound ns after (names_after_handlers cs.scope.program handlers ns)
    sound_handlers no_handler place ns after k s e = let is = same_found e in record { kept = subst (Kept ns) is (kept_same ns); is = sym is; small = subst AllSmall is s }
    sound_handlers (except_then ln name b rest) place ns after k s e =
        let a = inverted (refuse_if (not (is_in exceptions name)) ln K.Unknown) (λ z. block_verdict functions b place ns >>= λ m. handlers_verdict functions rest place m) after e in
        let h = inverted (block_verdict functions b place ns) (λ m. handlers_verdict functions rest place m) after a.2 in
        let p = sound_block b place ns h.0 k.1 s h.1 in
        then_sound (names_after_handlers cs.scope.program rest) p (sound_handlers rest place h.0 after k.2 p.small h.2)

  -- under the names of the whole function
  module _ (small : (x : Bytes) (n : ℕ) → look_up cs.scope.names x ≡ Some (V.Array n) → n < 2 ^ 63) where
    abbrev Final : Names → Type 0
    Final ns = Kept ns cs.scope.names

    abbrev found : (place : Place) (ns : Names) (f : Final ns) (e : Expression) (g : Given) → Type 0
    found place ns f e g = Found functions place ns cs plain callable plainly f.known small e g

    finds : (place : Place) (ns : Names) (f : Final ns) (e : Expression) → IsSpellable e → (g : Given) → expression_verdict functions place ns e ≡ well g → found place ns f e g
    finds place ns f e k g v = found_expression functions place ns cs plain callable plainly f.known small e k g v

    -- a value that fits where no array is wanted
    fitting_suited : (place : Place) (ns : Names) → Final ns → (w : Wanted) → takes_array w ≡ false → (e : Expression) → IsSpellable e → (g : Given) → expression_verdict functions place ns e ≡ well g → misfit w g ≡ None → IsSuited cs plain place.in_record e
    fitting_suited place ns f w none e k g v fits =
        let r = finds place ns f e k g v in
        let n = fitting_scalar w g fits r.no_text (no_array w g none fits) in
        r.suited n.0 n.1 n.2

    wanted_suited : (place : Place) (ns : Names) → Final ns → (w : Wanted) → takes_array w ≡ false → (e : Expression) → IsSpellable e → (u : Unit {0}) → fitting_verdict functions place ns w e ≡ well u → IsSuited cs plain place.in_record e
    wanted_suited place ns f w none e k u v =
        let a = inverted (expression_verdict functions place ns e) (λ g. fit place.line w g) u v in
        fitting_suited place ns f w none e k a.0 a.1 (none_refused (misfit w a.0) place.line u a.2)

    integer_suited : (place : Place) (ns : Names) → Final ns → (e : Expression) → IsSpellable e → (g : Given) → expression_verdict functions place ns e ≡ well g → (t : ValueType) → as_integer place.line g ≡ well t → IsSuited cs plain place.in_record e
    integer_suited place ns f e k g v t i = let n = integer_given place.line g t i in (finds place ns f e k g v).suited t n.0 n.1

    condition_suited : (place : Place) (ns : Names) → Final ns → (c : Expression) → IsSpellable c → (u : Unit {0}) → condition_verdict functions place ns c ≡ well u → IsSuited cs plain place.in_record c
    condition_suited place ns f c k u v =
        let a = inverted (expression_verdict functions place ns c) (λ g. as_condition place.line g) u v in
        (finds place ns f c k a.0 a.1).suited V.Bool (condition_given place.line a.0 u a.2) refl

    each_suited : (place : Place) (ns : Names) → Final ns → (es : List Expression) → EachSpellable es → (gs : List Given) (u : Unit {0}) → elements_verdict functions place ns es ≡ well gs → fit_each place.line W.Int64 gs ≡ well u → EachSuited cs plain place.in_record es
    each_suited place ns f [] k gs u v w = tt
    each_suited place ns f (e ∷ es) k gs u v w =
        let a = inverted (expression_verdict functions place ns e) (λ g. elements_verdict functions place ns es >>= λ hs. well (g ∷ hs)) gs v in
        let b = inverted (elements_verdict functions place ns es) (λ hs. well (a.0 ∷ hs)) gs a.2 in
        let c = inverted (fit place.line W.Int64 a.0) (λ z. fit_each place.line W.Int64 b.0) u (subst (λ l. fit_each place.line W.Int64 l ≡ well u) (sym (same_found b.2)) w) in
        (fitting_suited place ns f W.Int64 refl e k.0 a.0 a.1 (none_refused (misfit W.Int64 a.0) place.line c.0 c.1), each_suited place ns f es k.1 b.0 u b.1 c.2)

    return_suited : (place : Place) (ns : Names) → Final ns → (o : Option DeclaredType) (e : Option Expression) → IfThereSpellable e → (u : Unit {0}) → value_verdict functions place ns o e ≡ well u → IfThereSuited cs plain place.in_record e × (is_some e ≡ is_some o)
    return_suited place ns f None None k u v = (tt, refl)
    return_suited place ns f (Some t) None k u v = absurd (no_fault v)
    return_suited place ns f None (Some e) k u v = absurd (no_fault (inverted (expression_verdict functions place ns e) (λ z. fault place.line K.Arity) u v).2)
    return_suited place ns f (Some t) (Some e) k u v = (wanted_suited place ns f (declared_wanted t) (declared_no_array t) e k u v, refl)

    bounds_suited : (place : Place) (ns : Names) → Final ns → (from : Option Expression) (to : Expression) → IfThereSpellable from → IsSpellable to → (t : ValueType) → range_verdict functions place ns from to ≡ well t → IfThereSuited cs plain place.in_record from × IsSuited cs plain place.in_record to
    bounds_suited place ns f None to kf kt t e =
        let a = inverted (expression_verdict functions place ns to) (λ g. as_integer place.line g) t e in
        (tt, integer_suited place ns f to kt a.0 a.1 t a.2)
    bounds_suited place ns f (Some from) to kf kt t e =
        let a = inverted (expression_verdict functions place ns from) (λ g. expression_verdict functions place ns to >>= λ h. bounds_verdict place.line g h) t e in
        let b = inverted (expression_verdict functions place ns to) (λ h. bounds_verdict place.line a.0 h) t a.2 in
        let c = inverted (as_integer place.line a.0) (λ v. as_integer place.line b.0 >>= λ u. well (wider_type v u)) t b.2 in
        let d = inverted (as_integer place.line b.0) (λ u. well (wider_type c.0 u)) t c.2 in
        (integer_suited place ns f from kf a.0 a.1 c.0 c.1, integer_suited place ns f to kt b.0 b.1 d.0 d.1)

    -- a name that is assigned a number
    name_suited : (ns after : Names) (x : Bytes) (value : Option ValueType) → Final after → (a : Assigned ns x value after) → is_scalar a.type ≡ true → IsScalarName cs x
    name_suited ns after x value f a s = (a.held, f.known x a.held a.there, kept_scalar a.held a.type a.fits s)

    array_suited : (ns after : Names) (x : Bytes) (n : ℕ) → Final after → Assigned ns x (Some (V.Array n)) after → IsArrayName cs x n
    array_suited ns after x n f a =
        let same : a.type ≡ V.Array n = sym (ap (λ o. Rattle.std.specs.Prelude.unwrap_or o a.type) a.value_is) in
        f.known x a.held a.there ∙ ap Some (kept_array a.held n (subst (λ t. Rattle.kern_expression_types.specs.Fits.kept_misfit a.held t ≡ None) same a.fits))

    mutual
      pub suited_statement : (st : Statement) (place : Place) (ns after : Names) → IsSpellableStatement st → AllSmall ns → statement_verdict functions st place ns ≡ well after → Final after → is_some place.result ≡ cs.value → IsSuitedStatement cs plain place.in_loop place.may_return place.in_record st
      suited_statement pass place ns after k s e f v = tt
      suited_statement T.break place ns after k s e f v =
          let a = inverted (turn_verdict place) (λ z. well ns) after e in
          not_false place.in_loop (not_refused _ _ _ a.0 a.1)
      suited_statement T.continue place ns after k s e f v =
          let a = inverted (turn_verdict place) (λ z. well ns) after e in
          not_false place.in_loop (not_refused _ _ _ a.0 a.1)
      suited_statement (T.return x) place ns after k s e f v =
          let a = inverted (return_verdict functions place ns x) (λ z. well ns) after e in
          let b = inverted (value_verdict functions place ns place.result x) (λ z. refuse_if (not place.may_return) place.line K.BlockExit) a.0 a.1 in
          let g : Final ns = subst Final (sym (same_found a.2)) f in
          let r = return_suited place ns g place.result x k b.0 b.1 in
          (not_false place.may_return (not_refused _ _ _ a.0 b.2), r.0, r.1 ∙ v)
      suited_statement (evaluate x) place ns after k s e f v =
          let a = inverted (alone_verdict functions place ns x) (λ z. well ns) after e in
          let b = inverted (expression_verdict functions place ns x) (λ g. as_statement place.line g) a.0 a.1 in
          let g : Final ns = subst Final (sym (same_found a.2)) f in
          (finds place ns g x k b.0 b.1).alone (not_an_array place.line b.0 a.0 b.2)
      suited_statement (assign x w) place ns after k s e f v =
          let a = inverted (expression_verdict functions place ns w) (λ g. assigned_verdict functions place ns x (scalar_of g)) after e in
          let r = assigned functions place ns x (scalar_of a.0) after a.2 in
          let n = scalar_given a.0 r.type r.value_is in
          (name_suited ns after x (scalar_of a.0) f r n.1, (finds place ns (kept_then r.grown f) w k.1 a.0 a.1).suited r.type n.0 n.1)
      suited_statement (assign_element x i w) place ns after k s e f v =
          let a = inverted (element_assigned_verdict functions place ns x i w) (λ z. well ns) after e in
          let g : Final ns = subst Final (sym (same_found a.2)) f in
          let b = inverted (expression_verdict functions place ns w) (λ h. expression_verdict functions place ns i >>= λ j. element_verdict place.line ns x j >>= λ z. fit place.line W.Int64 h) a.0 a.1 in
          let c = inverted (expression_verdict functions place ns i) (λ j. element_verdict place.line ns x j >>= λ z. fit place.line W.Int64 b.0) a.0 b.2 in
          let d = inverted (element_verdict place.line ns x c.0) (λ z. fit place.line W.Int64 b.0) a.0 c.2 in
          let n = element_given place.line ns x c.0 d.0 d.1 in
          (n.0, g.known x (V.Array n.0) n.1, fitting_suited place ns g W.Int64 refl i k.1 c.0 c.1 n.2, fitting_suited place ns g W.Int64 refl w k.2 b.0 b.1 (none_refused (misfit W.Int64 b.0) place.line a.0 d.2))
      suited_statement (augment x op w) place ns after k s e f v =
          let a = inverted (name_augmented_verdict functions place ns x w) (λ z. well ns) after e in
          let g : Final ns = subst Final (sym (same_found a.2)) f in
          let b = inverted (variable_verdict place.line ns x) (λ held. expression_verdict functions place ns w >>= λ h. augmented_verdict place.line held h) a.0 a.1 in
          let b' = inverted (found_or (look_up ns x) place.line K.Unknown) (λ t. well (G.Typed t)) b.0 b.1 in
          let c = inverted (expression_verdict functions place ns w) (λ h. augmented_verdict place.line b.0 h) a.0 b.2 in
          let d = inverted (as_integer place.line b.0) (λ t. as_integer place.line c.0 >>= λ u. Rattle.kern_expression_types.specs.Verdicts.refuse_some (Rattle.kern_expression_types.specs.Fits.kept_misfit t (wider_type t u)) place.line) a.0 c.2 in
          let h = inverted (as_integer place.line c.0) (λ u. Rattle.kern_expression_types.specs.Verdicts.refuse_some (Rattle.kern_expression_types.specs.Fits.kept_misfit d.0 (wider_type d.0 u)) place.line) a.0 d.2 in
          let n = integer_given place.line b.0 d.0 d.1 in
          let same : b'.0 ≡ d.0 = same_type (same_found b'.2 ∙ n.0) in
          ((b'.0, g.known x b'.0 (was_there (look_up ns x) place.line K.Unknown b'.0 b'.1), subst (λ t. is_scalar t ≡ true) (sym same) n.1), integer_suited place ns g w k.1 c.0 c.1 h.0 h.1)
      suited_statement (augment_element x i op w) place ns after k s e f v =
          let a = inverted (element_augmented_verdict functions place ns x i w) (λ z. well ns) after e in
          let g : Final ns = subst Final (sym (same_found a.2)) f in
          let b = inverted (expression_verdict functions place ns i) (λ j. element_verdict place.line ns x j >>= λ z. fitting_verdict functions place ns W.Int64 w) a.0 a.1 in
          let d = inverted (element_verdict place.line ns x b.0) (λ z. fitting_verdict functions place ns W.Int64 w) a.0 b.2 in
          let n = element_given place.line ns x b.0 d.0 d.1 in
          (n.0, g.known x (V.Array n.0) n.1, fitting_suited place ns g W.Int64 refl i k.1 b.0 b.1 n.2, wanted_suited place ns g W.Int64 refl w k.2 a.0 d.2)
      suited_statement (assign_repeated x w n) place ns after k s e f v =
          let a = inverted (fitting_verdict functions place ns W.Int64 w) (λ z. array_verdict functions place ns x n) after e in
          let r = array_assigned functions place ns x n after a.2 in
          (array_suited ns after x n f r.0, wanted_suited place ns (kept_then r.0.grown f) W.Int64 refl w k.1 a.0 a.1)
      suited_statement (assign_list x ws) place ns after k s e f v =
          let a = inverted (elements_verdict functions place ns ws) (λ gs. fit_each place.line W.Int64 gs >>= λ z. array_verdict functions place ns x (length ws)) after e in
          let b = inverted (fit_each place.line W.Int64 a.0) (λ z. array_verdict functions place ns x (length ws)) after a.2 in
          let r = array_assigned functions place ns x (length ws) after b.2 in
          (array_suited ns after x (length ws) f r.0, each_suited place ns (kept_then r.0.grown f) ws k.1 a.0 b.0 a.1 b.1)
      suited_statement (if_then c b rest) place ns after k s e f v =
          let a = inverted (condition_verdict functions place ns c) (λ z. block_verdict functions b place ns >>= λ m. branches_verdict functions rest place m) after e in
          let h = inverted (block_verdict functions b place ns) (λ m. branches_verdict functions rest place m) after a.2 in
          let p = sound_block b place ns h.0 k.1 s h.1 in
          let q = sound_branches rest place h.0 after k.2 p.small h.2 in
          let g = kept_then q.kept f in
          (condition_suited place ns (kept_then p.kept g) c k.0 a.0 a.1, suited_block b place ns h.0 k.1 s h.1 g v, suited_branches rest place h.0 after k.2 p.small h.2 f v)
      suited_statement (while_do c b) place ns after k s e f v =
          let a = inverted (condition_verdict functions place ns c) (λ z. block_verdict functions b (inside_loop place) ns) after e in
          let p = sound_block b (inside_loop place) ns after k.1 s a.2 in
          (condition_suited place ns (kept_then p.kept f) c k.0 a.0 a.1, suited_block b (inside_loop place) ns after k.1 s a.2 f v)
      suited_statement (for_range x from to b) place ns after k s e f v =
          let a = inverted (loop_verdict functions place ns x from to) (λ m. block_verdict functions b (inside_loop place) m) after e in
          let h = inverted (range_verdict functions place ns from to) (λ t. assigned_verdict functions place ns x (Some t)) a.0 a.1 in
          let r = assigned functions place ns x (Some h.0) a.0 h.2 in
          let p = header place ns a.0 x from to s k.1 k.2 a.1 in
          let q = sound_block b (inside_loop place) a.0 after k.3 p.small a.2 in
          let g = kept_then q.kept f in
          let ty = range_typed place ns s from to k.1 k.2 h.0 h.1 in
          let same : h.0 ≡ r.type = ap (λ o. Rattle.std.specs.Prelude.unwrap_or o h.0) r.value_is in
          let bs = bounds_suited place ns (kept_then p.kept g) from to k.1 k.2 h.0 h.1 in
          (name_suited ns a.0 x (Some h.0) g r (subst (λ t. is_scalar t ≡ true) same ty.1), bs.0, bs.1, suited_block b (inside_loop place) a.0 after k.3 p.small a.2 f v)
      suited_statement (parallel b) place ns after k s e f v = suited_block b (inside_parallel place) ns after k s e f v
      suited_statement (sequential b) place ns after k s e f v = suited_block b place ns after k s e f v
      suited_statement (record_as name b) place ns after k s e f v =
          let a = inverted (refuse_if place.in_record place.line K.NestedRecord) (λ z. block_verdict functions b (inside_record place) ns) after e in
          (not_refused place.in_record place.line K.NestedRecord a.0 a.1, suited_block b (inside_record place) ns after k.1 s a.2 f v)
      suited_statement (try_do b handlers) place ns after k s e f v =
          let a = inverted (block_verdict functions b place ns) (λ m. handlers_verdict functions handlers place m) after e in
          let p = sound_block b place ns a.0 k.0 s a.1 in
          let q = sound_handlers handlers place a.0 after k.1 p.small a.2 in
          (suited_block b place ns a.0 k.0 s a.1 (kept_then q.kept f) v, suited_handlers handlers place a.0 after k.1 p.small a.2 f v)

      pub suited_block : (b : Block) (place : Place) (ns after : Names) → AreSpellableLines b → AllSmall ns → block_verdict functions b place ns ≡ well after → Final after → is_some place.result ≡ cs.value → IsSuitedBlock cs plain place.in_loop place.may_return place.in_record b
      suited_block done place ns after k s e f v = tt
      suited_block (line_then ln st rest) place ns after k s e f v =
          let a = inverted (statement_verdict functions st (at_line place ln) ns) (λ m. block_verdict functions rest place m) after e in
          let p = sound_statement st (at_line place ln) ns a.0 k.0 s a.1 in
          let q = sound_block rest place a.0 after k.1 p.small a.2 in
          (suited_statement st (at_line place ln) ns a.0 k.0 s a.1 (kept_then q.kept f) v, suited_block rest place a.0 after k.1 p.small a.2 f v)

      pub suited_branches : (rest : Otherwise) (place : Place) (ns after : Names) → AreSpellableBranches rest → AllSmall ns → branches_verdict functions rest place ns ≡ well after → Final after → is_some place.result ≡ cs.value → IsSuitedOtherwise cs plain place.in_loop place.may_return place.in_record rest
      suited_branches no_else place ns after k s e f v = tt
      suited_branches (else_do b) place ns after k s e f v = suited_block b place ns after k s e f v
      suited_branches (elif_then ln c b rest) place ns after k s e f v =
          let a = inverted (condition_verdict functions (at_line place ln) ns c >>= λ z. block_verdict functions b place ns) (λ m. branches_verdict functions rest place m) after e in
          let h = inverted (condition_verdict functions (at_line place ln) ns c) (λ z. block_verdict functions b place ns) a.0 a.1 in
          let p = sound_block b place ns a.0 k.1 s h.2 in
          let q = sound_branches rest place a.0 after k.2 p.small a.2 in
          let g = kept_then q.kept f in
          (condition_suited (at_line place ln) ns (kept_then p.kept g) c k.0 h.0 h.1, suited_block b place ns a.0 k.1 s h.2 g v, suited_branches rest place a.0 after k.2 p.small a.2 f v)

      pub suited_handlers : (handlers : Handlers) (place : Place) (ns after : Names) → AreSpellableHandlers handlers → AllSmall ns → handlers_verdict functions handlers place ns ≡ well after → Final after → is_some place.result ≡ cs.value → AreSuitedHandlers cs plain place.in_loop place.may_return place.in_record handlers
      suited_handlers no_handler place ns after k s e f v = tt
      suited_handlers (except_then ln name b rest) place ns after k s e f v =
          let a = inverted (refuse_if (not (is_in exceptions name)) ln K.Unknown) (λ z. block_verdict functions b place ns >>= λ m. handlers_verdict functions rest place m) after e in
          let h = inverted (block_verdict functions b place ns) (λ m. handlers_verdict functions rest place m) after a.2 in
          let p = sound_block b place ns h.0 k.1 s h.1 in
          let q = sound_handlers rest place h.0 after k.2 p.small h.2 in
          (suited_block b place ns h.0 k.1 s h.1 (kept_then q.kept f) v, suited_handlers rest place h.0 after k.2 p.small h.2 f v)
