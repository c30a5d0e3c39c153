-- What holds of a function of the code: its slots, its names and the functions that it calls.
use Rattle.std.proofs.Common.{◌≡◌, ℕ, ◌+◌, ◌<◌, ◌≤◌, List, [], ◌∷◌, ◌++◌, length, Some, None, slice_get, refl, sym, ap, subst, arith, length-append}
use Rattle.std.specs.Prelude.{Bool, true, false, nat_lt, bytes_eq, is_some, unwrap_or, if◌then◌else◌}
use Rattle.std.specs.List.{position, position_or_len}
use Rattle.std.proofs.lemmas.Bool.{false≢true}
use Rattle.kern_syntax.specs.Tree.{Bytes, Arguments, no_more, value_then, text_then, FunctionTree}
use Rattle.kern_calls.specs.declared.types.ValueType.{ValueType}
use Rattle.kern_calls.specs.declared.types.ValueType.TheVariants as V
use Rattle.kern_calls.specs.Calls.{look_up}
use Rattle.kern_calls.specs.Types.{Names, function_named}
use Rattle.kern_expression_types.specs.Before.{is_in}
use Rattle.core_isa.specs.declared.code.Code.{Code}
use Rattle.core_isa.specs.declared.code.CodeFunction.{CodeFunction}
use Rattle.core_isa.specs.declared.code.Mark.{Mark}
use Rattle.core_isa.specs.Marks.{HasArray, HasName}
use Rattle.code_forms.specs.Setting as C
use Rattle.code_forms.specs.Setting.{size_of, slots_of_names, slot_in, slot_of, length_in, length_of, index_of_text, index_of_function}
use Rattle.code_forms.specs.Suited.{IsArrayName, IsSized, AreSized, has_text}
use Rattle.code_forms.specs.Texts.{expression_texts, argument_texts}

-- the entry of a called function is as its header says, and plain where it must be
pub record Callable (code : Code) (index : ℕ) (called : FunctionTree) (is_plain : Bool) : Type 0 where
  pub entry : CodeFunction
  pub there : slice_get code.functions index ≡ Some entry
  pub params : entry.params ≡ length called.parameters
  pub value : entry.value ≡ is_some called.result
  pub plain : is_plain ≡ true → entry.plain ≡ true

-- a function of the code has slots for its names, whose arrays have some numbers, and the functions that it calls are there
pub record Held (code : Code) (f : CodeFunction) (cs : C.Setting) (plain : List Bytes) : Type 0 where
  pub slots : slots_of_names cs.scope.names ≤ f.slots
  pub sized : AreSized cs.scope.names
  pub texts : length code.names ≡ length cs.texts
  pub value : f.value ≡ cs.value
  pub callable : (name : Bytes) (called : FunctionTree) → function_named cs.scope.program name ≡ Some called → Callable code (index_of_function cs name) called (is_in plain name)

-- where no recording may be open, none is, and the function isn't plain
abbrev pub IsOutside : CodeFunction → (in_record : Bool) → Mark → Type 0
IsOutside f d mark = d ≡ false → (mark.rec ≡ 0) × (f.plain ≡ false)

-- the code has names, if there are any texts
abbrev pub HasTexts : C.Setting → List Bytes → Type 0
HasTexts cs texts = 1 ≤ length texts → 1 ≤ length cs.texts

pub in_front : (cs : C.Setting) (a b : List Bytes) → HasTexts cs (a ++ b) → HasTexts cs a
in_front cs a b t some = t (omega (arith, some, length-append a b))

pub in_back : (cs : C.Setting) (a b : List Bytes) → HasTexts cs (a ++ b) → HasTexts cs b
in_back cs a b t some = t (omega (arith, some, length-append a b))

some_texts : (args : Arguments) → has_text args ≡ true → 1 ≤ length (argument_texts args)
some_texts no_more e = absurd (false≢true e)
some_texts (value_then x rest) e = omega (arith, some_texts rest e, length-append (expression_texts x) (argument_texts rest))
some_texts (text_then text rest) e = omega arith

position_within : {A : Type 0} (p : A → Bool) (xs : List A) → 1 ≤ length xs → unwrap_or (position p xs) 0 < length xs
position_within p xs some = by_test (nat_lt (position_or_len p xs) (length xs)) refl
  where
    by_test : (b : Bool) → nat_lt (position_or_len p xs) (length xs) ≡ b → unwrap_or (if b then Some (position_or_len p xs) else None) 0 < length xs
    by_test true e = grind (arith, e)
    by_test false e = omega (arith, some)

-- a text's index is that of a name of the code
pub has_name : (code : Code) (f : CodeFunction) (cs : C.Setting) (plain : List Bytes) → Held code f cs plain → (text : Bytes) → 1 ≤ length cs.texts → HasName code (index_of_text cs text)
has_name code f cs plain held text some = omega (arith, position_within (bytes_eq text) cs.texts some, held.texts)

pub its_name : (code : Code) (f : CodeFunction) (cs : C.Setting) (plain : List Bytes) → Held code f cs plain → (args : Arguments) (text : Bytes) → has_text args ≡ true → HasTexts cs (argument_texts args) → HasName code (index_of_text cs text)
its_name code f cs plain held args text e t = has_name code f cs plain held text (t (some_texts args e))

-- the slots of a name
own_slots : (ns : Names) (x : Bytes) (t : ValueType) → look_up ns x ≡ Some t → slot_in ns x + size_of t ≤ slots_of_names ns
own_slots [] x t e = absurd (false≢true (ap is_some e))
own_slots (m ∷ ns) x t e = by_test (bytes_eq x m.0) e (own_slots ns x t)
  where
    by_test : (b : Bool) → (if b then Some m.1 else look_up ns x) ≡ Some t → (look_up ns x ≡ Some t → slot_in ns x + size_of t ≤ slots_of_names ns) → (if b then 0 else size_of m.1 + slot_in ns x) + size_of t ≤ size_of m.1 + slots_of_names ns
    by_test true e' k = let same : m.1 ≡ t = ap (λ o. unwrap_or o m.1) e' in let sizes : size_of m.1 ≡ size_of t = ap size_of same in omega (arith, sizes)
    by_test false e' k = omega (arith, k e')

sized_in : (ns : Names) (x : Bytes) (n : ℕ) → AreSized ns → look_up ns x ≡ Some (V.Array n) → 1 ≤ n
sized_in [] x n s e = absurd (false≢true (ap is_some e))
sized_in (m ∷ ns) x n s e = by_test (bytes_eq x m.0) e (sized_in ns x n s.1)
  where
    by_test : (b : Bool) → (if b then Some m.1 else look_up ns x) ≡ Some (V.Array n) → (look_up ns x ≡ Some (V.Array n) → 1 ≤ n) → 1 ≤ n
    by_test true e' k = let sizes : IsSized (V.Array n) = subst IsSized (ap (λ o. unwrap_or o m.1) e') s.0 in sizes.0
    by_test false e' k = k e'

-- an array of the function has its slots
pub has_array : (code : Code) (f : CodeFunction) (cs : C.Setting) (plain : List Bytes) → Held code f cs plain → (x : Bytes) (n : ℕ) → IsArrayName cs x n → HasArray f (slot_of cs x) (length_of cs x)
has_array code f cs plain held x n e =
    let long : length_of cs x ≡ n = ap length_in e in
    (subst (λ m. 1 ≤ m) (sym long) (sized_in cs.scope.names x n held.sized e), omega (arith, long, own_slots cs.scope.names x (V.Array n) e, held.slots))

-- a name of one number has its slot
pub has_slot : (code : Code) (f : CodeFunction) (cs : C.Setting) (plain : List Bytes) → Held code f cs plain → (x : Bytes) (t : ValueType) → look_up cs.scope.names x ≡ Some t → 1 ≤ size_of t → slot_of cs x < f.slots
has_slot code f cs plain held x t e one = omega (arith, own_slots cs.scope.names x t e, one, held.slots)
