-- Calls by name: of the language's own functions, and of the program's.
use Rattle.std.proofs.Common.{◌≡◌, ℕ, ◌+◌, List, [], ◌∷◌, ◌++◌, length, reverse, slice_get, Option, Some, None, refl, sym, ◌∙◌, ap, subst, arith}
use Rattle.std.specs.Prelude.{Bool, true, false, ℤ, pos, ⊤, is_some, option_and_then, unwrap_or, if◌then◌else◌}
use Rattle.std.specs.Int.{w32, int_wrap}
use Rattle.std.proofs.lemmas.Bool.{false≢true}
use Rattle.rtio_types.specs.declared.request.Request.TheVariants as Q
use Rattle.rtio_types.specs.declared.request.Reply.{Reply}
use Rattle.rtio_types.specs.declared.request.Value.TheVariants as W
use Rattle.kern_syntax.specs.Tree.{Bytes, Expression, variable, group, Arguments, no_more, value_then, text_then}
use Rattle.kern_calls.specs.declared.types.ValueType.TheVariants as V
use Rattle.kern_expression_types.specs.Before.{is_in}
use Rattle.kern_calls.specs.declared.calls.Builtin.{Builtin}
use Rattle.kern_calls.specs.declared.calls.Builtin.TheVariants.{NowMu, AtMu, DelayMu, SetDataset, Len, ToInt32, ToInt64}
use Rattle.kern_calls.specs.Calls.{look_up, builtin_result}
use Rattle.timeline_sem.specs.Actions.{State, normal, give, go_on as then_act, ◌>>=◌}
use Rattle.timeline_sem.specs.Expressions.{Callee, expression, arguments, number_in_value, list_in_value, value_of, read, array_in, array_or_number, dataset_value, text_in, perform_builtin, perform_call}
use Rattle.timeline_sem.specs.Timeline.{no_value, tell}
use Rattle.timeline_sem.proofs.Keeps.{Keeps, keeps_builtin}
use Rattle.core_isa.specs.declared.code.Code.{Code}
use Rattle.core_isa.specs.declared.code.CodeLine.{CodeLine}
use Rattle.core_isa.specs.declared.code.Mark.{Mark}
use Rattle.core_isa.specs.declared.instr.Instr.TheVariants as I
use Rattle.code_forms.specs.Setting as C
use Rattle.code_forms.specs.ExpressionCode.{numbers_in}
use Rattle.code_forms.specs.Lines.{straight}
use Rattle.code_forms.specs.Texts.{argument_texts}
use Rattle.code_forms.specs.Operations.{array_argument, builtin_instrs, call_instrs, call_has_value, takes_numbers}
use Rattle.code_follows.specs.Stands.{holding, Setting, Fits64, AllFit64, result_operands}
use Rattle.code_follows.specs.Parts.{Moved, Follows, Stand, alone}
use Rattle.code_follows.proofs.Compose.{moved, moves_of, follows_bind, follows_if, follows_same, by_fits}
use Rattle.code_follows.proofs.Datasets.{follows_data_number, follows_data_list, follows_length}
use Rattle.code_follows.proofs.Instructions.{follows_quiet, follows_now, follows_at, follows_delay}
use Rattle.code_follows.proofs.Lines.{LinesStand, first_part, second_part, straight_stands}
use Rattle.code_follows.proofs.Operators.{follows_kept, fits_narrowed}
use Rattle.code_follows.proofs.TimedCalls.{follows_no_value}
use Rattle.code_forms.specs.Suited.{builtin_numbers, builtin_takes_text, IsAnArray, HasWhatItTakes}
use Rattle.code_meaning.proofs.Known.{TextsIn, its_text, Known, At, follows_to}
use Rattle.code_meaning.proofs.Methods.{by_none, by_one}

-- a value that isn't an array's is a number
dataset_number : (cs : C.Setting) (args : Arguments) (n : ℤ) → array_argument cs args ≡ None → dataset_value cs.scope args n ≡ give (W.Int n)
dataset_number cs no_more n e = refl
dataset_number cs (text_then text rest) n e = dataset_number cs rest n e
dataset_number cs (value_then x rest) n e = ap (λ o. array_or_number o n) e

dataset_array : (cs : C.Setting) (args : Arguments) (n : ℤ) (x : Bytes) → array_argument cs args ≡ Some x → dataset_value cs.scope args n ≡ read x
dataset_array cs no_more n x e = absurd (false≢true (ap is_some e))
dataset_array cs (text_then text rest) n x e = dataset_array cs rest n x e
dataset_array cs (value_then a rest) n x e = ap (λ o. array_or_number o n) e

-- an array as a call's only argument is read, and changes nothing
module _ (cs : C.Setting) (callee : Callee) where
  quiet_array : (e : Expression) (x : Bytes) → array_in cs.scope e ≡ Some x → (s : State) → (n : ℤ) × (expression cs.scope callee e s ≡ normal n s)
  quiet_array (variable y) x e s = (number_in_value (value_of s.values y), refl)
  quiet_array (group a) x e s = quiet_array a x e s
  quiet_array _ x e s = absurd (false≢true (ap is_some e))

  no_numbers : (args : Arguments) → numbers_in args ≡ 0 → (s : State) → arguments cs.scope callee args s ≡ normal [] s
  no_numbers no_more e s = refl
  no_numbers (text_then text rest) e s = no_numbers rest e s
  no_numbers (value_then a rest) e s = absurd (omega (arith, e))

  quiet_arguments : (args : Arguments) (x : Bytes) → array_argument cs args ≡ Some x → numbers_in args ≡ 1 → (s : State) → (n : ℤ) × (arguments cs.scope callee args s ≡ normal (n ∷ []) s)
  quiet_arguments no_more x e one s = absurd (false≢true (ap is_some e))
  quiet_arguments (text_then text rest) x e one s = quiet_arguments rest x e one s
  quiet_arguments (value_then a rest) x e one s =
      let first = quiet_array a x e s in
      let others = no_numbers rest (omega (arith, one)) s in
      (first.0, ap (λ c. then_act c (λ v. arguments cs.scope callee rest >>= λ vs. give (v ∷ vs))) first.1 ∙ ap (λ c. then_act c (λ vs. give (first.0 ∷ vs))) others)

takes_none : (a : Option Bytes) → takes_numbers a None ≡ true
takes_none None = refl
takes_none (Some x) = refl

never_long : (a : Option Bytes) → takes_numbers a (Some Len) ≡ true → ⊥
never_long None e = false≢true e
never_long (Some x) e = false≢true e

not_array : (a : Option Bytes) → takes_numbers a (Some SetDataset) ≡ true → a ≡ None
not_array None e = refl
not_array (Some x) e = absurd (false≢true e)

-- the text of a call is among those of the code, where it takes one
pub call_text : (cs : C.Setting) (plain : List Bytes) (in_record : Bool) (f : Bytes) (args : Arguments) (array : Option Bytes) (b : Option Builtin) → HasWhatItTakes cs plain in_record f args array b → TextsIn cs.texts (argument_texts args) → (b' : Builtin) → b ≡ Some b' → builtin_takes_text b' ≡ true → is_in cs.texts (text_in args) ≡ true
call_text cs plain in_record f args array None has t b' e takes = absurd (false≢true (ap is_some e))
call_text cs plain in_record f args array (Some b) has t b' e takes =
    let same : b ≡ b' = ap (λ o. unwrap_or o b) e in
    its_text cs.texts args (has.1 (ap builtin_takes_text same ∙ takes)) t

module _ (given : List Reply) (code : Code) (cs : C.Setting) (plain : List Bytes) (callee : Callee) (room free : ℕ) (in_record : Bool) (known : Known given code cs plain callee room) (setting : Setting) (at : At cs room free in_record setting) (most : ℕ) (f : Bytes) (args : Arguments) where
  -- a function of the language, once its numbers are there
  abbrev pub Does : Option Bytes → Builtin → ℕ → List ℤ → Type 0
  Does array b first ns =
      Stand code.lines first (builtin_instrs cs (text_in args) array b)
      → Follows given code ⊤ most (alone setting) first (first + length (builtin_instrs cs (text_in args) array b)) (holding (reverse ns)) Fits64 (λ v. holding (result_operands (is_some (builtin_result b)) v)) (perform_builtin cs.scope b args ns)

  follows_builtin : (array : Option Bytes) (b : Builtin) (first : ℕ) → array_argument cs args ≡ array → takes_numbers array (Some b) ≡ true → (builtin_takes_text b ≡ true → slice_get code.names (C.index_of_text cs (text_in args)) ≡ Some (text_in args)) → (ns : List ℤ) → length ns ≡ builtin_numbers b → AllFit64 ns → Does array b first ns
  follows_builtin array NowMu first is takes named ns e fit = by_none (Does array NowMu first) (λ st. follows_now given code [] [] st) ns e
  follows_builtin array AtMu first is takes named ns e fit = by_one (Does array AtMu first) (λ a fa st. follows_no_value given code (follows_at given code [] [] a (λ p. fa) st)) ns e fit
  follows_builtin array DelayMu first is takes named ns e fit = by_one (Does array DelayMu first) (λ a fa st. follows_no_value given code (follows_delay given code [] [] a st)) ns e fit
  follows_builtin array SetDataset first is takes named ns e fit =
      let none = not_array array takes in
      let k = C.index_of_text cs (text_in args) in
      subst (λ o. Does o SetDataset first ns) (sym none) (by_one (Does None SetDataset first) (λ a fa st.
      subst (λ g. Follows given code ⊤ most (alone setting) first (first + 1) (holding (a ∷ [])) Fits64 (λ v. holding []) (g >>= λ new. no_value (tell (Q.Data (text_in args) new)))) (sym (dataset_number cs args a (is ∙ none))) (follows_same given code (λ s. refl) (follows_no_value given code (follows_data_number given code k (text_in args) a (named refl) st)))) ns e fit)
  follows_builtin array Len first is takes named ns e fit = absurd (never_long array takes)
  follows_builtin array ToInt32 first is takes named ns e fit =
      by_one (Does array ToInt32 first) (λ a fa st. follows_quiet given code {results = λ v. v ∷ []} I.Wrap32 st (int_wrap w32 a) (λ p. fits_narrowed V.Int32 a fa) (λ around s free count. refl)) ns e fit
  follows_builtin array ToInt64 first is takes named ns e fit = by_one (Does array ToInt64 first) (λ a fa st. follows_kept given code first [] [] a (λ p. fa)) ns e fit

  -- a function of the language that takes an array
  quiet_data : (x : Bytes) → array_argument cs args ≡ Some x → numbers_in args ≡ 1 → (s : State) → no_value (read x >>= λ held. tell (Q.Data (text_in args) held)) s ≡ (arguments cs.scope callee args >>= λ ns. perform_builtin cs.scope SetDataset args ns) s
  quiet_data x e one s =
      let q = quiet_arguments cs callee args x e one s in
      sym (ap (λ c. then_act c (λ ns. perform_builtin cs.scope SetDataset args ns)) q.1 ∙ ap (λ g. then_act (g s) (λ new. no_value (tell (Q.Data (text_in args) new)))) (dataset_array cs args q.0 x e))

  quiet_length : (x : Bytes) → array_argument cs args ≡ Some x → numbers_in args ≡ 1 → (s : State) → (read x >>= λ held. give (pos (length (list_in_value held)))) s ≡ (arguments cs.scope callee args >>= λ ns. perform_builtin cs.scope Len args ns) s
  quiet_length x e one s =
      let q = quiet_arguments cs callee args x e one s in
      sym (ap (λ c. then_act c (λ ns. perform_builtin cs.scope Len args ns)) q.1 ∙ ap (λ g. then_act (g s) (λ held. give (pos (length (list_in_value held))))) (dataset_array cs args (pos 0) x e))

  abbrev pub Quiet : Option Bytes → Builtin → ℕ → Type 0
  Quiet array b first =
      Stand code.lines first (builtin_instrs cs (text_in args) array b)
      → Follows given code ⊤ most (alone setting) first (first + length (builtin_instrs cs (text_in args) array b)) (holding []) Fits64 (λ v. holding (result_operands (is_some (builtin_result b)) v)) (arguments cs.scope callee args >>= λ ns. perform_builtin cs.scope b args ns)

  -- the array's slots and its length are those that the code's functions say
  same_array : (x : Bytes) (n : ℕ) → look_up cs.scope.names x ≡ Some (V.Array n) → C.length_of cs x ≡ n
  same_array x n found = ap C.length_in found

  here : (x : Bytes) (n : ℕ) → look_up cs.scope.names x ≡ Some (V.Array n) → look_up setting.names x ≡ Some (V.Array n)
  here x n found = subst (λ ns. look_up ns x ≡ Some (V.Array n)) (sym at.names) found

  follows_quietly : (array : Option Bytes) (b : Builtin) (first : ℕ) → array_argument cs args ≡ array → takes_numbers array (Some b) ≡ false → numbers_in args ≡ builtin_numbers b → IsAnArray cs array → (builtin_takes_text b ≡ true → slice_get code.names (C.index_of_text cs (text_in args)) ≡ Some (text_in args)) → Quiet array b first
  follows_quietly None b first is takes one an named = absurd an
  follows_quietly (Some x) SetDataset first is takes one an named =
      λ st.
      let k = C.index_of_text cs (text_in args) in
      let s1 = subst (λ n. Stand code.lines first (I.DataList k (C.slot_in cs.scope.names x) n ∷ [])) (same_array x an.0 an.1) st in
      let s2 = subst (λ ns. Stand code.lines first (I.DataList k (C.slot_in ns x) an.0 ∷ [])) (sym at.names) s1 in
      follows_same given code (quiet_data x is one) (follows_no_value given code (follows_data_list given code {setting = alone setting} k (text_in args) x an.0 (named refl) (here x an.0 an.1) s2))
  follows_quietly (Some x) Len first is takes one an named =
      λ st.
      let s1 = subst (λ n. Stand code.lines first (I.Const (pos n) ∷ [])) (same_array x an.0 an.1) st in
      follows_same given code (quiet_length x is one) (follows_length given code {setting = alone setting} x an.0 (here x an.0 an.1) an.2 s1)
  follows_quietly (Some x) NowMu first is takes one an named = absurd (false≢true (sym takes))
  follows_quietly (Some x) AtMu first is takes one an named = absurd (false≢true (sym takes))
  follows_quietly (Some x) DelayMu first is takes one an named = absurd (false≢true (sym takes))
  follows_quietly (Some x) ToInt32 first is takes one an named = absurd (false≢true (sym takes))
  follows_quietly (Some x) ToInt64 first is takes one an named = absurd (false≢true (sym takes))

  keeps_named : (b : Option Builtin) (ns : List ℤ) → Keeps Moved Moved moved (perform_call cs.scope callee f b args ns)
  keeps_named None ns = known.moves f ns
  keeps_named (Some b) ns = keeps_builtin Moved Moved moved cs.scope b args ns

  -- the arguments, and then the call
  module _ (mark above : Mark) (place n : ℕ) (numbers : List CodeLine) (long : length numbers ≡ n) where
    abbrev pub Numbers : Type 0
    Numbers =
        LinesStand code.lines place numbers
        → Follows given code ⊤ most (alone setting) place (place + n) (holding []) (λ ns. (length ns ≡ numbers_in args) × AllFit64 ns) (λ ns. holding (reverse ns)) (arguments cs.scope callee args)

    abbrev pub Whole : Bool → Option Bytes → Option Builtin → Type 0
    Whole takes array b =
        LinesStand code.lines place (if takes then (numbers ++ straight above (call_instrs cs f (text_in args) array b)) else straight mark (call_instrs cs f (text_in args) array b))
        → Follows given code ⊤ most (alone setting) place (place + ((if takes then n else 0) + length (call_instrs cs f (text_in args) array b))) (holding []) Fits64 (λ v. holding (result_operands (call_has_value cs f b) v)) (arguments cs.scope callee args >>= λ ns. perform_call cs.scope callee f b args ns)

    with_numbers : (array : Option Bytes) (b : Option Builtin) → Numbers → ((ns : List ℤ) → length ns ≡ numbers_in args → AllFit64 ns → Stand code.lines (place + n) (call_instrs cs f (text_in args) array b) → Follows given code ⊤ most (alone setting) (place + n) (place + n + length (call_instrs cs f (text_in args) array b)) (holding (reverse ns)) Fits64 (λ v. holding (result_operands (call_has_value cs f b) v)) (perform_call cs.scope callee f b args ns)) → Whole true array b
    with_numbers array b fn fc s =
        let is = call_instrs cs f (text_in args) array b in
        let sn = first_part code.lines place numbers (straight above is) s in
        let si = straight_stands code.lines (place + n) above is (second_part code.lines place n numbers (straight above is) long s) in
        let past : place + n + length is ≡ place + (n + length is) = omega arith in
        follows_to given code past (follows_bind given code (fn sn) (λ ns. by_fits given code (moves_of (keeps_named b ns)) (λ p. p.1) (λ good. follows_if given code (λ p. tt) (fc ns good.0 good.1 si))))

    -- a call by name
    pub follows_call_by : (array : Option Bytes) (b : Option Builtin) → array_argument cs args ≡ array → HasWhatItTakes cs plain in_record f args array b → ((b' : Builtin) → b ≡ Some b' → builtin_takes_text b' ≡ true → slice_get code.names (C.index_of_text cs (text_in args)) ≡ Some (text_in args)) → (takes : Bool) → takes_numbers array b ≡ takes → (takes ≡ true → Numbers) → Whole takes array b
    follows_call_by array None is has named true takes fn =
        with_numbers array None (fn refl) (λ ns many fit st.
        let called = has.0 in
        let value : is_some called.result ≡ call_has_value cs f None = sym (ap (λ o. is_some (option_and_then (λ g. g.result) o)) has.1) in
        subst (λ t. Follows given code ⊤ most (alone setting) (place + n) (place + n + 1) (holding (reverse ns)) Fits64 (λ v. holding (result_operands t v)) (callee f ns)) value (known.calls f called has.1 ns (has.2 ∙ sym many) fit most (alone setting) (place + n) at.room (λ e. has.3 (at.outside e)) st))
    follows_call_by array None is has named false takes fn = absurd (false≢true (sym takes ∙ takes_none array))
    follows_call_by array (Some b) is has named true takes fn =
        with_numbers array (Some b) (fn refl) (λ ns many fit st. follows_builtin array b (place + n) is takes (named b refl) ns (many ∙ has.0) fit st)
    follows_call_by array (Some b) is has named false takes fn =
        λ s.
        let k = length (builtin_instrs cs (text_in args) array b) in
        let past : place + k ≡ place + (0 + k) = omega arith in
        follows_to given code past (follows_quietly array b place is takes has.0 (has.2 takes) (named b refl) (straight_stands code.lines place mark (builtin_instrs cs (text_in args) array b) s))
