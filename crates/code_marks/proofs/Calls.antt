-- Calls by name: the instructions of the language's own functions and of calls of the program's meet the conditions on marks.
use Rattle.std.proofs.Common.{◌≡◌, ℕ, ◌+◌, ◌-◌, List, length, Option, Some, None, refl, sym, ◌∙◌, ap, arith}
use Rattle.std.specs.Prelude.{Bool, true, false, not, ◌||◌, ◌==◌, pos, IsTrue, is_some, option_and_then, if◌then◌else◌}
use Rattle.std.proofs.lemmas.Bool.{false≢true}
use Rattle.kern_syntax.specs.Tree.{Bytes, Arguments}
use Rattle.kern_calls.specs.declared.calls.Builtin.{Builtin}
use Rattle.kern_calls.specs.declared.calls.Builtin.TheVariants.{NowMu, AtMu, DelayMu, SetDataset, Len, ToInt32, ToInt64}
use Rattle.kern_calls.specs.Calls.{builtin_result}
use Rattle.timeline_sem.specs.Expressions.{text_in}
use Rattle.core_isa.specs.declared.code.Code.{Code}
use Rattle.core_isa.specs.declared.code.CodeFunction.{CodeFunction}
use Rattle.core_isa.specs.declared.code.Mark.{Mark}
use Rattle.core_isa.specs.declared.instr.Instr.TheVariants as I
use Rattle.core_isa.specs.Marks.{after, values_of}
use Rattle.code_forms.specs.ExpressionCode.{numbers_in}
use Rattle.code_forms.specs.Lines.{raised, straight}
use Rattle.code_forms.specs.Operations.{builtin_instrs, call_instrs, call_has_value, takes_numbers}
use Rattle.code_forms.specs.Setting as C
use Rattle.code_forms.specs.Setting.{slot_of, length_of, index_of_text, index_of_function}
use Rattle.code_forms.specs.StatementCode.{result_mark}
use Rattle.code_forms.specs.Suited.{IsStill, call_is_live, IsAnArray, HasWhatItTakes}
use Rattle.code_forms.specs.Texts.{argument_texts}
use Rattle.code_marks.proofs.Held.{Held, IsOutside, HasTexts, its_name, has_array}
use Rattle.code_marks.proofs.Instructions.{simple, simple_live, calls}
use Rattle.code_marks.proofs.Parts.{StandIn, Part, Gives, same_mark, part_to, one_part, straight_to}

-- the mark with a value more, where there is one
pub result_is : (mark : Mark) (b : Bool) (h : ℕ) → h ≡ mark.height + (if b then 1 else 0) → record mark { height = h } ≡ result_mark b mark
result_is mark true h e = same_mark _ _ e refl refl
result_is mark false h e = let same : h ≡ mark.height = omega (arith, e) in same_mark _ _ same refl refl

-- what is live stands outside
pub live_outside : (f : CodeFunction) (d : Bool) (mark : Mark) (live : Bool) → IsOutside f d mark → IsStill d live → live ≡ true → (mark.rec ≡ 0) × (f.plain ≡ false)
live_outside f true mark live outside still e = absurd (false≢true (sym (still refl) ∙ e))
live_outside f false mark live outside still e = outside refl

module _ (code : Code) (k : ℕ) (f : CodeFunction) (cs : C.Setting) (plain : List Bytes) (held : Held code f cs plain) (d : Bool) (name : Bytes) (args : Arguments) (texts : HasTexts cs (argument_texts args)) where
  abbrev n : ℕ
  n = numbers_in args

  -- a function of the language, once its numbers are there
  builtin_gives : (array : Option Bytes) (b : Builtin) (place : ℕ) (mark : Mark) → takes_numbers array (Some b) ≡ true → HasWhatItTakes cs plain d name args array (Some b) → IsOutside f d mark → IsStill d (call_is_live (Some b)) → Gives code k f place (raised n mark) (builtin_instrs cs (text_in args) array b) (result_mark (is_some (builtin_result b)) mark)
  builtin_gives array NowMu place mark takes has outside still = ((simple code k f I.Now refl tt (omega arith), tt), same_mark _ _ (omega (arith, has.0)) refl refl)
  builtin_gives array AtMu place mark takes has outside still = ((simple code k f I.At refl tt (omega (arith, has.0)), tt), same_mark _ _ (omega (arith, has.0)) refl refl)
  builtin_gives array DelayMu place mark takes has outside still = ((simple code k f I.Delay refl tt (omega (arith, has.0)), tt), same_mark _ _ (omega (arith, has.0)) refl refl)
  builtin_gives None SetDataset place mark takes has outside still =
      let named = its_name code f cs plain held args (text_in args) (has.1 refl) texts in
      ((simple_live code k f (I.DataInt (index_of_text cs (text_in args))) (live_outside f d mark true outside still refl) named (omega (arith, has.0)), tt), same_mark _ _ (omega (arith, has.0)) refl refl)
  builtin_gives (Some x) SetDataset place mark takes has outside still = absurd (false≢true takes)
  builtin_gives None Len place mark takes has outside still = absurd (false≢true takes)
  builtin_gives (Some x) Len place mark takes has outside still = absurd (false≢true takes)
  builtin_gives array ToInt32 place mark takes has outside still = ((simple code k f I.Wrap32 refl tt (omega (arith, has.0)), tt), same_mark _ _ (omega (arith, has.0)) refl refl)
  builtin_gives array ToInt64 place mark takes has outside still = (tt, same_mark _ _ (omega (arith, has.0)) refl refl)

  -- one that is given an array
  array_gives : (array : Option Bytes) (b : Builtin) (place : ℕ) (mark : Mark) → takes_numbers array (Some b) ≡ false → HasWhatItTakes cs plain d name args array (Some b) → IsOutside f d mark → IsStill d (call_is_live (Some b)) → Gives code k f place mark (builtin_instrs cs (text_in args) array b) (result_mark (is_some (builtin_result b)) mark)
  array_gives (Some x) SetDataset place mark takes has outside still =
      let named = its_name code f cs plain held args (text_in args) (has.1 refl) texts in
      let given : IsAnArray cs (Some x) = has.2 refl in
      ((simple_live code k f (I.DataList (index_of_text cs (text_in args)) (slot_of cs x) (length_of cs x)) (live_outside f d mark true outside still refl) (named, has_array code f cs plain held x given.0 given.1) (omega arith), tt), same_mark _ _ (omega arith) refl refl)
  array_gives None Len place mark takes has outside still = ((simple code k f (I.Const (pos 0)) refl tt (omega arith), tt), same_mark _ _ (omega arith) refl refl)
  array_gives (Some x) Len place mark takes has outside still = ((simple code k f (I.Const (pos (length_of cs x))) refl tt (omega arith), tt), same_mark _ _ (omega arith) refl refl)
  array_gives None SetDataset place mark takes has outside still = absurd (false≢true (sym takes))
  array_gives None NowMu place mark takes has outside still = absurd (false≢true (sym takes))
  array_gives None AtMu place mark takes has outside still = absurd (false≢true (sym takes))
  array_gives None DelayMu place mark takes has outside still = absurd (false≢true (sym takes))
  array_gives None ToInt32 place mark takes has outside still = absurd (false≢true (sym takes))
  array_gives None ToInt64 place mark takes has outside still = absurd (false≢true (sym takes))
  array_gives (Some x) NowMu place mark takes has outside still = absurd (false≢true (sym takes))
  array_gives (Some x) AtMu place mark takes has outside still = absurd (false≢true (sym takes))
  array_gives (Some x) DelayMu place mark takes has outside still = absurd (false≢true (sym takes))
  array_gives (Some x) ToInt32 place mark takes has outside still = absurd (false≢true (sym takes))
  array_gives (Some x) ToInt64 place mark takes has outside still = absurd (false≢true (sym takes))

  -- a called function is plain where a recording may be open, or where the caller is plain
  plain_where : (mark : Mark) (is_plain called_plain : Bool) → IsOutside f d mark → (d ≡ true → is_plain ≡ true) → (is_plain ≡ true → called_plain ≡ true) → IsTrue (f.plain || not (mark.rec == 0)) → called_plain ≡ true
  plain_where mark is_plain called_plain outside must may e = by_place d refl
    where
      by_place : (b : Bool) → d ≡ b → called_plain ≡ true
      by_place true q = may (must q)
      by_place false q =
          let o = outside q in
          let none : (f.plain || not (mark.rec == 0)) ≡ false = ap (λ b. b || not (mark.rec == 0)) o.1 ∙ ap (λ r. not (r == 0)) o.0 in
          absurd (false≢true (sym none ∙ e))

  -- a call of a function of the program
  program_part : (array : Option Bytes) (place : ℕ) (mark : Mark) → HasWhatItTakes cs plain d name args array None → IsOutside f d mark → StandIn code k place (straight (raised n mark) (call_instrs cs name (text_in args) array None)) → Part code k f place (place + 1) (raised n mark) (result_mark (call_has_value cs name None) mark)
  program_part array place mark has outside s =
      let c = held.callable name has.0 has.1 in
      let value : call_has_value cs name None ≡ c.entry.value = ap (λ o. is_some (option_and_then (λ g. g.result) o)) has.1 ∙ sym c.value in
      let height : mark.height + n - c.entry.params + values_of c.entry ≡ mark.height + values_of c.entry = omega (arith, has.2, c.params) in
      let next = after (raised n mark) c.entry.params (values_of c.entry) in
      let is : next ≡ result_mark (call_has_value cs name None) mark = result_is mark c.entry.value (mark.height + n - c.entry.params + values_of c.entry) height ∙ ap (λ b. result_mark b mark) (sym value) in
      part_to code k f refl is (one_part code k f place (raised n mark) next (I.Call (index_of_function cs name)) s.0 s.1 (calls code k f (index_of_function cs name) c.entry c.there (omega (arith, has.2, c.params)) (plain_where mark _ c.entry.plain outside has.3 c.plain)))

  -- a call by name, once its numbers are there
  pub numbers_part : (array : Option Bytes) (o : Option Builtin) (place : ℕ) (mark : Mark) → takes_numbers array o ≡ true → HasWhatItTakes cs plain d name args array o → IsOutside f d mark → IsStill d (call_is_live o) → StandIn code k place (straight (raised n mark) (call_instrs cs name (text_in args) array o)) → Part code k f place (place + length (call_instrs cs name (text_in args) array o)) (raised n mark) (result_mark (call_has_value cs name o) mark)
  numbers_part array None place mark takes has outside still s = program_part array place mark has outside s
  numbers_part array (Some b) place mark takes has outside still s =
      straight_to code k f place (raised n mark) (result_mark (is_some (builtin_result b)) mark) (builtin_instrs cs (text_in args) array b) s (builtin_gives array b place mark takes has outside still)

  -- and one that is given an array
  pub array_part : (array : Option Bytes) (o : Option Builtin) (place : ℕ) (mark : Mark) → takes_numbers array o ≡ false → HasWhatItTakes cs plain d name args array o → IsOutside f d mark → IsStill d (call_is_live o) → StandIn code k place (straight mark (call_instrs cs name (text_in args) array o)) → Part code k f place (place + length (call_instrs cs name (text_in args) array o)) mark (result_mark (call_has_value cs name o) mark)
  array_part None None place mark takes has outside still s = absurd (false≢true (sym takes))
  array_part (Some x) None place mark takes has outside still s = absurd (false≢true (sym takes))
  array_part array (Some b) place mark takes has outside still s =
      straight_to code k f place mark (result_mark (is_some (builtin_result b)) mark) (builtin_instrs cs (text_in args) array b) s (array_gives array b place mark takes has outside still)
