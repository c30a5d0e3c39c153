-- When an instruction meets the conditions on marks.
use Rattle.std.proofs.Common.{◌≡◌, ℕ, ◌+◌, ◌-◌, ◌<◌, ◌≤◌, Option, Some, None, slice_get, refl, sym, ◌∙◌, arith}
use Rattle.std.specs.Prelude.{true, false, not, ◌||◌, ◌==◌, IsTrue}
use Rattle.std.proofs.lemmas.Bool.{false≢true}
use Rattle.core_isa.specs.declared.code.Code.{Code}
use Rattle.core_isa.specs.declared.code.CodeFunction.{CodeFunction}
use Rattle.core_isa.specs.declared.code.Mark.{Mark}
use Rattle.core_isa.specs.declared.instr.Instr.{Instr}
use Rattle.core_isa.specs.declared.instr.Instr.TheVariants as I
use Rattle.core_isa.specs.Marks.{function_index, Leads, effect, OperandsExist, is_live, LiveIsAllowed, takes_unit_first, BackTakesUnit, after, GoesOn, values_of, MarksFollow}
use Rattle.code_forms.specs.Lines.{with_handler, with_recording, mark_after}
use Rattle.code_marks.proofs.Parts.{HasMark, Allowed}

-- an instruction that goes on at the next place finds its operands
abbrev pub FindsOperands : Mark → Option (ℕ × ℕ) → Type 0
FindsOperands mark None = ⊥
FindsOperands mark (Some counts) = counts.0 ≤ mark.height

module _ (code : Code) (k : ℕ) (f : CodeFunction) where
  leads : (from to : ℕ) (mark : Mark) → HasMark code k to mark → function_index code from ≡ k → Leads code from to mark
  leads from to mark has same = record { same = has.same ∙ sym same; marked = has.marked }

  goes : (place : ℕ) (mark : Mark) (taken given : ℕ) → taken ≤ mark.height → HasMark code k (place + 1) (after mark taken given) → function_index code place ≡ k → GoesOn code place mark taken given
  goes place mark taken given less has same = (less, leads place (place + 1) (after mark taken given) has same)

  follows_simple : (place : ℕ) (mark : Mark) (i : Instr) → FindsOperands mark (effect i) → HasMark code k (place + 1) (mark_after mark i) → function_index code place ≡ k → MarksFollow code f place mark i
  follows_simple place mark (I.Const v) less has same = goes place mark 0 1 less has same
  follows_simple place mark (I.Load s) less has same = goes place mark 0 1 less has same
  follows_simple place mark (I.Store s) less has same = goes place mark 1 0 less has same
  follows_simple place mark (I.LoadAt s n) less has same = goes place mark 1 1 less has same
  follows_simple place mark (I.StoreAt s n) less has same = goes place mark 2 0 less has same
  follows_simple place mark I.Add less has same = goes place mark 2 1 less has same
  follows_simple place mark I.Sub less has same = goes place mark 2 1 less has same
  follows_simple place mark I.Mul less has same = goes place mark 2 1 less has same
  follows_simple place mark I.Div less has same = goes place mark 2 1 less has same
  follows_simple place mark I.Mod less has same = goes place mark 2 1 less has same
  follows_simple place mark I.And less has same = goes place mark 2 1 less has same
  follows_simple place mark I.Or less has same = goes place mark 2 1 less has same
  follows_simple place mark I.Xor less has same = goes place mark 2 1 less has same
  follows_simple place mark (I.Shl w) less has same = goes place mark 2 1 less has same
  follows_simple place mark (I.Shr w) less has same = goes place mark 2 1 less has same
  follows_simple place mark I.Neg less has same = goes place mark 1 1 less has same
  follows_simple place mark I.Inv less has same = goes place mark 1 1 less has same
  follows_simple place mark I.Wrap32 less has same = goes place mark 1 1 less has same
  follows_simple place mark I.Eq less has same = goes place mark 2 1 less has same
  follows_simple place mark I.Ne less has same = goes place mark 2 1 less has same
  follows_simple place mark I.Lt less has same = goes place mark 2 1 less has same
  follows_simple place mark I.Le less has same = goes place mark 2 1 less has same
  follows_simple place mark I.Max less has same = goes place mark 2 1 less has same
  follows_simple place mark I.Pop less has same = goes place mark 1 0 less has same
  follows_simple place mark I.Dup less has same = goes place mark 1 2 less has same
  follows_simple place mark I.Turn less has same = goes place mark 0 0 less has same
  follows_simple place mark I.Now less has same = goes place mark 0 1 less has same
  follows_simple place mark I.At less has same = goes place mark 1 0 less has same
  follows_simple place mark I.Delay less has same = goes place mark 1 0 less has same
  follows_simple place mark (I.Out channel address) less has same = goes place mark 1 0 less has same
  follows_simple place mark (I.OutTo channel) less has same = goes place mark 2 0 less has same
  follows_simple place mark I.Counter less has same = goes place mark 0 1 less has same
  follows_simple place mark I.Reset less has same = goes place mark 0 1 less has same
  follows_simple place mark I.Wait less has same = goes place mark 1 0 less has same
  follows_simple place mark (I.Edge channel) less has same = goes place mark 1 1 less has same
  follows_simple place mark (I.Play n) less has same = goes place mark 0 0 less has same
  follows_simple place mark I.PlayHandle less has same = goes place mark 1 0 less has same
  follows_simple place mark (I.Handle n) less has same = goes place mark 0 1 less has same
  follows_simple place mark (I.Erase n) less has same = goes place mark 0 0 less has same
  follows_simple place mark (I.DataInt n) less has same = goes place mark 1 0 less has same
  follows_simple place mark (I.DataList n s count) less has same = goes place mark 0 0 less has same
  follows_simple place mark (I.Fill s n) less has same = goes place mark 1 0 less has same
  follows_simple place mark (I.Jump p) less has same = absurd less
  follows_simple place mark (I.JumpZero p) less has same = absurd less
  follows_simple place mark (I.Call g) less has same = absurd less
  follows_simple place mark I.Return less has same = absurd less
  follows_simple place mark (I.Try p) less has same = absurd less
  follows_simple place mark I.EndTry less has same = absurd less
  follows_simple place mark I.Raise less has same = absurd less
  follows_simple place mark (I.Record n) less has same = absurd less
  follows_simple place mark I.Save less has same = absurd less

  -- an instruction that isn't live stands anywhere
  dull : (mark : Mark) (i : Instr) → is_live i ≡ false → LiveIsAllowed f mark i
  dull mark i isnt e = absurd (false≢true (sym isnt ∙ e))

  -- an instruction that goes on at the next place, and takes and leaves operands only
  pub simple : {place : ℕ} {mark : Mark} (i : Instr) → is_live i ≡ false → OperandsExist code f i → FindsOperands mark (effect i) → Allowed code k f place mark (mark_after mark i) i
  simple {place} {mark} i isnt exist less = record { exist = exist; live = dull mark i isnt; follow = follows_simple place mark i less }

  -- the same of a live one, outside recordings and plain functions
  pub simple_live : {place : ℕ} {mark : Mark} (i : Instr) → (mark.rec ≡ 0) × (f.plain ≡ false) → OperandsExist code f i → FindsOperands mark (effect i) → Allowed code k f place mark (mark_after mark i) i
  simple_live {place} {mark} i outside exist less = record { exist = exist; live = λ e. outside; follow = follows_simple place mark i less }

  -- jumps forward, and back to an instruction that takes a unit
  forward : (from to : ℕ) → from < to → BackTakesUnit code from to
  forward from to less back = absurd (omega (arith, less, back))

  pub jump : {place : ℕ} {mark next : Mark} (to : ℕ) → place < to → HasMark code k to mark → Allowed code k f place mark next (I.Jump to)
  jump {place} {mark} {next} to less there = record { exist = tt; live = dull mark (I.Jump to) refl; follow = λ has same. (leads place to mark there same, forward place to less) }

  pub jump_back : {place : ℕ} {mark next : Mark} (to : ℕ) → takes_unit_first (slice_get code.lines to) ≡ true → HasMark code k to mark → Allowed code k f place mark next (I.Jump to)
  jump_back {place} {mark} {next} to unit there = record { exist = tt; live = dull mark (I.Jump to) refl; follow = λ has same. (leads place to mark there same, λ back. unit) }

  pub test : {place : ℕ} {mark : Mark} (to : ℕ) → 1 ≤ mark.height → place < to → HasMark code k to (after mark 1 0) → Allowed code k f place mark (after mark 1 0) (I.JumpZero to)
  test {place} {mark} to some less there =
      record { exist = tt; live = dull mark (I.JumpZero to) refl; follow = λ has same. (goes place mark 1 0 some has same, leads place to (after mark 1 0) there same, forward place to less) }

  pub test_back : {place : ℕ} {mark : Mark} (to : ℕ) → 1 ≤ mark.height → takes_unit_first (slice_get code.lines to) ≡ true → HasMark code k to (after mark 1 0) → Allowed code k f place mark (after mark 1 0) (I.JumpZero to)
  test_back {place} {mark} to some unit there =
      record { exist = tt; live = dull mark (I.JumpZero to) refl; follow = λ has same. (goes place mark 1 0 some has same, leads place to (after mark 1 0) there same, λ back. unit) }

  -- handlers
  pub try_to : {place : ℕ} {mark : Mark} (to : ℕ) → mark.height ≡ 0 → place < to → HasMark code k to (record mark { height = 1 }) → Allowed code k f place mark (with_handler mark) (I.Try to)
  try_to {place} {mark} to none less there =
      record { exist = tt; live = dull mark (I.Try to) refl; follow = λ has same. (none, leads place (place + 1) (with_handler mark) has same, less, leads place to (record mark { height = 1 }) there same) }

  pub end_try : {place : ℕ} {mark : Mark} → 1 ≤ mark.tries → mark.rec ≤ mark.tries → Allowed code k f place mark (record mark { tries = mark.tries - 1 }) I.EndTry
  end_try {place} {mark} some within =
      record { exist = tt; live = dull mark I.EndTry refl; follow = λ has same. (some, within, leads place (place + 1) (record mark { tries = mark.tries - 1 }) has same) }

  pub raises : {place : ℕ} {mark next : Mark} → 1 ≤ mark.height → Allowed code k f place mark next I.Raise
  raises {place} {mark} {next} some = record { exist = tt; live = dull mark I.Raise refl; follow = λ has same. some }

  -- a function ends without handlers, with its value alone
  pub returns : {place : ℕ} {mark next : Mark} → mark.tries ≡ 0 → mark.rec ≡ 0 → mark.height ≡ values_of f → Allowed code k f place mark next I.Return
  returns {place} {mark} {next} tries rec height = record { exist = tt; live = dull mark I.Return refl; follow = λ has same. (tries, rec, height) }

  -- recordings
  pub opens : {place : ℕ} {mark : Mark} (n : ℕ) → (mark.rec ≡ 0) × (f.plain ≡ false) → OperandsExist code f (I.Record n) → Allowed code k f place mark (with_recording mark) (I.Record n)
  opens {place} {mark} n outside named =
      record { exist = named; live = λ e. outside; follow = λ has same. (outside.0, leads place (place + 1) (with_recording mark) has same) }

  pub saves : {place : ℕ} {mark : Mark} → f.plain ≡ false → mark.rec ≡ mark.tries + 1 → Allowed code k f place mark (record mark { rec = 0 }) I.Save
  saves {place} {mark} isnt rec = record { exist = tt; live = dull mark I.Save refl; follow = λ has same. (isnt, rec, leads place (place + 1) (record mark { rec = 0 }) has same) }

  -- a call of a function that is plain where it must be
  pub calls : {place : ℕ} {mark : Mark} (g : ℕ) (called : CodeFunction) → slice_get code.functions g ≡ Some called → called.params ≤ mark.height → (IsTrue (f.plain || not (mark.rec == 0)) → called.plain ≡ true) → Allowed code k f place mark (after mark called.params (values_of called)) (I.Call g)
  calls {place} {mark} g called there enough plain =
      record { exist = tt; live = dull mark (I.Call g) refl; follow = λ has same. (called, there, goes place mark called.params (values_of called) enough has same, plain) }
