-- What the instruction at hand finds.
use Rattle.std.proofs.Common.{◌≡◌, ℕ, suc, zero, ◌+◌, ◌-◌, ◌<◌, ◌≤◌, ◌^◌, List, [], ◌∷◌, length, Bool, true, false, not, ◌&&◌, ◌||◌, Option, Some, None, IsTrue, refl, sym, ◌∙◌, ap, subst, subst₂, arith}
use Rattle.std.specs.Prelude.{IfOk, Result, Ok, Err, slice_get, option_map, is_some, ◌==◌}
use Rattle.std.specs.List.{list_all, All}
use Rattle.std.proofs.lemmas.Bool.{false≢true, true≢false, and_parts, ltb-true}
use Rattle.std.proofs.lemmas.Bool.Decides.{nat_tests}
use Rattle.std.proofs.lemmas.Option.{slice_get_within, slice_get-get_or}
use Rattle.std.proofs.lemmas.List.Elements.{All-get_or}
use Rattle.core_image.specs.Operands.{operands_of}
use Rattle.core_image.specs.Ranges.{IsInRange, is_line, is_byte, is_mark_of_bytes, are_operands}
use Rattle.core_isa.specs.Machine.{Frame, OpenRecording, opened_by}
use Rattle.core_isa.specs.Marks.{Leads, GoesOn, is_live, mark_at, MarksFollow, OperandsExist, IsRight, IsRightPlace, values_of}
use Rattle.core_isa.specs.Sound.{IsOpenedWithin, opened_below, CallersFit}
use Rattle.core_isa.specs.Steps.{act, call, on_some}
use Rattle.core_isa.specs.declared.code.Code.{Code}
use Rattle.core_isa.specs.declared.code.CodeFunction.{CodeFunction}
use Rattle.core_isa.specs.declared.code.CodeLine.{CodeLine}
use Rattle.core_isa.specs.declared.code.Mark.{Mark}
use Rattle.core_isa.specs.declared.instr.Instr.{Instr}
use Rattle.core_isa.specs.declared.instr.Instr.TheVariants as I
use Rattle.core_isa.proofs.Decided.{found_one}
use Rattle.core_isa.proofs.Reopened.{opened_somewhere}
use Rattle.core_isa.proofs.Safe.{place_of_mark}
use Rattle.core_cpu.specs.Courses.{CanRun, Fits, TurnsTo}
use Rattle.core_cpu.specs.Families.{changes_one, is_operator, is_plain, HasShiftWidth}
use Rattle.core_cpu.specs.Layout.{Held}
use Rattle.core_cpu.specs.Returning.{CanLeave}
use Rattle.core_cpu.specs.declared.course.Course.{Course}

-- what each of a list is, one of them is
at_each : {A : Type 0} (test : A → Bool) (xs : List A) (k : ℕ) (x : A) → list_all test xs ≡ true → slice_get xs k ≡ Some x → test x ≡ true
at_each test [] k x all found = absurd (false≢true (ap is_some found))
at_each test (y ∷ rest) zero x all found =
    ap test (sym (found_one found)) ∙ (and_parts (test y) (list_all test rest) all).0
at_each test (y ∷ rest) (suc k) x all found = at_each test rest k x (and_parts (test y) (list_all test rest) all).1 found

-- the numbers of a mark of the code are bytes
pub record IsSmall (mark : Mark) : Type 0 where
  pub height : mark.height ≤ 255
  pub tries : mark.tries ≤ 255

-- a line with a mark
line_of_mark : (o : Option CodeLine) (mark : Mark) → option_map (λ line. line.mark) o ≡ Some mark → (line : CodeLine) × ((o ≡ Some line) × (line.mark ≡ mark))
line_of_mark None mark is = absurd (false≢true (ap is_some is))
line_of_mark (Some line) mark is = (line, (refl, found_one is))

small_bytes : (mark : Mark) → is_mark_of_bytes mark ≡ true → IsSmall mark
small_bytes mark bytes =
    let both = and_parts (is_byte mark.height) (is_byte mark.tries && is_byte mark.rec) bytes in
    let others = and_parts (is_byte mark.tries) (is_byte mark.rec) both.1 in
    let height : mark.height < 2 ^ 8 = ltb-true mark.height (2 ^ 8) both.0 in
    let tries : mark.tries < 2 ^ 8 = ltb-true mark.tries (2 ^ 8) others.0 in
    record { height = omega arith; tries = omega arith }

pub mark_is_small : (code : Code) → IsInRange code → (place : ℕ) (mark : Mark) → mark_at code place ≡ Some mark → IsSmall mark
mark_is_small code in_range place mark marked =
    let there = line_of_mark (slice_get code.lines place) mark marked in
    subst
    IsSmall
    there.1.1
    (small_bytes
    there.0.mark
    (and_parts
    (is_mark_of_bytes there.0.mark)
    (are_operands (operands_of there.0.instr))
    (at_each is_line code.lines place there.0 in_range.lines there.1.0)).0)

module _ (code : Code) (held : Held) (instr : Instr) (can : CanRun code held instr) where
  -- the mark of the instruction
  abbrev pub mark_here : Mark
  mark_here = record { height = length held.machine.top.operands; tries = length held.machine.top.handlers; rec = can.sound.top.rec }

  -- the instruction is right where it stands
  pub right_here : IsRight code held.machine.top.place held.machine.top.function (record { instr = instr; mark = mark_here })
  right_here =
      let here : IsRightPlace code held.machine.top.place =
      can.marked held.machine.top.place (place_of_mark code held.machine.top.place _ can.sound.top.stands.marked)
      in
      let f : here.function ≡ held.machine.top.function =
      found_one
      (sym here.in_function ∙ ap (slice_get code.functions) can.sound.top.stands.same ∙ can.sound.top.keeps.found)
      in
      let line : here.line ≡ record { instr = instr; mark = can.mark } = found_one (sym here.at_place ∙ can.found) in
      let mark : can.mark ≡ mark_here =
      found_one
      (sym (ap (option_map (λ l. l.mark)) can.found) ∙ can.sound.top.stands.marked)
      in
      subst₂
      (λ function. λ l. IsRight code held.machine.top.place function l)
      f
      (line ∙ ap (λ m. record { instr = instr; mark = m }) mark)
      here.right

  -- the heights of its frame
  small_here : IsSmall mark_here
  small_here = mark_is_small code can.in_range held.machine.top.place mark_here can.sound.top.stands.marked

  -- a place to which it leads
  leads_within : (to : ℕ) (mark : Mark) → Leads code held.machine.top.place to mark → to < 2 ^ 32
  leads_within to mark leads =
      let within : to < length code.lines = place_of_mark code to mark leads.marked in
      let few : length code.lines ≤ 262144 = can.in_range.few_lines in omega arith

  -- an instruction that goes on fits
  pub fits_here : (taken given : ℕ) → GoesOn code held.machine.top.place mark_here taken given → Fits taken given held
  fits_here taken given goes_on =
      let small : IsSmall (record mark_here { height = length held.machine.top.operands - taken + given }) =
      mark_is_small code can.in_range (held.machine.top.place + 1) (record mark_here { height = length held.machine.top.operands - taken + given }) goes_on.1.marked
      in
      record {
        enough = goes_on.0;
        room = small.height;
        tall = small_here.height;
        place = leads_within (held.machine.top.place + 1) _ goes_on.1;
      }

  -- slots of its function are there
  pub slots_here : (n : ℕ) → n ≤ held.machine.top.function.slots → n ≤ length held.machine.top.slots
  slots_here n within = subst (λ k. n ≤ k) (sym can.sound.top.keeps.full) within

  -- where it may ask the core no recording is open
  pub closed_here : IsTrue (is_live instr) → held.machine.recording ≡ None
  closed_here live =
      let allowed = right_here.live live in
      nothing_open
      (length held.machine.callers)
      can.sound.top.rec
      held.machine.recording
      held.machine.top.function
      can.sound.within
      can.sound.top.keeps.owns
      can.sound.top.keeps.plain
      allowed.0
      allowed.1
    where
      none_open : (o : Option OpenRecording) → is_some o ≡ false → o ≡ None
      none_open None gone = refl
      none_open (Some open_one) gone = absurd (true≢false gone)

      nothing_open : (n rec : ℕ) (recording : Option OpenRecording) (f : CodeFunction)
          → IsOpenedWithin n recording
          → opened_by n recording ≡ not (rec == 0)
          → (opened_below n recording ≡ true → f.plain ≡ true)
          → rec ≡ 0
          → f.plain ≡ false
          → recording ≡ None
      nothing_open n rec recording f within owns plain none live = by_below (opened_below n recording) refl
        where
          own : opened_by n recording ≡ false
          own = owns ∙ ap (λ r. not (r == 0)) none

          by_below : (b : Bool) → opened_below n recording ≡ b → recording ≡ None
          by_below true below = absurd (false≢true (sym live ∙ plain below))
          by_below false below =
              none_open
              recording
              (opened_somewhere n recording within ∙ ap (λ b. b || opened_by n recording) below ∙ own)

  -- of a known instruction
  pub exist_here : (i : Instr) → instr ≡ i → OperandsExist code held.machine.top.function i
  exist_here i is = subst (OperandsExist code held.machine.top.function) is right_here.exist

  pub follow_here : (i : Instr) → instr ≡ i → MarksFollow code held.machine.top.function held.machine.top.place mark_here i
  follow_here i is =
      subst (MarksFollow code held.machine.top.function held.machine.top.place mark_here) is right_here.follow

  pub silent_here : (i : Instr) → instr ≡ i → IsTrue (is_live i) → held.machine.recording ≡ None
  silent_here i is live = closed_here (subst (λ j. IsTrue (is_live j)) (sym is) live)

  -- a place to which it leads
  pub place_here : (to : ℕ) (mark : Mark) → Leads code held.machine.top.place to mark → to < 2 ^ 32
  place_here to mark leads = leads_within to mark leads

  -- room for one more handler
  pub handlers_here : (to tries : ℕ) → Leads code held.machine.top.place to (record mark_here { tries = tries + 1 }) → tries < 255
  handlers_here to tries leads =
      let small : IsSmall (record mark_here { tries = tries + 1 }) = mark_is_small code can.in_range to (record mark_here { tries = tries + 1 }) leads.marked in
      let few : tries + 1 ≤ 255 = small.tries in omega arith

  -- a frame at a Save has a recording open
  pub open_here : can.sound.top.rec ≡ length held.machine.top.handlers + 1 → IsTrue (is_some held.machine.recording)
  open_here all = someone held.machine.recording (can.sound.top.keeps.owns ∙ owned can.sound.top.rec (length held.machine.top.handlers) all)
    where
      owned : (rec tries : ℕ) → rec ≡ tries + 1 → not (rec == 0) ≡ true
      owned rec tries all = grind (arith, nat_tests)

      someone : (o : Option OpenRecording) → opened_by (length held.machine.callers) o ≡ true → is_some o ≡ true
      someone None own = absurd (false≢true own)
      someone (Some open_one) own = refl

  -- the nearest caller has room for a value and a next place
  pub callers_here : CanLeave (values_of held.machine.top.function) held.machine.callers
  callers_here = nearest held.machine.callers can.sound.callers
    where
      nearest : (callers : List Frame) → CallersFit code held.machine.recording held.machine.top.function callers → CanLeave (values_of held.machine.top.function) callers
      nearest [] fit = tt
      nearest (caller ∷ callers) fit =
          let small : IsSmall (record { height = length caller.operands + values_of held.machine.top.function; tries = length caller.handlers; rec = fit.0.rec }) =
          mark_is_small
          code
          can.in_range
          (caller.place + 1)
          (record { height = length caller.operands + values_of held.machine.top.function; tries = length caller.handlers; rec = fit.0.rec })
          fit.0.stands.marked
          in
          let within : caller.place + 1 < length code.lines = place_of_mark code (caller.place + 1) _ fit.0.stands.marked in
          let few : length code.lines ≤ 262144 = can.in_range.few_lines in
          (small.height, omega arith)

-- one value changes
pub changes_follow : (code : Code) (f : CodeFunction) (place : ℕ) (mark : Mark) (i : Instr) → IsTrue (changes_one i) → MarksFollow code f place mark i → GoesOn code place mark 1 1
changes_follow code f place mark I.Neg one follow = follow
changes_follow code f place mark I.Inv one follow = follow
changes_follow code f place mark I.Wrap32 one follow = follow
changes_follow code f place mark i one follow = absurd (false≢true one)

-- two values make one
pub operator_follow : (code : Code) (f : CodeFunction) (place : ℕ) (mark : Mark) (i : Instr) → IsTrue (is_operator i) → MarksFollow code f place mark i → GoesOn code place mark 2 1
operator_follow code f place mark I.Add two follow = follow
operator_follow code f place mark I.Sub two follow = follow
operator_follow code f place mark I.Mul two follow = follow
operator_follow code f place mark I.Div two follow = follow
operator_follow code f place mark I.Mod two follow = follow
operator_follow code f place mark I.And two follow = follow
operator_follow code f place mark I.Or two follow = follow
operator_follow code f place mark I.Xor two follow = follow
operator_follow code f place mark (I.Shl w) two follow = follow
operator_follow code f place mark (I.Shr w) two follow = follow
operator_follow code f place mark I.Eq two follow = follow
operator_follow code f place mark I.Ne two follow = follow
operator_follow code f place mark I.Lt two follow = follow
operator_follow code f place mark I.Le two follow = follow
operator_follow code f place mark I.Max two follow = follow
operator_follow code f place mark i two follow = absurd (false≢true two)

-- the same of an operator that has a result of all values
pub plain_follow : (code : Code) (f : CodeFunction) (place : ℕ) (mark : Mark) (i : Instr) → IsTrue (is_plain i) → MarksFollow code f place mark i → GoesOn code place mark 2 1
plain_follow code f place mark I.Add two follow = follow
plain_follow code f place mark I.Sub two follow = follow
plain_follow code f place mark I.Mul two follow = follow
plain_follow code f place mark I.And two follow = follow
plain_follow code f place mark I.Or two follow = follow
plain_follow code f place mark I.Xor two follow = follow
plain_follow code f place mark (I.Shl w) two follow = follow
plain_follow code f place mark (I.Shr w) two follow = follow
plain_follow code f place mark I.Eq two follow = follow
plain_follow code f place mark I.Ne two follow = follow
plain_follow code f place mark I.Lt two follow = follow
plain_follow code f place mark I.Le two follow = follow
plain_follow code f place mark I.Max two follow = follow
plain_follow code f place mark i two follow = absurd (false≢true two)

-- the width of a shift is there
pub shift_exists : (code : Code) (f : CodeFunction) (i : Instr) → OperandsExist code f i → HasShiftWidth i
shift_exists code f (I.Shl w) exist = exist
shift_exists code f (I.Shr w) exist = exist
shift_exists code f i exist = tt

-- an instruction by its name
pub turned : (code : Code) (instr i : Instr) (old new : Held) (course : Course) → instr ≡ i → TurnsTo (act code i) old course new → TurnsTo (act code instr) old course new
turned code instr i old new course is turns = subst (λ j. TurnsTo (act code j) old course new) (sym is) turns

-- one of a list of which each has a property
pub all_at : {A : Type 0} (P : A → Type 0) (xs : List A) (k : ℕ) (x : A) → All P xs → slice_get xs k ≡ Some x → P x
all_at P xs k x all found = subst P (found_one (sym (slice_get-get_or xs k x (slice_get_within xs k x found)) ∙ found)) (All-get_or P xs k x (slice_get_within xs k x found) all)

-- a call of a known function
pub called_turned : (code : Code) (instr : Instr) (g : ℕ) (called : CodeFunction) (old new : Held) (course : Course)
    → instr ≡ I.Call g
    → slice_get code.functions g ≡ Some called
    → TurnsTo (call called) old course new
    → TurnsTo (act code instr) old course new
called_turned code instr g called old new course is found turns =
    turned
    code
    instr
    (I.Call g)
    old
    new
    course
    is
    (subst (λ o. TurnsTo (λ m. on_some o (λ f. call f m)) old course new) (sym found) turns)

-- what holds of a result, more of it
pub if_ok : {A E : Type 0} (P Q : A → Type 0) (r : Result A E) → ((a : A) → P a → Q a) → IfOk r P → IfOk r Q
if_ok P Q (Ok a) more holds = more a holds
if_ok P Q (Err e) more holds = tt
