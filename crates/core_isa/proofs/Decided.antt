-- The tests of the marks decide the conditions.
use Rattle.std.proofs.Common.{◌≡◌, ℕ, ◌+◌, ◌-◌, ◌≤◌, Bool, true, false, not, ◌&&◌, ◌||◌, leb, ltb, IsTrue, Option, Some, None, length, refl, sym, ap, subst, subst₂}
use Rattle.std.specs.Prelude.{slice_get, ◌==◌, unwrap_or, is_some}
use Rattle.std.specs.Bool.{Decides}
use Rattle.std.proofs.lemmas.Bool.{leb-true, le-leb, not-true, not_from_false, ltb-false, le-ltb, false≢true, true≢false}
use Rattle.std.proofs.lemmas.Bool.Decides.{Decides-and, Decides-or, Decides-eqb, Decides-ltb, Decides-like, not_from_Decides}
use Rattle.rtio_types.specs.declared.board.ChannelKind.{ChannelKind}
use Rattle.rtio_types.specs.declared.board.ChannelKind.TheVariants as K
use Rattle.rtio_types.specs.Board.{kind_of_channel, is_input_kind}
use Rattle.core_isa.specs.declared.code.Code.{Code}
use Rattle.core_isa.specs.declared.code.CodeFunction.{CodeFunction}
use Rattle.core_isa.specs.declared.code.CodeLine.{CodeLine}
use Rattle.core_isa.specs.declared.code.Mark.{Mark}
use Rattle.core_isa.specs.declared.instr.Instr.{Instr}
use Rattle.core_isa.specs.declared.instr.Instr.TheVariants as I
use Rattle.core_isa.specs.Marks.{Leads, HasArray, OperandsExist, is_live, LiveIsAllowed, takes_unit_first, BackTakesUnit, after, GoesOn, GoesOnBy, effect, values_of, MarksFollow, function_index, mark_at, first_mark, IsRight, IsRightPlace}
use Rattle.core_isa.specs.MarkTests.{is_mark, leads, has_array, is_raw, operands_exist, goes_on, goes_on_by, back_takes_unit, may_call, marks_follow, is_right, is_right_in, is_right_place}

decides-leb : (a b : ℕ) → Decides (leb a b) (a ≤ b)
decides-leb a b = (leb-true a b, le-leb a b)

decides_itself : (b : Bool) → Decides b (IsTrue b)
decides_itself b = ((λ e. e), (λ e. e))

decides_always : Decides true (Unit {0})
decides_always = ((λ e. tt), (λ u. refl))

-- a fact that follows from a test, where the test fails or the fact is decided
decides-implied : {P Q : Type 0} (a b : Bool) → Decides a P → Decides b Q → Decides (not a || b) (P → Q)
decides-implied true b of_a of_b = ((λ e holds. of_b.0 e), (λ f. of_b.1 (f (of_a.0 refl))))
decides-implied false b of_a of_b = ((λ e holds. absurd (not_from_Decides false of_a refl holds)), (λ f. refl))

-- the same where the test is of the opposite
decides-unless : {P Q : Type 0} (a b : Bool) → Decides (not a) P → Decides b Q → Decides (a || b) (P → Q)
decides-unless true b of_a of_b = ((λ e holds. absurd (not_from_Decides false of_a refl holds)), (λ f. refl))
decides-unless false b of_a of_b = ((λ e holds. of_b.0 e), (λ f. of_b.1 (f (of_a.0 refl))))

decides-false : (b : Bool) → Decides (not b) (b ≡ false)
decides-false true = ((λ e. absurd (false≢true e)), (λ e. absurd (true≢false e)))
decides-false false = ((λ e. refl), (λ e. refl))

-- marks are compared by their numbers
decides-is_mark : (mark : Mark) (o : Option Mark) → Decides (is_mark mark o) (o ≡ Some mark)
decides-is_mark mark None = ((λ e. absurd (false≢true e)), (λ e. cc))
decides-is_mark mark (Some found) =
    Decides-like
    (is_mark mark (Some found))
    (λ same. λ i. Some (record { height = sym same.0 i; tries = sym same.1.0 i; rec = sym same.1.1 i }))
    (λ e. let same : found ≡ mark = ap (λ o. unwrap_or o found) e in (ap (λ m. m.height) (sym same), (ap (λ m. m.tries) (sym same), ap (λ m. m.rec) (sym same))))
    (Decides-and
    (mark.height == found.height)
    ((mark.tries == found.tries) && (mark.rec == found.rec))
    (Decides-eqb mark.height found.height)
    (Decides-and (mark.tries == found.tries) (mark.rec == found.rec) (Decides-eqb mark.tries found.tries) (Decides-eqb mark.rec found.rec)))

-- another place of the same function, with a mark
decides-leads : (code : Code) (from to : ℕ) (mark : Mark) → Decides (leads code from to mark) (Leads code from to mark)
decides-leads code from to mark =
    Decides-like
    (leads code from to mark)
    (λ both. record { same = both.0; marked = both.1 })
    (λ l. (l.same, l.marked))
    (Decides-and
    (function_index code to == function_index code from)
    (is_mark mark (mark_at code to))
    (Decides-eqb (function_index code to) (function_index code from))
    (decides-is_mark mark (mark_at code to)))

decides-has_array : (f : CodeFunction) (s n : ℕ) → Decides (has_array f s n) (HasArray f s n)
decides-has_array f s n = Decides-and (leb 1 n) (leb (s + n) f.slots) (decides-leb 1 n) (decides-leb (s + n) f.slots)

decides-is_raw : (kind : Option ChannelKind) → Decides (is_raw kind) (kind ≡ Some K.OutRaw)
decides-is_raw None = ((λ e. absurd (false≢true e)), (λ e. cc))
decides-is_raw (Some K.Out) = ((λ e. absurd (false≢true e)), (λ e. ap is_raw e))
decides-is_raw (Some K.OutRaw) = ((λ e. refl), (λ e. refl))
decides-is_raw (Some K.Input) = ((λ e. absurd (false≢true e)), (λ e. ap is_raw e))

decides-is_input : (kind : Option ChannelKind) → Decides (is_input_kind kind) (kind ≡ Some K.Input)
decides-is_input None = ((λ e. absurd (false≢true e)), (λ e. cc))
decides-is_input (Some K.Out) = ((λ e. absurd (false≢true e)), (λ e. ap is_input_kind e))
decides-is_input (Some K.OutRaw) = ((λ e. absurd (false≢true e)), (λ e. ap is_input_kind e))
decides-is_input (Some K.Input) = ((λ e. refl), (λ e. refl))

-- the slots, names and channels that an instruction speaks of
decides-operands : (code : Code) (f : CodeFunction) (i : Instr) → Decides (operands_exist code f i) (OperandsExist code f i)
decides-operands code f (I.Load s) = Decides-ltb s f.slots
decides-operands code f (I.Store s) = Decides-ltb s f.slots
decides-operands code f (I.LoadAt s n) = decides-has_array f s n
decides-operands code f (I.StoreAt s n) = decides-has_array f s n
decides-operands code f (I.Fill s n) = decides-has_array f s n
decides-operands code f (I.Shl w) = Decides-or (w == 32) (w == 64) (Decides-eqb w 32) (Decides-eqb w 64)
decides-operands code f (I.Shr w) = Decides-or (w == 32) (w == 64) (Decides-eqb w 32) (Decides-eqb w 64)
decides-operands code f (I.Out channel address) = decides_itself _
decides-operands code f (I.OutTo channel) = decides-is_raw (kind_of_channel channel)
decides-operands code f (I.Edge channel) = decides-is_input (kind_of_channel channel)
decides-operands code f (I.Record n) = Decides-ltb n (length code.names)
decides-operands code f (I.Play n) = Decides-ltb n (length code.names)
decides-operands code f (I.Handle n) = Decides-ltb n (length code.names)
decides-operands code f (I.Erase n) = Decides-ltb n (length code.names)
decides-operands code f (I.DataInt n) = Decides-ltb n (length code.names)
decides-operands code f (I.DataList n s count) =
    Decides-and (ltb n (length code.names)) (has_array f s count) (Decides-ltb n (length code.names)) (decides-has_array f s count)
decides-operands code f i = decides_always

-- a live instruction
decides-live : (f : CodeFunction) (mark : Mark) (i : Instr) → Decides (not (is_live i) || ((mark.rec == 0) && not f.plain)) (LiveIsAllowed f mark i)
decides-live f mark i =
    decides-implied
    (is_live i)
    ((mark.rec == 0) && not f.plain)
    (decides_itself (is_live i))
    (Decides-and (mark.rec == 0) (not f.plain) (Decides-eqb mark.rec 0) (decides-false f.plain))

-- a number that isn't above another
not_above : (from to : ℕ) → Decides (not (ltb from to)) (to ≤ from)
not_above from to = ((λ e. ltb-false from to (not-true (ltb from to) e)), (λ h. not_from_false (ltb from to) (le-ltb from to h)))

-- a jump
decides-back : (code : Code) (from to : ℕ) → Decides (back_takes_unit code from to) (BackTakesUnit code from to)
decides-back code from to =
    decides-unless
    (ltb from to)
    (takes_unit_first (slice_get code.lines to))
    (not_above from to)
    (decides_itself (takes_unit_first (slice_get code.lines to)))

decides-goes_on : (code : Code) (place : ℕ) (mark : Mark) (taken given : ℕ) → Decides (goes_on code place mark taken given) (GoesOn code place mark taken given)
decides-goes_on code place mark taken given =
    Decides-and
    (leb taken mark.height)
    (leads code place (place + 1) (after mark taken given))
    (decides-leb taken mark.height)
    (decides-leads code place (place + 1) (after mark taken given))

decides-goes_on_by : (code : Code) (place : ℕ) (mark : Mark) (counts : Option (ℕ × ℕ)) → Decides (goes_on_by code place mark counts) (GoesOnBy code place mark counts)
decides-goes_on_by code place mark None = (false≢true, (λ h. absurd h))
decides-goes_on_by code place mark (Some counts) = decides-goes_on code place mark counts.0 counts.1

-- three and four tests
decides-three : {P Q R : Type 0} (x y z : Bool) → Decides x P → Decides y Q → Decides z R → Decides (x && (y && z)) (P × Q × R)
decides-three x y z of_x of_y of_z =
    Decides-like
    (x && (y && z))
    (λ h. (h.0, h.1.0, h.1.1))
    (λ h. (h.0, (h.1, h.2)))
    (Decides-and x (y && z) of_x (Decides-and y z of_y of_z))

decides-four : {P Q R S : Type 0} (x y z w : Bool) → Decides x P → Decides y Q → Decides z R → Decides w S → Decides (x && (y && (z && w))) (P × Q × R × S)
decides-four x y z w of_x of_y of_z of_w =
    Decides-like
    (x && (y && (z && w)))
    (λ h. (h.0, h.1.0, h.1.1.0, h.1.1.1))
    (λ h. (h.0, (h.1, (h.2, h.3))))
    (Decides-and x (y && (z && w)) of_x (Decides-and y (z && w) of_y (Decides-and z w of_z of_w)))

-- what a call of a function asks for
abbrev Callable : Code → CodeFunction → ℕ → Mark → CodeFunction → Type 0
Callable code f place mark called =
    GoesOn code place mark called.params (values_of called) × (IsTrue (f.plain || not (mark.rec == 0)) → called.plain ≡ true)

decides-callable : (code : Code) (f : CodeFunction) (place : ℕ) (mark : Mark) (called : CodeFunction) → Decides (may_call code f place mark (Some called)) (Callable code f place mark called)
decides-callable code f place mark called =
    Decides-and
    (goes_on code place mark called.params (values_of called))
    (not (f.plain || not (mark.rec == 0)) || called.plain)
    (decides-goes_on code place mark called.params (values_of called))
    (decides-implied
    (f.plain || not (mark.rec == 0))
    called.plain
    (decides_itself (f.plain || not (mark.rec == 0)))
    (decides_itself called.plain))

-- the function that is found is the one
pub found_one : {A : Type 0} {a b : A} → Some a ≡ Some b → a ≡ b
found_one {a = a} e = ap (λ o. unwrap_or o a) e

decides-may_call : (code : Code) (f : CodeFunction) (place : ℕ) (mark : Mark) (o : Option CodeFunction)
    → Decides (may_call code f place mark o)
    ((called : CodeFunction)
    × (o ≡ Some called)
    × GoesOn code place mark called.params (values_of called)
    × (IsTrue (f.plain || not (mark.rec == 0)) → called.plain ≡ true))
decides-may_call code f place mark None =
    ((λ e. absurd (false≢true e)), (λ h. let lost : None ≡ Some h.0 = h.1 in absurd (false≢true (ap is_some lost))))
decides-may_call code f place mark (Some called) =
    Decides-like
    (may_call code f place mark (Some called))
    (λ c. (called, refl, c.0, c.1))
    (λ h. subst (λ other. Callable code f place mark other) (sym (found_one h.1)) (h.2, h.3))
    (decides-callable code f place mark called)

-- where an instruction leads
decides-follow : (code : Code) (f : CodeFunction) (place : ℕ) (mark : Mark) (i : Instr) → Decides (marks_follow code f place mark i) (MarksFollow code f place mark i)
decides-follow code f place mark (I.Jump p) =
    Decides-and (leads code place p mark) (back_takes_unit code place p) (decides-leads code place p mark) (decides-back code place p)
decides-follow code f place mark (I.JumpZero p) =
    decides-three
    (goes_on code place mark 1 0)
    (leads code place p (after mark 1 0))
    (back_takes_unit code place p)
    (decides-goes_on code place mark 1 0)
    (decides-leads code place p (after mark 1 0))
    (decides-back code place p)
decides-follow code f place mark (I.Call g) = decides-may_call code f place mark (slice_get code.functions g)
decides-follow code f place mark I.Return =
    decides-three
    (mark.tries == 0)
    (mark.rec == 0)
    (mark.height == values_of f)
    (Decides-eqb mark.tries 0)
    (Decides-eqb mark.rec 0)
    (Decides-eqb mark.height (values_of f))
decides-follow code f place mark (I.Try p) =
    decides-four
    (mark.height == 0)
    (leads code place (place + 1) (record mark { tries = mark.tries + 1 }))
    (ltb place p)
    (leads code place p (record mark { height = 1 }))
    (Decides-eqb mark.height 0)
    (decides-leads code place (place + 1) (record mark { tries = mark.tries + 1 }))
    (Decides-ltb place p)
    (decides-leads code place p (record mark { height = 1 }))
decides-follow code f place mark I.EndTry =
    decides-three
    (leb 1 mark.tries)
    (leb mark.rec mark.tries)
    (leads code place (place + 1) (record mark { tries = mark.tries - 1 }))
    (decides-leb 1 mark.tries)
    (decides-leb mark.rec mark.tries)
    (decides-leads code place (place + 1) (record mark { tries = mark.tries - 1 }))
decides-follow code f place mark I.Raise = decides-leb 1 mark.height
decides-follow code f place mark (I.Record n) =
    Decides-and
    (mark.rec == 0)
    (leads code place (place + 1) (record mark { rec = mark.tries + 1 }))
    (Decides-eqb mark.rec 0)
    (decides-leads code place (place + 1) (record mark { rec = mark.tries + 1 }))
decides-follow code f place mark I.Save =
    decides-three
    (not f.plain)
    (mark.rec == mark.tries + 1)
    (leads code place (place + 1) (record mark { rec = 0 }))
    (decides-false f.plain)
    (Decides-eqb mark.rec (mark.tries + 1))
    (decides-leads code place (place + 1) (record mark { rec = 0 }))
decides-follow code f place mark i = decides-goes_on_by code place mark (effect i)

-- the mark at a function's first place
decides-first : (f : CodeFunction) (place : ℕ) (mark : Mark) → Decides (not (f.first == place) || is_mark first_mark (Some mark)) (f.first ≡ place → mark ≡ first_mark)
decides-first f place mark =
    decides-implied
    (f.first == place)
    (is_mark first_mark (Some mark))
    (Decides-eqb f.first place)
    (Decides-like (is_mark first_mark (Some mark)) found_one (ap Some) (decides-is_mark first_mark (Some mark)))

-- a line in its function
decides-right : (code : Code) (place : ℕ) (f : CodeFunction) (line : CodeLine) → Decides (is_right code place f line) (IsRight code place f line)
decides-right code place f line =
    Decides-like
    (is_right code place f line)
    (λ h. record { first = h.0; exist = h.1; live = h.2; follow = h.3 })
    (λ r. (r.first, r.exist, r.live, r.follow))
    (decides-four
    (not (f.first == place) || is_mark first_mark (Some line.mark))
    (operands_exist code f line.instr)
    (not (is_live line.instr) || ((line.mark.rec == 0) && not f.plain))
    (marks_follow code f place line.mark line.instr)
    (decides-first f place line.mark)
    (decides-operands code f line.instr)
    (decides-live f line.mark line.instr)
    (decides-follow code f place line.mark line.instr))

-- what is found at a place, in the form of the test
record RightIn (code : Code) (place : ℕ) (functions : Option CodeFunction) (lines : Option CodeLine) : Type 0 where
  function : CodeFunction
  line : CodeLine
  in_function : functions ≡ Some function
  at_place : lines ≡ Some line
  right : IsRight code place function line

decides-right_in : (code : Code) (place : ℕ) (functions : Option CodeFunction) (lines : Option CodeLine) → Decides (is_right_in code place functions lines) (RightIn code place functions lines)
decides-right_in code place (Some f) (Some line) =
    Decides-like
    (is_right code place f line)
    (λ r. record { function = f; line = line; in_function = refl; at_place = refl; right = r })
    (λ r. subst₂ (λ f'. λ line'. IsRight code place f' line') (sym (found_one r.in_function)) (sym (found_one r.at_place)) r.right)
    (decides-right code place f line)
decides-right_in code place None lines =
    ((λ e. absurd (false≢true e)), (λ r. absurd (false≢true (ap is_some r.in_function))))
decides-right_in code place (Some f) None =
    ((λ e. absurd (false≢true e)), (λ r. absurd (false≢true (ap is_some r.at_place))))

-- the test of a place
pub decides-right_place : (code : Code) (place : ℕ) → Decides (is_right_place code place) (IsRightPlace code place)
decides-right_place code place =
    Decides-like
    (is_right_place code place)
    (λ r. record { function = r.function; line = r.line; in_function = r.in_function; at_place = r.at_place; right = r.right })
    (λ r. record { function = r.function; line = r.line; in_function = r.in_function; at_place = r.at_place; right = r.right })
    (decides-right_in code place (slice_get code.functions (function_index code place)) (slice_get code.lines place))
