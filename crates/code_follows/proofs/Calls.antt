-- A call of a function follows its meaning, where the function's body does.
use Rattle.std.proofs.Common.{◌≡◌, ℕ, zero, suc, ◌+◌, ◌-◌, ◌≤◌, List, [], ◌∷◌, ◌++◌, length, drop, slice_get, Option, Some, None, refl, sym, ◌∙◌, ap, subst, arith, append-nil, length-append}
use Rattle.std.specs.Prelude.{Bool, true, false, ℤ, pos, ⊤, take, reverse, replicate, nat_lt, nat_le}
use Rattle.std.proofs.Math.Seq.{drop-append_seam, take-append_seam}
use Rattle.std.proofs.lemmas.List.{length-reverse, reverse-reverse}
use Rattle.rtio_types.specs.declared.outcome.Exc.{Exc}
use Rattle.rtio_types.specs.declared.outcome.Exc.TheVariants.{StackOverflow}
use Rattle.rtio_types.specs.declared.request.Reply.{Reply}
use Rattle.rtio_types.specs.declared.request.Value.{Value}
use Rattle.kern_syntax.specs.Tree.{Bytes}
use Rattle.kern_calls.specs.Types.{Names}
use Rattle.timeline_sem.specs.Actions.{State, break, continue, return, raised, budget, unanswered, Completion, normal, early, Action, stop, take_unit, take_unit_of, go_on as then_act, ◌>>◌}
use Rattle.timeline_sem.specs.Programs.{initial_values, leave_function}
use Rattle.timeline_sem.specs.Laws.{final}
use Rattle.timeline_sem.proofs.Keeps.{keeps_then, keeps_take_unit, keeps_stop}
use Rattle.core_isa.specs.declared.code.Code.{Code}
use Rattle.core_isa.specs.declared.code.CodeFunction.{CodeFunction}
use Rattle.core_isa.specs.declared.code.CodeLine.{CodeLine}
use Rattle.core_isa.specs.declared.instr.Instr.TheVariants as I
use Rattle.core_isa.specs.Machine.{Frame, Machine, Next, goes}
use Rattle.core_isa.specs.Steps.{act, on_some, call_if, enter, without_arguments}
use Rattle.core_isa.specs.Runs.{counted, step, step_by}
use Rattle.core_isa.specs.WellAsked.{RepliesFit}
use Rattle.code_follows.specs.Stands.{Around, Opening, holding, Setting, Suits, SlotsAdd, IsOpenedBelow, machine_at, slots_of, HasNames, Fits64, Agrees, Leads, Comes, ComesToRaise, IsReturn, result_operands, EndsWith}
use Rattle.code_follows.specs.Functions.{body_of, Enters, end_instrs, called}
use Rattle.code_follows.specs.Parts.{Moved, Follows, Stand}
use Rattle.code_follows.proofs.Leads.{leads_instr, leads_step, leads_then}
use Rattle.code_follows.proofs.Compose.{moved, moved_same, moved_then, moves_of}
use Rattle.code_follows.proofs.Requests.{ends_unit, raises_here, with_units}
use Rattle.code_follows.proofs.Instructions.{follows_one}
use Rattle.code_follows.proofs.Raising.{raise_from_call, not_own}

module _ (given : List Reply) (code : Code) where
  pub step_return : (m : Machine) → IsReturn (slice_get code.lines m.top.place) → step code m ≡ act code I.Return (counted m)
  step_return m r = by_line (slice_get code.lines m.top.place) r
    where
      by_line : (o : Option CodeLine) → IsReturn o → step_by code o m ≡ act code I.Return (counted m)
      by_line None r = absurd r
      by_line (Some l) r = ap (λ i. act code i (counted m)) r

  module _ (around : Around) (names : Names) (g : CodeFunction) (before : State) (free : List ℤ) (place count : ℕ) (slots : SlotsAdd around [] free) (shapes : HasNames around.names before.values) (below : IsOpenedBelow around.opening (length around.callers)) where
    -- the caller's frame while its call runs
    abbrev caller : Frame
    caller = (machine_at around before (holding []) free place count).top

    abbrev pub around_call : Around
    around_call =
        record { function = g; names = names; temporaries = []; operands = []; handlers = []; callers = caller ∷ around.callers; opening = around.opening }

    back : (s : State) → Agrees given names around.opening s → Agrees given around.names around.opening (record s { values = before.values })
    back s a = record { shapes = shapes; collects = a.collects; cursor = a.cursor; replies = a.replies; numbers = a.numbers }

    -- a Return of the function
    returned : (from : Next) (s : State) (v : ℤ) (value : Bool) (p : ℕ) → g.value ≡ value → IsReturn (slice_get code.lines p) → Comes given code from around_call s (holding (result_operands value v)) p → Comes given code from around (record s { values = before.values }) (holding (result_operands value v)) (place + 1)
    returned from s v true p e r c =
        let m = machine_at around_call s (holding (v ∷ [])) c.free p c.count in
        let by = leads_step given code m _ (step_return m r ∙ ap (λ b. Rattle.core_isa.specs.Steps.return_from b (counted m)) e) in
        record { free = free; count = (counted m).steps; slots = slots; agrees = back s c.agrees; leads = leads_then given code c.leads by }
    returned from s v false p e r c =
        let m = machine_at around_call s (holding []) c.free p c.count in
        let by = leads_step given code m _ (step_return m r ∙ ap (λ b. Rattle.core_isa.specs.Steps.return_from b (counted m)) e) in
        record { free = free; count = (counted m).steps; slots = slots; agrees = back s c.agrees; leads = leads_then given code c.leads by }

    -- the end of the code, where no `return` was reached
    fallen : (from : Next) (s : State) (value : Bool) (p : ℕ) → g.value ≡ value → Stand code.lines p (end_instrs value) → Comes given code from around_call s (holding []) p → Comes given code from around (record s { values = before.values }) (holding (result_operands value (pos 0))) (place + 1)
    fallen from s true p e stands c =
        let m = machine_at around_call s (holding []) c.free p c.count in
        let m' = machine_at around_call s (holding (pos 0 ∷ [])) c.free (p + 1) (counted m).steps in
        let at = stands.3 in
        returned from s (pos 0) true (p + 1) e (subst (λ o. IsReturn o) (sym at.1) at.2) (record { free = c.free; count = (counted m).steps; slots = c.slots; agrees = c.agrees; leads = leads_then given code c.leads (leads_instr given code m (I.Const (pos 0)) (I.Return ∷ []) stands) })
    fallen from s false p e stands c =
        returned from s (pos 0) false p e (subst (λ o. IsReturn o) (sym stands.1) stands.2) c

    raised_back : (from : Next) (s : State) (x : Exc) → ComesToRaise given code from around_call s x → ComesToRaise given code from around (record s { values = before.values }) x
    raised_back from s x e =
        let m = machine_at around_call s e.local e.free e.place e.count in
        let other = not_own around.opening s.collected (length around.callers) (λ p same. subst (λ o. IsOpenedBelow o (length around.callers)) same below) in
        record {
          local = holding [];
          free = free;
          place = place;
          count = e.count;
          slots = slots;
          agrees = back s e.agrees;
          leads = subst (λ n. Leads given code from n) (raise_from_call x m.top caller around.callers m refl other) e.leads;
        }

    -- an end of the body, seen from the call
    ends_left : (setting : Setting) (room limit : ℕ) (outside value : Bool) (past : ℕ) → g.value ≡ value → Stand code.lines past (end_instrs value) → (from : Next) (c : Completion ⊤) → EndsWith given code (body_of names room limit outside value) from around_call past (λ v. ⊤) (λ v. holding []) c → EndsWith given code setting from around (place + 1) Fits64 (λ v. holding (result_operands value v)) (leave_function before.values c)
    ends_left setting room limit outside value past e stands from (normal a s) c =
        let zero_fits : Fits64 (pos 0) = grind arith in
        (zero_fits, fallen from s value past e stands c.1)
    ends_left setting room limit outside value past e stands from (early (return v) s) c =
        (c.fits, returned from s v value c.place e c.stands (subst (λ b. Comes given code from around_call s (holding (result_operands b v)) c.place) e c.comes))
    ends_left setting room limit outside value past e stands from (early break s) c = absurd c
    ends_left setting room limit outside value past e stands from (early continue s) c = absurd c
    ends_left setting room limit outside value past e stands from (early (raised x) s) c = raised_back from s x c
    ends_left setting room limit outside value past e stands from (early budget s) c =
        record { last = c.last; leads = c.leads; units = c.units; asked = c.asked; cursor = c.cursor }
    ends_left setting room limit outside value past e stands from (early unanswered s) c =
        record { last = c.last; leads = c.leads; units = c.units; asked = c.asked; cursor = c.cursor }

moves_left : (s : State) (values : List (Bytes × Value)) (c : Completion ⊤) → Moved s (final c) → Moved s (final (leave_function values c))
moves_left s values (normal a t) r = record { units = r.units; asked = r.asked }
moves_left s values (early break t) r = record { units = r.units; asked = r.asked }
moves_left s values (early continue t) r = record { units = r.units; asked = r.asked }
moves_left s values (early (return v) t) r = record { units = r.units; asked = r.asked }
moves_left s values (early (raised x) t) r = record { units = r.units; asked = r.asked }
moves_left s values (early budget t) r = record { units = r.units; asked = r.asked }
moves_left s values (early unanswered t) r = record { units = r.units; asked = r.asked }

moves_called : (names : Names) (args : List ℤ) (body : Action ⊤) → ((s : State) → Moved s (final (body s))) → (s : State) → Moved s (final (called names args body s))
moves_called names args body k s =
    let r = k (record s { values = initial_values names args }) in
    moves_left s s.values (body (record s { values = initial_values names args })) (record { units = r.units; asked = r.asked })

moves_spent : {A : Type 0} (u : ℕ) (s : State) (m : Action A) → s.units ≡ u → ((t : State) → Moved t (final (m t))) → Moved s (final (then_act (take_unit_of u s) (λ a. m)))
moves_spent zero s m e k = moved_same s
moves_spent (suc u) s m e k =
    moved_then (record { units = omega (arith, e); asked = ([], sym (append-nil s.asked)) }) (k (record s { units = u }))

below_more : (o : Option Opening) (n : ℕ) → IsOpenedBelow o n → IsOpenedBelow o (suc n)
below_more None n b = tt
below_more (Some o) n b = omega (arith, b)

arguments_taken : (args below : List ℤ) (n : ℕ) → n ≡ length args → reverse (take n (reverse args ++ below)) ≡ args
arguments_taken args below n e =
    let long : n ≡ length (reverse args) = e ∙ sym (length-reverse args) in
    ap (λ k. reverse (take k (reverse args ++ below))) long ∙ ap reverse (take-append_seam (reverse args) below) ∙ reverse-reverse args

arguments_dropped : (args below : List ℤ) (n : ℕ) → n ≡ length args → drop n (reverse args ++ below) ≡ below
arguments_dropped args below n e =
    let long : n ≡ length (reverse args) = e ∙ sym (length-reverse args) in
    ap (λ k. drop k (reverse args ++ below)) long ∙ drop-append_seam (reverse args) below

enough : (args below : List ℤ) (n : ℕ) → n ≡ length args → nat_le n (length (reverse args ++ below)) ≡ true
enough args below n e =
    let long = length-append (reverse args) below in
    let same = length-reverse args in
    let less : n ≤ length (reverse args ++ below) = omega (arith, e, long, same) in
    grind (arith, less)

module _ (given : List Reply) (code : Code) where
  pub fits_left : (values : List (Bytes × Value)) (c : Completion ⊤) → RepliesFit (final (leave_function values c)).asked given → RepliesFit (final c).asked given
  fits_left values (normal a t) fit = fit
  fits_left values (early break t) fit = fit
  fits_left values (early continue t) fit = fit
  fits_left values (early (return v) t) fit = fit
  fits_left values (early (raised x) t) fit = fit
  fits_left values (early budget t) fit = fit
  fits_left values (early unanswered t) fit = fit

  fits_spent : {A : Type 0} (u : ℕ) (s : State) (n : ℕ) (m : Action A) → u ≡ suc n → RepliesFit (final (then_act (take_unit_of u s) (λ a. m))).asked given → RepliesFit (final (m (record s { units = n }))).asked given
  fits_spent u s n m e fit = subst (λ k. RepliesFit (final (then_act (take_unit_of k s) (λ a. m))).asked given) e fit

  -- where no further function may be active
  pub follows_overflow : {premise : Type 0} {most : ℕ} (setting : Setting) (first k : ℕ) (g : CodeFunction) (args results : List ℤ) → setting.room ≡ 0 → slice_get code.functions k ≡ Some g → Stand code.lines first (I.Call k ∷ []) → Follows given code premise most setting first (first + 1) (holding (reverse args)) Fits64 (λ v. holding (result_operands g.value v)) (take_unit >> stop (raised StackOverflow))
  follows_overflow setting first k g args results none found stands =
      follows_one given code (I.Call k) stands (moves_of (keeps_then Moved Moved moved (keeps_take_unit Moved Moved moved) (keeps_stop Moved Moved moved (raised StackOverflow) moved_same))) (λ around s free count p suits agrees slots few fit.
      let m = machine_at around s (holding (reverse args)) free first count in
      let full : nat_lt (length around.callers + 1) 64 ≡ false = let a = suits.active in grind (arith, a, none) in
      subst (λ o. EndsWith given code setting (on_some o (λ f. Rattle.core_isa.specs.Steps.call f m)) around (first + 1) Fits64 (λ v. holding (result_operands g.value v)) ((take_unit >> stop (raised StackOverflow)) s)) (sym found) (ends_unit given code setting around (first + 1) Fits64 (λ v. holding (result_operands g.value v)) (holding (reverse args)) free first count slots s s.units _ (stop (raised StackOverflow)) agrees (λ n e. subst (λ b. ComesToRaise given code (call_if b g (machine_at around (record s { units = n }) (holding (reverse args)) free first count)) around (record s { units = n }) StackOverflow) (sym full) (raises_here given code (holding (reverse args)) free first count slots (with_units given code n agrees)))))

  -- a call
  pub follows_call : {premise : Type 0} {most : ℕ} (setting : Setting) (first k room limit past : ℕ) (outside value : Bool) (names : Names) (g : CodeFunction) (args : List ℤ) (body : Action ⊤) → setting.room ≡ suc room → (outside ≡ true → setting.outside ≡ true) → slice_get code.functions k ≡ Some g → g.value ≡ value → Enters names g limit args → Stand code.lines first (I.Call k ∷ []) → Stand code.lines past (end_instrs value) → Follows given code premise most (body_of names room limit outside value) g.first past (holding []) (λ v. ⊤) (λ v. holding []) body → Follows given code premise most setting first (first + 1) (holding (reverse args)) Fits64 (λ v. holding (result_operands value v)) (take_unit >> called names args body)
  follows_call {premise} {most} setting first k room limit past outside value names g args body more out found is enters stands at_past fb =
      follows_one given code (I.Call k) stands (λ s. moves_spent s.units s (called names args body) refl (moves_called names args body fb.moves)) (λ around s free count p suits agrees slots few fit.
      let m = machine_at around s (holding (reverse args)) free first count in
      let ready : nat_lt (length around.callers + 1) 64 ≡ true = let a = suits.active in grind (arith, a, more) in
      subst (λ o. EndsWith given code setting (on_some o (λ f. Rattle.core_isa.specs.Steps.call f m)) around (first + 1) Fits64 (λ v. holding (result_operands value v)) ((take_unit >> called names args body) s)) (sym found) (ends_unit given code setting around (first + 1) Fits64 (λ v. holding (result_operands value v)) (holding (reverse args)) free first count slots s s.units _ (called names args body) agrees (λ n e.
      let t = record s { units = n } in
      let mt = machine_at around t (holding (reverse args)) free first count in
      let ops = reverse args ++ around.operands in
      let entered : (sl below : List ℤ) → Next = λ sl below. goes (record mt { top = record { function = g; place = g.first; slots = sl; operands = []; handlers = [] }; callers = record mt.top { operands = below } ∷ mt.callers }) in
      let same : call_if (nat_lt (length around.callers + 1) 64) g mt ≡ entered (slots_of (initial_values names args) ++ ([] ++ ([] ++ enters.free))) around.operands =
      ap (λ b. call_if b g mt) ready
      ∙ ap (λ b. Rattle.core_isa.specs.Steps.enter_if b g mt) (enough args around.operands g.params enters.params)
      ∙ ap (λ a. entered (a ++ replicate (g.slots - length a) (pos 0)) (drop g.params ops)) (arguments_taken args around.operands g.params enters.params)
      ∙ ap (λ below. entered (args ++ replicate (g.slots - length args) (pos 0)) below) (arguments_dropped args around.operands g.params enters.params)
      ∙ ap (λ sl. entered sl around.operands) enters.slots in
      let inside = around_call given code around names g t free first count slots agrees.shapes suits.opened_below in
      let t' = record t { values = initial_values names args } in
      let suits' : Suits (body_of names room limit outside value) inside = record { names = refl; slots = enters.limited; temporaries = refl; handlers = refl; outside = λ o. suits.outside (out o); loop = tt; value = is; bare = λ o. refl; opened_below = below_more around.opening (length around.callers) suits.opened_below; none_open = λ o. tt; active = let a = suits.active in omega (arith, a, more) } in
      let agrees' : Agrees given names inside.opening t' = record { shapes = enters.shapes; collects = agrees.collects; cursor = agrees.cursor; replies = agrees.replies; numbers = agrees.numbers } in
      let fit' = fits_left s.values (body t') (fits_spent s.units s n (called names args body) e fit) in
      subst (λ x. EndsWith given code setting x around (first + 1) Fits64 (λ v. holding (result_operands value v)) (called names args body t)) (sym same) (ends_left given code around names g t free first count slots agrees.shapes suits.opened_below setting room limit outside value past is at_past _ (body t') (fb.follows inside t' enters.free count p suits' agrees' (omega (arith, enters.add)) (omega (arith, few, e)) fit')))))
