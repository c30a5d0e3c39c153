-- Leaving a loop or a function: the handlers added inside are removed one by one.
use Rattle.std.proofs.Common.{◌≡◌, ℕ, zero, suc, ◌+◌, ◌≤◌, List, [], ◌∷◌, ◌++◌, length, drop, take, Option, Some, sym, ◌∙◌, ap, subst, arith, append_assoc, length-append, length-drop}
use Rattle.std.specs.Prelude.{ℤ, ⊤, replicate}
use Rattle.std.proofs.lemmas.List.{take-append-drop, length-take}
use Rattle.rtio_types.specs.declared.request.Reply.{Reply}
use Rattle.timeline_sem.specs.Actions.{State, break, continue, stop}
use Rattle.core_isa.specs.declared.code.Code.{Code}
use Rattle.core_isa.specs.declared.code.CodeLine.{CodeLine}
use Rattle.core_isa.specs.declared.instr.Instr.{Instr}
use Rattle.core_isa.specs.declared.instr.Instr.TheVariants as I
use Rattle.core_isa.specs.Machine.{HandlerPoint, Next, goes}
use Rattle.core_isa.specs.Runs.{counted}
use Rattle.code_follows.specs.Stands.{Around, Local, holding, Loop, Setting, Suits, SlotsAdd, around_loop, at_return, machine_at, slots_of, Fits64, Agrees, Leads, Comes, ComesToLoop, IsReturn, result_operands, EndsWith}
use Rattle.code_follows.specs.Parts.{Follows, Stand}
use Rattle.code_follows.proofs.Leads.{leads_instr, leads_same, leads_then}
use Rattle.code_follows.proofs.Compose.{moved_same}
use Rattle.code_follows.proofs.Beneath.{machine_by}

-- instructions behind others
pub stand_behind : (lines : List CodeLine) (place n : ℕ) (rest : List Instr) → Stand lines place (replicate n I.EndTry ++ rest) → Stand lines (place + n) rest
stand_behind lines place zero rest stands =
    let e : place ≡ place + 0 = omega arith in
    subst (λ p. Stand lines p rest) e stands
stand_behind lines place (suc n) rest stands =
    let e : place + 1 + n ≡ place + suc n = omega arith in
    subst (λ p. Stand lines p rest) e (stand_behind lines (place + 1) n rest stands.3)

module _ (given : List Reply) (code : Code) where
  -- so many handlers are removed
  pub leads_end_tries : (around : Around) (s : State) (local : Local) (free : List ℤ) (rest : List Instr) (n place count : ℕ) (hs : List HandlerPoint) → n ≤ length hs → Stand code.lines place (replicate n I.EndTry ++ rest) → (count' : ℕ) × Leads given code (goes (machine_at (record around { handlers = hs }) s local free place count)) (goes (machine_at (record around { handlers = drop n hs }) s local free (place + n) count'))
  leads_end_tries around s local free rest zero place count hs less stands =
      let e : place ≡ place + 0 = omega arith in
      (count, subst (λ p. Leads given code (goes (machine_at (record around { handlers = hs }) s local free place count)) (goes (machine_at (record around { handlers = hs }) s local free p count))) e (leads_same given code _))
  leads_end_tries around s local free rest (suc n) place count [] less stands = absurd (omega (arith, less))
  leads_end_tries around s local free rest (suc n) place count (h ∷ hs) less stands =
      let m = machine_at (record around { handlers = h ∷ hs }) s local free place count in
      let next = leads_end_tries around s local free rest n (place + 1) (counted m).steps hs (omega (arith, less)) stands.3 in
      let e : place + 1 + n ≡ place + suc n = omega arith in
      let there = machine_at (record around { handlers = drop n hs }) s local free (place + 1 + n) next.0 in
      (next.0, subst (λ p. Leads given code (goes m) (goes (machine_at (record around { handlers = drop n hs }) s local free p next.0))) e (leads_then given code (leads_instr given code m I.EndTry (replicate n I.EndTry ++ rest) stands) next.1))

  -- to a place of the enclosing loop
  to_loop : (setting : Setting) (loop : Loop) (first to : ℕ) → setting.loop ≡ Some loop → Stand code.lines first (replicate loop.handlers_inside I.EndTry ++ I.Jump to ∷ []) → (around : Around) (s : State) (free : List ℤ) (count : ℕ) → (loop.temporaries_kept ≤ length around.temporaries) × (loop.handlers_inside ≤ length around.handlers) → Agrees given around.names around.opening s → SlotsAdd around [] free → Comes given code (goes (machine_at around s (holding []) free first count)) (around_loop loop around) s (holding []) to
  to_loop setting loop first to is stands around s free count suits agrees slots =
      let n = loop.handlers_inside in
      let k = loop.temporaries_kept in
      let removed = leads_end_tries around s (holding []) free (I.Jump to ∷ []) n first count around.handlers suits.1 stands in
      let m = machine_at (record around { handlers = drop n around.handlers }) s (holding []) free (first + n) removed.0 in
      let jumped = leads_instr given code m (I.Jump to) [] (stand_behind code.lines first n (I.Jump to ∷ []) stands) in
      let moved_on : around.temporaries ++ free ≡ take k around.temporaries ++ (drop k around.temporaries ++ free) = ap (λ l. l ++ free) (sym (take-append-drop k around.temporaries)) ∙ append_assoc (take k around.temporaries) (drop k around.temporaries) free in
      let same : machine_at (record around { handlers = drop n around.handlers }) s (holding []) free to (counted m).steps ≡ machine_at (around_loop loop around) s (holding []) (drop k around.temporaries ++ free) to (counted m).steps = ap (λ l. machine_by (around_loop loop around) s (slots_of s.values ++ l) around.operands to (counted m).steps) moved_on in
      let slots' : SlotsAdd (around_loop loop around) [] (drop k around.temporaries ++ free) = omega (arith, slots, suits.0, length-append (drop k around.temporaries) free, length-drop k around.temporaries, length-take k around.temporaries) in
      record {
        free = drop k around.temporaries ++ free;
        count = (counted m).steps;
        slots = slots';
        agrees = agrees;
        leads = subst (λ x. Leads given code (goes (machine_at around s (holding []) free first count)) (goes x)) same (leads_then given code removed.1 jumped);
      }

  loop_here : (from : Next) (around : Around) (s : State) (loop : Option Loop) (l : Loop) (place_of : Loop → ℕ) → loop ≡ Some l → Comes given code from (around_loop l around) s (holding []) (place_of l) → ComesToLoop given code from around loop s place_of
  loop_here from around s loop l place_of e c = subst (λ o. ComesToLoop given code from around o s place_of) (sym e) c

  loop_suits : (loop : Option Loop) (l : Loop) (around : Around) → loop ≡ Some l → Rattle.code_follows.specs.Stands.LoopSuits loop around → (l.temporaries_kept ≤ length around.temporaries) × (l.handlers_inside ≤ length around.handlers)
  loop_suits loop l around e g = subst (λ o. Rattle.code_follows.specs.Stands.LoopSuits o around) e g

  pub follows_break : {premise : Type 0} {most : ℕ} {setting : Setting} {first past : ℕ} (loop : Loop) → setting.loop ≡ Some loop → Stand code.lines first (replicate loop.handlers_inside I.EndTry ++ I.Jump loop.end_place ∷ []) → Follows given code premise most setting first past (holding []) (λ v. ⊤) (λ v. holding []) (stop {A = ⊤} break)
  follows_break {setting = setting} {first = first} loop is stands =
      record {
        moves = moved_same;
        follows = λ around s free count p suits agrees slots few fit. loop_here _ around s setting.loop loop (λ l. l.end_place) is (to_loop setting loop first loop.end_place is stands around s free count (loop_suits setting.loop loop around is suits.loop) agrees slots);
      }

  pub follows_continue : {premise : Type 0} {most : ℕ} {setting : Setting} {first past : ℕ} (loop : Loop) → setting.loop ≡ Some loop → Stand code.lines first (replicate loop.handlers_inside I.EndTry ++ I.Jump loop.again_place ∷ []) → Follows given code premise most setting first past (holding []) (λ v. ⊤) (λ v. holding []) (stop {A = ⊤} continue)
  follows_continue {setting = setting} {first = first} loop is stands =
      record {
        moves = moved_same;
        follows = λ around s free count p suits agrees slots few fit. loop_here _ around s setting.loop loop (λ l. l.again_place) is (to_loop setting loop first loop.again_place is stands around s free count (loop_suits setting.loop loop around is suits.loop) agrees slots);
      }
