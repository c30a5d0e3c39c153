-- A `try` follows its meaning: a Try, the body, an EndTry and a jump past the handlers; the handlers, with the exception's code on the operands.
use Rattle.std.proofs.Common.{◌≡◌, ℕ, suc, ◌+◌, ◌≤◌, List, [], ◌∷◌, ◌++◌, length, Option, Some, None, refl, ◌∙◌, ap, subst, arith, length-append}
use Rattle.std.specs.Prelude.{Bool, true, false, ℤ, ⊤, is_some}
use Rattle.rtio_types.specs.declared.outcome.Exc.{Exc}
use Rattle.rtio_types.specs.declared.request.Reply.{Reply}
use Rattle.timeline_sem.specs.Actions.{State, break, continue, return, raised, budget, unanswered, Completion, normal, early, Action}
use Rattle.timeline_sem.specs.Statements.{after_try, attempt}
use Rattle.timeline_sem.specs.Laws.{final}
use Rattle.core_isa.specs.declared.code.Code.{Code}
use Rattle.core_isa.specs.declared.instr.Instr.TheVariants as I
use Rattle.core_isa.specs.Machine.{HandlerPoint, Next, goes, code_of, cut_to, drop_if, with_top}
use Rattle.core_isa.specs.Runs.{counted}
use Rattle.core_isa.specs.WellAsked.{RepliesFit}
use Rattle.code_follows.specs.Stands.{Around, holding, Loop, Setting, LoopSuits, Suits, machine_at, around_loop, Leads, Comes, ComesToRaise, ReturnsIf, ComesToLoop, EndsWith}
use Rattle.code_follows.specs.Parts.{Moved, Follows, Stand}
use Rattle.code_follows.proofs.Leads.{leads_instr, leads_then, with_on}
use Rattle.code_follows.proofs.Compose.{moved_then, fits_before}
use Rattle.code_follows.proofs.Raising.{raise_handled, nothing_since, is_open, cut_above}

-- the enclosing loop, seen from within a further `try`
abbrev pub loop_in_try : Option Loop → Option Loop
loop_in_try None = None
loop_in_try (Some loop) = Some (record loop { handlers_inside = suc loop.handlers_inside })

-- the setting of the body of a `try`
abbrev pub in_try : Setting → Setting
in_try setting = record setting { handlers = suc setting.handlers; loop = loop_in_try setting.loop }

-- the handler for a place
abbrev pub handler_for : ℕ → Around → HandlerPoint
handler_for place around =
    record { place = place; height = length around.operands; recording = is_some around.opening }

-- the surroundings of the body
abbrev pub around_try : ℕ → Around → Around
around_try place around = record around { handlers = handler_for place around ∷ around.handlers }

loop_suits_try : (place : ℕ) (loop : Option Loop) (around : Around) → LoopSuits loop around → LoopSuits (loop_in_try loop) (around_try place around)
loop_suits_try place None around l = tt
loop_suits_try place (Some loop) around l = (l.0, omega (arith, l.1))

suits_try : (place : ℕ) (setting : Setting) (around : Around) → Suits setting around → Suits (in_try setting) (around_try place around)
suits_try place setting around g =
    record {
      names = g.names;
      slots = g.slots;
      temporaries = g.temporaries;
      handlers = ap suc g.handlers;
      outside = g.outside;
      loop = loop_suits_try place setting.loop around g.loop;
      value = g.value;
      bare = g.bare;
      opened_below = g.opened_below;
      none_open = λ e. (ap is_some e, g.none_open e);
      active = g.active;
    }

moves_tried : (s : State) (c : Completion ⊤) (handle : Exc → Action ⊤) → Moved s (final c) → ((x : Exc) (t : State) → Moved t (final (handle x t))) → Moved s (final (after_try c handle))
moves_tried s (normal a t) handle r k = r
moves_tried s (early (raised x) t) handle r k = moved_then r (k x t)
moves_tried s (early continue t) handle r k = r
moves_tried s (early break t) handle r k = r
moves_tried s (early (return v) t) handle r k = r
moves_tried s (early budget t) handle r k = r
moves_tried s (early unanswered t) handle r k = r

module _ (given : List Reply) (code : Code) where
  fits_tried : (c : Completion ⊤) (handle : Exc → Action ⊤) → ((x : Exc) (t : State) → Moved t (final (handle x t))) → RepliesFit (final (after_try c handle)).asked given → RepliesFit (final c).asked given
  fits_tried (normal a t) handle k fit = fit
  fits_tried (early (raised x) t) handle k fit = fits_before given (k x t) fit
  fits_tried (early continue t) handle k fit = fit
  fits_tried (early break t) handle k fit = fit
  fits_tried (early (return v) t) handle k fit = fit
  fits_tried (early budget t) handle k fit = fit
  fits_tried (early unanswered t) handle k fit = fit

  -- the handler takes the exception
  handled : (place : ℕ) (from : Next) (around : Around) (s : State) (x : Exc) → ComesToRaise given code from (around_try place around) s x → Comes given code from around s (holding (code_of x ∷ [])) place
  handled place from around s x e =
      let inside = around_try place around in
      let m = machine_at inside s e.local e.free e.place e.count in
      let h = handler_for place around in
      let there = raise_handled x m.top m.callers m h around.handlers refl in
      let top = record m.top { place = place; operands = code_of x ∷ cut_to (length around.operands) m.top.operands; handlers = around.handlers } in
      let kept = ap (λ b. goes (with_top (drop_if b m) top)) (nothing_since around.opening s.collected (length around.callers)) in
      let cut = ap (λ ops. goes (with_top m (record top { operands = code_of x ∷ ops }))) (cut_above e.local.operands around.operands) in
      record {
        free = e.local.temporaries ++ e.free;
        count = e.count;
        slots = omega (arith, e.slots, length-append e.local.temporaries e.free);
        agrees = e.agrees;
        leads = subst (λ n. Leads given code from n) (there ∙ kept ∙ cut) e.leads;
      }

  ended : (place mid past : ℕ) (from : Next) (around : Around) (s : State) → Stand code.lines mid (I.EndTry ∷ I.Jump past ∷ []) → Comes given code from (around_try place around) s (holding []) mid → Comes given code from around s (holding []) past
  ended place mid past from around s stands c =
      let m = machine_at (around_try place around) s (holding []) c.free mid c.count in
      let m' = machine_at around s (holding []) c.free (mid + 1) (counted m).steps in
      record {
        free = c.free;
        count = (counted m').steps;
        slots = c.slots;
        agrees = c.agrees;
        leads = leads_then given code c.leads (leads_then given code {b = goes m'} (leads_instr given code m I.EndTry (I.Jump past ∷ []) stands) (leads_instr given code m' (I.Jump past) [] stands.3));
      }

  loop_tried : (place : ℕ) (from : Next) (around : Around) (loop : Option Loop) (s : State) (place_of : Loop → ℕ) (place_in : Loop → ℕ) → ((l : Loop) → place_in (record l { handlers_inside = suc l.handlers_inside }) ≡ place_of l) → ComesToLoop given code from (around_try place around) (loop_in_try loop) s place_in → ComesToLoop given code from around loop s place_of
  loop_tried place from around None s place_of place_in same e = e
  loop_tried place from around (Some loop) s place_of place_in same e =
      subst (λ p. Comes given code from (around_loop loop around) s (holding []) p) (same loop) e

  returns_tried : (may : Bool) (place : ℕ) (from : Next) (around : Around) (s : State) (v : ℤ) → ReturnsIf given code may from (around_try place around) s v → ReturnsIf given code may from around s v
  returns_tried false place from around s v e = e
  returns_tried true place from around s v e = record { place = e.place; stands = e.stands; comes = e.comes; fits = e.fits }

  ends_tried : {premise : Type 0} {most : ℕ} (setting : Setting) (place mid past : ℕ) (handle : Exc → Action ⊤) → Stand code.lines mid (I.EndTry ∷ I.Jump past ∷ []) → ((x : Exc) → Follows given code premise most setting place past (holding (code_of x ∷ [])) (λ v. ⊤) (λ v. holding []) (handle x)) → (around : Around) (from : Next) → premise → Suits setting around → (c : Completion ⊤) → (final c).units ≤ most → RepliesFit (final (after_try c handle)).asked given → EndsWith given code (in_try setting) from (around_try place around) mid (λ v. ⊤) (λ v. holding []) c → EndsWith given code setting from around past (λ v. ⊤) (λ v. holding []) (after_try c handle)
  ends_tried setting place mid past handle stands fh around from p suits (normal a s) few fit e = (tt, ended place mid past from around s stands e.1)
  ends_tried setting place mid past handle stands fh around from p suits (early (raised x) s) few fit e =
      let here = handled place from around s x e in
      with_on given code setting around past (λ v. ⊤) (λ v. holding []) (handle x s) here.leads ((fh x).follows around s here.free here.count p suits here.agrees here.slots few fit)
  ends_tried setting place mid past handle stands fh around from p suits (early continue s) few fit e =
      loop_tried place from around setting.loop s (λ l. l.again_place) (λ l. l.again_place) (λ l. refl) e
  ends_tried setting place mid past handle stands fh around from p suits (early break s) few fit e =
      loop_tried place from around setting.loop s (λ l. l.end_place) (λ l. l.end_place) (λ l. refl) e
  ends_tried setting place mid past handle stands fh around from p suits (early (return v) s) few fit e =
      returns_tried setting.may_return place from around s v e
  ends_tried setting place mid past handle stands fh around from p suits (early budget s) few fit e =
      record { last = e.last; leads = e.leads; units = e.units; asked = e.asked; cursor = e.cursor }
  ends_tried setting place mid past handle stands fh around from p suits (early unanswered s) few fit e =
      record { last = e.last; leads = e.leads; units = e.units; asked = e.asked; cursor = e.cursor }

  -- a body with handlers
  pub follows_attempt : {premise : Type 0} {most : ℕ} (setting : Setting) (first mid place past : ℕ) (body : Action ⊤) (handle : Exc → Action ⊤) → Stand code.lines first (I.Try place ∷ []) → Stand code.lines mid (I.EndTry ∷ I.Jump past ∷ []) → Follows given code premise most (in_try setting) (first + 1) mid (holding []) (λ v. ⊤) (λ v. holding []) body → ((x : Exc) → Follows given code premise most setting place past (holding (code_of x ∷ [])) (λ v. ⊤) (λ v. holding []) (handle x)) → Follows given code premise most setting first past (holding []) (λ v. ⊤) (λ v. holding []) (attempt body handle)
  follows_attempt setting first mid place past body handle at_first at_mid fb fh =
      record {
        moves = λ s. moves_tried s (body s) handle (fb.moves s) (λ x. (fh x).moves);
        follows = λ around s free count p suits agrees slots few fit.
            let m = machine_at around s (holding []) free first count in
            let now = counted m in
            let m' = machine_at (around_try place around) s (holding []) free (first + 1) now.steps in
            let tried = leads_instr given code m (I.Try place) [] at_first in
            let opened : Leads given code (goes m) (goes m') = subst (λ b. Leads given code (goes m) (goes (with_top m' (record m'.top { handlers = record { place = place; height = length around.operands; recording = b } ∷ around.handlers })))) (is_open around.opening s.collected agrees.collects) tried in
            with_on given code setting around past (λ v. ⊤) (λ v. holding []) (attempt body handle s) opened (ends_tried setting place mid past handle at_mid fh around (goes m') p suits (body s) (omega (arith, few, (fb.moves s).units)) fit (fb.follows (around_try place around) s free now.steps p (suits_try place setting around suits) agrees slots few (fits_tried (body s) handle (λ x. (fh x).moves) fit)));
      }
