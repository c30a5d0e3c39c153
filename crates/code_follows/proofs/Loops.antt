-- A turn of a loop, and `while`.
use Rattle.std.proofs.Common.{◌≡◌, ℕ, zero, suc, ◌+◌, ◌≤◌, List, [], ◌∷◌, ◌++◌, length, Some, None, refl, ap, subst, arith, length-append}
use Rattle.std.specs.Prelude.{Bool, ℤ, ⊤}
use Rattle.std.proofs.lemmas.List.{take_all}
use Rattle.rtio_types.specs.declared.request.Reply.{Reply}
use Rattle.timeline_sem.specs.Actions.{State, break, continue, return, raised, budget, unanswered, Completion, normal, early, Action, stop}
use Rattle.timeline_sem.specs.Statements.{when, after_turn, turn, while_turns, while_loop}
use Rattle.timeline_sem.specs.Laws.{final}
use Rattle.core_isa.specs.declared.code.Code.{Code}
use Rattle.core_isa.specs.declared.instr.Instr.TheVariants as I
use Rattle.core_isa.specs.Machine.{Next, goes}
use Rattle.core_isa.specs.WellAsked.{RepliesFit}
use Rattle.code_forms.specs.Conditions.{loop_instrs, loop_size}
use Rattle.code_follows.specs.Stands.{Around, Local, holding, Loop, Setting, Suits, machine_at, around_loop, Fits64, Comes, EndsWith}
use Rattle.code_follows.specs.Parts.{Moved, Follows, Stand, beneath, within, deeper, alone}
use Rattle.code_follows.proofs.Leads.{with_on}
use Rattle.code_follows.proofs.Compose.{moved_then, fits_before, follows_bind, follows_if, follows_same}
use Rattle.code_follows.proofs.Beneath.{machine_same, suits_within, slots_within, comes_beneath, early_beneath, follows_anywhere}
use Rattle.code_follows.proofs.Flow.{follows_skip, follows_no_units, follows_spend, comes_forget}
use Rattle.code_follows.proofs.Tests.{Asks, follows_looping}

-- the loop as its body sees it, with some temporary slots of its own
abbrev pub inner : Setting → (own : List ℤ) → (again past : ℕ) → Loop
inner setting own again past =
    record { again_place = again; end_place = past; handlers_inside = 0; temporaries_kept = length setting.temporaries + length own }

-- the setting of the body
abbrev pub body_setting : Setting → (own : List ℤ) → (again past : ℕ) → Setting
body_setting setting own again past =
    record (deeper own setting) { loop = Some (inner setting own again past) }

-- temporary slots alone
abbrev pub keeping : List ℤ → Local
keeping own = record { operands = []; temporaries = own }

moves_turned : (s : State) (c : Completion ⊤) (again : Action ⊤) → Moved s (final c) → ((t : State) → Moved t (final (again t))) → Moved s (final (after_turn c again))
moves_turned s (normal a t) again r k = moved_then r (k t)
moves_turned s (early continue t) again r k = moved_then r (k t)
moves_turned s (early break t) again r k = r
moves_turned s (early (return v) t) again r k = r
moves_turned s (early (raised x) t) again r k = r
moves_turned s (early budget t) again r k = r
moves_turned s (early unanswered t) again r k = r

module _ (given : List Reply) (code : Code) where
  fits_turned : (c : Completion ⊤) (again : Action ⊤) → ((t : State) → Moved t (final (again t))) → RepliesFit (final (after_turn c again)).asked given → RepliesFit (final c).asked given
  fits_turned (normal a t) again k fit = fits_before given (k t) fit
  fits_turned (early continue t) again k fit = fits_before given (k t) fit
  fits_turned (early break t) again k fit = fit
  fits_turned (early (return v) t) again k fit = fit
  fits_turned (early (raised x) t) again k fit = fit
  fits_turned (early budget t) again k fit = fit
  fits_turned (early unanswered t) again k fit = fit

  suits_body : (setting : Setting) (own : List ℤ) (again past : ℕ) (around : Around) → Suits setting around → Suits (body_setting setting own again past) (within (keeping own) around)
  suits_body setting own again past around g =
      let w = suits_within (keeping own) setting around (λ e. refl) g in
      record {
        names = w.names;
        slots = w.slots;
        temporaries = w.temporaries;
        handlers = w.handlers;
        outside = w.outside;
        loop = (omega (arith, ap length w.temporaries, length-append setting.temporaries own), omega arith);
        value = w.value;
        bare = w.bare;
        opened_below = w.opened_below;
        none_open = w.none_open;
        active = w.active;
      }

  same_body : (setting : Setting) (own : List ℤ) (again past : ℕ) (around : Around) → Suits setting around → around_loop (inner setting own again past) (within (keeping own) around) ≡ within (keeping own) around
  same_body setting own again past around g =
      let w = suits_within (keeping own) setting around (λ e. refl) g in
      ap (λ ts. record (within (keeping own) around) { temporaries = ts }) (take_all (length setting.temporaries + length own) (around.temporaries ++ own) (omega (arith, ap length w.temporaries, length-append setting.temporaries own)))

  -- an end of the body, seen from the loop
  ends_turned : {premise : Type 0} {most : ℕ} (setting : Setting) (own : List ℤ) (again past : ℕ) (next : Action ⊤) → Follows given code premise most setting again past (beneath (keeping own) (holding [])) (λ v. ⊤) (λ v. holding []) next → (around : Around) (from : Next) → premise → Suits setting around → (c : Completion ⊤) → (final c).units ≤ most → RepliesFit (final (after_turn c next)).asked given → EndsWith given code (body_setting setting own again past) from (within (keeping own) around) again (λ v. ⊤) (λ v. holding []) c → EndsWith given code setting from around past (λ v. ⊤) (λ v. holding []) (after_turn c next)
  ends_turned setting own again past next fn around from p suits (normal a s) few fit e =
      let here = comes_beneath given code (keeping own) from around s (holding []) again e.1 in
      with_on given code setting around past (λ v. ⊤) (λ v. holding []) (next s) here.leads (fn.follows around s here.free here.count p suits here.agrees here.slots few fit)
  ends_turned setting own again past next fn around from p suits (early continue s) few fit e =
      let here = comes_beneath given code (keeping own) from around s (holding []) again (subst (λ a. Comes given code from a s (holding []) again) (same_body setting own again past around suits) e) in
      with_on given code setting around past (λ v. ⊤) (λ v. holding []) (next s) here.leads (fn.follows around s here.free here.count p suits here.agrees here.slots few fit)
  ends_turned setting own again past next fn around from p suits (early break s) few fit e =
      (tt, comes_forget given code (beneath (keeping own) (holding [])) (comes_beneath given code (keeping own) from around s (holding []) past (subst (λ a. Comes given code from a s (holding []) past) (same_body setting own again past around suits) e)))
  ends_turned setting own again past next fn around from p suits (early (return v) s) few fit e =
      early_beneath given code (record setting { loop = None }) (keeping own) from around (return v) s tt tt e
  ends_turned setting own again past next fn around from p suits (early (raised x) s) few fit e =
      early_beneath given code (record setting { loop = None }) (keeping own) from around (raised x) s tt tt e
  ends_turned setting own again past next fn around from p suits (early budget s) few fit e =
      early_beneath given code (record setting { loop = None }) (keeping own) from around budget s tt tt e
  ends_turned setting own again past next fn around from p suits (early unanswered s) few fit e =
      early_beneath given code (record setting { loop = None }) (keeping own) from around unanswered s tt tt e

  -- a body and what comes behind a turn
  pub follows_after_turn : {premise : Type 0} {most : ℕ} (setting : Setting) (own : List ℤ) (first again past : ℕ) (body next : Action ⊤) → Follows given code premise most (body_setting setting own again past) first again (holding []) (λ v. ⊤) (λ v. holding []) body → Follows given code premise most setting again past (beneath (keeping own) (holding [])) (λ v. ⊤) (λ v. holding []) next → Follows given code premise most setting first past (beneath (keeping own) (holding [])) (λ v. ⊤) (λ v. holding []) (λ s. after_turn (body s) next)
  follows_after_turn setting own first again past body next fb fn =
      record {
        moves = λ s. moves_turned s (body s) next (fb.moves s) fn.moves;
        follows = λ around s free count p suits agrees slots few fit.
            ends_turned setting own again past next fn around (goes (machine_at around s (beneath (keeping own) (holding [])) free first count)) p suits (body s) (omega (arith, few, (fb.moves s).units)) fit (subst (λ m. EndsWith given code (body_setting setting own again past) (goes m) (within (keeping own) around) again (λ v. ⊤) (λ v. holding []) (body s)) (machine_same (keeping own) around s (holding []) free first count) (fb.follows (within (keeping own) around) s free count p (suits_body setting own again past around suits) agrees (slots_within (keeping own) around [] free slots) few (fits_turned (body s) next fn.moves fit)));
      }

  -- a whole turn, from its Turn on
  pub follows_loop_turn : {premise : Type 0} {n most : ℕ} → most ≤ suc n → (setting : Setting) (own : List ℤ) (first again past : ℕ) (body next : Action ⊤) → Stand code.lines first (I.Turn ∷ []) → Follows given code premise n (body_setting setting own again past) (first + 1) again (holding []) (λ v. ⊤) (λ v. holding []) body → Follows given code premise n setting again past (beneath (keeping own) (holding [])) (λ v. ⊤) (λ v. holding []) next → Follows given code premise most setting first past (beneath (keeping own) (holding [])) (λ v. ⊤) (λ v. holding []) (turn body next)
  follows_loop_turn less setting own first again past body next stands fb fn =
      follows_spend given code less stands (follows_after_turn setting own (first + 1) again past body next fb fn)

  -- a `while`: its code is a Turn and the body; what is asked for the condition, and a test that goes back to the Turn or past the
  -- loop
  module _ {premise : Type 0} (setting : Setting) (top cond late past : ℕ) (turned : Bool) (asked condition : Action ℤ) (body : Action ⊤) (asks : Asks turned asked condition) (at_top : Stand code.lines top (I.Turn ∷ [])) (at_late : Stand code.lines late (loop_instrs turned top past)) (ends : past ≡ late + loop_size turned) (follows_asked : (n : ℕ) → Follows given code premise n (alone setting) cond late (holding []) Fits64 (λ v. holding (v ∷ [])) asked) (follows_body : (n : ℕ) → Follows given code premise n (body_setting setting [] cond past) (top + 1) cond (holding []) (λ v. ⊤) (λ v. holding []) body) where
    abbrev pub Turns : ℕ → Type 0
    Turns n =
        Follows given code premise n setting cond past (holding []) (λ v. ⊤) (λ v. holding []) (while_turns n condition body)

    pub follows_turns : (n : ℕ) → Turns n
    follows_turns zero =
        follows_same given code (asks (λ b. when b (stop budget))) (follows_bind given code (follows_anywhere given code (follows_asked zero)) (λ v. follows_looping given code turned v (λ b. when b (stop budget)) at_late ends (follows_no_units given code at_top) (follows_skip given code)))
    follows_turns (suc n) =
        follows_same given code (asks (λ b. when b (turn body (while_turns n condition body)))) (follows_bind given code (follows_anywhere given code (follows_asked (suc n))) (λ v. follows_looping given code turned v (λ b. when b (turn body (while_turns n condition body))) at_late ends (follows_if given code (λ p. p.0) (follows_loop_turn (omega arith) setting [] top cond past body (while_turns n condition body) at_top (follows_body n) (follows_turns n))) (follows_skip given code)))

    pub follows_while : (most : ℕ) → Follows given code premise most setting cond past (holding []) (λ v. ⊤) (λ v. holding []) (while_loop condition body)
    follows_while most =
        record {
          moves = λ s. (follows_turns s.units).moves s;
          follows = λ around s free count p suits agrees slots few fit. (follows_turns s.units).follows around s free count p suits agrees slots (omega arith) fit;
        }
