-- Units and requests: the machine takes a unit and makes a request as the meaning does.
use Rattle.std.proofs.Common.{◌≡◌, ℕ, zero, suc, ◌≤◌, List, [], ◌∷◌, ◌++◌, length, drop, slice_get, Option, Some, None, refl, sym, ◌∙◌, ap, subst, arith, length-append}
use Rattle.std.specs.Prelude.{ℤ, is_some, IsTrue}
use Rattle.rtio_types.specs.declared.event.Event.{Event}
use Rattle.rtio_types.specs.declared.outcome.Exc.{Exc}
use Rattle.rtio_types.specs.declared.request.Request.{Request}
use Rattle.rtio_types.specs.declared.request.Reply.{Reply}
use Rattle.rtio_types.specs.Replies.{raised_by}
use Rattle.rtio_types.specs.Requests.{fits_request}
use Rattle.timeline_sem.specs.Actions.{State, Action, take_unit_of, next_reply_of, raise_if, ask, request, go_on as then_act}
use Rattle.timeline_sem.specs.Laws.{final}
use Rattle.kern_calls.specs.Types.{Names}
use Rattle.core_isa.specs.declared.code.Code.{Code}
use Rattle.core_isa.specs.Machine as X
use Rattle.core_isa.specs.Machine.{Machine, Next, goes, ends, raise, cursor_before, drop_recording, unit_of, raise_or, answered, ask_then, request_then}
use Rattle.core_isa.specs.WellAsked.{RepliesFit}
use Rattle.code_follows.specs.Stands.{Around, Opening, Local, Setting, SlotsAdd, machine_at, recording_of, cursor_at_end, NumbersFit, AllNumbersFit, Agrees, Comes, ComesToRaise, EndsAs, EndsWith}
use Rattle.code_follows.specs.Parts.{Moved}
use Rattle.code_follows.proofs.Leads.{leads_same}
use Rattle.code_follows.proofs.Compose.{fits_before}
use Rattle.code_follows.proofs.Lists.{get_seam, got_there, left_there}

-- a dropped recording gives back the saved cursor
pub dropped_cursor : (o : Option Opening) (c : Option (List Event)) (t : ℤ) → is_some c ≡ is_some o → cursor_before (recording_of o c) t ≡ cursor_at_end o t
dropped_cursor None None t e = refl
dropped_cursor None (Some events) t e = refl
dropped_cursor (Some o) (Some events) t e = refl
dropped_cursor (Some o) None t e = absurd (grind (arith, e))

module _ (given : List Reply) (code : Code) where
  pub comes_here : {around : Around} {s : State} {local : Local} (free : List ℤ) {place : ℕ} (count : ℕ) → SlotsAdd around local.temporaries free → Agrees given around.names around.opening s → Comes given code (goes (machine_at around s local free place count)) around s local place
  comes_here free count slots agrees =
      record { free = free; count = count; slots = slots; agrees = agrees; leads = leads_same given code _ }

  pub raises_here : {around : Around} {s : State} {x : Exc} (local : Local) (free : List ℤ) (place count : ℕ) → SlotsAdd around local.temporaries free → Agrees given around.names around.opening s → ComesToRaise given code (raise x (machine_at around s local free place count)) around s x
  raises_here local free place count slots agrees =
      record { local = local; free = free; place = place; count = count; slots = slots; agrees = agrees; leads = leads_same given code _ }

  -- the machine ends where it stands for a state
  pub ends_here : {around : Around} {s : State} (reason : X.MachineEnd) (local : Local) (free : List ℤ) (place count : ℕ) → Agrees given around.names around.opening s → EndsAs given code (ends reason (drop_recording (machine_at around s local free place count))) around s reason
  ends_here {around} {s} reason local free place count agrees =
      record {
        last = drop_recording (machine_at around s local free place count);
        leads = leads_same given code _;
        units = refl;
        asked = refl;
        cursor = dropped_cursor around.opening s.collected s.cursor agrees.collects;
      }

  pub with_units : {names : Names} {open_one : Option Opening} {s : State} (n : ℕ) → Agrees given names open_one s → Agrees given names open_one (record s { units = n })
  with_units n g =
      record { shapes = g.shapes; collects = g.collects; cursor = g.cursor; replies = g.replies; numbers = g.numbers }

  module _ {B : Type 0} (setting : Setting) (around : Around) (past : ℕ) (good : B → Type 0) (results : B → Local) (local : Local) (free : List ℤ) (place count : ℕ) (slots : SlotsAdd around local.temporaries free) where
    -- a unit is taken, and what follows follows
    pub ends_unit : (s : State) (u : ℕ) (go : Machine → Next) (f : Action B) → Agrees given around.names around.opening s → ((n : ℕ) → u ≡ suc n → EndsWith given code setting (go (machine_at around (record s { units = n }) local free place count)) around past good results (f (record s { units = n }))) → EndsWith given code setting (unit_of u go (machine_at around s local free place count)) around past good results (then_act (take_unit_of u s) (λ a. f))
    ends_unit s zero go f agrees k = ends_here X.budget local free place count agrees
    ends_unit s (suc n) go f agrees k = k n refl

    -- what a reply brings: it fits the request, its numbers are of 64 bits, and the state after it agrees
    pub record Answers (s : State) (q : Request) (reply : Reply) (t : State) : Type 0 where
      pub fits : IsTrue (fits_request q reply)
      pub numbers : NumbersFit reply
      pub agrees : Agrees given around.names around.opening t
      pub few : t.units ≤ s.units
      pub cursor : t.cursor ≡ s.cursor
      pub collected : t.collected ≡ s.collected

    ends_replied : (s : State) (q : Request) (r : Reply) (rest : List Reply) (o : Option Exc) (go : Reply → Machine → Next) (f : Reply → Action B) → Agrees given around.names around.opening (record s { asked = s.asked ++ q ∷ []; replies = rest }) → NumbersFit r → slice_get given (length s.asked) ≡ Some r → ((r : Reply) (t : State) → Moved t (final (f r t))) → RepliesFit (final (then_act (raise_if o r (record s { asked = s.asked ++ q ∷ []; replies = rest })) f)).asked given → ((reply : Reply) (t : State) → Answers s q reply t → RepliesFit (final (f reply t)).asked given → EndsWith given code setting (go reply (machine_at around t local free place count)) around past good results (f reply t)) → EndsWith given code setting (raise_or o (go r) (machine_at around (record s { asked = s.asked ++ q ∷ []; replies = rest }) local free place count)) around past good results (then_act (raise_if o r (record s { asked = s.asked ++ q ∷ []; replies = rest })) f)
    ends_replied s q r rest (Some x) go f here numbers there moves fit k =
        raises_here local free place count slots here
    ends_replied s q r rest None go f here numbers there moves fit k =
        let t = record s { asked = s.asked ++ q ∷ []; replies = rest } in
        let before : RepliesFit t.asked given = fits_before given (moves r t) fit in
        k r t (record { fits = before (length s.asked) q r (get_seam s.asked q []) there; numbers = numbers; agrees = here; few = omega arith; cursor = refl; collected = refl }) fit

    -- a reply, where there is one
    pub ends_answer : (s : State) (q : Request) (rs : List Reply) (go : Reply → Machine → Next) (f : Reply → Action B) → rs ≡ s.replies → Agrees given around.names around.opening s → ((r : Reply) (t : State) → Moved t (final (f r t))) → RepliesFit (final (then_act (then_act (next_reply_of rs (record s { asked = s.asked ++ q ∷ [] })) (λ reply. raise_if (raised_by reply) reply)) f)).asked given → ((reply : Reply) (t : State) → Answers s q reply t → RepliesFit (final (f reply t)).asked given → EndsWith given code setting (go reply (machine_at around t local free place count)) around past good results (f reply t)) → EndsWith given code setting (answered rs go (machine_at around (record s { asked = s.asked ++ q ∷ [] }) local free place count)) around past good results (then_act (then_act (next_reply_of rs (record s { asked = s.asked ++ q ∷ [] })) (λ reply. raise_if (raised_by reply) reply)) f)
    ends_answer s q [] go f same agrees moves fit k =
        let t = record s { asked = s.asked ++ q ∷ [] } in
        record {
          last = drop_recording (machine_at around t local free place count);
          leads = leads_same given code _;
          units = refl;
          asked = refl;
          cursor = dropped_cursor around.opening s.collected s.cursor agrees.collects;
        }
    ends_answer s q (r ∷ rest) go f same agrees moves fit k =
        let t = record s { asked = s.asked ++ q ∷ []; replies = rest } in
        let from = same ∙ agrees.replies in
        let numbers : AllNumbersFit (r ∷ rest) = subst (λ l. AllNumbersFit l) (sym same) agrees.numbers in
        let here : Agrees given around.names around.opening t =
        record {
          shapes = agrees.shapes;
          collects = agrees.collects;
          cursor = agrees.cursor;
          replies = left_there given (length s.asked) r rest from ∙ ap (λ n. drop n given) (sym (length-append s.asked (q ∷ [])));
          numbers = numbers.1;
        } in
        ends_replied s q r rest (raised_by r) go f here numbers.0 (got_there given (length s.asked) r rest from) moves fit k

    ends_taken : (s : State) (u : ℕ) (q : Request) (go : Reply → Machine → Next) (f : Reply → Action B) → s.units ≡ u → Agrees given around.names around.opening s → ((r : Reply) (t : State) → Moved t (final (f r t))) → RepliesFit (final (then_act (then_act (take_unit_of u s) (λ a. ask q)) f)).asked given → ((reply : Reply) (t : State) → Answers s q reply t → suc t.units ≤ s.units → RepliesFit (final (f reply t)).asked given → EndsWith given code setting (go reply (machine_at around t local free place count)) around past good results (f reply t)) → EndsWith given code setting (unit_of u (ask_then q go) (machine_at around s local free place count)) around past good results (then_act (then_act (take_unit_of u s) (λ a. ask q)) f)
    ends_taken s zero q go f same agrees moves fit k = ends_here X.budget local free place count agrees
    ends_taken s (suc n) q go f same agrees moves fit k =
        ends_answer (record s { units = n }) q s.replies go f refl (with_units n agrees) moves fit (λ reply t a here. k reply t (record { fits = a.fits; numbers = a.numbers; agrees = a.agrees; few = omega (arith, a.few, same); cursor = a.cursor; collected = a.collected }) (omega (arith, a.few, same)) here)

    -- a request: its unit, its reply, and what follows
    pub ends_request : (s : State) (q : Request) (go : Reply → Machine → Next) (f : Reply → Action B) → Agrees given around.names around.opening s → ((r : Reply) (t : State) → Moved t (final (f r t))) → RepliesFit (final (then_act (request q s) f)).asked given → ((reply : Reply) (t : State) → Answers s q reply t → suc t.units ≤ s.units → RepliesFit (final (f reply t)).asked given → EndsWith given code setting (go reply (machine_at around t local free place count)) around past good results (f reply t)) → EndsWith given code setting (request_then q go (machine_at around s local free place count)) around past good results (then_act (request q s) f)
    ends_request s q go f agrees moves fit k = ends_taken s s.units q go f refl agrees moves fit k
