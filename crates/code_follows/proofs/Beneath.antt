-- A part doesn't ask what lies beneath it.
use Rattle.std.proofs.Common.{◌≡◌, ℕ, ◌≤◌, List, [], ◌++◌, length, Option, Some, None, sym, ◌∙◌, ap, subst, arith, append_assoc, length-append}
use Rattle.std.specs.Prelude.{Bool, true, false, ℤ}
use Rattle.std.proofs.lemmas.List.{take-append-le}
use Rattle.std.proofs.lemmas.Bool.{false≢true}
use Rattle.rtio_types.specs.declared.outcome.Exc.{Exc}
use Rattle.rtio_types.specs.declared.request.Reply.{Reply}
use Rattle.timeline_sem.specs.Actions.{State, Reason, break, continue, return, raised, budget, unanswered, Completion, normal, early, Action}
use Rattle.core_isa.specs.declared.code.Code.{Code}
use Rattle.core_isa.specs.Machine.{Machine, Next, goes, raise}
use Rattle.code_follows.specs.Stands.{Around, Local, Loop, Setting, Suits, SlotsAdd, LoopSuits, around_loop, machine_at, slots_of, recording_of, Leads, Comes, ComesToRaise, ReturnsIf, ComesToLoop, EndsWith, EndsEarly}
use Rattle.code_follows.specs.Parts.{Follows, beneath, within, deeper, alone, IsBare, IsBareIn}

-- the machine by its slots and operands
abbrev pub machine_by : Around → State → (slots operands : List ℤ) → (place count : ℕ) → Machine
machine_by around s slots operands place count =
    record {
      top = record { function = around.function; place = place; slots = slots; operands = operands; handlers = around.handlers };
      callers = around.callers;
      cursor = s.cursor;
      units = s.units;
      recording = recording_of around.opening s.collected;
      replies = s.replies;
      asked = s.asked;
      steps = count;
    }

slots_same : (names t e l free : List ℤ) → names ++ ((t ++ e) ++ (l ++ free)) ≡ names ++ (t ++ ((e ++ l) ++ free))
slots_same names t e l free =
    ap (λ x. names ++ x) (append_assoc t e (l ++ free) ∙ ap (λ x. t ++ x) (sym (append_assoc e l free)))

pub machine_same : (extra : Local) (around : Around) (s : State) (local : Local) (free : List ℤ) (place count : ℕ) → machine_at (within extra around) s local free place count ≡ machine_at around s (beneath extra local) free place count
machine_same extra around s local free place count =
    ap (λ slots. machine_by around s slots (local.operands ++ (extra.operands ++ around.operands)) place count) (slots_same (slots_of s.values) around.temporaries extra.temporaries local.temporaries free)
    ∙ ap (λ operands. machine_by around s (slots_of s.values ++ (around.temporaries ++ ((extra.temporaries ++ local.temporaries) ++ free))) operands place count) (sym (append_assoc local.operands extra.operands around.operands))

pub slots_beneath : (extra : Local) (around : Around) (own free : List ℤ) → SlotsAdd (within extra around) own free → SlotsAdd around (extra.temporaries ++ own) free
slots_beneath extra around own free e =
    let a = length-append around.temporaries extra.temporaries in
    let b = length-append extra.temporaries own in
    omega (arith, e, a, b)

pub slots_within : (extra : Local) (around : Around) (own free : List ℤ) → SlotsAdd around (extra.temporaries ++ own) free → SlotsAdd (within extra around) own free
slots_within extra around own free e =
    let a = length-append around.temporaries extra.temporaries in
    let b = length-append extra.temporaries own in
    omega (arith, e, a, b)

loop_within : (loop : Option Loop) (extra : Local) (around : Around) → LoopSuits loop around → LoopSuits loop (within extra around)
loop_within None extra around l = tt
loop_within (Some loop) extra around l =
    let a = length-append around.temporaries extra.temporaries in
    (omega (arith, l.0, a), l.1)

pub suits_within : (extra : Local) (setting : Setting) (around : Around) → (setting.may_return ≡ true → extra.operands ≡ []) → Suits setting around → Suits (deeper extra.temporaries setting) (within extra around)
suits_within extra setting around none g =
    record {
      names = g.names;
      slots = g.slots;
      temporaries = ap (λ ts. ts ++ extra.temporaries) g.temporaries;
      handlers = g.handlers;
      outside = g.outside;
      loop = loop_within setting.loop extra around g.loop;
      value = g.value;
      bare = λ e. ap (λ os. os ++ around.operands) (none e) ∙ g.bare e;
      opened_below = g.opened_below;
      none_open = g.none_open;
      active = g.active;
    }

same_loop : (loop : Loop) (extra : Local) (around : Around) → loop.temporaries_kept ≤ length around.temporaries → extra.operands ≡ [] → around_loop loop (within extra around) ≡ around_loop loop around
same_loop loop extra around kept bare =
    ap (λ ts. record (around_loop loop (within extra around)) { temporaries = ts }) (take-append-le loop.temporaries_kept around.temporaries extra.temporaries kept)
    ∙ ap (λ os. record (around_loop loop around) { operands = os ++ around.operands }) bare

module _ (given : List Reply) (code : Code) where
  pub comes_beneath : (extra : Local) (from : Next) (around : Around) (s : State) (local : Local) (place : ℕ) → Comes given code from (within extra around) s local place → Comes given code from around s (beneath extra local) place
  comes_beneath extra from around s local place c =
      record {
        free = c.free;
        count = c.count;
        slots = slots_beneath extra around local.temporaries c.free c.slots;
        agrees = c.agrees;
        leads = subst (λ m. Leads given code from (goes m)) (machine_same extra around s local c.free place c.count) c.leads;
      }

  returns_beneath : (may : Bool) (extra : Local) (from : Next) (around : Around) (s : State) (v : ℤ) → ReturnsIf given code may from (within extra around) s v → ReturnsIf given code may from around s v
  returns_beneath false extra from around s v e = e
  returns_beneath true extra from around s v e =
      record { place = e.place; stands = e.stands; comes = e.comes; fits = e.fits }

  loops_beneath : (loop : Option Loop) (extra : Local) (from : Next) (around : Around) (s : State) (place_of : Loop → ℕ) → LoopSuits loop around → IsBare loop extra.operands → ComesToLoop given code from (within extra around) loop s place_of → ComesToLoop given code from around loop s place_of
  loops_beneath None extra from around s place_of suits bare e = e
  loops_beneath (Some loop) extra from around s place_of suits bare e =
      subst (λ a. Comes given code from a s (record { operands = []; temporaries = [] }) (place_of loop)) (same_loop loop extra around suits.0 bare) e

  raises_beneath : (extra : Local) (from : Next) (around : Around) (s : State) (x : Exc) → ComesToRaise given code from (within extra around) s x → ComesToRaise given code from around s x
  raises_beneath extra from around s x e =
      record {
        local = beneath extra e.local;
        free = e.free;
        place = e.place;
        count = e.count;
        slots = slots_beneath extra around e.local.temporaries e.free e.slots;
        agrees = e.agrees;
        leads = subst (λ m. Leads given code from (raise x m)) (machine_same extra around s e.local e.free e.place e.count) e.leads;
      }

  pub early_beneath : (setting : Setting) (extra : Local) (from : Next) (around : Around) (reason : Reason) (s : State) → LoopSuits setting.loop around → IsBare setting.loop extra.operands → EndsEarly given code (deeper extra.temporaries setting) from (within extra around) reason s → EndsEarly given code setting from around reason s
  early_beneath setting extra from around break s suits bare e =
      loops_beneath setting.loop extra from around s (λ l. l.end_place) suits bare e
  early_beneath setting extra from around continue s suits bare e =
      loops_beneath setting.loop extra from around s (λ l. l.again_place) suits bare e
  early_beneath setting extra from around (return v) s suits bare e =
      returns_beneath setting.may_return extra from around s v e
  early_beneath setting extra from around (raised x) s suits bare e = raises_beneath extra from around s x e
  early_beneath setting extra from around budget s suits bare e =
      record { last = e.last; leads = e.leads; units = e.units; asked = e.asked; cursor = e.cursor }
  early_beneath setting extra from around unanswered s suits bare e =
      record { last = e.last; leads = e.leads; units = e.units; asked = e.asked; cursor = e.cursor }

  ends_beneath : {A : Type 0} (setting : Setting) (extra : Local) (from : Next) (around : Around) (place : ℕ) (good : A → Type 0) (results : A → Local) (c : Completion A) → LoopSuits setting.loop around → IsBare setting.loop extra.operands → EndsWith given code (deeper extra.temporaries setting) from (within extra around) place good results c → EndsWith given code setting from around place good (λ a. beneath extra (results a)) c
  ends_beneath setting extra from around place good results (normal a s) suits bare e =
      (e.0, comes_beneath extra from around s (results a) place e.1)
  ends_beneath setting extra from around place good results (early reason s) suits bare e =
      early_beneath setting extra from around reason s suits bare e

  -- a part is the same with more beneath it
  pub follows_beneath : {A : Type 0} {premise : Type 0} {most : ℕ} {setting : Setting} {first past : ℕ} {inputs : Local} {good : A → Type 0} {results : A → Local} {m : Action A} → (extra : Local) → IsBareIn setting extra.operands → Follows given code premise most (deeper extra.temporaries setting) first past inputs good results m → Follows given code premise most setting first past (beneath extra inputs) good (λ a. beneath extra (results a)) m
  follows_beneath {setting} {first} {past} {inputs} {good} {results} {m} extra bare fm =
      record {
        moves = fm.moves;
        follows = λ around s free count p suits agrees slots few fit.
            ends_beneath setting extra (goes (machine_at around s (beneath extra inputs) free first count)) around past good results (m s) suits.loop bare.0 (subst (λ x. EndsWith given code (deeper extra.temporaries setting) (goes x) (within extra around) past good results (m s)) (machine_same extra around s inputs free first count) (fm.follows (within extra around) s free count p (suits_within extra setting around bare.1 suits) agrees (slots_within extra around inputs.temporaries free slots) few fit));
      }

  -- a part that doesn't end by a loop's statement or a `return` is the same in every loop
  early_anywhere : (setting : Setting) (from : Next) (around : Around) (reason : Reason) (s : State) → EndsEarly given code (alone setting) from around reason s → EndsEarly given code setting from around reason s
  early_anywhere setting from around break s e = absurd e
  early_anywhere setting from around continue s e = absurd e
  early_anywhere setting from around (return v) s e = absurd e
  early_anywhere setting from around (raised x) s e = e
  early_anywhere setting from around budget s e = e
  early_anywhere setting from around unanswered s e = e

  ends_anywhere : {A : Type 0} (setting : Setting) (from : Next) (around : Around) (place : ℕ) (good : A → Type 0) (results : A → Local) (c : Completion A) → EndsWith given code (alone setting) from around place good results c → EndsWith given code setting from around place good results c
  ends_anywhere setting from around place good results (normal a s) e = e
  ends_anywhere setting from around place good results (early reason s) e = early_anywhere setting from around reason s e

  suits_alone : (setting : Setting) (around : Around) → Suits setting around → Suits (alone setting) around
  suits_alone setting around g =
      record { names = g.names; slots = g.slots; temporaries = g.temporaries; handlers = g.handlers; outside = g.outside; loop = tt; value = g.value; bare = λ e. absurd (false≢true e); opened_below = g.opened_below; none_open = g.none_open; active = g.active }

  pub follows_anywhere : {A : Type 0} {premise : Type 0} {most : ℕ} {setting : Setting} {first past : ℕ} {inputs : Local} {good : A → Type 0} {results : A → Local} {m : Action A} → Follows given code premise most (alone setting) first past inputs good results m → Follows given code premise most setting first past inputs good results m
  follows_anywhere {setting} {first} {past} {inputs} {good} {results} {m} fm =
      record {
        moves = fm.moves;
        follows = λ around s free count p suits agrees slots few fit.
            ends_anywhere setting _ around past good results (m s) (fm.follows around s free count p (suits_alone setting around suits) agrees slots few fit);
      }
