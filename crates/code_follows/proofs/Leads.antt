-- How the machine gets from one state to another, and what an end that it comes to later is from before.
use Rattle.std.proofs.Common.{◌≡◌, ℕ, suc, List, ◌∷◌, Option, Some, None, refl, ◌∙◌, ap, arith}
use Rattle.std.specs.Prelude.{Bool, true, false, ℤ}
use Rattle.rtio_types.specs.declared.request.Reply.{Reply}
use Rattle.timeline_sem.specs.Actions.{State, Reason, break, continue, return, raised, budget, unanswered, Completion, normal, early}
use Rattle.core_isa.specs.declared.code.Code.{Code}
use Rattle.core_isa.specs.declared.instr.Instr.{Instr}
use Rattle.core_isa.specs.Machine as X
use Rattle.core_isa.specs.Machine.{Machine, Next, goes, ends, raise}
use Rattle.core_isa.specs.Steps.{act}
use Rattle.core_isa.specs.Runs.{go_on, steps, step, step_by, counted}
use Rattle.code_follows.specs.Stands.{Around, Local, Loop, Setting, Leads, Comes, EndsAs, ReturnsIf, ComesToLoop, EndsEarly, EndsWith}
use Rattle.code_follows.specs.Parts.{Stand}

module _ (given : List Reply) (code : Code) where
  pub leads_same : (n : Next) → Leads given code n n
  leads_same n = record { by = λ k. (k, omega arith, refl) }

  pub leads_then : {a b c : Next} → Leads given code a b → Leads given code b c → Leads given code a c
  leads_then l r =
      record { by = λ k. let b = r.by k in let a = l.by b.0 in (a.0, omega (arith, a.1, b.1), a.2 ∙ b.2) }

  -- one step
  pub leads_step : (m : Machine) (n : Next) → step code m ≡ n → Leads given code (goes m) n
  leads_step m n e = record { by = λ k. (suc k, omega arith, ap (λ x. go_on x (steps code k)) e) }

  -- an instruction that stands at the machine's place is what it does next
  pub at_instr : (m : Machine) (i : Instr) (rest : List Instr) → Stand code.lines m.top.place (i ∷ rest) → step code m ≡ act code i (counted m)
  at_instr m i rest stands = ap (λ o. step_by code o m) stands.1 ∙ ap (λ j. act code j (counted m)) stands.2

  pub leads_instr : (m : Machine) (i : Instr) (rest : List Instr) → Stand code.lines m.top.place (i ∷ rest) → Leads given code (goes m) (act code i (counted m))
  leads_instr m i rest stands = leads_step m _ (at_instr m i rest stands)

  pub comes_on : {a b : Next} {around : Around} {s : State} {local : Local} {place : ℕ} → Leads given code a b → Comes given code b around s local place → Comes given code a around s local place
  comes_on l c =
      record { free = c.free; count = c.count; slots = c.slots; agrees = c.agrees; leads = leads_then l c.leads }

  returns_on : {a b : Next} (may : Bool) (around : Around) (s : State) (v : ℤ) → Leads given code a b → ReturnsIf given code may b around s v → ReturnsIf given code may a around s v
  returns_on false around s v l e = e
  returns_on true around s v l e = record { place = e.place; stands = e.stands; comes = comes_on l e.comes; fits = e.fits }

  loop_on : {a b : Next} (around : Around) (loop : Option Loop) (s : State) (place_of : Loop → ℕ) → Leads given code a b → ComesToLoop given code b around loop s place_of → ComesToLoop given code a around loop s place_of
  loop_on around None s place_of l e = e
  loop_on around (Some loop) s place_of l e = comes_on l e

  pub ends_on : {a b : Next} {around : Around} {s : State} {reason : X.MachineEnd} → Leads given code a b → EndsAs given code b around s reason → EndsAs given code a around s reason
  ends_on l e =
      record { last = e.last; leads = leads_then l e.leads; units = e.units; asked = e.asked; cursor = e.cursor }

  pub early_on : {a b : Next} (setting : Setting) (around : Around) (reason : Reason) (s : State) → Leads given code a b → EndsEarly given code setting b around reason s → EndsEarly given code setting a around reason s
  early_on setting around break s l e = loop_on around setting.loop s (λ l. l.end_place) l e
  early_on setting around continue s l e = loop_on around setting.loop s (λ l. l.again_place) l e
  early_on setting around (return v) s l e = returns_on setting.may_return around s v l e
  early_on setting around (raised x) s l e =
      record { local = e.local; free = e.free; place = e.place; count = e.count; slots = e.slots; agrees = e.agrees; leads = leads_then l e.leads }
  early_on setting around budget s l e = ends_on l e
  early_on setting around unanswered s l e = ends_on l e

  -- what is so from a later state is so from an earlier one
  pub with_on : {A : Type 0} {a b : Next} (setting : Setting) (around : Around) (place : ℕ) (good : A → Type 0) (results : A → Local) (c : Completion A) → Leads given code a b → EndsWith given code setting b around place good results c → EndsWith given code setting a around place good results c
  with_on setting around place good results (normal v s) l e = (e.0, comes_on l e.1)
  with_on setting around place good results (early reason s) l e = early_on setting around reason s l e
