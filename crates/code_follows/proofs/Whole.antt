-- The run of a function from its boot, where its body follows its meaning.
use Rattle.std.proofs.Common.{◌≡◌, ℕ, ◌+◌, List, [], ◌∷◌, slice_get, Some, None, refl, sym, ◌∙◌, ap, subst, arith}
use Rattle.std.specs.Prelude.{Bool, true, false, ℤ, pos, ⊤}
use Rattle.rtio_types.specs.declared.outcome.Exc.{Exc}
use Rattle.rtio_types.specs.declared.request.Reply.{Reply}
use Rattle.kern_syntax.specs.Tree.{FunctionTree, ProgramTree}
use Rattle.kern_calls.specs.Types.{Names, names_of}
use Rattle.timeline_sem.specs.Actions.{State, break, continue, return, raised, budget, unanswered, Completion, normal, early}
use Rattle.timeline_sem.specs.Statements.{block}
use Rattle.timeline_sem.specs.Programs.{meaning, meaning_of, opening, call_room, optional_body, function_call, initial_values, leave_function}
use Rattle.timeline_sem.specs.Laws.{final}
use Rattle.core_isa.specs.declared.code.Code.{Code}
use Rattle.core_isa.specs.declared.code.CodeFunction.{CodeFunction}
use Rattle.core_isa.specs.declared.instr.Instr.TheVariants as I
use Rattle.core_isa.specs.Machine as X
use Rattle.core_isa.specs.Machine.{Machine, MachineEnd, Next, goes, ends, raise, raise_at}
use Rattle.core_isa.specs.Steps.{enter, return_from}
use Rattle.core_isa.specs.Runs.{counted, boot, Ran, Runs, Gives}
use Rattle.core_isa.specs.WellAsked.{RepliesFit}
use Rattle.code_follows.specs.Stands.{Around, holding, Suits, machine_at, Fits64, AllNumbersFit, Agrees, Leads, Comes, ComesToRaise, IsReturn, result_operands, EndsWith}
use Rattle.code_follows.specs.Parts.{Follows, Stand}
use Rattle.code_follows.specs.Lawful.{ran_as, RunsAsMeant}
use Rattle.code_follows.proofs.Leads.{leads_instr, leads_step, leads_then}
use Rattle.code_follows.specs.Functions.{body_of, Enters, end_instrs}
use Rattle.code_follows.proofs.Calls.{step_return, fits_left}

-- the run that ends in a state gives this
abbrev gives : State → MachineEnd → ℕ → Ran
gives s outcome count =
    record { requests = s.asked; outcome = outcome; cursor = s.cursor; units = s.units; count = count }

module _ (given : List Reply) (code : Code) (function : ℕ) (g : CodeFunction) (found : slice_get code.functions function ≡ Some g) (args : List ℤ) (cursor : ℤ) (units : ℕ) where
  -- a run that comes to an end
  ended : (s : State) (outcome : MachineEnd) (last : Machine) → Leads given code (goes (boot g args cursor units given)) (ends outcome last) → last.asked ≡ s.asked → last.cursor ≡ s.cursor → last.units ≡ s.units → (count : ℕ) × Runs code function args cursor units given (gives s outcome count)
  ended s outcome last l a c u =
      let b = l.by 0 in
      let same : gives s outcome last.steps ≡ record { requests = last.asked; outcome = outcome; cursor = last.cursor; units = last.units; count = last.steps } =
      ap (λ x. record { requests = x; outcome = outcome; cursor = s.cursor; units = s.units; count = last.steps }) (sym a)
      ∙ ap (λ x. record { requests = last.asked; outcome = outcome; cursor = x; units = s.units; count = last.steps }) (sym c)
      ∙ ap (λ x. record { requests = last.asked; outcome = outcome; cursor = last.cursor; units = x; count = last.steps }) (sym u) in
      (last.steps, record { entry = g; found = found; bound = b.0; gives = subst (λ n. Gives n (gives s outcome last.steps)) (sym b.2) same })

  module _ (names : Names) where
    abbrev pub around_first : Around
    around_first =
        record { function = g; names = names; temporaries = []; operands = []; handlers = []; callers = []; opening = None }

    -- the first function's Return ends the run
    returns : (s : State) (v : ℤ) (value : Bool) (p : ℕ) → g.value ≡ value → IsReturn (slice_get code.lines p) → Comes given code (goes (boot g args cursor units given)) around_first s (holding (result_operands value v)) p → (count : ℕ) × Runs code function args cursor units given (gives s X.returned count)
    returns s v true p e r c =
        let m = machine_at around_first s (holding (v ∷ [])) c.free p c.count in
        let by = leads_step given code m _ (step_return given code m r ∙ ap (λ b. return_from b (counted m)) e) in
        ended s X.returned _ (leads_then given code c.leads by) refl refl refl
    returns s v false p e r c =
        let m = machine_at around_first s (holding []) c.free p c.count in
        let by = leads_step given code m _ (step_return given code m r ∙ ap (λ b. return_from b (counted m)) e) in
        ended s X.returned _ (leads_then given code c.leads by) refl refl refl

    falls : (s : State) (value : Bool) (p : ℕ) → g.value ≡ value → Stand code.lines p (end_instrs value) → Comes given code (goes (boot g args cursor units given)) around_first s (holding []) p → (count : ℕ) × Runs code function args cursor units given (gives s X.returned count)
    falls s true p e stands c =
        let m = machine_at around_first s (holding []) c.free p c.count in
        let at = stands.3 in
        returns s (pos 0) true (p + 1) e (subst (λ o. IsReturn o) (sym at.1) at.2) (record { free = c.free; count = (counted m).steps; slots = c.slots; agrees = c.agrees; leads = leads_then given code c.leads (leads_instr given code m (I.Const (pos 0)) (I.Return ∷ []) stands) })
    falls s false p e stands c = returns s (pos 0) false p e (subst (λ o. IsReturn o) (sym stands.1) stands.2) c

    raises : (s : State) (x : Exc) → ComesToRaise given code (goes (boot g args cursor units given)) around_first s x → (count : ℕ) × Runs code function args cursor units given (gives s (X.raised x) count)
    raises s x e = ended s (X.raised x) _ e.leads refl refl refl

    -- an end of the body is one of the run
    whole : (limit : ℕ) (value : Bool) (past : ℕ) → g.value ≡ value → Stand code.lines past (end_instrs value) → (c : Completion ⊤) → EndsWith given code (body_of names call_room limit true value) (goes (boot g args cursor units given)) around_first past (λ v. ⊤) (λ v. holding []) c → (count : ℕ) × Runs code function args cursor units given (ran_as (meaning_of (leave_function [] c)) count)
    whole limit value past e stands (normal a s) c = falls s value past e stands c.1
    whole limit value past e stands (early (return v) s) c =
        returns s v value c.place e c.stands (subst (λ b. Comes given code (goes (boot g args cursor units given)) around_first s (holding (result_operands b v)) c.place) e c.comes)
    whole limit value past e stands (early break s) c = absurd c
    whole limit value past e stands (early continue s) c = absurd c
    whole limit value past e stands (early (raised x) s) c = raises s x c
    whole limit value past e stands (early budget s) c = ended s X.budget c.last c.leads c.asked c.cursor c.units
    whole limit value past e stands (early unanswered s) c = ended s X.unanswered c.last c.leads c.asked c.cursor c.units

  requests_of : (c : Completion ℤ) → (meaning_of c).requests ≡ (final c).asked
  requests_of (normal v s) = refl
  requests_of (early reason s) = refl

  -- the run of a function whose body follows its meaning
  pub runs_as_meant : (program : ProgramTree) (f : FunctionTree) (limit past : ℕ) (value : Bool) → slice_get program function ≡ Some f → g.value ≡ value → Enters (names_of program f) g limit args → Stand code.lines past (end_instrs value) → Fits64 cursor → AllNumbersFit given → RepliesFit (meaning program function args cursor units given).requests given → Follows given code ⊤ units (body_of (names_of program f) call_room limit true value) g.first past (holding []) (λ v. ⊤) (λ v. holding []) (block (record { program = program; names = names_of program f }) (function_call program call_room) f.body) → RunsAsMeant program code function args cursor units given
  runs_as_meant program f limit past value at_f is enters stands cursor_fits numbers fit fb =
      let names = names_of program f in
      let callee = function_call program call_room in
      let body = block (record { program = program; names = names }) callee f.body in
      let s = record (opening cursor units given) { values = initial_values names args } in
      let c = body s in
      let meant : meaning program function args cursor units given ≡ meaning_of (leave_function [] c) = ap (λ o. meaning_of (optional_body program callee o args (opening cursor units given))) at_f in
      let around = around_first names in
      let begins : boot g args cursor units given ≡ machine_at around s (holding []) enters.free g.first 0 = ap (λ sl. record (boot g args cursor units given) { top = record (enter g args) { slots = sl } }) enters.slots in
      let suits : Suits (body_of names call_room limit true value) around = record { names = refl; slots = enters.limited; temporaries = refl; handlers = refl; outside = λ o. refl; loop = tt; value = is; bare = λ o. refl; opened_below = tt; none_open = λ o. tt; active = refl } in
      let agrees : Agrees given names None s = record { shapes = enters.shapes; collects = refl; cursor = cursor_fits; replies = refl; numbers = numbers } in
      let fit' : RepliesFit (final c).asked given = fits_left given code [] c (subst (λ l. RepliesFit l given) (ap (λ m. m.requests) meant ∙ requests_of (leave_function [] c)) fit) in
      let e = fb.follows around s enters.free 0 tt suits agrees (omega (arith, enters.add)) (omega arith) fit' in
      let run = whole names limit value past is stands c (subst (λ m. EndsWith given code (body_of names call_room limit true value) (goes m) around past (λ v. ⊤) (λ v. holding []) c) (sym begins) e) in
      subst (λ m. (count : ℕ) × Runs code function args cursor units given (ran_as m count)) (sym meant) run
