-- The session of a main function, and what follows it.
use Rattle.std.proofs.Common.{◌≡◌, ℕ, List, [], ◌∷◌, ◌++◌, refl, sym, ap, subst, ◌∙◌, arith, Some, None}
use Rattle.std.specs.Prelude.{◌<◌, ℤ, zero, suc, length, slice_get}
use Rattle.std.proofs.lemmas.List.Sums.{fold-append}
use Rattle.rtio_types.specs.declared.outcome.Outcome.{Outcome}
use Rattle.rtio_core.specs.declared.data.Act.TheVariants.{End}
use Rattle.rtio_core.specs.declared.data.Entry.{Entry}
use Rattle.rtio_core.specs.declared.data.StartOf.{StartOf}
use Rattle.rtio_types.specs.declared.request.Reply.{Reply}
use Rattle.rtio_core.specs.Core.{CoreState, new_core}
use Rattle.rtio_core.specs.Entries.{last_cursor, open_session}
use Rattle.kern_syntax.specs.Tree.{FunctionTree, ParameterTree, ProgramTree}
use Rattle.kern_arguments.specs.Fitting.{ArgumentsFit}
use Rattle.core_isa.specs.declared.code.Code.{Code}
use Rattle.core_cpu.specs.Standing.{HasEntry}
use Rattle.core_image.specs.Accepted.{MainTakesNothing}
use Rattle.core_image.specs.Ranges.{IsInRange}
use Rattle.code_law.specs.DoesAs.{DoesAs}
use Rattle.run_schedule.specs.Schedules.{Lockstep, ScheduleState}
use Rattle.core_session.specs.Lockstep.{GrowsAtTop}
use Rattle.core_session.specs.Scripts.{IsScriptOf, Next}
use Rattle.core_session.specs.Sessions.{AddsSession, Answered, RunsSession, beginning_of, entry_of, open_entries}
use Rattle.core_session.specs.Timed.{IsTimed, drained}
use Rattle.kernel_session.specs.Meant.{MeansSession, TakesArguments, script_of}
use Rattle.sim_report.specs.Ends.{EndsWith, HasEnded}
use Rattle.sim_report.proofs.Ends.{ends-with}
use Rattle.sim_words.specs.declared.asked.Options.{Options}
use Rattle.sim_program.specs.Runs.{IsMain, IsReported, RunsCode, start_of}
use Rattle.sim_program.specs.Readings.{IsMainRun}

no-parameters : (parameters : List ParameterTree) → length parameters ≡ 0 → ArgumentsFit parameters []
no-parameters [] none = tt
no-parameters (p ∷ ps) none = absurd (omega (arith, none))

-- the main function of the code of a program is its `main`, and takes no arguments
pub is-main : (program : ProgramTree) (code : Code) → DoesAs program code → IsMain program code.main
is-main program code does = record { function = does.main.0; found = does.main.1; named = does.main.2 }

pub main-takes : (program : ProgramTree) (code : Code) → DoesAs program code → TakesArguments program code.main []
main-takes program code does =
    let f : FunctionTree = does.main.0 in
    let g = does.functions.each code.main f does.main.1 in
    let nothing : g.0.params ≡ 0 = does.main_takes_nothing g.0 g.1 in
    (f, does.main.1, no-parameters f.parameters (sym g.2 ∙ nothing))

get-some : {X : Type 0} (xs : List X) (k : ℕ) → k < length xs → (x : X) × (slice_get xs k ≡ Some x)
get-some [] k below = absurd (omega (arith, below))
get-some (x ∷ xs) zero below = (x, refl)
get-some (x ∷ xs) (suc k) below = get-some xs k (omega (arith, below))

-- so has accepted code
pub has-main : (code : Code) → IsInRange code → MainTakesNothing code → HasEntry code code.main []
has-main code in_range nothing =
    let g = get-some code.functions code.main in_range.main in
    record { entry = g.0; found = g.1; fit = sym (nothing g.0 g.1) }

-- and so a session of it has an entry
pub has-entry : (code lent : Code) (of : StartOf) → lent ≡ code → of ≡ start_of lent.main → IsInRange lent → MainTakesNothing lent → HasEntry code of.function of.args
has-entry code lent of same of_is in_range nothing =
    subst (λ (k : Code). HasEntry k of.function of.args) same
    (subst (λ (x : StartOf). HasEntry lent x.function x.args) (sym of_is) (has-main lent in_range nothing))

-- a history that a session was added to has no open session, and ends with an end
added : (of : StartOf) (old new : CoreState) (asked : List Answered) (how : Outcome) (cursor : ℤ) → AddsSession of old new asked how cursor
    → new.history ≡ (old.history ++ open_entries 0 of (last_cursor old.history) old.counter asked) ++ entry_of 0 (End how cursor new.counter) ∷ []
added of old new asked how cursor adds = adds.history

pub closed : (of : StartOf) (old new : CoreState) (asked : List Answered) (how : Outcome) (cursor : ℤ) → AddsSession of old new asked how cursor → open_session new.history ≡ None
closed of old new asked how cursor adds =
    let front : List Entry = old.history ++ open_entries 0 of (last_cursor old.history) old.counter asked in
    ap open_session (added of old new asked how cursor adds) ∙ fold-append _ _ front (entry_of 0 (End how cursor new.counter) ∷ [])

pub has-ended : (of : StartOf) (old new : CoreState) (asked : List Answered) (how : Outcome) (cursor : ℤ) → AddsSession of old new asked how cursor → HasEnded new.history
has-ended of old new asked how cursor adds =
    let front : List Entry = old.history ++ open_entries 0 of (last_cursor old.history) old.counter asked in (
      how,
      cursor,
      subst (λ (history : List Entry). EndsWith history how cursor) (sym (added of old new asked how cursor adds)) (ends-with front 0 how cursor new.counter),
    )

pub runs-closed : (code : Code) (units : ℕ) (of : StartOf) (old new : CoreState) (how : Outcome) (count : ℕ) → RunsSession code units of old new how count → open_session new.history ≡ None
runs-closed code units of old new how count s = closed of old new s.asked how s.cursor s.adds

-- also after the core went on
pub runs-ended : (code : Code) (units : ℕ) (of : StartOf) (old new core : CoreState) (how : Outcome) (count : ℕ) → RunsSession code units of old new how count → core ≡ drained new → HasEnded core.history
runs-ended code units of old new core how count s is =
    subst (λ (c : CoreState). HasEnded c.history) (sym is) (has-ended of old new s.asked how s.cursor s.adds)

-- ---- runs from a new core

-- the run of a kernel's `main`
pub main-run : (program : ProgramTree) (code : Code) (options : Options) (of : StartOf) (first left core : CoreState) (after : ScheduleState) (how outcome : Outcome) (count steps : ℕ)
    → DoesAs program code → of ≡ start_of code.main → first ≡ new_core options.config
    → MeansSession program options.budget of first left how → RunsSession code options.budget of first left how count
    → IsTimed (script_of program (beginning_of of options.budget first)) 0 of first options.schedule left after
    → (options.schedule ≡ Lockstep → GrowsAtTop first left) → IsReported left core → outcome ≡ how → steps ≡ count
    → IsMainRun program code options core outcome steps
main-run program code options of first left core after how outcome count steps does of_is first_is means runs timed top reported how_is steps_is =
    let start : StartOf = start_of code.main in
    let new : CoreState = new_core options.config in
    let means_of : MeansSession program options.budget start first left how = subst (λ (x : StartOf). MeansSession program options.budget x first left how) of_is means in
    let means_new : MeansSession program options.budget start new left how = subst (λ (s : CoreState). MeansSession program options.budget start s left how) first_is means_of in
    let runs_of : RunsSession code options.budget start first left how count = subst (λ (x : StartOf). RunsSession code options.budget x first left how count) of_is runs in
    let runs_new : RunsSession code options.budget start new left how count = subst (λ (s : CoreState). RunsSession code options.budget start s left how count) first_is runs_of in
    let runs_how : RunsSession code options.budget start new left outcome count = subst (λ (o : Outcome). RunsSession code options.budget start new left o count) (sym how_is) runs_new in
    let timed_of : IsTimed (script_of program (beginning_of start options.budget first)) 0 start first options.schedule left after =
    subst (λ (x : StartOf). IsTimed (script_of program (beginning_of x options.budget first)) 0 x first options.schedule left after) of_is timed in
    record {
      left = left;
      runs = record {
        is_main = is-main program code does;
        session = subst (λ (o : Outcome). MeansSession program options.budget start new left o) (sym how_is) means_new;
        after = after;
        timed = subst (λ (s : CoreState). IsTimed (script_of program (beginning_of start options.budget s)) 0 start s options.schedule left after) first_is timed_of;
        at_top = λ lockstep. subst (λ (s : CoreState). GrowsAtTop s left) first_is (top lockstep);
      };
      counted = subst (λ (n : ℕ). RunsSession code options.budget start new left outcome n) (sym steps_is) runs_how;
      reported = reported;
    }

-- the run of an image's main function
pub code-run : (code : Code) (options : Options) (of : StartOf) (first left core : CoreState) (after : ScheduleState) (how outcome : Outcome) (count steps : ℕ)
    → of ≡ start_of code.main → first ≡ new_core options.config
    → RunsSession code options.budget of first left how count
    → (next : List Reply → Next) → IsScriptOf code (beginning_of of options.budget first) next → IsTimed next 0 of first options.schedule left after
    → (options.schedule ≡ Lockstep → GrowsAtTop first left) → IsReported left core → outcome ≡ how → steps ≡ count
    → RunsCode code options core outcome steps
code-run code options of first left core after how outcome count steps of_is first_is runs next script timed top reported how_is steps_is =
    let start : StartOf = start_of code.main in
    let new : CoreState = new_core options.config in
    let runs_of : RunsSession code options.budget start first left how count = subst (λ (x : StartOf). RunsSession code options.budget x first left how count) of_is runs in
    let runs_new : RunsSession code options.budget start new left how count = subst (λ (s : CoreState). RunsSession code options.budget start s left how count) first_is runs_of in
    let runs_how : RunsSession code options.budget start new left outcome count = subst (λ (o : Outcome). RunsSession code options.budget start new left o count) (sym how_is) runs_new in
    record {
      left = left;
      session = subst (λ (n : ℕ). RunsSession code options.budget start new left outcome n) (sym steps_is) runs_how;
      after = after;
      next = next;
      script = subst (λ (s : CoreState). IsScriptOf code (beginning_of start options.budget s) next) first_is
          (subst (λ (x : StartOf). IsScriptOf code (beginning_of x options.budget first) next) of_is script);
      timed = subst (λ (s : CoreState). IsTimed next 0 start s options.schedule left after) first_is
          (subst (λ (x : StartOf). IsTimed next 0 x first options.schedule left after) of_is timed);
      at_top = λ lockstep. subst (λ (s : CoreState). GrowsAtTop s left) first_is (top lockstep);
      reported = reported;
    }
