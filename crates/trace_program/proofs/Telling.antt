-- That a trace tells of a run of the kernel that a text is.
use Rattle.std.proofs.Common.{◌≡◌, ℕ, List, length, refl, sym, ap, subst}
use Rattle.std.specs.Prelude.{◌≤◌, Ok, Err, Result, IfOk, Option, pos, unwrap_or}
use Rattle.rtio_types.specs.declared.outcome.Outcome.{Outcome}
use Rattle.rtio_core.specs.declared.data.Entry.{Entry}
use Rattle.rtio_core.specs.Core.{CoreState, new_core}
use Rattle.kern_syntax.specs.Tree.{Bytes, ProgramTree}
use Rattle.kern_accepted.specs.Texts.{IsKernelText}
use Rattle.core_isa.specs.declared.code.Code.{Code}
use Rattle.core_image.specs.Spelling.{image_of}
use Rattle.code_forms.specs.Programs.{code_of_program}
use Rattle.code_law.specs.DoesAs.{DoesAs}
use Rattle.core_session.specs.Sessions.{Answered}
use Rattle.kernel_lines.specs.KernelLines.{program_lines}
use Rattle.kernel_lines.specs.Laws.{AskersHaveLines, FirstsHaveLines, HasLine}
use Rattle.kernel_places.specs.declared.runs.RunPlaces.{RunPlaces}
use Rattle.kernel_places.specs.Ends.{TellWhere, line_at}
use Rattle.kernel_places.specs.OfSessions.{AreOfSession}
use Rattle.sim_program.specs.declared.run.Run.{Run}
use Rattle.sim_program.specs.Readings.{IsMainRun}
use Rattle.sim_program.specs.Runs.{start_of}
use Rattle.sim_program.proofs.Refused.{text-not-refused}
use Rattle.sim_words.specs.declared.asked.Options.{Options}
use Rattle.top_calls.specs.declared.answer.Answer.{Answer}
use Rattle.top_calls.specs.declared.answer.Answer.TheVariants as A
use Rattle.top_calls.specs.Statuses.{status_of}
use Rattle.trace_program.specs.Places.{HasPlaces, beginning}
use Rattle.trace_program.specs.Readings.{IsTraceAnswer, IsTraceOf}

-- the core that a run of `main` leaves has the entries of its session
pub main-session : (program : ProgramTree) (code : Code) (options : Options) (core : CoreState) (how : Outcome) (steps : ℕ)
    → (made : IsMainRun program code options core how steps)
    → AreOfSession code options.budget (start_of code.main) (pos 0) core.history made.counted.asked steps
main-session program code options core how steps made = record {
  old = new_core options.config;
  new = made.left;
  how = how;
  session = made.counted;
  begins = refl;
  added = ap (λ (c : CoreState). c.history) made.reported.drained;
  answered = refl;
}

pub seen-session : (code seen : Code) (budget : ℕ) (history : List Entry) (asked : List Answered) (steps : ℕ) → seen ≡ code
    → AreOfSession code budget (start_of code.main) (pos 0) history asked steps → AreOfSession seen budget (start_of seen.main) (pos 0) history asked steps
seen-session code seen budget history asked steps seen_is s =
    subst (λ (k : Code). AreOfSession k budget (start_of k.main) (pos 0) history asked steps) (sym seen_is) s

-- a line that there is isn't 0
own-line : (lines : List ℕ) (place : ℕ) → HasLine lines place → 1 ≤ line_at lines place
own-line lines place has = subst (λ (o : Option ℕ). 1 ≤ unwrap_or o 0) (sym has.1) has.2

-- the lines of a program tell where its code asks and begins
pub tell-where : (program : ProgramTree) (code : Code) → code ≡ code_of_program program → AskersHaveLines program → FirstsHaveLines program → TellWhere code (program_lines program)
tell-where program code is_code askers firsts =
    subst (λ (k : Code). TellWhere k (program_lines program)) (sym is_code)
    (record {
      asks = λ m last so. own-line (program_lines program) m.top.place (askers m last so);
      begins = λ index f found. own-line (program_lines program) f.first (firsts index f found);
    })

-- its places, as those of the code that was seen
pub main-places : (program : ProgramTree) (code seen : Code) (lines : List ℕ) (budget : ℕ) (history : List Entry) (asked : List Answered) (how : Outcome) (steps : ℕ) (places : RunPlaces)
    → seen ≡ code → lines ≡ program_lines program
    → TellWhere code (program_lines program)
    → AreOfSession code budget (start_of code.main) (pos 0) history asked steps
    → (TellWhere seen lines → (asked : List Answered) → AreOfSession seen budget (start_of seen.main) (pos 0) history asked steps → HasPlaces seen lines (beginning seen.main budget) asked how steps places.asked.items places.end)
    → HasPlaces code (program_lines program) (beginning code.main budget) asked how steps places.asked.items places.end
main-places program code seen lines budget history asked how steps places seen_is lines_are tell s has =
    let seen-tell : TellWhere seen lines =
    subst (λ (l : List ℕ). TellWhere seen l) (sym lines_are) (subst (λ (k : Code). TellWhere k (program_lines program)) (sym seen_is) tell)
    in
    subst (λ (l : List ℕ). HasPlaces code l (beginning code.main budget) asked how steps places.asked.items places.end) lines_are
    (subst (λ (k : Code). HasPlaces k lines (beginning k.main budget) asked how steps places.asked.items places.end) seen_is
    (has seen-tell asked (seen-session code seen budget history asked steps seen_is s)))

module _ (options : Options) (text : Bytes) (program : ProgramTree) (code : Code) (run : Run) (places : RunPlaces)
    (kernel : IsKernelText text program) (does : DoesAs program code) (is_code : code ≡ code_of_program program)
    (made : IsMainRun program code options run.core run.outcome run.steps)
    (has : HasPlaces code (program_lines program) (beginning code.main options.budget) made.counted.asked run.outcome run.steps places.asked.items places.end) where
  trace-answer : (answer : Answer) → IsTraceOf options.config.horizon options.budget run (program_lines program) places answer → IsTraceAnswer options text answer
  trace-answer (A.Due bytes finish) tells = (
    record {
      core = run.core;
      how = run.outcome;
      size = length (image_of code);
      steps = run.steps;
      run = record {
        program = program;
        is_kernel = kernel;
        main = code.main;
        left = made.left;
        runs = made.runs;
        counted = record { code = code; does = does; size_is = refl; runs = made.counted };
        reported = made.reported;
      };
      is_code = is_code;
      asked = places.asked.items;
      end = places.end;
      places = has;
      told = tells.0;
      status_is = ap status_of tells.1;
    },
    λ told refused. text-not-refused text told program kernel refused,
  )
  trace-answer (A.Refused told) tells = absurd tells
  trace-answer (A.Bad told) tells = absurd tells

  pub trace-answers : {E : Type 0} (result : Result Answer E) (lines : List ℕ) → lines ≡ program_lines program
      → IfOk result (λ answer. IsTraceOf options.config.horizon options.budget run lines places answer)
      → IfOk result (λ answer. IsTraceAnswer options text answer)
  trace-answers (Ok answer) lines lines_are tells =
      trace-answer answer (subst (λ (l : List ℕ). IsTraceOf options.config.horizon options.budget run l places answer) lines_are tells)
  trace-answers (Err e) lines lines_are tells = tt
