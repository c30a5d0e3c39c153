-- What is answered to the bytes of a command.
use Rattle.std.proofs.Common.{◌≡◌, ℕ, List, ap, ◌∙◌}
use Rattle.std.specs.Prelude.{Ok, Err, Result, IfOk, Bool, length}
use Rattle.kern_syntax.specs.Tree.{Bytes, ProgramTree}
use Rattle.kern_syntax.specs.Print.{program_text}
use Rattle.core_isa.specs.declared.code.Code.{Code}
use Rattle.core_image.specs.Spelling.{image_of}
use Rattle.code_law.specs.DoesAs.{DoesAs}
use Rattle.sim_words.specs.declared.asked.Options.{Options}
use Rattle.top_calls.specs.declared.answer.Answer.{Answer}
use Rattle.top_calls.specs.declared.answer.Answer.TheVariants as A
use Rattle.top_calls.specs.Sayings.{IsAnswerTo}
use Rattle.top_calls.specs.Statuses.{status_of}
use Rattle.sim_program.specs.declared.report.Form.{Form}
use Rattle.sim_program.specs.declared.report.Form.TheVariants.{Report}
use Rattle.sim_program.specs.declared.run.Run.{Run}
use Rattle.kern_accepted.specs.Texts.{IsKernelText}
use Rattle.sim_program.specs.Texts.{IsTextRefused}
use Rattle.sim_program.specs.Images.{IsAcceptedImage, IsImageRefused}
use Rattle.sim_program.specs.Answers.{CompilesText, PrintsText, image_run_of, run_of}
use Rattle.sim_program.specs.Slack.{TellsSlack}
use Rattle.slack_check.specs.Lines.{slack_line}
use Rattle.slack_check.specs.Mains.{MainNeverUnderflows, verdict_of_main}
use Rattle.slack_meaning.specs.declared.verdict.Verdict.{Verdict}
use Rattle.slack_meaning.specs.declared.verdict.Verdict.TheVariants.{Yes}
use Rattle.sim_program.specs.Readings.{IsMainRun, TellsOf}
use Rattle.sim_program.specs.Runs.{RunsCode}
use Rattle.sim_program.proofs.Refused.{text-not-refused}

-- ---- runs

run-answer : (options : Options) (form : Form) (text : Bytes) (program : ProgramTree) (code : Code) (run : Run) (size : ℕ) (answer : Answer) → IsKernelText text program → DoesAs program code → size ≡ length (image_of code)
    → IsMainRun program code options run.core run.outcome run.steps → TellsOf form run options.budget size answer → IsAnswerTo (run_of options form) text answer
run-answer options form text program code run size (A.Due bytes finish) kernel does size_is r tells = (
  record {
    core = run.core;
    how = run.outcome;
    size = size;
    steps = run.steps;
    run = record {
      program = program;
      is_kernel = kernel;
      main = code.main;
      left = r.left;
      runs = r.runs;
      counted = record { code = code; does = does; size_is = size_is; runs = r.counted };
      reported = r.reported;
    };
    text = tells.0;
    status_is = ap status_of tells.1;
  },
  λ told refused. text-not-refused text told program kernel refused,
)
run-answer options form text program code run size (A.Refused told) kernel does size_is r tells = absurd tells
run-answer options form text program code run size (A.Bad told) kernel does size_is r tells = absurd tells

pub run-answers : (options : Options) (form : Form) (text : Bytes) (program : ProgramTree) (code : Code) (run : Run) (size : ℕ) {E : Type 0} (result : Result Answer E) → IsKernelText text program → DoesAs program code → size ≡ length (image_of code)
    → IsMainRun program code options run.core run.outcome run.steps → IfOk result (λ answer. TellsOf form run options.budget size answer) → IfOk result (λ answer. IsAnswerTo (run_of options form) text answer)
run-answers options form text program code run size (Ok answer) kernel does size_is r tells = run-answer options form text program code run size answer kernel does size_is r tells
run-answers options form text program code run size (Err e) kernel does size_is r tells = tt

code-answer : (options : Options) (dma : Bool) (bytes : List ℕ) (code : Code) (run : Run) (size : ℕ) (answer : Answer) → IsAcceptedImage bytes code → ((told : List ℕ) → ¬ IsImageRefused bytes told) → size ≡ length bytes
    → RunsCode code options run.core run.outcome run.steps → TellsOf (Report dma) run options.budget size answer → IsAnswerTo (image_run_of options (Report dma)) bytes answer
code-answer options dma bytes code run size (A.Due written finish) accepted not_refused size_is r tells = (
  record {
    core = run.core;
    how = run.outcome;
    size = size;
    steps = run.steps;
    run = record {
      code = code;
      accepted = accepted;
      size_is = size_is;
      runs = r;
    };
    text = tells.0;
    status_is = ap status_of tells.1;
  },
  not_refused,
)
code-answer options dma bytes code run size (A.Refused told) accepted not_refused size_is r tells = absurd tells
code-answer options dma bytes code run size (A.Bad told) accepted not_refused size_is r tells = absurd tells

pub code-answers : (options : Options) (dma : Bool) (bytes : List ℕ) (code : Code) (run : Run) (size : ℕ) {E : Type 0} (result : Result Answer E) → IsAcceptedImage bytes code → ((told : List ℕ) → ¬ IsImageRefused bytes told) → size ≡ length bytes
    → RunsCode code options run.core run.outcome run.steps → IfOk result (λ answer. TellsOf (Report dma) run options.budget size answer) → IfOk result (λ answer. IsAnswerTo (image_run_of options (Report dma)) bytes answer)
code-answers options dma bytes code run size (Ok answer) accepted not_refused size_is r tells = code-answer options dma bytes code run size answer accepted not_refused size_is r tells
code-answers options dma bytes code run size (Err e) accepted not_refused size_is r tells = tt

-- ---- texts

pub printed : (text written : Bytes) (program : ProgramTree) → IsKernelText text program → written ≡ program_text program → PrintsText text written × ((told : Bytes) → ¬ IsTextRefused text told)
printed text written program kernel is = (
  record { program = program; is_kernel = kernel; printed = is },
  λ told refused. text-not-refused text told program kernel refused,
)

pub compiled : (text written : Bytes) (program : ProgramTree) (code : Code) → IsKernelText text program → DoesAs program code → written ≡ image_of code → CompilesText text written × ((told : Bytes) → ¬ IsTextRefused text told)
compiled text written program code kernel does is = (
  record { program = program; is_kernel = kernel; code = code; does = does; image = is },
  λ told refused. text-not-refused text told program kernel refused,
)

-- the line of a verdict tells of the kernel
pub told-verdict : (cost depth : ℕ) (text written : Bytes) (program : ProgramTree) (verdict : Verdict) → IsKernelText text program → verdict ≡ verdict_of_main program cost depth
    → ((outs : ℕ) → verdict ≡ Yes outs → MainNeverUnderflows program cost depth) → written ≡ slack_line verdict
    → TellsSlack cost depth text written × ((told : Bytes) → ¬ IsTextRefused text told)
told-verdict cost depth text written program verdict kernel is promise line = (
  record {
    program = program;
    is_kernel = kernel;
    line = line ∙ ap slack_line is;
    yes = λ outs said. promise outs (is ∙ said);
  },
  λ told refused. text-not-refused text told program kernel refused,
)
