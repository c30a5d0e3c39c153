-- What the program's parts make of its bytes.
use Rattle.std.specs.Prelude.{◌≡◌, ℕ, List, None}
use Rattle.rtio_types.specs.declared.outcome.Outcome.{Outcome}
use Rattle.rtio_core.specs.Core.{CoreState, new_core}
use Rattle.core_session.specs.Sessions.{RunsSession}
use Rattle.kern_syntax.specs.Tree.{ProgramTree}
use Rattle.core_isa.specs.declared.code.Code.{Code}
use Rattle.core_isa.specs.Marks.{Marked}
use Rattle.core_image.specs.Accepted.{MainTakesNothing}
use Rattle.sim_words.specs.declared.asked.Options.{Options}
use Rattle.top_calls.specs.declared.answer.Answer.{Answer}
use Rattle.top_calls.specs.declared.answer.Answer.TheVariants as answer
use Rattle.sim_program.specs.declared.image.Image.{Image}
use Rattle.sim_program.specs.declared.image.Image.TheVariants as image
use Rattle.sim_program.specs.Images.{IsAcceptedImage, IsImageRefused}
use Rattle.core_analyzer.specs.DumpFields.{first_wrong}
use Rattle.core_analyzer.specs.Dumps.{Dumped, IsSpelling}
use Rattle.sim_program.specs.declared.wave.Wave.{Wave}
use Rattle.sim_program.specs.declared.wave.Wave.TheVariants as wave
use Rattle.sim_program.specs.Waves.{DrawsWave, IsDumpRefused, IsWaveDump}
use Rattle.sim_program.specs.declared.report.Form.{Form}
use Rattle.sim_program.specs.Runs.{IsReported, RunsMain, start_of}
use Rattle.sim_program.specs.declared.run.Run.{Run}
use Rattle.sim_report.specs.Pending.{pends}
use Rattle.sim_program.specs.Reports.{finish_of, told_text}

-- bytes are the image of accepted code, or they are refused
abbrev pub IsImageOf : (bytes : List ℕ) → Image → Type 0
IsImageOf bytes (image.Accepted code) = IsAcceptedImage bytes code × ((told : List ℕ) → ¬ IsImageRefused bytes told)
IsImageOf bytes (image.Refused told) = IsImageRefused bytes told.items × ((code : Code) → ¬ IsAcceptedImage bytes code)

-- code in range was accepted, or it is refused
abbrev pub IsVerifiedAs : (bytes : List ℕ) → Code → Image → Type 0
IsVerifiedAs bytes code (image.Accepted verified) = (verified ≡ code) × Marked code × MainTakesNothing code
IsVerifiedAs bytes code (image.Refused told) = IsImageRefused bytes told.items

-- the dump is the only one that the bytes spell, and no field of them is wrong
pub record IsDumpOf (bytes : List ℕ) (dump : Dumped) : Type 0 where
  pub spelled : IsSpelling bytes dump
  pub only : (other : Dumped) → IsSpelling bytes other → dump ≡ other
  pub right : first_wrong bytes ≡ None

-- bytes have this waveform, or they are refused
abbrev pub IsWaveOf : (bytes : List ℕ) → Wave → Type 0
IsWaveOf bytes (wave.Drawn text) = DrawsWave bytes text.items × ((told : List ℕ) → ¬ IsDumpRefused bytes told)
IsWaveOf bytes (wave.Refused told) = IsDumpRefused bytes told.items × ((dump : Dumped) → ¬ IsWaveDump bytes dump)

-- a run of the main function of compiled code leaves this core
pub record IsMainRun (program : ProgramTree) (code : Code) (options : Options) (core : CoreState) (how : Outcome) (steps : ℕ) : Type 0 where
  pub left : CoreState
  pub runs : RunsMain program options code.main left how
  pub counted : RunsSession code options.budget (start_of code.main) (new_core options.config) left how steps
  pub reported : IsReported left core

-- an answer has the text of a run and its finish
abbrev pub TellsOf : Form → Run → (budget size : ℕ) → Answer → Type 0
TellsOf form run budget size (answer.Due bytes finish) =
    (bytes.items ≡ told_text form run.core budget size run.steps) × (finish ≡ finish_of run.outcome (pends run.core))
TellsOf form run budget size (answer.Refused told) = ⊥
TellsOf form run budget size (answer.Bad told) = ⊥
