-- What each command reads, what it owes its bytes, and which it refuses.
use Rattle.std.specs.Prelude.{◌≡◌, ℕ, List, true, false, codes}
use Rattle.limits.specs.Limits.{most_dump, most_image, most_text}
use Rattle.kern_syntax.specs.Tree.{ProgramTree}
use Rattle.kern_syntax.specs.Print.{program_text}
use Rattle.core_isa.specs.declared.code.Code.{Code}
use Rattle.core_image.specs.Spelling.{image_of}
use Rattle.code_law.specs.DoesAs.{DoesAs}
use Rattle.kernel_gen.specs.Generated.{kernel_text}
use Rattle.sat_rounds.specs.declared.letters.Letter.{Letter}
use Rattle.sim_words.specs.declared.asked.Asked.{Asked}
use Rattle.sim_words.specs.declared.asked.Asked.TheVariants.{Sim, Generated, Check, Compile}
use Rattle.sim_words.specs.declared.asked.Asked.TheVariants.{Exec, Gen, Dump, Vcd, Sat, Slack}
use Rattle.sim_words.specs.declared.asked.Options.{Options}
use Rattle.top_calls.specs.Commands.{Command, Duty, Has, Program, Reads}
use Rattle.sim_program.specs.declared.report.Form.{Form}
use Rattle.sim_program.specs.declared.report.Form.TheVariants.{Report, Summary, Bytes}
use Rattle.kern_accepted.specs.Texts.{IsKernelText}
use Rattle.sim_program.specs.Texts.{IsTextRefused}
use Rattle.core_analyzer.specs.Dumps.{Dumped}
use Rattle.sim_program.specs.Images.{IsAcceptedImage, IsImageRefused}
use Rattle.sim_program.specs.Waves.{DrawsWave, IsDumpRefused, IsWaveDump}
use Rattle.sim_program.specs.Runs.{RunsImage, RunsKernel}
use Rattle.sim_program.specs.Reports.{Tells}
use Rattle.sim_program.specs.Links.{TellsLink}
use Rattle.sim_program.specs.Slack.{TellsSlack}

-- ---- what a command owes its bytes

-- the bytes are the canonical text of the program that the text has
pub record PrintsText (text written : List ℕ) : Type 0 where
  pub program : ProgramTree
  pub is_kernel : IsKernelText text program
  pub printed : written ≡ program_text program

-- the bytes are the image of code that does what the program means that the text has
pub record CompilesText (text written : List ℕ) : Type 0 where
  pub program : ProgramTree
  pub is_kernel : IsKernelText text program
  pub code : Code
  pub does : DoesAs program code
  pub image : written ≡ image_of code

-- such bytes are due, with status 0
abbrev pub IsDueWhole : ((text written : List ℕ) → Type 0) → (text written : List ℕ) → (status : ℕ) → Type 0
IsDueWhole Gives text written status = Gives text written × (status ≡ 0)

-- of the text of an accepted kernel; others are refused
abbrev pub of_kernel : ((text written : List ℕ) → (status : ℕ) → Type 0) → Duty
of_kernel Owes = record {
  IsDue = Owes;
  IsTaken = λ text. (program : ProgramTree) × IsKernelText text program;
  IsRefused = IsTextRefused;
  takes_text = true;
}

-- a run of the kernel is told in this form, with its status
abbrev pub run_of : Options → Form → Duty
run_of options form =
    of_kernel (λ text written status. Tells (RunsKernel options text) form options.budget written status)

-- a link is told over which the events of a run of the kernel are sent, with the run's status
abbrev pub link_of : Options → (word : List Letter) → Duty
link_of options word = of_kernel (TellsLink options word)

-- of the image of accepted code; others are refused. A run of the code is told in this form, with its status
abbrev pub image_run_of : Options → Form → Duty
image_run_of options form = record {
  IsDue = λ bytes written status. Tells (RunsImage options bytes) form options.budget written status;
  IsTaken = λ bytes. (code : Code) × IsAcceptedImage bytes code;
  IsRefused = IsImageRefused;
  takes_text = false;
}

-- of a dump whose stamps are at least 8; others are refused. Its waveform is drawn
abbrev pub waveform : Duty
waveform = record {
  IsDue = IsDueWhole DrawsWave;
  IsTaken = λ bytes. (dump : Dumped) × IsWaveDump bytes dump;
  IsRefused = IsDumpRefused;
  takes_text = false;
}

-- of every text: it is due itself
abbrev pub text_itself : Duty
text_itself = record {
  IsDue = IsDueWhole (λ text written. written ≡ text);
  IsTaken = λ text. Unit {0};
  IsRefused = λ text told. ⊥;
  takes_text = true;
}

-- what each command reads or has, and what it owes it
abbrev pub command_of : Asked → Command
command_of (Sim options dma) = record { origin = Reads most_text; duty = run_of options (Report dma) }
command_of (Generated number options) = record { origin = Has (kernel_text number); duty = run_of options Summary }
command_of Check = record { origin = Reads most_text; duty = of_kernel (IsDueWhole PrintsText) }
command_of Compile = record { origin = Reads most_text; duty = of_kernel (IsDueWhole CompilesText) }
command_of (Exec options dma) = record { origin = Reads most_image; duty = image_run_of options (Report dma) }
command_of (Gen number) = record { origin = Has (kernel_text number); duty = text_itself }
command_of (Dump options) = record { origin = Reads most_text; duty = run_of options Bytes }
command_of Vcd = record { origin = Reads most_dump; duty = waveform }
command_of (Sat options word) = record { origin = Reads most_text; duty = link_of options word }
command_of (Slack cost depth) = record { origin = Reads most_text; duty = of_kernel (IsDueWhole (TellsSlack cost depth)) }

abbrev pub simulator : Program Asked
simulator = record {
  usage = codes "usage: artiq_sim sim or check or compile or exec or gen or slack or dump or vcd or sat\n";
  takes_memory = true;
  command_of = command_of;
}
