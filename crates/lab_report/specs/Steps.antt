-- The lines of the steps that were reported.
use Rattle.std.specs.Prelude.{ℕ, List, [], ◌++◌, codes, decimal}
use Rattle.sched_state.specs.declared.entry.SchedAct.{SchedAct}
use Rattle.sched_state.specs.declared.entry.SchedAct.TheVariants.{Stepped}
use Rattle.sched_state.specs.declared.entry.SchedEntry.{SchedEntry}
use Rattle.sched_state.specs.declared.entry.StepWord.{StepWord}
use Rattle.sched_state.specs.declared.entry.StepWord.TheVariants as word
use Rattle.sim_report.specs.Names.{exception_name}

-- the word for what became of a step
abbrev pub word_text : StepWord → List ℕ
word_text word.Ok = codes "ok"
word_text word.Failed = codes "failed"
word_text (word.Raised exception) = codes "raised " ++ exception_name exception
word_text word.Budget = codes "budget"
word_text word.Horizon = codes "horizon"
word_text word.Paused = codes "paused"
word_text word.Terminated = codes "terminated"
word_text word.Deleted = codes "deleted"

-- the line of a step's report, with the clock after it; another act has none
abbrev pub line_of_act : SchedAct → List ℕ
line_of_act (Stepped rid place pipeline clock result word) =
    codes "step " ++ decimal clock ++ codes " " ++ decimal rid ++ codes " " ++ decimal place ++ codes " " ++ word_text word ++ codes "\n"
line_of_act act = []

abbrev pub step_line : SchedEntry → List ℕ
step_line entry = line_of_act entry.act
