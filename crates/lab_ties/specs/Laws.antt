-- What lasts while histories grow, how a tie grows with them, and what the ties make of a whole history.
use Rattle.std.specs.Prelude.{◌≡◌, ℕ, List, [], ◌∷◌, ◌++◌, ℤ}
use Rattle.rtio_core.specs.declared.data.Act.{Act}
use Rattle.rtio_core.specs.declared.data.Config.{Config}
use Rattle.rtio_core.specs.declared.data.Entry.{Entry}
use Rattle.rtio_core.specs.Core.{CoreState}
use Rattle.rtio_core.specs.Lawful.{IsLawful}
use Rattle.exp_model.specs.declared.session.Session.{Session}
use Rattle.exp_model.specs.declared.step.HostStep.TheVariants.{Kernel}
use Rattle.kern_syntax.specs.Tree.{Bytes}
use Rattle.sched_state.specs.declared.entry.SchedAct.{SchedAct}
use Rattle.sched_state.specs.declared.entry.SchedEntry.{SchedEntry}
use Rattle.sched_state.specs.Lawful.{state_after}
use Rattle.sched_core.specs.declared.answer.Job.TheVariants.{Step}
use Rattle.sched_core.specs.Calls.{IsJobFor}
use Rattle.sched_core.specs.Scheds.{IsSched, SchedValue}
use Rattle.lab_kernels.specs.DoesAs.{DoesAs}
pub use Rattle.lab_kernels.specs.Kernels.{AreAskedAtTop}
use Rattle.lab_kernels.specs.Kernels.{KernelRun, session_entries}
use Rattle.lab_kernels.specs.Meanings.{IsKernelSession}
use Rattle.lab_kits.specs.declared.kit.Kit.{Kit}
use Rattle.lab_kits.specs.Calls.{HasFunction}
use Rattle.lab_kits.specs.Kits.{KitCall, KitText, kit_source, program_in}
use Rattle.lab_ties.specs.Acts.{core_acts}
use Rattle.lab_ties.specs.Finished.{IsFinishedCore}
use Rattle.lab_ties.specs.Judged.{IsJudged}
use Rattle.lab_ties.specs.Steps.{IsKernelStep, start_of}
use Rattle.lab_ties.specs.Ties.{AreTied, report_on, reports_of}

-- the same acts of a chair stay tied in longer histories
abbrev pub TiesLast : Type 0
TiesLast =
    (session : Session) (pipeline : ℕ) (config : Config) (chair : ℕ)
    → (sched more : List SchedEntry) (reports : List SchedAct) (history rest : List Entry) (acts : List Act)
    → AreTied session pipeline config chair sched reports history acts
    → AreTied session pipeline config chair (sched ++ more) reports (history ++ rest) acts

-- a chair's acts are tied with a session more, and with further acts at
-- the scheduler that report it and no other kernel step of the pipeline
abbrev pub TiesGrow : Type 0
TiesGrow =
    (session : Session) (pipeline : ℕ) (config : Config) (chair : ℕ)
    → (sched : List SchedEntry) (reports more : List SchedAct) (history now : List Entry) (k : KernelRun)
    → AreTied session pipeline config chair sched reports now (core_acts chair history)
    → now ≡ history ++ session_entries chair history k
    → reports_of pipeline more ≡ report_on k ∷ []
    → IsKernelStep session config sched pipeline chair now k
    → AreTied session pipeline config chair sched (reports ++ more) now (core_acts chair now)

-- where a step that runs a kernel was taken with its kit, and a session on a core is one of the kernel, with the budget
-- of the laboratory's session, that is a session of the step; and it stays one while the scheduler's history grows
abbrev pub KernelsAreSteps : Type 0
KernelsAreSteps =
    (session : Session) (sched more : List SchedEntry) (rid place pipeline chair function : ℕ)
    → (name : Bytes) (args : List ℤ) (kit : Kit) (config : Config) (before after : List Entry) (k : KernelRun)
    → IsJobFor kit_source KitText KitCall session (state_after session sched) (Step rid place pipeline (Kernel name args) kit)
    → HasFunction (program_in kit) name args function
    → DoesAs (program_in kit) kit.compiled.1
    → IsKernelSession (program_in kit) kit.compiled.1 session.budget chair (start_of kit function args rid place) config before after k
    → IsKernelStep session config (sched ++ more) pipeline chair after k

-- a source that was judged rightly stays so
abbrev pub JudgementsLast : Type 0
JudgementsLast =
    (session : Session) (sched more : List SchedEntry) (act : SchedAct) → IsJudged session sched act → IsJudged session (sched ++ more) act

-- in the whole history of a finished core, whichever chairs made it, each request stands
-- at the greatest counter that it may have, and each end at the horizon stands there
abbrev pub CoresAreAskedAtTop : Type 0
CoresAreAskedAtTop =
    (workers pipeline : ℕ) (sched : SchedValue) (core : CoreState) → IsSched sched → IsLawful core.config core.history
    → IsFinishedCore sched.session workers sched.history pipeline core
    → AreAskedAtTop core.config [] core.history
