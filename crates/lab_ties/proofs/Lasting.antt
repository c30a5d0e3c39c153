-- What is said of runs and of sessions lasts in longer histories.
use Rattle.std.proofs.Common.{◌≡◌, ℕ, List, ◌++◌, sym, ap, subst, ◌∙◌, append_assoc}
use Rattle.std.specs.Prelude.{slice_get}
use Rattle.std.specs.List.{AllByRecursion}
use Rattle.std.proofs.lemmas.List.Elements.{All-weaker}
use Rattle.rtio_core.specs.declared.data.Config.{Config}
use Rattle.rtio_core.specs.declared.data.Entry.{Entry}
use Rattle.rtio_core.specs.declared.data.StartOf.{StartOf}
use Rattle.exp_runs.specs.declared.run.Run.{Run}
use Rattle.exp_model.specs.declared.session.Experiment.{Experiment}
use Rattle.exp_model.specs.declared.session.Session.{Session}
use Rattle.sched_state.specs.declared.entry.SchedAct.TheVariants as act
use Rattle.sched_state.specs.declared.entry.SchedEntry.{SchedEntry}
use Rattle.sched_state.specs.Reports.{steps_in}
use Rattle.sched_laws.proofs.Ends.{stay}
use Rattle.sched_core.specs.Scheds.{HasCall, found_source}
use Rattle.kern_syntax.specs.Tree.{ProgramTree}
use Rattle.lab_kernels.specs.Kernels.{KernelRun, session_entries}
use Rattle.lab_kits.specs.Accepted.{IsAccepted}
use Rattle.lab_kits.specs.Calls.{HasCallOf}
use Rattle.lab_ties.specs.Laws.{JudgementsLast, TiesLast}
use Rattle.lab_ties.specs.Steps.{IsForStep, IsKernelStep, IsSession}

-- what a session is started for
pub for-step-last : (session : Session) (program : ProgramTree) (sched more : List SchedEntry) (pipeline : ℕ) (of : StartOf)
    → IsForStep session program sched pipeline of → IsForStep session program (sched ++ more) pipeline of
for-step-last session program sched more pipeline of s =
    let later = stay session sched more of.rid s.run s.found in
    let same : later.0.experiment ≡ s.run.experiment = later.2 in
    record {
      run = later.0;
      found = later.1;
      in_pipeline = later.3 ∙ s.in_pipeline;
      source = ap (λ (n : ℕ). found_source (slice_get session.experiments n)) same ∙ s.source;
      name = s.name;
      step = ap (λ (n : ℕ). slice_get (steps_in (λ (e : Experiment). e.run) (slice_get session.experiments n)) of.pos) same ∙ s.step;
      text = s.text;
      text_is = s.text_is;
      is_kernel = s.is_kernel;
      function = s.function;
    }

-- a session in a core's history
pub session-last : (session : Session) (program : ProgramTree) (config : Config) (chair : ℕ) (history rest : List Entry) (k : KernelRun)
    → IsSession session program config chair history k → IsSession session program config chair (history ++ rest) k
session-last session program config chair history rest k s = record {
  before = s.before;
  after = s.after ++ rest;
  stands =
      ap (λ (h : List Entry). h ++ rest) s.stands ∙ append_assoc (s.before ++ session_entries chair s.before k) s.after rest;
  at_top = s.at_top;
  means = s.means;
  code = s.code;
  does = s.does;
  counts = s.counts;
}

pub ties-last : TiesLast
ties-last session pipeline config chair sched more reports history rest acts t = record {
  done = t.done;
  begun = t.begun;
  told = t.told;
  right =
      All-weaker
      (IsKernelStep session config sched pipeline chair history)
      (IsKernelStep session config (sched ++ more) pipeline chair (history ++ rest))
      (λ k s. record {
        program = s.program;
        for_step = for-step-last session s.program sched more pipeline k.of s.for_step;
        is_session = session-last session s.program config chair history rest k s.is_session;
      })
      t.done
      t.right;
}

-- runs of one experiment have one source
pub accepted-same : (session : Session) (run other : Run) → run.experiment ≡ other.experiment → IsAccepted session run → IsAccepted session other
accepted-same session run other same a = record {
  source = a.source;
  source_is = ap (λ (n : ℕ). found_source (slice_get session.experiments n)) (sym same) ∙ a.source_is;
  text = a.text;
  text_is = a.text_is;
  program = a.program;
  is_kernel = a.is_kernel;
  calls =
      subst
      (λ (n : ℕ). AllByRecursion (HasCall HasCallOf a.program) (steps_in (λ (e : Experiment). e.run) (slice_get session.experiments n)))
      same
      a.calls;
}

pub judgements-last : JudgementsLast
judgements-last session sched more (act.Took job) j = tt
judgements-last session sched more (act.Prepared rid) j =
    let later = stay session sched more rid j.0 j.1 in
    (later.0, later.1, accepted-same session j.0 later.0 (sym later.2) j.2)
judgements-last session sched more (act.Stepped rid place pipeline clock result word) j = tt
judgements-last session sched more (act.Analyzed rid) j = tt
judgements-last session sched more (act.SourceRefused rid) j =
    let later = stay session sched more rid j.0 j.1 in
    (later.0, later.1, λ a. j.2 (accepted-same session later.0 j.0 later.2 a))
judgements-last session sched more (act.Jumped clock) j = tt
judgements-last session sched more act.Halted j = tt
