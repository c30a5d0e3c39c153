-- A chair that did nothing yet, and one whose further acts are none of the pipeline's.
use Rattle.std.proofs.Common.{◌≡◌, ℕ, List, [], ◌++◌, refl, ap, ◌∙◌, append-nil}
use Rattle.std.proofs.lemmas.List.Elements.{All-nil, filter_map-append}
use Rattle.rtio_core.specs.declared.data.Act.{Act}
use Rattle.rtio_core.specs.declared.data.Config.{Config}
use Rattle.rtio_core.specs.declared.data.Entry.{Entry}
use Rattle.exp_model.specs.declared.session.Session.{Session}
use Rattle.sched_state.specs.declared.entry.SchedAct.{SchedAct}
use Rattle.sched_state.specs.declared.entry.SchedEntry.{SchedEntry}
use Rattle.lab_ties.specs.Steps.{IsKernelStep}
use Rattle.lab_ties.specs.Ties.{AreTied, report_of, reports_of}

-- no sessions and no reports belong together
pub tied-empty : (session : Session) (pipeline : ℕ) (config : Config) (chair : ℕ) (sched : List SchedEntry) (history : List Entry)
    → AreTied session pipeline config chair sched [] history []
tied-empty session pipeline config chair sched history = record {
  done = [];
  begun = refl;
  told = refl;
  right = All-nil (IsKernelStep session config sched pipeline chair history);
}

-- acts at the scheduler that report no kernel step of the pipeline leave what is tied
pub tied-further : (session : Session) (pipeline : ℕ) (config : Config) (chair : ℕ)
    → (sched : List SchedEntry) (reports more : List SchedAct) (history : List Entry) (acts : List Act)
    → reports_of pipeline more ≡ []
    → AreTied session pipeline config chair sched reports history acts
    → AreTied session pipeline config chair sched (reports ++ more) history acts
tied-further session pipeline config chair sched reports more history acts none t = record {
  done = t.done;
  begun = t.begun;
  told =
      filter_map-append (report_of pipeline) reports more
      ∙ ap (λ xs. reports_of pipeline reports ++ xs) none
      ∙ append-nil (reports_of pipeline reports)
      ∙ t.told;
  right = t.right;
}
