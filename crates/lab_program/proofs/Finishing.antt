-- A laboratory whose cores went on until they were stopped.
use Rattle.std.proofs.Common.{◌≡◌, ◌<◌, ℕ, List, map, refl, sym, ap, subst, ◌∙◌, arith}
use Rattle.std.specs.Prelude.{[], Option, None}
use Rattle.rtio_types.specs.declared.request.Waiting.{Waiting}
use Rattle.rtio_core.specs.Core.{CoreState, core_top}
use Rattle.rtio_core.specs.Entries.{open_session}
use Rattle.rtio_core.specs.Lawful.{IsLawful}
use Rattle.rtio_headline.specs.Headline.{Headline}
use Rattle.core_session.specs.Timed.{drained}
use Rattle.exp_model.specs.declared.session.Session.{Session}
use Rattle.sched_state.specs.declared.entry.SchedEntry.{SchedEntry}
use Rattle.sched_core.specs.Scheds.{IsSched, SchedValue}
use Rattle.stage_work.specs.Finished.{IsFinished, IsFinishedCore}
use Rattle.stage_work.specs.Laws.{AreAskedAtTop, CoresAreAskedAtTop}
use Rattle.stage_work.specs.Serving.{ArePrompt}
use Rattle.lab_program.specs.Laboratories.{ArePromptCores, IsRunCore, IsRunOf, IsToldRun, IsWorkedOff}
use Rattle.lab_program.specs.Telling.{AreTold}
use Rattle.lab_program.proofs.Told.{AreDrained, IsDrained, are-drained, lines-are}

-- several workers
pub crew-worked : (session : Session) (sched : SchedValue) (cores : List CoreState) → 1 < session.workers
    → IsFinished session session.workers sched cores → IsWorkedOff session sched cores
crew-worked session sched cores several finished = record { finished = finished; prompt = λ one. absurd (omega (arith, several, one)) }

-- no request waits on a core that went on without a session
pub none-waits : (old new : CoreState) (waits : Option Waiting) → new ≡ drained old → open_session old.history ≡ None → waits ≡ new.waiting
    → (open_session new.history ≡ None → waits ≡ None) → new.waiting ≡ None
none-waits old new waits is closed value none = sym value ∙ none (ap (λ (c : CoreState). open_session c.history) is ∙ closed)

abbrev HeadlineHolds : Type 0
HeadlineHolds = (core : CoreState) → IsLawful core.config core.history → Headline core

-- the histories stay, so what holds of the cores that the workers left holds of those that went on
finished-on : (session : Session) (workers : ℕ) (sched : List SchedEntry) (pipeline : ℕ) (left : CoreState)
    → IsFinishedCore session workers sched pipeline left → IsFinishedCore session workers sched pipeline (drained left)
finished-on session workers sched pipeline left f = record { config = f.config; closed = f.closed; chairs = f.chairs; tied = f.tied }

run-core : HeadlineHolds → (before : List CoreState) (pipeline : ℕ) (core : CoreState) → AreAskedAtTop core.config [] core.history → IsDrained before pipeline core → IsRunCore core
run-core headline before pipeline core at_top d = record {
  lawful = d.lawful;
  at_top = at_top;
  idle = d.idle;
  stopped = subst (λ (c : CoreState). c.counter ≡ core_top c) (sym d.drained_is) refl;
  headline = headline core d.lawful.lawful;
}

finished : HeadlineHolds → CoresAreAskedAtTop → (session : Session) (sched : SchedValue) (left cores : List CoreState)
    → IsWorkedOff session sched left → IsSched sched → AreDrained left cores → IsRunOf session sched cores
finished headline late session sched left cores done lawful all = record {
  lawful = lawful;
  done = record {
    finished = record {
      scheduler = done.finished.scheduler;
      count = all.count ∙ done.finished.count;
      each = λ pipeline core at. one pipeline core (all.each pipeline core at);
    };
    prompt = λ alone pipeline core at. prompt pipeline core (done.prompt alone) (all.each pipeline core at);
  };
  each = λ pipeline core at. run-core headline left pipeline core (at-top pipeline core (all.each pipeline core at)) (all.each pipeline core at);
}
  where
    one : (pipeline : ℕ) (core : CoreState) → IsDrained left pipeline core → IsFinishedCore session session.workers sched.history pipeline core
    one pipeline core d =
        let F : CoreState → Type 0 = λ c. IsFinishedCore session session.workers sched.history pipeline c in
        subst F (sym d.drained_is)
        (finished-on session session.workers sched.history pipeline d.left (done.finished.each pipeline d.left d.found))

    at-top : (pipeline : ℕ) (core : CoreState) → IsDrained left pipeline core → AreAskedAtTop core.config [] core.history
    at-top pipeline core d =
        let F : Session → Type 0 = λ s. IsFinishedCore s session.workers sched.history pipeline core in
        late session.workers pipeline sched core lawful d.lawful.lawful
        (subst F (sym done.finished.scheduler.session_is) (one pipeline core d))

    prompt : (pipeline : ℕ) (core : CoreState) → ArePromptCores left → IsDrained left pipeline core → ArePrompt [] core.history
    prompt pipeline core so d =
        let P : CoreState → Type 0 = λ c. ArePrompt [] c.history in
        subst P (sym d.drained_is) (so pipeline d.left d.found)

pub finished-told : HeadlineHolds → CoresAreAskedAtTop → (session : Session) (sched : SchedValue) (left : List CoreState) (lines : List (List ℕ))
    → IsWorkedOff session sched left → IsSched sched → AreTold 0 left lines → IsToldRun session sched lines
finished-told headline late session sched left lines done lawful told = record {
  cores = map drained left;
  is_run = finished headline late session sched left (map drained left) done lawful (are-drained left lines told);
  lines_are = lines-are 0 left lines told;
}
