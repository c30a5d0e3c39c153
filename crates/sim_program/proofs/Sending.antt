-- A run's core puts its events out before the farthest horizon, and what is told of a link over which they are sent.
use Rattle.std.proofs.Common.{◌≡◌, ◌≤◌, ◌^◌, ℕ, true, false, Bool, List, [], ◌∷◌, length, map, refl, ap, arith, cond}
use Rattle.std.specs.Prelude.{nat_le, filter}
use Rattle.std.specs.List.{list_all}
use Rattle.std.proofs.lemmas.Bool.Decides.{nat_tests}
use Rattle.rtio_types.specs.declared.event.Event.{Event}
use Rattle.rtio_types.specs.Time.{cycle_of}
use Rattle.rtio_core.specs.Core.{CoreState, IsCore}
use Rattle.rtio_core.specs.Reply.{outputs_at}
use Rattle.rtio_core.proofs.Settings.{horizon-most}
use Rattle.kern_syntax.specs.Tree.{Bytes, ProgramTree}
use Rattle.core_isa.specs.declared.code.Code.{Code}
use Rattle.core_image.specs.Spelling.{image_of}
use Rattle.code_law.specs.DoesAs.{DoesAs}
use Rattle.sat_rounds.specs.declared.letters.Letter.{Letter}
use Rattle.sim_words.specs.declared.asked.Options.{Options}
use Rattle.top_calls.specs.declared.finish.Finish.{Finish}
use Rattle.top_calls.specs.Statuses.{status_of}
use Rattle.sim_program.specs.declared.run.Run.{Run}
use Rattle.sim_report.specs.Pending.{pends}
use Rattle.sim_program.specs.Links.{IsSentAs, TellsLink}
use Rattle.sim_program.specs.Reports.{finish_of}
use Rattle.kern_accepted.specs.Texts.{IsKernelText}
use Rattle.sim_program.specs.Texts.{IsTextRefused}
use Rattle.sim_program.specs.Readings.{IsMainRun}
use Rattle.sim_program.proofs.Refused.{text-not-refused}

-- what stands up to a cycle is up to each later one
within : (cycle most : ℕ) (events : List (ℕ × Event)) → cycle ≤ most → list_all (λ e. nat_le (cycle_of e) most) (map (λ p. p.1) (filter (λ q. nat_le (cycle_of q.1) cycle) events)) ≡ true
within cycle most [] le = refl
within cycle most (p ∷ events) le = at (nat_le (cycle_of p.1) cycle) refl (within cycle most events le)
  where
    at : (b : Bool) → nat_le (cycle_of p.1) cycle ≡ b → list_all (λ e. nat_le (cycle_of e) most) (map (λ q. q.1) (filter (λ q. nat_le (cycle_of q.1) cycle) events)) ≡ true → list_all (λ e. nat_le (cycle_of e) most) (map (λ q. q.1) (cond b (p ∷ filter (λ q. nat_le (cycle_of q.1) cycle) events) (filter (λ q. nat_le (cycle_of q.1) cycle) events))) ≡ true
    at true is ih = let here : nat_le (cycle_of p.1) most ≡ true = grind (arith, nat_tests, is, le) in rw here ih
    at false is ih = ih

-- a core's events are of cycles up to the farthest horizon
pub early : (core : CoreState) → IsCore core → list_all (λ e. nat_le (cycle_of e) (2 ^ 59)) (outputs_at core.config core.history core.counter) ≡ true
early core is =
    let bounded = is.bounded in
    let counted : core.counter ≤ core.config.horizon = omega (arith, bounded) in
    let most = horizon-most core.config is.config in
    within core.counter (2 ^ 59) _ (omega (arith, counted, most))

-- what is told of a link, with the finish of the run, tells of the kernel
pub link-answer : (options : Options) (word : List Letter) (text : Bytes) (program : ProgramTree) (code : Code) (run : Run) (written : List ℕ) (finish : Finish) → IsKernelText text program → DoesAs program code
    → IsMainRun program code options run.core run.outcome run.steps → IsSentAs word options.config.lanes options.config.depth run.core written → finish ≡ finish_of run.outcome (pends run.core)
    → TellsLink options word text written (status_of finish) × ((told : List ℕ) → IsTextRefused text told → ⊥)
link-answer options word text program code run written finish kernel does r sent is = (
  record {
    core = run.core;
    how = run.outcome;
    size = length (image_of code);
    steps = run.steps;
    run = record {
      program = program;
      is_kernel = kernel;
      main = code.main;
      left = r.left;
      runs = r.runs;
      counted = record { code = code; does = does; size_is = refl; runs = r.counted };
      reported = r.reported;
    };
    sent = sent;
    status_is = ap status_of is;
  },
  λ told refused. text-not-refused text told program kernel refused,
)
