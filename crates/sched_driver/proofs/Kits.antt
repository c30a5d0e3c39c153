-- Kits that fit.
use Rattle.std.proofs.Common.{◌≡◌, ℕ, ◌<◌, Bool, true, List, [], ◌∷◌, length, refl, sym, subst, ◌∙◌, get_or}
use Rattle.std.specs.Prelude.{Option, Some, None, slice_get, IsTrue, nat_le, nat_lt, ◌&&◌}
use Rattle.std.specs.List.{AllByRecursion, list_all}
use Rattle.std.proofs.lemmas.Bool.{ltb-true}
use Rattle.std.proofs.lemmas.Option.{slice_get-get_or, slice_get_within}
use Rattle.exp_model.specs.declared.session.Experiment.{Experiment}
use Rattle.exp_model.specs.declared.session.Session.{Session}
use Rattle.exp_model.specs.declared.step.HostStep.{HostStep}
use Rattle.exp_model.specs.declared.step.HostStep.TheVariants as step
use Rattle.exp_model.specs.Sessions.{is_experiment, is_from_to, is_session, sizes_of}
use Rattle.exp_model.specs.Steps.{Sizes, is_data_step, is_run_step}
use Rattle.sched_state.specs.Reports.{steps_in}
use Rattle.sched_state.proofs.Openings.{first}
use Rattle.sched_laws.proofs.Arriving.{experiment-there}
use Rattle.sched_core.specs.Calls.{KitFits}
use Rattle.sched_core.specs.Scheds.{HasCall, IsSched, SchedValue, found_source}
use Rattle.sched_driver.specs.declared.token.Token.{Token}
use Rattle.sched_driver.specs.Tokens.{TokenCall, TokenText, token_source}

-- a token takes every call
takes-all : (token : Token) (steps : List HostStep) → AllByRecursion (HasCall TokenCall token) steps
takes-all token [] = tt
takes-all token (s ∷ steps) = (one s, takes-all token steps)
  where
    one : (s : HostStep) → HasCall TokenCall token s
    one (step.Kernel name args) = tt
    one step.Pause = tt
    one step.CheckTermination = tt
    one (step.Set name value broadcast persist archive) = tt
    one (step.Append name value) = tt
    one (step.Sum name into) = tt
    one (step.Submit asked) = tt

source-there : (sizes : Sizes) (e : Experiment) → is_experiment sizes e ≡ true → e.source < sizes.sources
source-there sizes e h =
    let source : Bool = nat_lt e.source sizes.sources in
    let before : Bool = nat_le (length e.prepare) 16 && list_all is_data_step e.prepare in
    let runs : Bool = is_from_to 1 16 (length e.run) && list_all (is_run_step sizes) e.run in
    let after : Bool = nat_le (length e.analyze) 16 && list_all is_data_step e.analyze in
    ltb-true e.source sizes.sources (first source before (first (source && before) runs (first (source && before && runs) after h)))

-- the source of an experiment is one of the session
in-session : (session : Session) (n source : ℕ) (found : Option Experiment) → IsTrue (is_session session) → slice_get session.experiments n ≡ found
    → found_source found ≡ Some source → source < length session.sources
in-session session n source None ok at same = absurd (cc)
in-session session n source (Some e) ok at same =
    let there = experiment-there session n ok (slice_get_within session.experiments n e at) in
    let both : Some there.0 ≡ Some e = sym there.1 ∙ at in
    let is : there.0 ≡ e = cc in
    let number : e.source ≡ source = cc in
    let P : Experiment → Type 0 = λ x. is_experiment (sizes_of session) x ≡ true in
    let L : ℕ → Type 0 = λ k. k < length session.sources in
    subst L number (source-there (sizes_of session) e (subst P is there.2))

-- so a token of a run's source is a kit for the run
pub token-fits : (sched : SchedValue) (rid : ℕ) (token : Token) → IsSched sched → KitFits token_source TokenText TokenCall sched rid token
token-fits sched rid token is = λ run found same.
    let there : token.source < length sched.session.sources =
    in-session sched.session run.experiment token.source (slice_get sched.session.experiments run.experiment) is.session refl same in
    record {
      same = same;
      text = (get_or sched.session.sources token.source [], slice_get-get_or sched.session.sources token.source [] there, tt);
      calls = takes-all token (steps_in (λ (e : Experiment). e.run) (slice_get sched.session.experiments run.experiment));
    }
