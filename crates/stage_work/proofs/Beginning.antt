-- A new laboratory.
use Rattle.std.proofs.Common.{◌≡◌, ℕ, List, [], refl, sym, ap, subst, ◌∙◌}
use Rattle.std.specs.Prelude.{Option, Some, None, option_map, slice_get}
use Rattle.std.proofs.lemmas.List.{length-map}
use Rattle.std.proofs.lemmas.List.Elements.{All-nil}
use Rattle.std.proofs.lemmas.Option.{slice_get-map}
use Rattle.rtio_core.specs.Core.{CoreState, new_core}
use Rattle.exp_model.specs.declared.session.Pipeline.{Pipeline}
use Rattle.exp_model.specs.declared.session.Session.{Session}
use Rattle.sched_laws.proofs.Arriving.{clock-flying}
use Rattle.sched_core.specs.Scheds.{SchedValue, new_sched}
use Rattle.lab_ties.specs.Settings.{config_of, new_cores}
pub use Rattle.lab_ties.proofs.Beginning.{tied-empty, tied-further}
use Rattle.stage_work.specs.Serving.{IsServed, IsServedCore}

abbrev core_for : Session → Pipeline → CoreState
core_for session pipeline = new_core (config_of session pipeline)

made-of : (session : Session) (found : Option Pipeline) (core : CoreState) → option_map (core_for session) found ≡ Some core
    → (pipeline : Pipeline) × (found ≡ Some pipeline) × (core_for session pipeline ≡ core)
made-of session None core e = absurd (cc)
made-of session (Some pipeline) core e = let is : core_for session pipeline ≡ core = cc in (pipeline, refl, is)

new-core-served : (session : Session) (number : ℕ) (pipeline : Pipeline) → slice_get session.pipelines number ≡ Some pipeline
    → IsServedCore session [] number (core_for session pipeline)
new-core-served session number pipeline found = record {
  config = ap (option_map (config_of session)) found;
  closed = refl;
  idle = refl;
  steady = refl;
  prompt = tt;
  alone = All-nil _;
  tied = record { done = []; begun = refl; told = refl; right = All-nil _ };
}

-- nothing is in flight, and nothing has happened on any core
new-served : (session : Session) → IsServed session [] (new_sched session) (new_cores session)
new-served session = record {
  scheduler = record {
    session_is = refl;
    flying_is = clock-flying 0 (record { runs = []; stack = []; flying = []; clock = 0; arrivals = session.arrivals; datasets = [] });
    going = refl;
    alone = All-nil _;
    judged = All-nil _;
  };
  each_core = record {
    count = length-map session.pipelines (core_for session);
    each = λ number core at. one number core (sym (slice_get-map (core_for session) session.pipelines number) ∙ at);
  };
}
  where
    one : (number : ℕ) (core : CoreState) → option_map (core_for session) (slice_get session.pipelines number) ≡ Some core
        → IsServedCore session [] number core
    one number core e =
        let made = made-of session (slice_get session.pipelines number) core e in
        let C : CoreState → Type 0 = λ c. IsServedCore session [] number c in
        subst C made.2 (new-core-served session number made.0 made.1)

pub begins-served : (session : Session) (sched : SchedValue) (cores : List CoreState) → sched ≡ new_sched session → cores ≡ new_cores session
    → IsServed session [] sched cores
begins-served session sched cores is are =
    let S : SchedValue → Type 0 = λ v. IsServed session [] v (new_cores session) in
    let C : List CoreState → Type 0 = λ cs. IsServed session [] sched cs in
    subst C (sym are) (subst S (sym is) (new-served session))
