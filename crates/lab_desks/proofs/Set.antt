-- The desks of a session's scheduler and new cores.
use Rattle.std.proofs.Common.{◌≡◌, ℕ, zero, suc, List, [], ◌∷◌, length, map, refl, sym, ap, subst, ◌∙◌}
use Rattle.std.specs.Prelude.{Option, Some, IsTrue, option_map, slice_get}
use Rattle.std.specs.List.{All, AllByRecursion, AllZip}
use Rattle.std.proofs.lemmas.List.Elements.{All-from_recursion}
use Rattle.desk_rule.specs.Histories.{Each}
use Rattle.desk.specs.Seated.{Opened}
use Rattle.rtio_core.specs.Core.{CoreState, new_core}
use Rattle.rtio_core.specs.declared.data.Config.{Config}
use Rattle.exp_model.specs.declared.session.Pipeline.{Pipeline}
use Rattle.exp_model.specs.declared.session.Session.{Session}
use Rattle.exp_model.specs.Sessions.{is_session}
use Rattle.lab_ties.specs.Settings.{config_at, config_of, new_cores}
use Rattle.worker_desks.specs.declared.desks.Desks.{Desks}
use Rattle.lab_desks.specs.Columns.{IsDeskOf}
use Rattle.lab_desks.specs.Seats.{AreSetFor}

-- new cores have empty histories
pub new-empty : (session : Session) (cores : List CoreState) → cores ≡ new_cores session → All (λ core. core.history ≡ []) cores
new-empty session cores is = subst (All (λ (core : CoreState). core.history ≡ [])) (sym is) (All-from_recursion (λ (core : CoreState). core.history ≡ []) (new_cores session) (each session.pipelines))
  where
    each : (pipelines : List Pipeline) → AllByRecursion (λ (core : CoreState). core.history ≡ []) (map (λ (p : Pipeline). new_core (config_of session p)) pipelines)
    each [] = tt
    each (p ∷ pipelines) = (refl, each pipelines)

abbrev made : Session → Pipeline → CoreState
made session pipeline = new_core (config_of session pipeline)

as-many : (session : Session) (workers : ℕ) (pipelines : List Pipeline) (desks : List (Opened Config)) → AllZip (IsDeskOf workers) (map (made session) pipelines) desks → length desks ≡ length pipelines
as-many session workers [] [] z = refl
as-many session workers [] (d ∷ desks) z = absurd z
as-many session workers (p ∷ pipelines) [] z = absurd z
as-many session workers (p ∷ pipelines) (d ∷ desks) z = ap suc (as-many session workers pipelines desks z.1)

set-as : (session : Session) (workers : ℕ) (pipelines : List Pipeline) (desks : List (Opened Config)) → AllZip (IsDeskOf workers) (map (made session) pipelines) desks
    → (place : ℕ) (desk : Opened Config) → slice_get desks place ≡ Some desk → option_map (config_of session) (slice_get pipelines place) ≡ Some desk.fixed
set-as session workers [] [] z place desk there = absurd (cc)
set-as session workers [] (d ∷ desks) z place desk there = absurd z
set-as session workers (p ∷ pipelines) [] z place desk there = absurd z
set-as session workers (p ∷ pipelines) (d ∷ desks) z zero desk there =
    ap Some (sym z.0.0) ∙ ap (λ (o : Option (Opened Config)). option_map (λ (e : Opened Config). e.fixed) o) there
set-as session workers (p ∷ pipelines) (d ∷ desks) z (suc place) desk there = set-as session workers pipelines desks z.1 place desk there

with-chairs : (workers : ℕ) (cores : List CoreState) (desks : List (Opened Config)) → AllZip (IsDeskOf workers) cores desks → Each (λ (desk : Opened Config). desk.chairs ≡ workers) desks
with-chairs workers [] [] z = tt
with-chairs workers [] (d ∷ desks) z = absurd z
with-chairs workers (c ∷ cores) [] z = absurd z
with-chairs workers (c ∷ cores) (d ∷ desks) z = (z.0.1, with-chairs workers cores desks z.1)

pub set-for : (workers : ℕ) (session : Session) (cores : List CoreState) (desks : Desks) → IsTrue (is_session session) → cores ≡ new_cores session
    → desks.session ≡ session → desks.sched.fixed ≡ session → desks.sched.chairs ≡ workers → AllZip (IsDeskOf workers) cores desks.cores.items
    → AreSetFor workers desks
set-for workers session cores desks ok new same fixed chairs zip =
    let z : AllZip (IsDeskOf workers) (map (made session) session.pipelines) desks.cores.items =
    subst (λ (l : List CoreState). AllZip (IsDeskOf workers) l desks.cores.items) new zip in
    record {
      of = record {
        session = subst (λ (s : Session). IsTrue (is_session s)) (sym same) ok;
        sched = fixed ∙ sym same;
        count = as-many session workers session.pipelines desks.cores.items z ∙ ap (λ (s : Session). length s.pipelines) (sym same);
        cores = λ place desk there.
            ap (λ (s : Session). config_at s place) same ∙ set-as session workers session.pipelines desks.cores.items z place desk there;
      };
      sched = chairs;
      cores = with-chairs workers cores desks.cores.items zip;
    }
