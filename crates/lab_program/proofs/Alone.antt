-- One worker alone has done what any number of workers does.
use Rattle.std.proofs.Common.{◌≡◌, ◌≢◌, ℕ, zero, suc, ◌<◌, List, [], ◌∷◌, ◌++◌, false, drop, length, take, refl, sym, ap, subst, ◌∙◌, ne_eqb, arith}
use Rattle.std.specs.Prelude.{◌==◌, map, IsTrue}
use Rattle.std.specs.List.{All}
use Rattle.std.proofs.lemmas.List.{length-map}
use Rattle.std.proofs.lemmas.List.Elements.{All-head, All-tail, All-weaker}
use Rattle.std.proofs.Math.Seq.{take-append_seam}
use Rattle.rtio_core.specs.declared.data.Act.{Act}
use Rattle.rtio_core.specs.declared.data.Config.{Config}
use Rattle.rtio_core.specs.declared.data.Entry.{Entry}
use Rattle.rtio_core.specs.Core.{CoreState, new_core}
use Rattle.exp_model.specs.declared.session.Pipeline.{Pipeline}
use Rattle.exp_model.specs.declared.session.Session.{Session}
use Rattle.sched_state.specs.declared.entry.SchedAct.{SchedAct}
use Rattle.sched_state.specs.declared.entry.SchedEntry.{SchedEntry}
use Rattle.sched_state.specs.Picks.{is_over}
use Rattle.sched_core.specs.Scheds.{SchedValue, sched_state}
use Rattle.desk_rule.specs.Histories.{acts_of}
use Rattle.stage_work.proofs.Beginning.{tied-empty}
use Rattle.stage_work.specs.Acts.{core_acts, sched_acts}
use Rattle.stage_work.specs.Finished.{IsFinishedCore, IsFinishedSched}
use Rattle.stage_work.specs.Settings.{config_of, new_cores}
use Rattle.stage_work.specs.Ties.{AreTied}
use Rattle.stage_work.specs.Serving.{IsServed, IsServedCore, IsServedSched}
use Rattle.lab_program.specs.Laboratories.{IsWorkedOff}

-- where all entries are of chair 0, another has done nothing
none-done : {E A : Type 0} (number : E → ℕ) (did : E → A) (chair : ℕ) → chair ≢ 0 → (entries : List E)
    → All (λ (e : E). number e ≡ 0) entries
    → acts_of chair (map (λ (e : E). (number e, did e)) entries) ≡ []
none-done number did chair apart [] all = refl
none-done {E = E} number did chair apart (e ∷ rest) all =
    let P : E → Type 0 = λ x. number x ≡ 0 in
    let away : (number e == chair) ≡ false = ne_eqb (number e) chair (λ same. apart (sym same ∙ All-head P e rest all)) in
    rw away (none-done number did chair apart rest (All-tail P e rest all))

tied-alone : (session : Session) (pipeline : ℕ) (config : Config) (sched : List SchedEntry) (history : List Entry)
    → All (λ (e : SchedEntry). e.chair ≡ 0) sched → All (λ (e : Entry). e.chair ≡ 0) history
    → AreTied session pipeline config 0 sched (sched_acts 0 sched) history (core_acts 0 history)
    → (chair : ℕ) → AreTied session pipeline config chair sched (sched_acts chair sched) history (core_acts chair history)
tied-alone session pipeline config sched history told begun t zero = t
tied-alone session pipeline config sched history told begun t (suc k) =
    let R : List SchedAct → Type 0 = λ acts. AreTied session pipeline config (suc k) sched acts history (core_acts (suc k) history) in
    let B : List Act → Type 0 = λ acts. AreTied session pipeline config (suc k) sched [] history acts in
    subst R (sym (none-done (λ (e : SchedEntry). e.chair) (λ (e : SchedEntry). e.act) (suc k) (λ same. cc) sched told))
    (subst B (sym (none-done (λ (e : Entry). e.chair) (λ (e : Entry). e.act) (suc k) (λ same. cc) history begun))
    (tied-empty session pipeline config (suc k) sched history))

below : (number workers : ℕ) → 0 < workers → number ≡ 0 → number < workers
below number workers some is = omega (arith, some, is)

core-alone : (session : Session) (workers : ℕ) (sched : List SchedEntry) (pipeline : ℕ) (core : CoreState) → 0 < workers
    → All (λ (e : SchedEntry). e.chair ≡ 0) sched → IsServedCore session sched pipeline core → IsFinishedCore session workers sched pipeline core
core-alone session workers sched pipeline core some told served = record {
  config = served.config;
  closed = served.closed;
  chairs = All-weaker (λ (e : Entry). e.chair ≡ 0) (λ (e : Entry). e.chair < workers) (λ e is. below e.chair workers some is) core.history served.alone;
  tied = tied-alone session pipeline core.config sched core.history told served.alone served.tied;
}

sched-alone : (session : Session) (workers : ℕ) (sched : SchedValue) → 0 < workers → IsTrue (is_over (sched_state sched))
    → IsServedSched session [] sched → IsFinishedSched session workers sched
sched-alone session workers sched some over served = record {
  session_is = served.session_is;
  flying_is = served.flying_is;
  over = over;
  going = served.going;
  chairs = All-weaker (λ (e : SchedEntry). e.chair ≡ 0) (λ (e : SchedEntry). e.chair < workers) (λ e is. below e.chair workers some is) sched.history served.alone;
  judged = served.judged;
}

pub served-alone : (session : Session) (sched : SchedValue) (cores : List CoreState) → 0 < session.workers → IsServed session [] sched cores
    → IsTrue (is_over (sched_state sched)) → IsWorkedOff session sched cores
served-alone session sched cores some served over = record {
  finished = record {
    scheduler = sched-alone session session.workers sched some over served.scheduler;
    count = served.each_core.count;
    each = λ pipeline core at.
        core-alone session session.workers sched.history pipeline core some served.scheduler.alone (served.each_core.each pipeline core at);
  };
  prompt = λ one pipeline core at. (served.each_core.each pipeline core at).prompt;
}

-- ---- a list whose items were changed as a slice

pub as-slice : {X : Type 0} (old new : List X) (n : ℕ) → n ≡ length old → length new ≡ length old → take n (new ++ drop (length new) old) ≡ new
as-slice old new n is same =
    ap (λ (k : ℕ). take k (new ++ drop (length new) old)) (is ∙ sym same) ∙ take-append_seam new (drop (length new) old)

pub served-slice : (session : Session) (sched : SchedValue) (old new : List CoreState) (n : ℕ) → n ≡ length old → old ≡ new_cores session
    → 0 < session.workers → IsServed session [] sched new → IsTrue (is_over (sched_state sched))
    → IsWorkedOff session sched (take n (new ++ drop (length new) old))
served-slice session sched old new n is opened some served over =
    let W : List CoreState → Type 0 = λ cores. IsWorkedOff session sched cores in
    let count : length old ≡ length session.pipelines =
    ap length opened ∙ length-map session.pipelines (λ (pipeline : Pipeline). new_core (config_of session pipeline)) in
    subst W (sym (as-slice old new n is (served.each_core.count ∙ sym count))) (served-alone session sched new some served over)
