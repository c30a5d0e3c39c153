-- What a session that is served gives.
use Rattle.std.proofs.Common.{◌≡◌, ◌<◌, ◌≤◌, Bool, true, false, List, [], ◌∷◌, refl}
use Rattle.std.specs.Prelude.{IsTrue, ◌&&◌, nat_le, nat_lt, length, ◌^◌, int_le, pos, negsuc, count_by}
use Rattle.std.specs.List.{AllByRecursion, list_all}
use Rattle.std.proofs.lemmas.Bool.{ltb-true, leb-true}
use Rattle.exp_model.specs.declared.session.Session.{Session}
use Rattle.exp_model.specs.declared.arrival.Arrival.{Arrival}
use Rattle.exp_model.specs.declared.arrival.ArrivalAct.{ArrivalAct}
use Rattle.exp_model.specs.declared.arrival.ArrivalAct.TheVariants.{Submit, Delete, Terminate}
use Rattle.exp_model.specs.declared.arrival.Submission.{Submission}
use Rattle.exp_model.specs.Steps.{is_submission, Sizes}
use Rattle.exp_model.specs.Sessions.{is_session, are_settings, is_from_to, is_pipeline, is_source, is_experiment, are_arrivals, are_in_order, is_arrival, is_act, submits, sizes_of}
use Rattle.sched_state.specs.Boards.{IsActFor}

pub first : (a b : Bool) → (a && b) ≡ true → a ≡ true
first true b h = refl
first false b h = h

pub second : (a b : Bool) → (a && b) ≡ true → b ≡ true
second true b h = h
second false b h = absurd (cc)

-- the lists of a session that is served
abbrev has_pipelines : Session → Bool
has_pipelines s = is_from_to 1 4 (length s.pipelines) && list_all is_pipeline s.pipelines

abbrev has_sources : Session → Bool
has_sources s = is_from_to 1 64 (length s.sources) && list_all is_source s.sources

abbrev has_experiments : Session → Bool
has_experiments s = is_from_to 1 64 (length s.experiments) && list_all (is_experiment (sizes_of s)) s.experiments

pub session-experiments : (s : Session) → IsTrue (is_session s) → list_all (is_experiment (sizes_of s)) s.experiments ≡ true
session-experiments s h =
    let four : (are_settings s && has_pipelines s && has_sources s && has_experiments s) ≡ true = first (are_settings s && has_pipelines s && has_sources s && has_experiments s) (are_arrivals (sizes_of s) s.arrivals) h in
    let own : has_experiments s ≡ true = second (are_settings s && has_pipelines s && has_sources s) (has_experiments s) four in
    second (is_from_to 1 64 (length s.experiments)) (list_all (is_experiment (sizes_of s)) s.experiments) own

session-list : (s : Session) → IsTrue (is_session s) → are_arrivals (sizes_of s) s.arrivals ≡ true
session-list s h = second (are_settings s && has_pipelines s && has_sources s && has_experiments s) (are_arrivals (sizes_of s) s.arrivals) h

pub session-order : (session : Session) → IsTrue (is_session session) → IsTrue (are_in_order session.arrivals)
session-order session h =
    let three : (nat_le (length session.arrivals) 256 && list_all (is_arrival (sizes_of session)) session.arrivals && are_in_order session.arrivals) ≡ true =
    first (nat_le (length session.arrivals) 256 && list_all (is_arrival (sizes_of session)) session.arrivals && are_in_order session.arrivals) (nat_le (count_by submits session.arrivals) 64) (session-list session h) in
    second (nat_le (length session.arrivals) 256 && list_all (is_arrival (sizes_of session)) session.arrivals) (are_in_order session.arrivals) three

pub session-arrivals : (session : Session) → IsTrue (is_session session) → list_all (is_arrival (sizes_of session)) session.arrivals ≡ true
session-arrivals session h =
    let three : (nat_le (length session.arrivals) 256 && list_all (is_arrival (sizes_of session)) session.arrivals && are_in_order session.arrivals) ≡ true =
    first (nat_le (length session.arrivals) 256 && list_all (is_arrival (sizes_of session)) session.arrivals && are_in_order session.arrivals) (nat_le (count_by submits session.arrivals) 64) (session-list session h) in
    let two : (nat_le (length session.arrivals) 256 && list_all (is_arrival (sizes_of session)) session.arrivals) ≡ true =
    first (nat_le (length session.arrivals) 256 && list_all (is_arrival (sizes_of session)) session.arrivals) (are_in_order session.arrivals) three in
    second (nat_le (length session.arrivals) 256) (list_all (is_arrival (sizes_of session)) session.arrivals) two

pub session-few : (session : Session) → IsTrue (is_session session) → count_by submits session.arrivals ≤ 64
session-few session h =
    leb-true (count_by submits session.arrivals) 64
    (second (nat_le (length session.arrivals) 256 && list_all (is_arrival (sizes_of session)) session.arrivals && are_in_order session.arrivals) (nat_le (count_by submits session.arrivals) 64) (session-list session h))

-- a submission that may come
pub asked-fits : (sizes : Sizes) (asked : Submission) → is_submission sizes asked ≡ true → (asked.experiment < sizes.experiments) × (asked.pipeline < sizes.pipelines) × (asked.due ≤ 2 ^ 62)
asked-fits sizes asked h =
    let a = nat_lt asked.experiment sizes.experiments in
    let b = nat_lt asked.pipeline sizes.pipelines in
    let c = int_le (negsuc 999) asked.priority in
    let d = int_le asked.priority (pos 1000) in
    let four : (a && b && c && d) ≡ true = first (a && b && c && d) (nat_le asked.due (2 ^ 62)) h in
    let three : (a && b && c) ≡ true = first (a && b && c) d four in
    let two : (a && b) ≡ true = first (a && b) c three in
    (ltb-true asked.experiment sizes.experiments (first a b two), ltb-true asked.pipeline sizes.pipelines (second a b two), leb-true asked.due (2 ^ 62) (second (a && b && c && d) (nat_le asked.due (2 ^ 62)) h))

act-for : (session : Session) (what : ArrivalAct) → is_act (sizes_of session) what ≡ true → IsActFor (length session.pipelines) what
act-for session (Submit asked) h = (asked-fits (sizes_of session) asked h).1
act-for session (Delete rid) h = tt
act-for session (Terminate rid) h = tt

acts-for : (session : Session) (arrivals : List Arrival) → list_all (is_arrival (sizes_of session)) arrivals ≡ true → AllByRecursion (λ (arrival : Arrival). IsActFor (length session.pipelines) arrival.act) arrivals
acts-for session [] h = tt
acts-for session (arrival ∷ rest) h =
    let here : is_arrival (sizes_of session) arrival ≡ true = first (is_arrival (sizes_of session) arrival) (list_all (is_arrival (sizes_of session)) rest) h in
    (act-for session arrival.act (second (nat_le arrival.at (2 ^ 62)) (is_act (sizes_of session) arrival.act) here), acts-for session rest (second (is_arrival (sizes_of session) arrival) (list_all (is_arrival (sizes_of session)) rest) h))

pub session-acts : (session : Session) → IsTrue (is_session session) → AllByRecursion (λ (arrival : Arrival). IsActFor (length session.pipelines) arrival.act) session.arrivals
session-acts session h = acts-for session session.arrivals (session-arrivals session h)
