-- The sources of a session that is served are short.
use Rattle.std.proofs.Common.{◌≡◌, ℕ, zero, suc, ◌≤◌, ◌<◌, ◌^◌, List, [], ◌∷◌, length, Some, IsTrue, ap, subst, arith}
use Rattle.std.specs.Prelude.{true, ◌&&◌, slice_get, is_some, unwrap_or}
use Rattle.std.specs.List.{list_all}
use Rattle.std.proofs.lemmas.Bool.{false≢true, leb-true}
use Rattle.kern_syntax.specs.Tree.{Bytes}
use Rattle.exp_model.specs.declared.session.Session.{Session}
use Rattle.exp_model.specs.Sessions.{are_arrivals, are_settings, is_experiment, is_from_to, is_pipeline, is_session, is_source, sizes_of}
use Rattle.sched_state.proofs.Openings.{first, second}

in-list : (sources : List Bytes) (k : ℕ) (text : Bytes) → list_all is_source sources ≡ true → slice_get sources k ≡ Some text → length text ≤ 1048576
in-list [] k text all at = absurd (false≢true (ap is_some at))
in-list (source ∷ rest) zero text all at =
    leb-true (length text) 1048576
    (subst (λ t. is_source t ≡ true) (ap (λ o. unwrap_or o text) at) (first (is_source source) (list_all is_source rest) all))
in-list (source ∷ rest) (suc k) text all at = in-list rest k text (second (is_source source) (list_all is_source rest) all) at

session-sources : (s : Session) → IsTrue (is_session s) → list_all is_source s.sources ≡ true
session-sources s h =
    let pipelines = is_from_to 1 4 (length s.pipelines) && list_all is_pipeline s.pipelines in
    let sources = is_from_to 1 64 (length s.sources) && list_all is_source s.sources in
    let experiments = is_from_to 1 64 (length s.experiments) && list_all (is_experiment (sizes_of s)) s.experiments in
    let four : (are_settings s && pipelines && sources && experiments) ≡ true = first (are_settings s && pipelines && sources && experiments) (are_arrivals (sizes_of s) s.arrivals) h in
    let three : (are_settings s && pipelines && sources) ≡ true = first (are_settings s && pipelines && sources) experiments four in
    let own : sources ≡ true = second (are_settings s && pipelines) sources three in
    second (is_from_to 1 64 (length s.sources)) (list_all is_source s.sources) own

pub short-source : (s : Session) (k : ℕ) (text : Bytes) → IsTrue (is_session s) → slice_get s.sources k ≡ Some text → length text < 2 ^ 31
short-source s k text h at = omega (arith, in-list s.sources k text (session-sources s h) at)
