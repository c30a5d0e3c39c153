-- New cores of a session that is served.
use Rattle.std.proofs.Common.{◌≡◌, ℕ, zero, suc, ◌<◌, ◌+◌, List, [], ◌∷◌, ◌++◌, get_or, length, map, take, IsTrue, refl, ap, sym, subst, ◌∙◌, add-one, arith}
use Rattle.std.specs.Prelude.{Bool, true, ◌&&◌, nat_le}
use Rattle.std.specs.List.{list_all}
use Rattle.std.proofs.Math.Seq.{take-suc}
use Rattle.std.proofs.lemmas.Bool.{le-leb, leb-true}
use Rattle.std.proofs.lemmas.List.{map-append}
use Rattle.rtio_types.specs.declared.event.Edge.{Edge}
use Rattle.rtio_input.specs.Script.{are_edges_ok, are_rising as are_script_rising}
use Rattle.rtio_core.specs.Core.{CoreState, new_core}
use Rattle.rtio_core.specs.Entries.{is_config_ok}
use Rattle.exp_model.specs.declared.session.Pipeline.{Pipeline}
use Rattle.exp_model.specs.declared.session.Session.{Session}
use Rattle.exp_model.specs.Edges.{are_edges, are_rising, is_edge, is_edge_before}
use Rattle.exp_model.specs.Sessions.{are_arrivals, are_settings, is_experiment, is_from_to, is_pipeline, is_session, is_source, sizes_of}
use Rattle.sched_state.proofs.Openings.{first, second}
use Rattle.stage_work.specs.Settings.{config_of}

abbrev core_for : Session → Pipeline → CoreState
core_for session pipeline = new_core (config_of session pipeline)

-- ---- the settings of a core are in their ranges

same-rising : (edges : List Edge) → are_script_rising edges ≡ are_rising edges
same-rising [] = refl
same-rising (a ∷ []) = refl
same-rising (a ∷ b ∷ rest) = ap (λ (r : Bool). is_edge_before a b && r) (same-rising (b ∷ rest))

edges-ok : (edges : List Edge) → are_edges edges ≡ true → are_edges_ok edges ≡ true
edges-ok edges h = ap (λ (r : Bool). (nat_le (length edges) 4096 && list_all is_edge edges) && r) (same-rising edges) ∙ h

both : (a b : Bool) → a ≡ true → b ≡ true → (a && b) ≡ true
both a b x y = rw (x, y) refl

pub settings-ok : (s : Session) (p : Pipeline) → IsTrue (are_settings s) → IsTrue (is_pipeline p) → IsTrue (is_config_ok (config_of s p))
settings-ok s p h e =
    let cost = nat_le s.cost 1000000 in
    let budget = is_from_to 1 20000 s.budget in
    let workers = is_from_to 1 8 s.workers in
    let lanes = is_from_to 1 32 s.lanes in
    let depth = is_from_to 1 1024 s.depth in
    let horizon = is_from_to 1 134217728 s.horizon in
    let five : (cost && budget && workers && lanes && depth) ≡ true = first (cost && budget && workers && lanes && depth) horizon h in
    let far : horizon ≡ true = second (cost && budget && workers && lanes && depth) horizon h in
    let four : (cost && budget && workers && lanes) ≡ true = first (cost && budget && workers && lanes) depth five in
    let deep : depth ≡ true = second (cost && budget && workers && lanes) depth five in
    let three : (cost && budget && workers) ≡ true = first (cost && budget && workers) lanes four in
    let wide : lanes ≡ true = second (cost && budget && workers) lanes four in
    let cheap : cost ≡ true = first cost budget (first (cost && budget) workers three) in
    let within : nat_le s.horizon 576460752303423488 ≡ true =
    le-leb s.horizon 576460752303423488 (omega (arith, leb-true s.horizon 134217728 (second (nat_le 1 s.horizon) (nat_le s.horizon 134217728) far))) in
    both _ _ (both _ _ (both _ _ (both _ _ (both _ _ (both _ _ (both _ _ (both _ _ (both _ _
    (first (nat_le 1 s.lanes) (nat_le s.lanes 32) wide) (second (nat_le 1 s.lanes) (nat_le s.lanes 32) wide))
    (first (nat_le 1 s.depth) (nat_le s.depth 1024) deep)) (second (nat_le 1 s.depth) (nat_le s.depth 1024) deep))
    cheap)
    (first (nat_le 1 s.horizon) (nat_le s.horizon 134217728) far)) within)
    (edges-ok p.edges e)) refl) refl

-- at least one worker is asked for
pub some-work : (s : Session) → IsTrue (are_settings s) → 0 < s.workers
some-work s h =
    let cost = nat_le s.cost 1000000 in
    let budget = is_from_to 1 20000 s.budget in
    let workers = is_from_to 1 8 s.workers in
    let lanes = is_from_to 1 32 s.lanes in
    let depth = is_from_to 1 1024 s.depth in
    let horizon = is_from_to 1 134217728 s.horizon in
    let five : (cost && budget && workers && lanes && depth) ≡ true = first (cost && budget && workers && lanes && depth) horizon h in
    let four : (cost && budget && workers && lanes) ≡ true = first (cost && budget && workers && lanes) depth five in
    let three : (cost && budget && workers) ≡ true = first (cost && budget && workers) lanes four in
    let some : workers ≡ true = second (cost && budget) workers three in
    leb-true 1 s.workers (first (nat_le 1 s.workers) (nat_le s.workers 8) some)

-- ---- each pipeline has its core

-- so are those of each pipeline
pub settings-in : (s : Session) → IsTrue (is_session s) → IsTrue (are_settings s)
settings-in s h =
    let pipelines = is_from_to 1 4 (length s.pipelines) && list_all is_pipeline s.pipelines in
    let sources = is_from_to 1 64 (length s.sources) && list_all is_source s.sources in
    let experiments = is_from_to 1 64 (length s.experiments) && list_all (is_experiment (sizes_of s)) s.experiments in
    let four : (are_settings s && pipelines && sources && experiments) ≡ true = first (are_settings s && pipelines && sources && experiments) (are_arrivals (sizes_of s) s.arrivals) h in
    let three : (are_settings s && pipelines && sources) ≡ true = first (are_settings s && pipelines && sources) experiments four in
    first (are_settings s) pipelines (first (are_settings s && pipelines) sources three)

pipelines-in : (s : Session) → IsTrue (is_session s) → list_all is_pipeline s.pipelines ≡ true
pipelines-in s h =
    let pipelines = is_from_to 1 4 (length s.pipelines) && list_all is_pipeline s.pipelines in
    let sources = is_from_to 1 64 (length s.sources) && list_all is_source s.sources in
    let experiments = is_from_to 1 64 (length s.experiments) && list_all (is_experiment (sizes_of s)) s.experiments in
    let four : (are_settings s && pipelines && sources && experiments) ≡ true = first (are_settings s && pipelines && sources && experiments) (are_arrivals (sizes_of s) s.arrivals) h in
    let three : (are_settings s && pipelines && sources) ≡ true = first (are_settings s && pipelines && sources) experiments four in
    let own : pipelines ≡ true = second (are_settings s) pipelines (first (are_settings s && pipelines) sources three) in
    second (is_from_to 1 4 (length s.pipelines)) (list_all is_pipeline s.pipelines) own

in-list : (pipelines : List Pipeline) (k : ℕ) (d : Pipeline) → list_all is_pipeline pipelines ≡ true → k < length pipelines → IsTrue (is_pipeline (get_or pipelines k d))
in-list [] k d all lt = absurd (omega (arith, lt))
in-list (pipeline ∷ rest) zero d all lt = first (is_pipeline pipeline) (list_all is_pipeline rest) all
in-list (pipeline ∷ rest) (suc k) d all lt = in-list rest k d (second (is_pipeline pipeline) (list_all is_pipeline rest) all) (omega (arith, lt))

pub pipeline-in : (s : Session) (k : ℕ) (p : Pipeline) → IsTrue (is_session s) → k < length s.pipelines → p ≡ get_or s.pipelines k p → IsTrue (is_pipeline p)
pipeline-in s k p h lt is =
    let P : Pipeline → Type 0 = λ x. IsTrue (is_pipeline x) in
    subst P (sym is) (in-list s.pipelines k p (pipelines-in s h) lt)

-- the cores so far, and one more
pub core-more : (s : Session) (k : ℕ) (p : Pipeline) (cores now : List CoreState) (core : CoreState) → k < length s.pipelines → p ≡ get_or s.pipelines k p
    → cores ≡ map (core_for s) (take k s.pipelines) → core ≡ core_for s p → now ≡ cores ++ core ∷ []
    → now ≡ map (core_for s) (take (k + 1) s.pipelines)
core-more s k p cores now core lt at so is grown =
    grown
    ∙ (ap (λ (xs : List CoreState). xs ++ core ∷ []) so
    ∙ (ap (λ (x : CoreState). map (core_for s) (take k s.pipelines) ++ x ∷ []) is
    ∙ sym (ap (map (core_for s)) taken ∙ map-append (core_for s) (take k s.pipelines) (p ∷ []))))
  where
    taken : take (k + 1) s.pipelines ≡ take k s.pipelines ++ p ∷ []
    taken =
        ap (λ (m : ℕ). take m s.pipelines) (add-one k) ∙ take-suc s.pipelines k p lt
        ∙ ap (λ (x : Pipeline). take k s.pipelines ++ x ∷ []) (sym at)
