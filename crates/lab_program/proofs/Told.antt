-- Cores that were told, one by one.
use Rattle.std.proofs.Common.{◌≡◌, ℕ, zero, suc, ◌+◌, ◌<◌, List, [], ◌∷◌, ◌++◌, flat_map, get_or, length, map, Option, None, Some, refl, sym, ap, subst, ◌∙◌, arith, string_bytes}
use Rattle.std.specs.Prelude.{Result, Ok, Err, IfOk, IfSome, option_map, slice_get}
use Rattle.std.specs.Result.{result_ok}
use Rattle.std.specs.List.{All, AllByRecursion}
use Rattle.std.proofs.lemmas.List.{length-map}
use Rattle.std.proofs.lemmas.List.Elements.{All-from_recursion}
use Rattle.rtio_core.specs.Core.{CoreState, IsCore}
use Rattle.rtio_core.specs.Entries.{open_session}
use Rattle.core_session.specs.Timed.{drained}
use Rattle.lab_report.specs.Report.{core_text, cores_from}
use Rattle.lab_program.specs.declared.telling.Telling.{Telling}
use Rattle.lab_program.specs.Telling.{AreTold, CanBeTold, IsTold, IsToldAt}

-- ---- what was told

-- the core of a pipeline is one of these that ticked until it was stopped, and on which no request waits
pub record IsDrained (cores : List CoreState) (pipeline : ℕ) (core : CoreState) : Type 0 where
  pub left : CoreState
  pub found : slice_get cores pipeline ≡ Some left
  pub drained_is : core ≡ drained left
  pub lawful : IsCore core
  pub idle : core.waiting ≡ None

-- each is
pub record AreDrained (cores now : List CoreState) : Type 0 where
  pub count : length now ≡ length cores
  pub each : (pipeline : ℕ) (core : CoreState) → slice_get now pipeline ≡ Some core → IsDrained cores pipeline core

drained-at : (start : ℕ) (cores : List CoreState) (texts : List (List ℕ)) → AreTold start cores texts
    → (k : ℕ) (core : CoreState) → slice_get (map drained cores) k ≡ Some core → IsDrained cores k core
drained-at start [] [] told k core at = absurd (cc)
drained-at start [] (text ∷ texts) told k core at = absurd told
drained-at start (c ∷ cores) [] told k core at = absurd told
drained-at start (c ∷ cores) (text ∷ texts) told zero core at =
    let L : CoreState → Type 0 = λ x. IsCore x in
    let W : CoreState → Type 0 = λ x. x.waiting ≡ None in
    let same : drained c ≡ core = cc in
    record { left = c; found = refl; drained_is = sym same; lawful = subst L same told.0.lawful; idle = subst W same told.0.idle }
drained-at start (c ∷ cores) (text ∷ texts) told (suc k) core at =
    let more = drained-at (suc start) cores texts told.1 k core at in
    record { left = more.left; found = more.found; drained_is = more.drained_is; lawful = more.lawful; idle = more.idle }

pub are-drained : (cores : List CoreState) (texts : List (List ℕ)) → AreTold 0 cores texts → AreDrained cores (map drained cores)
are-drained cores texts told = record { count = length-map cores drained; each = drained-at 0 cores texts told }

-- the lines are those of the cores
pub lines-are : (start : ℕ) (cores : List CoreState) (texts : List (List ℕ)) → AreTold start cores texts
    → flat_map (λ (text : List ℕ). text) texts ≡ cores_from start (map drained cores)
lines-are start [] [] told = refl
lines-are start [] (text ∷ texts) told = absurd told
lines-are start (c ∷ cores) [] told = absurd told
lines-are start (c ∷ cores) (text ∷ texts) told =
    ap (λ (t : List ℕ). t ++ flat_map (λ (s : List ℕ). s) texts) told.0.lines_are
    ∙ ap (λ (t : List ℕ). core_text start (drained c) ++ t) (lines-are (suc start) cores texts told.1)

-- ---- how they are told

abbrev pub core_of : Telling → Option CoreState
core_of telling = telling.core

abbrev pub told_of : Telling → Option (List ℕ)
told_of telling = option_map string_bytes telling.lines

can-by-recursion : (tellings : List Telling) (cores : List CoreState) → map core_of tellings ≡ map (λ (c : CoreState). Some c) cores
    → ((k : ℕ) (core : CoreState) → slice_get cores k ≡ Some core → open_session core.history ≡ None) → AllByRecursion CanBeTold tellings
can-by-recursion [] cores are closed = tt
can-by-recursion (t ∷ tellings) [] are closed = absurd (cc)
can-by-recursion (t ∷ tellings) (c ∷ cores) are closed =
    let here : t.core ≡ Some c = cc in
    let rest : map core_of tellings ≡ map (λ (x : CoreState). Some x) cores = cc in
    (record { left = c; core_is = here; closed = closed 0 c refl }, can-by-recursion tellings cores rest (λ k core at. closed (suc k) core at))

-- each core on which no session is open can be told
pub all-can : (tellings : List Telling) (cores : List CoreState) → map core_of tellings ≡ map (λ (c : CoreState). Some c) cores
    → ((k : ℕ) (core : CoreState) → slice_get cores k ≡ Some core → open_session core.history ≡ None) → All CanBeTold tellings
all-can tellings cores are closed = All-from_recursion CanBeTold tellings (can-by-recursion tellings cores are closed)

-- where each was told at its place and all lines are there, these are the lines of the cores
pub told-by-place : (start : ℕ) (cores : List CoreState) (olds news : List Telling) (texts : List (List ℕ))
    → map core_of olds ≡ map (λ (c : CoreState). Some c) cores → length news ≡ length olds
    → ((i : ℕ) (d : Telling) → i < length olds → IsToldAt (start + i) (get_or olds i d) (get_or news i d))
    → map told_of news ≡ map (λ (text : List ℕ). Some text) texts
    → AreTold start cores texts
told-by-place start [] [] [] [] are count each lines = tt
told-by-place start [] [] [] (text ∷ texts) are count each lines = absurd (cc)
told-by-place start [] [] (n ∷ news) texts are count each lines = absurd (omega arith)
told-by-place start [] (o ∷ olds) news texts are count each lines = absurd (cc)
told-by-place start (c ∷ cores) [] news texts are count each lines = absurd (cc)
told-by-place start (c ∷ cores) (o ∷ olds) [] texts are count each lines = absurd (omega arith)
told-by-place start (c ∷ cores) (o ∷ olds) (n ∷ news) [] are count each lines = absurd (cc)
told-by-place start (c ∷ cores) (o ∷ olds) (n ∷ news) (text ∷ texts) are count each lines =
    let core : o.core ≡ Some c = cc in
    let rest : map core_of olds ≡ map (λ (x : CoreState). Some x) cores = cc in
    let line : told_of n ≡ Some text = cc in
    let more : map told_of news ≡ map (λ (t : List ℕ). Some t) texts = cc in
    let H : ℕ → Type 0 = λ k. IsToldAt k o n in
    let here : IsToldAt start o n = subst H (omega arith) (each 0 o (omega arith)) in (
      subst (IsTold start c) line (here.told c core),
      told-by-place (suc start) cores olds news texts rest (omega arith)
          (λ i d low. let A : ℕ → Type 0 = λ k. IsToldAt k (get_or olds i d) (get_or news i d) in subst A (omega arith) (each (suc i) d (omega arith)))
          more,
    )

-- the lines of what was written, or want of memory
pub some-lines : {T E : Type 0} (bytes : T → List ℕ) (text : List ℕ) (result : Result T E) → IfOk result (λ t. bytes t ≡ text)
    → IfSome (option_map bytes (result_ok result)) (λ t. t ≡ text)
some-lines bytes text (Ok t) is = is
some-lines bytes text (Err e) is = tt
