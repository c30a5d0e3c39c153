-- The lines of cores, one core after another, and of datasets.
use Rattle.std.proofs.Common.{◌≡◌, ℕ, ◌+◌, ◌<◌, suc, List, [], ◌∷◌, ◌++◌, length, take, refl, ap, sym, ◌∙◌, append_assoc, append-nil, arith, subst}
use Rattle.std.specs.Prelude.{get_or, flat_map, slice_get, option_map, Option, Some, None}
use Rattle.std.specs.Option.{IfSome}
use Rattle.std.proofs.lemmas.List.{flat_map_more, length-take, take_more}
use Rattle.std.proofs.lemmas.Option.{get_or_from_slice_get, slice_get_within}
use Rattle.rtio_core.specs.Core.{CoreState}
use Rattle.rtio_types.specs.declared.request.Value.{Value}
use Rattle.dataset_db.specs.declared.datasets.Flags.{Flags}
use Rattle.dataset_db.specs.Datasets.{Dataset, dataset_of, flags_of, value_of}
use Rattle.lab_report.specs.Data.{dataset_line}
use Rattle.lab_report.specs.Report.{core_text, cores_from}

-- a core more, whose pipeline is the number of those before it
cores-more : (start : ℕ) (cores : List CoreState) (core : CoreState) → cores_from start (cores ++ core ∷ []) ≡ cores_from start cores ++ core_text (start + length cores) core
cores-more start [] core = append-nil (core_text start core) ∙ ap (λ (n : ℕ). core_text n core) (omega arith)
cores-more start (first ∷ rest) core =
    ap (λ (t : List ℕ). core_text start first ++ t) (cores-more (suc start) rest core ∙ ap (λ (n : ℕ). cores_from (suc start) rest ++ core_text n core) (omega arith))
    ∙ sym (append_assoc (core_text start first) (cores_from (suc start) rest) (core_text (start + suc (length rest)) core))

-- the text of some cores, and that of one more
core-written : (before now text : List ℕ) (cores : List CoreState) (i pipeline : ℕ) (core : CoreState)
    → i < length cores → core ≡ get_or cores i core → pipeline ≡ i
    → text ≡ before ++ cores_from 0 (take i cores) → now ≡ text ++ core_text pipeline core
    → now ≡ before ++ cores_from 0 (take (i + 1) cores)
core-written before now text cores i pipeline core within at is so_far more =
    let count : length (take i cores) ≡ i = length-take i cores ∙ omega arith in
    let none : length (take i cores) ≡ 0 + length (take i cores) = omega arith in
    let next : take (i + 1) cores ≡ take i cores ++ core ∷ [] =
    take_more cores i core within ∙ ap (λ (c : CoreState). take i cores ++ c ∷ []) (sym at) in
    more
    ∙ ap (λ (t : List ℕ). t ++ core_text pipeline core) so_far
    ∙ append_assoc before (cores_from 0 (take i cores)) (core_text pipeline core)
    ∙ ap (λ (n : ℕ). before ++ (cores_from 0 (take i cores) ++ core_text n core)) (is ∙ sym count ∙ none)
    ∙ ap (λ (t : List ℕ). before ++ t) (sym (cores-more 0 (take i cores) core))
    ∙ ap (λ (cs : List CoreState). before ++ cores_from 0 cs) (sym next)

-- the texts of some cores, and that of one more
pub lines-more : {T : Type 0} (bytes : T → List ℕ) (cores : List CoreState) (i pipeline : ℕ) (core : CoreState) (texts now : List T) (text : T)
    → i < length cores → core ≡ get_or cores i core → pipeline ≡ i
    → flat_map bytes texts ≡ cores_from 0 (take i cores) → bytes text ≡ core_text pipeline core → now ≡ texts ++ text ∷ []
    → flat_map bytes now ≡ cores_from 0 (take (i + 1) cores)
lines-more bytes cores i pipeline core texts now text within at is so_far more grown =
    core-written [] (flat_map bytes now) (flat_map bytes texts) cores i pipeline core within at is so_far
    (ap (flat_map bytes) grown ∙ sym (flat_map_more bytes [] texts text) ∙ ap (λ (t : List ℕ). flat_map bytes texts ++ t) more)

-- what holds of a value that is there
pub of-some : {X : Type 0} (P : X → Type 0) (r : Option X) (x : X) → r ≡ Some x → IfSome r P → P x
of-some {X} P r x is holds = subst (λ (o : Option X). IfSome o P) is holds

-- what is found under the name at a place is the dataset that stands there
pub dataset-at : (datasets : List Dataset) (i : ℕ) (name : List ℕ) (value : Value) (flags : Flags)
    → Some name ≡ option_map (λ (d : Dataset). d.name) (slice_get datasets i)
    → dataset_of datasets name ≡ slice_get datasets i
    → Some value ≡ value_of datasets name → Some flags ≡ flags_of datasets name
    → slice_get datasets i ≡ Some (record { name = name; value = value; flags = flags })
dataset-at datasets i name value flags named found valued flagged =
    whole (slice_get datasets i) named
    (valued ∙ ap (option_map (λ (d : Dataset). d.value)) found)
    (flagged ∙ ap (option_map (λ (d : Dataset). d.flags)) found)
  where
    whole : (there : Option Dataset) → Some name ≡ option_map (λ (d : Dataset). d.name) there → Some value ≡ option_map (λ (d : Dataset). d.value) there
        → Some flags ≡ option_map (λ (d : Dataset). d.flags) there → there ≡ Some (record { name = name; value = value; flags = flags })
    whole (Some d) n v f =
        let one : name ≡ d.name = cc in
        let two : value ≡ d.value = cc in
        let three : flags ≡ d.flags = cc in
        rw (one, two, three) refl
    whole None n v f = absurd (cc)

-- the lines of some datasets, and that of one more
pub dataset-written : (before now text : List ℕ) (datasets : List Dataset) (i : ℕ) (dataset : Dataset)
    → slice_get datasets i ≡ Some dataset
    → text ≡ before ++ flat_map dataset_line (take i datasets) → now ≡ text ++ dataset_line dataset
    → now ≡ before ++ flat_map dataset_line (take (i + 1) datasets)
dataset-written before now text datasets i dataset at so_far more =
    let next : take (i + 1) datasets ≡ take i datasets ++ dataset ∷ [] =
    take_more datasets i dataset (slice_get_within datasets i dataset at) ∙ ap (λ (d : Dataset). take i datasets ++ d ∷ []) (get_or_from_slice_get datasets i dataset dataset at) in
    more
    ∙ ap (λ (t : List ℕ). t ++ dataset_line dataset) so_far
    ∙ flat_map_more dataset_line before (take i datasets) dataset
    ∙ ap (λ (ds : List Dataset). before ++ flat_map dataset_line ds) (sym next)
