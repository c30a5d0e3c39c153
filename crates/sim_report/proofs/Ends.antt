-- Histories that end with an end.
use Rattle.std.proofs.Common.{◌≡◌, ℕ, ◌+◌, ◌-◌, List, [], ◌∷◌, ◌++◌, length, Some, refl, ap, ◌∙◌, arith}
use Rattle.std.specs.Prelude.{ℤ, slice_get}
use Rattle.std.specs.Option.{option_and_then}
use Rattle.std.proofs.lemmas.List.{length-append}
use Rattle.rtio_types.specs.declared.outcome.Outcome.{Outcome}
use Rattle.rtio_core.specs.declared.data.Act.TheVariants.{End}
use Rattle.rtio_core.specs.declared.data.Entry.{Entry}
use Rattle.sim_report.specs.Ends.{EndsWith, end_in}

last-behind : (before : List Entry) (entry : Entry) → slice_get (before ++ entry ∷ []) (length before) ≡ Some entry
last-behind [] entry = refl
last-behind (e ∷ before) entry = last-behind before entry

-- the last entry of a history is the one that was added last
pub ends-with : (before : List Entry) (chair : ℕ) (how : Outcome) (cursor : ℤ) (at : ℕ) → EndsWith (before ++ record { chair = chair; act = End how cursor at } ∷ []) how cursor
ends-with before chair how cursor at =
    let entry : Entry = record { chair = chair; act = End how cursor at } in
    let long : length (before ++ entry ∷ []) ≡ length before + 1 = length-append before (entry ∷ []) in
    let last : length (before ++ entry ∷ []) - 1 ≡ length before = omega (arith, long) in
    ap (λ (n : ℕ). option_and_then (λ (e : Entry). end_in e.act) (slice_get (before ++ entry ∷ []) n)) last
    ∙ ap (option_and_then (λ (e : Entry). end_in e.act)) (last-behind before entry)
