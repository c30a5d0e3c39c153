use Rattle.std.proofs.Common.{List, ℕ, ◌<◌, ap, arith, get_or, length, map, string_bytes, subst, sym, ◌≡◌, ◌∙◌}
use Rattle.std.specs.Prelude.{All, Some}
use Rattle.std.proofs.lemmas.List.{with_items_is}
use Rattle.std.proofs.lemmas.Simd.{map-map}
use Rattle.std.proofs.lemmas.Result.{IfOk-weaker}
use Rattle.lab_program.specs.declared.telling.Telling.{Telling}
use Rattle.lab_program.specs.Telling.{CanBeTold, IsToldAt}
use Rattle.lab_program.proofs.Told.{all-can, told-by-place, told_of}
use Rattle.lab_program.proofs.telling.tell_cores.Goals as goal

pub tell_in_threads-requires-clause-cores : goal.tell_in_threads-requires-clause-cores
tell_in_threads-requires-clause-cores g c κs within =
    subst (All CanBeTold) (sym c.as_mut_slice.ensures.value)
    (all-can c.in_ok-tellings.tellings.items c.args.cores.items c.in_ok-tellings.ensures c.requires.closed)

pub returns : goal.returns
returns g c =
    let was = c.as_mut_slice.ensures.value in
    let olds = c.in_ok-tellings.tellings in
    let news = c.tell_in_threads.new.tellings in
    let count = c.tell_in_threads.auto.tellings ∙ ap length was in
    let whole = with_items_is olds news (count ∙ sym olds.ok.0) in
    let each = subst (λ (ts : List Telling). (i : ℕ) (d : Telling) → i < length ts → IsToldAt i (get_or ts i d) (get_or news i d)) was c.tell_in_threads.ensures in
    IfOk-weaker c.lines_of_all.result _ _
    (λ all are.
    told-by-place 0 c.args.cores.items olds.items news (map string_bytes all.items) c.in_ok-tellings.ensures count
    (λ i d low. let A : ℕ → Type 0 = λ k. IsToldAt k (get_or olds.items i d) (get_or news i d) in subst A (omega arith) (each i d low))
    (sym (ap (map told_of) whole) ∙ are ∙ sym (map-map (λ (text : List ℕ). Some text) string_bytes all.items)))
    c.lines_of_all.ensures
