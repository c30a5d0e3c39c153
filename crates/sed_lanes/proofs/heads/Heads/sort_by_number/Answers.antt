use Rattle.std.proofs.Common.{rules, ◌≡◌, ℕ, List, nat_eq, ap, ◌∙◌}
use Rattle.std.specs.List.{IsDistinct}
use Rattle.std.specs.Map.{keys_of}
use Rattle.std.proofs.lemmas.List.Sorted.{IsNonDecreasingBy-from_sort_by_key}
use Rattle.rtio_types.specs.declared.event.Event.{Event}
use Rattle.sed_lanes.specs.Heads.{by_number}
use Rattle.sed_lanes.proofs.Numbered.{by_number-is}
use Rattle.sed_lanes.proofs.heads.Heads.sort_by_number.Goals as goal

pub returns-clause-order : goal.returns-clause-order
returns-clause-order c =
    let before : List (ℕ × Event) = c.self.inside.pairs.items in
    let after : List (ℕ × Event) = c.sort_unstable_by_key.new.self.items in
    let same : before ≡ c.args.self.now.items = cc in
    let room : c.self.inside.room ≡ c.args.self.now.room = cc in
    let distinct : IsDistinct nat_eq (keys_of before) = rw same c.requires.numbers in
    let sorted : after ≡ by_number before =
    by_number-is before after distinct c.sort_unstable_by_key.ensures.permutation
    (IsNonDecreasingBy-from_sort_by_key (λ p. p.0) _ c.sort_unstable_by_key.ensures.sorted (λ a r q k. search rules)) in
    ap (λ (items : List (ℕ × Event)). record { items = items; room = c.self.inside.room }) (sorted ∙ ap by_number same)
    ∙ ap (λ (n : ℕ). record { items = by_number c.args.self.now.items; room = n }) room
