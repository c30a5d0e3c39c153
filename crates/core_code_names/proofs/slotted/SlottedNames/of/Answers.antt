use Rattle.std.proofs.Common.{rules, arith, ◌≡◌, ◌≤◌, ◌+◌, ◌++◌, [], ◌∷◌, length, ap, ◌∙◌, refl}
use Rattle.std.proofs.lemmas.List.{drop_all}
use Rattle.core_code_names.specs.Slots.{capped, firsts_from}
use Rattle.core_code_names.proofs.Firsts.{slot_more, all_slotted}
use Rattle.core_code_names.proofs.slotted.SlottedNames.of.Goals as goal

pub loop-place-init : goal.loop-place-init
loop-place-init c = record {
  each = ap (λ l. l ++ firsts_from 0 c.args.names) c.new-firsts.ensures.items;
  next = refl;
}

pub loop-place-preserved : goal.loop-place-preserved
loop-place-preserved c =
    let firsts = c.loop-place.firsts.items in
    let slots = c.loop-place.slots in
    let put : c.push.new.self.items ≡ firsts ++ slots ∷ [] = search rules in
    slot_more c.args.names c.loop-place.place firsts c.push.new.self.items slots c.saturating_add-slots.result c.at.result.name.now c.at.result.kind c.at.ensures c.loop-place.invariant put
    (c.saturating_add-slots.ensures ∙ ap (λ n. capped (slots + n)) c.size_of.ensures)

pub invariant_of-result : goal.invariant_of-result
invariant_of-result c =
    let names = c.args.names in
    let place = c.loop-place.place in
    let past : length names ≤ place = omega (arith, c.len-place-end.ensures, c.loop-place-test.false) in
    all_slotted names place c.loop-place.firsts.items c.loop-place.slots (drop_all place names past) c.loop-place.invariant
