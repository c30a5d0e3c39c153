use Rattle.std.proofs.Common.{sym, ap, ◌∙◌, arith}
use Rattle.code_forms.specs.Setting.{slot_in}
use Rattle.core_code_names.specs.Slots.{capped}
use Rattle.core_code_names.proofs.Firsts.{slot_found, slot_missing, slot_there}
use Rattle.core_code_names.proofs.slotted.SlottedNames.slot.Goals as goal

pub index-requires : goal.index-requires
index-requires c =
    let firsts = c.self.inside.firsts in
    let there = slot_there c.self.inside.names firsts.items c.self.inside.slots c.args.name.now c.in-Some.place c.self.invariant (sym c.in-Some.is ∙ c.place.ensures) in
    omega (arith, firsts.ok.0, there)

pub returns-in-Some : goal.returns-in-Some
returns-in-Some c =
    c.index.ensures
    ∙ slot_found c.self.inside.names c.self.inside.firsts.items c.self.inside.slots c.args.name.now c.in-Some.place c.index.result.now c.self.invariant (sym c.in-Some.is ∙ c.place.ensures)
    ∙ ap (λ names. capped (slot_in names c.args.name.now)) c.self.view_is

pub returns-in-None : goal.returns-in-None
returns-in-None c =
    slot_missing c.self.inside.names c.self.inside.firsts.items c.self.inside.slots c.args.name.now c.self.invariant (sym c.in-None.is ∙ c.place.ensures) ∙ ap (λ names. capped (slot_in names c.args.name.now)) c.self.view_is
