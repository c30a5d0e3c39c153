use Rattle.std.proofs.Common.{◌<◌, ◌^◌, ◌∙◌, arith}
use Rattle.code_forms.specs.Setting.{slot_in}
use Rattle.core_code_names.proofs.Firsts.{capped_same, slot_within}
use Rattle.core_code_names.proofs.setting.Setting.slot.Goals as goal

pub returns : goal.returns
returns c =
    let self = c.args.self.now in
    let within = slot_within self.names.now c.args.name.now in
    let few = self.few_slots in
    let small : slot_in self.names.now c.args.name.now < 2 ^ 16 = omega (arith, within, few) in
    c.slot.ensures ∙ capped_same (slot_in self.names.now c.args.name.now) small
