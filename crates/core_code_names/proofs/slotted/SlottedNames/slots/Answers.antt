use Rattle.std.proofs.Common.{ap, ◌∙◌}
use Rattle.code_forms.specs.Setting.{slots_of_names}
use Rattle.core_code_names.specs.Slots.{capped}
use Rattle.core_code_names.proofs.Firsts.{all_slots}
use Rattle.core_code_names.proofs.slotted.SlottedNames.slots.Goals as goal

pub returns : goal.returns
returns c =
    all_slots c.self.inside.names c.self.inside.firsts.items c.self.inside.slots c.self.invariant ∙ ap (λ names. capped (slots_of_names names)) c.self.view_is
