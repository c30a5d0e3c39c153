use Rattle.std.proofs.Common.{◌≡◌, false, rules, sym, ◌∙◌}
use Rattle.sim_program.proofs.Waves.{too-early}
use Rattle.sim_program.proofs.wave.draw.Goals as goal

pub returns-in_ok-early_refusal : goal.returns-in_ok-early_refusal
returns-in_ok-early_refusal c =
    let no : c.rising.result ≡ false = search rules in
    too-early c.args.bytes.now c.in_ok-early_refusal.field-0.items c.args.dump.now c.requires (sym (c.rising.ensures.stamps c.requires.spelled.valid) ∙ no) c.in_ok-early_refusal.ensures
