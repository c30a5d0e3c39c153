use Rattle.std.proofs.Common.{ap, sym, ◌∙◌, Some, option_map}
use Rattle.std.specs.Int.{int_wrap, w64}
use Rattle.std.proofs.lemmas.Int.{wrapping_add_is, wrapping_sub_is}
use Rattle.timeline_sem.specs.Numbers.{exact_result}
use Rattle.slack_steps.proofs.operating.long_result.Goals as goal

pub returns-in-Add : goal.returns-in-Add
returns-in-Add c =
    ap Some (wrapping_add_is w64 c.args.a c.args.b c.ranges.a c.ranges.b)
    ∙ ap (λ op. option_map (int_wrap w64) (exact_result op 64 c.args.a c.args.b)) (sym c.in-Add.is)

pub returns-in-Subtract : goal.returns-in-Subtract
returns-in-Subtract c =
    ap Some (wrapping_sub_is w64 c.args.a c.args.b c.ranges.a c.ranges.b)
    ∙ ap (λ op. option_map (int_wrap w64) (exact_result op 64 c.args.a c.args.b)) (sym c.in-Subtract.is)
