use Rattle.std.proofs.Common.{rules, ◌∙◌, ap, Some, option_map}
use Rattle.std.specs.Int.{w64, int_wrap}
use Rattle.std.proofs.lemmas.Int.{to_z-of_z}
use Rattle.kern_calls.specs.Types.{bits_of, width_of}
use Rattle.timeline_sem.specs.Numbers.{exact_result}
use Rattle.meaning_steps.proofs.Results.{operate_some, operate_none}
use Rattle.meaning_steps.proofs.operating.operate.Goals as goal

pub returns-in-Some : goal.returns-in-Some
returns-in-Some c =
    let t = c.args.kind in
    λ s.
    operate_some c.args.operator t c.args.a c.args.b _ s
    (ap Some (to_z-of_z w64 c.in-Some.number (search rules))
    ∙ c.in-Some.ensures
    ∙ (λ i. option_map (int_wrap (width_of t)) (exact_result c.args.operator (bits_of t) (to_z-of_z w64 c.args.a c.ranges.a i) (to_z-of_z w64 c.args.b c.ranges.b i))))

pub returns-in-None : goal.returns-in-None
returns-in-None c =
    let t = c.args.kind in
    λ s.
    operate_none c.args.operator t c.args.a c.args.b s
    (c.in-None.ensures
    ∙ (λ i. option_map (int_wrap (width_of t)) (exact_result c.args.operator (bits_of t) (to_z-of_z w64 c.args.a c.ranges.a i) (to_z-of_z w64 c.args.b c.ranges.b i))))
