use Rattle.std.proofs.Common.{◌≤◌, ◌∙◌, List, ℕ, length, string_bytes, ap, sym, subst}
use Rattle.kernel_gen.proofs.Pulses.{next-there, text-more, whole, text-small}
use Rattle.kernel_gen.proofs.generating.generated_text.Goals as goal

pub loop-preserved : goal.loop-preserved
loop-preserved c =
    let next = next-there c.args.number c.loop.counter c.loop.x c.next_number-x.result c.loop.invariant.0 c.next_number-x.ensures in (
      next,
      text-more c.args.number c.loop.counter c.next_number-x.result c.of-pulse.result.delay c.of-pulse.result.output c.of-pulse.result.length
          (string_bytes c.loop.text) (string_bytes c.write_delay.new.text) (string_bytes c.write_pulse.new.text)
          next c.of-pulse.ensures.delay c.of-pulse.ensures.output c.of-pulse.ensures.length
          c.loop.invariant.1 c.in_ok-write_delay.ensures c.in_ok-write_pulse.ensures,
    )

pub returns-clause-text : goal.returns-clause-text
returns-clause-text c =
    ap (λ v. v.items) c.into_bytes.ensures.value ∙ whole c.args.number c.loop.counter (string_bytes c.loop.text) c.loop.auto.counter-end c.loop-test.false c.loop.invariant.1

pub returns-clause-small : goal.returns-clause-small
returns-clause-small c =
    subst (λ (text : List ℕ). length text ≤ 10054) (sym (returns-clause-text c)) (text-small c.args.number)
