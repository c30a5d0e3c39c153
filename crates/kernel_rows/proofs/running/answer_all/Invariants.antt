use Rattle.std.specs.Prelude.{◌≡◌, false}
use Rattle.core_cpu.specs.Moments.{is_asking}
use Rattle.kernel_rows.proofs.running.answer_all.Given as goal

abbrev pub invariant-loop-reply : goal.invariant-loop-reply
invariant-loop-reply l = is_asking l.cpu.phase ≡ false
