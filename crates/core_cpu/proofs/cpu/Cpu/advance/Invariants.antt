use Rattle.std.proofs.Common.{◌≡◌, List, false}
use Rattle.rtio_types.specs.declared.outcome.Outcome.{Outcome}
use Rattle.rtio_types.specs.declared.request.Request.{Request}
use Rattle.rtio_types.specs.declared.request.Reply.{Reply}
use Rattle.core_cpu.specs.Moments.{is_asking, is_playing}
use Rattle.core_cpu.specs.Nearness.{nearness}
use Rattle.core_cpu.specs.Standing.{Start, Stands}
use Rattle.core_cpu.specs.declared.phase.Phase.TheVariants.{Over}
use Rattle.core_cpu.proofs.cpu.Cpu.advance.Given as goal

abbrev pub invariant-loop-alloc : goal.invariant-loop-alloc
invariant-loop-alloc l = record {
  code : l.self.code ≡ l.fn.self.code;
  stands : (start : Start) (asked : List Request) (replies : List Reply) → Stands start asked replies l.fn.self → Stands start asked replies l.self;
  asking : is_asking l.self.phase ≡ false;
  playing : is_playing l.self.phase ≡ false;
  over : (outcome : Outcome) → l.fn.self.phase ≡ Over outcome → l.self ≡ l.fn.self;
}

abbrev pub decreases-loop-alloc : goal.decreases-loop-alloc
decreases-loop-alloc l = nearness l.self
