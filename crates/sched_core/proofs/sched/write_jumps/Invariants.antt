use Rattle.std.proofs.Common.{◌≡◌, ◌+◌, ◌++◌, take, vec_len, vec_capacity}
use Rattle.sched_core.specs.Calls.{jumps}
use Rattle.sched_core.proofs.sched.write_jumps.Given as goal

abbrev pub invariant-loop-clock : goal.invariant-loop-clock
invariant-loop-clock l =
    record {
      items : l.entries.items ≡ l.initial.entries.items ++ jumps l.who (take l.clock-index l.clocks);
      count : vec_len l.entries ≡ vec_len l.initial.entries + l.clock-index;
      room : vec_capacity l.entries ≡ vec_capacity l.initial.entries;
    }
