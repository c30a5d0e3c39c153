use Rattle.output_merge.proofs.Ticks.{busy-tick, collided-tick, outputs-tick}
use Rattle.output_merge.proofs.laws.a_tick_puts_out_what_the_merge_keeps.Goals as goal

pub returns : goal.returns
returns c = record { kept = outputs-tick; busy = busy-tick; collided = collided-tick }
