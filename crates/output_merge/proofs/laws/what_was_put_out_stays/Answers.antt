use Rattle.output_merge.proofs.Staying.{busy-stay, collided-stay, outputs-stay}
use Rattle.output_merge.proofs.laws.what_was_put_out_stays.Goals as goal

pub returns : goal.returns
returns c = record { kept = outputs-stay; busy = busy-stay; collided = collided-stay }
