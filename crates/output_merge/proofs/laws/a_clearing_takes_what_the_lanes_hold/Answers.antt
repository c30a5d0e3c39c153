use Rattle.std.proofs.Common.{ap, ◌∙◌}
use Rattle.sed_lanes.proofs.Histories.{judged-clear}
use Rattle.output_merge.specs.Live.{cleared}
use Rattle.output_merge.proofs.LiveHeld.{cleared-cleared}
use Rattle.output_merge.proofs.laws.a_clearing_takes_what_the_lanes_hold.Goals as goal

pub returns : goal.returns
returns c = λ lanes depth steps at some in_time.
    ap cleared (judged-clear lanes depth steps at) ∙ cleared-cleared lanes depth steps at some in_time
