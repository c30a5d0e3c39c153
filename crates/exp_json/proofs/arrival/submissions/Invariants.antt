use Rattle.std.proofs.Common.{◌≡◌, take}
use Rattle.std.specs.List.{count_by}
use Rattle.exp_model.specs.Sessions.{submits}
use Rattle.exp_json.proofs.arrival.submissions.Given as goal

abbrev pub invariant-loop-arrival : goal.invariant-loop-arrival
invariant-loop-arrival l = l.many ≡ count_by submits (take l.arrival-index l.before)
