use Rattle.core_image.proofs.Spots.{least_bad}
use Rattle.core_image.proofs.Verifiable.{is_marked, is_safe, no_bad, takes_nothing}
use Rattle.core_image.proofs.verifying.verify.Goals as goal

pub invariant_of-result : goal.invariant_of-result
invariant_of-result c = record { in_range = c.requires; accepted = c.in-None.ensures.none }

pub returns-in-Some-clause-bad : goal.returns-in-Some-clause-bad
returns-in-Some-clause-bad c = least_bad c.args.code c.in-Some.place c.in-Some.ensures.within c.in-Some.ensures.bad c.in-Some.ensures.least

pub returns-in-None-clause-marked : goal.returns-in-None-clause-marked
returns-in-None-clause-marked c = is_marked c.args.code (record { in_range = c.requires; accepted = c.in-None.ensures.none })

pub returns-in-None-clause-main : goal.returns-in-None-clause-main
returns-in-None-clause-main c = takes_nothing c.args.code (record { in_range = c.requires; accepted = c.in-None.ensures.none })

pub returns-in-None-clause-safe : goal.returns-in-None-clause-safe
returns-in-None-clause-safe c = is_safe c.args.code c.requires (is_marked c.args.code (record { in_range = c.requires; accepted = c.in-None.ensures.none }))

pub returns-in-Some-clause-only : goal.returns-in-Some-clause-only
returns-in-Some-clause-only c = λ marked nothing.
    absurd (no_bad c.args.code c.in-Some.place marked nothing (least_bad c.args.code c.in-Some.place c.in-Some.ensures.within c.in-Some.ensures.bad c.in-Some.ensures.least))
