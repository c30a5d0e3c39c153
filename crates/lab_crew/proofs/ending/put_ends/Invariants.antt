use Rattle.std.proofs.Common.{◌≡◌, ◌≤◌, map, vec_capacity}
use Rattle.lab_crew.proofs.ending.put_ends.Given as goal

-- the ends of those so far are put, and there is room for the others
abbrev pub invariant-loop-member : goal.invariant-loop-member
invariant-loop-member l =
    (l.ends.items ≡ map (λ member. member.end) l.yielded) × (vec_capacity l.initial.ends ≤ vec_capacity l.ends)
