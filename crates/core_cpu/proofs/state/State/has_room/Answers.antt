use Rattle.std.proofs.Common.{◌≡◌, ℕ, ◌+◌, ltb, length, ap, ◌∙◌, arith}
use Rattle.std.proofs.lemmas.Bool.Decides.{nat_tests}
use Rattle.core_cpu.proofs.FrameCount.{frames_count}
use Rattle.core_cpu.proofs.state.State.has_room.Goals as goal

room_left : (n : ℕ) → ltb n 63 ≡ ltb (n + 1) 64
room_left n = grind (arith, nat_tests)

pub returns : goal.returns
returns c = rw (← c.self.view_is, frames_count) (ap (λ n. ltb n 63) c.count.ensures ∙ room_left (length c.self.inside.callers.0))
