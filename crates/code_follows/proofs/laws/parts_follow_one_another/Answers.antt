use Rattle.code_follows.proofs.Compose.{follows_bind}
use Rattle.code_follows.proofs.laws.parts_follow_one_another.Goals as goal

pub returns : goal.returns
returns c given code most setting first mid past inputs results results' m f fm kf =
    follows_bind given code fm kf
