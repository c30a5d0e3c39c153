use Rattle.code_follows.proofs.Whole.{runs_as_meant}
use Rattle.code_follows.proofs.laws.bodies_run_as_meant.Goals as goal

pub returns : goal.returns
returns c given code function g args cursor units program f limit past value found at_f is enters stands cursor_fits numbers fit fb =
    runs_as_meant given code function g found args cursor units program f limit past value at_f is enters stands cursor_fits numbers fit fb
