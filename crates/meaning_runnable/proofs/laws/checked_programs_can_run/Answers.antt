use Rattle.meaning_runnable.proofs.Functions.{typed_can_run}
use Rattle.meaning_runnable.proofs.laws.checked_programs_can_run.Goals as goal

pub returns : goal.returns
returns c = typed_can_run
