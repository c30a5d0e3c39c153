use Rattle.exp_json.proofs.Texts.{not_both}
use Rattle.exp_json.proofs.laws.no_session_has_a_fault.Goals as goal

pub returns : goal.returns
returns c = λ bytes s path kind text bad. not_both bytes s path kind text bad
