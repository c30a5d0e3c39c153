use Rattle.exp_json.proofs.Texts.{one_fault}
use Rattle.exp_json.proofs.laws.one_first_fault.Goals as goal

pub returns : goal.returns
returns c = λ bytes path other_path kind other_kind bad other. one_fault bytes path other_path kind other_kind bad other
