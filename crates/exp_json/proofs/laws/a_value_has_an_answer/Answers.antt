use Rattle.exp_json.proofs.Texts.{answered}
use Rattle.exp_json.proofs.laws.a_value_has_an_answer.Goals as goal

pub returns : goal.returns
returns c = λ bytes d value. answered bytes d value
