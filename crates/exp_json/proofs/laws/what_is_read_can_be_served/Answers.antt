use Rattle.exp_json.proofs.Texts.{text-served}
use Rattle.exp_json.proofs.laws.what_is_read_can_be_served.Goals as goal

pub returns : goal.returns
returns c = λ bytes s text. text-served bytes s text
