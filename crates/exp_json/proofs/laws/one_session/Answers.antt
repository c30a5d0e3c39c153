use Rattle.exp_json.proofs.Texts.{one_session}
use Rattle.exp_json.proofs.laws.one_session.Goals as goal

pub returns : goal.returns
returns c = λ bytes s t text other. one_session bytes s t text other
