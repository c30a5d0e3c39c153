use Rattle.std.proofs.Common.{subst}
use Rattle.serde_json.specs.View.{view}
use Rattle.json_fields.specs.Answers.{Gives}
use Rattle.exp_json.proofs.Texts.{passed-session}
use Rattle.exp_json.proofs.session.session.Goals as goal

pub returns : goal.returns
returns c =
    subst (Gives c.fields.result) (passed-session (view c.args.value.now) c.around_of-around.result c.around_of-around.ensures c.in_ok-an_object.ensures.read c.in_ok-only_session_keys.ensures) c.fields.ensures
