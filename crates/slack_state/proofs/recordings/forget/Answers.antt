use Rattle.std.proofs.Common.{◌≡◌, ◌∙◌, ap, sym, true, false}
use Rattle.std.specs.Prelude.{is_some}
use Rattle.slack_state.proofs.Recorded.{unknown_none}
use Rattle.slack_state.proofs.recordings.forget.Goals as goal

pub unreachable-requires : goal.unreachable-requires
unreachable-requires c =
    let clash : false ≡ true = sym (ap is_some (unknown_none c.args.saved.now c.args.name.now c.in-None.ensures)) ∙ c.requires in absurd (cc)
