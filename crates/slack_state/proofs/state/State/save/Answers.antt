use Rattle.std.proofs.Common.{◌≡◌, length, Some, ap, sym, subst, ◌∙◌}
use Rattle.slack_meaning.specs.Actions as A
use Rattle.slack_meaning.specs.Answers.{is_known, save}
use Rattle.std.specs.Prelude.{nat_le, not, ◌&&◌}
use Rattle.slack_state.specs.contracts.state.State.{the_view}
use Rattle.slack_state.proofs.Metered.{remembered-so, saves-so}
use Rattle.slack_state.proofs.state.State.save.Goals as goal

pub returns : goal.returns
returns c =
    let old : A.State = the_view c.self.inside in
    let saved = record c.self.inside { saved = c.remember.new.saved } in
    let left : A.State = the_view (record c.self.inside { saved = c.remember.new.saved; meter = c.answer.new.self }) in
    let a = c.in_ok-remember.ensures in let b = c.is_full_for.ensures in let d = c.if-is_full_for.false in let f = c.deref.ensures.value in
    subst (λ (s : A.State). save c.args.name c.args.recording s ≡ A.normal tt left) c.self.view_is
    (saves-so old c.args.name c.args.recording left (ap (λ xs. nat_le 1000 (length xs) && not (is_known xs c.args.name)) (sym f) ∙ sym b ∙ d) (remembered-so old c.remember.new.saved.items c.args.name (Some c.args.recording) left a (c.answer.ensures.does (the_view saved))))
