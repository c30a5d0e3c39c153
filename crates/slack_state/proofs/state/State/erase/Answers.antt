use Rattle.std.proofs.Common.{◌≡◌, refl, length, None, ap, sym, subst, true, ◌∙◌}
use Rattle.std.specs.Prelude.{is_some}
use Rattle.std.specs.Vec.{with_items}
use Rattle.std.proofs.lemmas.List.{with_items_is}
use Rattle.slack_meaning.specs.Actions as A
use Rattle.slack_meaning.specs.Answers.{at_hand, erase, with_recording}
use Rattle.slack_state.specs.contracts.state.State.{the_view}
use Rattle.slack_state.proofs.Metered.{remembered-so, erases-so, mapped-some}
use Rattle.slack_state.proofs.state.State.erase.Goals as goal

pub returns : goal.returns
returns c =
    let name = c.args.name.now in
    let old : A.State = the_view c.self.inside in
    let saved = record c.self.inside { saved = with_items c.self.inside.saved c.forget.new.saved } in
    let left : A.State = the_view (record saved { meter = c.answer.new.self }) in
    let there : is_some (at_hand old.saved name) ≡ true = ap is_some (sym (c.at_hand.ensures ∙ ap (λ xs. at_hand xs name) c.deref.ensures.value)) ∙ mapped-some (λ r. r.now) c.at_hand.result ∙ c.if-is_none.ensures in
    let kept : length c.forget.new.saved ≡ c.self.inside.saved.len = c.forget.auto.saved ∙ c.deref_mut.ensures.len in
    let forgotten = with_items_is c.self.inside.saved c.forget.new.saved kept ∙ c.forget.ensures ∙ ap (λ xs. with_recording xs name None) c.deref_mut.ensures.value in
    subst (λ (s : A.State). erase name s ≡ A.normal tt left) c.self.view_is
    (erases-so old name (at_hand old.saved name) left refl there (remembered-so old saved.saved.items name None left forgotten (c.answer.ensures.does (the_view saved))))
