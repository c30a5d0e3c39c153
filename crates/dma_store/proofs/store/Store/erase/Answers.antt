use Rattle.std.proofs.Common.{◌≡◌, true, false, refl, ap, sym, ◌∙◌}
use Rattle.dma_store.specs.Kept.{is_kept, erased}
use Rattle.dma_store.proofs.Inside.{inside-erased, erased-view, kept-removed}
use Rattle.dma_store.proofs.store.Store.erase.Goals as goal

pub returns-then-is_none-clause-kept : goal.returns-then-is_none-clause-kept
returns-then-is_none-clause-kept c =
    let removed = kept-removed c.self.inside.recordings.entries c.self.inside.epoch c.args.name.now c.shift_remove.result c.is_none.result true c.shift_remove.ensures.value c.is_none.ensures c.if-is_none.true in
    let missing : is_kept c.args.self.now c.args.name.now ≡ false = sym (ap (λ kept. is_kept kept c.args.name.now) c.self.view_is) ∙ removed in
    (λ h. missing ∙ h, λ h. sym missing ∙ h)

pub invariant_of-self-2 : goal.invariant_of-self-2
invariant_of-self-2 c =
    inside-erased c.self.inside.recordings.entries c.shift_remove.new.self.entries c.self.inside.epoch c.next_epoch-self-inside.result c.args.name.now c.self.invariant c.shift_remove.ensures.unique c.shift_remove.ensures.entries c.next_epoch-self-inside.ensures

pub returns-clause-ok : goal.returns-clause-ok
returns-clause-ok c =
    erased-view c.self.inside.recordings.entries c.shift_remove.new.self.entries c.self.inside.epoch c.next_epoch-self-inside.result c.args.name.now c.self.invariant.distinct c.shift_remove.ensures.entries c.next_epoch-self-inside.ensures ∙ ap (λ kept. erased kept c.args.name.now) c.self.view_is

pub returns-clause-kept : goal.returns-clause-kept
returns-clause-kept c =
    let removed = kept-removed c.self.inside.recordings.entries c.self.inside.epoch c.args.name.now c.shift_remove.result c.is_none.result false c.shift_remove.ensures.value c.is_none.ensures c.if-is_none.false in
    (λ h. sym (ap (λ kept. is_kept kept c.args.name.now) c.self.view_is) ∙ removed, λ h. refl)
