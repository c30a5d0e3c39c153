use Rattle.std.proofs.Common.{◌≡◌, ◌++◌, ℕ, List, [], ◌∷◌, true, false, length, append-nil, ap, sym, ◌∙◌}
use Rattle.rtio_types.specs.declared.event.Event.{Event}
use Rattle.sed_lanes.specs.Heads.{HeadsState}
use Rattle.output_merge.specs.Busy.{is_busy}
use Rattle.output_merge.specs.Sieve.{HoldsState, held_by, holds_after, is_held}
use Rattle.output_merge.proofs.Sieves.{hold-next, held-busy}
use Rattle.output_merge.proofs.Single.{single-cycle, single-is, single-leaves, single-stays}
use Rattle.output_merge.proofs.holds.Holds.sieve_alone.Goals as goal

pub returns-then-is_held-clause-sieved : goal.returns-then-is_held-clause-sieved
returns-then-is_held-clause-sieved c = λ holds out is before.
    let p : ℕ × Event = c.item-number.result in
    let events : List (ℕ × Event) = c.args.kept.now.items in
    let alone : events ≡ p ∷ [] = single-is events p c.requires.alone c.item-number.ensures in
    let long : length holds ≡ 32 = ap (λ (s : HoldsState). length s.holds) (sym is ∙ sym c.self.view_is) ∙ c.self.told.0 in
    let free : c.self.inside.free_from ≡ (holds_after holds out).free_from = ap (λ (s : HoldsState). s.free_from) (c.self.view_is ∙ is) in
    let busy : is_busy holds out p ≡ true =
    sym (held-busy holds out p c.args.cycle long before (single-cycle c.args.cycle events p alone c.requires.one_cycle))
    ∙ ap (λ (from : List ℕ). is_held from c.args.cycle p.1) (sym free) ∙ sym c.is_held.ensures ∙ c.if-is_held.true in
    let parts = single-leaves (λ q. is_busy holds out q) events p alone busy in
    let none : c.clear.new.self.items ≡ [] = ap (λ (h : HeadsState). h.items) c.clear.ensures in
    record {
      stay = none ∙ parts.0;
      leave =
          ap (λ (h : HeadsState). h.items) c.push.ensures
          ∙ ap (λ (ps : List (ℕ × Event)). c.args.busy.now.items ++ ps) parts.1;
      held =
          is ∙ ap (holds_after holds) (sym (append-nil out))
          ∙ ap (λ (ps : List (ℕ × Event)). holds_after holds (out ++ ps)) (sym none);
    }

pub returns-else-is_held-clause-sieved : goal.returns-else-is_held-clause-sieved
returns-else-is_held-clause-sieved c = λ holds out is before.
    let p : ℕ × Event = c.item-number.result in
    let events : List (ℕ × Event) = c.args.kept.now.items in
    let alone : events ≡ p ∷ [] = single-is events p c.requires.alone c.item-number.ensures in
    let long : length holds ≡ 32 = ap (λ (s : HoldsState). length s.holds) (sym is ∙ sym c.self.view_is) ∙ c.self.told.0 in
    let free : c.self.inside.free_from ≡ (holds_after holds out).free_from = ap (λ (s : HoldsState). s.free_from) (c.self.view_is ∙ is) in
    let busy : is_busy holds out p ≡ false =
    sym (held-busy holds out p c.args.cycle long before (single-cycle c.args.cycle events p alone c.requires.one_cycle))
    ∙ ap (λ (from : List ℕ). is_held from c.args.cycle p.1) (sym free) ∙ sym c.is_held.ensures ∙ c.if-is_held.false in
    let parts = single-stays (λ q. is_busy holds out q) events p alone busy in
    record {
      stay = parts.0;
      leave =
          sym (append-nil c.args.busy.now.items)
          ∙ ap (λ (ps : List (ℕ × Event)). c.args.busy.now.items ++ ps) parts.1;
      held =
          c.hold.ensures ∙ ap (λ (s : HoldsState). held_by s p.1) is ∙ hold-next holds out p
          ∙ ap (λ (ps : List (ℕ × Event)). holds_after holds (out ++ ps)) (sym alone);
    }
