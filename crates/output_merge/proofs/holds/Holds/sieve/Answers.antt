use Rattle.std.proofs.Common.{◌≡◌, ◌++◌, ℕ, List, length, ap, sym, ◌∙◌}
use Rattle.std.specs.Prelude.{filter, not}
use Rattle.rtio_types.specs.declared.event.Event.{Event}
use Rattle.sed_lanes.specs.Sorting.{sorted}
use Rattle.output_merge.specs.Groups.{is_logged_before}
use Rattle.output_merge.specs.Sieve.{HoldsState, holds_after, is_held}
use Rattle.output_merge.proofs.Sieves.{sieve-busy, sieve-free}
use Rattle.output_merge.proofs.holds.Holds.sieve.Goals as goal

pub returns-clause-sieved : goal.returns-clause-sieved
returns-clause-sieved c = λ holds out is before.
    let long : length holds ≡ 32 = ap (λ (s : HoldsState). length s.holds) (sym is ∙ sym c.self.view_is) ∙ c.self.told.0 in
    let free : c.self.inside.free_from ≡ (holds_after holds out).free_from = ap (λ (s : HoldsState). s.free_from) (c.self.view_is ∙ is) in
    record {
      stay =
          c.take_busy.ensures.kept
          ∙ ap (λ (from : List ℕ). filter (λ p. not (is_held from c.args.cycle p.1)) c.args.kept.now.items) free
          ∙ sieve-free holds out c.args.kept.now.items c.args.cycle long before c.requires.one_cycle;
      leave =
          c.take_busy.ensures.busy
          ∙ ap (λ (from : List ℕ). c.args.busy.now.items ++ sorted is_logged_before (filter (λ p. is_held from c.args.cycle p.1) c.args.kept.now.items)) free
          ∙ ap (λ (ps : List (ℕ × Event)). c.args.busy.now.items ++ sorted is_logged_before ps)
          (sieve-busy holds out c.args.kept.now.items c.args.cycle long before c.requires.one_cycle);
      held = c.hold_all.ensures holds out is;
    }
