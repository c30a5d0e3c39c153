use Rattle.std.proofs.Common.{ℕ, ◌+◌, List, ◌++◌, ◌∷◌, [], Bool, take, drop, sym, ap, subst, ◌∙◌, arith, refl}
use Rattle.std.specs.Prelude.{map}
use Rattle.std.proofs.lemmas.List.{take_all}
use Rattle.rtio_types.specs.declared.event.Event.{Event}
use Rattle.rtio_core.specs.declared.data.Entry.{Entry}
use Rattle.sim_report.specs.Steps.{may_pend}
use Rattle.sim_report.proofs.Beyond.{pending-since}
use Rattle.sim_report.proofs.Judging.{here}
use Rattle.sim_report.proofs.Missed.{numbers_of}
use Rattle.sim_report.proofs.Walked.{Walked, asks-at, beyond_in, cleared-at, not-next, numbers-at, quiet-at, walked-missed, walked-pushed, walked-skipped}
use Rattle.sim_report.proofs.pending.walk_for_pending.Goals as goal
use Rattle.sim_report.proofs.pending.walk_for_pending.Goals.{in-Submits, then-is_next, else-is_next+then-may_pend+in_ok-push-in-Submits, else-is_next+else-may_pend, in-Clears, in-Other}

pub loop-entry-preserved : goal.loop-entry-preserved
loop-entry-preserved c =
    let items : List Entry = c.history-entry-items.result.now in
    let i : ℕ = c.loop-entry.entry-index in
    let entry : Entry = c.entry-item.result in
    let counter : ℕ = c.args.core.now.counter in
    let number : ℕ = c.loop-entry.number in
    let passed : ℕ = c.loop-entry.passed in
    let at = here c.history-entry-items.result.now c.loop-entry.entry-index c.entry-item.result c.loop-entry-test.true c.entry-item.is in
    let walked = c.loop-entry.invariant.walked in
    let small = c.loop-entry.invariant.small in
    let fewer = c.loop-entry.invariant.fewer in
    elim c.match-step_of.branch [
      | in-Submits w ↦
          let e : Event = w.in-Submits.event in
          let is_done : Bool = w.in-Submits.is_done in
          let asked = asks-at c.args.core.now.config c.args.core.now.history items i entry e is_done c.history-entry-items.ensures.value at c.history-entry-items.ensures.core.lawful (sym c.step_of.ensures ∙ w.in-Submits.is) in
          let are = numbers-at c.args.core.now.config c.args.core.now.history items i entry w.deref.result.now c.history-entry-items.ensures.value at (w.deref.ensures.value ∙ c.in_ok-missed.ensures ∙ ap numbers_of c.log.ensures.kinds.sequence) in
          elim w.if-is_next.branch [
            | then-is_next v ↦ rw (w.events-is, w.number-is, w.passed-is, v.events-is, v.passed-is)
                (record {
                  walked = subst (λ (h : List Entry). Walked c.args.core.now.config h counter (number + 1) (passed + 1) c.loop-entry.events.items) (sym at.take_is)
                      (walked-missed c.args.core.now.config (take i items) entry (drop (i + 1) items) counter number passed w.deref.result.now c.loop-entry.events.items e is_done walked are asked (v.if-is_next.ensures.0 refl));
                  small = omega (arith, small);
                  fewer = omega (arith, fewer);
                })
            | else-is_next+then-may_pend+in_ok-push-in-Submits v ↦ rw (w.events-is, w.number-is, w.passed-is, v.events-is, v.passed-is, v.in_ok-push-in-Submits.ensures.items)
                (record {
                  walked = subst (λ (h : List Entry). Walked c.args.core.now.config h counter (number + 1) passed (c.loop-entry.events.items ++ e ∷ [])) (sym at.take_is)
                      (walked-pushed c.args.core.now.config (take i items) entry (drop (i + 1) items) counter number passed w.deref.result.now c.loop-entry.events.items e is_done walked are asked (not-next v.if-is_next.ensures.1)
                      (ap (may_pend e is_done) (sym c.counter-counter.ensures) ∙ sym v.if-may_pend.ensures));
                  small = omega (arith, small);
                  fewer = omega (arith, fewer);
                })
            | else-is_next+else-may_pend v ↦ rw (w.events-is, w.number-is, w.passed-is, v.events-is, v.passed-is)
                (record {
                  walked = subst (λ (h : List Entry). Walked c.args.core.now.config h counter (number + 1) passed c.loop-entry.events.items) (sym at.take_is)
                      (walked-skipped c.args.core.now.config (take i items) entry (drop (i + 1) items) counter number passed w.deref.result.now c.loop-entry.events.items e is_done walked are asked (not-next v.if-is_next.ensures.1)
                      (ap (may_pend e is_done) (sym c.counter-counter.ensures) ∙ sym v.if-may_pend.ensures));
                  small = omega (arith, small);
                  fewer = omega (arith, fewer);
                })
          ]
      | in-Clears w ↦ rw (w.events-is, w.number-is, w.passed-is, w.clear.ensures.items)
          (record {
            walked = cleared-at c.args.core.now.config items i entry counter number passed c.loop-entry.events.items at (sym c.step_of.ensures ∙ w.in-Clears.is) walked;
            small = omega (arith, small);
            fewer = omega (arith, fewer);
          })
      | in-Other w ↦ rw (w.events-is, w.number-is, w.passed-is)
          (record {
            walked = quiet-at c.args.core.now.config items i entry counter number passed c.loop-entry.events.items at (sym c.step_of.ensures ∙ w.in-Other.is) walked;
            small = omega (arith, small);
            fewer = omega (arith, fewer);
          })
    ]

pub returns : goal.returns
returns c =
    c.loop-entry.invariant.walked.events_are
    ∙ ap (λ (h : List Entry). beyond_in c.args.core.now.config h c.args.core.now.counter) (take_all c.loop-entry.entry-index c.history-entry-items.result.now c.loop-entry-test.false ∙ c.history-entry-items.ensures.value)
    ∙ ap (map (λ p. p.1)) (sym (pending-since c.args.core.now c.history-entry-items.ensures.core))
