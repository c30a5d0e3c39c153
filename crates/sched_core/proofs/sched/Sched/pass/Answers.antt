use Rattle.std.proofs.Common.{◌≡◌, ◌≤◌, ◌++◌, ℕ, List, ap, arith, length, sym, ◌∙◌, subst}
use Rattle.std.specs.Prelude.{None}
use Rattle.sched_state.specs.declared.entry.SchedEntry.{SchedEntry}
use Rattle.sched_state.specs.Lawful.{halted_by}
use Rattle.sched_state.specs.Boards.{state_of}
use Rattle.sched_core.specs.Calls.{jumps}
use Rattle.sched_core.specs.Jumps.{JumpsTo}
use Rattle.sched_core.specs.Scheds.{SchedValue, sched_state}
use Rattle.sched_core.proofs.Taken.{entries-kept, pass-keeps}
use Rattle.sched_core.proofs.sched.Sched.pass.Goals as goal

pub invariant_of-self : goal.invariant_of-self
invariant_of-self g c =
    entries-kept g.P.Payload.source_of g.P.Payload.stands_for g.P.Payload.has_call c.self.inside c.reserve.new.self c.self.invariant c.in_err-reserve.ensures.items
    (λ e. let was = c.self.invariant.room e in omega (arith, was, c.reserve.ensures.len, c.reserve.ensures.capacity))

pub invariant_of-self-2 : goal.invariant_of-self-2
invariant_of-self-2 g c =
    let source = g.P.Payload.source_of in
    let stands = g.P.Payload.stands_for in
    let calls = g.P.Payload.has_call in
    let a = c.self.inside in
    let clocks = c.args.ahead.clocks.items in
    let board = c.args.ahead.board in
    let G : SchedValue → Type 0 = λ v. halted_by v.history ≡ None in
    let J : SchedValue → Type 0 = λ v. JumpsTo v.session (sched_state v) clocks (state_of v.session.arrivals (sched_state v).datasets board) in
    let T : SchedValue → Type 0 = λ v. board.taken ≤ length v.session.arrivals in
    let N : SchedValue → Type 0 = λ v. board.runs.pipelines ≡ length v.session.pipelines in
    let going = subst G (sym c.self.view_is) c.requires.going in
    let there = subst J (sym c.self.view_is) c.requires.jumps in
    let within = subst T (sym c.self.view_is) c.requires.taken in
    let pipelines = subst N (sym c.self.view_is) c.requires.pipelines in
    pass-keeps source stands calls a board c.write_jumps.new.entries c.args.who clocks c.self.invariant going there within pipelines
    (c.write_jumps.ensures.items ∙ ap (λ (xs : List SchedEntry). xs ++ jumps c.args.who c.deref.result.now) c.in_ok-reserve.ensures.items ∙ ap (λ (cs : List ℕ). a.entries.items ++ jumps c.args.who cs) c.deref.ensures.value)
    (omega (arith, c.write_jumps.ensures.count, c.write_jumps.ensures.room, c.in_ok-reserve.ensures.ok, c.in_ok-reserve.ensures.len, c.len.ensures, c.deref.ensures.len))
