use Rattle.std.proofs.Common.{◌≡◌, ◌++◌, ap, refl, sym, ◌∙◌, subst}
use Rattle.std.specs.Prelude.{Some, None}
use Rattle.sched_state.specs.State.{SchedState}
use Rattle.sched_state.specs.Picks.{is_over, pick}
use Rattle.sched_state.specs.Lawful.{halted_by, state_after}
use Rattle.sched_state.specs.Boards.{state_of}
use Rattle.sched_core.specs.Calls.{jumped, jumps}
use Rattle.sched_core.specs.Scheds.{SchedValue, sched_state}
use Rattle.std.specs.Prelude.{true, false}
use Rattle.sched_state.specs.declared.looking.Look.{Look}
use Rattle.sched_state.specs.Looks.{LooksAs}
use Rattle.sched_laws.specs.Sound.{IsSound}
use Rattle.sched_laws.proofs.Histories.{sound-after}
use Rattle.sched_laws.proofs.Never.{never-stuck}
use Rattle.sched_core.specs.Calls.{IsAnyFlying}
use Rattle.sched_core.proofs.Taken.{looked-after, looked-busy, looked-there}
use Rattle.sched_core.proofs.sched.Sched.next.Goals as goal

pub look_ahead-requires-clause-sound : goal.look_ahead-requires-clause-sound
look_ahead-requires-clause-sound g c =
    let S : SchedState → Type 0 = λ s. IsSound c.self.inside.session s in
    subst S (sym c.self.invariant.state) (sound-after c.self.inside.session c.self.inside.entries.items c.self.invariant.session c.self.invariant.lawful)

pub take-requires-clause-due : goal.take-requires-clause-due
take-requires-clause-due g c =
    let source = g.P.Payload.source_of in
    let stands = g.P.Payload.stands_for in
    let calls = g.P.Payload.has_call in
    let a = c.self.inside in
    let board = c.in_ok-ahead.ahead.board in
    let clocks = c.in_ok-ahead.ahead.clocks.items in
    let ds = (state_after a.session a.entries.items).datasets in
    let there = looked-there source stands calls a board clocks c.self.invariant c.in_ok-ahead.ensures.jumps in
    let going : halted_by a.entries.items ≡ None = sym c.self.invariant.halted ∙ c.in_default.is in
    let L : Look → Type 0 = λ look. LooksAs a.session (state_of a.session.arrivals ds board) look in
    let V : SchedValue → Type 0 = λ v. pick v.session (state_of v.session.arrivals (sched_state v).datasets board) ≡ Some c.in-Due.job in
    let looked = subst L c.in-Due.is (c.in_ok-ahead.ensures.looks ds) in
    subst V c.self.view_is looked.1

pub unreachable-requires : goal.unreachable-requires
unreachable-requires g c = c.in_ok-ahead.ensures.ends c.in-Jump.field-0 c.in-Jump.is

pub unreachable-requires-in-Stuck : goal.unreachable-requires-in-Stuck
unreachable-requires-in-Stuck g c =
    let source = g.P.Payload.source_of in
    let stands = g.P.Payload.stands_for in
    let calls = g.P.Payload.has_call in
    let a = c.self.inside in
    let board = c.in_ok-ahead.ahead.board in
    let clocks = c.in_ok-ahead.ahead.clocks.items in
    let ds = (state_after a.session a.entries.items).datasets in
    let there = looked-there source stands calls a board clocks c.self.invariant c.in_ok-ahead.ensures.jumps in
    let going : halted_by a.entries.items ≡ None = sym c.self.invariant.halted ∙ c.in_default.is in
    let L : Look → Type 0 = λ look. LooksAs a.session (state_of a.session.arrivals ds board) look in
    let looked = subst L c.in-Stuck.is (c.in_ok-ahead.ensures.looks ds) in
    never-stuck a.session (state_of a.session.arrivals ds board) c.in_ok-ahead.ensures.sound looked.0 looked.1 looked.2 looked.3

pub returns-in-Wait-clause-ok : goal.returns-in-Wait-clause-ok
returns-in-Wait-clause-ok g c =
    let source = g.P.Payload.source_of in
    let stands = g.P.Payload.stands_for in
    let calls = g.P.Payload.has_call in
    let a = c.self.inside in
    let board = c.in_ok-ahead.ahead.board in
    let clocks = c.in_ok-ahead.ahead.clocks.items in
    let ds = (state_after a.session a.entries.items).datasets in
    let there = looked-there source stands calls a board clocks c.self.invariant c.in_ok-ahead.ensures.jumps in
    let going : halted_by a.entries.items ≡ None = sym c.self.invariant.halted ∙ c.in_default.is in
    let L : Look → Type 0 = λ look. LooksAs a.session (state_of a.session.arrivals ds board) look in
    let looked = subst L c.in-Wait.is (c.in_ok-ahead.ensures.looks ds) in
    let same = looked-busy source stands calls a board clocks c.self.invariant there looked.2 in
    let A : SchedState → Type 0 = λ s. (is_over s ≡ false) × (pick a.session s ≡ None) × IsAnyFlying s in
    let here : A (state_after a.session a.entries.items) = subst A same looked in
    let V : SchedValue → Type 0 = λ v. (halted_by v.history ≡ None) × (is_over (sched_state v) ≡ false) × (pick v.session (sched_state v) ≡ None) × IsAnyFlying (sched_state v) in
    let all = subst V c.self.view_is (going, here.0, here.1, here.2) in
    (all.0, all.1, all.2, all.3, refl)

pub returns-in_ok-pass-in-Over-clause-ok : goal.returns-in_ok-pass-in-Over-clause-ok
returns-in_ok-pass-in-Over-clause-ok g c =
    let source = g.P.Payload.source_of in
    let stands = g.P.Payload.stands_for in
    let calls = g.P.Payload.has_call in
    let a = c.self.inside in
    let board = c.in_ok-ahead.ahead.board in
    let clocks = c.in_ok-ahead.ahead.clocks.items in
    let ds = (state_after a.session a.entries.items).datasets in
    let there = looked-there source stands calls a board clocks c.self.invariant c.in_ok-ahead.ensures.jumps in
    let going : halted_by a.entries.items ≡ None = sym c.self.invariant.halted ∙ c.in_default.is in
    let L : Look → Type 0 = λ look. LooksAs a.session (state_of a.session.arrivals ds board) look in
    let looked = subst L c.in-Over.is (c.in_ok-ahead.ensures.looks ds) in
    let after = looked-after source stands calls a board clocks c.args.who c.self.invariant going there in
    let over : is_over (state_after a.session (a.entries.items ++ jumps c.args.who clocks)) ≡ true = ap is_over after ∙ looked in
    let V : SchedValue → Type 0 = λ v. (halted_by v.history ≡ None) × (is_over (sched_state (jumped c.args.who clocks v)) ≡ true) in
    let all = subst V c.self.view_is (going, over) in
    let N : SchedValue → Type 0 = λ v. is_over (sched_state v) ≡ true in
    (all.0, clocks, c.in_ok-pass-in-Over.ensures.ok, subst N (sym c.in_ok-pass-in-Over.ensures.ok) all.1)
