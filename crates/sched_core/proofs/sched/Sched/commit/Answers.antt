use Rattle.std.proofs.Common.{◌≡◌, ◌≤◌, ◌∷◌, ◌++◌, [], ℕ, List, ap, arith, drop, length, sym, ◌∙◌, subst}
use Rattle.std.specs.Prelude.{Some, None}
use Rattle.dataset_db.specs.Datasets.{Dataset}
use Rattle.sched_state.specs.declared.entry.SchedAct.TheVariants as act
use Rattle.sched_state.specs.declared.entry.SchedEntry.{SchedEntry}
use Rattle.sched_state.specs.Picks.{pick}
use Rattle.sched_state.specs.Lawful.{halted_by}
use Rattle.sched_state.specs.Boards.{state_of, state_with}
use Rattle.sched_core.specs.Calls.{HandsOut, entry_of, jumps}
use Rattle.sched_core.specs.Jumps.{JumpsTo}
use Rattle.sched_core.specs.Scheds.{SchedValue, sched_state}
use Rattle.sched_state.specs.Picks.{taken}
use Rattle.sched_core.proofs.Taken.{entries-kept, take-keeps, there-found}
use Rattle.sched_core.proofs.sched.Sched.commit.Goals as goal

pub begin-requires : goal.begin-requires
begin-requires g c =
    let source = g.P.Payload.source_of in
    let stands = g.P.Payload.stands_for in
    let calls = g.P.Payload.has_call in
    let a = c.self.inside in
    let clocks = c.args.ahead.clocks.items in
    let board = c.args.ahead.board in
    let G : SchedValue → Type 0 = λ v. halted_by v.history ≡ None in
    let J : SchedValue → Type 0 = λ v. JumpsTo v.session (sched_state v) clocks (state_of v.session.arrivals (sched_state v).datasets board) in
    let T : SchedValue → Type 0 = λ v. board.taken ≤ length v.session.arrivals in
    let N : SchedValue → Type 0 = λ v. board.runs.pipelines ≡ length v.session.pipelines in
    let going = subst G (sym c.self.view_is) c.requires.going in
    let there = subst J (sym c.self.view_is) c.requires.jumps in
    let D : SchedValue → Type 0 = λ v. pick v.session (state_of v.session.arrivals (sched_state v).datasets board) ≡ Some c.args.job in
    let due = subst D (sym c.self.view_is) c.requires.due in
    (there-found source stands calls a board clocks c.args.job c.self.invariant going there due).0

pub hand_out-kit-requires : goal.hand_out-kit-requires
hand_out-kit-requires g c =
    let source = g.P.Payload.source_of in
    let stands = g.P.Payload.stands_for in
    let calls = g.P.Payload.has_call in
    let a = c.self.inside in
    let clocks = c.args.ahead.clocks.items in
    let board = c.args.ahead.board in
    let G : SchedValue → Type 0 = λ v. halted_by v.history ≡ None in
    let J : SchedValue → Type 0 = λ v. JumpsTo v.session (sched_state v) clocks (state_of v.session.arrivals (sched_state v).datasets board) in
    let T : SchedValue → Type 0 = λ v. board.taken ≤ length v.session.arrivals in
    let N : SchedValue → Type 0 = λ v. board.runs.pipelines ≡ length v.session.pipelines in
    let going = subst G (sym c.self.view_is) c.requires.going in
    let there = subst J (sym c.self.view_is) c.requires.jumps in
    let D : SchedValue → Type 0 = λ v. pick v.session (state_of v.session.arrivals (sched_state v).datasets board) ≡ Some c.args.job in
    let due = subst D (sym c.self.view_is) c.requires.due in
    let place = (there-found source stands calls a board clocks c.args.job c.self.invariant going there due).1 in
    omega (arith, place, c.self.invariant.kits.count)

pub invariant_of-self : goal.invariant_of-self
invariant_of-self g c =
    entries-kept g.P.Payload.source_of g.P.Payload.stands_for g.P.Payload.has_call c.self.inside c.reserve.new.self c.self.invariant c.in_err-reserve.ensures.items
    (λ e. let was = c.self.invariant.room e in omega (arith, was, c.reserve.ensures.len, c.reserve.ensures.capacity))

pub invariant_of-self-in_err-begin : goal.invariant_of-self-in_err-begin
invariant_of-self-in_err-begin g c =
    entries-kept g.P.Payload.source_of g.P.Payload.stands_for g.P.Payload.has_call c.self.inside c.reserve.new.self c.self.invariant c.in_ok-reserve.ensures.items
    (λ e. let was = c.self.invariant.room e in omega (arith, was, c.reserve.ensures.len, c.reserve.ensures.capacity))

pub invariant_of-self-2 : goal.invariant_of-self-2
invariant_of-self-2 g c =
    let source = g.P.Payload.source_of in
    let stands = g.P.Payload.stands_for in
    let calls = g.P.Payload.has_call in
    let a = c.self.inside in
    let clocks = c.args.ahead.clocks.items in
    let board = c.args.ahead.board in
    let G : SchedValue → Type 0 = λ v. halted_by v.history ≡ None in
    let J : SchedValue → Type 0 = λ v. JumpsTo v.session (sched_state v) clocks (state_of v.session.arrivals (sched_state v).datasets board) in
    let T : SchedValue → Type 0 = λ v. board.taken ≤ length v.session.arrivals in
    let N : SchedValue → Type 0 = λ v. board.runs.pipelines ≡ length v.session.pipelines in
    let going = subst G (sym c.self.view_is) c.requires.going in
    let there = subst J (sym c.self.view_is) c.requires.jumps in
    let D : SchedValue → Type 0 = λ v. pick v.session (state_of v.session.arrivals (sched_state v).datasets board) ≡ Some c.args.job in
    let due = subst D (sym c.self.view_is) c.requires.due in
    let within = subst T (sym c.self.view_is) c.requires.taken in
    let pipelines = subst N (sym c.self.view_is) c.requires.pipelines in
    let begun = c.in_ok-begin.ensures in
    let is : (ds : List Dataset) → state_of a.session.arrivals ds c.begin.new.self ≡ taken c.args.who c.args.job (state_of a.session.arrivals ds board) =
    λ ds. ap (λ (t : ℕ). state_with (drop t a.session.arrivals) ds c.begin.new.self) begun.taken ∙ begun.state (drop board.taken a.session.arrivals) ds in
    let items = c.push_reserved.ensures.items
    ∙ ap (λ (xs : List SchedEntry). xs ++ entry_of c.args.who (act.Took c.args.job) ∷ [])
    (c.write_jumps.ensures.items ∙ ap (λ (xs : List SchedEntry). xs ++ jumps c.args.who c.deref.result.now) c.in_ok-reserve.ensures.items ∙ ap (λ (cs : List ℕ). a.entries.items ++ jumps c.args.who cs) c.deref.ensures.value) in
    let took = take-keeps source stands calls a board c.begin.new.self c.push_reserved.new.self c.hand_out-kit.new.kits c.args.who clocks c.args.job c.hand_out-kit.result c.self.invariant going there due
    (omega (arith, begun.taken, within)) (begun.pipelines ∙ pipelines) is c.hand_out-kit.ensures items
    (omega (arith, c.write_jumps.ensures.count, c.write_jumps.ensures.room, c.in_ok-reserve.ensures.ok, c.in_ok-reserve.ensures.len, c.len.ensures, c.deref.ensures.len, c.push_reserved.ensures.len, c.push_reserved.ensures.capacity)) in
    took.inside

pub returns-clause-kit : goal.returns-clause-kit
returns-clause-kit g c =
    let source = g.P.Payload.source_of in
    let stands = g.P.Payload.stands_for in
    let calls = g.P.Payload.has_call in
    let a = c.self.inside in
    let clocks = c.args.ahead.clocks.items in
    let board = c.args.ahead.board in
    let G : SchedValue → Type 0 = λ v. halted_by v.history ≡ None in
    let J : SchedValue → Type 0 = λ v. JumpsTo v.session (sched_state v) clocks (state_of v.session.arrivals (sched_state v).datasets board) in
    let T : SchedValue → Type 0 = λ v. board.taken ≤ length v.session.arrivals in
    let N : SchedValue → Type 0 = λ v. board.runs.pipelines ≡ length v.session.pipelines in
    let going = subst G (sym c.self.view_is) c.requires.going in
    let there = subst J (sym c.self.view_is) c.requires.jumps in
    let D : SchedValue → Type 0 = λ v. pick v.session (state_of v.session.arrivals (sched_state v).datasets board) ≡ Some c.args.job in
    let due = subst D (sym c.self.view_is) c.requires.due in
    let within = subst T (sym c.self.view_is) c.requires.taken in
    let pipelines = subst N (sym c.self.view_is) c.requires.pipelines in
    let begun = c.in_ok-begin.ensures in
    let is : (ds : List Dataset) → state_of a.session.arrivals ds c.begin.new.self ≡ taken c.args.who c.args.job (state_of a.session.arrivals ds board) =
    λ ds. ap (λ (t : ℕ). state_with (drop t a.session.arrivals) ds c.begin.new.self) begun.taken ∙ begun.state (drop board.taken a.session.arrivals) ds in
    let items = c.push_reserved.ensures.items
    ∙ ap (λ (xs : List SchedEntry). xs ++ entry_of c.args.who (act.Took c.args.job) ∷ [])
    (c.write_jumps.ensures.items ∙ ap (λ (xs : List SchedEntry). xs ++ jumps c.args.who c.deref.result.now) c.in_ok-reserve.ensures.items ∙ ap (λ (cs : List ℕ). a.entries.items ++ jumps c.args.who cs) c.deref.ensures.value) in
    let took = take-keeps source stands calls a board c.begin.new.self c.push_reserved.new.self c.hand_out-kit.new.kits c.args.who clocks c.args.job c.hand_out-kit.result c.self.invariant going there due
    (omega (arith, begun.taken, within)) (begun.pipelines ∙ pipelines) is c.hand_out-kit.ensures items
    (omega (arith, c.write_jumps.ensures.count, c.write_jumps.ensures.room, c.in_ok-reserve.ensures.ok, c.in_ok-reserve.ensures.len, c.len.ensures, c.deref.ensures.len, c.push_reserved.ensures.len, c.push_reserved.ensures.capacity)) in
    let H : SchedValue → Type 0 = λ v. HandsOut source stands calls v.session (state_of v.session.arrivals (sched_state v).datasets board) c.args.job c.hand_out-kit.result in
    subst H c.self.view_is took.hands
