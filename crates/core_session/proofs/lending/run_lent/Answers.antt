use Rattle.std.proofs.Common.{rules, inl, inr, refl, sym, ap, subst, []}
use Rattle.std.specs.Int.{w64}
use Rattle.std.specs.Int.RustNames.{FitsSigned}
use Rattle.std.proofs.lemmas.Int.{to_z-of_z}
use Rattle.core_cpu.specs.Moments.{Moment}
use Rattle.core_session.specs.Lending.{Opening, Session, began}
use Rattle.core_session.proofs.Lent.{begins, is-booted, left-unbooted, on-err, ran-lent}
use Rattle.core_session.proofs.lending.run_lent.Goals as goal

pub play-requires : goal.play-requires
play-requires g c =
    let fits : FitsSigned w64 c.in_ok-cursor.cursor = search rules in
    let same = to_z-of_z w64 c.in_ok-cursor.cursor fits in
    let o : Opening (g.row.L-Place.Denot × g.row.L-Kept.Denot) = began (c.args.place.now, c.args.kept.now) c.args.of c.in_ok-cursor.cursor in
    let booted = is-booted c.args.code.now c.args.units o c.in_ok-cpu.cpu _ _ _ _ c.in_ok-cpu.ensures.code c.in_ok-cpu.ensures.begins c.in_ok-cpu.ensures.phase
    (ap (λ (m : Moment). m.machine.units) (c.in_ok-cpu.ensures.first c.requires.entry.entry (search rules)))
    (search rules) (search rules) same (search rules) (subst (FitsSigned w64) (sym same) fits)
    in
    (record { code = c.args.code.now; units = c.args.units; opening = o }, begins (g.L.Lender.is_open c.args.lender.now) (record { code = c.args.code.now; units = c.args.units; opening = o }) (c.start.new.place, c.start.new.kept) c.in_ok-cursor.ensures.started c.in_ok-cpu.cpu booted)

pub returns-clause-ran : goal.returns-clause-ran
returns-clause-ran g c =
    let fits : FitsSigned w64 c.in_ok-cursor.cursor = search rules in
    let same = to_z-of_z w64 c.in_ok-cursor.cursor fits in
    let o : Opening (g.row.L-Place.Denot × g.row.L-Kept.Denot) = began (c.args.place.now, c.args.kept.now) c.args.of c.in_ok-cursor.cursor in
    let booted = is-booted c.args.code.now c.args.units o c.in_ok-cpu.cpu _ _ _ _ c.in_ok-cpu.ensures.code c.in_ok-cpu.ensures.begins c.in_ok-cpu.ensures.phase
    (ap (λ (m : Moment). m.machine.units) (c.in_ok-cpu.ensures.first c.requires.entry.entry (search rules)))
    (search rules) (search rules) same (search rules) (subst (FitsSigned w64) (sym same) fits)
    in
    ran-lent (g.L.Lender.is_open c.args.lender.now) (g.L.Lender.has_ended c.args.lender.now) (g.L.Lender.is_given_up c.args.lender.now) c.args.code.now c.args.units c.args.of (c.args.place.now, c.args.kept.now) (c.start.new.place, c.start.new.kept) (c.play.new.place, c.play.new.kept) c.in_ok-cursor.cursor
    c.in_ok-cursor.ensures.started c.in_ok-cpu.cpu c.play.new.cpu booted c.in_ok-outcome.outcome c.in_ok-outcome.ensures.plays c.steps-steps.result c.steps-steps.ensures

pub returns-in_err-args-clause-left : goal.returns-in_err-args-clause-left
returns-in_err-args-clause-left g c = on-err _ _ (inl refl)

pub returns-in_err-cursor-clause-left : goal.returns-in_err-cursor-clause-left
returns-in_err-cursor-clause-left g c = on-err _ _ (inr (inl c.in_err-cursor.ensures.err))

pub returns-in_err-cpu-clause-left : goal.returns-in_err-cpu-clause-left
returns-in_err-cpu-clause-left g c =
    let fits : FitsSigned w64 c.in_ok-cursor.cursor = search rules in
    let o : Opening (g.row.L-Place.Denot × g.row.L-Kept.Denot) = began (c.args.place.now, c.args.kept.now) c.args.of c.in_ok-cursor.cursor in
    on-err _ _ (inr (inr (c.in_ok-cursor.cursor, [], left-unbooted (g.L.Lender.is_open c.args.lender.now) (record { code = c.args.code.now; units = c.args.units; opening = o }) (c.start.new.place, c.start.new.kept) c.in_ok-cursor.ensures.started (g.L.Lender.is_unended c.args.lender.now) (g.L.Lender.is_held_up c.args.lender.now) fits)))

pub returns-in_err-outcome-clause-left : goal.returns-in_err-outcome-clause-left
returns-in_err-outcome-clause-left g c =
    let fits : FitsSigned w64 c.in_ok-cursor.cursor = search rules in
    let same = to_z-of_z w64 c.in_ok-cursor.cursor fits in
    let o : Opening (g.row.L-Place.Denot × g.row.L-Kept.Denot) = began (c.args.place.now, c.args.kept.now) c.args.of c.in_ok-cursor.cursor in
    let booted = is-booted c.args.code.now c.args.units o c.in_ok-cpu.cpu _ _ _ _ c.in_ok-cpu.ensures.code c.in_ok-cpu.ensures.begins c.in_ok-cpu.ensures.phase
    (ap (λ (m : Moment). m.machine.units) (c.in_ok-cpu.ensures.first c.requires.entry.entry (search rules)))
    (search rules) (search rules) same (search rules) (subst (FitsSigned w64) (sym same) fits)
    in
    let s : Session (g.row.L-Place.Denot × g.row.L-Kept.Denot) = record { code = c.args.code.now; units = c.args.units; opening = o } in
    let left = c.in_err-outcome.ensures.left s (begins (g.L.Lender.is_open c.args.lender.now) s (c.start.new.place, c.start.new.kept) c.in_ok-cursor.ensures.started c.in_ok-cpu.cpu booted) in
    on-err _ _ (inr (inr (c.in_ok-cursor.cursor, left.0, left.1)))
