use Rattle.std.proofs.Common.{rules, subst, ◌∙◌}
use Rattle.std.proofs.lemmas.Result.{IfOk-weaker, on_err_weaker}
use Rattle.std.specs.Prelude.{IsTrue}
use Rattle.std.specs.Int.{w64}
use Rattle.std.specs.Int.RustNames.{FitsSigned}
use Rattle.std.proofs.lemmas.Int.{to_z-of_z}
use Rattle.core_cpu.specs.declared.stop.Stop.{Stop}
use Rattle.core_cpu.specs.Standing.{phase_fits}
use Rattle.core_session.specs.Lending.{Leaves}
use Rattle.core_session.proofs.Lent.{Advances, ended-leads, has-asking, idle-under-way, left-open, left-unended, now-asking, on-err, open-under-way}
use Rattle.core_session.proofs.lending.go_on.Goals as goal

pub advance-requires : goal.advance-requires
advance-requires g c = idle-under-way (g.L.Lender.is_open c.args.lender.now) (c.args.place.now, c.args.kept.now) c.args.cpu.now c.requires

pub answer-requires : goal.answer-requires
answer-requires g c =
    has-asking (g.L.Lender.is_open c.args.lender.now) (c.args.place.now, c.args.kept.now) c.in-Ask.request c.args.cpu.now c.advance.new.self c.advance.ensures.code
    (subst (λ (h : Stop). Advances c.args.cpu.now c.advance.new.self h) c.in-Ask.is c.in_ok-stop.ensures.stops)
    (subst (λ (h : Stop). IsTrue (phase_fits h c.advance.new.self.phase)) c.in-Ask.is c.in_ok-stop.ensures.phase)
    c.requires

pub returns-in-Ask-clause-leads : goal.returns-in-Ask-clause-leads
returns-in-Ask-clause-leads g c =
    IfOk-weaker c.answer.result _ _
    (λ end leads s asked way.
    leads s asked
    (now-asking (g.L.Lender.is_open c.args.lender.now) (c.args.place.now, c.args.kept.now) s asked c.in-Ask.request c.args.cpu.now c.advance.new.self c.advance.ensures.code
    (subst (λ (h : Stop). Advances c.args.cpu.now c.advance.new.self h) c.in-Ask.is c.in_ok-stop.ensures.stops)
    (subst (λ (h : Stop). IsTrue (phase_fits h c.advance.new.self.phase)) c.in-Ask.is c.in_ok-stop.ensures.phase)
    way))
    c.answer.ensures.leads

pub returns-in-Ask-clause-err : goal.returns-in-Ask-clause-err
returns-in-Ask-clause-err g c =
    on_err_weaker c.answer.result
    (λ left s asked way.
    left s asked
    (now-asking (g.L.Lender.is_open c.args.lender.now) (c.args.place.now, c.args.kept.now) s asked c.in-Ask.request c.args.cpu.now c.advance.new.self c.advance.ensures.code
    (subst (λ (h : Stop). Advances c.args.cpu.now c.advance.new.self h) c.in-Ask.is c.in_ok-stop.ensures.stops)
    (subst (λ (h : Stop). IsTrue (phase_fits h c.advance.new.self.phase)) c.in-Ask.is c.in_ok-stop.ensures.phase)
    way))
    c.answer.ensures.err

pub end-requires : goal.end-requires
end-requires g c = open-under-way (g.L.Lender.is_open c.args.lender.now) (c.args.place.now, c.args.kept.now) c.args.cpu.now c.requires

pub returns-in_ok-end-in-Ended-clause-leads : goal.returns-in_ok-end-in-Ended-clause-leads
returns-in_ok-end-in-Ended-clause-leads g c = λ s asked way.
    let fits : FitsSigned w64 c.cursor-cursor.result = search rules in
    ended-leads (g.L.Lender.is_open c.args.lender.now) (g.L.Lender.has_ended c.args.lender.now) (g.L.Lender.is_given_up c.args.lender.now) (c.args.place.now, c.args.kept.now) (c.end.new.place, c.end.new.kept) s asked c.in-Ended.outcome _ c.args.cpu.now c.advance.new.self c.in_ok-end-in-Ended.ensures.ended c.advance.ensures.code
    (subst (λ (h : Stop). Advances c.args.cpu.now c.advance.new.self h) c.in-Ended.is c.in_ok-stop.ensures.stops)
    (to_z-of_z w64 c.cursor-cursor.result fits ∙ c.cursor-cursor.ensures)
    way

pub returns-in_err-stop-clause-err : goal.returns-in_err-stop-clause-err
returns-in_err-stop-clause-err g c =
    let left : Leaves (g.L.Lender.is_open c.args.lender.now) (g.L.Lender.is_unended c.args.lender.now) (g.L.Lender.is_held_up c.args.lender.now) (c.args.place.now, c.args.kept.now) c.args.cpu.now (c.args.place.now, c.args.kept.now) =
    λ s asked way. left-open (g.L.Lender.is_open c.args.lender.now) (g.L.Lender.is_unended c.args.lender.now) (g.L.Lender.is_held_up c.args.lender.now) (c.args.place.now, c.args.kept.now) (c.args.place.now, c.args.kept.now) s asked c.args.cpu.now way way.opened
    in
    on-err _ _ left

pub returns-in_err-end-in-Ended-clause-err : goal.returns-in_err-end-in-Ended-clause-err
returns-in_err-end-in-Ended-clause-err g c =
    let left : Leaves (g.L.Lender.is_open c.args.lender.now) (g.L.Lender.is_unended c.args.lender.now) (g.L.Lender.is_held_up c.args.lender.now) (c.args.place.now, c.args.kept.now) c.args.cpu.now (c.end.new.place, c.end.new.kept) =
    λ s asked way. left-unended (g.L.Lender.is_open c.args.lender.now) (g.L.Lender.is_unended c.args.lender.now) (g.L.Lender.is_held_up c.args.lender.now) (c.args.place.now, c.args.kept.now) (c.end.new.place, c.end.new.kept) s asked c.args.cpu.now way (c.in_err-end-in-Ended.ensures.err s.opening asked way.opened)
    in
    on-err _ _ left
