use Rattle.std.proofs.Common.{subst}
use Rattle.std.specs.Prelude.{Option}
use Rattle.rtio_types.specs.declared.outcome.Outcome.{Outcome}
use Rattle.core_session.specs.Lending.{Leads}
use Rattle.core_session.proofs.Lent.{on-err, so-far-first, so-far-last, so-far-left, so-far-nearer, so-far-next, so-far-open}
use Rattle.core_session.proofs.lending.play.Goals as goal

pub loop-outcome-init : goal.loop-outcome-init
loop-outcome-init g c = so-far-first (g.L.Lender.is_open c.args.lender.now) (g.L.Lender.entries c.args.lender.now) (c.args.place.now, c.args.kept.now) c.args.cpu.now c.requires

pub go_on-requires : goal.go_on-requires
go_on-requires g c = so-far-open (g.L.Lender.is_open c.args.lender.now) (g.L.Lender.entries c.args.lender.now) (c.args.place.now, c.args.kept.now) c.args.cpu.now (c.loop-outcome.place, c.loop-outcome.kept) c.loop-outcome.cpu c.loop-outcome.invariant

pub returns-in_err-outcome-clause-left : goal.returns-in_err-outcome-clause-left
returns-in_err-outcome-clause-left g c = on-err c.from_residual.result _ (so-far-left (g.L.Lender.is_open c.args.lender.now) (g.L.Lender.entries c.args.lender.now) (c.args.place.now, c.args.kept.now) c.args.cpu.now (c.loop-outcome.place, c.loop-outcome.kept) c.loop-outcome.cpu c.loop-outcome.invariant (g.L.Lender.is_unended c.args.lender.now) (g.L.Lender.is_held_up c.args.lender.now) (c.go_on.new.place, c.go_on.new.kept) c.in_err-outcome.ensures.err)

pub returns-in-Some-clause-plays : goal.returns-in-Some-clause-plays
returns-in-Some-clause-plays g c =
    so-far-last (g.L.Lender.is_open c.args.lender.now) (g.L.Lender.entries c.args.lender.now) (c.args.place.now, c.args.kept.now) c.args.cpu.now (c.loop-outcome.place, c.loop-outcome.kept) c.loop-outcome.cpu c.loop-outcome.invariant (g.L.Lender.has_ended c.args.lender.now) (g.L.Lender.is_given_up c.args.lender.now) (c.go_on.new.place, c.go_on.new.kept) c.go_on.new.cpu c.in-Some.outcome
    (subst (λ (e : Option Outcome). Leads (g.L.Lender.is_open c.args.lender.now) (g.L.Lender.has_ended c.args.lender.now) (g.L.Lender.is_given_up c.args.lender.now) (c.loop-outcome.place, c.loop-outcome.kept) c.loop-outcome.cpu (c.go_on.new.place, c.go_on.new.kept) c.go_on.new.cpu e) c.in-Some.is c.in_ok-outcome.ensures.leads)

pub loop-outcome-smaller : goal.loop-outcome-smaller
loop-outcome-smaller g c =
    so-far-nearer (g.L.Lender.is_open c.args.lender.now) (g.L.Lender.entries c.args.lender.now) (c.args.place.now, c.args.kept.now) c.args.cpu.now (c.loop-outcome.place, c.loop-outcome.kept) c.loop-outcome.cpu c.loop-outcome.invariant (g.L.Lender.has_ended c.args.lender.now) (g.L.Lender.is_given_up c.args.lender.now) (c.go_on.new.place, c.go_on.new.kept) c.go_on.new.cpu
    (subst (λ (e : Option Outcome). Leads (g.L.Lender.is_open c.args.lender.now) (g.L.Lender.has_ended c.args.lender.now) (g.L.Lender.is_given_up c.args.lender.now) (c.loop-outcome.place, c.loop-outcome.kept) c.loop-outcome.cpu (c.go_on.new.place, c.go_on.new.kept) c.go_on.new.cpu e) c.in_default.is c.in_ok-outcome.ensures.leads)
    (c.in_ok-outcome.ensures.more c.in_default.is)

pub loop-outcome-preserved : goal.loop-outcome-preserved
loop-outcome-preserved g c =
    so-far-next (g.L.Lender.is_open c.args.lender.now) (g.L.Lender.entries c.args.lender.now) (c.args.place.now, c.args.kept.now) c.args.cpu.now (c.loop-outcome.place, c.loop-outcome.kept) c.loop-outcome.cpu c.loop-outcome.invariant (g.L.Lender.has_ended c.args.lender.now) (g.L.Lender.is_given_up c.args.lender.now) (c.go_on.new.place, c.go_on.new.kept) c.go_on.new.cpu
    (subst (λ (e : Option Outcome). Leads (g.L.Lender.is_open c.args.lender.now) (g.L.Lender.has_ended c.args.lender.now) (g.L.Lender.is_given_up c.args.lender.now) (c.loop-outcome.place, c.loop-outcome.kept) c.loop-outcome.cpu (c.go_on.new.place, c.go_on.new.kept) c.go_on.new.cpu e) c.in_default.is c.in_ok-outcome.ensures.leads)
    (c.in_ok-outcome.ensures.more c.in_default.is)
