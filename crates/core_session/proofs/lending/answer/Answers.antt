use Rattle.std.proofs.Common.{rules, of_z, subst, to_z, ◌∙◌}
use Rattle.std.specs.Prelude.{IfSome, IsTrue, Option}
use Rattle.std.specs.Int.{w64}
use Rattle.std.specs.Int.RustNames.{FitsSigned}
use Rattle.std.proofs.lemmas.Int.{to_z-of_z}
use Rattle.rtio_types.specs.declared.request.Reply.{Reply}
use Rattle.rtio_types.specs.Requests.{fits_request}
use Rattle.core_session.specs.Lending.{IsAskedSo, LeavesAsking}
use Rattle.core_session.proofs.Lent.{answered-leads, formed-asking, given-up-leads, left-asking, on-err, open-asking, phase-asking}
use Rattle.core_session.proofs.lending.answer.Goals as goal

pub ask-requires-clause-open : goal.ask-requires-clause-open
ask-requires-clause-open g c = open-asking (g.L.Lender.is_open c.args.lender.now) (c.args.place.now, c.args.kept.now) c.args.request c.args.cpu.now c.requires

pub ask-requires-clause-formed : goal.ask-requires-clause-formed
ask-requires-clause-formed g c = formed-asking (g.L.Lender.is_open c.args.lender.now) (c.args.place.now, c.args.kept.now) c.args.request c.args.cpu.now c.requires

pub reply-requires : goal.reply-requires
reply-requires g c = phase-asking (g.L.Lender.is_open c.args.lender.now) (c.args.place.now, c.args.kept.now) c.args.request c.args.cpu.now c.requires

pub returns-in-Some-clause-leads : goal.returns-in-Some-clause-leads
returns-in-Some-clause-leads g c = λ s asked asking.
    answered-leads (g.L.Lender.is_open c.args.lender.now) (g.L.Lender.has_ended c.args.lender.now) (g.L.Lender.is_given_up c.args.lender.now) (c.args.place.now, c.args.kept.now) (c.ask.new.place, c.ask.new.kept) s asked c.args.request c.in-Some.reply (to_z w64 (of_z w64 c.cursor-cursor.result)) c.args.cpu.now c.reply.new.self
    (subst (λ (d : Option Reply). IsAskedSo (g.L.Lender.is_open c.args.lender.now) (g.L.Lender.is_given_up c.args.lender.now) (c.args.place.now, c.args.kept.now) c.args.request (to_z w64 (of_z w64 c.cursor-cursor.result)) d (c.ask.new.place, c.ask.new.kept)) c.in-Some.is c.in_ok-decided.ensures.asked)
    (subst (λ (d : Option Reply). IfSome d (λ r. IsTrue (fits_request c.args.request r))) c.in-Some.is c.in_ok-decided.ensures.fits)
    c.has_number.ensures c.reply.ensures.takes c.reply.ensures.code c.reply.ensures.phase asking

pub returns-in-None-clause-leads : goal.returns-in-None-clause-leads
returns-in-None-clause-leads g c = λ s asked asking.
    let fits : FitsSigned w64 c.cursor-cursor.result = search rules in
    given-up-leads (g.L.Lender.is_open c.args.lender.now) (g.L.Lender.has_ended c.args.lender.now) (g.L.Lender.is_given_up c.args.lender.now) (c.args.place.now, c.args.kept.now) (c.ask.new.place, c.ask.new.kept) s asked c.args.request (to_z w64 (of_z w64 c.cursor-cursor.result)) c.args.cpu.now
    (subst (λ (d : Option Reply). IsAskedSo (g.L.Lender.is_open c.args.lender.now) (g.L.Lender.is_given_up c.args.lender.now) (c.args.place.now, c.args.kept.now) c.args.request (to_z w64 (of_z w64 c.cursor-cursor.result)) d (c.ask.new.place, c.ask.new.kept)) c.in-None.is c.in_ok-decided.ensures.asked)
    (to_z-of_z w64 c.cursor-cursor.result fits ∙ c.cursor-cursor.ensures)
    asking

pub returns-in_err-decided-clause-err : goal.returns-in_err-decided-clause-err
returns-in_err-decided-clause-err g c =
    let left : LeavesAsking (g.L.Lender.is_open c.args.lender.now) (g.L.Lender.is_unended c.args.lender.now) (g.L.Lender.is_held_up c.args.lender.now) c.args.request (c.args.place.now, c.args.kept.now) c.args.cpu.now (c.ask.new.place, c.ask.new.kept) =
    λ s asked asking. left-asking (g.L.Lender.is_open c.args.lender.now) (g.L.Lender.is_unended c.args.lender.now) (g.L.Lender.is_held_up c.args.lender.now) (c.args.place.now, c.args.kept.now) (c.ask.new.place, c.ask.new.kept) s asked c.args.request c.args.cpu.now asking (c.in_err-decided.ensures.err s.opening asked asking.opened)
    in
    on-err _ _ left
