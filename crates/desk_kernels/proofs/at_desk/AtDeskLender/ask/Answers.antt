use Rattle.std.proofs.Common.{List}
use Rattle.std.proofs.lemmas.Result.{IfOk-weaker, on_err_weaker}
use Rattle.std.specs.Int.{w64}
use Rattle.std.proofs.lemmas.Int.{to_z-of_z}
use Rattle.core_session.specs.Lending.{Opening}
use Rattle.core_session.specs.Sessions.{Answered}
use Rattle.desk_kernels.specs.Sessions.{IsOpenAt, IsSeenOpen, Seat}
use Rattle.desk_kernels.proofs.Held.{on-err}
use Rattle.desk_kernels.proofs.Lending.{asked-at, fits-any, more-any, open-at, ready-at, seen-still}
use Rattle.desk_kernels.proofs.at_desk.AtDeskLender.ask.Goals as goal

pub ask_until_decided-requires-clause-ready : goal.ask_until_decided-requires-clause-ready
ask_until_decided-requires-clause-ready g c = ready-at c.args.self.now.desk.now (c.args.chair.now, c.args.sets.now) c.requires.open

pub ask_until_decided-requires-clause-open : goal.ask_until_decided-requires-clause-open
ask_until_decided-requires-clause-open g c = open-at c.args.self.now.desk.now (c.args.chair.now, c.args.sets.now) c.requires.open

pub returns-clause-asked : goal.returns-clause-asked
returns-clause-asked g c =
    IfOk-weaker c.ask_until_decided.result _ _
    (λ reply does.
    asked-at c.args.self.now.desk.now (c.args.chair.now, c.args.sets.now) (c.ask_until_decided.new.chair, c.keep_set.new.sets) c.ask_until_decided.ensures.goes c.args.request c.args.cursor _ reply
    (to_z-of_z w64 c.args.cursor c.ranges.cursor) does c.in_ok-keep_set.ensures)
    c.ask_until_decided.ensures.decided

pub returns-clause-fits : goal.returns-clause-fits
returns-clause-fits g c =
    IfOk-weaker c.ask_until_decided.result _ _
    (λ reply does. fits-any c.args.self.now.desk.now (c.args.chair.now, c.args.sets.now) (c.ask_until_decided.new.chair, c.keep_set.new.sets) c.ask_until_decided.ensures.goes c.args.request _ reply does)
    c.ask_until_decided.ensures.decided

pub returns-clause-more : goal.returns-clause-more
returns-clause-more g c =
    IfOk-weaker c.ask_until_decided.result _ _
    (λ reply does. more-any c.args.self.now.desk.now (c.args.chair.now, c.args.sets.now) (c.ask_until_decided.new.chair, c.keep_set.new.sets) c.ask_until_decided.ensures.goes c.args.request _ reply does)
    c.ask_until_decided.ensures.decided

pub returns-in_err-keep_set-clause-err : goal.returns-in_err-keep_set-clause-err
returns-in_err-keep_set-clause-err g c =
    let held : (o : Opening Seat) (asked : List Answered) → IsOpenAt c.args.self.now.desk.now o asked (c.args.chair.now, c.args.sets.now) → IsSeenOpen c.args.self.now.desk.now o asked c.args.chair.now =
    λ o asked is. is.0
    in
    on-err _ _ held

pub returns-clause-err : goal.returns-clause-err
returns-clause-err g c =
    on_err_weaker c.ask_until_decided.result
    (λ same o asked is. seen-still c.args.self.now.desk.now (c.args.chair.now, c.args.sets.now) (c.ask_until_decided.new.chair, c.keep_set.new.sets) c.ask_until_decided.ensures.goes same o asked is.0)
    c.ask_until_decided.ensures.err
