use Rattle.std.proofs.Common.{List, subst}
use Rattle.std.specs.Prelude.{Option}
use Rattle.std.specs.Int.{w64}
use Rattle.std.proofs.lemmas.Int.{to_z-of_z}
use Rattle.rtio_types.specs.declared.request.Reply.{Reply}
use Rattle.core_session.specs.Lending.{Opening}
use Rattle.core_session.specs.Sessions.{Answered}
use Rattle.lab_kernels.specs.Decided.{IsDecided, IsNeverAnswered}
use Rattle.lab_kernels.specs.Owning.{IsOwnHeld, IsOwnOpen, Own}
use Rattle.lab_kernels.proofs.Later.{on-err}
use Rattle.lab_kernels.proofs.Owning.{fits-own, free-own, given-up-own, more-own, open-never, open-own, replied-own}
use Rattle.lab_kernels.proofs.Standing.{due-on, still-on, vain-on}
use Rattle.lab_kernels.proofs.owner.OwnerLender.ask.Goals as goal

pub ask_until_decided-requires-clause-open : goal.ask_until_decided-requires-clause-open
ask_until_decided-requires-clause-open c = open-own c.args.self.now.who (c.args.core.now, c.args.sets.now) c.requires.open

pub ask_until_decided-requires-clause-free : goal.ask_until_decided-requires-clause-free
ask_until_decided-requires-clause-free c = free-own c.args.self.now.who (c.args.core.now, c.args.sets.now) c.args.request c.requires.open

pub returns-in-Some-clause-asked : goal.returns-in-Some-clause-asked
returns-in-Some-clause-asked c =
    replied-own c.args.self.now.who (c.args.core.now, c.args.sets.now) (c.ask_until_decided.new.core, c.keep_set.new.sets) c.args.request c.args.cursor c.in-Some.reply
    (subst (λ (d : Option Reply). IsDecided c.args.core.now c.args.self.now.who c.args.request d c.ask_until_decided.new.core) c.in-Some.is c.in_ok-reply.ensures.decided)
    c.in_ok-keep_set.ensures

pub returns-in-Some-clause-fits : goal.returns-in-Some-clause-fits
returns-in-Some-clause-fits c =
    fits-own c.args.self.now.who c.args.core.now c.ask_until_decided.new.core c.args.request c.in-Some.reply
    (subst (λ (d : Option Reply). IsDecided c.args.core.now c.args.self.now.who c.args.request d c.ask_until_decided.new.core) c.in-Some.is c.in_ok-reply.ensures.decided)
    c.history-after.ensures.core.fitting

pub returns-in-Some-clause-more : goal.returns-in-Some-clause-more
returns-in-Some-clause-more c = λ some.
    more-own c.args.self.now.who c.args.core.now c.ask_until_decided.new.core c.args.request c.in-Some.reply
    (subst (λ (d : Option Reply). IsDecided c.args.core.now c.args.self.now.who c.args.request d c.ask_until_decided.new.core) c.in-Some.is c.in_ok-reply.ensures.decided)

pub end-requires-clause-open : goal.end-requires-clause-open
end-requires-clause-open c =
    open-never c.args.self.now.who (c.args.core.now, c.args.sets.now) c.args.request c.ask_until_decided.new.core
    (subst (λ (d : Option Reply). IsDecided c.args.core.now c.args.self.now.who c.args.request d c.ask_until_decided.new.core) c.in-None.is c.in_ok-reply.ensures.decided)
    c.requires.open

pub returns-in_ok-end-in-None-clause-asked : goal.returns-in_ok-end-in-None-clause-asked
returns-in_ok-end-in-None-clause-asked c =
    given-up-own c.args.self.now.who (c.args.core.now, c.args.sets.now) (c.end.new.self, c.keep_set.new.sets) c.args.request c.args.cursor _ c.ask_until_decided.new.core
    (subst (λ (d : Option Reply). IsDecided c.args.core.now c.args.self.now.who c.args.request d c.ask_until_decided.new.core) c.in-None.is c.in_ok-reply.ensures.decided)
    (to_z-of_z w64 c.args.cursor c.ranges.cursor) c.in_ok-end-in-None.ensures.ok c.in_ok-keep_set.ensures

pub returns-in_err-keep_set-clause-err : goal.returns-in_err-keep_set-clause-err
returns-in_err-keep_set-clause-err c =
    let held : (o : Opening Own) (asked : List Answered) → IsOwnOpen c.args.self.now.who o asked (c.args.core.now, c.args.sets.now) → IsOwnHeld c.args.self.now.who o asked c.args.request (c.args.core.now, c.keep_set.new.sets) =
    λ o asked is. still-on c.args.self.now.who o.first.0 o.of o.cursor asked c.args.core.now is.0 c.args.request
    in
    on-err _ _ held

pub returns-in_err-reply-clause-err : goal.returns-in_err-reply-clause-err
returns-in_err-reply-clause-err c =
    let held : (o : Opening Own) (asked : List Answered) → IsOwnOpen c.args.self.now.who o asked (c.args.core.now, c.args.sets.now) → IsOwnHeld c.args.self.now.who o asked c.args.request (c.ask_until_decided.new.core, c.keep_set.new.sets) =
    λ o asked is. due-on c.args.self.now.who o.first.0 o.of o.cursor asked c.args.core.now is.0 c.args.request c.ask_until_decided.new.core c.in_err-reply.ensures.err
    in
    on-err _ _ held

pub returns-in_err-end-in-None-clause-err : goal.returns-in_err-end-in-None-clause-err
returns-in_err-end-in-None-clause-err c =
    let never : IsNeverAnswered c.args.core.now c.args.request c.ask_until_decided.new.core =
    subst (λ (d : Option Reply). IsDecided c.args.core.now c.args.self.now.who c.args.request d c.ask_until_decided.new.core) c.in-None.is c.in_ok-reply.ensures.decided
    in
    let held : (o : Opening Own) (asked : List Answered) → IsOwnOpen c.args.self.now.who o asked (c.args.core.now, c.args.sets.now) → IsOwnHeld c.args.self.now.who o asked c.args.request (c.end.new.self, c.keep_set.new.sets) =
    λ o asked is.
    vain-on c.args.self.now.who o.first.0 o.of o.cursor asked c.args.core.now is.0 c.args.request c.ask_until_decided.new.core c.end.new.self
    never (c.in_ok-reply.ensures.waits c.in-None.is) c.in_err-end-in-None.ensures.err
    in
    on-err _ _ held
