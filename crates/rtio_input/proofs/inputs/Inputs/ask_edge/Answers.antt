use Rattle.std.proofs.Common.{◌≡◌, true, false, rules, w64, ◌∙◌, ap, sym, arith}
use Rattle.std.proofs.lemmas.Grind.{common_steps}
use Rattle.std.proofs.lemmas.Int.{to_z-of_z}
use Rattle.rtio_types.specs.Board.{is_input}
use Rattle.rtio_input.specs.Channel.{channel_at, edge_reply, nothing_unread}
use Rattle.rtio_input.proofs.Others.{none-asked, other-unread, own-unread, stands-any, unread-stands}
use Rattle.rtio_input.proofs.inputs.Inputs.ask_edge.Goals as goal

pub returns-then-is_input-clause-reply : goal.returns-then-is_input-clause-reply
returns-then-is_input-clause-reply c =
    let own : is_input c.args.channel ≡ true = sym c.is_input.ensures ∙ c.if-is_input.true in
    let reply : c.answer.result ≡ edge_reply (channel_at c.args.self.now.channels c.args.channel).unread c.args.counter c.args.up_to = first_of (search rules, grind (arith, common_steps)) in
    reply ∙ ap (λ u. edge_reply u c.args.counter c.args.up_to) (sym (own-unread c.args.self.now c.args.channel own))

pub returns-then-is_input-clause-after : goal.returns-then-is_input-clause-after
returns-then-is_input-clause-after c = first_of (search rules, grind (arith, common_steps))

pub returns-then-is_input-clause-right : goal.returns-then-is_input-clause-right
returns-then-is_input-clause-right c = λ script outputs steps stands.
    returns-then-is_input-clause-reply c ∙ ap (λ u. edge_reply u c.args.counter c.args.up_to) (unread-stands c.args.self.now script outputs steps c.args.counter c.args.channel stands)

pub returns-then-is_input-clause-stands : goal.returns-then-is_input-clause-stands
returns-then-is_input-clause-stands c = λ script outputs steps stands.
    stands-any c.args.self.now _ script outputs steps c.args.counter c.args.channel c.args.up_to c.answer.result (returns-then-is_input-clause-reply c) (returns-then-is_input-clause-after c) stands

pub returns-else-is_input-clause-reply : goal.returns-else-is_input-clause-reply
returns-else-is_input-clause-reply c =
    let other : is_input c.args.channel ≡ false = sym c.is_input.ensures ∙ c.if-is_input.false in
    let bits = to_z-of_z w64 c.args.up_to c.ranges.up_to in
    c.reply_to_none.ensures ∙ ap (λ up_to. edge_reply nothing_unread c.args.counter up_to) bits ∙ ap (λ u. edge_reply u c.args.counter c.args.up_to) (sym (other-unread c.args.self.now c.args.channel other))

pub returns-else-is_input-clause-after : goal.returns-else-is_input-clause-after
returns-else-is_input-clause-after c =
    let bits = to_z-of_z w64 c.args.up_to c.ranges.up_to in
    sym (none-asked c.args.self.now c.args.counter c.args.channel c.args.up_to c.reply_to_none.result (c.reply_to_none.ensures ∙ ap (λ up_to. edge_reply nothing_unread c.args.counter up_to) bits)).0

pub returns-else-is_input-clause-right : goal.returns-else-is_input-clause-right
returns-else-is_input-clause-right c = λ script outputs steps stands.
    returns-else-is_input-clause-reply c ∙ ap (λ u. edge_reply u c.args.counter c.args.up_to) (unread-stands c.args.self.now script outputs steps c.args.counter c.args.channel stands)

pub returns-else-is_input-clause-stands : goal.returns-else-is_input-clause-stands
returns-else-is_input-clause-stands c = λ script outputs steps stands.
    stands-any c.args.self.now _ script outputs steps c.args.counter c.args.channel c.args.up_to c.reply_to_none.result (returns-else-is_input-clause-reply c) (returns-else-is_input-clause-after c) stands
