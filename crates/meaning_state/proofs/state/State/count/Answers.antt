use Rattle.std.proofs.Common.{rules, ◌≡◌, ap, sym, ◌∙◌, false, FitsSigned, to_z, of_z, ◌-◌, suc, arith}
use Rattle.std.specs.Prelude.{pos, ◌+ℤ◌}
use Rattle.std.specs.Int.{w32, w64, int_wrap}
use Rattle.std.proofs.lemmas.Int.{to_z-of_z}
use Rattle.rtio_types.specs.declared.request.Request.TheVariants as Q
use Rattle.timeline_sem.specs.Actions.{normal, request}
use Rattle.timeline_sem.specs.Timeline.{count_edges, count_all_edges}
use Rattle.meaning_state.specs.Edges.{is_no_edge}
use Rattle.meaning_state.proofs.Counting.{counted}
use Rattle.meaning_state.proofs.state.State.count.Goals as goal

pub loop-left-preserved : goal.loop-left-preserved
loop-left-preserved c =
    let q = Q.Edge c.args.channel (to_z w64 (of_z w64 c.args.up_to)) in
    let n = to_z w32 c.loop-left.edges-bits in
    let s = c.loop-left.self in
    let after = c.request.new.self in
    let reply = c.in_ok-reply.reply.now in
    let whole = count_all_edges q c.args.self.now in
    let less = c.loop-left.left - 1 in
    let fits : FitsSigned w32 c.one_more-edges.result = search rules in
    let one : c.loop-left.left ≡ suc less = omega (arith, c.loop-left-test.true) in
    let so : whole ≡ count_edges c.loop-left.left q n s = c.loop-left.invariant in
    let found : request q s ≡ normal reply after = c.in_ok-reply.ensures.reply in
    let is : is_no_edge reply ≡ false = sym c.is_no_edge.ensures ∙ c.if-is_no_edge.false in
    let more : to_z w32 (of_z w32 c.one_more-edges.result) ≡ int_wrap w32 (n +ℤ pos 1) = to_z-of_z w32 c.one_more-edges.result fits ∙ c.one_more-edges.ensures in
    counted whole less q n s after reply is found (so ∙ ap (λ k. count_edges k q n s) one)
    ∙ ap (λ n. count_edges less q n after) (sym more)
