use Rattle.std.proofs.Common.{rules, ◌≡◌, ◌<◌, ◌≤◌, ◌+◌, ◌∙◌, ap, sym, true, false, length, drop, arith, bytes_eq}
use Rattle.std.specs.Prelude.{◌&&◌, nat_eq}
use Rattle.std.specs.Cmp.Lexicographic.{unequal}
use Rattle.std.proofs.Math.ListN.{drop_of_length-le}
use Rattle.std.proofs.lemmas.Bool.{eqb-false, eqb-true}
use Rattle.slack_state.proofs.Same.{next_bytes}
use Rattle.slack_state.proofs.names.is_same.Goals as goal

pub returns-then-not-are_as_long : goal.returns-then-not-are_as_long
returns-then-not-are_as_long c =
    let a = c.args.a.now in
    let b = c.args.b.now in
    let truth : c.are_as_long.result ≡ false = search rules in
    sym (unequal nat_eq a b (eqb-false (length a) (length b) (sym c.are_as_long.ensures ∙ truth)))

pub is_same_at-requires : goal.is_same_at-requires
is_same_at-requires c =
    let a = c.args.a.now in
    let b = c.args.b.now in
    let truth : c.are_as_long.result ≡ true = search rules in
    let long : length a ≡ length b = eqb-true (length a) (length b) (sym c.are_as_long.ensures ∙ truth) in
    let below : c.loop-i.i < length a = omega (arith, c.loop-i.auto, c.loop-i-test.true) in
    record { first = below; second = omega (arith, below, long) }

pub returns-then-not-is_same_at : goal.returns-then-not-is_same_at
returns-then-not-is_same_at c =
    let a = c.args.a.now in
    let b = c.args.b.now in
    let i = c.loop-i.i in
    let truth : c.are_as_long.result ≡ true = search rules in
    let long : length a ≡ length b = eqb-true (length a) (length b) (sym c.are_as_long.ensures ∙ truth) in
    let first : i < length a = omega (arith, c.loop-i.auto, c.loop-i-test.true) in
    let second : i < length b = omega (arith, first, long) in
    let other : c.is_same_at.result ≡ false = search rules in
    sym (c.loop-i.invariant ∙ next_bytes a b i c.is_same_at.result first second c.is_same_at.ensures ∙ ap (λ s. s && bytes_eq (drop (i + 1) a) (drop (i + 1) b)) other)

pub loop-i-preserved : goal.loop-i-preserved
loop-i-preserved c =
    let a = c.args.a.now in
    let b = c.args.b.now in
    let i = c.loop-i.i in
    let truth : c.are_as_long.result ≡ true = search rules in
    let long : length a ≡ length b = eqb-true (length a) (length b) (sym c.are_as_long.ensures ∙ truth) in
    let first : i < length a = omega (arith, c.loop-i.auto, c.loop-i-test.true) in
    let second : i < length b = omega (arith, first, long) in
    let same : c.is_same_at.result ≡ true = search rules in
    c.loop-i.invariant ∙ next_bytes a b i c.is_same_at.result first second c.is_same_at.ensures ∙ ap (λ s. s && bytes_eq (drop (i + 1) a) (drop (i + 1) b)) same

pub returns : goal.returns
returns c =
    let a = c.args.a.now in
    let b = c.args.b.now in
    let i = c.loop-i.i in
    let truth : c.are_as_long.result ≡ true = search rules in
    let long : length a ≡ length b = eqb-true (length a) (length b) (sym c.are_as_long.ensures ∙ truth) in
    let first : length a ≤ i = omega (arith, c.loop-i.auto, c.loop-i-test.false) in
    let second : length b ≤ i = omega (arith, first, long) in
    sym (c.loop-i.invariant ∙ (λ k. bytes_eq (drop_of_length-le a first k) (drop_of_length-le b second k)))
