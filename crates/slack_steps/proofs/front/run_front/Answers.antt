use Rattle.std.proofs.Common.{rules, ◌≡◌, ◌<◌, ◌∙◌, ap, sym, subst, true, false, length, drop, arith}
use Rattle.kern_syntax.specs.TreeOf.{lines_of, statement_of}
use Rattle.kern_names.specs.ScopeOf.{scope_of}
use Rattle.meaning_steps.specs.RunnableStatements.{IsRunnableBlock, IsRunnableStatement}
use Rattle.slack_meaning.specs.Expressions.{Callee}
use Rattle.slack_meaning.specs.Statements.{block, statement}
use Rattle.slack_steps.specs.Known.{HasRun}
use Rattle.slack_steps.proofs.Leading.{line_at, line_ran, line_stayed}
use Rattle.slack_steps.proofs.front.run_front.Goals as goal

pub run_known-requires : goal.run_known-requires
run_known-requires c =
    let lines = c.args.lines.now in
    let i = c.loop-i.i in
    let line = c.index-lines-i.result in
    let within : i < length lines = omega (arith, c.loop-i.auto, c.loop-i-test.true) in
    subst (λ l. IsRunnableStatement (statement_of l.kind)) c.index-lines-i.is (subst IsRunnableBlock (line_at lines i line within c.index-lines-i.is) c.loop-i.invariant.runnable).0

pub returns-then-not-run_known : goal.returns-then-not-run_known
returns-then-not-run_known c =
    let lines = c.args.lines.now in
    let i = c.loop-i.i in
    let scope = scope_of c.args.scope.now in
    let isnt : c.run_known.result ≡ false = search rules in
    record {
      within = omega (arith, c.loop-i.auto, c.loop-i-test.true);
      ran = λ callee. c.loop-i.invariant.ran callee ∙ line_stayed scope callee (lines_of (drop i lines)) c.loop-i.state c.run_known.new.state c.run_known.result _ isnt (c.run_known.ensures callee);
    }

pub loop-i-preserved : goal.loop-i-preserved
loop-i-preserved c =
    let lines = c.args.lines.now in
    let i = c.loop-i.i in
    let line = c.index-lines-i.result in
    let scope = scope_of c.args.scope.now in
    let within : i < length lines = omega (arith, c.loop-i.auto, c.loop-i-test.true) in
    let is : c.run_known.result ≡ true = search rules in
    let did : (callee : Callee) → HasRun c.run_known.result c.loop-i.state c.run_known.new.state (statement scope callee (statement_of line.kind)) =
    λ callee. subst (λ l. HasRun c.run_known.result c.loop-i.state c.run_known.new.state (statement scope callee (statement_of l.kind))) (sym c.index-lines-i.is) (c.run_known.ensures callee) in
    record {
      ran = λ callee. c.loop-i.invariant.ran callee ∙ line_ran scope callee lines i line c.loop-i.state c.run_known.new.state c.run_known.result within c.index-lines-i.is is (did callee);
      runnable = (subst IsRunnableBlock (line_at lines i line within c.index-lines-i.is) c.loop-i.invariant.runnable).1;
    }

pub returns : goal.returns
returns c =
    let lines = c.args.lines.now in
    let i = c.loop-i.i in
    let scope = scope_of c.args.scope.now in
    let all : i ≡ length lines = omega (arith, c.loop-i.auto, c.loop-i-test.false) in
    record {
      within = omega arith;
      ran = λ callee. c.loop-i.invariant.ran callee ∙ ap (λ n. block scope callee (lines_of (drop n lines)) c.loop-i.state) all;
    }
