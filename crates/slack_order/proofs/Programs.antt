-- Functions and whole kernels follow those of the other run; so a yes stays a yes.
use Rattle.std.proofs.Common.{◌≡◌, ℕ, zero, suc, ◌≤◌, List, [], ◌∷◌, Option, Some, None, refl, ap, ◌∙◌, arith}
use Rattle.std.specs.Prelude.{pos, slice_get}
use Rattle.limits.specs.Limits.{most_budget}
use Rattle.rtio_types.specs.declared.outcome.Exc.TheVariants.{StackOverflow}
use Rattle.kern_syntax.specs.Tree.{FunctionTree, ProgramTree}
use Rattle.kern_calls.specs.declared.types.ValueType.{ValueType}
use Rattle.kern_calls.specs.declared.types.ValueType.TheVariants as V
use Rattle.kern_calls.specs.Types.{Names, Scope, function_named, names_of}
use Rattle.timeline_sem.specs.Programs.{call_room}
use Rattle.slack_meaning.specs.declared.span.Span.{Span}
use Rattle.slack_meaning.specs.declared.verdict.Stopped.{Stopped}
use Rattle.slack_meaning.specs.declared.verdict.Stopped.TheVariants as W
use Rattle.slack_meaning.specs.declared.verdict.Verdict.TheVariants.{Yes}
use Rattle.slack_meaning.specs.Actions.{Completion}
use Rattle.slack_meaning.specs.Expressions.{Callee}
use Rattle.slack_meaning.specs.Programs.{initial_value, initial_values, optional_body, function_call, opening, verdict_where, verdict_of}
use Rattle.slack_order.specs.Stays.{StaysYes}
use Rattle.slack_order.proofs.Inside.{IsInside, inside-exactly}
use Rattle.slack_order.proofs.Standing.{AreInside, IsHeldInside, AreNamesInside, LiesInside, by_break, by_continue, by_return, by_raising, by_budget, Meets, stopped, normally, alike}
use Rattle.slack_order.proofs.Following.{Follows, follows_then, follows_give, follows_stop, follows_unit, with-values}
use Rattle.slack_order.proofs.Expressions.{FollowsCalls}
use Rattle.slack_order.proofs.Control.{meets-left}
use Rattle.slack_order.proofs.Statements.{replicated, follows_block}

initial-inside : (t : ValueType) → IsHeldInside (initial_value t) (initial_value t)
initial-inside (V.Array n) = replicated n (inside-exactly (pos 0))
initial-inside V.Int32 = inside-exactly (pos 0)
initial-inside V.Int64 = inside-exactly (pos 0)
initial-inside V.Bool = inside-exactly (pos 0)

begun-inside : (names : Names) (us vs : List Span) → AreInside us vs → AreNamesInside (initial_values names us) (initial_values names vs)
begun-inside [] us vs h = tt
begun-inside (name ∷ rest) [] [] h = (record { name = refl; has = initial-inside name.1 }, begun-inside rest [] [] tt)
begun-inside (name ∷ rest) (u ∷ us) (v ∷ vs) h = (record { name = refl; has = h.0 }, begun-inside rest us vs h.1)
begun-inside (name ∷ rest) [] (v ∷ vs) h = absurd h
begun-inside (name ∷ rest) (u ∷ us) [] h = absurd h

follows_body : (program : ProgramTree) {callee called : Callee} → FollowsCalls callee called → (f : Option FunctionTree) (us vs : List Span) → AreInside us vs → Follows IsInside (optional_body program callee f us) (optional_body program called f vs)
follows_body program follows None us vs h = follows_give (inside-exactly (pos 0))
follows_body program {callee} {called} follows (Some f) us vs h = record {
  from = λ a b inside.
      let names = names_of program f in
      let scope : Scope = record { program = program; names = names } in
      meets-left a.values b.values inside.values
      ((follows_block scope callee called follows f.body).from (record a { values = initial_values names us }) (record b { values = initial_values names vs })
      (with-values a b (initial_values names us) (initial_values names vs) inside (begun-inside names us vs h)));
}

follows_calls : (program : ProgramTree) (room : ℕ) → FollowsCalls (function_call program room) (function_call program room)
follows_calls program zero f us vs h = follows_then follows_unit (follows_stop (by_raising StackOverflow))
follows_calls program (suc room) f us vs h =
    follows_then follows_unit (follows_body program (follows_calls program room) (function_named program f) us vs h)

not-yes : (verdict : Stopped) (outs : ℕ) → verdict_where verdict ≡ Yes outs → ⊥
not-yes (W.TooLate n e limit) outs is = absurd (cc)
not-yes (W.Unknown n why) outs is = absurd (cc)

-- where the other run says yes, so does this one
yes-too : {c d : Completion Span} (outs : ℕ) → Meets IsInside c d → verdict_of d ≡ Yes outs → verdict_of c ≡ Yes outs
yes-too outs (stopped verdict b) is = absurd (not-yes verdict outs is)
yes-too outs (normally h inside) is = ap Yes inside.bounds.outs ∙ is
yes-too outs (alike by_break inside) is = ap Yes inside.bounds.outs ∙ is
yes-too outs (alike by_continue inside) is = ap Yes inside.bounds.outs ∙ is
yes-too outs (alike (by_return h) inside) is = ap Yes inside.bounds.outs ∙ is
yes-too outs (alike (by_raising x) inside) is = ap Yes inside.bounds.outs ∙ is
yes-too outs (alike by_budget inside) is = ap Yes inside.bounds.outs ∙ is

begins-inside : (less more shallow deep : ℕ) → less ≤ more → shallow ≤ deep → LiesInside (opening most_budget less deep) (opening most_budget more shallow)
begins-inside less more shallow deep cheaper deeper = record {
  values = tt;
  cursor = inside-exactly (pos 0);
  units = refl;
  collected = tt;
  bounds = record {
    limit = omega arith;
    least = refl;
    ordered = omega arith;
    outs = refl;
    saved = tt;
    cost = cheaper;
    depth = deeper;
  };
}

pub stays-yes : (program : ProgramTree) (function : ℕ) → StaysYes program function
stays-yes program function less more shallow deep outs cheaper deeper is =
    yes-too outs
    ((follows_body program (follows_calls program call_room) (slice_get program function) [] [] tt).from (opening most_budget less deep) (opening most_budget more shallow) (begins-inside less more shallow deep cheaper deeper))
    is
