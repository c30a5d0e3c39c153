-- Functions and whole kernels follow those of the run without a core.
use Rattle.std.proofs.Common.{ℕ, zero, suc, List, [], ◌∷◌, map, Option, Some, None, refl, sym, append-nil}
use Rattle.std.specs.Prelude.{ℤ, pos, ⊤}
use Rattle.rtio_types.specs.declared.outcome.Exc.TheVariants.{StackOverflow}
use Rattle.rtio_types.specs.declared.request.Value.{Value}
use Rattle.kern_syntax.specs.Tree.{Bytes, FunctionTree, ProgramTree}
use Rattle.kern_calls.specs.declared.types.ValueType.{ValueType}
use Rattle.kern_calls.specs.declared.types.ValueType.TheVariants as V
use Rattle.kern_calls.specs.Types.{Names, Scope, function_named, names_of}
use Rattle.timeline_sem.specs.Actions.{break, continue, return, raised, budget, unanswered, Completion, normal, early}
use Rattle.timeline_sem.specs.Expressions.{Callee}
use Rattle.timeline_sem.specs.Laws.{final}
use Rattle.timeline_sem.specs.Programs.{initial_value, initial_values, leave_function, optional_body, function_call}
use Rattle.timeline_sem.specs.Statements.{block}
use Rattle.timeline_sem.proofs.KeepsWhole.{AskedGrow, asked_grow, keeps_body}
use Rattle.slack_meaning.specs.declared.span.Span.{Span}
use Rattle.slack_meaning.specs.Spans.{exactly}
use Rattle.slack_meaning.specs.Expressions as E
use Rattle.slack_meaning.specs.Programs as G
use Rattle.slack_law.proofs.Standing.{IsWithin, AreWithin, IsValueWithin, AreNamesWithin, Session, by_raising}
use Rattle.slack_law.proofs.Following.{agree-grown, Follows, follows_then}
use Rattle.slack_law.proofs.Within.{within-exactly}
use Rattle.slack_law.proofs.Steps.{with-values, follows_stop, follows_unit}
use Rattle.slack_law.proofs.Values.{each-exactly}
use Rattle.slack_law.proofs.Expressions.{FollowsCalls, follows_exactly}
use Rattle.slack_law.proofs.Control.{meets-left}
use Rattle.slack_law.proofs.Statements.{replicated, follows_block}

initial-within : (t : ValueType) → IsValueWithin (initial_value t) (G.initial_value t)
initial-within (V.Array n) = replicated n (within-exactly (pos 0))
initial-within V.Int32 = within-exactly (pos 0)
initial-within V.Int64 = within-exactly (pos 0)
initial-within V.Bool = within-exactly (pos 0)

begun-within : (names : Names) (xs : List ℤ) (ys : List Span) → AreWithin xs ys → AreNamesWithin (initial_values names xs) (G.initial_values names ys)
begun-within [] xs ys h = tt
begun-within (name ∷ rest) [] [] h = (record { name = refl; value = initial-within name.1 }, begun-within rest [] [] tt)
begun-within (name ∷ rest) (x ∷ xs) (y ∷ ys) h = (record { name = refl; value = h.0 }, begun-within rest xs ys h.1)
begun-within (name ∷ rest) [] (y ∷ ys) h = absurd h
begun-within (name ∷ rest) (x ∷ xs) [] h = absurd h

asked-left : (vs : List (Bytes × Value)) (c : Completion ⊤) → AskedGrow (final c) (final (leave_function vs c))
asked-left vs (normal x s) = ([], sym (append-nil s.asked))
asked-left vs (early break s) = ([], sym (append-nil s.asked))
asked-left vs (early continue s) = ([], sym (append-nil s.asked))
asked-left vs (early (return v) s) = ([], sym (append-nil s.asked))
asked-left vs (early (raised x) s) = ([], sym (append-nil s.asked))
asked-left vs (early budget s) = ([], sym (append-nil s.asked))
asked-left vs (early unanswered s) = ([], sym (append-nil s.asked))

module _ {session : Session} where
  pub follows_body : (program : ProgramTree) {callee : Callee} {called : E.Callee} → FollowsCalls session callee called → (f : Option FunctionTree) (xs : List ℤ) (ys : List Span) → AreWithin xs ys → Follows session IsWithin (optional_body program callee f xs) (G.optional_body program called f ys)
  follows_body program follows None xs ys h = follows_exactly (pos 0)
  follows_body program {callee} {called} follows (Some f) xs ys h = record {
    grows = keeps_body AskedGrow AskedGrow asked_grow program callee (λ g ns. (follows g ns (map exactly ns) (each-exactly ns)).grows) (Some f) xs;
    from = λ s a st agree.
        let names = names_of program f in
        let scope : Scope = record { program = program; names = names } in
        let ends : Completion ⊤ = block scope callee f.body (record s { values = initial_values names xs }) in
        meets-left s.values a.values st.values
        ((follows_block scope callee called follows f.body).from (record s { values = initial_values names xs }) (record a { values = G.initial_values names ys })
        (with-values st (begun-within names xs ys h))
        (agree-grown (final ends) (final (leave_function s.values ends)) session.world (asked-left s.values ends) agree));
  }

  pub follows_function_call : (program : ProgramTree) (room : ℕ) → FollowsCalls session (function_call program room) (G.function_call program room)
  follows_function_call program zero f xs ys h = follows_then follows_unit (follows_stop (by_raising StackOverflow))
  follows_function_call program (suc room) f xs ys h =
      follows_then follows_unit (follows_body program (follows_function_call program room) (function_named program f) xs ys h)
