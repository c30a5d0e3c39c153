-- A call that enters a function, and one that is left.
use Rattle.std.proofs.Common.{◌≡◌, ◌≤◌, ◌<◌, ◌+◌, ◌*◌, ℕ, zero, suc, List, Result, arith, ap, sym, subst, subst₂, ◌∙◌}
use Rattle.std.specs.Prelude.{⊤}
use Rattle.rtio_types.specs.declared.outcome.Exc.TheVariants.{StackOverflow}
use Rattle.kern_syntax.specs.Tree.{Bytes, FunctionTree, ProgramTree}
use Rattle.kern_calls.specs.Types.{Names, function_named, names_of}
use Rattle.slack_meaning.specs.declared.span.Span.{Span}
use Rattle.slack_meaning.specs.Actions.{Held, State, raised, Completion, normal, early, Action, go_on, give, stop, take_unit}
use Rattle.slack_meaning.specs.Expressions.{Callee}
use Rattle.slack_meaning.specs.Programs.{function_body, function_call, initial_values, leave_function, optional_body}
use Rattle.slack_meaning.specs.Statements.{block}
use Rattle.slack_state.specs.declared.early.Early.{Early}
use Rattle.slack_state.specs.Does.{Does}
use Rattle.slack_steps.specs.Entering.{enter_call}

module _ (program : ProgramTree) (name : Bytes) (args : List Span) (s after : State) where
  -- a call that enters a function does what this does
  pub call_entered : (room left : ℕ) → enter_call room s ≡ normal left after → function_call program room name args s ≡ optional_body program (function_call program left) (function_named program name) args after
  call_entered zero left is = absurd (by_unit (take_unit s) is)
    where
      by_unit : (m : Completion ⊤) → go_on m (λ a. stop (raised StackOverflow)) ≡ normal left after → ⊥
      by_unit (normal a s) is = cc
      by_unit (early reason s) is = cc
  call_entered (suc room) left is = by_unit (take_unit s) is
    where
      body : ℕ → Action Span
      body left = optional_body program (function_call program left) (function_named program name) args

      by_unit : (m : Completion ⊤) → go_on m (λ a. give room) ≡ normal left after → go_on m (λ a. body room) ≡ body left after
      by_unit (normal a s) is =
          let same : room ≡ left = cc in
          let then : s ≡ after = cc in
          λ i. body (same i) (then i)
      by_unit (early reason s) is = cc

-- its body, with what it takes to run one, is below the call
pub body_falls : (room left size body : ℕ) → suc left ≡ room → 8 + body ≤ size → left * size + (body + 2) < room * size
body_falls room left size body is small = rw (sym is) (omega (arith, small))

-- a function that is entered leaves room for one less
pub room_left : (room left : ℕ) (s after : State) → enter_call room s ≡ normal left after → suc left ≡ room
room_left zero left s after is = by_unit (take_unit s) is
  where
    by_unit : (m : Completion ⊤) → go_on m (λ a. stop (raised StackOverflow)) ≡ normal left after → suc left ≡ 0
    by_unit (normal a s) is = cc
    by_unit (early reason s) is = cc
room_left (suc room) left s after is = by_unit (take_unit s) is
  where
    by_unit : (m : Completion ⊤) → go_on m (λ a. give room) ≡ normal left after → suc left ≡ suc room
    by_unit (normal a s) is = cc
    by_unit (early reason s) is = cc

-- a function does what its body does, with names of its own
pub left_function : (program : ProgramTree) (callee : Callee) (f : FunctionTree) (args : List Span) (s inside left after : State) (names : Names) (ran : Result ⊤ Early) (gives : Result Span Early)
    → names ≡ names_of program f
    → inside ≡ record s { values = initial_values names args }
    → Does ran left (block (record { program = program; names = names }) callee f.body inside)
    → after ≡ record left { values = s.values }
    → ((values : List (Bytes × Held)) (s : State) (m : Completion ⊤) → Does ran s m → Does gives (record s { values = values }) (leave_function values m))
    → Does gives after (function_body program callee f args s)
left_function program callee f args s inside left after names ran gives known entered does back finishes =
    let begun : inside ≡ record s { values = initial_values (names_of program f) args } = entered ∙ ap (λ names. record s { values = initial_values names args }) known in
    let body = block (record { program = program; names = names_of program f }) callee f.body (record s { values = initial_values (names_of program f) args }) in
    let ran_so : Does ran left body = subst₂ (λ names inside. Does ran left (block (record { program = program; names = names }) callee f.body inside)) known begun does in
    subst (λ after. Does gives after (leave_function s.values body)) (sym back) (finishes s.values left body ran_so)
