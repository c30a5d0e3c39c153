-- Turns of loops, one after another.
use Rattle.std.proofs.Common.{◌≡◌, ℕ, zero, suc, true, false, ap, ◌∙◌}
use Rattle.std.specs.Prelude.{ℤ, pos, ◌+ℤ◌, ◌<ℤ◌, ⊤}
use Rattle.std.specs.Int.{int_gap}
use Rattle.rtio_types.specs.Integers.{is_true}
use Rattle.kern_syntax.specs.Tree.{Bytes}
use Rattle.meaning_frames.proofs.Turning.{gap_step}
use Rattle.slack_meaning.specs.declared.span.Span.{Span}
use Rattle.slack_meaning.specs.Actions.{State, Completion, Action, Reason, budget, normal, early, go_on, stop, as_number, ◌>>=◌}
use Rattle.slack_meaning.specs.Statements.{for_turns, turn, when, while_turns}
use Rattle.slack_steps.specs.Turns.{set_then}

-- what is left of a `for` at a number below its end
pub for_here : (x : Bytes) (i e : ℤ) (body : Action ⊤) (s : State) (whole : Completion ⊤) → i <ℤ e → whole ≡ for_turns (int_gap i e) x i body s → whole ≡ turn (set_then x i body) (for_turns (int_gap (i +ℤ pos 1) e) x (i +ℤ pos 1) body) s
for_here x i e body s whole below so = so ∙ ap (λ n. for_turns n x i body s) (gap_step i e below)

-- what is left of a `while` whose condition holds
pub while_here : (condition : Action Span) (body : Action ⊤) (s after : State) (holds : Span) (n : ℤ) (whole : Completion ⊤) (less : ℕ) → condition s ≡ normal holds after → as_number holds after ≡ normal n after → is_true n ≡ true → whole ≡ while_turns (suc less) condition body s → whole ≡ turn body (while_turns less condition body) after
while_here condition body s after holds n whole less found counted is so =
    let next : ℤ → Action ⊤ = λ n. when (is_true n) (turn body (while_turns less condition body)) in
    so
    ∙ ap (λ m. go_on m (λ holds. as_number holds >>= next)) found
    ∙ ap (λ m. go_on m next) counted
    ∙ ap (λ b. when b (turn body (while_turns less condition body)) after) is

module _ (condition : Action Span) (body : Action ⊤) (s after : State) (holds : Span) (whole : Completion ⊤) where
  -- of one whose condition doesn't hold
  pub while_over : (n : ℤ) (left : ℕ) → condition s ≡ normal holds after → as_number holds after ≡ normal n after → is_true n ≡ false → whole ≡ while_turns left condition body s → whole ≡ normal tt after
  while_over n left found counted isnt so = so ∙ by left
    where
      over : (next : Action ⊤) → go_on (condition s) (λ holds. as_number holds >>= (λ n. when (is_true n) next)) ≡ normal tt after
      over next =
          ap (λ m. go_on m (λ holds. as_number holds >>= (λ n. when (is_true n) next))) found
          ∙ ap (λ m. go_on m (λ n. when (is_true n) next)) counted
          ∙ ap (λ b. when b next after) isnt

      by : (left : ℕ) → while_turns left condition body s ≡ normal tt after
      by zero = over (stop budget)
      by (suc less) = over (turn body (while_turns less condition body))

  -- of one whose condition is no number
  pub while_stopped : (reason : Reason) (left : ℕ) → condition s ≡ normal holds after → as_number holds after ≡ early reason after → whole ≡ while_turns left condition body s → whole ≡ early reason after
  while_stopped reason left found isnt so = so ∙ by left
    where
      stopped : (next : Action ⊤) → go_on (condition s) (λ holds. as_number holds >>= (λ n. when (is_true n) next)) ≡ early reason after
      stopped next =
          ap (λ m. go_on m (λ holds. as_number holds >>= (λ n. when (is_true n) next))) found
          ∙ ap (λ m. go_on m (λ n. when (is_true n) next)) isnt

      by : (left : ℕ) → while_turns left condition body s ≡ early reason after
      by zero = stopped (stop budget)
      by (suc less) = stopped (turn body (while_turns less condition body))
