-- Turns of loops, one after another.
use Rattle.std.proofs.Common.{◌≡◌, ℕ, suc, true, ap, ◌∙◌}
use Rattle.std.specs.Prelude.{ℤ, pos, ◌+ℤ◌, ◌<ℤ◌, ⊤}
use Rattle.std.specs.Int.{int_gap}
use Rattle.rtio_types.specs.Integers.{is_true}
use Rattle.kern_syntax.specs.Tree.{Bytes}
use Rattle.timeline_sem.specs.Actions.{State, Completion, Action, normal, go_on}
use Rattle.timeline_sem.specs.Statements.{for_turns, turn, when, while_turns}
use Rattle.meaning_frames.proofs.Turning.{gap_step}
use Rattle.meaning_steps.specs.Turns.{set_then}

-- what is left of a `for` at a number below its end
pub for_here : (x : Bytes) (i e : ℤ) (body : Action ⊤) (s : State) (whole : Completion ⊤) → i <ℤ e → whole ≡ for_turns (int_gap i e) x i body s → whole ≡ turn (set_then x i body) (for_turns (int_gap (i +ℤ pos 1) e) x (i +ℤ pos 1) body) s
for_here x i e body s whole below so = so ∙ ap (λ n. for_turns n x i body s) (gap_step i e below)

module _ (condition : Action ℤ) (body : Action ⊤) (s after : State) (holds : ℤ) (whole : Completion ⊤) where
  -- what is left of a `while` whose condition holds
  pub while_here : (less : ℕ) → condition s ≡ normal holds after → is_true holds ≡ true → whole ≡ while_turns (suc less) condition body s → whole ≡ turn body (while_turns less condition body) after
  while_here less found is so =
      so
      ∙ ap (λ m. go_on m (λ holds. when (is_true holds) (turn body (while_turns less condition body)))) found
      ∙ ap (λ b. when b (turn body (while_turns less condition body)) after) is
