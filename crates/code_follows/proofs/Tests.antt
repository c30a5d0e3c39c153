-- The tests of branches and loops, where a condition or its opposite is asked.
use Rattle.std.proofs.Common.{◌≡◌, ℕ, ◌+◌, List, [], ◌∷◌, subst}
use Rattle.std.specs.Prelude.{Bool, true, false, not, ℤ, ⊤}
use Rattle.rtio_types.specs.declared.request.Reply.{Reply}
use Rattle.rtio_types.specs.Integers.{is_true}
use Rattle.timeline_sem.specs.Actions.{State, Action, ◌>>=◌}
use Rattle.core_isa.specs.declared.code.Code.{Code}
use Rattle.code_forms.specs.Conditions.{test_instrs, test_size, loop_instrs, loop_size}
use Rattle.code_follows.specs.Stands.{holding, Setting}
use Rattle.code_follows.specs.Parts.{Follows, Stand}
use Rattle.code_follows.proofs.Flow.{follows_jump, follows_test}

-- whether a condition holds, by the answer to what was asked
abbrev pub holds : (turned : Bool) → ℤ → Bool
holds false v = is_true v
holds true v = not (is_true v)

-- what is asked tells whether the condition holds, and does else what the condition does
abbrev pub Asks : (turned : Bool) → (asked condition : Action ℤ) → Type 0
Asks turned asked condition =
    (next : Bool → Action ⊤) (s : State)
    → (asked >>= λ v. next (holds turned v)) s ≡ (condition >>= λ v. next (is_true v)) s

module _ (given : List Reply) (code : Code) {premise : Type 0} {most : ℕ} {setting : Setting} {first past : ℕ} where
  -- the test of a branch, once the answer is on the operands
  pub follows_branching : {elsewhere : ℕ} (turned : Bool) (v : ℤ) (m : Bool → Action ⊤) → Stand code.lines first (test_instrs turned first elsewhere) → Follows given code premise most setting (first + test_size turned) past (holding []) (λ v. ⊤) (λ v. holding []) (m true) → Follows given code premise most setting elsewhere past (holding []) (λ v. ⊤) (λ v. holding []) (m false) → Follows given code premise most setting first past (holding (v ∷ [])) (λ v. ⊤) (λ v. holding []) (m (holds turned v))
  follows_branching false v m stands ft fe = follows_test given code (holding []) v m stands ft fe
  follows_branching true v m stands ft fe =
      follows_test given code (holding []) v (λ b. m (not b)) (stands.0, stands.1, stands.2, tt) (follows_jump given code stands.3 fe) ft

  -- the test at the end of a loop
  pub follows_looping : {turn : ℕ} (turned : Bool) (v : ℤ) (m : Bool → Action ⊤) → Stand code.lines first (loop_instrs turned turn past) → past ≡ first + loop_size turned → Follows given code premise most setting turn past (holding []) (λ v. ⊤) (λ v. holding []) (m true) → Follows given code premise most setting past past (holding []) (λ v. ⊤) (λ v. holding []) (m false) → Follows given code premise most setting first past (holding (v ∷ [])) (λ v. ⊤) (λ v. holding []) (m (holds turned v))
  follows_looping false v m stands ends ft fe =
      follows_test given code (holding []) v m (stands.0, stands.1, stands.2, tt) (follows_jump given code stands.3 ft) fe
  follows_looping true v m stands ends ft fe =
      follows_test given code (holding []) v (λ b. m (not b)) stands (subst (λ p. Follows given code premise most setting p past (holding []) (λ v. ⊤) (λ v. holding []) (m false)) ends fe) ft
