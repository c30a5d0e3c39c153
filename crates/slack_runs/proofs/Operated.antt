-- An operator whose operands have run, and an element that becomes a sum.
use Rattle.std.proofs.Common.{◌≡◌, Result, ap, sym, subst, ◌∙◌}
use Rattle.std.specs.Prelude.{⊤}
use Rattle.kern_syntax.specs.declared.expression.BinaryOperator.{BinaryOperator}
use Rattle.kern_syntax.specs.declared.statement.Augment.{Augment}
use Rattle.kern_syntax.specs.Tree.{Bytes, Expression, binary, augment_element}
use Rattle.kern_calls.specs.declared.types.ValueType.{ValueType}
use Rattle.kern_calls.specs.Types.{Scope, type_of}
use Rattle.slack_meaning.specs.declared.span.Span.{Span}
use Rattle.slack_meaning.specs.Actions.{State, Completion, Action, normal, go_on, ◌>>=◌}
use Rattle.slack_meaning.specs.Expressions.{Callee, expression, operate, read_element}
use Rattle.slack_meaning.specs.Statements.{statement}
use Rattle.slack_state.specs.declared.early.Early.{Early}
use Rattle.slack_state.specs.Does.{Does}
use Rattle.slack_steps.specs.Turns.{set_sum}

module _ (scope : Scope) (callee : Callee) where
  -- it is what the operator gives
  pub binary_then : (op : BinaryOperator) (left right whole : Expression) (s middle last : State) (t : ValueType) (a b : Span) (does : Completion Span) → whole ≡ binary op left right → t ≡ type_of scope (binary op left right) → expression scope callee left s ≡ normal a middle → expression scope callee right middle ≡ normal b last → operate op t a b last ≡ does → expression scope callee whole s ≡ does
  binary_then op left right whole s middle last t a b does tree typed first second done =
      let operates : (a b : Span) → Action Span = operate op (type_of scope (binary op left right)) in
      let next : Span → Action Span = λ a. expression scope callee right >>= (λ b. operates a b) in
      let same : operate op t a b last ≡ operates a b last = λ i. operate op (typed i) a b last in
      ap (λ e. expression scope callee e s) tree
      ∙ ap (λ m. go_on m next) first
      ∙ ap (λ m. go_on m (λ b. operates a b)) second
      ∙ sym same
      ∙ done

  -- the element becomes what was read from it and what is added
  pub sum_then : (x : Bytes) (i : Expression) (op : Augment) (e : Expression) (s one two last : State) (place held added : Span) (r : Result ⊤ Early) → expression scope callee i s ≡ normal place one → read_element x place one ≡ normal held one → expression scope callee e one ≡ normal added two → Does r last (set_sum x place op held added two) → Does r last (statement scope callee (augment_element x i op e) s)
  sum_then x i op e s one two last place held added r first second third done =
      let write : (place held added : Span) → Action ⊤ = λ place held added. set_sum x place op held added in
      let add : (place held : Span) → Action ⊤ = λ place held. expression scope callee e >>= (λ a. write place held a) in
      let read : (place : Span) → Action ⊤ = λ place. read_element x place >>= (λ held. add place held) in
      let whole : statement scope callee (augment_element x i op e) s ≡ write place held added two =
      ap (λ m. go_on m read) first ∙ ap (λ m. go_on m (λ held. add place held)) second ∙ ap (λ m. go_on m (λ a. write place held a)) third in
      subst (Does r last) (sym whole) done
