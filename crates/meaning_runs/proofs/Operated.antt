-- An operator whose operands have run, and an element that becomes a sum.
use Rattle.std.proofs.Common.{◌≡◌, Result, ap, sym, subst, ◌∙◌}
use Rattle.std.specs.Prelude.{ℤ, ⊤}
use Rattle.kern_syntax.specs.declared.expression.BinaryOperator.{BinaryOperator}
use Rattle.kern_syntax.specs.declared.statement.Augment.{Augment}
use Rattle.kern_syntax.specs.Tree.{Bytes, Expression, binary, augment_element}
use Rattle.kern_calls.specs.declared.types.ValueType.{ValueType}
use Rattle.kern_calls.specs.Types.{Scope, type_of}
use Rattle.meaning_state.specs.declared.early.Early.{Early}
use Rattle.meaning_state.specs.Does.{Does}
use Rattle.timeline_sem.specs.Actions.{State, Completion, Action, normal, go_on, ◌>>=◌}
use Rattle.meaning_steps.specs.Turns.{set_sum}
use Rattle.timeline_sem.specs.Expressions.{Callee, expression, operate, read_element}
use Rattle.timeline_sem.specs.Statements.{statement}

-- it is what the operator gives
pub binary_then : (scope : Scope) (callee : Callee) (op : BinaryOperator) (left right whole : Expression) (s middle last : State) (t : ValueType) (a a' b b' : ℤ) (meant : Completion ℤ) → whole ≡ binary op left right → t ≡ type_of scope (binary op left right) → a' ≡ a → b' ≡ b → expression scope callee left s ≡ normal a middle → expression scope callee right middle ≡ normal b last → operate op t a' b' last ≡ meant → expression scope callee whole s ≡ meant
binary_then scope callee op left right whole s middle last t a a' b b' meant tree typed one two first second done =
    let operates : (a b : ℤ) → Action ℤ = operate op (type_of scope (binary op left right)) in
    let next : ℤ → Action ℤ = λ a. expression scope callee right >>= (λ b. operates a b) in
    let same : operate op t a' b' last ≡ operates a b last = λ i. operate op (typed i) (one i) (two i) last in
    ap (λ e. expression scope callee e s) tree
    ∙ ap (λ m. go_on m next) first
    ∙ ap (λ m. go_on m (λ b. operates a b)) second
    ∙ sym same
    ∙ done

-- the element becomes what was read from it and what is added
pub sum_then : (scope : Scope) (callee : Callee) (x : Bytes) (i : Expression) (op : Augment) (e : Expression) (s one two last : State) (place place' held held' added added' : ℤ) (r : Result ⊤ Early) → place' ≡ place → held' ≡ held → added' ≡ added → expression scope callee i s ≡ normal place one → read_element x place' one ≡ normal held one → expression scope callee e one ≡ normal added two → Does r last (set_sum x place' op held' added' two) → Does r last (statement scope callee (augment_element x i op e) s)
sum_then scope callee x i op e s one two last place place' held held' added added' r at was plus first second third done =
    let write : (place held added : ℤ) → Action ⊤ = λ place held added. set_sum x place op held added in
    let add : (place held : ℤ) → Action ⊤ = λ place held. expression scope callee e >>= (λ a. write place held a) in
    let read : (place : ℤ) → Action ⊤ = λ place. read_element x place >>= (λ held. add place held) in
    let found : read_element x place one ≡ normal held one = ap (λ p. read_element x p one) (sym at) ∙ second in
    let whole : statement scope callee (augment_element x i op e) s ≡ write place held added two =
    ap (λ m. go_on m read) first ∙ ap (λ m. go_on m (λ held. add place held)) found ∙ ap (λ m. go_on m (λ a. write place held a)) third in
    let same : write place' held' added' two ≡ write place held added two = λ i. write (at i) (was i) (plus i) two in
    subst (Does r last) (same ∙ sym whole) done
