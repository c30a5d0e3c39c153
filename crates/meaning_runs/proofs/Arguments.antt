-- An argument before others.
use Rattle.std.proofs.Common.{rules, ◌≡◌, List, ◌++◌, refl, sym, ap, ◌∙◌, append_assoc, subst, Option}
use Rattle.std.specs.Prelude.{ℤ, option_to_list}
use Rattle.kern_syntax.specs.declared.expression.Argument.{Argument}
use Rattle.kern_syntax.specs.declared.expression.Argument.TheFolds.{the_lemmas}
use Rattle.kern_syntax.specs.Tree.{Arguments, no_more}
use Rattle.kern_syntax.specs.TreeOf.{argument_of}
use Rattle.kern_calls.specs.Types.{Scope}
use Rattle.meaning_state.specs.declared.early.Early.{Early}
use Rattle.meaning_state.specs.declared.early.Early.TheVariants as E
use Rattle.meaning_state.specs.Does.{EndsAs}
use Rattle.timeline_sem.specs.Actions.{State, Completion, Action, normal, early, give, go_on, ◌>>=◌}
use Rattle.timeline_sem.specs.Expressions.{Callee, arguments}
use Rattle.meaning_steps.specs.Runnable.{first_argument}

-- a value that only becomes another one
pub bind_give : {A B C : Type 0} (m : Completion A) (f : A → B) (next : B → Action C) → go_on (go_on m (λ a. give (f a))) next ≡ go_on m (λ a. next (f a))
bind_give (normal a s) f next = refl
bind_give (early reason s) f next = refl

-- by two functions that agree
same_give : {A B : Type 0} (m : Completion A) (f g : A → B) → ((a : A) → f a ≡ g a) → go_on m (λ a. give (f a)) ≡ go_on m (λ a. give (g a))
same_give (normal a s) f g same = ap (λ b. normal b s) (same a)
same_give (early reason s) f g same = refl

-- an early end stays the end
pub ended_then : {A B : Type 0} (end : Early) (left : State) (m : Completion A) (next : A → Action B) → EndsAs end left m → EndsAs end left (go_on m next)
ended_then (E.Ended reason) left m next is = rw is refl
ended_then E.Memory left m next is = tt

-- an argument runs before the others
pub arguments_first : (scope : Scope) (callee : Callee) (argument : Argument) (rest : Arguments) (s : State) → arguments scope callee (argument_of argument rest) s ≡ go_on (first_argument scope callee (argument_of argument no_more) s) (λ a. arguments scope callee rest >>= (λ others. give (option_to_list a ++ others)))
arguments_first scope callee argument rest s = search (rules, the_lemmas, bind_give)

module _ (scope : Scope) (callee : Callee) where
  -- one argument more has run
  pub argument_read : (argument : Argument) (rest : Arguments) (s left : State) (whole : Completion (List ℤ)) (before after : List ℤ) (a : Option ℤ) → whole ≡ (arguments scope callee (argument_of argument rest) >>= (λ others. give (before ++ others))) s → first_argument scope callee (argument_of argument no_more) s ≡ normal a left → after ≡ before ++ option_to_list a → whole ≡ (arguments scope callee rest >>= (λ others. give (after ++ others))) left
  argument_read argument rest s left whole before after a so found pushed =
      let first : arguments scope callee (argument_of argument rest) s ≡ go_on (arguments scope callee rest left) (λ others. give (option_to_list a ++ others)) =
      arguments_first scope callee argument rest s
      ∙ ap (λ m. go_on m (λ a. arguments scope callee rest >>= (λ others. give (option_to_list a ++ others)))) found in
      so
      ∙ ap (λ m. go_on m (λ others. give (before ++ others))) first
      ∙ bind_give (arguments scope callee rest left) (λ others. option_to_list a ++ others) (λ others. give (before ++ others))
      ∙ same_give (arguments scope callee rest left) (λ others. before ++ (option_to_list a ++ others)) (λ others. (before ++ option_to_list a) ++ others) (λ others. sym (append_assoc before (option_to_list a) others))
      ∙ ap (λ given. go_on (arguments scope callee rest left) (λ others. give (given ++ others))) (sym pushed)

  -- an argument ends early
  pub argument_ended : (argument : Argument) (rest : Arguments) (s left : State) (end : Early) (whole : Completion (List ℤ)) (before : List ℤ) → whole ≡ (arguments scope callee (argument_of argument rest) >>= (λ others. give (before ++ others))) s → EndsAs end left (first_argument scope callee (argument_of argument no_more) s) → EndsAs end left whole
  argument_ended argument rest s left end whole before so ended =
      let first = arguments_first scope callee argument rest s in
      let inner : EndsAs end left (arguments scope callee (argument_of argument rest) s) = subst (EndsAs end left) (sym first) (ended_then end left _ _ ended) in
      subst (EndsAs end left) (sym so) (ended_then end left (arguments scope callee (argument_of argument rest) s) (λ others. give (before ++ others)) inner)
