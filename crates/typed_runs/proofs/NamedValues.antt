-- Reading and writing names and elements of arrays: a name's value has its type, and an array keeps its length.
use Rattle.std.proofs.Common.{◌≡◌, ℕ, List, Option, Some, None, length, length-set, refl, sym, ◌∙◌, ap, arith}
use Rattle.std.specs.Prelude.{ℤ, option_map, unwrap_or, unsigned_abs, slice_set}
use Rattle.std.specs.Int.{int_wrap}
use Rattle.rtio_types.specs.declared.outcome.Exc.{Exc}
use Rattle.rtio_types.specs.declared.outcome.Exc.TheVariants.{IndexError, ZeroDivisionError}
use Rattle.rtio_types.specs.declared.request.Value.{Value}
use Rattle.rtio_types.specs.declared.request.Value.TheVariants as W
use Rattle.kern_syntax.specs.declared.expression.BinaryOperator.{BinaryOperator}
use Rattle.kern_syntax.specs.Tree.{Bytes}
use Rattle.kern_calls.specs.declared.types.ValueType.{ValueType}
use Rattle.kern_calls.specs.declared.types.ValueType.TheVariants as V
use Rattle.kern_calls.specs.Calls.{look_up}
use Rattle.kern_calls.specs.Types.{Names, width_of, bits_of}
use Rattle.kern_judgement.specs.Fitting.{Standing}
use Rattle.timeline_sem.specs.Actions.{raised}
use Rattle.timeline_sem.specs.Numbers.{exact_result}
use Rattle.timeline_sem.specs.Expressions.{read, write as write_name, or_raise, place_in, with_item, list_in_value, read_element, write_element, operate}
use Rattle.typed_runs.specs.Values.{IsValueOf}
use Rattle.typed_runs.proofs.Calculus.{Anything, RunsTyped, typed_bind, typed_give, typed_stop}
use Rattle.typed_runs.proofs.Lookups.{holds}

module _ (names : Names) (here : Standing) where
  -- reads a name, whatever it holds
  pub typed_look : (x : Bytes) → RunsTyped names here Anything (read x)
  typed_look x = record { from = λ s h. (tt, h) }

  -- reads a name of a type
  pub typed_read : (x : Bytes) (t : ValueType) → look_up names x ≡ Some t → RunsTyped names here (IsValueOf t) (read x)
  typed_read x t found = record { from = λ s h. ((holds names s.values x t h found).typed, h) }

  -- gives a name a new value of its type
  pub typed_write : (x : Bytes) (t : ValueType) (new : Value) → look_up names x ≡ Some t → IsValueOf t new
      → RunsTyped names here Anything (write_name x new)
  typed_write x t new found typed = record { from = λ s h. (tt, (holds names s.values x t h found).kept new typed) }

  -- what is there has the property that is asked of it
  pub typed_or_raise : {A : Type 0} {P : A → Type 0} (o : Option A) (x : Exc) → ((a : A) → o ≡ Some a → P a)
      → RunsTyped names here P (or_raise o x)
  typed_or_raise (Some a) x k = typed_give names here a (k a refl)
  typed_or_raise None x k = typed_stop names here (raised x) tt

  -- reads an element, whatever the name holds
  pub typed_read_element : (x : Bytes) (i : ℤ) → RunsTyped names here Anything (read_element x i)
  typed_read_element x i =
      typed_bind names here (typed_look x) (λ held p. typed_or_raise (place_in (list_in_value held) i) IndexError (λ a e. tt))

  -- a list with an item anew is as long
  some_set : (o : Option ℤ) (items new : List ℤ) (i value : ℤ) → option_map (λ old. slice_set items (unsigned_abs i) value) o ≡ Some new
      → length new ≡ length items
  some_set None items new i value e = absurd (grind (arith, e))
  some_set (Some old) items new i value e =
      ap length (sym (ap (λ o. unwrap_or o new) e)) ∙ length-set items (unsigned_abs i) value

  -- with an element anew an array has as many
  same_length : (n : ℕ) (held : Value) (items : List ℤ) (i new : ℤ) → IsValueOf (V.Array n) held
      → with_item (list_in_value held) i new ≡ Some items → length items ≡ n
  same_length n (W.List old) items i new typed e = some_set (place_in old i) old items i new e ∙ typed
  same_length n (W.Int v) items i new typed e = absurd typed

  -- an array with an element anew, where it has such an element
  typed_anew : (n : ℕ) (held : Value) (i new : ℤ) → IsValueOf (V.Array n) held
      → RunsTyped names here (λ items. length items ≡ n) (or_raise (with_item (list_in_value held) i new) IndexError)
  typed_anew n held i new typed =
      typed_or_raise (with_item (list_in_value held) i new) IndexError (λ items e. same_length n held items i new typed e)

  -- writes an element of an array, whose length stays
  pub typed_write_element : (x : Bytes) (n : ℕ) (i new : ℤ) → look_up names x ≡ Some (V.Array n)
      → RunsTyped names here Anything (write_element x i new)
  typed_write_element x n i new found =
      typed_bind names here (typed_read x (V.Array n) found)
      (λ held typed. typed_bind names here (typed_anew n held i new typed)
      (λ items long. typed_write x (V.Array n) (W.List items) found long))

  -- an operator's result wraps at the width of its type
  pub typed_operate : {P : ℤ → Type 0} (op : BinaryOperator) (t : ValueType) (a b : ℤ) → ((exact : ℤ) → P (int_wrap (width_of t) exact))
      → RunsTyped names here P (operate op t a b)
  typed_operate op t a b k =
      let exact = exact_result op (bits_of t) a b in
      typed_bind names here (typed_or_raise {P = Anything} exact ZeroDivisionError (λ n e. tt)) (λ n p. typed_give names here _ (k n))
