-- The functions of the code stand one behind another, and each has a slot for every parameter.
use Rattle.std.proofs.Common.{◌≡◌, ℕ, zero, suc, ◌+◌, ◌<◌, ◌≤◌, List, [], ◌∷◌, ◌++◌, length, map, slice_get, Some, sym, ap, subst, arith, length-append}
use Rattle.std.specs.Prelude.{is_some, unwrap_or}
use Rattle.std.proofs.lemmas.Bool.{false≢true}
use Rattle.kern_syntax.specs.declared.program.DeclaredType.{DeclaredType}
use Rattle.kern_syntax.specs.declared.program.DeclaredType.TheVariants as D
use Rattle.kern_syntax.specs.Tree.{Bytes, ParameterTree, FunctionTree, ProgramTree}
use Rattle.kern_calls.specs.Types.{Names, declared_type, names_of}
use Rattle.core_isa.specs.declared.code.CodeFunction.{CodeFunction}
use Rattle.core_isa.specs.Marks.{HasOrder}
use Rattle.code_forms.specs.Programs.{function_code, function_size, functions_code, entry_of, entries_of, plain_names, code_of_program, block_slots}
use Rattle.code_forms.specs.Setting.{size_of, slots_of_names}
use Rattle.code_forms.specs.Texts.{texts_of}
use Rattle.code_forms.proofs.StatementLengths.{functions_have_their_size}
use Rattle.code_follows.proofs.NamesGrow.{grows_after_block}

-- each parameter takes one slot
parameter_slots : (ps : List ParameterTree) (more : Names) → length ps ≤ slots_of_names (map (λ p. (p.name, declared_type p.declared)) ps ++ more)
parameter_slots [] more = omega arith
parameter_slots (p ∷ ps) more = by_type p.declared (parameter_slots ps more)
  where
    by_type : (t : DeclaredType) → length ps ≤ slots_of_names (map (λ p. (p.name, declared_type p.declared)) ps ++ more) → suc (length ps) ≤ size_of (declared_type t) + slots_of_names (map (λ p. (p.name, declared_type p.declared)) ps ++ more)
    by_type D.Int32 e = omega (arith, e)
    by_type D.Int64 e = omega (arith, e)
    by_type D.Bool e = omega (arith, e)

at_most_more : (a b c : ℕ) → a ≤ b → a ≤ b + c
at_most_more a b c less = omega (arith, less)

module _ (program : ProgramTree) (plain texts : List Bytes) where
  abbrev entries : ℕ → ProgramTree → List CodeFunction
  entries place fs = entries_of program plain texts place fs

  abbrev entry : ℕ → FunctionTree → CodeFunction
  entry place f = entry_of program plain place f

  same_entry : (place : ℕ) (f : FunctionTree) (g : CodeFunction) → Some (entry place f) ≡ Some g → entry place f ≡ g
  same_entry place f g e = ap (λ o. unwrap_or o (entry place f)) e

  first_at : (fs : ProgramTree) (place : ℕ) (g : CodeFunction) → slice_get (entries place fs) 0 ≡ Some g → g.first ≡ place
  first_at [] place g e = absurd (false≢true (ap is_some e))
  first_at (f ∷ fs) place g e = ap (λ x. x.first) (sym (same_entry place f g e))

  rises : (fs : ProgramTree) (place k : ℕ) (g h : CodeFunction) → slice_get (entries place fs) k ≡ Some g → slice_get (entries place fs) (k + 1) ≡ Some h → g.first < h.first
  rises [] place k g h e e' = absurd (false≢true (ap is_some e))
  rises (f ∷ fs) place zero g h e e' =
      let a : g.first ≡ place = first_at (f ∷ fs) place g e in
      let b : h.first ≡ place + function_size program texts f = first_at fs (place + function_size program texts f) h e' in
      omega (arith, a, b)
  rises (f ∷ fs) place (suc k) g h e e' =
      let same : suc k + 1 ≡ suc (k + 1) = omega arith in
      rises fs (place + function_size program texts f) k g h e (subst (λ n. slice_get (entries place (f ∷ fs)) n ≡ Some h) same e')

  inside : (fs : ProgramTree) (place k : ℕ) (g : CodeFunction) → slice_get (entries place fs) k ≡ Some g → g.first < place + length (functions_code program texts place fs)
  inside [] place k g e = absurd (false≢true (ap is_some e))
  inside (f ∷ fs) place zero g e =
      let a : g.first ≡ place = first_at (f ∷ fs) place g e in
      let own = function_code program texts place f in
      let others = functions_code program texts (place + function_size program texts f) fs in
      omega (arith, a, length-append own others, functions_have_their_size program texts place f)
  inside (f ∷ fs) place (suc k) g e =
      let own = function_code program texts place f in
      let others = functions_code program texts (place + function_size program texts f) fs in
      omega (arith, inside fs (place + function_size program texts f) k g e, length-append own others, functions_have_their_size program texts place f)

  roomy : (fs : ProgramTree) (place k : ℕ) (g : CodeFunction) → slice_get (entries place fs) k ≡ Some g → g.params ≤ g.slots
  roomy [] place k g e = absurd (false≢true (ap is_some e))
  roomy (f ∷ fs) place zero g e =
      let first = map (λ p. (p.name, declared_type p.declared)) f.parameters in
      let grown = grows_after_block program f.body first in
      let slots : length f.parameters ≤ slots_of_names (names_of program f) = subst (λ ns. length f.parameters ≤ slots_of_names ns) (sym grown.1) (parameter_slots f.parameters grown.0) in
      let here : (entry place f).params ≤ (entry place f).slots = at_most_more (length f.parameters) (slots_of_names (names_of program f)) (block_slots f.body) slots in
      subst (λ x. x.params ≤ x.slots) (same_entry place f g e) here
  roomy (f ∷ fs) place (suc k) g e = roomy fs (place + function_size program texts f) k g e

-- the functions stand in order
pub has_order : (program : ProgramTree) → HasOrder (code_of_program program)
has_order program =
    let plain = plain_names [] program in
    let texts = texts_of program in
    record {
      from_zero = λ f e. first_at program plain texts program 0 f e;
      rising = λ k f g e e'. rises program plain texts program 0 k f g e e';
      within = λ k f e. let less = inside program plain texts program 0 k f e in omega (arith, less);
      room = λ k f e. roomy program plain texts program 0 k f e;
    }
