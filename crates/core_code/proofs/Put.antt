-- Functions that are put, and those that are left.
use Rattle.std.proofs.Common.{◌≡◌, ℕ, suc, ◌+◌, ◌<◌, List, [], ◌∷◌, ◌++◌, length, take, drop, get_or, slice_get, Some, refl, sym, ◌∙◌, ap, subst, arith, append_assoc, append-nil, length-append}
use Rattle.kern_syntax.specs.declared.program.Function.{Function}
use Rattle.kern_syntax.specs.Tree.{Bytes, FunctionTree, ProgramTree}
use Rattle.kern_syntax.specs.TreeOf.{function_of, tree_of}
use Rattle.kern_expression_types.proofs.Lists.{drop-item}
use Rattle.core_isa.specs.declared.code.CodeFunction.{CodeFunction}
use Rattle.core_isa.specs.declared.code.CodeLine.{CodeLine}
use Rattle.code_forms.specs.Programs.{entry_of, entries_of, function_code, function_size, functions_code}
use Rattle.code_forms.proofs.StatementLengths.{functions_have_their_size}
use Rattle.code_law.specs.Laws.{IsReadyFunction}
use Rattle.core_code.specs.Ready.{AreReadyFrom}

-- some functions are put, the others are left and can be
pub record IsPut (program : ProgramTree) (plain texts : List Bytes) (all left : List FunctionTree) (entries : List CodeFunction) (lines : List CodeLine) : Type 0 where
  pub entered : entries ++ entries_of program plain texts (length lines) left ≡ entries_of program plain texts 0 all
  pub coded : lines ++ functions_code program texts (length lines) left ≡ functions_code program texts 0 all
  pub ready : AreReadyFrom program texts (length lines) left

-- none is put yet
pub none_put : (program : ProgramTree) (plain texts : List Bytes) (all : List FunctionTree) → AreReadyFrom program texts 0 all → IsPut program plain texts all all [] []
none_put program plain texts all ready = record { entered = refl; coded = refl; ready = ready }

-- one more is put
pub one_put : (program : ProgramTree) (plain texts : List Bytes) (all left : List FunctionTree) (f : FunctionTree) (entries entries' : List CodeFunction) (lines lines' : List CodeLine) → IsPut program plain texts all (f ∷ left) entries lines → entries' ≡ entries ++ entry_of program plain (length lines) f ∷ [] → lines' ≡ lines ++ function_code program texts (length lines) f → length lines' ≡ length lines + function_size program texts f → IsPut program plain texts all left entries' lines'
one_put program plain texts all left f entries entries' lines lines' before entered coded longer =
    let next = length lines + function_size program texts f in
    let entry = entry_of program plain (length lines) f in
    let own = function_code program texts (length lines) f in
    record {
      entered =
          ap (λ n. entries' ++ entries_of program plain texts n left) longer
          ∙ ap (λ l. l ++ entries_of program plain texts next left) entered
          ∙ append_assoc entries (entry ∷ []) (entries_of program plain texts next left)
          ∙ before.entered;
      coded =
          ap (λ n. lines' ++ functions_code program texts n left) longer
          ∙ ap (λ l. l ++ functions_code program texts next left) coded
          ∙ append_assoc lines own (functions_code program texts next left)
          ∙ before.coded;
      ready = subst (λ n. AreReadyFrom program texts n left) (sym longer) before.ready.1;
    }

-- the function at an index is put
pub put_at : (program : ProgramTree) (plain texts : List Bytes) (functions : List Function) (i : ℕ) (f : Function) (entries entries' : List CodeFunction) (lines lines' : List CodeLine) → i < length functions → f ≡ get_or functions i f → IsPut program plain texts (tree_of functions) (tree_of (drop i functions)) entries lines → entries' ≡ entries ++ entry_of program plain (length lines) (function_of f) ∷ [] → lines' ≡ lines ++ function_code program texts (length lines) (function_of f) → length lines' ≡ length lines + function_size program texts (function_of f) → IsPut program plain texts (tree_of functions) (tree_of (drop (i + 1) functions)) entries' lines'
put_at program plain texts functions i f entries entries' lines lines' within is before entered coded longer =
    one_put program plain texts (tree_of functions) (tree_of (drop (i + 1) functions)) (function_of f) entries entries' lines lines' (subst (λ l. IsPut program plain texts (tree_of functions) (tree_of l) entries lines) (drop-item functions i f within is) before) entered coded longer

-- and it could be
pub ready_at : (program : ProgramTree) (plain texts : List Bytes) (functions : List Function) (i : ℕ) (f : Function) (entries : List CodeFunction) (lines : List CodeLine) → i < length functions → f ≡ get_or functions i f → IsPut program plain texts (tree_of functions) (tree_of (drop i functions)) entries lines → IsReadyFunction program texts (length lines) (function_of f)
ready_at program plain texts functions i f entries lines within is before =
    (subst (λ l. IsPut program plain texts (tree_of functions) (tree_of l) entries lines) (drop-item functions i f within is) before).ready.0

-- all are put
pub all_entered : (program : ProgramTree) (plain texts : List Bytes) (all : List FunctionTree) (entries : List CodeFunction) (lines : List CodeLine) → IsPut program plain texts all [] entries lines → entries ≡ entries_of program plain texts 0 all
all_entered program plain texts all entries lines put = sym (append-nil entries) ∙ put.entered

pub all_coded : (program : ProgramTree) (plain texts : List Bytes) (all : List FunctionTree) (entries : List CodeFunction) (lines : List CodeLine) → IsPut program plain texts all [] entries lines → lines ≡ functions_code program texts 0 all
all_coded program plain texts all entries lines put = sym (append-nil lines) ∙ put.coded

-- each function is ready at its place, so they are one behind the other
ready_behind : (program : ProgramTree) (texts : List Bytes) (place : ℕ) (fs : List FunctionTree) → ((k : ℕ) (f : FunctionTree) → slice_get fs k ≡ Some f → IsReadyFunction program texts (place + length (functions_code program texts place (take k fs))) f) → AreReadyFrom program texts place fs
ready_behind program texts place [] each = tt
ready_behind program texts place (f ∷ fs) each =
    let first : place + 0 ≡ place = omega arith in
    let next = place + function_size program texts f in (
      subst (λ n. IsReadyFunction program texts n f) first (each 0 f refl),
      ready_behind program texts next fs (λ k g e.
          let rest = functions_code program texts next (take k fs) in
          let same : place + length (function_code program texts place f ++ rest) ≡ next + length rest = omega (arith, length-append (function_code program texts place f) rest, functions_have_their_size program texts place f) in
          subst (λ n. IsReadyFunction program texts n g) same (each (suc k) g e)),
    )

pub ready_from_zero : (program : ProgramTree) (texts : List Bytes) (fs : List FunctionTree) → ((k : ℕ) (f : FunctionTree) → slice_get fs k ≡ Some f → IsReadyFunction program texts (length (functions_code program texts 0 (take k fs))) f) → AreReadyFrom program texts 0 fs
ready_from_zero program texts fs each =
    ready_behind program texts 0 fs (λ k f e.
    let same : length (functions_code program texts 0 (take k fs)) ≡ 0 + length (functions_code program texts 0 (take k fs)) = omega arith in
    subst (λ n. IsReadyFunction program texts n f) same (each k f e))
