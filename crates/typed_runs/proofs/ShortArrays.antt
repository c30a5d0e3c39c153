-- No array among the names of a typed function is too long for its length to be an int32.
use Rattle.std.proofs.Common.{◌≡◌, ℕ, ◌<◌, ◌≤◌, ◌^◌, List, [], ◌∷◌, ◌++◌, Option, Some, ap, subst, arith}
use Rattle.std.specs.Prelude.{Bool, true, false, bytes_eq, is_some, unwrap_or, if◌then◌else◌}
use Rattle.std.proofs.lemmas.Bool.{false≢true}
use Rattle.kern_syntax.specs.declared.program.DeclaredType.{DeclaredType}
use Rattle.kern_syntax.specs.declared.program.DeclaredType.TheVariants as D
use Rattle.kern_syntax.specs.Tree.{Bytes, Expression, Statement, Block, Otherwise, Handlers, ParameterTree}
use Rattle.kern_calls.specs.declared.types.ValueType.{ValueType}
use Rattle.kern_calls.specs.declared.types.ValueType.TheVariants as V
use Rattle.kern_calls.specs.Calls.{look_up}
use Rattle.kern_calls.specs.Types.{Names, declared_type}
use Rattle.kern_expression_types.specs.Before.{Functions}
use Rattle.kern_judgement.specs.Fitting.{Standing, IsInteger, IsScalar}
use Rattle.kern_judgement.specs.Fitting as F
use Rattle.kern_judgement.specs.Statements.{Takes, new, kept, HasBounds, from_zero, between, IsTypedStatement, of_pass, of_break, of_continue, of_return, of_evaluate, of_assign, of_assign_element, of_augment, of_augment_element, of_assign_repeated, of_assign_list, of_if, of_while, of_for, of_parallel, of_sequential, of_record, of_try, IsTypedBlock, of_done, of_line, AreTypedBranches, of_no_else, of_else, of_elif, AreTypedHandlers, of_no_handler, of_except}
use Rattle.kern_judgement.specs.Programs.{HasParameters, none, one}
use Rattle.typed_runs.proofs.Numbers.{wider_integer}
use Rattle.typed_runs.proofs.Expressions.{HasShortArrays}

-- an array of at most 512 numbers, or no array
abbrev pub IsShort : ValueType → Type 0
IsShort (V.Array n) = n ≤ 512
IsShort t = Unit {0}

-- no array among the names is longer
abbrev pub AreShort : Names → Type 0
AreShort [] = Unit {0}
AreShort (name ∷ names) = IsShort name.1 × AreShort names

short_is : (t : ValueType) (n : ℕ) → IsShort t → t ≡ V.Array n → n < 2 ^ 31
short_is t n s e = let short : IsShort (V.Array n) = subst IsShort e s in omega (arith, short)

-- such names have short arrays
pub short_found : (names : Names) → AreShort names → HasShortArrays names
short_found [] s x n e = absurd (false≢true (ap is_some e))
short_found (name ∷ names) s x n e = by_test (bytes_eq x name.0) e (short_found names s.1 x n)
  where
    by_test : (b : Bool) → (if b then Some name.1 else look_up names x) ≡ Some (V.Array n)
        → (look_up names x ≡ Some (V.Array n) → n < 2 ^ 31) → n < 2 ^ 31
    by_test true e' k = short_is name.1 n s.0 (ap (λ o. unwrap_or o name.1) e')
    by_test false e' k = k e'

short_behind : (names : Names) (x : Bytes) (t : ValueType) → AreShort names → IsShort t → AreShort (names ++ (x, t) ∷ [])
short_behind [] x t s own = (own, tt)
short_behind (name ∷ names) x t s own = (s.0, short_behind names x t s.1 own)

integer_short : {t : ValueType} → IsInteger t → IsShort t
integer_short F.int32 = tt
integer_short F.int64 = tt

scalar_short : {t : ValueType} → IsScalar t → IsShort t
scalar_short (F.integer i) = integer_short i
scalar_short F.bool = tt

declared_short : (declared : DeclaredType) → IsShort (declared_type declared)
declared_short D.Int32 = tt
declared_short D.Int64 = tt
declared_short D.Bool = tt

module _ (functions : Functions) where
  short_takes : {x : Bytes} {t : ValueType} {names after : Names} → Takes functions x t names after → IsShort t → AreShort names
      → AreShort after
  short_takes {x} {t} {names} (new free lacking room) own s = short_behind names x t s own
  short_takes (kept free there keeps) own s = s

  bounds_short : {here : Standing} {names : Names} {from : Option Expression} {to : Expression} {t : ValueType}
      → HasBounds functions here names from to t → IsShort t
  bounds_short (from_zero h whole) = integer_short whole
  bounds_short (between {t} {u} h whole k also) = integer_short (wider_integer t u whole also)

  mutual
    -- a typed statement adds no longer array
    short_statement : {here : Standing} {names after : Names} {s : Statement} → IsTypedStatement functions here names s after
        → AreShort names → AreShort after
    short_statement of_pass s = s
    short_statement (of_break l) s = s
    short_statement (of_continue l) s = s
    short_statement (of_return r m) s = s
    short_statement (of_evaluate h n) s = s
    short_statement (of_assign h n takes) s = short_takes takes (scalar_short n) s
    short_statement (of_assign_element a i e) s = s
    short_statement (of_augment l i h u k) s = s
    short_statement (of_augment_element a i e) s = s
    short_statement (of_assign_repeated h l m takes) s = short_takes takes m s
    short_statement (of_assign_list h l m takes) s = short_takes takes m s
    short_statement (of_if h body rest) s = short_branches rest (short_block body s)
    short_statement (of_while h body) s = short_block body s
    short_statement (of_for bounds takes body) s = short_block body (short_takes takes (bounds_short bounds) s)
    short_statement (of_parallel body) s = short_block body s
    short_statement (of_sequential body) s = short_block body s
    short_statement (of_record r body) s = short_block body s
    short_statement (of_try body handlers) s = short_handlers handlers (short_block body s)

    pub short_block : {here : Standing} {names after : Names} {b : Block} → IsTypedBlock functions here names b after → AreShort names
        → AreShort after
    short_block of_done s = s
    short_block (of_line first rest) s = short_block rest (short_statement first s)

    short_branches : {here : Standing} {names after : Names} {rest : Otherwise} → AreTypedBranches functions here names rest after
        → AreShort names → AreShort after
    short_branches of_no_else s = s
    short_branches (of_else body) s = short_block body s
    short_branches (of_elif h body rest) s = short_branches rest (short_block body s)

    short_handlers : {here : Standing} {names after : Names} {handlers : Handlers}
        → AreTypedHandlers functions here names handlers after → AreShort names → AreShort after
    short_handlers of_no_handler s = s
    short_handlers (of_except e body rest) s = short_handlers rest (short_block body s)

  -- nor do parameters
  pub short_parameters : {names after : Names} {parameters : List ParameterTree} → HasParameters functions names parameters after
      → AreShort names → AreShort after
  short_parameters none s = s
  short_parameters {names} (one {p} l t r more) s =
      short_parameters more (short_behind names p.name (declared_type p.declared) s (declared_short p.declared))
