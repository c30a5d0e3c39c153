-- The plain functions, one function after another.
use Rattle.std.proofs.Common.{◌≡◌, ℕ, ◌+◌, ◌<◌, Bool, true, false, not, ◌&&◌, List, [], ◌∷◌, ◌++◌, Bor, map, length, drop, get_or, refl, sym, ap, ◌∙◌}
use Rattle.std.specs.Prelude.{if◌then◌else◌}
use Rattle.std.proofs.lemmas.List.{map-append}
use Rattle.kern_syntax.specs.declared.program.Function.{Function}
use Rattle.kern_syntax.specs.Tree.{Bytes, FunctionTree}
use Rattle.kern_syntax.specs.TreeOf.{function_of, tree_of}
use Rattle.kern_expression_types.specs.Before.{is_in, with_member}
use Rattle.kern_expression_types.proofs.Lists.{drop-item}
use Rattle.kern_plain.specs.Plain.{is_plain_function, with_plain}
use Rattle.kern_plain.specs.PlainFunctions.{plain_names}

-- borrowed names
abbrev pub names_of : List (Bor Bytes) → List Bytes
names_of plain = map (λ n. n.now) plain

-- whether a function is plain and its name is new
abbrev pub is_new : List Bytes → FunctionTree → Bool
is_new plain f = is_plain_function plain f && not (is_in plain f.name)

by-tests : (plain : List Bytes) (name : Bytes) (b d : Bool) → is_in plain name ≡ d → (if b then with_member plain name else plain) ≡ (if (b && not d) then plain ++ name ∷ [] else plain)
by-tests plain name true true is = rw is refl
by-tests plain name true false is = rw is refl
by-tests plain name false d is = refl

-- the plain functions after one more
pub with_plain-new : (plain : List Bytes) (f : FunctionTree) → with_plain plain f ≡ (if is_new plain f then plain ++ f.name ∷ [] else plain)
with_plain-new plain f =
    by-tests plain f.name (is_plain_function plain f) (is_in plain f.name) refl

-- a name that is put behind others
pub put-new : (before after : List (Bor Bytes)) (name : Bor Bytes) (f : FunctionTree) → after ≡ before ++ name ∷ [] → name.now ≡ f.name → true ≡ is_new (names_of before) f → names_of after ≡ with_plain (names_of before) f
put-new before after name f put is new =
    ap names_of put
    ∙ map-append (λ (n : Bor Bytes). n.now) before (name ∷ [])
    ∙ ap (λ x. names_of before ++ x ∷ []) is
    ∙ sym (with_plain-new (names_of before) f ∙ ap (λ b. if b then names_of before ++ f.name ∷ [] else names_of before) (sym new))

-- a name that isn't put there
pub put-none : (before : List (Bor Bytes)) (f : FunctionTree) → false ≡ is_new (names_of before) f → names_of before ≡ with_plain (names_of before) f
put-none before f old =
    sym (with_plain-new (names_of before) f ∙ ap (λ b. if b then names_of before ++ f.name ∷ [] else names_of before) (sym old))

-- one function more
pub plain_step : (functions : List Function) (whole before after : List Bytes) (i : ℕ) (f : Function) → i < length functions → f ≡ get_or functions i f → whole ≡ plain_names before (tree_of (drop i functions)) → after ≡ with_plain before (function_of f) → whole ≡ plain_names after (tree_of (drop (i + 1) functions))
plain_step functions whole before after i f within is first put =
    first ∙ ap (λ l. plain_names before (tree_of l)) (drop-item functions i f within is) ∙ ap (λ names. plain_names names (tree_of (drop (i + 1) functions))) (sym put)
