-- The names of a function as pairs, and the functions of a name.
use Rattle.std.proofs.Common.{◌≡◌, Bool, true, false, List, [], ◌∷◌, ◌||◌, map, Option, None, Some, Bor, option_map, is_some, find, refl, sym, ap, ◌∙◌, bytes_eq}
use Rattle.std.specs.Option.{option_copied}
use Rattle.std.specs.List.{list_any}
use Rattle.kern_syntax.specs.declared.program.Function.{Function}
use Rattle.kern_syntax.specs.Tree.{Bytes}
use Rattle.kern_syntax.specs.TreeOf.{function_of, tree_of}
use Rattle.kern_calls.specs.declared.types.ValueType.{ValueType}
use Rattle.kern_calls.specs.Calls.{look_up}
use Rattle.kern_calls.specs.Types.{function_named}
use Rattle.kern_expression_types.specs.declared.names.Local.{Local}
use Rattle.kern_expression_types.specs.Before.{is_in}
use Rattle.kern_expression_types.specs.FunctionNames.{function_names}

-- a name with its type
abbrev pub pair_of : Local → Bytes × ValueType
pair_of l = (l.name.now, l.kind)

-- the type of a name is that of the first that is found
pub look_up-pairs : (locals : List Local) (x : Bytes) → look_up (map pair_of locals) x ≡ option_map (λ l. l.kind) (find (λ l. bytes_eq x l.name.now) locals)
look_up-pairs [] x = refl
look_up-pairs (l ∷ locals) x = by (bytes_eq x l.name.now) refl (look_up-pairs locals x)
  where
    by : (b : Bool) → bytes_eq x l.name.now ≡ b → look_up (map pair_of locals) x ≡ option_map (λ l. l.kind) (find (λ l. bytes_eq x l.name.now) locals) → look_up (map pair_of (l ∷ locals)) x ≡ option_map (λ l. l.kind) (find (λ l. bytes_eq x l.name.now) (l ∷ locals))
    by true is rest = rw is refl
    by false is rest = rw is rest

-- a function has a name where the name is one of theirs
pub is_in-functions : (functions : List Function) (x : Bytes) → is_in (function_names functions) x ≡ is_some (function_named (tree_of functions) x)
is_in-functions [] x = refl
is_in-functions (f ∷ functions) x = by (bytes_eq x f.name) refl (is_in-functions functions x)
  where
    by : (b : Bool) → bytes_eq x f.name ≡ b → is_in (function_names functions) x ≡ is_some (function_named (tree_of functions) x) → is_in (function_names (f ∷ functions)) x ≡ is_some (function_named (tree_of (f ∷ functions)) x)
    by true is rest = rw is refl
    by false is rest = rw is rest

-- a name among borrowed ones
pub list_any-borrowed : (names : List (Bor Bytes)) (x : Bytes) → list_any (λ n. bytes_eq x n.now) names ≡ is_in (map (λ n. n.now) names) x
list_any-borrowed [] x = refl
list_any-borrowed (n ∷ names) x = ap (λ b. bytes_eq x n.now || b) (list_any-borrowed names x)

-- the function of a name among trees is that of the name among functions
named-tree_of : (fs : List Function) (x : Bytes) → function_named (tree_of fs) x ≡ option_map function_of (find (λ f. bytes_eq x f.name) fs)
named-tree_of [] x = refl
named-tree_of (f ∷ fs) x = by (bytes_eq x f.name) refl (named-tree_of fs x)
  where
    by : (b : Bool) → bytes_eq x f.name ≡ b → function_named (tree_of fs) x ≡ option_map function_of (find (λ f. bytes_eq x f.name) fs) → function_named (tree_of (f ∷ fs)) x ≡ option_map function_of (find (λ f. bytes_eq x f.name) (f ∷ fs))
    by true is rest = rw is refl
    by false is rest = rw is rest

copied-map : (r : Option (Bor Function)) → option_map (λ f. function_of f.now) r ≡ option_map function_of (option_copied r)
copied-map None = refl
copied-map (Some f) = refl

-- a function that is found, as a tree
pub callee-found : (r : Option (Bor Function)) (fs : List Function) (x : Bytes) → option_copied r ≡ find (λ f. bytes_eq x f.name) fs → option_map (λ f. function_of f.now) r ≡ function_named (tree_of fs) x
callee-found r fs x found =
    copied-map r ∙ ap (option_map function_of) found ∙ sym (named-tree_of fs x)

-- a function is found where the name is one of theirs
pub found-among : (r : Option (Bor Function)) (fs : List Function) (x : Bytes) → option_copied r ≡ find (λ f. bytes_eq x f.name) fs → is_some r ≡ is_in (function_names fs) x
found-among r fs x found =
    some-copied r ∙ ap is_some found ∙ sym (ap is_some (named-tree_of fs x) ∙ some-tree (find (λ f. bytes_eq x f.name) fs)) ∙ sym (is_in-functions fs x)
  where
    some-copied : (o : Option (Bor Function)) → is_some o ≡ is_some (option_copied o)
    some-copied None = refl
    some-copied (Some f) = refl

    some-tree : (o : Option Function) → is_some (option_map function_of o) ≡ is_some o
    some-tree None = refl
    some-tree (Some f) = refl

-- the type of a local that is found
pub local-found : (r : Option (Bor Local)) (locals : List Local) (x : Bytes) → option_copied r ≡ find (λ l. bytes_eq x l.name.now) locals → option_map (λ l. l.now.kind) r ≡ look_up (map pair_of locals) x
local-found r locals x found =
    copied r ∙ ap (option_map (λ l. l.kind)) found ∙ sym (look_up-pairs locals x)
  where
    copied : (o : Option (Bor Local)) → option_map (λ l. l.now.kind) o ≡ option_map (λ l. l.kind) (option_copied o)
    copied None = refl
    copied (Some l) = refl
