-- The functions of a typed program are suited, and the plain ones also where a recording is open.
use Rattle.std.proofs.Common.{◌≡◌, ℕ, zero, suc, ◌+◌, ◌≤◌, List, [], ◌∷◌, ◌++◌, length, map, slice_get, Some, None, refl, sym, ◌∙◌, ap, subst, arith, append_assoc, append-nil, length-append}
use Rattle.std.specs.Prelude.{Bool, true, false, ◌||◌, nat_le, bytes_eq, is_some, unwrap_or, IsTrue, if◌then◌else◌}
use Rattle.std.proofs.lemmas.Bool.{false≢true}
use Rattle.std.proofs.lemmas.Slice.Eq.{bytes_eq-Decides}
use Rattle.kern_syntax.specs.Spellable.{AreSpellableLines, IsSpellableProgram}
use Rattle.kern_syntax.specs.declared.program.DeclaredType.{DeclaredType}
use Rattle.kern_syntax.specs.declared.program.DeclaredType.TheVariants as D
use Rattle.kern_syntax.specs.Tree.{Bytes, ParameterTree, FunctionTree, ProgramTree}
use Rattle.kern_calls.specs.Calls.{look_up}
use Rattle.kern_calls.specs.Types.{Names, declared_type, function_named, names_after_block, names_of}
use Rattle.kern_expression_types.specs.declared.fault.TypeKind.TheVariants as K
use Rattle.kern_expression_types.specs.Before.{Functions, is_in, with_member, is_reserved, is_taken}
use Rattle.kern_expression_types.specs.Verdicts.{Verdict, well, fault, ◌>>=◌, refuse_if, is_well}
use Rattle.kern_types.specs.Plain.{is_plain_function, with_plain}
use Rattle.kern_types.specs.Programs.{most_functions, most_parameters, parameter_verdict, parameters_verdict, body_place, body_functions, body_verdict, function_verdict, functions_verdict, program_verdict, IsTyped}
use Rattle.kern_types.specs.Statements.{block_verdict}
use Rattle.code_forms.specs.Programs.{setting_of, plain_names}
use Rattle.code_forms.specs.Suited.{is_scalar, AreSized, IsSuitedProgram}
use Rattle.code_forms.specs.Texts.{texts_of}
use Rattle.code_forms.proofs.Found.{found_passes}
use Rattle.code_suited.proofs.Inverted.{same_found, inverted, not_refused}
use Rattle.code_suited.proofs.NamesGrow.{Kept, kept_same, AllSmall, small_found, scalar_small}
use Rattle.code_suited.proofs.Plain.{open_block}
use Rattle.code_suited.proofs.Statements.{sound_block, suited_block}

well_is : (v : Verdict (Unit {0})) → IsTrue (is_well v) → v ≡ well tt
well_is (well u) e = refl
well_is (fault line kind) e = absurd (false≢true e)

either_false : (a b : Bool) → (a || b) ≡ false → a ≡ false
either_false true b e = absurd (false≢true (sym e))
either_false false b e = refl

-- the parameters are the first names, in their order
abbrev named : List ParameterTree → Names
named ps = map (λ p. (p.name, declared_type p.declared)) ps

declared_scalar : (t : DeclaredType) → is_scalar (declared_type t) ≡ true
declared_scalar D.Int32 = refl
declared_scalar D.Int64 = refl
declared_scalar D.Bool = refl

parameters_sized : (ps : List ParameterTree) → AreSized (named ps)
parameters_sized [] = tt
parameters_sized (p ∷ ps) = (scalar_small (declared_type p.declared) (declared_scalar p.declared), parameters_sized ps)

named_count : (ps : List ParameterTree) → length (named ps) ≡ length ps
named_count [] = refl
named_count (p ∷ ps) = ap suc (named_count ps)

parameters_small : (ps : List ParameterTree) → length ps ≤ 8 → AllSmall (named ps)
parameters_small ps few = (parameters_sized ps, omega (arith, few, named_count ps))

room_left : (n : ℕ) → nat_le most_parameters n ≡ false → n + 1 ≤ 8
room_left n e = grind (arith, e)

parameters_are : (functions : Functions) (line : ℕ) (ps : List ParameterTree) (names after : Names) → parameters_verdict functions line ps names ≡ well after → after ≡ names ++ named ps
parameters_are functions line [] names after e = sym (same_found e) ∙ sym (append-nil names)
parameters_are functions line (p ∷ ps) names after e =
    let a = inverted (parameter_verdict functions line p names) (λ m. parameters_verdict functions line ps m) after e in
    let b = inverted (refuse_if (is_some (look_up names p.name) || is_taken functions p.name) line K.Name) (λ z. refuse_if (nat_le most_parameters (length names)) line K.Size >>= λ y. well (names ++ (p.name, declared_type p.declared) ∷ [])) a.0 a.1 in
    let c = inverted (refuse_if (nat_le most_parameters (length names)) line K.Size) (λ y. well (names ++ (p.name, declared_type p.declared) ∷ [])) a.0 b.2 in
    parameters_are functions line ps a.0 after a.2 ∙ ap (λ l. l ++ named ps) (sym (same_found c.2)) ∙ append_assoc names ((p.name, declared_type p.declared) ∷ []) (named ps)

-- there are at most 8
parameters_few : (functions : Functions) (line : ℕ) (ps : List ParameterTree) (names after : Names) → length names ≤ 8 → parameters_verdict functions line ps names ≡ well after → length names + length ps ≤ 8
parameters_few functions line [] names after less e = omega (arith, less)
parameters_few functions line (p ∷ ps) names after less e =
    let a = inverted (parameter_verdict functions line p names) (λ m. parameters_verdict functions line ps m) after e in
    let b = inverted (refuse_if (is_some (look_up names p.name) || is_taken functions p.name) line K.Name) (λ z. refuse_if (nat_le most_parameters (length names)) line K.Size >>= λ y. well (names ++ (p.name, declared_type p.declared) ∷ [])) a.0 a.1 in
    let c = inverted (refuse_if (nat_le most_parameters (length names)) line K.Size) (λ y. well (names ++ (p.name, declared_type p.declared) ∷ [])) a.0 b.2 in
    let one : length a.0 ≡ length names + 1 = ap length (sym (same_found c.2)) ∙ length-append names ((p.name, declared_type p.declared) ∷ []) in
    let left : length names + 1 ≤ 8 = room_left (length names) (not_refused _ _ _ c.0 c.1) in
    omega (arith, one, parameters_few functions line ps a.0 after (omega (arith, one, left)) a.2)

-- a function that is found among some is found among more
found_in_more : (fs more : ProgramTree) (name : Bytes) (f : FunctionTree) → function_named fs name ≡ Some f → function_named (fs ++ more) name ≡ Some f
found_in_more [] more name f e = absurd (false≢true (ap is_some e))
found_in_more (g ∷ fs) more name f e = by_test (bytes_eq name g.name) e (found_in_more fs more name f)
  where
    by_test : (b : Bool) → (if b then Some g else function_named fs name) ≡ Some f → (function_named fs name ≡ Some f → function_named (fs ++ more) name ≡ Some f) → (if b then Some g else function_named (fs ++ more) name) ≡ Some f
    by_test true e' k = e'
    by_test false e' k = k e'

some_in_more : (fs more : ProgramTree) (name : Bytes) → is_some (function_named fs name) ≡ true → is_some (function_named (fs ++ more) name) ≡ true
some_in_more [] more name e = absurd (false≢true e)
some_in_more (g ∷ fs) more name e = by_test (bytes_eq name g.name) e (some_in_more fs more name)
  where
    by_test : (b : Bool) → is_some (if b then Some g else function_named fs name) ≡ true → (is_some (function_named fs name) ≡ true → is_some (function_named (fs ++ more) name) ≡ true) → is_some (if b then Some g else function_named (fs ++ more) name) ≡ true
    by_test true e' k = refl
    by_test false e' k = k e'

some_last : (fs : ProgramTree) (f : FunctionTree) → is_some (function_named (fs ++ f ∷ []) f.name) ≡ true
some_last [] f = ap (λ b. is_some (if b then Some f else None)) ((bytes_eq-Decides f.name f.name).1 refl)
some_last (g ∷ fs) f = by_test (bytes_eq f.name g.name) (some_last fs f)
  where
    by_test : (b : Bool) → is_some (function_named (fs ++ f ∷ []) f.name) ≡ true → is_some (if b then Some g else function_named (fs ++ f ∷ []) f.name) ≡ true
    by_test true e = refl
    by_test false e = e

-- a name among more names
in_more : (names : List Bytes) (more name : Bytes) → is_in names name ≡ true → is_in (names ++ more ∷ []) name ≡ true
in_more [] more name e = absurd (false≢true e)
in_more (n ∷ names) more name e = by_test (bytes_eq name n) e (in_more names more name)
  where
    by_test : (b : Bool) → (b || is_in names name) ≡ true → (is_in names name ≡ true → is_in (names ++ more ∷ []) name ≡ true) → (b || is_in (names ++ more ∷ []) name) ≡ true
    by_test true e' k = refl
    by_test false e' k = k e'

-- a name that is among more names is among the first, or the last one
in_or_last : (names : List Bytes) (more name : Bytes) (P : Type 0) → (is_in names name ≡ true → P) → (name ≡ more → P) → is_in (names ++ more ∷ []) name ≡ true → P
in_or_last [] more name P f g e = g ((bytes_eq-Decides name more).0 (by_test (bytes_eq name more) e))
  where
    by_test : (b : Bool) → (b || false) ≡ true → b ≡ true
    by_test true e' = refl
    by_test false e' = absurd (false≢true e')
in_or_last (n ∷ names) more name P f g e = by_test (bytes_eq name n) refl e (λ h. in_or_last names more name P h g)
  where
    by_test : (b : Bool) → bytes_eq name n ≡ b → (b || is_in (names ++ more ∷ []) name) ≡ true → ((is_in names name ≡ true → P) → is_in (names ++ more ∷ []) name ≡ true → P) → P
    by_test true q e' k = f (ap (λ b. b || is_in names name) q)
    by_test false q e' k = k (λ h. f (ap (λ b. b || is_in names name) q ∙ h)) e'

with_plain_keeps : (plain : List Bytes) (f : FunctionTree) (name : Bytes) → is_in plain name ≡ true → is_in (with_plain plain f) name ≡ true
with_plain_keeps plain f name e = by_plain (is_plain_function plain f)
  where
    member : (b : Bool) → is_in (if b then plain else plain ++ f.name ∷ []) name ≡ true
    member true = e
    member false = in_more plain f.name name e

    by_plain : (b : Bool) → is_in (if b then with_member plain f.name else plain) name ≡ true
    by_plain true = member (is_in plain f.name)
    by_plain false = e

plain_grows : (plain : List Bytes) (fs : ProgramTree) (name : Bytes) → is_in plain name ≡ true → is_in (plain_names plain fs) name ≡ true
plain_grows plain [] name e = e
plain_grows plain (f ∷ fs) name e = plain_grows (with_plain plain f) fs name (with_plain_keeps plain f name e)

-- what a further function makes plain is its own name, where it is plain
with_plain_is : (plain : List Bytes) (f : FunctionTree) (name : Bytes) (P : Type 0) → (is_in plain name ≡ true → P) → (name ≡ f.name → is_plain_function plain f ≡ true → P) → is_in (with_plain plain f) name ≡ true → P
with_plain_is plain f name P known own e = by_plain (is_plain_function plain f) refl e
  where
    member : is_plain_function plain f ≡ true → (b : Bool) → is_in (if b then plain else plain ++ f.name ∷ []) name ≡ true → P
    member p true e' = known e'
    member p false e' = in_or_last plain f.name name P known (λ q. own q p) e'

    by_plain : (b : Bool) → is_plain_function plain f ≡ b → is_in (if b then with_member plain f.name else plain) name ≡ true → P
    by_plain true p e' = member p (is_in plain f.name) e'
    by_plain false p e' = known e'

module _ (program : ProgramTree) where
  -- a function's own verdict, and those of the functions behind it
  split : (earlier : ProgramTree) (plain : List Bytes) (f : FunctionTree) (rest : ProgramTree) (u : Unit {0}) → functions_verdict program earlier plain (f ∷ rest) ≡ well u → (names : Names) × (function_verdict program earlier plain f ≡ well names) × (functions_verdict program (earlier ++ f ∷ []) (with_plain plain f) rest ≡ well u)
  split earlier plain f rest u e = inverted (function_verdict program earlier plain f) (λ z. functions_verdict program (earlier ++ f ∷ []) (with_plain plain f) rest) u e

  -- its name is new
  new_name : (earlier : ProgramTree) (plain : List Bytes) (f : FunctionTree) (names : Names) → function_verdict program earlier plain f ≡ well names → is_some (function_named earlier f.name) ≡ false
  new_name earlier plain f names e =
      let a = inverted (refuse_if (is_some (function_named earlier f.name) || is_reserved f.name) f.line K.Name) (λ z. refuse_if (nat_le most_functions (length earlier)) f.line K.Size >>= λ y. body_verdict (body_functions program earlier plain f) f) names e in
      either_false (is_some (function_named earlier f.name)) (is_reserved f.name) (not_refused _ f.line K.Name a.0 a.1)

  body_of : (earlier : ProgramTree) (plain : List Bytes) (f : FunctionTree) (names : Names) → function_verdict program earlier plain f ≡ well names → body_verdict (body_functions program earlier plain f) f ≡ well names
  body_of earlier plain f names e =
      let a = inverted (refuse_if (is_some (function_named earlier f.name) || is_reserved f.name) f.line K.Name) (λ z. refuse_if (nat_le most_functions (length earlier)) f.line K.Size >>= λ y. body_verdict (body_functions program earlier plain f) f) names e in
      (inverted (refuse_if (nat_le most_functions (length earlier)) f.line K.Size) (λ y. body_verdict (body_functions program earlier plain f) f) names a.2).2

  -- a name of an earlier function that isn't plain stays so
  never_plain : (earlier : ProgramTree) (plain : List Bytes) (rest : ProgramTree) (u : Unit {0}) → functions_verdict program earlier plain rest ≡ well u → (name : Bytes) → is_some (function_named earlier name) ≡ true → (is_in plain name ≡ true → ⊥) → is_in (plain_names plain rest) name ≡ true → ⊥
  never_plain earlier plain [] u e name there not p = not p
  never_plain earlier plain (g ∷ rest) u e name there not p =
      let s = split earlier plain g rest u e in
      let new = new_name earlier plain g s.0 s.1 in
      never_plain (earlier ++ g ∷ []) (with_plain plain g) rest u s.2 name (some_in_more earlier (g ∷ []) name there) (λ q. with_plain_is plain g name ⊥ not (λ same z. false≢true (sym new ∙ (ap (λ n. is_some (function_named earlier n)) (sym same) ∙ there))) q) p

  -- where a function stands in the program
  record Stands (f : FunctionTree) : Type 0 where
    earlier : ProgramTree
    plain : List Bytes
    later : ProgramTree
    names : Names
    whole : program ≡ earlier ++ (f ∷ later)
    final : plain_names [] program ≡ plain_names plain (f ∷ later)
    verdict : function_verdict program earlier plain f ≡ well names
    behind : functions_verdict program (earlier ++ f ∷ []) (with_plain plain f) later ≡ well tt
    known : (name : Bytes) → is_in plain name ≡ true → is_some (function_named earlier name) ≡ true

  known_more : (earlier : ProgramTree) (plain : List Bytes) (f : FunctionTree) → ((name : Bytes) → is_in plain name ≡ true → is_some (function_named earlier name) ≡ true) → (name : Bytes) → is_in (with_plain plain f) name ≡ true → is_some (function_named (earlier ++ f ∷ []) name) ≡ true
  known_more earlier plain f known name e =
      with_plain_is plain f name (is_some (function_named (earlier ++ f ∷ []) name) ≡ true) (λ q. some_in_more earlier (f ∷ []) name (known name q)) (λ same p. ap (λ n. is_some (function_named (earlier ++ f ∷ []) n)) same ∙ some_last earlier f) e

  stands_from : (earlier : ProgramTree) (plain : List Bytes) (rest : ProgramTree) → program ≡ earlier ++ rest → plain_names [] program ≡ plain_names plain rest → ((name : Bytes) → is_in plain name ≡ true → is_some (function_named earlier name) ≡ true) → functions_verdict program earlier plain rest ≡ well tt → (k : ℕ) (f : FunctionTree) → slice_get rest k ≡ Some f → Stands f
  stands_from earlier plain [] w fi kn e k f q = absurd (false≢true (ap is_some q))
  stands_from earlier plain (g ∷ rest) w fi kn e zero f q =
      let same : g ≡ f = ap (λ o. unwrap_or o f) q in
      let s = split earlier plain g rest tt e in
      subst Stands same (record { earlier = earlier; plain = plain; later = rest; names = s.0; whole = w; final = fi; verdict = s.1; behind = s.2; known = kn })
  stands_from earlier plain (g ∷ rest) w fi kn e (suc k) f q =
      let s = split earlier plain g rest tt e in
      stands_from (earlier ++ g ∷ []) (with_plain plain g) rest (w ∙ sym (append_assoc earlier (g ∷ []) rest)) fi (known_more earlier plain g kn) s.2 k f q

  spelled : (fs : ProgramTree) → IsSpellableProgram fs → (k : ℕ) (f : FunctionTree) → slice_get fs k ≡ Some f → AreSpellableLines f.body
  spelled [] s k f q = absurd (false≢true (ap is_some q))
  spelled (g ∷ fs) s zero f q = let same : g ≡ f = ap (λ o. unwrap_or o f) q in subst (λ h. AreSpellableLines h.body) same s.0.2
  spelled (g ∷ fs) s (suc k) f q = spelled fs s.1 k f q

  pub typed_is_suited : IsSpellableProgram program → IsTyped program → IsSuitedProgram program
  typed_is_suited spell typed k f q =
      let r = stands_from [] [] program refl refl (λ name e. absurd (false≢true e)) (well_is (program_verdict program) typed) k f q in
      let cs = setting_of program (texts_of program) f in
      let plain = plain_names [] program in
      let functions = body_functions program r.earlier r.plain f in
      let b = body_of r.earlier r.plain f r.names r.verdict in
      let a = inverted (parameters_verdict functions f.line f.parameters []) (λ ns. block_verdict functions f.body (body_place f) ns) r.names b in
      let first : a.0 ≡ named f.parameters = parameters_are functions f.line f.parameters [] a.0 a.1 in
      let few : length f.parameters ≤ 8 = omega (arith, parameters_few functions f.line f.parameters [] a.0 (omega arith) a.1) in
      let small = subst AllSmall (sym first) (parameters_small f.parameters few) in
      let whole : program ≡ (r.earlier ++ f ∷ []) ++ r.later = r.whole ∙ sym (append_assoc r.earlier (f ∷ []) r.later) in
      let callable : (name : Bytes) (g : FunctionTree) → function_named functions.callable name ≡ Some g → function_named program name ≡ Some g = λ name g e. ap (λ p. function_named p name) whole ∙ found_in_more (r.earlier ++ f ∷ []) r.later name g e in
      let growing : (name : Bytes) → is_in r.plain name ≡ true → is_in plain name ≡ true = λ name e. subst (λ l. is_in l name ≡ true) (sym r.final) (plain_grows r.plain (f ∷ r.later) name e) in
      let plainly : (name : Bytes) (g : FunctionTree) → function_named functions.callable name ≡ Some g → is_in functions.plain g.name ≡ true → is_in plain name ≡ true = λ name g e p. let same : name ≡ g.name = (bytes_eq-Decides name g.name).0 (found_passes (λ h. bytes_eq name h.name) functions.callable g e) in subst (λ n. is_in plain n ≡ true) (sym same) (growing g.name p) in
      let lines = spelled program spell k f q in
      let sound = sound_block functions cs plain callable plainly f.body (body_place f) a.0 r.names lines small a.2 in
      let final : r.names ≡ names_of program f = sound.is ∙ ap (names_after_block program f.body) first in
      let kept : Kept r.names cs.scope.names = subst (Kept r.names) final (kept_same r.names) in
      let all_small : AllSmall cs.scope.names = subst AllSmall final sound.small in
      let suited = suited_block functions cs plain callable plainly (small_found cs.scope.names all_small) f.body (body_place f) a.0 r.names lines small a.2 kept refl in
      let not_before : is_in r.plain f.name ≡ true → ⊥ = λ p. false≢true (sym (new_name r.earlier r.plain f r.names r.verdict) ∙ r.known f.name p) in
      let plain_here : is_in plain f.name ≡ true → (b : Bool) → is_plain_function r.plain f ≡ b → is_plain_function r.plain f ≡ true = λ p b. by_plain r not_before (subst (λ l. is_in l f.name ≡ true) r.final p) b in
      (suited, (λ p. open_block cs plain (r.plain ++ f.name ∷ []) (λ name e. in_or_last r.plain f.name name (is_in plain name ≡ true) (growing name) (λ same. subst (λ n. is_in plain n ≡ true) (sym same) p) e) false true f.body (plain_here p _ refl) suited), record { sized = all_small.0; few = all_small.1; parameters = few })
    where
      by_plain : (r : Stands f) → (is_in r.plain f.name ≡ true → ⊥) → is_in (plain_names (with_plain r.plain f) r.later) f.name ≡ true → (b : Bool) → is_plain_function r.plain f ≡ b → is_plain_function r.plain f ≡ true
      by_plain r none p true e = e
      by_plain r none p false e =
          absurd (never_plain (r.earlier ++ f ∷ []) (with_plain r.plain f) r.later tt r.behind f.name (some_last r.earlier f) (λ q. with_plain_is r.plain f f.name ⊥ none (λ same z. false≢true (sym e ∙ z)) q) p)
