-- Where the functions of a program stand that is typed by the rules, and that their names are those that `names_of` tells.
use Rattle.std.proofs.Common.{◌≡◌, ℕ, zero, suc, ◌+◌, ◌<◌, List, [], ◌∷◌, ◌++◌, length, take, drop, slice_get, Some, None, option_map, refl, sym, ◌∙◌, ap, subst, arith, append_assoc, length-append}
use Rattle.std.specs.Prelude.{Bool, true, false, bytes_eq, is_some, unwrap_or, if◌then◌else◌, nat_lt}
use Rattle.std.specs.List.{position, position_or_len}
use Rattle.std.proofs.lemmas.Bool.{false≢true}
use Rattle.std.proofs.lemmas.List.{take-append-drop}
use Rattle.std.proofs.lemmas.Slice.Eq.{bytes_eq-Decides}
use Rattle.std.proofs.Math.Seq.{take-append_seam}
use Rattle.kern_syntax.specs.Tree.{Bytes, FunctionTree, ProgramTree}
use Rattle.kern_calls.specs.Types.{Names, function_named, scope_of, names_after_block, names_of}
use Rattle.kern_expression_types.specs.Before.{Functions}
use Rattle.kern_types.specs.Plain.{with_plain}
use Rattle.kern_types.specs.PlainFunctions.{plain_names}
use Rattle.kern_types.specs.Programs.{body_functions, place_of_function}
use Rattle.kern_judgement.specs.Programs.{functions_at, body_standing, IsTypedBody, IsTypedFunction, AreTypedFunctions, none, one, IsTypedByRules}
use Rattle.kern_judgement.specs.Told.{TellsFunctions}
use Rattle.kern_judgement.proofs.ToldNames.{parameters_told, block_told}

-- a function that is found among some is found among more
found_in_more : (fs more : ProgramTree) (x : Bytes) (f : FunctionTree) → function_named fs x ≡ Some f
    → function_named (fs ++ more) x ≡ Some f
found_in_more [] more x f e = absurd (false≢true (ap is_some e))
found_in_more (g ∷ fs) more x f e = by_test (bytes_eq x g.name) e (found_in_more fs more x f)
  where
    by_test : (b : Bool) → (if b then Some g else function_named fs x) ≡ Some f
        → (function_named fs x ≡ Some f → function_named (fs ++ more) x ≡ Some f)
        → (if b then Some g else function_named (fs ++ more) x) ≡ Some f
    by_test true e' k = e'
    by_test false e' k = k e'

-- a function behind others that lack its name is found by it
found_behind : (fs : ProgramTree) (f : FunctionTree) (more : ProgramTree) → function_named fs f.name ≡ None
    → function_named (fs ++ f ∷ more) f.name ≡ Some f
found_behind [] f more e = ap (λ b. if b then Some f else function_named more f.name) ((bytes_eq-Decides f.name f.name).1 refl)
found_behind (g ∷ fs) f more e = by_test (bytes_eq f.name g.name) e (found_behind fs f more)
  where
    by_test : (b : Bool) → (if b then Some g else function_named fs f.name) ≡ None
        → (function_named fs f.name ≡ None → function_named (fs ++ f ∷ more) f.name ≡ Some f)
        → (if b then Some g else function_named (fs ++ f ∷ more) f.name) ≡ Some f
    by_test true e' k = absurd (false≢true (sym (ap is_some e')))
    by_test false e' k = k e'

-- the place of the first item that passes, behind one that doesn't
position_behind : {A : Type 0} (p : A → Bool) (x : A) (xs : List A) → p x ≡ false → position p (x ∷ xs) ≡ option_map suc (position p xs)
position_behind p x xs is = by_less (nat_lt n (length xs)) refl
  where
    n : ℕ
    n = position_or_len p xs

    by_less : (c : Bool) → nat_lt n (length xs) ≡ c → position p (x ∷ xs) ≡ option_map suc (position p xs)
    by_less true e =
        let more : nat_lt (1 + n) (suc (length xs)) ≡ true = grind (arith, e) in
        let same : 1 + n ≡ suc n = omega arith in
        rw (is, more, e) (ap Some same)
    by_less false e =
        let more : nat_lt (1 + n) (suc (length xs)) ≡ false = grind (arith, e) in
        rw (is, more, e) refl

-- and where the first one does
position_first : {A : Type 0} (p : A → Bool) (x : A) (xs : List A) → p x ≡ true → position p (x ∷ xs) ≡ Some 0
position_first p x xs is =
    let more : nat_lt 0 (suc (length xs)) ≡ true = grind arith in
    rw (is, more) refl

-- the place of a function behind others that lack its name is that behind them
place_behind : (fs : ProgramTree) (f : FunctionTree) (more : ProgramTree) → function_named fs f.name ≡ None
    → place_of_function (fs ++ f ∷ more) f.name ≡ Some (length fs)
place_behind [] f more e = position_first (λ (h : FunctionTree). bytes_eq f.name h.name) f more ((bytes_eq-Decides f.name f.name).1 refl)
place_behind (g ∷ fs) f more e = by_test (bytes_eq f.name g.name) refl e (place_behind fs f more)
  where
    by_test : (b : Bool) → bytes_eq f.name g.name ≡ b → (if b then Some g else function_named fs f.name) ≡ None
        → (function_named fs f.name ≡ None → place_of_function (fs ++ f ∷ more) f.name ≡ Some (length fs))
        → place_of_function (g ∷ (fs ++ f ∷ more)) f.name ≡ Some (suc (length fs))
    by_test true is e' k = absurd (false≢true (sym (ap is_some e')))
    by_test false is e' k =
        position_behind (λ (h : FunctionTree). bytes_eq f.name h.name) g (fs ++ f ∷ more) is ∙ ap (option_map suc) (k e')

-- the functions that the one at a place may call are told by the whole program
pub functions_told : (program : ProgramTree) (k : ℕ) (names : Names) → TellsFunctions (functions_at program k) (scope_of program names)
functions_told program k names x f e =
    ap (λ p. function_named p x) (sym (take-append-drop (suc k) program))
    ∙ found_in_more (take (suc k) program) (drop (suc k) program) x f e

-- a function that is found among the first ones stands at one of their places, and has the name
pub found_there : (fs : ProgramTree) (n : ℕ) (x : Bytes) (f : FunctionTree) → function_named (take n fs) x ≡ Some f
    → (j : ℕ) × (j < n) × (slice_get fs j ≡ Some f) × (f.name ≡ x)
found_there [] zero x f e = absurd (false≢true (ap is_some e))
found_there [] (suc n) x f e = absurd (false≢true (ap is_some e))
found_there (g ∷ fs) zero x f e = absurd (false≢true (ap is_some e))
found_there (g ∷ fs) (suc n) x f e = by_test (bytes_eq x g.name) refl e (found_there fs n x f)
  where
    by_test : (b : Bool) → bytes_eq x g.name ≡ b → (if b then Some g else function_named (take n fs) x) ≡ Some f
        → (function_named (take n fs) x ≡ Some f → (j : ℕ) × (j < n) × (slice_get fs j ≡ Some f) × (f.name ≡ x))
        → (j : ℕ) × (j < suc n) × (slice_get (g ∷ fs) j ≡ Some f) × (f.name ≡ x)
    by_test true is e' k =
        let same : g ≡ f = ap (λ o. unwrap_or o f) e' in
        (zero, omega arith, e', sym ((bytes_eq-Decides x g.name).0 is ∙ ap (λ h. h.name) same))
    by_test false is e' k = let r = k e' in (suc r.0, omega (arith, r.1), r.2, r.3)

-- the plain ones after one more function
plain_behind : (plain : List Bytes) (fs : ProgramTree) (f : FunctionTree)
    → plain_names plain (fs ++ f ∷ []) ≡ with_plain (plain_names plain fs) f
plain_behind plain [] f = refl
plain_behind plain (g ∷ fs) f = plain_behind (with_plain plain g) fs f

-- what a statement may speak of, from its parts
abbrev functions_of : (program callable : ProgramTree) (plain : List Bytes) → Functions
functions_of program callable plain = record { program = program; callable = callable; plain = plain }

module _ (program : ProgramTree) where
  -- where a function stands in the program
  record Stands (k : ℕ) (f : FunctionTree) : Type 0 where
    earlier : ProgramTree
    plain : List Bytes
    later : ProgramTree
    names : Names
    whole : program ≡ earlier ++ f ∷ later
    count : length earlier ≡ k
    plain_is : plain ≡ plain_names [] earlier
    typed : IsTypedFunction program earlier plain f names

  stands_from : (earlier : ProgramTree) (plain : List Bytes) {rest : ProgramTree} → AreTypedFunctions program earlier plain rest
      → program ≡ earlier ++ rest → plain ≡ plain_names [] earlier → (k n : ℕ) → length earlier + k ≡ n → (f : FunctionTree)
      → slice_get rest k ≡ Some f → Stands n f
  stands_from earlier plain none w p k n c f q = absurd (false≢true (ap is_some q))
  stands_from earlier plain (one {f = g} {rest = rest} {after = names} typed others) w p zero n c f q =
      let same : g ≡ f = ap (λ o. unwrap_or o f) q in
      let here : Stands n g =
      record {
        earlier = earlier;
        plain = plain;
        later = rest;
        names = names;
        whole = w;
        count = omega (arith, c);
        plain_is = p;
        typed = typed;
      } in
      subst (Stands n) same here
  stands_from earlier plain (one {f = g} {rest = rest} typed others) w p (suc k) n c f q =
      let parts : program ≡ (earlier ++ g ∷ []) ++ rest = w ∙ sym (append_assoc earlier (g ∷ []) rest) in
      let more_plain : with_plain plain g ≡ plain_names [] (earlier ++ g ∷ []) =
      ap (λ l. with_plain l g) p ∙ sym (plain_behind [] earlier g) in
      let longer : length (earlier ++ g ∷ []) + k ≡ n = omega (arith, c, length-append earlier (g ∷ [])) in
      stands_from (earlier ++ g ∷ []) (with_plain plain g) others parts more_plain k n longer f q

  stands : IsTypedByRules program → (k : ℕ) (f : FunctionTree) → slice_get program k ≡ Some f → Stands k f
  stands typed k f q = stands_from [] [] typed.functions refl refl k k (omega arith) f q

  -- the function at each place is the one that its name finds
  pub found_by_name : (k : ℕ) (f : FunctionTree) → IsTypedByRules program → slice_get program k ≡ Some f
      → function_named program f.name ≡ Some f
  found_by_name k f typed q =
      let r = stands typed k f q in
      ap (λ p. function_named p f.name) r.whole ∙ found_behind r.earlier f r.later r.typed.is_new

  -- and its place is the one that its name finds
  pub place_by_name : (k : ℕ) (f : FunctionTree) → IsTypedByRules program → slice_get program k ≡ Some f
      → place_of_function program f.name ≡ Some k
  place_by_name k f typed q =
      let r = stands typed k f q in
      ap (λ p. place_of_function p f.name) r.whole ∙ (place_behind r.earlier f r.later r.typed.is_new ∙ ap Some r.count)

  -- those before it, and it
  first_ones : (earlier : ProgramTree) (later : ProgramTree) (k : ℕ) → program ≡ earlier ++ later → length earlier ≡ k
      → take k program ≡ earlier
  first_ones earlier later k w c =
      ap (λ n. take n program) (sym c) ∙ (ap (λ p. take (length earlier) p) w ∙ take-append_seam earlier later)

  functions_same : (k : ℕ) (f : FunctionTree) (r : Stands k f) → body_functions program r.earlier r.plain f ≡ functions_at program k
  functions_same k f r =
      let before : take k program ≡ r.earlier = first_ones r.earlier (f ∷ r.later) k r.whole r.count in
      let own = r.earlier ++ f ∷ [] in
      let parts : program ≡ own ++ r.later = r.whole ∙ sym (append_assoc r.earlier (f ∷ []) r.later) in
      let longer : length own ≡ suc k = omega (arith, r.count, length-append r.earlier (f ∷ [])) in
      let with_own : take (suc k) program ≡ own = first_ones own r.later (suc k) parts longer in
      let plain : r.plain ≡ plain_names [] (take k program) = r.plain_is ∙ ap (λ p. plain_names [] p) (sym before) in
      ap (λ c. functions_of program c r.plain) (sym with_own) ∙ ap (λ l. functions_of program (take (suc k) program) l) plain

  -- the names of a typed body are those that are told
  pub body_told : (functions : Functions) (f : FunctionTree) (after : Names)
      → ((names : Names) → TellsFunctions functions (scope_of program names)) → IsTypedBody functions f after → names_of program f ≡ after
  body_told functions f after callable body =
      ap (λ n. names_after_block program f.body n) (sym (parameters_told functions [] body.has_parameters))
      ∙ block_told functions program callable (body_standing f) body.parameters body.body

  pub names_told : (k : ℕ) (f : FunctionTree) → IsTypedByRules program → slice_get program k ≡ Some f
      → IsTypedBody (functions_at program k) f (names_of program f)
  names_told k f typed q =
      let r = stands typed k f q in
      let functions = functions_at program k in
      let body : IsTypedBody functions f r.names =
      subst (λ (fs : Functions). IsTypedBody fs f r.names) (functions_same k f r) r.typed.body in
      let same : names_of program f ≡ r.names = body_told functions f r.names (functions_told program k) body in
      subst (λ (names : Names). IsTypedBody functions f names) (sym same) body
