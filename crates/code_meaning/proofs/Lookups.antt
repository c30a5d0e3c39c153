-- The texts and the functions of a program are found where the code's functions look for them.
use Rattle.std.proofs.Common.{◌≡◌, ℕ, zero, suc, List, [], ◌∷◌, ◌++◌, slice_get, Some, refl, sym, ◌∙◌, ap, subst}
use Rattle.std.specs.Prelude.{Bool, true, false, ◌||◌, bytes_eq, is_some, unwrap_or, if◌then◌else◌}
use Rattle.std.specs.List.{find, position, list_any}
use Rattle.std.proofs.lemmas.Bool.{false≢true}
use Rattle.std.proofs.lemmas.Slice.Eq.{bytes_eq-Decides}
use Rattle.kern_syntax.specs.Tree.{Bytes, FunctionTree, ProgramTree}
use Rattle.kern_expression_types.specs.Before.{is_in, with_member}
use Rattle.code_forms.specs.Texts.{block_texts, program_texts, with_texts, texts_of}
use Rattle.code_forms.proofs.Found.{found_passes, first_found}
use Rattle.code_meaning.proofs.Known.{TextsIn, in_front, in_back}

any_found : {A : Type 0} (p : A → Bool) (xs : List A) → list_any p xs ≡ true → (x : A) × (find p xs ≡ Some x)
any_found p [] e = absurd (false≢true e)
any_found {A} p (y ∷ xs) e = by_test (p y) e (any_found p xs)
  where
    by_test : (b : Bool) → (b || list_any p xs) ≡ true → (list_any p xs ≡ true → (x : A) × (find p xs ≡ Some x)) → (x : A) × ((if b then Some y else find p xs) ≡ Some x)
    by_test true e' k = (y, refl)
    by_test false e' k = k e'

-- a text among the names stands where it is looked for
pub named_text : (texts : List Bytes) (text : Bytes) → is_in texts text ≡ true → slice_get texts (unwrap_or (position (bytes_eq text) texts) 0) ≡ Some text
named_text texts text e =
    let f = any_found (bytes_eq text) texts e in
    let at = first_found (bytes_eq text) texts f.0 f.1 in
    let same : text ≡ f.0 = (bytes_eq-Decides text f.0).0 (found_passes (bytes_eq text) texts f.0 f.1) in
    ap (λ o. slice_get texts (unwrap_or o 0)) at.1 ∙ at.2 ∙ ap Some (sym same)

-- texts that are there stay, and a further one is there then
in_more : (names : List Bytes) (more text : Bytes) → is_in names text ≡ true → is_in (names ++ more ∷ []) text ≡ true
in_more [] more text e = absurd (false≢true e)
in_more (name ∷ names) more text e = by_test (bytes_eq text name) e (in_more names more text)
  where
    by_test : (b : Bool) → (b || is_in names text) ≡ true → (is_in names text ≡ true → is_in (names ++ more ∷ []) text ≡ true) → (b || is_in (names ++ more ∷ []) text) ≡ true
    by_test true e' k = refl
    by_test false e' k = k e'

in_last : (names : List Bytes) (text : Bytes) → is_in (names ++ text ∷ []) text ≡ true
in_last [] text = ap (λ b. b || false) ((bytes_eq-Decides text text).1 refl)
in_last (name ∷ names) text = by_test (bytes_eq text name) (in_last names text)
  where
    by_test : (b : Bool) → is_in (names ++ text ∷ []) text ≡ true → (b || is_in (names ++ text ∷ []) text) ≡ true
    by_test true e = refl
    by_test false e = e

member_keeps : (names : List Bytes) (more text : Bytes) → is_in names text ≡ true → is_in (with_member names more) text ≡ true
member_keeps names more text e = by_test (is_in names more)
  where
    by_test : (b : Bool) → is_in (if b then names else names ++ more ∷ []) text ≡ true
    by_test true = e
    by_test false = in_more names more text e

member_has : (names : List Bytes) (text : Bytes) → is_in (with_member names text) text ≡ true
member_has names text = by_test (is_in names text) refl
  where
    by_test : (b : Bool) → is_in names text ≡ b → is_in (if b then names else names ++ text ∷ []) text ≡ true
    by_test true e = e
    by_test false e = in_last names text

texts_keep : (known texts : List Bytes) (text : Bytes) → is_in known text ≡ true → is_in (with_texts known texts) text ≡ true
texts_keep known [] text e = e
texts_keep known (t ∷ texts) text e = texts_keep (with_member known t) texts text (member_keeps known t text e)

texts_have : (known texts : List Bytes) → TextsIn (with_texts known texts) texts
texts_have known [] = tt
texts_have known (t ∷ texts) =
    (texts_keep (with_member known t) texts t (member_has known t), texts_have (with_member known t) texts)

of_function : (known : List Bytes) (program : ProgramTree) (k : ℕ) (f : FunctionTree) → slice_get program k ≡ Some f → TextsIn known (program_texts program) → TextsIn known (block_texts f.body)
of_function known [] k f e t = absurd (false≢true (ap is_some e))
of_function known (g ∷ program) zero f e t =
    let same : g ≡ f = ap (λ o. unwrap_or o f) e in
    subst (λ h. TextsIn known (block_texts h.body)) same (in_front known (block_texts g.body) (program_texts program) t)
of_function known (g ∷ program) (suc k) f e t =
    of_function known program k f e (in_back known (block_texts g.body) (program_texts program) t)

-- the texts of a function are among those of the program
pub texts_of_function : (program : ProgramTree) (k : ℕ) (f : FunctionTree) → slice_get program k ≡ Some f → TextsIn (texts_of program) (block_texts f.body)
texts_of_function program k f e = of_function (texts_of program) program k f e (texts_have [] (program_texts program))
