-- Code in range, in numbers.
use Rattle.std.proofs.Common.{◌≡◌, ℕ, ◌+◌, ◌-◌, ◌<◌, ◌≤◌, Bool, true, List, [], ◌∷◌, length, map, refl, sym, subst, arith}
use Rattle.std.specs.Prelude.{◌&&◌, nat_lt, nat_le, ◌==◌}
use Rattle.std.specs.List.{list_all, AllByRecursion}
use Rattle.std.proofs.lemmas.Bool.{and_parts, and_from, leb-true, le-leb, ltb-true, lt-ltb, eqb-true, eq-eqb}
use Rattle.std.proofs.lemmas.List.{length-map}
use Rattle.core_isa.specs.declared.code.Code.{Code}
use Rattle.core_isa.specs.declared.code.CodeFunction.{CodeFunction}
use Rattle.core_image.specs.Parts.{parts_of, parts_of_line}
use Rattle.core_image.specs.Ranges.{IsInRange, rises_above, rises_from_zero, is_function, is_line}
use Rattle.core_image.proofs.ExactFields.{InRange}
use Rattle.core_image.proofs.ExactCode.{FitFunctions, FitsLine, FitsImage}
use Rattle.rtio_types.specs.Names.{is_name}
use Rattle.core_image.proofs.InstrFits.{line_fits, fits_line}

-- ---- lists

pub all_of : {A : Type 0} (test : A → Bool) (Fits : A → Type 0) (xs : List A) → ((x : A) → test x ≡ true → Fits x) → list_all test xs ≡ true → AllByRecursion Fits xs
all_of test Fits [] each h = tt
all_of test Fits (x ∷ xs) each h = let p = and_parts (test x) (list_all test xs) h in (each x p.0, all_of test Fits xs each p.1)

pub of_all : {A : Type 0} (test : A → Bool) (Fits : A → Type 0) (xs : List A) → ((x : A) → Fits x → test x ≡ true) → AllByRecursion Fits xs → list_all test xs ≡ true
of_all test Fits [] each h = refl
of_all test Fits (x ∷ xs) each h = and_from _ _ (each x h.0) (of_all test Fits xs each h.1)

pub all_mapped : {A B : Type 0} (test : A → Bool) (view : A → B) (Fits : B → Type 0) (xs : List A) → ((x : A) → test x ≡ true → Fits (view x)) → list_all test xs ≡ true → AllByRecursion Fits (map view xs)
all_mapped test view Fits [] each h = tt
all_mapped test view Fits (x ∷ xs) each h = let p = and_parts (test x) (list_all test xs) h in (each x p.0, all_mapped test view Fits xs each p.1)

pub mapped_all : {A B : Type 0} (test : A → Bool) (view : A → B) (Fits : B → Type 0) (xs : List A) → ((x : A) → Fits (view x) → test x ≡ true) → AllByRecursion Fits (map view xs) → list_all test xs ≡ true
mapped_all test view Fits [] each h = refl
mapped_all test view Fits (x ∷ xs) each h = and_from _ _ (each x h.0) (mapped_all test view Fits xs each h.1)

-- ---- functions

record FunctionParts (lines : ℕ) (f : CodeFunction) : Type 0 where
  within : f.first < lines
  params : f.params ≤ 8
  slots : InRange f.params 65535 f.slots

function_parts : (lines : ℕ) (f : CodeFunction) → is_function lines f ≡ true → FunctionParts lines f
function_parts lines f h =
    let p = and_parts (nat_lt f.first lines) (nat_le f.params 8 && (nat_le f.params f.slots && nat_lt f.slots 65536)) h in
    let q = and_parts (nat_le f.params 8) (nat_le f.params f.slots && nat_lt f.slots 65536) p.1 in
    let r = and_parts (nat_le f.params f.slots) (nat_lt f.slots 65536) q.1 in
    let few = ltb-true f.slots 65536 r.1 in
    record { within = ltb-true _ _ p.0; params = leb-true _ _ q.0; slots = (leb-true _ _ r.0, omega arith) }

parts_function : (lines : ℕ) (f : CodeFunction) → FunctionParts lines f → is_function lines f ≡ true
parts_function lines f h =
    and_from _ _ (lt-ltb _ _ h.within) (and_from _ _ (le-leb _ _ h.params) (and_from _ _ (le-leb _ _ h.slots.0) (lt-ltb _ _ (omega (arith, h.slots.1)))))

later_fit : (lines before : ℕ) (fs : List CodeFunction) → rises_above before (map (λ f. f.first) fs) ≡ true → list_all (is_function lines) fs ≡ true → FitFunctions (before + 1) (lines - 1) lines fs
later_fit lines before [] r h = tt
later_fit lines before (f ∷ fs) r h =
    let rise = and_parts (nat_lt before f.first) (rises_above f.first (map (λ g. g.first) fs)) r in
    let p = and_parts (is_function lines f) (list_all (is_function lines) fs) h in
    let parts = function_parts lines f p.0 in
    let above = ltb-true _ _ rise.0 in
    (record { first = (omega arith, omega arith); params = parts.params; slots = parts.slots }, later_fit lines f.first fs rise.1 p.1)

pub functions_fit : (lines : ℕ) (fs : List CodeFunction) → rises_from_zero (map (λ f. f.first) fs) ≡ true → list_all (is_function lines) fs ≡ true → FitFunctions 0 0 lines fs
functions_fit lines [] r h = tt
functions_fit lines (f ∷ fs) r h =
    let rise = and_parts (f.first == 0) (rises_above f.first (map (λ g. g.first) fs)) r in
    let p = and_parts (is_function lines f) (list_all (is_function lines) fs) h in
    let parts = function_parts lines f p.0 in
    let is_zero = eqb-true _ _ rise.0 in
    (record { first = (omega arith, omega arith); params = parts.params; slots = parts.slots }, later_fit lines f.first fs rise.1 p.1)

fit_later : (lines before : ℕ) (fs : List CodeFunction) → 1 ≤ lines → FitFunctions (before + 1) (lines - 1) lines fs → (rises_above before (map (λ f. f.first) fs) ≡ true) × (list_all (is_function lines) fs ≡ true)
fit_later lines before [] some h = (refl, refl)
fit_later lines before (f ∷ fs) some h =
    let others = fit_later lines f.first fs some h.1 in
    let parts : FunctionParts lines f = record { within = omega (arith, h.0.first.1); params = h.0.params; slots = h.0.slots } in
    (and_from _ _ (lt-ltb _ _ (omega (arith, h.0.first.0))) others.0, and_from _ _ (parts_function lines f parts) others.1)

pub fit_functions : (lines : ℕ) (fs : List CodeFunction) → 1 ≤ lines → FitFunctions 0 0 lines fs → (rises_from_zero (map (λ f. f.first) fs) ≡ true) × (list_all (is_function lines) fs ≡ true)
fit_functions lines [] some h = (refl, refl)
fit_functions lines (f ∷ fs) some h =
    let others = fit_later lines f.first fs some h.1 in
    let parts : FunctionParts lines f = record { within = omega (arith, h.0.first.1); params = h.0.params; slots = h.0.slots } in
    (and_from _ _ (eq-eqb _ _ (omega (arith, h.0.first.1))) others.0, and_from _ _ (parts_function lines f parts) others.1)

-- ---- the code

pub range_fits : (code : Code) → IsInRange code → FitsImage (parts_of code)
range_fits code h =
    let len : length (map parts_of_line code.lines) ≡ length code.lines = length-map code.lines parts_of_line in
    record {
      function_count = (h.some_function, h.few_functions);
      main = (omega arith, omega (arith, h.main));
      name_count = (omega arith, omega (arith, h.few_names));
      line_count = (omega (arith, h.enough_lines), omega (arith, h.few_lines));
      names = all_of is_name _ code.names (λ x e. e) h.names;
      functions = subst (λ (n : ℕ). FitFunctions 0 0 n code.functions) (sym len) (functions_fit (length code.lines) code.functions h.rising h.functions);
      lines = all_mapped is_line parts_of_line FitsLine code.lines line_fits h.lines;
    }

pub fits_range : (code : Code) → FitsImage (parts_of code) → IsInRange code
fits_range code h =
    let len : length (map parts_of_line code.lines) ≡ length code.lines = length-map code.lines parts_of_line in
    let count = h.function_count in
    let some : 1 ≤ length code.lines = omega (arith, h.line_count.0, count.0) in
    let functions = fit_functions (length code.lines) code.functions some (subst (λ (n : ℕ). FitFunctions 0 0 n code.functions) len h.functions) in
    record {
      some_function = count.0;
      few_functions = count.1;
      main = omega (arith, h.main.1, count.0);
      few_names = omega (arith, h.name_count.1);
      enough_lines = omega (arith, h.line_count.0);
      few_lines = omega (arith, h.line_count.1);
      names = of_all is_name _ code.names (λ x e. e) h.names;
      rising = functions.0;
      functions = functions.1;
      lines = mapped_all is_line parts_of_line FitsLine code.lines fits_line h.lines;
    }
