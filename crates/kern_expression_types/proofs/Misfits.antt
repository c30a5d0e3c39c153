-- The first misfit among some values, in place of the values.
use Rattle.std.proofs.Common.{◌≡◌, ℕ, zero, suc, ◌+◌, List, [], ◌∷◌, length, drop, Option, None, Some, Result, Ok, Err, not, ◌&&◌, slice_get, option_and_then, refl, ap, ◌∙◌, add-one}
use Rattle.std.specs.Prelude.{◌==◌}
use Rattle.std.specs.Option.{option_or}
use Rattle.kern_calls.specs.declared.wanted.Wanted.{Wanted}
use Rattle.kern_expression_types.specs.declared.callee.Callee.{Callee}
use Rattle.kern_expression_types.specs.declared.fault.TypeKind.{TypeKind}
use Rattle.kern_expression_types.specs.declared.fault.TypeKind.TheVariants as K
use Rattle.kern_expression_types.specs.declared.place.Given.{Given}
use Rattle.kern_expression_types.specs.declared.place.Place.{Place}
use Rattle.kern_expression_types.specs.Fits.{misfit, fit_all, fit_each, given_result}
use Rattle.kern_expression_types.specs.Misfits.{mapped, first_misfit, misfit_of_each, taken_by, callee_verdict, counted_verdict}
use Rattle.kern_expression_types.specs.Verdicts.{Verdict, well, fault, ◌>>=◌, ◌>>◌, refuse_if, refuse_some}

-- values that fit are those without a misfit
pub fit_all-first : (line : ℕ) (wanted : List Wanted) (given : List Given) → fit_all line wanted given ≡ refuse_some (first_misfit wanted given) line
fit_all-first line [] given = refl
fit_all-first line (w ∷ wanted) [] = refl
fit_all-first line (w ∷ wanted) (g ∷ given) = by (misfit w g) (fit_all-first line wanted given)
  where
    by : (first : Option TypeKind) → fit_all line wanted given ≡ refuse_some (first_misfit wanted given) line → (refuse_some first line >> fit_all line wanted given) ≡ refuse_some (option_or first (first_misfit wanted given)) line
    by None rest = rest
    by (Some kind) rest = refl

-- the same where each value has to fit the same
pub fit_each-first : (line : ℕ) (wanted : Wanted) (given : List Given) → fit_each line wanted given ≡ refuse_some (misfit_of_each wanted given) line
fit_each-first line wanted [] = refl
fit_each-first line wanted (g ∷ given) = by (misfit wanted g) (fit_each-first line wanted given)
  where
    by : (first : Option TypeKind) → fit_each line wanted given ≡ refuse_some (misfit_of_each wanted given) line → (refuse_some first line >> fit_each line wanted given) ≡ refuse_some (option_or first (misfit_of_each wanted given)) line
    by None rest = rest
    by (Some kind) rest = refl

-- a call depends on how many arguments there are and on their first misfit
pub callee-counted : (place : Place) (callee : Result Callee TypeKind) (given : List Given) → callee_verdict place callee given ≡ counted_verdict place callee (length given) (first_misfit (taken_by callee) given)
callee-counted place (Ok callee) given =
    let wanted = taken_by (Ok callee) in
    ap (λ fits. refuse_if (not (length given == length wanted)) place.line K.Arity >> fits >> refuse_if (place.in_record && callee.is_live) place.line K.LiveInRecord >> well (given_result callee.result)) (fit_all-first place.line wanted given)
callee-counted place (Err kind) given = refl

-- what goes on after another verdict that goes on
pub bind-assoc : {A B C : Type 0} (v : Verdict A) (first : A → Verdict B) (second : B → Verdict C) → ((v >>= first) >>= second) ≡ (v >>= (λ a. first a >>= second))
bind-assoc (well a) first second = refl
bind-assoc (fault line kind) first second = refl

-- what goes on the same after a verdict
pub bind-same : {A B : Type 0} (v : Verdict A) (first second : A → Verdict B) → ((a : A) → first a ≡ second a) → (v >>= first) ≡ (v >>= second)
bind-same (well a) first second same = same a
bind-same (fault line kind) first second same = refl

-- a call whose arguments have been looked at
pub call-read : (place : Place) (callee : Result Callee TypeKind) (v : Verdict (List Given)) (count : ℕ) (found : Option TypeKind) → ((given : List Given) → v ≡ well given → length given ≡ count) → mapped (first_misfit (taken_by callee)) v ≡ well found → (v >>= callee_verdict place callee) ≡ counted_verdict place callee count found
call-read place callee (well given) count found counted is =
    let many : length given ≡ count = counted given refl in
    let first : first_misfit (taken_by callee) given ≡ found = cc in
    callee-counted place callee given ∙ ap (λ n. counted_verdict place callee n (first_misfit (taken_by callee) given)) many ∙ ap (counted_verdict place callee count) first
call-read place callee (fault line kind) count found counted is = cc

-- values that have been looked at, each of which has to fit the same
pub each-read : (line : ℕ) (wanted : Wanted) (v : Verdict (List Given)) (found : Option TypeKind) → mapped (misfit_of_each wanted) v ≡ well found → (v >>= fit_each line wanted) ≡ refuse_some found line
each-read line wanted (well given) found is =
    let first : misfit_of_each wanted given ≡ found = cc in
    fit_each-first line wanted given ∙ ap (λ m. refuse_some m line) first
each-read line wanted (fault other kind) found is = cc

-- the same is made of a verdict by functions that give the same
mapped-same : {A B : Type 0} (v : Verdict A) (f g : A → B) → ((a : A) → f a ≡ g a) → mapped f v ≡ mapped g v
mapped-same (well a) f g same = ap well (same a)
mapped-same (fault line kind) f g same = refl

-- something is made of values with one before them
mapped-first : {A B : Type 0} (v : Verdict (List A)) (a : A) (f : List A → B) → mapped f (v >>= (λ others. well (a ∷ others))) ≡ mapped (λ others. f (a ∷ others)) v
mapped-first (well others) a f = refl
mapped-first (fault line kind) a f = refl

option_or-assoc : {A : Type 0} (a b c : Option A) → option_or a (option_or b c) ≡ option_or (option_or a b) c
option_or-assoc None b c = refl
option_or-assoc (Some a) b c = refl

option_or-none : {A : Type 0} (a : Option A) → option_or a None ≡ a
option_or-none None = refl
option_or-none (Some a) = refl

-- the fault of a value at a place
abbrev pub misfit_there : List Wanted → ℕ → Given → Option TypeKind
misfit_there wanted i given = option_and_then (λ w. misfit w given) (slice_get wanted i)

-- the first of the values from a place on
first_misfit-drop : (wanted : List Wanted) (i : ℕ) (a : Given) (others : List Given) → first_misfit (drop i wanted) (a ∷ others) ≡ option_or (misfit_there wanted i a) (first_misfit (drop (suc i) wanted) others)
first_misfit-drop [] zero a others = refl
first_misfit-drop [] (suc i) a others = refl
first_misfit-drop (w ∷ wanted) zero a others = refl
first_misfit-drop (w ∷ wanted) (suc i) a others = first_misfit-drop wanted i a others

first_misfit-none : (wanted : List Wanted) → first_misfit wanted [] ≡ None
first_misfit-none [] = refl
first_misfit-none (w ∷ wanted) = refl

-- the misfit of the values so far or of those that are left
abbrev pub misfit_after : (found : Option TypeKind) → List Wanted → ℕ → List Given → Option TypeKind
misfit_after found wanted i others = option_or found (first_misfit (drop i wanted) others)

-- none is left
pub misfit_after-all : (found : Option TypeKind) (wanted : List Wanted) (i : ℕ) → misfit_after found wanted i [] ≡ found
misfit_after-all found wanted i =
    ap (option_or found) (first_misfit-none (drop i wanted)) ∙ option_or-none found

-- one value more
pub misfit_after-more : (v : Verdict (List Given)) (found : Option TypeKind) (wanted : List Wanted) (i : ℕ) (a : Given) → mapped (misfit_after found wanted i) (v >>= (λ others. well (a ∷ others))) ≡ mapped (misfit_after (option_or found (misfit_there wanted i a)) wanted (i + 1)) v
misfit_after-more v found wanted i a =
    mapped-first v a (misfit_after found wanted i)
    ∙ mapped-same v (λ others. misfit_after found wanted i (a ∷ others)) (misfit_after (option_or found (misfit_there wanted i a)) wanted (i + 1)) (λ others. rw (add-one i) (ap (option_or found) (first_misfit-drop wanted i a others) ∙ option_or-assoc found (misfit_there wanted i a) (first_misfit (drop (suc i) wanted) others)))

-- the same of values that each have to fit the same
abbrev pub each_after : (found : Option TypeKind) → Wanted → List Given → Option TypeKind
each_after found wanted others = option_or found (misfit_of_each wanted others)

pub each_after-all : (found : Option TypeKind) (wanted : Wanted) → each_after found wanted [] ≡ found
each_after-all found wanted = option_or-none found

pub each_after-more : (v : Verdict (List Given)) (found : Option TypeKind) (wanted : Wanted) (a : Given) → mapped (each_after found wanted) (v >>= (λ others. well (a ∷ others))) ≡ mapped (each_after (option_or found (misfit wanted a)) wanted) v
each_after-more v found wanted a =
    mapped-first v a (each_after found wanted)
    ∙ mapped-same v (λ others. each_after found wanted (a ∷ others)) (each_after (option_or found (misfit wanted a)) wanted) (λ others. option_or-assoc found (misfit wanted a) (misfit_of_each wanted others))
