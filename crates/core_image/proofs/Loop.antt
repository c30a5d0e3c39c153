-- Reading the same fields so many times, one after another.
use Rattle.std.proofs.Common.{◌≡◌, ℕ, suc, ◌+◌, ◌-◌, ◌<◌, ◌≤◌, List, [], ◌∷◌, ◌++◌, Ok, Err, refl, sym, ap, ◌∙◌, append_assoc, arith}
use Rattle.std.proofs.lemmas.List.{append-nil}
use Rattle.core_isa.specs.declared.code.CodeFunction.{CodeFunction}
use Rattle.core_image.specs.Fields.{Bytes}
use Rattle.core_image.specs.Reading.{Read, ◌>>=◌, times_at, function_at, functions_at}

-- what is read behind some values that were read before
abbrev pub with_front : {A : Type 0} → List A → Read (List A) → Read (List A)
with_front front found = found >>= λ x. Ok (front ++ x.0, x.1)

joined : {A : Type 0} (front : List A) (x : A) (found : Read (List A)) → with_front front (found >>= λ x'. Ok (x ∷ x'.0, x'.1)) ≡ with_front (front ++ x ∷ []) found
joined front x (Ok (xs, rest)) = ap (λ (ys : List _). Ok (ys, rest)) (simp append_assoc)
joined front x (Err rest) = refl

-- what is left to read is all that is to be read but for some values that were read before and not kept
abbrev pub IsLeft : {A : Type 0} → (found total : Read (List A)) → Type 0
IsLeft {A = A} found total = (front : List A) × (with_front front found ≡ total)

none_before : {A : Type 0} (found : Read (List A)) → with_front [] found ≡ found
none_before (Ok x) = refl
none_before (Err rest) = refl

-- at first all is left
pub all_left : {A : Type 0} (found : Read (List A)) → IsLeft found found
all_left found = ([], none_before found)

done : {A : Type 0} (front : List A) (rest : Bytes) → with_front front (Ok ([], rest)) ≡ Ok (front, rest)
done front rest = ap (λ (ys : List _). Ok (ys, rest)) (append-nil front)

-- one more is read
pub times_step : {A : Type 0} (one : Bytes → Read A) (front : List A) (count i : ℕ) (bytes rest : Bytes) (x : A) (total : Read (List A)) → i < count
    → one bytes ≡ Ok (x, rest) → with_front front (times_at one (count - i) bytes) ≡ total
    → with_front (front ++ x ∷ []) (times_at one (count - (i + 1)) rest) ≡ total
unfolding times_at
times_step one front count i bytes rest x total lt found so_far =
    let k : count - i ≡ suc (count - (i + 1)) = omega arith in
    let one_more : with_front front (times_at one (count - i) bytes) ≡ with_front (front ++ x ∷ []) (times_at one (count - (i + 1)) rest) = rw (k, found) (joined front x (times_at one (count - (i + 1)) rest)) in
    sym one_more ∙ so_far

-- one more isn't
pub times_fails : {A : Type 0} (one : Bytes → Read A) (front : List A) (count i : ℕ) (bytes rest : Bytes) (total : Read (List A)) → i < count
    → one bytes ≡ Err rest → with_front front (times_at one (count - i) bytes) ≡ total → total ≡ Err rest
unfolding times_at
times_fails one front count i bytes rest total lt found so_far =
    let k : count - i ≡ suc (count - (i + 1)) = omega arith in
    let none : with_front front (times_at one (count - i) bytes) ≡ Err rest = rw (k, found) refl in
    sym so_far ∙ none

-- all are read
pub times_done : {A : Type 0} (one : Bytes → Read A) (front : List A) (count i : ℕ) (bytes : Bytes) (total : Read (List A)) → count ≤ i
    → with_front front (times_at one (count - i) bytes) ≡ total → total ≡ Ok (front, bytes)
unfolding times_at
times_done one front count i bytes total le so_far =
    let k : count - i ≡ 0 = omega arith in
    let all : with_front front (times_at one (count - i) bytes) ≡ Ok (front, bytes) = rw k (done front bytes) in
    sym so_far ∙ all

-- the same of functions
pub functions_step : (front : List CodeFunction) (count i least most lines : ℕ) (bytes rest : Bytes) (f : CodeFunction) (total : Read (List CodeFunction)) → i < count
    → function_at least most bytes ≡ Ok (f, rest) → with_front front (functions_at (count - i) least most lines bytes) ≡ total
    → with_front (front ++ f ∷ []) (functions_at (count - (i + 1)) (f.first + 1) (lines - 1) lines rest) ≡ total
unfolding functions_at
functions_step front count i least most lines bytes rest f total lt found so_far =
    let k : count - i ≡ suc (count - (i + 1)) = omega arith in
    let one_more : with_front front (functions_at (count - i) least most lines bytes) ≡ with_front (front ++ f ∷ []) (functions_at (count - (i + 1)) (f.first + 1) (lines - 1) lines rest) = rw (k, found) (joined front f (functions_at (count - (i + 1)) (f.first + 1) (lines - 1) lines rest)) in
    sym one_more ∙ so_far

pub functions_fail : (front : List CodeFunction) (count i least most lines : ℕ) (bytes rest : Bytes) (total : Read (List CodeFunction)) → i < count
    → function_at least most bytes ≡ Err rest → with_front front (functions_at (count - i) least most lines bytes) ≡ total → total ≡ Err rest
unfolding functions_at
functions_fail front count i least most lines bytes rest total lt found so_far =
    let k : count - i ≡ suc (count - (i + 1)) = omega arith in
    let none : with_front front (functions_at (count - i) least most lines bytes) ≡ Err rest = rw (k, found) refl in
    sym so_far ∙ none

pub functions_done : (front : List CodeFunction) (count i least most lines : ℕ) (bytes : Bytes) (total : Read (List CodeFunction)) → count ≤ i
    → with_front front (functions_at (count - i) least most lines bytes) ≡ total → total ≡ Ok (front, bytes)
unfolding functions_at
functions_done front count i least most lines bytes total le so_far =
    let k : count - i ≡ 0 = omega arith in
    let all : with_front front (functions_at (count - i) least most lines bytes) ≡ Ok (front, bytes) = rw k (done front bytes) in
    sym so_far ∙ all
