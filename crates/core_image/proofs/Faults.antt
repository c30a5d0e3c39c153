-- Reading stops at the first wrong field, and only there.
use Rattle.std.proofs.Common.{◌≡◌, ◌≢◌, ℕ, ◌+◌, ◌-◌, ◌<◌, ◌≤◌, ◌⊎◌, inl, inr, Bool, true, false, List, [], ◌∷◌, ◌++◌, take, drop, length, Ok, Err, refl, sym, ap, subst, ◌∙◌, append_assoc, arith}
use Rattle.std.specs.Prelude.{IsTrue, ◌&&◌, nat_le}
use Rattle.std.specs.List.{concat}
use Rattle.std.proofs.lemmas.Bool.{and_parts, and_cases, and_left, and_right, leb-true, leb-false, le-leb, lt-leb, cases_Bool, both_ways, false_from_ne_true}
use Rattle.std.proofs.lemmas.List.{take-append-drop, length-append, length-take-le, take_at, drop_at}
use Rattle.core_image.specs.Fields.{Bytes, Format, give, field, StandRightly, behind, IsWrong, HasFault}
use Rattle.core_image.specs.Reading.{Read, read}
use Rattle.core_image.proofs.Exact.{found, same_found}

-- where fields stand rightly, what is read behind them is read
pub read_behind : {A : Type 0} (format : Format A) (fields : List Bytes) (rest : Bytes) → StandRightly format fields → read format (concat fields ++ rest) ≡ read (behind format fields) rest
read_behind format [] rest right = refl
read_behind (give x) (bytes ∷ fields) rest right = absurd right
read_behind (field width test next) (bytes ∷ fields) rest right =
    let regrouped : (bytes ++ concat fields) ++ rest ≡ bytes ++ (concat fields ++ rest) = append_assoc bytes (concat fields) rest in
    let front = take_at bytes (concat fields ++ rest) width right.0 in
    let long : nat_le width (length (bytes ++ (concat fields ++ rest))) ≡ true = le-leb _ _ (omega (arith, length-append bytes (concat fields ++ rest), right.0)) in
    let passes : test (take width (bytes ++ (concat fields ++ rest))) ≡ true = ap test front ∙ right.1 in
    ap (read (field width test next)) regrouped
    ∙ rw (long, passes, front, drop_at bytes (concat fields ++ rest) width right.0) (read_behind (next bytes) fields rest right.2)

abbrev failed : {A : Type 0} → Bytes → Read A
failed rest = Err rest

why : (width len : ℕ) (passes : Bool) → (nat_le width len && passes) ≡ false → (len < width) ⊎ (¬ IsTrue passes)
why width len passes e =
    elim (and_cases (nat_le width len) passes e) [
      | inl short ↦ inl (leb-false width len short)
      | inr refused ↦ inr (λ passed. both_ways passes refused passed)
    ]

-- what reading says where something is wrong
pub data StopsAt {A : Type 0} (found_there : Read A) (rest : Bytes) : Type 0 where
  wrong : found_there ≡ Err rest → StopsAt found_there rest
  more : (x : A) → found_there ≡ Ok (x, rest) → rest ≢ [] → StopsAt found_there rest

stops : {A : Type 0} (format : Format A) (rest : Bytes) → IsWrong format rest → StopsAt (read format rest) rest
stops (give x) rest h = more x refl h
stops (field width test next) rest (inl short) = wrong (rw (and_left (nat_le width (length rest)) (test (take width rest)) (lt-leb width (length rest) short)) refl)
stops (field width test next) rest (inr refused) = wrong (rw (and_right (nat_le width (length rest)) (test (take width rest)) (false_from_ne_true (test (take width rest)) refused)) refl)

-- a first fault, and what is read there
record Stop {A : Type 0} (format : Format A) (bytes : Bytes) (place : ℕ) : Type 0 where
  rest : Bytes
  len : place + length rest ≡ length bytes
  there : StopsAt (read format bytes) rest

stop : {A : Type 0} (format : Format A) (bytes : Bytes) (place : ℕ) → HasFault format bytes place → Stop format bytes place
stop format bytes place h =
    let same : read format bytes ≡ read (behind format h.fields) h.rest = ap (read format) h.whole ∙ read_behind format h.fields h.rest h.right in
    record {
      rest = h.rest;
      len = omega (arith, h.at, ap length h.whole, length-append (concat h.fields) h.rest);
      there = subst (λ (r : Read _). StopsAt r h.rest) (sym same) (stops (behind format h.fields) h.rest h.wrong);
    }

one_stop : {A : Type 0} (found_there : Read A) (a b : Bytes) → StopsAt found_there a → StopsAt found_there b → a ≡ b
one_stop r a b (wrong p) (wrong q) = cc
one_stop r a b (wrong p) (more y q n) = absurd cc
one_stop r a b (more x p n) (wrong q) = absurd cc
one_stop r a b (more x p n) (more y q m) = (same_found x y a b (sym p ∙ q)).1

-- bytes have one first fault at most
pub one_fault : {A : Type 0} (format : Format A) (bytes : Bytes) (p q : ℕ) → HasFault format bytes p → HasFault format bytes q → p ≡ q
one_fault format bytes p q first second =
    let a = stop format bytes p first in
    let b = stop format bytes q second in
    let same = one_stop (read format bytes) a.rest b.rest a.there b.there in
    omega (arith, a.len, b.len, ap length same)

whole_stops : {A : Type 0} (found_there : Read A) (x : A) (rest : Bytes) → found_there ≡ Ok (x, []) → StopsAt found_there rest → ⊥
whole_stops r x rest e (wrong p) = absurd cc
whole_stops r x rest e (more y p n) = n (sym (same_found x y [] rest (sym e ∙ p)).1)

-- where all of the bytes are read, there is no fault
pub no_fault : {A : Type 0} (format : Format A) (bytes : Bytes) (x : A) (place : ℕ) → read format bytes ≡ Ok (x, []) → HasFault format bytes place → ⊥
no_fault format bytes x place e h = let a = stop format bytes place h in whole_stops (read format bytes) x a.rest e a.there

-- some bytes are cut into fields that stand rightly and a rest
pub record Cut {A : Type 0} (format : Format A) (bytes rest : Bytes) : Type 0 where
  pub fields : List Bytes
  pub whole : bytes ≡ concat fields ++ rest
  pub right : StandRightly format fields

one_more : {A : Type 0} (width : ℕ) (test : Bytes → Bool) (next : Bytes → Format A) (bytes rest : Bytes) → (nat_le width (length bytes) && test (take width bytes)) ≡ true
    → Cut (next (take width bytes)) (drop width bytes) rest → Cut (field width test next) bytes rest
one_more width test next bytes rest passes cut =
    let tests = and_parts (nat_le width (length bytes)) (test (take width bytes)) passes in
    record {
      fields = take width bytes ∷ cut.fields;
      whole = sym (take-append-drop width bytes) ∙ ap (λ (t : Bytes). take width bytes ++ t) cut.whole ∙ sym (append_assoc (take width bytes) (concat cut.fields) rest);
      right = (length-take-le width bytes (leb-true _ _ tests.0), tests.1, cut.right);
    }

fails_cut : {A : Type 0} (format : Format A) (bytes rest : Bytes) → read format bytes ≡ Err rest → (cut : Cut format bytes rest) × IsWrong (behind format cut.fields) rest
unfolding one_more
fails_cut (give x) bytes rest e = absurd cc
fails_cut {A = A} (field width test next) bytes rest e =
    elim (cases_Bool (nat_le width (length bytes) && test (take width bytes))) [
      | inl passes ↦
          let later : read (next (take width bytes)) (drop width bytes) ≡ Err rest = rw passes at e in
          let cut = fails_cut (next (take width bytes)) (drop width bytes) rest later in
          (one_more width test next bytes rest passes cut.0, cut.1)
      | inr refused ↦
          let here : failed {A = A} bytes ≡ failed rest = rw refused at e in
          let same : bytes ≡ rest = cc in
          (record { fields = []; whole = same; right = tt }, subst (λ (r : Bytes). (length r < width) ⊎ (¬ IsTrue (test (take width r)))) same (why width (length bytes) (test (take width bytes)) refused))
    ]

pub ends_cut : {A : Type 0} (format : Format A) (bytes rest : Bytes) (x : A) → read format bytes ≡ Ok (x, rest) → (cut : Cut format bytes rest) × (behind format cut.fields ≡ give x)
unfolding one_more
ends_cut (give y) bytes rest x e =
    let same = same_found y x bytes rest e in
    (record { fields = []; whole = same.1; right = tt }, ap give same.0)
ends_cut {A = A} (field width test next) bytes rest x e =
    elim (cases_Bool (nat_le width (length bytes) && test (take width bytes))) [
      | inl passes ↦
          let later : read (next (take width bytes)) (drop width bytes) ≡ Ok (x, rest) = rw passes at e in
          let cut = ends_cut (next (take width bytes)) (drop width bytes) rest x later in
          (one_more width test next bytes rest passes cut.0, cut.1)
      | inr refused ↦
          let here : failed {A = A} bytes ≡ found x rest = rw refused at e in
          absurd cc
    ]

fault_of : {A : Type 0} (format : Format A) (bytes rest : Bytes) (cut : Cut format bytes rest) → IsWrong (behind format cut.fields) rest → HasFault format bytes (length bytes - length rest)
fault_of format bytes rest cut h = record {
  fields = cut.fields;
  rest = rest;
  whole = cut.whole;
  right = cut.right;
  at = omega (arith, ap length cut.whole, length-append (concat cut.fields) rest);
  wrong = h;
}

-- where reading stops there is the first fault
pub fault_there : {A : Type 0} (format : Format A) (bytes rest : Bytes) → StopsAt (read format bytes) rest → HasFault format bytes (length bytes - length rest)
fault_there format bytes rest (wrong p) = let cut = fails_cut format bytes rest p in fault_of format bytes rest cut.0 cut.1
fault_there format bytes rest (more x p n) =
    let cut = ends_cut format bytes rest x p in
    fault_of format bytes rest cut.0 (subst (λ (f : Format _). IsWrong f rest) (sym cut.1) n)

-- and it stands within the bytes
pub stops_within : {A : Type 0} (format : Format A) (bytes rest : Bytes) → StopsAt (read format bytes) rest → length rest ≤ length bytes
stops_within format bytes rest (wrong p) = let cut = fails_cut format bytes rest p in omega (arith, ap length cut.0.whole, length-append (concat cut.0.fields) rest)
stops_within format bytes rest (more x p n) = let cut = ends_cut format bytes rest x p in omega (arith, ap length cut.0.whole, length-append (concat cut.0.fields) rest)
