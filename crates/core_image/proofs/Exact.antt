-- What is read is spelled so, and what is spelled so is read: one reading after another.
use Rattle.std.proofs.Common.{◌≡◌, ℕ, zero, suc, Bool, true, false, cond, List, [], ◌∷◌, ◌++◌, length, Result, Ok, Err, refl, sym, ap, subst, ◌∙◌, append_assoc, arith}
use Rattle.std.specs.List.{flat_map, AllByRecursion}
use Rattle.std.proofs.lemmas.List.{append-nil}
use Rattle.core_image.specs.Fields.{Bytes, AreBytes}
use Rattle.core_image.specs.Reading.{Read, ◌>>=◌, times_at}

-- some bytes are these, and then a rest
pub record Takes (bytes text rest : Bytes) : Type 0 where
  pub parts : bytes ≡ text ++ rest
  pub rest_fits : AreBytes rest

-- what a reading gives is the value of a witness, and the bytes are that witness's
pub record IsExact {A : Type 0} (at : Bytes → Read A) (W : Type 0) (value : W → A) (spell : W → Bytes) : Type 0 where
  pub takes : (bytes rest : Bytes) (x : A) → AreBytes bytes → at bytes ≡ Ok (x, rest) → (w : W) × (value w ≡ x) × Takes bytes (spell w) rest
  pub again : (w : W) (rest : Bytes) → at (spell w ++ rest) ≡ Ok (value w, rest)

-- the value of a step that did not fail
pub bind_ok : {A B : Type 0} (r : Result A Bytes) (f : A → Result B Bytes) (y : B) → (r >>= f) ≡ Ok y → (x : A) × (r ≡ Ok x) × (f x ≡ Ok y)
bind_ok (Ok x) f y e = (x, refl, e)
bind_ok (Err d) f y e = absurd cc

pub guard_ok : {A : Type 0} (b : Bool) (d : Bytes) (x y : A) → cond b (Ok x) (Err d) ≡ Ok y → (b ≡ true) × (x ≡ y)
guard_ok true d x y e = (refl, cc)
guard_ok false d x y e = absurd cc

abbrev pub found : {A : Type 0} → A → Bytes → Read A
found x rest = Ok (x, rest)

pub same_found : {A : Type 0} (x y : A) (a b : Bytes) → found x a ≡ found y b → (x ≡ y) × (a ≡ b)
same_found {A = A} x y a b e =
    let pairs : (x, a) ≡ (y, b) = cc in
    (ap (λ (p : A × Bytes). p.0) pairs, ap (λ (p : A × Bytes). p.1) pairs)

pub given_exact : {A : Type 0} (x : A) → IsExact (λ bytes. Ok (x, bytes)) (Unit {0}) (λ _. x) (λ _. [])
given_exact x = record {
  takes = λ bytes rest y fits e.
      let same = same_found x y bytes rest e in
      (tt, same.0, record { parts = same.1; rest_fits = subst AreBytes same.1 fits });
  again = λ _ rest. refl;
}

Takes-then : (a x b y c : Bytes) → Takes a x b → Takes b y c → Takes a (x ++ y) c
Takes-then a x b y c p q = record { parts = p.parts ∙ ap (λ (t : Bytes). x ++ t) q.parts ∙ sym (append_assoc x y c); rest_fits = q.rest_fits }

pub then_exact : {A B : Type 0} {at : Bytes → Read A} {W : Type 0} {value : W → A} {spell : W → Bytes}
    (next : A → Bytes → Read B) (V : W → Type 0) (value' : (w : W) → V w → B) (spell' : (w : W) → V w → Bytes)
    → IsExact at W value spell → ((w : W) → IsExact (next (value w)) (V w) (value' w) (spell' w))
    → IsExact (λ bytes. at bytes >>= λ x. next x.0 x.1) ((w : W) × V w) (λ p. value' p.0 p.1) (λ p. spell p.0 ++ spell' p.0 p.1)
then_exact {A = A} {at = at} next V value' spell' first second = record {
  takes = λ bytes rest x fits e.
      let y = bind_ok (at bytes) (λ (z : A × Bytes). next z.0 z.1) (x, rest) e in
      let p = first.takes bytes y.0.1 y.0.0 fits y.1 in
      let e2 = subst (λ (a : A). next a y.0.1 ≡ Ok (x, rest)) (sym p.1) y.2 in
      let q = (second p.0).takes y.0.1 rest x p.2.rest_fits e2 in
      ((p.0, q.0), q.1, Takes-then _ _ _ _ _ p.2 q.2);
  again = λ w rest.
      let regrouped : (_ ++ spell' w.0 w.1) ++ rest ≡ _ ++ (spell' w.0 w.1 ++ rest) = append_assoc _ (spell' w.0 w.1) rest in
      let one = first.again w.0 (spell' w.0 w.1 ++ rest) in
      ap (λ (bytes : Bytes). at bytes >>= λ z. next z.0 z.1) regrouped
      ∙ ap (λ (r : Read A). r >>= λ z. next z.0 z.1) one
      ∙ (second w.0).again w.1 rest;
}

-- the same, where the witness is the value itself, in a range
pub record IsSpelled {A : Type 0} (at : Bytes → Read A) (spell : A → Bytes) (Fits : A → Type 0) : Type 0 where
  pub takes : (bytes rest : Bytes) (x : A) → AreBytes bytes → at bytes ≡ Ok (x, rest) → Takes bytes (spell x) rest × Fits x
  pub again : (x : A) (rest : Bytes) → Fits x → at (spell x ++ rest) ≡ Ok (x, rest)

pub spelled_exact : {A : Type 0} {at : Bytes → Read A} {spell : A → Bytes} {Fits : A → Type 0} → IsSpelled at spell Fits → IsExact at ((x : A) × Fits x) (λ w. w.0) (λ w. spell w.0)
spelled_exact spelled = record {
  takes = λ bytes rest x fits e. let p = spelled.takes bytes rest x fits e in ((x, p.1), refl, p.0);
  again = λ w rest. spelled.again w.0 rest w.1;
}

pub exact_spelled : {A : Type 0} {at : Bytes → Read A} {W : Type 0} {value : W → A} {spell : W → Bytes} {spell' : A → Bytes} {Fits : A → Type 0}
    → IsExact at W value spell
    → ((w : W) → Fits (value w) × (spell w ≡ spell' (value w)))
    → ((x : A) → Fits x → (w : W) × (value w ≡ x) × (spell w ≡ spell' x))
    → IsSpelled at spell' Fits
exact_spelled {A = A} {at = at} {spell' = spell'} {Fits = Fits} exact from to = record {
  takes = λ bytes rest x fits e.
      let p = exact.takes bytes rest x fits e in
      let q = from p.0 in
      (record { parts = p.2.parts ∙ ap (λ (t : Bytes). t ++ rest) (q.1 ∙ ap spell' p.1); rest_fits = p.2.rest_fits }, subst Fits p.1 q.0);
  again = λ x rest fits.
      let p = to x fits in
      ap (λ (t : Bytes). at (t ++ rest)) (sym p.2) ∙ exact.again p.0 rest ∙ ap (λ (y : A). Ok (y, rest)) p.1;
}

-- so many of the same
no_more : {A : Type 0} (spell : A → Bytes) (Fits : A → Type 0) (xs : List A) → (length xs ≡ 0) × AllByRecursion Fits xs → Unit {0} × ([] ≡ xs) × ([] ≡ flat_map spell xs)
no_more spell Fits [] h = (tt, refl, refl)
no_more spell Fits (x ∷ xs) h = absurd (omega (arith, h.0))

abbrev First : {A : Type 0} → (Fits : A → Type 0) → Type 0
First {A = A} Fits = (x : A) × Fits x

abbrev Others : {A : Type 0} → (count : ℕ) → (Fits : A → Type 0) → Type 0
Others {A = A} count Fits = (xs : List A) × ((length xs ≡ count) × AllByRecursion Fits xs)

one_more : {A : Type 0} (count : ℕ) (spell : A → Bytes) (Fits : A → Type 0) (xs : List A) → (length xs ≡ suc count) × AllByRecursion Fits xs
    → (w : First Fits × Others count Fits × Unit {0}) × (w.0.0 ∷ w.1.0 ≡ xs) × (spell w.0.0 ++ (flat_map spell w.1.0 ++ []) ≡ flat_map spell xs)
one_more count spell Fits [] h = absurd (omega (arith, h.0))
one_more count spell Fits (x ∷ xs) h = (((x, h.1.0), (xs, (omega (arith, h.0), h.1.1)), tt), refl, ap (λ (t : Bytes). spell x ++ t) (append-nil (flat_map spell xs)))

pub times_spelled : {A : Type 0} {one : Bytes → Read A} {spell : A → Bytes} {Fits : A → Type 0} (count : ℕ) → IsSpelled one spell Fits
    → IsSpelled (times_at one count) (flat_map spell) (λ xs. (length xs ≡ count) × AllByRecursion Fits xs)
unfolding times_at
times_spelled {spell = spell} {Fits = Fits} zero spelled = exact_spelled (given_exact []) (λ _. ((refl, tt), refl)) (no_more spell Fits)
times_spelled {spell = spell} {Fits = Fits} (suc count) spelled =
    exact_spelled
    (then_exact _ _ _ _ (spelled_exact spelled) (λ x. then_exact _ _ _ _ (spelled_exact (times_spelled count spelled)) (λ xs. given_exact (x.0 ∷ xs.0))))
    (λ w. ((ap suc w.1.0.1.0, (w.0.1, w.1.0.1.1)), ap (λ (t : Bytes). spell w.0.0 ++ t) (append-nil (flat_map spell w.1.0.0))))
    (λ xs h. let p = one_more count spell Fits xs h in ((p.0.0, (p.0.1, tt)), p.1, p.2))
