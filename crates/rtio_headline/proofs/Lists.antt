-- Events of lists.
use Rattle.std.proofs.Common.{inl, inr, ◌≡◌, ◌<◌, ℕ, Bool, true, false, List, [], ◌∷◌, refl, ap, ◌∙◌, sym, cond, arith}
use Rattle.std.specs.Prelude.{filter, map}
use Rattle.std.proofs.lemmas.Bool.Decides.{nat_tests}
use Rattle.rtio_types.specs.declared.event.Event.{Event}
use Rattle.sed_lanes.specs.Heads.{is_earlier}
use Rattle.sed_lanes.specs.Sorting.{sorted}
use Rattle.sed_lanes.proofs.Uniques.{IsBeforeAll, IsIn, IsRising, in-sorted, sorted-in}
use Rattle.output_merge.specs.Groups.{is_put_out_before}
use Rattle.rtio_headline.specs.Headline.{AreInOrder, IsAmong}

among-in : (p : ℕ × Event) (xs : List (ℕ × Event)) → IsAmong p xs → IsIn p xs
among-in p [] here = absurd here
among-in p (q ∷ xs) (inl is) = inl is
among-in p (q ∷ xs) (inr there) = inr (among-in p xs there)

in-among : (p : ℕ × Event) (xs : List (ℕ × Event)) → IsIn p xs → IsAmong p xs
in-among p [] here = absurd here
in-among p (q ∷ xs) (inl is) = inl is
in-among p (q ∷ xs) (inr there) = inr (in-among p xs there)

-- a sorted list has the events of the list
pub among-sorted : (before : ℕ × Event → ℕ × Event → Bool) (p : ℕ × Event) (xs : List (ℕ × Event)) → IsAmong p xs → IsAmong p (sorted before xs)
among-sorted before p xs here = in-among p (sorted before xs) (in-sorted before p xs (among-in p xs here))

pub sorted-among : (before : ℕ × Event → ℕ × Event → Bool) (p : ℕ × Event) (xs : List (ℕ × Event)) → IsAmong p (sorted before xs) → IsAmong p xs
sorted-among before p xs here = in-among p xs (sorted-in before p xs (among-in p (sorted before xs) here))

-- a filter has those that pass
pub among-filter : (test : ℕ × Event → Bool) (p : ℕ × Event) (xs : List (ℕ × Event)) → IsAmong p xs → test p ≡ true → IsAmong p (filter test xs)
among-filter test p [] here is = absurd here
among-filter test p (q ∷ xs) (inl same) is =
    let passes : test q ≡ true = ap test (sym same) ∙ is in rw passes (inl same)
among-filter test p (q ∷ xs) (inr there) is = at (test q) (among-filter test p xs there is)
  where
    at : (b : Bool) → IsAmong p (filter test xs) → IsAmong p (cond b (q ∷ filter test xs) (filter test xs))
    at true ih = inr ih
    at false ih = ih

pub filter-among : (test : ℕ × Event → Bool) (p : ℕ × Event) (xs : List (ℕ × Event)) → IsAmong p (filter test xs) → IsAmong p xs × (test p ≡ true)
filter-among test p [] here = absurd here
filter-among test p (q ∷ xs) here = at (test q) refl here (filter-among test p xs)
  where
    deeper : IsAmong p xs × (test p ≡ true) → IsAmong p (q ∷ xs) × (test p ≡ true)
    deeper h = (inr h.0, h.1)

    at : (b : Bool) → test q ≡ b → IsAmong p (cond b (q ∷ filter test xs) (filter test xs)) → (IsAmong p (filter test xs) → IsAmong p xs × (test p ≡ true)) → IsAmong p (q ∷ xs) × (test p ≡ true)
    at true is (inl same) ih = (inl same, ap test same ∙ is)
    at true is (inr there) ih = deeper (ih there)
    at false is there ih = deeper (ih there)

-- an event that stands before all of a list stands before each
pub before-each : (before : ℕ × Event → ℕ × Event → Bool) (p q : ℕ × Event) (xs : List (ℕ × Event)) → IsBeforeAll before p xs → IsAmong q xs → before p q ≡ true
before-each before p q [] all here = absurd here
before-each before p q (x ∷ xs) all (inl is) = ap (before p) is ∙ all.0
before-each before p q (x ∷ xs) all (inr there) = before-each before p q xs all.1 there

-- of events by number, two of one number are the same
pub same-number : (xs : List (ℕ × Event)) (p q : ℕ × Event) → IsRising is_earlier xs → IsAmong p xs → IsAmong q xs → p.0 ≡ q.0 → p ≡ q
same-number [] p q rise here there same = absurd here
same-number (x ∷ xs) p q rise (inl p_is) (inl q_is) same = p_is ∙ sym q_is
same-number (x ∷ xs) p q rise (inl p_is) (inr q_in) same =
    let first : is_earlier x q ≡ true = before-each is_earlier x q xs rise.0 q_in in
    let less : x.0 < q.0 = grind (arith, nat_tests, first) in
    let n : p.0 ≡ x.0 = ap (λ (r : ℕ × Event). r.0) p_is in
    absurd (omega (arith, less, n, same))
same-number (x ∷ xs) p q rise (inr p_in) (inl q_is) same =
    let first : is_earlier x p ≡ true = before-each is_earlier x p xs rise.0 p_in in
    let less : x.0 < p.0 = grind (arith, nat_tests, first) in
    let n : q.0 ≡ x.0 = ap (λ (r : ℕ × Event). r.0) q_is in
    absurd (omega (arith, less, n, same))
same-number (x ∷ xs) p q rise (inr p_in) (inr q_in) same = same-number xs p q rise.1 p_in q_in same

-- a rising list is in order
pub in-order : (xs : List (ℕ × Event)) → IsRising is_put_out_before xs → AreInOrder (map (λ p. p.1) xs)
in-order [] rise = tt
in-order (x ∷ []) rise = tt
in-order (x ∷ y ∷ rest) rise = (rise.0.0, in-order (y ∷ rest) rise.1)
