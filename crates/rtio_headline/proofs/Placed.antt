-- Events that were placed are live, cleared or out of sequence, and no two of these.
use Rattle.std.proofs.Common.{inl, inr, ◌≡◌, ◌+◌, ◌<◌, ◌≤◌, ◌⊎◌, ℕ, Bool, true, false, List, [], ◌∷◌, refl, ap, ◌∙◌, sym, cond, arith}
use Rattle.std.specs.Prelude.{nat_lt, ◌||◌}
use Rattle.std.specs.List.{list_any}
use Rattle.rtio_types.specs.declared.event.Event.{Event}
use Rattle.rtio_types.specs.Time.{cycle_of}
use Rattle.sed_lanes.specs.Judged.{Judged, Submitted, Cleared}
use Rattle.sed_lanes.specs.Verdict.{Underflow, Lane, Sequence, Undecided}
use Rattle.sed_lanes.proofs.Numbers.{AreNumbered}
use Rattle.output_merge.specs.Live.{cleared, clears, live, out_of_sequence}
use Rattle.rtio_headline.specs.Headline.{IsAmong}
use Rattle.rtio_headline.proofs.Submitting.{placed_in}

pub live-placed : (judged : List Judged) (p : ℕ × Event) → IsAmong p (live judged) → IsAmong p (placed_in judged)
live-placed [] p here = absurd here
live-placed (Submitted n at e (Lane k) ∷ rest) p here = by (list_any (clears (cycle_of e)) rest) here (live-placed rest p)
  where
    by : (b : Bool) → IsAmong p (cond b (live rest) ((n, e) ∷ live rest)) → (IsAmong p (live rest) → IsAmong p (placed_in rest)) → (p ≡ (n, e)) ⊎ IsAmong p (placed_in rest)
    by true there ih = inr (ih there)
    by false (inl is) ih = inl is
    by false (inr there) ih = inr (ih there)
live-placed (Submitted n at e Underflow ∷ rest) p here = live-placed rest p here
live-placed (Submitted n at e Sequence ∷ rest) p here = inr (live-placed rest p here)
live-placed (Submitted n at e Undecided ∷ rest) p here = live-placed rest p here
live-placed (Cleared at ∷ rest) p here = live-placed rest p here

pub cleared-placed : (judged : List Judged) (p : ℕ × Event) → IsAmong p (cleared judged) → IsAmong p (placed_in judged)
cleared-placed [] p here = absurd here
cleared-placed (Submitted n at e (Lane k) ∷ rest) p here = by (list_any (clears (cycle_of e)) rest) here (cleared-placed rest p)
  where
    by : (b : Bool) → IsAmong p (cond b ((n, e) ∷ cleared rest) (cleared rest)) → (IsAmong p (cleared rest) → IsAmong p (placed_in rest)) → (p ≡ (n, e)) ⊎ IsAmong p (placed_in rest)
    by true (inl is) ih = inl is
    by true (inr there) ih = inr (ih there)
    by false there ih = inr (ih there)
cleared-placed (Submitted n at e Underflow ∷ rest) p here = cleared-placed rest p here
cleared-placed (Submitted n at e Sequence ∷ rest) p here = inr (cleared-placed rest p here)
cleared-placed (Submitted n at e Undecided ∷ rest) p here = cleared-placed rest p here
cleared-placed (Cleared at ∷ rest) p here = cleared-placed rest p here

pub sequence-placed : (judged : List Judged) (p : ℕ × Event) → IsAmong p (out_of_sequence judged) → IsAmong p (placed_in judged)
sequence-placed [] p here = absurd here
sequence-placed (Submitted n at e (Lane k) ∷ rest) p here = inr (sequence-placed rest p here)
sequence-placed (Submitted n at e Underflow ∷ rest) p here = sequence-placed rest p here
sequence-placed (Submitted n at e Sequence ∷ rest) p (inl is) = inl is
sequence-placed (Submitted n at e Sequence ∷ rest) p (inr there) = inr (sequence-placed rest p there)
sequence-placed (Submitted n at e Undecided ∷ rest) p here = sequence-placed rest p here
sequence-placed (Cleared at ∷ rest) p here = sequence-placed rest p here

-- what was placed is one of the three
abbrev pub IsPart : List Judged → ℕ × Event → Type 0
IsPart judged p = IsAmong p (live judged) ⊎ (IsAmong p (cleared judged) ⊎ IsAmong p (out_of_sequence judged))

pub placed-parts : (judged : List Judged) (p : ℕ × Event) → IsAmong p (placed_in judged) → IsPart judged p
placed-parts [] p here = absurd here
placed-parts (Submitted n at e (Lane k) ∷ rest) p here = by (list_any (clears (cycle_of e)) rest) here (placed-parts rest p)
  where
    deeper : (b : Bool) → IsPart rest p → IsAmong p (cond b (live rest) ((n, e) ∷ live rest)) ⊎ (IsAmong p (cond b ((n, e) ∷ cleared rest) (cleared rest)) ⊎ IsAmong p (out_of_sequence rest))
    deeper true (inl here) = inl here
    deeper true (inr (inl here)) = inr (inl (inr here))
    deeper true (inr (inr here)) = inr (inr here)
    deeper false (inl here) = inl (inr here)
    deeper false (inr (inl here)) = inr (inl here)
    deeper false (inr (inr here)) = inr (inr here)

    by : (b : Bool) → (p ≡ (n, e)) ⊎ IsAmong p (placed_in rest) → (IsAmong p (placed_in rest) → IsPart rest p) → IsAmong p (cond b (live rest) ((n, e) ∷ live rest)) ⊎ (IsAmong p (cond b ((n, e) ∷ cleared rest) (cleared rest)) ⊎ IsAmong p (out_of_sequence rest))
    by true (inl is) ih = inr (inl (inl is))
    by false (inl is) ih = inl (inl is)
    by b (inr there) ih = deeper b (ih there)
placed-parts (Submitted n at e Underflow ∷ rest) p here = placed-parts rest p here
placed-parts (Submitted n at e Sequence ∷ rest) p (inl is) = inr (inr (inl is))
placed-parts (Submitted n at e Sequence ∷ rest) p (inr there) = deeper (placed-parts rest p there)
  where
    deeper : IsPart rest p → IsPart (Submitted n at e Sequence ∷ rest) p
    deeper (inl here) = inl here
    deeper (inr (inl here)) = inr (inl here)
    deeper (inr (inr here)) = inr (inr (inr here))
placed-parts (Submitted n at e Undecided ∷ rest) p here = placed-parts rest p here
placed-parts (Cleared at ∷ rest) p here = placed-parts rest p here

-- the numbers rise from the first
pub numbers-from : (first : ℕ) (judged : List Judged) (p : ℕ × Event) → AreNumbered first judged → IsAmong p (placed_in judged) → first ≤ p.0
numbers-from first [] p h here = absurd here
numbers-from first (Submitted n at e (Lane k) ∷ rest) p h (inl is) =
    let same : p.0 ≡ n = ap (λ (q : ℕ × Event). q.0) is in let own : n ≡ first = h.0 in omega (arith, same, own)
numbers-from first (Submitted n at e (Lane k) ∷ rest) p h (inr there) =
    let more : first + 1 ≤ p.0 = numbers-from (first + 1) rest p h.1 there in omega (arith, more)
numbers-from first (Submitted n at e Underflow ∷ rest) p h here =
    let more : first + 1 ≤ p.0 = numbers-from (first + 1) rest p h.1 here in omega (arith, more)
numbers-from first (Submitted n at e Sequence ∷ rest) p h (inl is) =
    let same : p.0 ≡ n = ap (λ (q : ℕ × Event). q.0) is in let own : n ≡ first = h.0 in omega (arith, same, own)
numbers-from first (Submitted n at e Sequence ∷ rest) p h (inr there) =
    let more : first + 1 ≤ p.0 = numbers-from (first + 1) rest p h.1 there in omega (arith, more)
numbers-from first (Submitted n at e Undecided ∷ rest) p h here =
    let more : first + 1 ≤ p.0 = numbers-from (first + 1) rest p h.1 here in omega (arith, more)
numbers-from first (Cleared at ∷ rest) p h here = numbers-from first rest p h here

-- the event of a step isn't one of those behind it
head-behind : (first n : ℕ) (e : Event) (rest : List Judged) (p : ℕ × Event) → n ≡ first → AreNumbered (first + 1) rest → p ≡ (n, e) → IsAmong p (placed_in rest) → ⊥
head-behind first n e rest p own h is there =
    let same : p.0 ≡ n = ap (λ (q : ℕ × Event). q.0) is in
    let more : first + 1 ≤ p.0 = numbers-from (first + 1) rest p h there in
    omega (arith, same, own, more)

pub live-not-cleared : (first : ℕ) (judged : List Judged) (p : ℕ × Event) → AreNumbered first judged → IsAmong p (live judged) → IsAmong p (cleared judged) → ⊥
live-not-cleared first [] p h here there = here
live-not-cleared first (Submitted n at e (Lane k) ∷ rest) p h here there = by (list_any (clears (cycle_of e)) rest) here there (live-not-cleared (first + 1) rest p h.1)
  where
    by : (b : Bool) → IsAmong p (cond b (live rest) ((n, e) ∷ live rest)) → IsAmong p (cond b ((n, e) ∷ cleared rest) (cleared rest)) → (IsAmong p (live rest) → IsAmong p (cleared rest) → ⊥) → ⊥
    by true alive (inl is) ih = head-behind first n e rest p h.0 h.1 is (live-placed rest p alive)
    by true alive (inr gone) ih = ih alive gone
    by false (inl is) gone ih = head-behind first n e rest p h.0 h.1 is (cleared-placed rest p gone)
    by false (inr alive) gone ih = ih alive gone
live-not-cleared first (Submitted n at e Underflow ∷ rest) p h here there = live-not-cleared (first + 1) rest p h.1 here there
live-not-cleared first (Submitted n at e Sequence ∷ rest) p h here there = live-not-cleared (first + 1) rest p h.1 here there
live-not-cleared first (Submitted n at e Undecided ∷ rest) p h here there = live-not-cleared (first + 1) rest p h.1 here there
live-not-cleared first (Cleared at ∷ rest) p h here there = live-not-cleared first rest p h here there

pub live-not-sequence : (first : ℕ) (judged : List Judged) (p : ℕ × Event) → AreNumbered first judged → IsAmong p (live judged) → IsAmong p (out_of_sequence judged) → ⊥
live-not-sequence first [] p h here there = here
live-not-sequence first (Submitted n at e (Lane k) ∷ rest) p h here there = by (list_any (clears (cycle_of e)) rest) here (λ alive. live-not-sequence (first + 1) rest p h.1 alive there)
  where
    by : (b : Bool) → IsAmong p (cond b (live rest) ((n, e) ∷ live rest)) → (IsAmong p (live rest) → ⊥) → ⊥
    by true alive ih = ih alive
    by false (inl is) ih = head-behind first n e rest p h.0 h.1 is (sequence-placed rest p there)
    by false (inr alive) ih = ih alive
live-not-sequence first (Submitted n at e Underflow ∷ rest) p h here there = live-not-sequence (first + 1) rest p h.1 here there
live-not-sequence first (Submitted n at e Sequence ∷ rest) p h here (inl is) = head-behind first n e rest p h.0 h.1 is (live-placed rest p here)
live-not-sequence first (Submitted n at e Sequence ∷ rest) p h here (inr there) = live-not-sequence (first + 1) rest p h.1 here there
live-not-sequence first (Submitted n at e Undecided ∷ rest) p h here there = live-not-sequence (first + 1) rest p h.1 here there
live-not-sequence first (Cleared at ∷ rest) p h here there = live-not-sequence first rest p h here there

-- a cleared event has a clearing behind it
cleared-by : (judged : List Judged) (q : ℕ × Event) → IsAmong q (cleared judged) → list_any (clears (cycle_of q.1)) judged ≡ true
cleared-by [] q here = absurd here
cleared-by (Submitted n at e (Lane k) ∷ rest) q here = by (list_any (clears (cycle_of e)) rest) refl here (cleared-by rest q)
  where
    by : (b : Bool) → list_any (clears (cycle_of e)) rest ≡ b → IsAmong q (cond b ((n, e) ∷ cleared rest) (cleared rest)) → (IsAmong q (cleared rest) → list_any (clears (cycle_of q.1)) rest ≡ true) → list_any (clears (cycle_of q.1)) rest ≡ true
    by true is (inl same) ih = ap (λ (r : ℕ × Event). list_any (clears (cycle_of r.1)) rest) same ∙ is
    by true is (inr gone) ih = ih gone
    by false is gone ih = ih gone
cleared-by (Submitted n at e Underflow ∷ rest) q here = cleared-by rest q here
cleared-by (Submitted n at e Sequence ∷ rest) q here = cleared-by rest q here
cleared-by (Submitted n at e Undecided ∷ rest) q here = cleared-by rest q here
cleared-by (Cleared at ∷ rest) q here = or-true (nat_lt at (cycle_of q.1)) (list_any (clears (cycle_of q.1)) rest) (cleared-by rest q here)
  where
    or-true : (a b : Bool) → b ≡ true → (a || b) ≡ true
    or-true true b is = refl
    or-true false b is = is

-- where an event is live, a later one of its cycle wasn't cleared
pub later-not-cleared : (first : ℕ) (judged : List Judged) (p q : ℕ × Event) → AreNumbered first judged → IsAmong p (live judged) → IsAmong q (cleared judged) → p.0 < q.0 → cycle_of p.1 ≡ cycle_of q.1 → ⊥
later-not-cleared first [] p q h here there less same = here
later-not-cleared first (Submitted n at e (Lane k) ∷ rest) p q h here there less same =
    by (list_any (clears (cycle_of e)) rest) refl here there (λ alive gone. later-not-cleared (first + 1) rest p q h.1 alive gone less same)
  where
    by : (b : Bool) → list_any (clears (cycle_of e)) rest ≡ b → IsAmong p (cond b (live rest) ((n, e) ∷ live rest)) → IsAmong q (cond b ((n, e) ∷ cleared rest) (cleared rest)) → (IsAmong p (live rest) → IsAmong q (cleared rest) → ⊥) → ⊥
    by true is alive (inl q_is) ih =
        let number : q.0 ≡ n = ap (λ (r : ℕ × Event). r.0) q_is in
        let own : n ≡ first = h.0 in
        let more : first + 1 ≤ p.0 = numbers-from (first + 1) rest p h.1 (live-placed rest p alive) in
        omega (arith, number, own, more, less)
    by true is alive (inr gone) ih = ih alive gone
    by false is (inl p_is) gone ih =
        let cycle : cycle_of e ≡ cycle_of q.1 = ap (λ (r : ℕ × Event). cycle_of r.1) (sym p_is) ∙ same in
        let clash : true ≡ false = sym (cleared-by rest q gone) ∙ ap (λ (c : ℕ). list_any (clears c) rest) (sym cycle) ∙ is in
        absurd (cc)
    by false is (inr alive) gone ih = ih alive gone
later-not-cleared first (Submitted n at e Underflow ∷ rest) p q h here there less same = later-not-cleared (first + 1) rest p q h.1 here there less same
later-not-cleared first (Submitted n at e Sequence ∷ rest) p q h here there less same = later-not-cleared (first + 1) rest p q h.1 here there less same
later-not-cleared first (Submitted n at e Undecided ∷ rest) p q h here there less same = later-not-cleared (first + 1) rest p q h.1 here there less same
later-not-cleared first (Cleared at ∷ rest) p q h here there less same = later-not-cleared first rest p q h here there less same
