-- `count` follows its meaning: the bound is kept in a temporary slot, the number of edges on the operands.
use Rattle.std.proofs.Common.{◌≡◌, ℕ, zero, suc, ◌+◌, List, [], ◌∷◌, refl, subst, arith}
use Rattle.std.specs.Prelude.{true, false, ℤ, pos, negsuc, ◌+ℤ◌, IsTrue, int_lt, int_le}
use Rattle.std.specs.Int.{w32, w64, int_wrap}
use Rattle.std.proofs.lemmas.Int.{SFits-int_wrap}
use Rattle.std.proofs.lemmas.Bool.{false≢true}
use Rattle.rtio_types.specs.declared.request.Request.TheVariants as Q
use Rattle.rtio_types.specs.declared.request.Reply.{Reply}
use Rattle.rtio_types.specs.declared.request.Reply.TheVariants as R
use Rattle.rtio_types.specs.Requests.{fits_request}
use Rattle.rtio_types.specs.Replies.{number_in}
use Rattle.rtio_types.specs.Integers.{number_of}
use Rattle.kern_calls.specs.declared.types.ValueType.TheVariants as V
use Rattle.timeline_sem.specs.Actions.{give}
use Rattle.timeline_sem.specs.Timeline.{on_edge, count_edges}
use Rattle.core_isa.specs.declared.code.Code.{Code}
use Rattle.core_isa.specs.declared.instr.Instr.TheVariants as I
use Rattle.code_follows.specs.Stands.{holding, Setting, Fits64}
use Rattle.code_follows.specs.Parts.{Follows, Stand}
use Rattle.code_follows.proofs.Compose.{follows_if, by_fits}
use Rattle.code_follows.proofs.Instructions.{follows_quiet, follows_const, follows_add, follows_less}
use Rattle.code_follows.proofs.Flow.{follows_before, follows_jump, follows_true, follows_false, follows_forget, follows_give}
use Rattle.code_follows.proofs.Choices.{small_fits}
use Rattle.code_follows.proofs.ForLoops.{true_number}
use Rattle.code_follows.proofs.Operators.{fits_narrowed}
use Rattle.code_follows.proofs.Wrapping.{wraps_once}
use Rattle.code_follows.proofs.Outputs.{follows_ask, follows_no_units_to_ask}
use Rattle.code_follows.proofs.Variables.{own_slot, follows_own}

not_below : (z : ℤ) → IsTrue (int_le (pos 0) z) → int_lt z (pos 0) ≡ false
not_below (pos n) e = grind (arith, e)
not_below (negsuc n) e = grind (arith, e)

module _ (given : List Reply) (code : Code) where
  module _ (premise : Type 0) (setting : Setting) (edge past channel : ℕ) (bound : ℤ) (bound_fits : Fits64 bound) (at_edge : Stand code.lines edge (I.Edge channel ∷ I.Const (pos 0) ∷ I.Lt ∷ I.JumpZero (edge + 1 + 1 + 1 + 1 + 1) ∷ I.Jump past ∷ I.Const (pos 1) ∷ I.Add ∷ I.Wrap32 ∷ I.Load (own_slot given code setting 0) ∷ I.Jump edge ∷ [])) where
    -- the count from a number on, with so many units
    abbrev pub Counts : ℕ → Type 0
    Counts n =
        (k : ℤ) → Fits64 k → Follows given code premise n setting edge past (record { operands = bound ∷ k ∷ []; temporaries = bound ∷ [] }) Fits64 (λ v. holding (v ∷ [])) (count_edges n (Q.Edge channel bound) k)

    -- the reply's number is below 0, which says that there was no edge
    none_left : (n : ℕ) (k r : ℤ) → Fits64 k → int_lt r (pos 0) ≡ true → Follows given code premise n setting (edge + 1) past (record { operands = r ∷ k ∷ []; temporaries = bound ∷ [] }) Fits64 (λ v. holding (v ∷ [])) (give k)
    none_left n k r fits below =
        let st1 = at_edge.3 in
        let st2 = st1.3 in
        let st3 = st2.3 in
        let st4 = st3.3 in
        let v = number_of (int_lt r (pos 0)) in
        follows_before given code (pos 0) (follows_const given code (r ∷ k ∷ []) (bound ∷ []) (pos 0) (small_fits 0 (omega arith)) (st1.0, st1.1, st1.2, tt)) (follows_before given code v (follows_less given code (k ∷ []) (bound ∷ []) r (pos 0) (st2.0, st2.1, st2.2, tt)) (follows_true given code (record { operands = k ∷ []; temporaries = bound ∷ [] }) v (true_number (int_lt r (pos 0)) true below) (st3.0, st3.1, st3.2, tt) (follows_jump given code (st4.0, st4.1, st4.2, tt) (follows_forget given code (follows_give given code {good = Fits64} {results = λ v. record { operands = v ∷ []; temporaries = bound ∷ [] }} k (λ p. fits))))))

    -- it isn't: an edge is counted, and asked for again
    one_more : (n : ℕ) → Counts n → (k r : ℤ) → Fits64 k → int_lt r (pos 0) ≡ false → Follows given code premise n setting (edge + 1) past (record { operands = r ∷ k ∷ []; temporaries = bound ∷ [] }) Fits64 (λ v. holding (v ∷ [])) (count_edges n (Q.Edge channel bound) (int_wrap w32 (k +ℤ pos 1)))
    one_more n claim k r fits below =
        let own = bound ∷ [] in
        let st1 = at_edge.3 in
        let st2 = st1.3 in
        let st3 = st2.3 in
        let st4 = st3.3 in
        let st5 = st4.3 in
        let st6 = st5.3 in
        let st7 = st6.3 in
        let st8 = st7.3 in
        let st9 = st8.3 in
        let v = number_of (int_lt r (pos 0)) in
        let sum = int_wrap w64 (k +ℤ pos 1) in
        let next = int_wrap w32 (k +ℤ pos 1) in
        let fits32 : Fits64 next = subst Fits64 (wraps_once (k +ℤ pos 1)) (fits_narrowed V.Int32 sum (SFits-int_wrap w64 _)) in
        let wrapped : Follows given code ((((premise × Fits64 (pos 0)) × Fits64 v) × Fits64 (pos 1)) × Fits64 sum) n setting (edge + 1 + 1 + 1 + 1 + 1 + 1 + 1) (edge + 1 + 1 + 1 + 1 + 1 + 1 + 1 + 1) (record { operands = sum ∷ []; temporaries = own }) Fits64 (λ a. record { operands = a ∷ []; temporaries = own }) (give next) = subst (λ w. Follows given code ((((premise × Fits64 (pos 0)) × Fits64 v) × Fits64 (pos 1)) × Fits64 sum) n setting (edge + 1 + 1 + 1 + 1 + 1 + 1 + 1) (edge + 1 + 1 + 1 + 1 + 1 + 1 + 1 + 1) (record { operands = sum ∷ []; temporaries = own }) Fits64 (λ a. record { operands = a ∷ []; temporaries = own }) (give w)) (wraps_once (k +ℤ pos 1)) (follows_quiet given code {results = λ a. a ∷ []} I.Wrap32 (st7.0, st7.1, st7.2, tt) (int_wrap w32 sum) (λ p. fits_narrowed V.Int32 sum p.1) (λ around s free count. refl)) in
        follows_before given code (pos 0) (follows_const given code (r ∷ k ∷ []) own (pos 0) (small_fits 0 (omega arith)) (st1.0, st1.1, st1.2, tt)) (follows_before given code v (follows_less given code (k ∷ []) own r (pos 0) (st2.0, st2.1, st2.2, tt)) (follows_false given code (record { operands = k ∷ []; temporaries = own }) v (true_number (int_lt r (pos 0)) false below) (st3.0, st3.1, st3.2, tt) (follows_before given code (pos 1) (follows_const given code (k ∷ []) own (pos 1) (small_fits 1 (omega arith)) (st5.0, st5.1, st5.2, tt)) (follows_before given code sum (follows_add given code [] own k (pos 1) (st6.0, st6.1, st6.2, tt)) (follows_before given code next wrapped (follows_before given code bound (follows_own given code (next ∷ []) own 0 bound refl (λ p. bound_fits) (st8.0, st8.1, st8.2, tt)) (follows_jump given code st9 (follows_if given code (λ p. p.0.0.0.0.0.0) (claim next fits32)))))))))

    -- by the reply
    counted_on : (n : ℕ) → Counts n → (k : ℤ) → Fits64 k → (r : Reply) → Follows given code (premise × IsTrue (fits_request (Q.Edge channel bound) r) × Fits64 (number_in r)) n setting (edge + 1) past (record { operands = number_in r ∷ k ∷ []; temporaries = bound ∷ [] }) Fits64 (λ v. holding (v ∷ [])) (on_edge k (count_edges n (Q.Edge channel bound)) r)
    counted_on n claim k fits R.NoEdge = follows_if given code (λ p. p.0) (none_left n k (negsuc 0) fits refl)
    counted_on n claim k fits R.Overflow = follows_if given code (λ p. p.0) (one_more n claim k (pos 0) fits refl)
    counted_on n claim k fits (R.Stamp stamp) =
        by_fits given code (claim (int_wrap w32 (k +ℤ pos 1)) (any_fits k)).moves (λ p. p.1) (λ known. follows_if given code (λ p. p.0) (one_more n claim k stamp fits (not_below stamp known)))
      where
        any_fits : (k : ℤ) → Fits64 (int_wrap w32 (k +ℤ pos 1))
        any_fits k = subst Fits64 (wraps_once (k +ℤ pos 1)) (fits_narrowed V.Int32 (int_wrap w64 (k +ℤ pos 1)) (SFits-int_wrap w64 _))
    counted_on n claim k fits _ =
        by_fits given code (claim (int_wrap w32 (k +ℤ pos 1)) (any_fits k)).moves (λ p. p.1) (λ known. absurd (false≢true known))
      where
        any_fits : (k : ℤ) → Fits64 (int_wrap w32 (k +ℤ pos 1))
        any_fits k = subst Fits64 (wraps_once (k +ℤ pos 1)) (fits_narrowed V.Int32 (int_wrap w64 (k +ℤ pos 1)) (SFits-int_wrap w64 _))

    pub follows_counts : (n : ℕ) → Counts n
    follows_counts zero k fits =
        follows_no_units_to_ask given code (k ∷ []) (bound ∷ []) (I.Edge channel) (Q.Edge channel bound) (at_edge.0, at_edge.1, at_edge.2, tt) (λ around s free count. refl)
    follows_counts (suc n) k fits =
        follows_ask given code (k ∷ []) (bound ∷ []) (I.Edge channel) (Q.Edge channel bound) (on_edge k (count_edges n (Q.Edge channel bound))) (at_edge.0, at_edge.1, at_edge.2, tt) (λ around s free count. refl) (counted_on n (follows_counts n) k fits)
