-- What one step more does to the live, the cleared and the misplaced events.
use Rattle.std.proofs.Common.{◌≡◌, ℕ, List, [], ◌∷◌, ◌++◌, refl, ap}
use Rattle.rtio_types.specs.declared.event.Event.{Event}
use Rattle.rtio_types.specs.Time.{cycle_of}
use Rattle.sed_lanes.specs.Verdict.{Verdict, Underflow, Lane, Sequence, Undecided}
use Rattle.sed_lanes.specs.Judged.{Judged, Submitted, Cleared}
use Rattle.sed_lanes.proofs.Unplaced.{IsUnplaced}
use Rattle.output_merge.specs.Live.{live, cleared, out_of_sequence}
use Rattle.output_merge.proofs.Histories.{any-clears-submitted}

-- an event that no lane took is not live
pub live-unplaced : (judged : List Judged) (number at : ℕ) (e : Event) (v : Verdict) → IsUnplaced v → live (judged ++ Submitted number at e v ∷ []) ≡ live judged
live-unplaced [] number at e Underflow un = refl
live-unplaced [] number at e (Lane k) un = absurd un
live-unplaced [] number at e Sequence un = refl
live-unplaced [] number at e Undecided un = refl
live-unplaced (Submitted m at' e' (Lane j) ∷ rest) number at e v un =
    rw (any-clears-submitted (cycle_of e') rest number at e v, live-unplaced rest number at e v un) refl
live-unplaced (Submitted m at' e' Underflow ∷ rest) number at e v un = live-unplaced rest number at e v un
live-unplaced (Submitted m at' e' Sequence ∷ rest) number at e v un = live-unplaced rest number at e v un
live-unplaced (Submitted m at' e' Undecided ∷ rest) number at e v un = live-unplaced rest number at e v un
live-unplaced (Cleared at' ∷ rest) number at e v un = live-unplaced rest number at e v un

-- a submitted event isn't cleared, and clears none
pub cleared-submitted : (judged : List Judged) (number at : ℕ) (e : Event) (v : Verdict) → cleared (judged ++ Submitted number at e v ∷ []) ≡ cleared judged
cleared-submitted [] number at e Underflow = refl
cleared-submitted [] number at e (Lane k) = refl
cleared-submitted [] number at e Sequence = refl
cleared-submitted [] number at e Undecided = refl
cleared-submitted (Submitted m at' e' (Lane j) ∷ rest) number at e v =
    rw (any-clears-submitted (cycle_of e') rest number at e v, cleared-submitted rest number at e v) refl
cleared-submitted (Submitted m at' e' Underflow ∷ rest) number at e v = cleared-submitted rest number at e v
cleared-submitted (Submitted m at' e' Sequence ∷ rest) number at e v = cleared-submitted rest number at e v
cleared-submitted (Submitted m at' e' Undecided ∷ rest) number at e v = cleared-submitted rest number at e v
cleared-submitted (Cleared at' ∷ rest) number at e v = cleared-submitted rest number at e v

-- the verdict is another one than that the event is out of sequence
abbrev pub IsNoSequence : Verdict → Type 0
IsNoSequence Sequence = ⊥
IsNoSequence v = Unit {0}

-- an event out of sequence comes behind the others
pub out_of_sequence-more : (judged : List Judged) (number at : ℕ) (e : Event) → out_of_sequence (judged ++ Submitted number at e Sequence ∷ []) ≡ out_of_sequence judged ++ (number, e) ∷ []
out_of_sequence-more [] number at e = refl
out_of_sequence-more (Submitted m at' e' Sequence ∷ rest) number at e = ap (λ (ps : List (ℕ × Event)). (m, e') ∷ ps) (out_of_sequence-more rest number at e)
out_of_sequence-more (Submitted m at' e' (Lane j) ∷ rest) number at e = out_of_sequence-more rest number at e
out_of_sequence-more (Submitted m at' e' Underflow ∷ rest) number at e = out_of_sequence-more rest number at e
out_of_sequence-more (Submitted m at' e' Undecided ∷ rest) number at e = out_of_sequence-more rest number at e
out_of_sequence-more (Cleared at' ∷ rest) number at e = out_of_sequence-more rest number at e

-- no other submitted event does
pub out_of_sequence-submitted : (judged : List Judged) (number at : ℕ) (e : Event) (v : Verdict) → IsNoSequence v → out_of_sequence (judged ++ Submitted number at e v ∷ []) ≡ out_of_sequence judged
out_of_sequence-submitted [] number at e Underflow other = refl
out_of_sequence-submitted [] number at e (Lane k) other = refl
out_of_sequence-submitted [] number at e Sequence other = absurd other
out_of_sequence-submitted [] number at e Undecided other = refl
out_of_sequence-submitted (Submitted m at' e' Sequence ∷ rest) number at e v other = ap (λ (ps : List (ℕ × Event)). (m, e') ∷ ps) (out_of_sequence-submitted rest number at e v other)
out_of_sequence-submitted (Submitted m at' e' (Lane j) ∷ rest) number at e v other = out_of_sequence-submitted rest number at e v other
out_of_sequence-submitted (Submitted m at' e' Underflow ∷ rest) number at e v other = out_of_sequence-submitted rest number at e v other
out_of_sequence-submitted (Submitted m at' e' Undecided ∷ rest) number at e v other = out_of_sequence-submitted rest number at e v other
out_of_sequence-submitted (Cleared at' ∷ rest) number at e v other = out_of_sequence-submitted rest number at e v other

-- nor does a clearing change them
pub out_of_sequence-cleared : (judged : List Judged) (at : ℕ) → out_of_sequence (judged ++ Cleared at ∷ []) ≡ out_of_sequence judged
out_of_sequence-cleared [] at = refl
out_of_sequence-cleared (Submitted m at' e' Sequence ∷ rest) at = ap (λ (ps : List (ℕ × Event)). (m, e') ∷ ps) (out_of_sequence-cleared rest at)
out_of_sequence-cleared (Submitted m at' e' (Lane j) ∷ rest) at = out_of_sequence-cleared rest at
out_of_sequence-cleared (Submitted m at' e' Underflow ∷ rest) at = out_of_sequence-cleared rest at
out_of_sequence-cleared (Submitted m at' e' Undecided ∷ rest) at = out_of_sequence-cleared rest at
out_of_sequence-cleared (Cleared at' ∷ rest) at = out_of_sequence-cleared rest at
