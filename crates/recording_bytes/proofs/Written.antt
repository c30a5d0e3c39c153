-- The bytes that are written of a recording.
use Rattle.std.proofs.Common.{◌≡◌, ℕ, ◌+◌, ◌<◌, List, [], ◌∷◌, ◌++◌, length, take, drop, get_or, ℤ, sym, ap, subst, ◌∙◌, append_assoc, drop-cons, add-one}
use Rattle.std.specs.List.{AllByRecursion}
use Rattle.std.proofs.lemmas.List.{take_more}
use Rattle.rtio_types.specs.declared.event.Event.{Event}
use Rattle.recording_bytes.specs.declared.format.Format.TheVariants.{Short}
use Rattle.recording_bytes.specs.Spelling.{FitsFields, events_spelling, short_spelling}

-- three pieces that were added one after another
pub three-added : (old one two all first second third : List ℕ) → one ≡ old ++ first → two ≡ one ++ second → all ≡ two ++ third → all ≡ old ++ (first ++ second ++ third)
three-added old one two all first second third is1 is2 is3 =
    is3 ∙ ap (λ xs. xs ++ third) (is2 ∙ ap (λ xs. xs ++ second) is1) ∙ simp append_assoc

-- what was written, and what is still to be written
pub record IsWritten (all bytes : List ℕ) (before : ℤ) (i : ℕ) (events : List Event) : Type 0 where
  pub written : bytes ++ events_spelling Short before (drop i events) ≡ all
  pub fit : AllByRecursion FitsFields (take i events)

fits-more : (events : List Event) (event : Event) → AllByRecursion FitsFields events → FitsFields event → AllByRecursion FitsFields (events ++ event ∷ [])
fits-more [] event fit one = (one, fit)
fits-more (first ∷ events) event fit one = (fit.0, fits-more events event fit.1 one)

-- one event more
pub written-more : (all bytes more : List ℕ) (before : ℤ) (i : ℕ) (events : List Event) (d : Event) → i < length events → IsWritten all bytes before i events → more ≡ bytes ++ short_spelling before (get_or events i d) → FitsFields (get_or events i d) → IsWritten all more (get_or events i d).stamp (i + 1) events
written-more all bytes more before i events d lt w grown fits =
    let event = get_or events i d in
    let next : drop i events ≡ event ∷ drop (i + 1) events = drop-cons events i d lt ∙ ap (λ k. event ∷ drop k events) (sym (add-one i)) in
    record {
      written =
          ap (λ b. b ++ events_spelling Short event.stamp (drop (i + 1) events)) grown
          ∙ append_assoc bytes (short_spelling before event) (events_spelling Short event.stamp (drop (i + 1) events))
          ∙ ap (λ es. bytes ++ events_spelling Short before es) (sym next)
          ∙ w.written;
      fit = subst (AllByRecursion FitsFields) (sym (take_more events i d lt)) (fits-more (take i events) event w.fit fits);
    }
