-- What a name fetches after a save or an erase.
use Rattle.std.proofs.Common.{◌≡◌, ℕ, Bool, true, false, not, cond, List, [], ◌∷◌, map, filter, Option, None, Some, option_map, bytes_eq, refl, sym, ap, ◌∙◌}
use Rattle.std.specs.Prelude.{find}
use Rattle.std.proofs.lemmas.Slice.Eq.{bytes_eq-Decides}
use Rattle.rtio_types.specs.Recordings.{Recorded}
use Rattle.dma_store.specs.Kept.{KeptState, erased, is_named, recording_named, resaved, saved}
use Rattle.dma_store.proofs.Entries.{resaved-behind, resaved_entries}

-- the recording of a name among entries
abbrev named : List ℕ → List (List ℕ × Recorded) → Option Recorded
named name entries = option_map (λ entry. entry.1) (find (is_named name) entries)

named-first : (name : List ℕ) (entry : List ℕ × Recorded) (entries : List (List ℕ × Recorded)) → named name (entry ∷ entries) ≡ cond (bytes_eq name entry.0) (Some entry.1) (named name entries)
named-first name entry entries = by (bytes_eq name entry.0)
  where
    by : (b : Bool) → option_map (λ e. e.1) (cond b (Some entry) (find (is_named name) entries)) ≡ cond b (Some entry.1) (named name entries)
    by true = refl
    by false = refl

-- where two are the same, a third is both or neither
same-test : (name other key : List ℕ) → bytes_eq other key ≡ true → bytes_eq name key ≡ bytes_eq name other
same-test name other key is = ap (bytes_eq name) (sym ((bytes_eq-Decides other key).0 is))

-- and where they aren't, it isn't both
not-both : (name other key : List ℕ) → bytes_eq other key ≡ false → bytes_eq name key ≡ true → bytes_eq name other ≡ false
not-both name other key isnt is = ap (λ n. bytes_eq n other) ((bytes_eq-Decides name key).0 is) ∙ by (bytes_eq key other) refl
  where
    by : (b : Bool) → bytes_eq key other ≡ b → bytes_eq key other ≡ false
    by false differs = differs
    by true equal =
        let same : key ≡ other = (bytes_eq-Decides key other).0 equal in
        let again : bytes_eq other key ≡ true = ap (bytes_eq other) same ∙ sym (ap (λ n. bytes_eq n other) same) ∙ equal in
        let clash : true ≡ false = sym again ∙ isnt in
        absurd (cc)

named-map : (name other : List ℕ) (recording : Recorded) (entries : List (List ℕ × Recorded)) → bytes_eq name other ≡ false → named name (map (resaved other recording) entries) ≡ named name entries
named-map name other recording [] isnt = refl
named-map name other recording (entry ∷ entries) isnt = by (bytes_eq other entry.0) refl (named-map name other recording entries isnt)
  where
    by : (b : Bool) → bytes_eq other entry.0 ≡ b → named name (map (resaved other recording) entries) ≡ named name entries → named name (map (resaved other recording) (entry ∷ entries)) ≡ named name (entry ∷ entries)
    by true is rest =
        let key : bytes_eq name entry.0 ≡ false = same-test name other entry.0 is ∙ isnt in
        rw is (named-first name (other, recording) (map (resaved other recording) entries) ∙ ap (λ b. cond b (Some recording) (named name (map (resaved other recording) entries))) isnt ∙ rest ∙ sym (named-first name entry entries ∙ ap (λ b. cond b (Some entry.1) (named name entries)) key))
    by false differs rest =
        rw differs (named-first name entry (map (resaved other recording) entries) ∙ ap (cond (bytes_eq name entry.0) (Some entry.1)) rest ∙ sym (named-first name entry entries))

-- two tests that aren't both passed may be asked in either order
swapped : (a b : Bool) (one other rest : Option Recorded) → (a ≡ true → b ≡ false) → cond a one (cond b other rest) ≡ cond b other (cond a one rest)
swapped true true one other rest apart = let clash : true ≡ false = apart refl in absurd (cc)
swapped true false one other rest apart = refl
swapped false b one other rest apart = refl

named-resaved : (name other : List ℕ) (recording : Recorded) (entries : List (List ℕ × Recorded)) → named name (resaved_entries other recording entries) ≡ cond (bytes_eq name other) (Some recording) (named name entries)
named-resaved name other recording [] = named-first name (other, recording) []
named-resaved name other recording (entry ∷ entries) = by (bytes_eq other entry.0) refl (named-resaved name other recording entries)
  where
    by_name : (b : Bool) → bytes_eq name other ≡ b → bytes_eq other entry.0 ≡ true → cond b (Some recording) (named name (map (resaved other recording) entries)) ≡ cond b (Some recording) (named name (entry ∷ entries))
    by_name true same is = refl
    by_name false isnt is = named-map name other recording entries isnt ∙ sym (named-first name entry entries ∙ ap (λ b. cond b (Some entry.1) (named name entries)) (same-test name other entry.0 is ∙ isnt))

    by : (b : Bool) → bytes_eq other entry.0 ≡ b → named name (resaved_entries other recording entries) ≡ cond (bytes_eq name other) (Some recording) (named name entries) → named name (resaved_entries other recording (entry ∷ entries)) ≡ cond (bytes_eq name other) (Some recording) (named name (entry ∷ entries))
    by true is rest =
        rw is (named-first name (other, recording) (map (resaved other recording) entries) ∙ by_name (bytes_eq name other) refl is)
    by false differs rest =
        ap (named name) (resaved-behind other recording entry entries differs)
        ∙ named-first name entry (resaved_entries other recording entries)
        ∙ ap (cond (bytes_eq name entry.0) (Some entry.1)) rest
        ∙ swapped (bytes_eq name entry.0) (bytes_eq name other) (Some entry.1) (Some recording) (named name entries) (not-both name other entry.0 differs)
        ∙ ap (cond (bytes_eq name other) (Some recording)) (sym (named-first name entry entries))

named-erased : (name other : List ℕ) (entries : List (List ℕ × Recorded)) → named name (filter (λ entry. not (is_named other entry)) entries) ≡ cond (bytes_eq name other) None (named name entries)
named-erased name other [] = nothing (bytes_eq name other)
  where
    nothing : (b : Bool) → named name [] ≡ cond b None (named name [])
    nothing true = refl
    nothing false = refl
named-erased name other (entry ∷ entries) = by (bytes_eq other entry.0) refl (named-erased name other entries)
  where
    by_name : (b : Bool) → bytes_eq name other ≡ b → bytes_eq other entry.0 ≡ true → cond b None (named name entries) ≡ cond b None (named name (entry ∷ entries))
    by_name true same is = refl
    by_name false isnt is = sym (named-first name entry entries ∙ ap (λ b. cond b (Some entry.1) (named name entries)) (same-test name other entry.0 is ∙ isnt))

    by : (b : Bool) → bytes_eq other entry.0 ≡ b → named name (filter (λ e. not (is_named other e)) entries) ≡ cond (bytes_eq name other) None (named name entries) → named name (filter (λ e. not (is_named other e)) (entry ∷ entries)) ≡ cond (bytes_eq name other) None (named name (entry ∷ entries))
    by true is rest = rw is (rest ∙ by_name (bytes_eq name other) refl is)
    by false differs rest =
        rw differs (named-first name entry (filter (λ e. not (is_named other e)) entries)
        ∙ ap (cond (bytes_eq name entry.0) (Some entry.1)) rest
        ∙ swapped (bytes_eq name entry.0) (bytes_eq name other) (Some entry.1) None (named name entries) (not-both name other entry.0 differs)
        ∙ ap (cond (bytes_eq name other) None) (sym (named-first name entry entries)))

pub recording-saved : (kept : KeptState) (name other : List ℕ) (recording : Recorded) → recording_named (saved kept other recording) name ≡ cond (bytes_eq name other) (Some recording) (recording_named kept name)
recording-saved kept name other recording = named-resaved name other recording kept.entries

pub recording-erased : (kept : KeptState) (name other : List ℕ) → recording_named (erased kept other) name ≡ cond (bytes_eq name other) None (recording_named kept name)
recording-erased kept name other = named-erased name other kept.entries
