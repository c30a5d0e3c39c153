-- That a name has the recording of its last save.
use Rattle.std.proofs.Common.{◌≡◌, ℕ, List, [], ◌∷◌, ◌++◌, refl, ap, sym, subst, ◌∙◌, append_assoc, append-nil}
use Rattle.std.specs.Prelude.{None, Some, bytes_eq, if◌then◌else◌}
use Rattle.std.proofs.lemmas.List.Sums.{fold-append}
use Rattle.rtio_types.specs.declared.request.Request.TheVariants as ask
use Rattle.rtio_types.specs.declared.request.Reply.TheVariants as answer
use Rattle.dma_store.specs.Kept.{recording_named}
use Rattle.dma_store.proofs.Named.{recording-erased, recording-saved}
use Rattle.rtio_core.specs.declared.data.Config.{Config}
use Rattle.rtio_core.specs.declared.data.Act.{Act}
use Rattle.rtio_core.specs.declared.data.Act.TheVariants.{Asked}
use Rattle.rtio_core.specs.declared.data.Entry.{Entry}
use Rattle.rtio_core.specs.Entries.{kept_after, last_saved}

-- what holds of a history holds of it with entries behind it, if it stays with one more
by-entries : (P : List Entry → Type 0) → ((front : List Entry) (entry : Entry) → P front → P (front ++ entry ∷ [])) → (front rest : List Entry) → P front → P (front ++ rest)
by-entries P more front [] h = subst P (sym (append-nil front)) h
by-entries P more front (entry ∷ rest) h = subst P (append_assoc front (entry ∷ []) rest) (by-entries P more (front ++ entry ∷ []) rest (more front entry h))

HasLast : Config → List ℕ → List Entry → Type 0
HasLast config name history = recording_named (kept_after config history) name ≡ last_saved config name history

abbrev entry_of : ℕ → Act → Entry
entry_of chair act = record { chair = chair; act = act }

-- an entry more changes both alike
more : (config : Config) (name : List ℕ) (chair : ℕ) (front : List Entry) (act : Act) → HasLast config name front → HasLast config name (front ++ entry_of chair act ∷ [])
unfolding HasLast
more config name chair front (Asked (ask.Save other recording) answer.Done at) h =
    ap (λ kept. recording_named kept name) (fold-append _ _ front (entry_of chair (Asked (ask.Save other recording) answer.Done at) ∷ []))
    ∙ recording-saved (kept_after config front) name other recording
    ∙ ap (λ found. if bytes_eq name other then Some recording else found) h
    ∙ sym (fold-append _ _ front (entry_of chair (Asked (ask.Save other recording) answer.Done at) ∷ []))
more config name chair front (Asked (ask.Erase other) answer.Done at) h =
    ap (λ kept. recording_named kept name) (fold-append _ _ front (entry_of chair (Asked (ask.Erase other) answer.Done at) ∷ []))
    ∙ recording-erased (kept_after config front) name other
    ∙ ap (λ found. if bytes_eq name other then None else found) h
    ∙ sym (fold-append _ _ front (entry_of chair (Asked (ask.Erase other) answer.Done at) ∷ []))
more config name chair front act h =
    ap (λ kept. recording_named kept name) (fold-append _ _ front (entry_of chair act ∷ [])) ∙ h ∙ sym (fold-append _ _ front (entry_of chair act ∷ []))

-- a name has the recording of its last save
pub has-last : (config : Config) (history : List Entry) (name : List ℕ) → recording_named (kept_after config history) name ≡ last_saved config name history
unfolding HasLast
has-last config history name = by-entries (HasLast config name) (λ front entry. more config name entry.chair front entry.act) [] history refl
