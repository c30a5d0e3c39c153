-- What events added to a log do to the lists of its kinds.
use Rattle.std.proofs.Common.{◌≡◌, ℕ, true, false, List, [], ◌∷◌, ◌++◌, map, refl, ap, sym, ◌∙◌, append-nil}
use Rattle.std.specs.Prelude.{filter}
use Rattle.std.proofs.lemmas.List.{map-append}
use Rattle.std.proofs.lemmas.List.Elements.{filter-append}
use Rattle.rtio_types.specs.declared.event.Event.{Event}
use Rattle.rtio_log.specs.declared.LogLine.{LogLine}
use Rattle.rtio_log.specs.declared.LogKind.{LogKind}
use Rattle.rtio_log.specs.declared.LogKind.TheVariants.{Sequence, Collision, Busy, Cleared}
use Rattle.rtio_log.specs.Kinds.{is_kind, lines_of}
use Rattle.output_merge.specs.Outputs.{LogLists}
use Rattle.rtio_core.specs.Lines.{lines_for}
use Rattle.rtio_core.specs.Told.{TellsLog}

lines_of-append : (kind : LogKind) (lines more : List LogLine) → lines_of kind (lines ++ more) ≡ lines_of kind lines ++ lines_of kind more
lines_of-append kind lines more =
    ap (map (λ (l : LogLine). (l.number, l.event))) (filter-append (λ (l : LogLine). is_kind kind l.kind) lines more)
    ∙ map-append (λ (l : LogLine). (l.number, l.event)) (filter (λ (l : LogLine). is_kind kind l.kind) lines) (filter (λ (l : LogLine). is_kind kind l.kind) more)

-- the events of their own kind are all there
lines_of-own : (kind : LogKind) (pairs : List (ℕ × Event)) → is_kind kind kind ≡ true → lines_of kind (lines_for kind pairs) ≡ pairs
lines_of-own kind [] own = refl
lines_of-own kind (p ∷ pairs) own = rw own (ap (λ ps. p ∷ ps) (lines_of-own kind pairs own))

-- no other kind has one of them
lines_of-other : (kind other : LogKind) (pairs : List (ℕ × Event)) → is_kind kind other ≡ false → lines_of kind (lines_for other pairs) ≡ []
lines_of-other kind other [] differ = refl
lines_of-other kind other (p ∷ pairs) differ = rw differ (lines_of-other kind other pairs differ)

pub more-own : (kind : LogKind) (lines : List LogLine) (pairs told : List (ℕ × Event)) → is_kind kind kind ≡ true → lines_of kind lines ≡ told → lines_of kind (lines ++ lines_for kind pairs) ≡ told ++ pairs
more-own kind lines pairs told own is =
    lines_of-append kind lines (lines_for kind pairs) ∙ ap (λ ps. lines_of kind lines ++ ps) (lines_of-own kind pairs own) ∙ ap (λ ps. ps ++ pairs) is

pub more-other : (kind other : LogKind) (lines : List LogLine) (pairs told : List (ℕ × Event)) → is_kind kind other ≡ false → lines_of kind lines ≡ told → lines_of kind (lines ++ lines_for other pairs) ≡ told
more-other kind other lines pairs told differ is =
    lines_of-append kind lines (lines_for other pairs) ∙ ap (λ ps. lines_of kind lines ++ ps) (lines_of-other kind other pairs differ) ∙ append-nil _ ∙ is

-- events out of sequence
pub tells-sequence : (old new : LogLists) (lines : List LogLine) (pairs : List (ℕ × Event)) → TellsLog old lines → new.sequence ≡ old.sequence ++ pairs → new.collided ≡ old.collided → new.busy ≡ old.busy → new.cleared ≡ old.cleared → TellsLog new (lines ++ lines_for Sequence pairs)
tells-sequence old new lines pairs h sequence collided busy cleared = record {
  sequence = more-own Sequence lines pairs old.sequence refl h.sequence ∙ sym sequence;
  collided = more-other Collision Sequence lines pairs old.collided refl h.collided ∙ sym collided;
  busy = more-other Busy Sequence lines pairs old.busy refl h.busy ∙ sym busy;
  cleared = more-other Cleared Sequence lines pairs old.cleared refl h.cleared ∙ sym cleared;
}

-- events that collide
pub tells-collided : (old new : LogLists) (lines : List LogLine) (pairs : List (ℕ × Event)) → TellsLog old lines → new.sequence ≡ old.sequence → new.collided ≡ old.collided ++ pairs → new.busy ≡ old.busy → new.cleared ≡ old.cleared → TellsLog new (lines ++ lines_for Collision pairs)
tells-collided old new lines pairs h sequence collided busy cleared = record {
  sequence = more-other Sequence Collision lines pairs old.sequence refl h.sequence ∙ sym sequence;
  collided = more-own Collision lines pairs old.collided refl h.collided ∙ sym collided;
  busy = more-other Busy Collision lines pairs old.busy refl h.busy ∙ sym busy;
  cleared = more-other Cleared Collision lines pairs old.cleared refl h.cleared ∙ sym cleared;
}

-- events that found their channels busy
pub tells-busy : (old new : LogLists) (lines : List LogLine) (pairs : List (ℕ × Event)) → TellsLog old lines → new.sequence ≡ old.sequence → new.collided ≡ old.collided → new.busy ≡ old.busy ++ pairs → new.cleared ≡ old.cleared → TellsLog new (lines ++ lines_for Busy pairs)
tells-busy old new lines pairs h sequence collided busy cleared = record {
  sequence = more-other Sequence Busy lines pairs old.sequence refl h.sequence ∙ sym sequence;
  collided = more-other Collision Busy lines pairs old.collided refl h.collided ∙ sym collided;
  busy = more-own Busy lines pairs old.busy refl h.busy ∙ sym busy;
  cleared = more-other Cleared Busy lines pairs old.cleared refl h.cleared ∙ sym cleared;
}

-- events that a reset took away
pub tells-cleared : (old new : LogLists) (lines : List LogLine) (pairs : List (ℕ × Event)) → TellsLog old lines → new.sequence ≡ old.sequence → new.collided ≡ old.collided → new.busy ≡ old.busy → new.cleared ≡ old.cleared ++ pairs → TellsLog new (lines ++ lines_for Cleared pairs)
tells-cleared old new lines pairs h sequence collided busy cleared = record {
  sequence = more-other Sequence Cleared lines pairs old.sequence refl h.sequence ∙ sym sequence;
  collided = more-other Collision Cleared lines pairs old.collided refl h.collided ∙ sym collided;
  busy = more-other Busy Cleared lines pairs old.busy refl h.busy ∙ sym busy;
  cleared = more-own Cleared lines pairs old.cleared refl h.cleared ∙ sym cleared;
}

-- the lists stay the same
pub tells-same : (old new : LogLists) (lines : List LogLine) → TellsLog old lines → new.sequence ≡ old.sequence → new.collided ≡ old.collided → new.busy ≡ old.busy → new.cleared ≡ old.cleared → TellsLog new lines
tells-same old new lines h sequence collided busy cleared = record {
  sequence = h.sequence ∙ sym sequence;
  collided = h.collided ∙ sym collided;
  busy = h.busy ∙ sym busy;
  cleared = h.cleared ∙ sym cleared;
}
