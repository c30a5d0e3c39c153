-- The lines of a log, one by one.
use Rattle.std.proofs.Common.{◌≡◌, true, false, List, [], ◌∷◌, ◌++◌, refl, ap, ◌∙◌, append-nil}
use Rattle.std.specs.Prelude.{map, filter}
use Rattle.std.proofs.lemmas.List.{map-append}
use Rattle.std.proofs.lemmas.List.Elements.{filter-append}
use Rattle.rtio_log.specs.declared.LogLine.{LogLine}
use Rattle.rtio_log.specs.declared.LogKind.{LogKind}
use Rattle.rtio_log.specs.Kinds.{is_kind, lines_of}

pub line-more : (kind : LogKind) (lines : List LogLine) (line : LogLine) → is_kind kind line.kind ≡ true → lines_of kind (lines ++ line ∷ []) ≡ lines_of kind lines ++ (line.number, line.event) ∷ []
line-more kind lines line is =
    ap (map (λ (l : LogLine). (l.number, l.event))) (filter-append (λ (l : LogLine). is_kind kind l.kind) lines (line ∷ []) ∙ rw is refl)
    ∙ map-append (λ (l : LogLine). (l.number, l.event)) (filter (λ (l : LogLine). is_kind kind l.kind) lines) (line ∷ [])

pub line-other : (kind : LogKind) (lines : List LogLine) (line : LogLine) → is_kind kind line.kind ≡ false → lines_of kind (lines ++ line ∷ []) ≡ lines_of kind lines
line-other kind lines line is =
    ap (map (λ (l : LogLine). (l.number, l.event))) (filter-append (λ (l : LogLine). is_kind kind l.kind) lines (line ∷ []) ∙ rw is (append-nil _))
