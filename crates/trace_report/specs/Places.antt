-- Places in a kernel's text.
use Rattle.std.specs.Prelude.{ℕ, List, [], ◌++◌, codes, decimal, Option, Some, None}
use Rattle.trace_report.specs.declared.place.TextPlace.{TextPlace}

-- the line of a call in `main`, behind `<`
abbrev pub under_text : Option ℕ → List ℕ
under_text None = []
under_text (Some line) = codes "<" ++ decimal line

-- `LINE`, or `LINE<MAIN`
abbrev pub place_text : TextPlace → List ℕ
place_text place = decimal place.line ++ under_text place.main
