-- Spans: bounds for a number that a run without a core doesn't know.
use Rattle.std.specs.Prelude.{◌^◌, ℤ, pos, neg_ℤ, ◌+ℤ◌, ◌-ℤ◌, Bool, ◌&&◌, int_le}
use Rattle.std.specs.Int.{int_max}
use Rattle.std.specs.Ordering.{int_eq}
pub use Rattle.slack_meaning.specs.declared.span.Span.{Span}

-- equal ends are a number
abbrev pub exactly : ℤ → Span
exactly n = record { least = n; greatest = n }

abbrev pub is_number : Span → Bool
is_number span = int_eq span.least span.greatest

-- the number lies from -2^62 to 2^62
abbrev pub lies_near : ℤ → Bool
lies_near n = int_le (neg_ℤ (pos (2 ^ 62))) n && int_le n (pos (2 ^ 62))

-- both ends do
abbrev pub is_near : Span → Bool
is_near span = lies_near span.least && lies_near span.greatest

-- end by end
abbrev pub span_sum : Span → Span → Span
span_sum a b = record { least = a.least +ℤ b.least; greatest = a.greatest +ℤ b.greatest }

abbrev pub span_less : Span → ℤ → Span
span_less a n = record { least = a.least -ℤ n; greatest = a.greatest -ℤ n }

abbrev pub span_max : Span → Span → Span
span_max a b = record { least = int_max a.least b.least; greatest = int_max a.greatest b.greatest }
