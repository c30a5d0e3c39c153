use Rattle.std.proofs.Common.{◌≡◌, drop}
use Rattle.std.specs.List.{list_all}
use Rattle.slack_meaning.specs.Spans.{is_number}
use Rattle.slack_state.proofs.values.are_all_numbers.Given as goal

abbrev pub invariant-loop-span : goal.invariant-loop-span
invariant-loop-span l = list_all is_number l.fn.spans ≡ list_all is_number (drop l.span-index l.fn.spans)
