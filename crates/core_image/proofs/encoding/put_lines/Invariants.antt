use Rattle.std.proofs.Common.{◌≡◌, ◌++◌, map, take}
use Rattle.std.specs.List.{flat_map}
use Rattle.core_image.specs.Parts.{parts_of_line}
use Rattle.core_image.specs.Spelling.{line_bytes}
use Rattle.core_image.proofs.encoding.put_lines.Given as goal

-- those so far are put
abbrev pub invariant-loop-line : goal.invariant-loop-line
invariant-loop-line l = l.out.items ≡ l.fn.out.items ++ flat_map line_bytes (map parts_of_line (take l.line-index l.lines))
