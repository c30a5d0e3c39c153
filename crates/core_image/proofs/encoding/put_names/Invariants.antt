use Rattle.std.proofs.Common.{◌≡◌, ◌++◌, take}
use Rattle.std.specs.List.{flat_map}
use Rattle.core_image.specs.Spelling.{name_bytes}
use Rattle.core_image.proofs.encoding.put_names.Given as goal

-- those so far are put
abbrev pub invariant-loop-name : goal.invariant-loop-name
invariant-loop-name l = l.out.items ≡ l.fn.out.items ++ flat_map name_bytes (take l.name-index l.names)
