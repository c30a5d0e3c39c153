use Rattle.std.proofs.Common.{◌≡◌, map, string_bytes}
use Rattle.serde_json.specs.View.{view}
use Rattle.json_fields.specs.Objects.{least_unknown}
use Rattle.json_fields.proofs.Keys.{first_unknown}
use Rattle.json_fields.proofs.object.least_unknown.Given as goal

-- the least key that isn't known is the first of those that are left and aren't known
abbrev pub invariant-loop-key : goal.invariant-loop-key
invariant-loop-key l =
    first_unknown (map (λ name. name.now) l.known) (map string_bytes l.key-iterator) ≡ least_unknown (map (λ name. name.now) l.known) (view l.value)
