use Rattle.std.proofs.Common.{◌≡◌, [], drop}
use Rattle.serde_json.specs.View.{items_view}
use Rattle.json_fields.specs.Lists.{items_read}
use Rattle.exp_json.proofs.list.items_read.Given as goal

-- the items read so far, and what is left, give what all give
abbrev pub invariant-loop-value : goal.invariant-loop-value
invariant-loop-value g l =
    items_read (g.T.ReadItem.reading l.around) l.read.items (items_view (drop l.value-index l.values)) ≡ items_read (g.T.ReadItem.reading l.around) [] (items_view l.values)
