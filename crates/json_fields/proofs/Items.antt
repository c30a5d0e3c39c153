-- How many items a list has.
use Rattle.std.proofs.Common.{◌≡◌, List, length}
use Rattle.serde_json.proofs.Views.{items_len-items_view}
use Rattle.serde_json.specs.Events.{items_len}
use Rattle.serde_json.specs.View.{items_view}
use Rattle.serde_json.specs.declared.value.Value.{Value}

-- as many as the code's list
pub items_many : (vs : List Value) → items_len (items_view vs) ≡ length vs
items_many vs = items_len-items_view vs
