-- The end of the edges.
use Rattle.std.specs.Prelude.{Bool, true, false}
use Rattle.rtio_types.specs.declared.request.Reply.{Reply}
use Rattle.rtio_types.specs.declared.request.Reply.TheVariants as R

-- the reply says that there is no edge
abbrev pub is_no_edge : Reply → Bool
is_no_edge R.NoEdge = true
is_no_edge _ = false
