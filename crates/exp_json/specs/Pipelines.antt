-- Pipelines and the edges of their inputs.
use Rattle.std.specs.Prelude.{◌-◌, pos, Bool, true, ◌||◌, List, [], bytes_eq}
use Rattle.std.specs.Prelude.{codes, Option, Some, None, length, slice_get}
use Rattle.limits.specs.Limits.{first_input, last_channel, last_stamp, most_edges}
use Rattle.serde_json.specs.Data.{Data}
use Rattle.rtio_types.specs.declared.event.Edge.{Edge}
use Rattle.exp_model.specs.declared.session.Pipeline.{Pipeline}
use Rattle.exp_model.specs.Edges.{is_edge_before}
use Rattle.json_fields.specs.declared.fault.FieldKind.TheVariants as K
use Rattle.json_fields.specs.Readings.{Reading, good, demand, ◌>>=◌, ◌>>◌}
use Rattle.json_fields.specs.Values.{count, text}
use Rattle.json_fields.specs.Objects.{Table, ◌⊛◌, object, optional, table_of}
use Rattle.json_fields.specs.Lists.{element, items_of_list, listed}

-- whether an edge rises, by its word: "r" or "f"
abbrev pub slope : Data → Reading Bool
slope d = text d >>= (λ word. demand (bytes_eq word (codes "r") || bytes_eq word (codes "f")) K.Range >> good (bytes_eq word (codes "r")))

-- an edge comes after another, if there is one
abbrev pub follows_one : Option Edge → Edge → Bool
follows_one None edge = true
follows_one (Some other) edge = is_edge_before other edge

-- an edge comes after the last of those before it
abbrev pub follows : List Edge → Edge → Bool
follows before edge = follows_one (slice_get before (length before - 1)) edge

-- an edge: a list of its channel, its stamp and its word, and then its order
abbrev pub edge : List Edge → Data → Reading Edge
edge before d =
    items_of_list 3 3 d
    >> (element 0 (count first_input last_channel) d
    >>= (λ channel. element 1 (count 0 last_stamp) d
    >>= (λ stamp. element 2 slope d
    >>= (λ rising. let new : Edge = record { channel = channel; stamp = pos stamp; rising = rising } in demand (follows before new) K.Order >> good new))))

abbrev pub pipeline_table : Table Pipeline
pipeline_table = table_of (λ edges. record { edges = edges }) ⊛ optional (codes "edges") [] (listed 0 most_edges edge)

abbrev pub pipeline : Data → Reading Pipeline
pipeline d = object pipeline_table d
