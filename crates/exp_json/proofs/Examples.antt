-- Readings of small values, computed from the definitions.
use Rattle.std.proofs.Common.{◌≡◌, [], ◌∷◌, refl}
use Rattle.std.specs.Prelude.{codes}
use Rattle.serde_json.specs.Data.{Data, number, string, array, object, unsigned, no_items, item, no_members, member}
use Rattle.json_fields.specs.declared.fault.FieldKind.TheVariants as K
use Rattle.json_fields.specs.declared.path.Part.TheVariants as P
use Rattle.json_fields.specs.Readings.{good, fault}
use Rattle.json_fields.specs.Paths.{path_text}
use Rattle.exp_json.specs.Pipelines.{pipeline}
use Rattle.exp_json.specs.Sessions.{session}

a_list_is_no_session : session (array no_items) ≡ fault [] K.Shape
a_list_is_no_session = refl

an_unknown_key : session (object (member (codes "x") (number (unsigned 1)) no_members)) ≡ fault (P.Key (codes "x") ∷ []) K.Unknown
an_unknown_key = refl

-- of two that aren't known the least by bytes, wherever it stands: capital letters are less than small ones
the_least_unknown_key : session (object (member (codes "b") (number (unsigned 1)) (member (codes "Z") (number (unsigned 1)) no_members))) ≡ fault (P.Key (codes "Z") ∷ []) K.Unknown
the_least_unknown_key = refl

no_workers : session (object (member (codes "pipelines") (array (item (object no_members) no_items)) (member (codes "workers") (number (unsigned 0)) no_members))) ≡ fault (P.Key (codes "workers") ∷ []) K.Range
no_workers = refl

no_pipelines : session (object (member (codes "pipelines") (array no_items) no_members)) ≡ fault (P.Key (codes "pipelines") ∷ []) K.Range
no_pipelines = refl

a_pipeline_without_edges : pipeline (object no_members) ≡ good (record { edges = [] })
a_pipeline_without_edges = refl

-- an edge, and one of the same stamp and channel behind it
rising : Data
rising = array (item (number (unsigned 24)) (item (number (unsigned 5)) (item (string (codes "r")) no_items)))

edges_that_do_not_rise : pipeline (object (member (codes "edges") (array (item rising (item rising no_items))) no_members)) ≡ fault (P.Key (codes "edges") ∷ P.Place 1 ∷ []) K.Order
unfolding rising
edges_that_do_not_rise = refl

a_path_of_keys : path_text (codes "session") (P.Key (codes "a") ∷ P.Key (codes "b") ∷ []) ≡ codes "a.b"
a_path_of_keys = refl
