-- The edges that are read.
use Rattle.std.proofs.Common.{◌≡◌, ℕ, suc, ◌-◌, ◌^◌, ◌≤◌, pos, Bool, true, false, List, [], ◌∷◌, ◌++◌, length, Option, None, Some, refl, sym, ap, subst, ◌∙◌, arith}
use Rattle.std.specs.Prelude.{IsTrue, ◌&&◌, nat_le, nat_lt, codes, slice_get}
use Rattle.std.specs.List.{list_all}
use Rattle.std.proofs.lemmas.Bool.{and_from, and_parts, leb-true, lt-ltb, le-ltb}
use Rattle.serde_json.specs.Data.{Data}
use Rattle.rtio_types.specs.declared.event.Edge.{Edge}
use Rattle.rtio_types.specs.Board.{is_input}
use Rattle.exp_model.specs.Edges.{are_edges, are_rising, is_edge, is_edge_before}
use Rattle.exp_model.specs.Sessions.{is_pipeline}
use Rattle.json_fields.specs.declared.fault.FieldKind.TheVariants as K
use Rattle.json_fields.specs.declared.path.Part.TheVariants as P
use Rattle.json_fields.specs.Readings.{Reading, good, demand, within, ◌>>=◌, ◌>>◌}
use Rattle.json_fields.specs.Values.{count}
use Rattle.json_fields.specs.Objects.{optional, table_of}
use Rattle.json_fields.specs.Lists.{element, item_needed, items_of_list, listed}
use Rattle.exp_json.specs.Pipelines.{edge, follows, follows_one, pipeline, pipeline_table, slope}
use Rattle.exp_json.proofs.Kept.{Keeps, keeps-any, keeps-bind, keeps-demand, keeps-object, keeps-one, keeps-optional, keeps-then, keeps-weaker, keeps-within}
use Rattle.exp_json.proofs.KeptValues.{keeps-count}
use Rattle.exp_json.proofs.KeptLists.{IsListed, all-behind, keeps-listed}

-- the last of a list
abbrev pub last_of : {A : Type 0} → List A → Option A
last_of [] = None
last_of (a ∷ []) = Some a
last_of (a ∷ b ∷ rest) = last_of (b ∷ rest)

pub slice_get-last : {A : Type 0} (items : List A) → slice_get items (length items - 1) ≡ last_of items
slice_get-last [] = refl
slice_get-last (a ∷ []) = refl
slice_get-last (a ∷ b ∷ rest) =
    let here : length (a ∷ b ∷ rest) - 1 ≡ suc (length rest) = omega arith in
    let behind : length (b ∷ rest) - 1 ≡ length rest = omega arith in
    ap (slice_get (a ∷ b ∷ rest)) here ∙ ap (slice_get (b ∷ rest)) (sym behind) ∙ slice_get-last (b ∷ rest)

-- one more edge behind the last
rising-behind : (before : List Edge) (new : Edge) → IsTrue (are_rising before) → IsTrue (follows_one (last_of before) new) → IsTrue (are_rising (before ++ new ∷ []))
rising-behind [] new rising behind = refl
rising-behind (a ∷ []) new rising behind = and_from (is_edge_before a new) true behind refl
rising-behind (a ∷ b ∷ rest) new rising behind =
    let parts = and_parts (is_edge_before a b) (are_rising (b ∷ rest)) rising in
    and_from (is_edge_before a b) (are_rising (b ∷ rest ++ new ∷ [])) parts.0 (rising-behind (b ∷ rest) new parts.1 behind)

-- a channel from 24 to 31 is an input
input-channel : (channel : ℕ) → IsTrue (nat_le 24 channel && nat_le channel 31) → IsTrue (is_input channel)
input-channel channel test =
    let parts = and_parts (nat_le 24 channel) (nat_le channel 31) test in
    let low : 24 ≤ channel = leb-true 24 channel parts.0 in
    let high : channel ≤ 31 = leb-true channel 31 parts.1 in
    let out : nat_lt channel 16 ≡ false = le-ltb channel 16 (omega arith) in
    let raw : nat_lt channel 24 ≡ false = le-ltb channel 24 (omega arith) in
    let board : nat_lt channel 32 ≡ true = lt-ltb channel 32 (omega arith) in
    rw (out, raw, board) refl

-- an edge of the three items
edge-of : (channel stamp : ℕ) (rising : Bool) → IsTrue (nat_le 24 channel && nat_le channel 31) → IsTrue (nat_le 0 stamp && nat_le stamp (2 ^ 62 - 1)) → IsTrue (is_edge (record { channel = channel; stamp = pos stamp; rising = rising }))
edge-of channel stamp rising of_input small =
    let parts = and_parts (nat_le 0 stamp) (nat_le stamp (2 ^ 62 - 1)) small in
    let high : stamp ≤ 2 ^ 62 - 1 = leb-true stamp (2 ^ 62 - 1) parts.1 in
    let below : nat_lt stamp (2 ^ 62) ≡ true = lt-ltb stamp (2 ^ 62) (omega arith) in
    and_from (is_input channel && nat_le 0 stamp) (nat_lt stamp (2 ^ 62)) (and_from (is_input channel) (nat_le 0 stamp) (input-channel channel of_input) parts.0) below

-- the edges so far are of inputs, and rise
abbrev pub AreEdges : List Edge → Type 0
AreEdges edges = IsTrue (list_all is_edge edges) × IsTrue (are_rising edges)

edges-behind : (before : List Edge) (new : Edge) → AreEdges before → IsTrue (is_edge new) → IsTrue (follows before new) → AreEdges (before ++ new ∷ [])
edges-behind before new has is behind =
    (all-behind is_edge before new has.0 is, rising-behind before new has.1 (subst (λ last. IsTrue (follows_one last new)) (slice_get-last before) behind))

keeps-element : {A : Type 0} (p : A → Type 0) (i : ℕ) (kind : Data → Reading A) (d : Data) → ((v : Data) → Keeps p (kind v)) → Keeps p (element i kind d)
keeps-element p i kind d each =
    keeps-bind (λ (v : Data). Unit {0}) p (item_needed i d) (λ v. within (P.Place i) (kind v)) (keeps-any (item_needed i d)) (λ v found. keeps-within p (P.Place i) (kind v) (each v))

-- the parts of an edge behind its items
abbrev edge_of_items : List Edge → ℕ → ℕ → Bool → Reading Edge
edge_of_items before channel stamp rising =
    let new : Edge = record { channel = channel; stamp = pos stamp; rising = rising } in
    demand (follows before new) K.Order >> good new

abbrev edge_of_two : List Edge → Data → ℕ → ℕ → Reading Edge
edge_of_two before d channel stamp = element 2 slope d >>= edge_of_items before channel stamp

abbrev edge_of_one : List Edge → Data → ℕ → Reading Edge
edge_of_one before d channel = element 1 (count 0 (2 ^ 62 - 1)) d >>= edge_of_two before d channel

keeps-items : (before : List Edge) (channel stamp : ℕ) (rising : Bool) → AreEdges before → IsTrue (nat_le 24 channel && nat_le channel 31) → IsTrue (nat_le 0 stamp && nat_le stamp (2 ^ 62 - 1)) → Keeps (λ new. AreEdges (before ++ new ∷ [])) (edge_of_items before channel stamp rising)
keeps-items before channel stamp rising has of_input small =
    let new : Edge = record { channel = channel; stamp = pos stamp; rising = rising } in
    keeps-demand (λ new. AreEdges (before ++ new ∷ [])) (follows before new) K.Order (good new) (λ behind. edges-behind before new has (edge-of channel stamp rising of_input small) behind)

keeps-edge : (before : List Edge) (d : Data) → AreEdges before → Keeps (λ new. AreEdges (before ++ new ∷ [])) (edge before d)
keeps-edge before d has =
    keeps-then (λ new. AreEdges (before ++ new ∷ [])) (items_of_list 3 3 d) (element 0 (count 24 31) d >>= edge_of_one before d)
    (keeps-bind (λ n. IsTrue (nat_le 24 n && nat_le n 31)) (λ new. AreEdges (before ++ new ∷ [])) (element 0 (count 24 31) d) (edge_of_one before d) (keeps-element (λ n. IsTrue (nat_le 24 n && nat_le n 31)) 0 (count 24 31) d (keeps-count 24 31))
    (λ channel of_input. keeps-bind (λ n. IsTrue (nat_le 0 n && nat_le n (2 ^ 62 - 1))) (λ new. AreEdges (before ++ new ∷ [])) (element 1 (count 0 (2 ^ 62 - 1)) d) (edge_of_two before d channel) (keeps-element (λ n. IsTrue (nat_le 0 n && nat_le n (2 ^ 62 - 1))) 1 (count 0 (2 ^ 62 - 1)) d (keeps-count 0 (2 ^ 62 - 1)))
    (λ stamp small. keeps-bind (λ (b : Bool). Unit {0}) (λ new. AreEdges (before ++ new ∷ [])) (element 2 slope d) (edge_of_items before channel stamp) (keeps-any (element 2 slope d))
    (λ rising any. keeps-items before channel stamp rising has of_input small))))

edges-whole : (d : Data) (edges : List Edge) → IsListed AreEdges 0 4096 d edges → IsTrue (are_edges edges)
edges-whole d edges are =
    let few : nat_le (length edges) 4096 ≡ true = (and_parts (nat_le 0 (length edges)) (nat_le (length edges) 4096) are.length_fits).1 in
    and_from (nat_le (length edges) 4096 && list_all is_edge edges) (are_rising edges) (and_from (nat_le (length edges) 4096) (list_all is_edge edges) few are.kept.0) are.kept.1

keeps-edges : (d : Data) → Keeps (λ edges. IsTrue (are_edges edges)) (listed 0 4096 edge d)
keeps-edges d = keeps-weaker (IsListed AreEdges 0 4096 d) (λ edges. IsTrue (are_edges edges)) (listed 0 4096 edge d) (edges-whole d) (keeps-listed AreEdges 0 4096 edge d (refl, refl) keeps-edge)

-- a pipeline
pub keeps-pipeline : (d : Data) → Keeps (λ p. IsTrue (is_pipeline p)) (pipeline d)
keeps-pipeline d =
    keeps-object (λ p. IsTrue (is_pipeline p)) pipeline_table d
    (keeps-one (λ p. IsTrue (is_pipeline p)) (λ edges. IsTrue (are_edges edges)) (table_of (λ (edges : List Edge). record { edges = edges })) (optional (codes "edges") [] (listed 0 4096 edge)) d
    (keeps-optional (λ edges. IsTrue (are_edges edges)) (codes "edges") [] (listed 0 4096 edge) d refl keeps-edges)
    (λ edges are. are))
