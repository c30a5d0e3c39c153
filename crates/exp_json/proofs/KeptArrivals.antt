-- The arrivals that are read.
use Rattle.std.proofs.Common.{◌≡◌, ℕ, ◌+◌, ◌^◌, ◌≤◌, ◌<◌, Bool, true, false, not, cond, List, [], ◌∷◌, ◌++◌, length, refl, subst, ◌∙◌, arith}
use Rattle.std.specs.Prelude.{IsTrue, ◌&&◌, nat_le, codes, count_by}
use Rattle.std.specs.List.{list_all}
use Rattle.std.proofs.lemmas.Bool.{and_from, and_parts, leb-false, le-leb, not-true}
use Rattle.std.proofs.lemmas.List.Sums.{sum_by-append}
use Rattle.serde_json.specs.Data.{Data}
use Rattle.exp_model.specs.declared.arrival.Arrival.{Arrival}
use Rattle.exp_model.specs.declared.arrival.ArrivalAct.{ArrivalAct}
use Rattle.exp_model.specs.declared.arrival.ArrivalAct.TheVariants as A
use Rattle.exp_model.specs.Steps.{is_submission}
use Rattle.exp_model.specs.Sessions.{are_arrivals, are_in_order, is_act, is_arrival, submits}
use Rattle.json_fields.specs.declared.fault.FieldKind.TheVariants as K
use Rattle.json_fields.specs.Readings.{Reading, good, demand}
use Rattle.json_fields.specs.Values.{count}
use Rattle.json_fields.specs.Objects.{◌⊛◌, first_there, required, table_of}
use Rattle.json_fields.specs.Lists.{listed}
use Rattle.exp_json.specs.declared.around.Around.{Around}
use Rattle.exp_json.specs.declared.arrival.Order.{Order}
use Rattle.exp_json.specs.declared.arrival.Order.TheVariants as O
use Rattle.exp_json.specs.Arrivals.{arrival, clock_field, may_arrive, not_below, not_below_one, order_key, order_table, orders}
use Rattle.exp_json.specs.Steps.{submission}
use Rattle.exp_json.proofs.Kept.{Keeps, keeps-formed, keeps-ordered, keeps-required, keeps-two, keeps-weaker}
use Rattle.exp_json.proofs.KeptValues.{keeps-count}
use Rattle.exp_json.proofs.KeptLists.{IsListed, all-behind, keeps-listed}
use Rattle.exp_json.proofs.KeptEdges.{last_of, slice_get-last}
use Rattle.exp_json.proofs.KeptSteps.{keeps-submission, sizes}

-- one more arrival behind the last
order-behind : (before : List Arrival) (new : Arrival) → IsTrue (are_in_order before) → IsTrue (not_below_one (last_of before) new.at) → IsTrue (are_in_order (before ++ new ∷ []))
order-behind [] new in_order behind = refl
order-behind (a ∷ []) new in_order behind = and_from (nat_le a.at new.at) true behind refl
order-behind (a ∷ b ∷ rest) new in_order behind =
    let parts = and_parts (nat_le a.at b.at) (are_in_order (b ∷ rest)) in_order in
    and_from (nat_le a.at b.at) (are_in_order (b ∷ rest ++ new ∷ [])) parts.0 (order-behind (b ∷ rest) new parts.1 behind)

-- the arrivals so far: each is one, their clocks don't fall, and at most 64 submit
pub record AreArrivals (around : Around) (arrivals : List Arrival) : Type 0 where
  pub each : IsTrue (list_all (is_arrival (sizes around)) arrivals)
  pub in_order : IsTrue (are_in_order arrivals)
  pub few : count_by submits arrivals ≤ 64

count-behind : (before : List Arrival) (new : Arrival) → count_by submits before + cond (submits new) 1 0 ≤ 64 → count_by submits (before ++ new ∷ []) ≤ 64
count-behind before new few =
    let more = sum_by-append (λ a. cond (submits a) 1 0) before (new ∷ []) in
    omega arith

-- one more arrival
arrivals-behind : (around : Around) (before : List Arrival) (new : Arrival) → AreArrivals around before → IsTrue (is_arrival (sizes around) new) → IsTrue (not_below before new.at) → count_by submits before + cond (submits new) 1 0 ≤ 64 → AreArrivals around (before ++ new ∷ [])
arrivals-behind around before new are is behind few =
    record {
      each = all-behind (is_arrival (sizes around)) before new are.each is;
      in_order = order-behind before new are.in_order (subst (λ last. IsTrue (not_below_one last new.at)) (slice_get-last before) behind);
      few = count-behind before new few;
    }

-- the clock of an arrival
abbrev InRange : ℕ → Type 0
InRange clock = IsTrue (nat_le 0 clock && nat_le clock (2 ^ 62))

keeps-clock : (before : List Arrival) (d : Data) → Keeps (λ clock. InRange clock × IsTrue (not_below before clock)) ((clock_field before).reading d)
keeps-clock before d =
    keeps-ordered InRange (required (codes "at") (count 0 (2 ^ 62))) (not_below before) d (keeps-required InRange (codes "at") (count 0 (2 ^ 62)) d (λ v is. keeps-count 0 (2 ^ 62) v))

-- the clock and the order's field make an arrival
keeps-order_fields : {B : Type 0} (q : Arrival → Type 0) (r : B → Type 0) (before : List Arrival) (make : ℕ → B → Arrival) (key : List ℕ) (kind : Data → Reading B) (d : Data) → ((v : Data) → Keeps r (kind v)) → ((clock : ℕ) → IsTrue (nat_le clock (2 ^ 62)) → IsTrue (not_below before clock) → (b : B) → r b → q (make clock b)) → Keeps q ((table_of make ⊛ clock_field before ⊛ required key kind).fields d)
keeps-order_fields q r before make key kind d kept made =
    keeps-two q (λ clock. InRange clock × IsTrue (not_below before clock)) r (table_of make) (clock_field before) (required key kind) d (keeps-clock before d) (keeps-required r key kind d (λ v is. kept v))
    (λ clock has. made clock (and_parts (nat_le 0 clock) (nat_le clock (2 ^ 62)) has.0).1 has.1)

-- what a demand that passed asked
demand-passed : (test : Bool) → demand test K.Range ≡ good tt → IsTrue test
demand-passed true passed = refl
demand-passed false passed = absurd (cc)

abbrev arrival_made : (ℕ → ArrivalAct) → ℕ → ℕ → Arrival
arrival_made act clock rid = record { «at» = clock; act = act rid }

-- an arrival that doesn't submit
still-few : (before : List Arrival) (counts : Bool) → counts ≡ false → count_by submits before ≤ 64 → count_by submits before + cond counts 1 0 ≤ 64
still-few before true isnt few = absurd (cc)
still-few before false isnt few = omega arith

keeps-rid : (around : Around) (before : List Arrival) (act : ℕ → ArrivalAct) (key : List ℕ) (d : Data) → AreArrivals around before → ((rid : ℕ) → is_act (sizes around) (act rid) ≡ nat_le rid 63) → ((clock rid : ℕ) → submits (arrival_made act clock rid) ≡ false) → Keeps (λ new. AreArrivals around (before ++ new ∷ [])) ((table_of (arrival_made act) ⊛ clock_field before ⊛ required key (count 0 63)).fields d)
keeps-rid around before act key d are acts counts =
    keeps-order_fields (λ new. AreArrivals around (before ++ new ∷ [])) (λ rid. IsTrue (nat_le 0 rid && nat_le rid 63)) before (arrival_made act) key (count 0 63) d (keeps-count 0 63)
    (λ clock small behind rid of_run.
    let new : Arrival = arrival_made act clock rid in
    let run : nat_le rid 63 ≡ true = (and_parts (nat_le 0 rid) (nat_le rid 63) of_run).1 in
    let is : IsTrue (is_arrival (sizes around) new) = and_from (nat_le clock (2 ^ 62)) (is_act (sizes around) (act rid)) small (acts rid ∙ run) in
    arrivals-behind around before new are is behind (still-few before (submits new) (counts clock rid) are.few))

one-more : (before : List Arrival) → nat_le 64 (count_by submits before) ≡ false → count_by submits before + 1 ≤ 64
one-more before room =
    let below : count_by submits before < 64 = leb-false 64 (count_by submits before) room in
    omega arith

keeps-fields : (around : Around) (before : List Arrival) (order : Order) (d : Data) → AreArrivals around before → may_arrive before order ≡ good tt → Keeps (λ new. AreArrivals around (before ++ new ∷ [])) ((order_table around before order).fields d)
keeps-fields around before O.Submit d are passed =
    keeps-order_fields (λ new. AreArrivals around (before ++ new ∷ [])) (λ s. IsTrue (is_submission (sizes around) s)) before (λ clock submitted. record { «at» = clock; act = A.Submit submitted }) (codes "submit") (submission around) d (keeps-submission around)
    (λ clock small behind s of_list.
    let new : Arrival = record { «at» = clock; act = A.Submit s } in
    let is : IsTrue (is_arrival (sizes around) new) = and_from (nat_le clock (2 ^ 62)) (is_submission (sizes around) s) small of_list in
    let room : nat_le 64 (count_by submits before) ≡ false = not-true (nat_le 64 (count_by submits before)) (demand-passed (not (nat_le 64 (count_by submits before))) passed) in
    arrivals-behind around before new are is behind (one-more before room))
keeps-fields around before O.Delete d are passed = keeps-rid around before (λ rid. A.Delete rid) (codes "delete") d are (λ rid. refl) (λ clock rid. refl)
keeps-fields around before O.Terminate d are passed = keeps-rid around before (λ rid. A.Terminate rid) (codes "terminate") d are (λ rid. refl) (λ clock rid. refl)

keeps-arrival : (around : Around) (before : List Arrival) (d : Data) → AreArrivals around before → Keeps (λ new. AreArrivals around (before ++ new ∷ [])) (arrival around before d)
keeps-arrival around before d are =
    keeps-formed (λ new. AreArrivals around (before ++ new ∷ [])) (first_there order_key orders) (may_arrive before) (order_table around before) d (λ order passed. keeps-fields around before order d are passed)

arrivals-whole : (around : Around) (d : Data) (arrivals : List Arrival) → IsListed (AreArrivals around) 0 256 d arrivals → IsTrue (are_arrivals (sizes around) arrivals)
arrivals-whole around d arrivals are =
    let few : nat_le (length arrivals) 256 ≡ true = (and_parts (nat_le 0 (length arrivals)) (nat_le (length arrivals) 256) are.length_fits).1 in
    and_from _ _ (and_from _ _ (and_from _ _ few are.kept.each) are.kept.in_order) (le-leb (count_by submits arrivals) 64 are.kept.few)

no-arrivals : (around : Around) → AreArrivals around []
no-arrivals around = record { each = refl; in_order = refl; few = omega arith }

-- the arrivals of a session
pub keeps-arrivals : (around : Around) (d : Data) → Keeps (λ arrivals. IsTrue (are_arrivals (sizes around) arrivals)) (listed 0 256 (arrival around) d)
keeps-arrivals around d =
    keeps-weaker (IsListed (AreArrivals around) 0 256 d) (λ arrivals. IsTrue (are_arrivals (sizes around) arrivals)) (listed 0 256 (arrival around) d) (arrivals-whole around d) (keeps-listed (AreArrivals around) 0 256 (arrival around) d (no-arrivals around) (keeps-arrival around))
