-- What the requests do to the bounds follows what they do in the other run.
use Rattle.std.proofs.Common.{◌≡◌, ℕ, ◌+◌, ◌-◌, ◌^◌, ◌<◌, ◌≤◌, Bool, true, false, not, List, [], ◌∷◌, length, Option, Some, None, refl, sym, ap, subst, ◌∙◌, arith}
use Rattle.std.specs.Prelude.{ℤ, pos, ◌&&◌, ◌||◌, max, nat_le, nat_lt, bytes_eq, if◌then◌else◌}
use Rattle.std.proofs.lemmas.Bool.Decides.{nat_tests}
use Rattle.std.proofs.lemmas.Int.{ints}
use Rattle.std.proofs.lemmas.Slice.Zip.{AllZip-long}
use Rattle.rtio_types.specs.Time.{reading, whole_cycles, cycle_of_stamp, counter_reaching}
use Rattle.kern_syntax.specs.Tree.{Bytes}
use Rattle.slack_meaning.specs.declared.verdict.OpenKind.TheVariants as K
use Rattle.slack_meaning.specs.declared.verdict.Stopped.TheVariants as W
use Rattle.slack_meaning.specs.declared.span.SpanEvent.{SpanEvent}
use Rattle.slack_meaning.specs.Actions.{SpanRecording, State}
use Rattle.slack_meaning.specs.Answers.{counted, answered, earliest, limit_at, submit_if, submit, await, lead_if, read_lead, is_known, at_hand, with_recording, remembering, save_if, save, erase_of, erase, fetch_of, fetch}
use Rattle.slack_meaning.proofs.Spans.{cycle-rises}
use Rattle.slack_order.proofs.Inside.{IsInside}
use Rattle.slack_order.proofs.Standing.{IsEventInside, IsRecordingInside, IsThere, IsNamed, AreSavedInside, LiesInside, Meets, stopped, normally}
use Rattle.slack_order.proofs.Following.{Follows, FollowsPart, Any, follows_then, follows_give, follows_open}

-- a request raises the limit
pub counted-inside : (a b : State) (l m : ℕ) → LiesInside a b → l ≤ m → a.least ≤ l → LiesInside (counted a l) (counted b m)
counted-inside a b l m h less low =
    let cost = h.bounds.cost in
    record {
      values = h.values;
      cursor = h.cursor;
      units = h.units;
      collected = h.collected;
      bounds = record {
        limit = omega (arith, less, cost);
        least = h.bounds.least;
        ordered = omega (arith, low);
        outs = h.bounds.outs;
        saved = h.bounds.saved;
        cost = cost;
        depth = h.bounds.depth;
      };
    }

with-least : (a b : State) (i j : ℕ) → LiesInside a b → i ≡ j → i ≤ a.limit → LiesInside (record a { least = i }) (record b { least = j })
with-least a b i j h same low = record {
  values = h.values;
  cursor = h.cursor;
  units = h.units;
  collected = h.collected;
  bounds = record {
    limit = h.bounds.limit;
    least = same;
    ordered = low;
    outs = h.bounds.outs;
    saved = h.bounds.saved;
    cost = h.bounds.cost;
    depth = h.bounds.depth;
  };
}

with-outs : (a b : State) (m n : ℕ) → LiesInside a b → m ≡ n → LiesInside (record a { outs = m }) (record b { outs = n })
with-outs a b m n h same = record {
  values = h.values;
  cursor = h.cursor;
  units = h.units;
  collected = h.collected;
  bounds = record {
    limit = h.bounds.limit;
    least = h.bounds.least;
    ordered = h.bounds.ordered;
    outs = same;
    saved = h.bounds.saved;
    cost = h.bounds.cost;
    depth = h.bounds.depth;
  };
}

with-saved : (a b : State) (xs ys : List (Bytes × Option SpanRecording)) → LiesInside a b → AreSavedInside xs ys → LiesInside (record a { saved = xs }) (record b { saved = ys })
with-saved a b xs ys h new = record {
  values = h.values;
  cursor = h.cursor;
  units = h.units;
  collected = h.collected;
  bounds = record {
    limit = h.bounds.limit;
    least = h.bounds.least;
    ordered = h.bounds.ordered;
    outs = h.bounds.outs;
    saved = new;
    cost = h.bounds.cost;
    depth = h.bounds.depth;
  };
}

-- a request that is answered at once
at-once : (a b : State) → LiesInside a b → LiesInside (counted a a.limit) (counted b b.limit)
at-once a b h = counted-inside a b a.limit b.limit h h.bounds.limit h.bounds.ordered

pub follows_answered : FollowsPart answered answered
follows_answered = record { from = λ a b inside. normally tt (at-once a b inside) }

-- how far the limit may have got when an output is answered
limit-inside : (a b : State) (e f : SpanEvent) → LiesInside a b → IsEventInside e f → limit_at a e ≤ limit_at b f
limit-inside a b e f h k = by (nat_lt a.outs a.depth) (nat_lt b.outs b.depth) refl refl
  where
    high : cycle_of_stamp e.stamp.greatest ≤ cycle_of_stamp f.stamp.greatest
    high = cycle-rises e.stamp.greatest f.stamp.greatest k.stamp.greatest

    by : (p q : Bool) → nat_lt a.outs a.depth ≡ p → nat_lt b.outs b.depth ≡ q → (if p then a.limit else max a.limit (reading (cycle_of_stamp e.stamp.greatest - 1))) ≤ (if q then b.limit else max b.limit (reading (cycle_of_stamp f.stamp.greatest - 1)))
    by true true few fewer = h.bounds.limit
    by true false few many = let limit = h.bounds.limit in omega (arith, limit)
    by false false many more = let limit = h.bounds.limit in let rises = high in omega (arith, limit, rises)
    by false true many few =
        let here : a.depth ≤ a.outs = grind (arith, nat_tests, many) in
        let there : b.outs < b.depth = grind (arith, nat_tests, few) in
        let outs = h.bounds.outs in
        let depth = h.bounds.depth in
        absurd (omega (arith, here, there, outs, depth))

-- and it isn't below the least reading then
no-less : (a : State) (e : SpanEvent) → a.least ≤ a.limit → a.least ≤ limit_at a e
no-less a e low = by (nat_lt a.outs a.depth)
  where
    by : (p : Bool) → a.least ≤ (if p then a.limit else max a.limit (reading (cycle_of_stamp e.stamp.greatest - 1)))
    by true = low
    by false = omega (arith, low)

pub follows_submit : (e f : SpanEvent) → IsEventInside e f → FollowsPart (submit e) (submit f)
follows_submit e f k = record { from = λ a b inside. by a b inside (nat_le (cycle_of_stamp f.stamp.least) (whole_cycles b.limit)) refl }
  where
    in-time : (a b : State) → LiesInside a b → nat_le (cycle_of_stamp f.stamp.least) (whole_cycles b.limit) ≡ false → nat_le (cycle_of_stamp e.stamp.least) (whole_cycles a.limit) ≡ false
    in-time a b h late =
        let there : whole_cycles b.limit < cycle_of_stamp f.stamp.least = grind (arith, nat_tests, late) in
        let limit = h.bounds.limit in
        let same : cycle_of_stamp e.stamp.least ≡ cycle_of_stamp f.stamp.least = ap cycle_of_stamp k.stamp.least in
        let here : whole_cycles a.limit < cycle_of_stamp e.stamp.least = omega (arith, there, limit, same) in
        grind (arith, nat_tests, here)

    submitted : (a b : State) → LiesInside a b → Meets Any (submit_if false e a) (submit_if false f b)
    submitted a b h =
        let outs = h.bounds.outs in
        let ordered = h.bounds.ordered in
        normally tt
        (with-outs (counted a (limit_at a e)) (counted b (limit_at b f)) (a.outs + 1) (b.outs + 1)
        (counted-inside a b (limit_at a e) (limit_at b f) h (limit-inside a b e f h k) (no-less a e ordered))
        (omega (arith, outs)))

    by : (a b : State) → LiesInside a b → (p : Bool) → nat_le (cycle_of_stamp f.stamp.least) (whole_cycles b.limit) ≡ p → Meets Any (submit e a) (submit_if p f b)
    by a b h true late = stopped (W.TooLate b.outs (earliest f) b.limit) b
    by a b h false late = subst (λ q. Meets Any (submit_if q e a) (submit_if false f b)) (sym (in-time a b h late)) (submitted a b h)

-- a wait until the same moment
pub follows_await : (moment : ℤ) → FollowsPart (await moment) (await moment)
follows_await moment = record { from = λ a b inside. normally tt (by a b inside) }
  where
    by : (a b : State) → LiesInside a b → LiesInside (record (counted a (max a.limit (reading (counter_reaching moment)))) { least = max a.least (reading (counter_reaching moment)) }) (record (counted b (max b.limit (reading (counter_reaching moment)))) { least = max b.least (reading (counter_reaching moment)) })
    by a b h =
        let limit = h.bounds.limit in
        let least = h.bounds.least in
        let ordered = h.bounds.ordered in
        with-least (counted a (max a.limit (reading (counter_reaching moment)))) (counted b (max b.limit (reading (counter_reaching moment)))) (max a.least (reading (counter_reaching moment))) (max b.least (reading (counter_reaching moment)))
        (counted-inside a b (max a.limit (reading (counter_reaching moment))) (max b.limit (reading (counter_reaching moment))) h (omega (arith, limit)) (omega (arith, ordered)))
        (omega (arith, least))
        (omega (arith, ordered))

-- the lead over a reading
pub follows_lead : Follows IsInside read_lead read_lead
follows_lead = record { from = λ a b inside. by a b inside (nat_lt (2 ^ 62) (b.limit + 125000)) refl }
  where
    near : (a b : State) → LiesInside a b → nat_lt (2 ^ 62) (b.limit + 125000) ≡ false → nat_lt (2 ^ 62) (a.limit + 125000) ≡ false
    near a b h is =
        let there : b.limit + 125000 ≤ 2 ^ 62 = grind (arith, nat_tests, is) in
        let limit = h.bounds.limit in
        let here : a.limit + 125000 ≤ 2 ^ 62 = omega (arith, there, limit) in
        grind (arith, nat_tests, here)

    lead : (a b : State) → LiesInside a b → IsInside (record { least = pos (a.least + 125000); greatest = pos (a.limit + 125000) }) (record { least = pos (b.least + 125000); greatest = pos (b.limit + 125000) })
    lead a b h =
        let limit = h.bounds.limit in
        let least = h.bounds.least in
        let ordered = h.bounds.ordered in
        record {
          least = ap (λ (n : ℕ). pos (n + 125000)) least;
          ordered = omega (arith, ints, ordered);
          greatest = omega (arith, ints, limit);
        }

    by : (a b : State) → LiesInside a b → (p : Bool) → nat_lt (2 ^ 62) (b.limit + 125000) ≡ p → Meets IsInside (read_lead a) (lead_if p b)
    by a b h true far = stopped (W.Unknown b.requests K.Far) b
    by a b h false is =
        subst (λ q. Meets IsInside (lead_if q a) (lead_if false b)) (sym (near a b h is)) (normally (lead a b h) (at-once a b h))

-- the names saved in the run
same-known : (xs ys : List (Bytes × Option SpanRecording)) (name : Bytes) → AreSavedInside xs ys → is_known xs name ≡ is_known ys name
same-known [] [] name h = refl
same-known (x ∷ xs) (y ∷ ys) name h =
    ap (λ n. bytes_eq name n || is_known xs name) h.0.name ∙ ap (λ b. bytes_eq name y.0 || b) (same-known xs ys name h.1)
same-known [] (y ∷ ys) name h = absurd h
same-known (x ∷ xs) [] name h = absurd h

same-number : (xs ys : List (Bytes × Option SpanRecording)) → AreSavedInside xs ys → length xs ≡ length ys
same-number xs ys h = sym (AllZip-long (IsNamed (IsThere IsRecordingInside)) xs ys h)

hand-inside : (xs ys : List (Bytes × Option SpanRecording)) (name : Bytes) → AreSavedInside xs ys → IsThere IsRecordingInside (at_hand xs name) (at_hand ys name)
hand-inside [] [] name h = tt
hand-inside (x ∷ xs) (y ∷ ys) name h = by (bytes_eq name x.0) (bytes_eq name y.0) (ap (bytes_eq name) h.0.name) (hand-inside xs ys name h.1)
  where
    by : (b c : Bool) → b ≡ c → IsThere IsRecordingInside (at_hand xs name) (at_hand ys name) → IsThere IsRecordingInside (if b then x.1 else at_hand xs name) (if c then y.1 else at_hand ys name)
    by true true is rest = h.0.has
    by false false is rest = rest
    by true false is rest = absurd (cc)
    by false true is rest = absurd (cc)
hand-inside [] (y ∷ ys) name h = absurd h
hand-inside (x ∷ xs) [] name h = absurd h

saved-inside : (xs ys : List (Bytes × Option SpanRecording)) (name : Bytes) (o p : Option SpanRecording) → AreSavedInside xs ys → IsThere IsRecordingInside o p → AreSavedInside (with_recording xs name o) (with_recording ys name p)
saved-inside [] [] name o p h new = (record { name = refl; has = new }, tt)
saved-inside (x ∷ xs) (y ∷ ys) name o p h new = by (bytes_eq name x.0) (bytes_eq name y.0) (ap (bytes_eq name) h.0.name) (saved-inside xs ys name o p h.1 new)
  where
    by : (b c : Bool) → b ≡ c → AreSavedInside (with_recording xs name o) (with_recording ys name p) → AreSavedInside (if b then (x.0, o) ∷ xs else x ∷ with_recording xs name o) (if c then (y.0, p) ∷ ys else y ∷ with_recording ys name p)
    by true true is rest = (record { name = h.0.name; has = new }, h.1)
    by false false is rest = (h.0, rest)
    by true false is rest = absurd (cc)
    by false true is rest = absurd (cc)
saved-inside [] (y ∷ ys) name o p h new = absurd h
saved-inside (x ∷ xs) [] name o p h new = absurd h

remembered : (a b : State) (name : Bytes) (o p : Option SpanRecording) → LiesInside a b → IsThere IsRecordingInside o p → LiesInside (remembering a name o) (remembering b name p)
remembered a b name o p h new =
    with-saved (counted a a.limit) (counted b b.limit) (with_recording a.saved name o) (with_recording b.saved name p) (at-once a b h) (saved-inside a.saved b.saved name o p h.bounds.saved new)

pub follows_save : (name : Bytes) (r t : SpanRecording) → IsRecordingInside r t → FollowsPart (save name r) (save name t)
follows_save name r t k = record { from = λ a b inside. subst (λ p. Meets Any (save_if p name r a) (save name t b)) (sym (same a b inside)) (by a b inside (nat_le 1000 (length b.saved) && not (is_known b.saved name))) }
  where
    same : (a b : State) → LiesInside a b → (nat_le 1000 (length a.saved) && not (is_known a.saved name)) ≡ (nat_le 1000 (length b.saved) && not (is_known b.saved name))
    same a b h =
        ap (λ n. nat_le 1000 n && not (is_known a.saved name)) (same-number a.saved b.saved h.bounds.saved)
        ∙ ap (λ p. nat_le 1000 (length b.saved) && not p) (same-known a.saved b.saved name h.bounds.saved)

    by : (a b : State) → LiesInside a b → (p : Bool) → Meets Any (save_if p name r a) (save_if p name t b)
    by a b h true = stopped (W.Unknown b.requests K.Names) b
    by a b h false = normally tt (remembered a b name (Some r) (Some t) h k)

pub follows_erase : (name : Bytes) → FollowsPart (erase name) (erase name)
follows_erase name = record { from = λ a b inside. by a b inside (at_hand a.saved name) (at_hand b.saved name) (hand-inside a.saved b.saved name inside.bounds.saved) }
  where
    by : (a b : State) → LiesInside a b → (o p : Option SpanRecording) → IsThere IsRecordingInside o p → Meets Any (erase_of o name a) (erase_of p name b)
    by a b h None None k = stopped (W.Unknown b.requests K.Kept) b
    by a b h (Some r) (Some t) k = normally tt (remembered a b name None None h tt)
    by a b h None (Some t) k = absurd k
    by a b h (Some r) None k = absurd k

pub follows_fetch : (name : Bytes) → Follows IsRecordingInside (fetch name) (fetch name)
follows_fetch name = record { from = λ a b inside. (by (at_hand a.saved name) (at_hand b.saved name) (hand-inside a.saved b.saved name inside.bounds.saved)).from a b inside }
  where
    by : (o p : Option SpanRecording) → IsThere IsRecordingInside o p → Follows IsRecordingInside (fetch_of o) (fetch_of p)
    by None None k = follows_open (fetch_of None) K.Kept
    by (Some r) (Some t) k = follows_then follows_answered (follows_give k)
    by None (Some t) k = absurd k
    by (Some r) None k = absurd k
