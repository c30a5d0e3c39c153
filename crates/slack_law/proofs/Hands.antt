-- The recordings at hand, and those that a core keeps, after a save or an erase.
use Rattle.std.proofs.Common.{◌≡◌, ℕ, ◌+◌, ◌≤◌, Bool, true, false, not, cond, List, [], ◌∷◌, ◌++◌, length, map, filter, Option, None, Some, option_map, bytes_eq, refl, sym, ap, ◌∙◌, arith, length-append}
use Rattle.std.specs.Prelude.{find}
use Rattle.std.specs.List.{list_any}
use Rattle.std.proofs.lemmas.List.{length-map}
use Rattle.std.proofs.lemmas.Slice.Eq.{bytes_eq-Decides}
use Rattle.rtio_types.specs.Recordings.{Recorded}
use Rattle.kern_syntax.specs.Tree.{Bytes}
use Rattle.dma_store.specs.Kept.{KeptState, erased, is_kept, is_named, recording_named, resaved, saved}
use Rattle.slack_meaning.specs.Actions.{SpanRecording}
use Rattle.slack_meaning.specs.Answers.{is_known, at_hand, with_recording}
use Rattle.slack_law.proofs.Standing.{hands}

abbrev pub one : Option SpanRecording → ℕ
one None = 0
one (Some f) = 1

-- where two are the same, a third is both or neither
same-test : (name other key : List ℕ) → bytes_eq other key ≡ true → bytes_eq name key ≡ bytes_eq name other
same-test name other key is = ap (bytes_eq name) (sym ((bytes_eq-Decides other key).0 is))

-- and where they aren't, it isn't both
not-both : (name other key : List ℕ) → bytes_eq other key ≡ false → bytes_eq name key ≡ true → bytes_eq name other ≡ false
not-both name other key isnt is = ap (λ n. bytes_eq n other) ((bytes_eq-Decides name key).0 is) ∙ by (bytes_eq key other) refl
  where
    by : (b : Bool) → bytes_eq key other ≡ b → bytes_eq key other ≡ false
    by false differs = differs
    by true equal =
        let same : key ≡ other = (bytes_eq-Decides key other).0 equal in
        let again : bytes_eq other key ≡ true = ap (bytes_eq other) same ∙ sym (ap (λ n. bytes_eq n other) same) ∙ equal in
        let clash : true ≡ false = sym again ∙ isnt in
        absurd (cc)

swapped : {X : Type 0} (a b : Bool) (one other rest : X) → (a ≡ true → b ≡ false) → cond a one (cond b other rest) ≡ cond b other (cond a one rest)
swapped true true one other rest apart = let clash : true ≡ false = apart refl in absurd (cc)
swapped true false one other rest apart = refl
swapped false b one other rest apart = refl

-- what is at hand after a name was saved or erased
pub hand-with : (saved : List (Bytes × Option SpanRecording)) (other name : Bytes) (new : Option SpanRecording) → at_hand (with_recording saved other new) name ≡ cond (bytes_eq name other) new (at_hand saved name)
hand-with [] other name new = refl
hand-with (entry ∷ rest) other name new = by (bytes_eq other entry.0) refl (hand-with rest other name new)
  where
    by-test : (b : Bool) → bytes_eq name other ≡ b → bytes_eq other entry.0 ≡ true → cond (bytes_eq name other) new (at_hand rest name) ≡ cond (bytes_eq name other) new (cond (bytes_eq name entry.0) entry.1 (at_hand rest name))
    by-test true is same = rw is refl
    by-test false isnt same = rw isnt (sym (ap (λ b. cond b entry.1 (at_hand rest name)) (same-test name other entry.0 same ∙ isnt)))

    by : (b : Bool) → bytes_eq other entry.0 ≡ b → at_hand (with_recording rest other new) name ≡ cond (bytes_eq name other) new (at_hand rest name) → at_hand (cond (bytes_eq other entry.0) ((entry.0, new) ∷ rest) (entry ∷ with_recording rest other new)) name ≡ cond (bytes_eq name other) new (cond (bytes_eq name entry.0) entry.1 (at_hand rest name))
    by true same ih =
        rw same (ap (λ b. cond b new (at_hand rest name)) (same-test name other entry.0 same) ∙ by-test (bytes_eq name other) refl same)
    by false differs ih =
        rw differs (ap (cond (bytes_eq name entry.0) entry.1) ih ∙ swapped (bytes_eq name entry.0) (bytes_eq name other) entry.1 new (at_hand rest name) (not-both name other entry.0 differs))

-- how many are at hand then
pub hands-with : (saved : List (Bytes × Option SpanRecording)) (name : Bytes) (new : Option SpanRecording) → hands (with_recording saved name new) + one (at_hand saved name) ≡ hands saved + one new
hands-with [] name None = omega arith
hands-with [] name (Some f) = omega arith
hands-with (entry ∷ rest) name new = by (bytes_eq name entry.0) refl (hands-with rest name new)
  where
    same-one : (o : Option SpanRecording) → hands ((name, o) ∷ []) ≡ one o
    same-one None = omega arith
    same-one (Some f) = omega arith

    front : (e : Bytes × Option SpanRecording) (es : List (Bytes × Option SpanRecording)) → hands (e ∷ es) ≡ one e.1 + hands es
    front (n, None) es = omega arith
    front (n, Some f) es = omega arith

    by : (b : Bool) → bytes_eq name entry.0 ≡ b → hands (with_recording rest name new) + one (at_hand rest name) ≡ hands rest + one new → hands (cond (bytes_eq name entry.0) ((entry.0, new) ∷ rest) (entry ∷ with_recording rest name new)) + one (cond (bytes_eq name entry.0) entry.1 (at_hand rest name)) ≡ hands (entry ∷ rest) + one new
    by true is ih = rw is (let a = front (entry.0, new) rest in let b = front entry rest in omega (arith, a, b))
    by false isnt ih = rw isnt (let a = front entry (with_recording rest name new) in let b = front entry rest in omega (arith, a, b, ih))

-- the names grow by one at most, and not by a known one
pub names-with : (saved : List (Bytes × Option SpanRecording)) (name : Bytes) (new : Option SpanRecording) → length (with_recording saved name new) ≤ length saved + 1
names-with [] name new = omega arith
names-with (entry ∷ rest) name new = by (bytes_eq name entry.0) (names-with rest name new)
  where
    by : (b : Bool) → length (with_recording rest name new) ≤ length rest + 1 → length (cond b ((entry.0, new) ∷ rest) (entry ∷ with_recording rest name new)) ≤ length (entry ∷ rest) + 1
    by true ih = omega arith
    by false ih = omega (arith, ih)

pub names-known : (saved : List (Bytes × Option SpanRecording)) (name : Bytes) (new : Option SpanRecording) → is_known saved name ≡ true → length (with_recording saved name new) ≡ length saved
names-known [] name new known = absurd (cc)
names-known (entry ∷ rest) name new known = by (bytes_eq name entry.0) refl (names-known rest name new) known
  where
    by : (b : Bool) → bytes_eq name entry.0 ≡ b → (is_known rest name ≡ true → length (with_recording rest name new) ≡ length rest) → is_known (entry ∷ rest) name ≡ true → length (cond (bytes_eq name entry.0) ((entry.0, new) ∷ rest) (entry ∷ with_recording rest name new)) ≡ length (entry ∷ rest)
    by true is ih known = rw is refl
    by false isnt ih known = let behind : is_known rest name ≡ true = rw isnt at known in let same = ih behind in rw isnt (omega (arith, same))

-- what is at hand is known
pub hand-known : (saved : List (Bytes × Option SpanRecording)) (name : Bytes) (f : SpanRecording) → at_hand saved name ≡ Some f → is_known saved name ≡ true
hand-known [] name f h = absurd (cc)
hand-known (entry ∷ rest) name f h = by (bytes_eq name entry.0) refl h (hand-known rest name f)
  where
    by : (b : Bool) → bytes_eq name entry.0 ≡ b → at_hand (entry ∷ rest) name ≡ Some f → (at_hand rest name ≡ Some f → is_known rest name ≡ true) → is_known (entry ∷ rest) name ≡ true
    by true is h ih = rw is refl
    by false isnt h ih = let behind : at_hand rest name ≡ Some f = rw isnt at h in rw isnt (ih behind)

-- a name with a recording is kept
pub found-kept : (kept : KeptState) (name : List ℕ) (r : Recorded) → recording_named kept name ≡ Some r → is_kept kept name ≡ true
found-kept kept name r h = among kept.entries h
  where
    among : (entries : List (List ℕ × Recorded)) → option_map (λ (e : List ℕ × Recorded). e.1) (find (is_named name) entries) ≡ Some r → list_any (is_named name) entries ≡ true
    among [] h = absurd (cc)
    among (entry ∷ entries) h = by (bytes_eq name entry.0) refl h (among entries)
      where
        by : (b : Bool) → bytes_eq name entry.0 ≡ b → option_map (λ (e : List ℕ × Recorded). e.1) (find (is_named name) (entry ∷ entries)) ≡ Some r → (option_map (λ (e : List ℕ × Recorded). e.1) (find (is_named name) entries) ≡ Some r → list_any (is_named name) entries ≡ true) → list_any (is_named name) (entry ∷ entries) ≡ true
        by true is h ih = rw is refl
        by false isnt h ih = let behind : option_map (λ (e : List ℕ × Recorded). e.1) (find (is_named name) entries) ≡ Some r = rw isnt at h in rw isnt (ih behind)

-- how many are kept after a save
pub kept-saved : (kept : KeptState) (name : List ℕ) (r : Recorded) → length (saved kept name r).entries ≤ length kept.entries + 1
kept-saved kept name r = by (is_kept kept name)
  where
    by : (b : Bool) → length (cond b (map (resaved name r) kept.entries) (kept.entries ++ (name, r) ∷ [])) ≤ length kept.entries + 1
    by true = let long = length-map kept.entries (resaved name r) in omega (arith, long)
    by false = let long = length-append kept.entries ((name, r) ∷ []) in omega (arith, long)

pub kept-resaved : (kept : KeptState) (name : List ℕ) (r : Recorded) → is_kept kept name ≡ true → length (saved kept name r).entries ≡ length kept.entries
kept-resaved kept name r is =
    ap (λ b. length (cond b (map (resaved name r) kept.entries) (kept.entries ++ (name, r) ∷ []))) is ∙ length-map kept.entries (resaved name r)

-- and after an erase
pub kept-erased : (kept : KeptState) (name : List ℕ) → is_kept kept name ≡ true → length (erased kept name).entries + 1 ≤ length kept.entries
kept-erased kept name is = among kept.entries is
  where
    short : (entries : List (List ℕ × Recorded)) → length (filter (λ e. not (is_named name e)) entries) ≤ length entries
    short [] = omega arith
    short (entry ∷ entries) = by (bytes_eq name entry.0) (short entries)
      where
        by : (b : Bool) → length (filter (λ e. not (is_named name e)) entries) ≤ length entries → length (cond (not b) (entry ∷ filter (λ e. not (is_named name e)) entries) (filter (λ e. not (is_named name e)) entries)) ≤ length (entry ∷ entries)
        by true h = omega (arith, h)
        by false h = omega (arith, h)

    among : (entries : List (List ℕ × Recorded)) → list_any (is_named name) entries ≡ true → length (filter (λ e. not (is_named name e)) entries) + 1 ≤ length entries
    among [] is = absurd (cc)
    among (entry ∷ entries) is = by (bytes_eq name entry.0) refl is (among entries)
      where
        by : (b : Bool) → bytes_eq name entry.0 ≡ b → list_any (is_named name) (entry ∷ entries) ≡ true → (list_any (is_named name) entries ≡ true → length (filter (λ e. not (is_named name e)) entries) + 1 ≤ length entries) → length (filter (λ e. not (is_named name e)) (entry ∷ entries)) + 1 ≤ length (entry ∷ entries)
        by true same is ih = rw same (let h = short entries in omega (arith, h))
        by false isnt is ih = let behind : list_any (is_named name) entries ≡ true = rw isnt at is in let h = ih behind in rw isnt (omega (arith, h))
