-- No two of the recordings that a core keeps have one name.
use Rattle.std.proofs.Common.{◌≡◌, ℕ, zero, suc, true, false, Bool, List, [], ◌∷◌, ◌++◌, fold, refl, sym, ap, subst, ◌∙◌, bytes_eq, map, Option, Some, None, option_map}
use Rattle.std.specs.Prelude.{IsTrue, filter, find, not, slice_get, ◌||◌}
use Rattle.std.specs.List.{list_any}
use Rattle.std.proofs.lemmas.Bool.{and_parts, not-true}
use Rattle.std.proofs.lemmas.Option.{same_Some}
use Rattle.std.proofs.lemmas.Slice.Eq.{bytes_eq-Decides}
use Rattle.rtio_types.specs.declared.request.Request.{Request}
use Rattle.rtio_types.specs.declared.request.Request.TheVariants as ask
use Rattle.rtio_types.specs.declared.request.Reply.{Reply}
use Rattle.rtio_types.specs.declared.request.Reply.TheVariants as answer
use Rattle.rtio_types.specs.Recordings.{Recorded}
use Rattle.dma_store.specs.Kept.{KeptState, is_kept, is_named, name_at, recording_named, resaved, saved}
use Rattle.rtio_core.specs.declared.data.Act.{Act}
use Rattle.rtio_core.specs.declared.data.Act.TheVariants.{Start, Asked, End}
use Rattle.rtio_core.specs.declared.data.Config.{Config}
use Rattle.rtio_core.specs.declared.data.Entry.{Entry}
use Rattle.rtio_core.specs.declared.named.Named.{Named}
use Rattle.rtio_core.specs.Entries.{is_config_ok, kept_after, kept_by}
use Rattle.rtio_core.specs.Handed.{are_names_different, has_name, kept_of}

-- no name stands twice
abbrev pub AreApart : List (List ℕ × Recorded) → Type 0
AreApart [] = Unit {0}
AreApart (first ∷ rest) = (list_any (is_named first.0) rest ≡ false) × AreApart rest

left-false : (a b : Bool) → (a || b) ≡ false → a ≡ false
left-false false b h = refl
left-false true b h = absurd (cc)

right-false : (a b : Bool) → (a || b) ≡ false → b ≡ false
right-false false b h = h
right-false true b h = absurd (cc)

differs : (a b : List ℕ) → bytes_eq a b ≡ false → bytes_eq b a ≡ false
differs a b other = by (bytes_eq b a) refl
  where
    by : (c : Bool) → bytes_eq b a ≡ c → c ≡ false
    by false is = refl
    by true is =
        let same : bytes_eq a b ≡ true = (bytes_eq-Decides a b).1 (sym ((bytes_eq-Decides b a).0 is)) in
        let clash : true ≡ false = sym same ∙ other in
        absurd (cc)

-- ---- what a save and an erase leave

-- the names stay as a known one is saved
same-name : (name other : List ℕ) (recording : Recorded) (entry : List ℕ × Recorded) → is_named other (resaved name recording entry) ≡ is_named other entry
same-name name other recording entry = by (bytes_eq name entry.0) refl
  where
    by : (b : Bool) → bytes_eq name entry.0 ≡ b → is_named other (resaved name recording entry) ≡ is_named other entry
    by true is = rw is (ap (bytes_eq other) ((bytes_eq-Decides name entry.0).0 is))
    by false is = rw is refl

resaved-name : (name : List ℕ) (recording : Recorded) (entry : List ℕ × Recorded) → (resaved name recording entry).0 ≡ entry.0
resaved-name name recording entry = by (bytes_eq name entry.0) refl
  where
    by : (b : Bool) → bytes_eq name entry.0 ≡ b → (resaved name recording entry).0 ≡ entry.0
    by true is = rw is ((bytes_eq-Decides name entry.0).0 is)
    by false is = rw is refl

any-resaved : (name other : List ℕ) (recording : Recorded) (entries : List (List ℕ × Recorded)) → list_any (is_named other) (map (resaved name recording) entries) ≡ list_any (is_named other) entries
any-resaved name other recording [] = refl
any-resaved name other recording (entry ∷ entries) = rw (same-name name other recording entry, any-resaved name other recording entries) refl

apart-resaved : (name : List ℕ) (recording : Recorded) (entries : List (List ℕ × Recorded)) → AreApart entries → AreApart (map (resaved name recording) entries)
apart-resaved name recording [] apart = tt
apart-resaved name recording (entry ∷ entries) apart =
    (ap (λ (n : List ℕ). list_any (is_named n) (map (resaved name recording) entries)) (resaved-name name recording entry) ∙ any-resaved name entry.0 recording entries ∙ apart.0, apart-resaved name recording entries apart.1)

any-added : (name other : List ℕ) (recording : Recorded) (entries : List (List ℕ × Recorded)) → list_any (is_named other) entries ≡ false → bytes_eq other name ≡ false → list_any (is_named other) (entries ++ (name, recording) ∷ []) ≡ false
any-added name other recording [] none apart = rw apart refl
any-added name other recording (entry ∷ entries) none apart =
    rw (left-false (is_named other entry) (list_any (is_named other) entries) none) (any-added name other recording entries (right-false (is_named other entry) (list_any (is_named other) entries) none) apart)

apart-added : (name : List ℕ) (recording : Recorded) (entries : List (List ℕ × Recorded)) → AreApart entries → list_any (is_named name) entries ≡ false → AreApart (entries ++ (name, recording) ∷ [])
apart-added name recording [] apart new = (refl, tt)
apart-added name recording (entry ∷ entries) apart new = (
  any-added name entry.0 recording entries apart.0 (differs name entry.0 (left-false (is_named name entry) (list_any (is_named name) entries) new)),
  apart-added name recording entries apart.1 (right-false (is_named name entry) (list_any (is_named name) entries) new),
)

apart-saved : (kept : KeptState) (name : List ℕ) (recording : Recorded) → AreApart kept.entries → AreApart (saved kept name recording).entries
apart-saved kept name recording apart = by (is_kept kept name) refl
  where
    by : (b : Bool) → is_kept kept name ≡ b → AreApart (saved kept name recording).entries
    by true is = rw is (apart-resaved name recording kept.entries apart)
    by false is = rw is (apart-added name recording kept.entries apart is)

any-part : (test : List ℕ × Recorded → Bool) (name : List ℕ) (entries : List (List ℕ × Recorded)) → list_any (is_named name) entries ≡ false → list_any (is_named name) (filter test entries) ≡ false
any-part test name [] none = refl
any-part test name (entry ∷ entries) none = by (test entry) refl (any-part test name entries (right-false (is_named name entry) (list_any (is_named name) entries) none))
  where
    by : (b : Bool) → test entry ≡ b → list_any (is_named name) (filter test entries) ≡ false → list_any (is_named name) (filter test (entry ∷ entries)) ≡ false
    by true is rest = rw is (rw (left-false (is_named name entry) (list_any (is_named name) entries) none) rest)
    by false is rest = rw is rest

apart-part : (test : List ℕ × Recorded → Bool) (entries : List (List ℕ × Recorded)) → AreApart entries → AreApart (filter test entries)
apart-part test [] apart = tt
apart-part test (entry ∷ entries) apart = by (test entry) refl (apart-part test entries apart.1)
  where
    by : (b : Bool) → test entry ≡ b → AreApart (filter test entries) → AreApart (filter test (entry ∷ entries))
    by true is rest = rw is (any-part test entry.0 entries apart.0, rest)
    by false is rest = rw is rest

apart-by : (kept : KeptState) (request : Request) (reply : Reply) → AreApart kept.entries → AreApart (kept_by kept request reply).entries
apart-by kept (ask.Save name recording) answer.Done apart = apart-saved kept name recording apart
apart-by kept (ask.Erase name) answer.Done apart = apart-part (λ entry. not (is_named name entry)) kept.entries apart
apart-by kept request reply apart = apart

-- ---- histories

apart-handed : (kept : List Named) → are_names_different kept ≡ true → AreApart (kept_of kept).entries
apart-handed [] differ = tt
apart-handed (first ∷ kept) differ =
    let parts = and_parts (not (list_any (has_name first.name) kept)) (are_names_different kept) differ in
    (none kept (not-true (list_any (has_name first.name) kept) parts.0), apart-handed kept parts.1)
  where
    none : (rest : List Named) → list_any (has_name first.name) rest ≡ false → list_any (is_named first.name) (kept_of rest).entries ≡ false
    none [] h = refl
    none (n ∷ rest) h =
        rw (differs n.name first.name (left-false (has_name first.name n) (list_any (has_name first.name) rest) h)) (none rest (right-false (has_name first.name n) (list_any (has_name first.name) rest) h))

abbrev after_act : KeptState → Act → KeptState
after_act kept (Asked request reply at) = kept_by kept request reply
after_act kept act = kept

apart-act : (kept : KeptState) (act : Act) → AreApart kept.entries → AreApart (after_act kept act).entries
apart-act kept (Start of cursor at) apart = apart
apart-act kept (Asked request reply at) apart = apart-by kept request reply apart
apart-act kept (End outcome cursor at) apart = apart

apart-fold : (kept : KeptState) (history : List Entry) → AreApart kept.entries → AreApart (fold (λ k (entry : Entry). after_act k entry.act) kept history).entries
apart-fold kept [] apart = apart
apart-fold kept (entry ∷ history) apart = apart-fold (after_act kept entry.act) history (apart-act kept entry.act apart)

pub kept-apart : (config : Config) (history : List Entry) → IsTrue (is_config_ok config) → AreApart (kept_after config history).entries
kept-apart config history ok =
    let kept = (and_parts _ _ ok).1 in
    let names = (and_parts _ (are_names_different config.kept) kept).1 in
    apart-fold (kept_of config.kept) history (apart-handed config.kept names)

-- ---- each name finds what stands beside it

pub finds-itself : (entries : List (List ℕ × Recorded)) (position : ℕ) (entry : List ℕ × Recorded) → AreApart entries → slice_get entries position ≡ Some entry → find (is_named entry.0) entries ≡ Some entry
finds-itself [] position entry apart at = absurd (cc)
finds-itself (first ∷ entries) zero entry apart at =
    let same : first ≡ entry = cc in
    let yes : is_named entry.0 first ≡ true = (bytes_eq-Decides entry.0 first.0).1 (ap (λ (e : List ℕ × Recorded). e.0) (sym same)) in
    rw yes (ap Some same)
finds-itself (first ∷ entries) (suc position) entry apart at =
    let other : is_named entry.0 first ≡ false = differs first.0 entry.0 (other-there first.0 entries position entry apart.0 at) in
    rw other (finds-itself entries position entry apart.1 at)
  where
    other-there : (name : List ℕ) (rest : List (List ℕ × Recorded)) (i : ℕ) (e : List ℕ × Recorded) → list_any (is_named name) rest ≡ false → slice_get rest i ≡ Some e → bytes_eq name e.0 ≡ false
    other-there name [] i e none there = absurd (cc)
    other-there name (r ∷ rest) zero e none there =
        let same : r ≡ e = cc in
        ap (λ (x : List ℕ × Recorded). bytes_eq name x.0) (sym same) ∙ left-false (is_named name r) (list_any (is_named name) rest) none
    other-there name (r ∷ rest) (suc i) e none there = other-there name rest i e (right-false (is_named name r) (list_any (is_named name) rest) none) there

-- what is known of a name at a position
pub record IsEntry (kept : KeptState) (position : ℕ) (name : List ℕ) : Type 0 where
  pub recording : Recorded
  pub at : slice_get kept.entries position ≡ Some (name, recording)
  pub found : recording_named kept name ≡ Some recording

pub entry-at : (config : Config) (history : List Entry) (kept : KeptState) (position : ℕ) (name : List ℕ) → kept ≡ kept_after config history → IsTrue (is_config_ok config) → Some name ≡ name_at kept position → IsEntry kept position name
entry-at config history kept position name are ok named = by (slice_get kept.entries position) refl
  where
    by : (found : Option (List ℕ × Recorded)) → slice_get kept.entries position ≡ found → IsEntry kept position name
    by None at = let clash : Some name ≡ None = named ∙ ap (option_map (λ e. e.0)) at in absurd (cc)
    by (Some entry) at =
        let same : name ≡ entry.0 = same_Some name entry.0 (named ∙ ap (option_map (λ e. e.0)) at) in
        let apart : AreApart kept.entries = subst (λ (k : KeptState). AreApart k.entries) (sym are) (kept-apart config history ok) in
        record {
          recording = entry.1;
          at = at ∙ ap (λ (n : List ℕ). Some (n, entry.1)) (sym same);
          found = ap (λ (n : List ℕ). option_map (λ e. e.1) (find (is_named n) kept.entries)) same ∙ ap (option_map (λ e. e.1)) (finds-itself kept.entries position entry apart at);
        }
