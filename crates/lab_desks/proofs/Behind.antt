-- Desks of cores, closed one after another from the last on.
use Rattle.std.proofs.Common.{◌≡◌, ℕ, suc, ◌+◌, ◌<◌, ◌≤◌, List, [], ◌∷◌, ◌++◌, length, map, reverse, refl, sym, ap, subst, ◌∙◌, arith, length-append}
use Rattle.std.specs.Prelude.{Some, slice_get}
use Rattle.std.specs.List.{All, AllByRecursion}
use Rattle.std.proofs.lemmas.List.{append-nil, length-map, reverse-append}
use Rattle.std.proofs.lemmas.List.Elements.{All-from_recursion, recursion_from_All}
use Rattle.desk_rule.specs.Histories.{Each}
use Rattle.desk_rule.proofs.Weights.{each_left, each_right, each_weaker}
use Rattle.desk.specs.Seated.{Opened, Seated}
use Rattle.desk.proofs.Gathered.{moved_one}
use Rattle.rtio_core.specs.Core.{CoreState}
use Rattle.rtio_core.specs.declared.data.Act.{Act}
use Rattle.rtio_core.specs.declared.data.Config.{Config}
use Rattle.lab_desks.specs.Columns.{Row, HasRoom, TakesLast, column, fronts, items_of}
use Rattle.lab_desks.specs.Closed.{AreChairsOf, AreClosed, IsClosedCore}
use Rattle.lab_desks.proofs.Fronts.{fronts-some, fronts-whole, takes-fronts}

abbrev Chair : Type 0
Chair = Seated Act Config

-- the desk that stands behind some others
pub stands-there : (ds later all : List (Opened Config)) (d : Opened Config) → ds ++ d ∷ later ≡ all → slice_get all (length ds) ≡ Some d
stands-there ds later all d is = subst (λ (l : List (Opened Config)). slice_get l (length ds) ≡ Some d) is (at ds)
  where
    at : (es : List (Opened Config)) → slice_get (es ++ d ∷ later) (length es) ≡ Some d
    at [] = refl
    at (e ∷ es) = at es

-- the desks from here on are closed, each row has the chairs of the others left, and there is room for them
pub record IsClosing (rows : List (List Chair)) (all desks : List (Opened Config)) (left rooms : List (Row Chair)) (cores : List CoreState) (capacity : ℕ) : Type 0 where
  pub long : AllByRecursion (λ row. length row ≡ length all) rows
  pub later : List (Opened Config)
  pub whole : desks ++ later ≡ all
  pub fronts_are : map items_of left ≡ fronts (length desks) rows
  pub done : AreClosed rows (length desks) later (reverse cores)
  pub count : length left ≡ length rows
  pub rooms_count : length rooms ≡ length desks
  pub rooms_are : All (HasRoom (length rows)) rooms
  pub room : length cores + length desks ≤ capacity

-- where no desk is left the rows are empty
emptied : (rows : List (List Chair)) (left : List (Row Chair)) → map items_of left ≡ fronts 0 rows → AllByRecursion (λ row. row.items ≡ []) left
emptied rows [] is = tt
emptied [] (v ∷ vs) is = absurd (cc)
emptied (r ∷ rows) (v ∷ vs) is =
    let first : v.items ≡ [] = cc in
    let others : map items_of vs ≡ fronts 0 rows = cc in
    (first, emptied rows vs others)

pub closing_last : (rows : List (List Chair)) (all desks : List (Opened Config)) (left rooms : List (Row Chair)) (cores : List CoreState) (capacity : ℕ)
    → IsClosing rows all desks left rooms cores capacity → desks ≡ [] → All (λ row. row.items ≡ []) left
closing_last rows all desks left rooms cores capacity c none =
    All-from_recursion (λ row. row.items ≡ []) left (emptied rows left (c.fronts_are ∙ ap (λ (ds : List (Opened Config)). fronts (length ds) rows) none))

abbrev count_is : (desks fewer : List (Opened Config)) (desk : Opened Config) → desks ≡ fewer ++ desk ∷ [] → length desks ≡ suc (length fewer)
count_is desks fewer desk is = let len = ap length is ∙ length-append fewer (desk ∷ []) in omega (arith, len)

pub closing-first : (rows : List (Row Chair)) (desks : List (Opened Config)) (rooms : List (Row Chair)) (cores : List CoreState) (capacity : ℕ)
    → All (λ row. length row.items ≡ length desks) rows → length rooms ≡ length desks → All (HasRoom (length rows)) rooms
    → cores ≡ [] → length desks ≤ capacity → IsClosing (map items_of rows) desks desks rows rooms cores capacity
closing-first rows desks rooms cores capacity long count ready none enough =
    let all : AllByRecursion (λ row. length row ≡ length desks) (map items_of rows) =
    each-mapped (λ row. length row ≡ length desks) rows (recursion_from_All (λ row. length row.items ≡ length desks) rows long) in
    record {
      long = all;
      later = [];
      whole = append-nil desks;
      fronts_are = sym (fronts-whole (map items_of rows) (length desks) all);
      done = subst (λ (l : List CoreState). AreClosed (map items_of rows) (length desks) [] (reverse l)) (sym none) tt;
      count = sym (length-map rows items_of);
      rooms_count = count;
      rooms_are = subst (λ (n : ℕ). All (HasRoom n) rooms) (sym (length-map rows items_of)) ready;
      room = let empty = ap length none in omega (arith, empty, enough);
    }
  where
    each-mapped : (P : List Chair → Type 0) (vs : List (Row Chair)) → AllByRecursion (λ v. P v.items) vs → AllByRecursion P (map items_of vs)
    each-mapped P [] h = tt
    each-mapped P (v ∷ vs) h = (h.0, each-mapped P vs h.1)

module _ (rows : List (List Chair)) (all desks fewer : List (Opened Config)) (desk : Opened Config) (left rooms : List (Row Chair)) (cores : List CoreState) (capacity : ℕ)
    (c : IsClosing rows all desks left rooms cores capacity) (popped : desks ≡ fewer ++ desk ∷ []) where
  enough : length fewer < length all
  enough = let one = count_is desks fewer desk popped in let len = sym (length-append desks c.later) ∙ ap length c.whole in omega (arith, one, len)

  pub closing-some : All (λ row. 0 < length row.items) left
  closing-some =
      let one = count_is desks fewer desk popped in
      let low = enough in
      All-from_recursion (λ row. 0 < length row.items) left
      (fronts-some rows (length desks) left (omega (arith, one))
      (each_weaker (λ (row : List Chair). length row ≡ length all) (λ row. length desks ≤ length row) (λ row is. omega (arith, one, low, is)) rows c.long)
      c.fronts_are)

  pub closing-room : (tighter : List (Row Chair)) (room : Row Chair) → rooms ≡ tighter ++ room ∷ [] → HasRoom (length left) room
  closing-room tighter room is =
      let ready = each_right (HasRoom (length rows)) tighter (room ∷ []) (subst (Each (HasRoom (length rows))) is (recursion_from_All (HasRoom (length rows)) rooms c.rooms_are)) in
      subst (λ (n : ℕ). HasRoom n room) (sym c.count) ready.0

  taken : (news : List (Row Chair)) (chairs : List Chair) → TakesLast left news chairs → (map items_of news ≡ fronts (length fewer) rows) × (chairs ≡ column (length fewer) rows)
  taken news chairs takes =
      let low = enough in
      takes-fronts rows (length fewer) left news chairs takes
      (c.fronts_are ∙ ap (λ (n : ℕ). fronts n rows) (count_is desks fewer desk popped))
      (each_weaker (λ (row : List Chair). length row ≡ length all) (λ row. length fewer < length row) (λ row is. omega (arith, low, is)) rows c.long)

  pub closing-chairs : (news : List (Row Chair)) (chairs : List Chair) → TakesLast left news chairs
      → ((place : ℕ) (d : Opened Config) → slice_get all place ≡ Some d → AreChairsOf d (column place rows)) → AreChairsOf desk chairs
  closing-chairs news chairs takes seated =
      subst (AreChairsOf desk) (sym (taken news chairs takes).1)
      (seated (length fewer) desk (stands-there fewer c.later all desk (moved_one all desks c.later fewer desk c.whole popped)))

  pub closing-more : (news tighter : List (Row Chair)) (room : Row Chair) (chairs : List Chair) (core : CoreState) (more : List CoreState) (wider : ℕ)
      → TakesLast left news chairs → length news ≡ length left → rooms ≡ tighter ++ room ∷ [] → IsClosedCore desk chairs core
      → more ≡ cores ++ core ∷ [] → capacity ≤ wider → IsClosing rows all fewer news tighter more wider
  closing-more news tighter room chairs core more wider takes same rooms-is closed more-is grown =
      let one = count_is desks fewer desk popped in
      let t = taken news chairs takes in
      let turned : reverse more ≡ core ∷ reverse cores = ap reverse more-is ∙ reverse-append cores (core ∷ []) in
      let rooms-len = sym c.rooms_count ∙ ap length rooms-is ∙ length-append tighter (room ∷ []) in
      let more-len = ap length more-is ∙ length-append cores (core ∷ []) in
      let there = c.room in
      record {
        long = c.long;
        later = desk ∷ c.later;
        whole = moved_one all desks c.later fewer desk c.whole popped;
        fronts_are = t.0;
        done =
            subst (AreClosed rows (length fewer) (desk ∷ c.later)) (sym turned) (
              subst (λ (l : List Chair). IsClosedCore desk l core) t.1 closed,
              subst (λ (n : ℕ). AreClosed rows n c.later (reverse cores)) one c.done,
            );
        count = same ∙ c.count;
        rooms_count = omega (arith, one, rooms-len);
        rooms_are =
            All-from_recursion (HasRoom (length rows)) tighter
            (each_left (HasRoom (length rows)) tighter (room ∷ []) (subst (Each (HasRoom (length rows))) rooms-is (recursion_from_All (HasRoom (length rows)) rooms c.rooms_are)));
        room = omega (arith, one, more-len, there, grown);
      }
