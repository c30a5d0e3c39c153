-- Desks that are opened one after another, each with its chairs.
use Rattle.std.proofs.Common.{◌≡◌, ℕ, List, [], ◌∷◌, ◌++◌, map, sym, ap, subst, ◌∙◌}
use Rattle.std.specs.List.{AllZip}
use Rattle.std.proofs.lemmas.List.{map-append}
use Rattle.rtio_core.specs.Core.{CoreState}
use Rattle.rtio_core.specs.declared.data.Act.{Act}
use Rattle.rtio_core.specs.declared.data.Config.{Config}
use Rattle.desk.specs.Seated.{Opened, Seated, new_chairs}
use Rattle.lab_desks.specs.Columns.{Row, IsDeskOf, columns_of, items_of}

zip-push : {A B : Type 0} (R : A → B → Type 0) (xs : List A) (ys : List B) (x : A) (y : B) → AllZip R xs ys → R x y → AllZip R (xs ++ x ∷ []) (ys ++ y ∷ [])
zip-push R [] [] x y h r = (r, tt)
zip-push R [] (z ∷ ys) x y h r = absurd h
zip-push R (w ∷ xs) [] x y h r = absurd h
zip-push R (w ∷ xs) (z ∷ ys) x y h r = (h.0, zip-push R xs ys x y h.1 r)

abbrev Chairs : Type 0
Chairs = Row (Seated Act Config)

-- a desk for each core, and its chairs
abbrev AreOpened : ℕ → List CoreState → List (Opened Config) → List Chairs → Type 0
AreOpened workers cores desks columns =
    AllZip (IsDeskOf workers) cores desks × (map items_of columns ≡ columns_of workers desks)

pub opened-more : (workers : ℕ) (cores : List CoreState) (desks more : List (Opened Config)) (columns wider : List Chairs) (core : CoreState) (desk : Opened Config) (chairs : Chairs)
    → AreOpened workers cores desks columns → IsDeskOf workers core desk → chairs.items ≡ new_chairs desk.id 0 workers
    → more ≡ desks ++ desk ∷ [] → wider ≡ columns ++ chairs ∷ [] → AreOpened workers (cores ++ core ∷ []) more wider
opened-more workers cores desks more columns wider core desk chairs a is new more-is wider-is = (
  subst (λ (l : List (Opened Config)). AllZip (IsDeskOf workers) (cores ++ core ∷ []) l) (sym more-is)
      (zip-push (IsDeskOf workers) cores desks core desk a.0 is),
  ap (map items_of) wider-is
      ∙ map-append items_of columns (chairs ∷ [])
      ∙ (λ i. a.1 i ++ new i ∷ [])
      ∙ sym (map-append (λ (d : Opened Config). new_chairs {A = Act} d.id 0 workers) desks (desk ∷ []))
      ∙ ap (columns_of workers) (sym more-is),
)
