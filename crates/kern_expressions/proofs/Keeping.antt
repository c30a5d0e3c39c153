-- What is kept of lists that are read item by item.
use Rattle.std.proofs.Common.{List, [], ◌∷◌, ◌++◌, map, ◌∙◌, ap}
use Rattle.std.proofs.lemmas.List.{map-append}
use Rattle.std.specs.Prelude.{Option, Some, None}
use Rattle.kern_expressions.specs.Kept.{AddsItem, KeptAs}

-- one more item is kept behind those that were kept
pub keeps-more : {V X Y : Type 0} (list : V → List X) (view : X → Y) (before : Option V) (item : Option X) (after : Option V) (done : List Y) (y : Y) → AddsItem list before item after → KeptAs (λ v. map view (list v)) before done → KeptAs view item y → KeptAs (λ v. map view (list v)) after (done ++ y ∷ [])
keeps-more list view before item None done y a k i = tt
keeps-more list view None item (Some w) done y a k i = absurd a
keeps-more list view (Some v) None (Some w) done y a k i = absurd a
keeps-more list view (Some v) (Some x) (Some w) done y a k i =
    ap (map view) a ∙ map-append view (list v) (x ∷ []) ∙ ap (λ d. d ++ view x ∷ []) k ∙ ap (λ z. done ++ z ∷ []) i
