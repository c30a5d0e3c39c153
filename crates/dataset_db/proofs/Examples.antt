-- Small histories, computed from the definitions.
use Rattle.std.proofs.Common.{◌≡◌, pos, List, [], ◌∷◌, true, false, Some, None, option_map, map, refl}
use Rattle.std.specs.Prelude.{codes}
use Rattle.rtio_types.specs.declared.request.Value.TheVariants as value
use Rattle.dataset_db.specs.declared.datasets.Flags.{Flags}
use Rattle.dataset_db.specs.Datasets.{Dataset, datasets_after, set, append, value_of, flags_of, is_list, sum_of, total}

persisting : Flags
persisting = record { broadcast = false; persist = true; archive = false }

archived : Flags
archived = record { broadcast = false; persist = false; archive = true }

-- a number that persists, and a list that grows
two : List Dataset
two = datasets_after (set (codes "a") (value.Int (pos 5)) persisting ∷ set (codes "l") (value.List (pos 1 ∷ pos 2 ∷ [])) archived ∷ append (codes "l") (pos 4) ∷ []) []

what_persists_is_broadcast : flags_of two (codes "a") ≡ Some (record { broadcast = true; persist = true; archive = false })
unfolding two persisting
what_persists_is_broadcast = refl

an_append_keeps_the_flags : flags_of two (codes "l") ≡ Some archived
unfolding two archived
an_append_keeps_the_flags = refl

an_item_goes_last : value_of two (codes "l") ≡ Some (value.List (pos 1 ∷ pos 2 ∷ pos 4 ∷ []))
unfolding two
an_item_goes_last = refl

its_sum : total (pos 1 ∷ pos 2 ∷ pos 4 ∷ []) ≡ pos 7
its_sum = refl

a_number_is_its_own_sum : option_map sum_of (value_of two (codes "a")) ≡ Some (pos 5)
unfolding two
a_number_is_its_own_sum = refl

a_number_is_no_list : option_map is_list (value_of two (codes "a")) ≡ Some false
unfolding two
a_number_is_no_list = refl

a_name_that_was_not_set : value_of two (codes "z") ≡ None
unfolding two
a_name_that_was_not_set = refl

a_known_name_keeps_its_place : map (λ d. d.name) (datasets_after (set (codes "a") (value.Int (pos 1)) archived ∷ []) two) ≡ codes "a" ∷ codes "l" ∷ []
unfolding two archived
a_known_name_keeps_its_place = refl
