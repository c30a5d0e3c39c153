-- The views that the seats of chairs and of notes have between two calls.
use Rattle.std.specs.Prelude.{◌≡◌, ℕ, [], ◌∷◌, false}
use Rattle.desk_rule.specs.declared.view.Record.{Record}
use Rattle.desk_rule.specs.declared.view.View.{View}
use Rattle.desk_rule.specs.Records.{chair_record, note_record, view}
use Rattle.desk_rule.specs.Steps.{first_seen, first_own, first_lost, first_won, first_made}

module _ {A F : Type 0} where
  -- the record of the chair with this number, in a view that has no other
  abbrev pub own_record : ℕ → View A F → Record A
  own_record k v = chair_record k (first_seen v.records) (first_own v.records) (first_lost v.records) (first_won v.records) (first_made v.records)

  -- the view has one record, that of the chair with this number
  abbrev pub IsOwn : ℕ → View A F → Type 0
  IsOwn k v = v.records ≡ own_record k v ∷ []

  -- the view has one record without a number, and not the pass
  abbrev pub IsNote : View A F → Type 0
  IsNote v = v ≡ view (note_record (first_seen v.records) ∷ []) false v.fixed
