-- The first wrong field among lists of fields.
use Rattle.std.proofs.Common.{◌≡◌, ℕ, Bool, true, false, ◌&&◌, List, [], ◌∷◌, ◌++◌, None, Some, refl}
use Rattle.std.specs.List.{list_all}
use Rattle.recording_bytes.specs.Fields.{Field, is_right, wrong_among}

pub both : (a b : Bool) → (a && b) ≡ true → (a ≡ true) × (b ≡ true)
both true b is = (refl, is)
both false b is = absurd (cc)

pub join : {a b : Bool} → a ≡ true → b ≡ true → (a && b) ≡ true
join first second = rw (first, second) refl

-- a wrong field stays the first one before others
pub wrong-append_some : (fields others : List Field) (at : ℕ) → wrong_among fields ≡ Some at → wrong_among (fields ++ others) ≡ Some at
wrong-append_some [] others at found = absurd (cc)
wrong-append_some (field ∷ fields) others at found =
    by (is_right field) refl (wrong-append_some fields others at)
  where
    by : (b : Bool) → is_right field ≡ b → (wrong_among fields ≡ Some at → wrong_among (fields ++ others) ≡ Some at) → wrong_among (field ∷ fields ++ others) ≡ Some at
    by true right rest = rw right (rest (rw right at found))
    by false wrong rest = rw wrong (rw wrong at found)

-- behind right fields the others decide
pub wrong-append_none : (fields others : List Field) → wrong_among fields ≡ None → wrong_among (fields ++ others) ≡ wrong_among others
wrong-append_none [] others right = refl
wrong-append_none (field ∷ fields) others right =
    by (is_right field) refl (wrong-append_none fields others)
  where
    by : (b : Bool) → is_right field ≡ b → (wrong_among fields ≡ None → wrong_among (fields ++ others) ≡ wrong_among others) → wrong_among (field ∷ fields ++ others) ≡ wrong_among others
    by true is rest = rw is (rest (rw is at right))
    by false wrong rest = let none : Some field.at ≡ None = rw wrong at right in absurd (cc)

-- fields of which none is wrong are all right
pub all_right : (fields : List Field) → wrong_among fields ≡ None → list_all is_right fields ≡ true
all_right [] none = refl
all_right (field ∷ fields) none = by (is_right field) refl (all_right fields)
  where
    by : (b : Bool) → is_right field ≡ b → (wrong_among fields ≡ None → list_all is_right fields ≡ true) → list_all is_right (field ∷ fields) ≡ true
    by true right rest = rw right (rest (rw right at none))
    by false wrong rest = let none' : Some field.at ≡ None = rw wrong at none in absurd (cc)

-- and of fields that are all right none is wrong
pub none_wrong : (fields : List Field) → list_all is_right fields ≡ true → wrong_among fields ≡ None
none_wrong [] right = refl
none_wrong (field ∷ fields) right = by (is_right field) refl (none_wrong fields)
  where
    by : (b : Bool) → is_right field ≡ b → (list_all is_right fields ≡ true → wrong_among fields ≡ None) → wrong_among (field ∷ fields) ≡ None
    by true is rest = rw is (rest (rw is at right))
    by false wrong rest = let no : false ≡ true = rw wrong at right in absurd (cc)
