-- The options that words give: `--name value` or `--name=value`, in any order, each at most once.
use Rattle.std.specs.Prelude.{ℕ, Bool, true, not, ◌==◌, ◌&&◌, List, [], ◌∷◌, find, is_some, Option}
use Rattle.std.specs.Prelude.{Some, None, option_map, option_and_then, bytes_eq, if◌then◌else◌}
use Rattle.std.specs.Bool.{then_some}
use Rattle.std.specs.List.{list_any}
use Rattle.std.specs.Option.{option_map_or}
use Rattle.option_values.specs.Parts.{cut}

-- an option's name, without the hyphens, and its value
pub record Given : Type 0 where
  pub name : List ℕ
  pub value : List ℕ

-- what a word is where no option waits for its value: an option with
-- its value, an option whose value is the next word, or no option
pub data Seen : Type 0 where
  Whole : (name value : List ℕ) → Seen
  Begun : (name : List ℕ) → Seen
  Other : Seen

-- what stands behind a first hyphen, which is 45
abbrev pub after_hyphen : List ℕ → Option (List ℕ)
after_hyphen [] = None
after_hyphen (b ∷ text) = if b == 45 then Some text else None

-- what stands behind two hyphens: a name, or a name and a value behind the first `=`, which is 61; never nothing
abbrev pub seen_behind : List ℕ → Seen
seen_behind [] = Other
seen_behind (b ∷ text) =
    option_map_or (λ (parts : List ℕ × List ℕ). Whole parts.0 parts.1) (cut 61 (b ∷ text)) (Begun (b ∷ text))

abbrev pub seen : List ℕ → Seen
seen word = option_map_or seen_behind (option_and_then after_hyphen (after_hyphen word)) Other

-- the words that follow such a word, read on with the option that waits for its value
abbrev pub behind : Seen → (Option (List ℕ) → Option (List Given)) → Option (List Given)
behind (Whole name value) rest = option_map (λ given. record { name = name; value = value } ∷ given) (rest None)
behind (Begun name) rest = rest (Some name)
behind Other rest = None

-- the options that the words give, where an option may wait for
-- its value; a value in a word of its own begins with no hyphen
abbrev pub given_from : Option (List ℕ) → List (List ℕ) → Option (List Given)
given_from None [] = Some []
given_from (Some name) [] = None
given_from None (word ∷ words) = behind (seen word) (λ waiting. given_from waiting words)
given_from (Some name) (word ∷ words) =
    if is_some (after_hyphen word)
    then None
    else option_map (λ given. record { name = name; value = word } ∷ given) (given_from None words)

-- the name is one of these
abbrev pub is_among : List ℕ → List (List ℕ) → Bool
is_among name names = list_any (λ other. bytes_eq other name) names

-- each has one of the names, and none has the name of an earlier one
abbrev pub are_options : List (List ℕ) → (earlier : List (List ℕ)) → List Given → Bool
are_options names earlier [] = true
are_options names earlier (given ∷ rest) =
    is_among given.name names && not (is_among given.name earlier) && are_options names (given.name ∷ earlier) rest

-- the options that the words give to a command that has options of these names
abbrev pub given_of : List (List ℕ) → List (List ℕ) → Option (List Given)
given_of names words = option_and_then (λ given. then_some (are_options names [] given) given) (given_from None words)

-- the value of an option, if it is given
abbrev pub value_of : List ℕ → List Given → Option (List ℕ)
value_of name given = option_map (λ (g : Given). g.value) (find (λ (g : Given). bytes_eq g.name name) given)
