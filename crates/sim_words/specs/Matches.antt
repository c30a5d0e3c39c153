-- How `clap` is asked for options, and where it keeps them.
use Rattle.std.specs.Prelude.{◌≡◌, ℕ, nat_lt, Bool, true, false, List, [], ◌∷◌}
use Rattle.std.specs.Prelude.{length, map, slice_get, Some, None, unwrap_or, codes}
use Rattle.std.specs.Option.{option_map_or}
use Rattle.clap.specs.Facts.{parser_of_value}
use Rattle.clap.specs.Values.{reading_of}
use Rattle.clap.specs.Walk.{Row, Rule, rows_of}
use Rattle.clap.specs.Simple.{App, new_app, new_rule, on_top}
use Rattle.clap.specs.Matches.{found_of}
use Rattle.clap.specs.declared.builder.value_parser.ValueParser.TheVariants as parser
use Rattle.clap.specs.declared.parser.matches.ArgMatches.{ArgMatches}
use Rattle.clap.specs.declared.parser.matches.ValueSource.TheVariants.{CommandLine}
use Rattle.sim_words.specs.Given.{Given, after_hyphen}

-- a word that begins with a hyphen begins with two, and a name or a `=` follows
abbrev pub is_shaped : List ℕ → Bool
is_shaped word =
    option_map_or
    (λ rest. option_map_or (λ text. nat_lt 0 (length text)) (after_hyphen rest) false)
    (after_hyphen word)
    true

-- an option with one value: `--name value` or `--name=value`
abbrev pub option_rule : List ℕ → Rule
option_rule name = record (new_rule name) { long = Some name }

-- a command with these options alone
abbrev pub plain_app : List (List ℕ) → App
plain_app names =
    on_top
    (λ s. record s { no_binary_name = true; disable_help_flag = true; rules = map option_rule names })
    (new_app (codes "artiq_sim"))

-- an option that was given, among the matches
abbrev pub option_row : Given → Row
option_row given =
    record {
      id = given.name;
      values = given.value ∷ [];
      count = None;
      source = Some CommandLine;
      reading = reading_of (parser_of_value (Some parser.String));
    }

abbrev pub given_at : Row → Given
given_at row = record { name = row.id; value = unwrap_or (slice_get row.values 0) [] }

-- the options that the matches have
abbrev pub given_in : ArgMatches → List Given
given_in matches = map given_at (rows_of (found_of matches))

-- they have options alone
abbrev pub HasOptions : ArgMatches → Type 0
HasOptions matches = rows_of (found_of matches) ≡ map option_row (given_in matches)
