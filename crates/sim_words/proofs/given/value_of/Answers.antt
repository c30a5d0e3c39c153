use Rattle.std.proofs.Common.{◌≡◌, ℕ, List, map, Option, Some, None, option_map, refl, sym, ap, ◌∙◌}
use Rattle.std.specs.Prelude.{bytes_eq, find, option_and_then, slice_get}
use Rattle.clap.specs.Walk.{Row, first_of}
use Rattle.clap.specs.Matches.{found_of}
use Rattle.clap.proofs.WalkLemmas.{find-map, first_value-rows}
use Rattle.sim_words.specs.Given.{Given, value_of}
use Rattle.sim_words.specs.Matches.{given_in, option_row}
use Rattle.sim_words.proofs.given.value_of.Goals as goal

first-option : (name : List ℕ) (given : List Given) → first_of name (map option_row given) ≡ value_of name given
first-option name given =
    ap (option_and_then (λ (r : Row). slice_get r.values 0)) (sym (find-map (λ (r : Row). bytes_eq r.id name) option_row given))
    ∙ go (find (λ (g : Given). bytes_eq g.name name) given)
  where
    go : (o : Option Given) → option_and_then (λ (r : Row). slice_get r.values 0) (option_map option_row o) ≡ option_map (λ (g : Given). g.value) o
    go None = refl
    go (Some g) = refl

pub returns : goal.returns
returns c =
    c.get_str.ensures ∙ first_value-rows (found_of c.args.given.now) c.args.name.now
    ∙ ap (first_of c.args.name.now) c.requires ∙ first-option c.args.name.now (given_in c.args.given.now)
