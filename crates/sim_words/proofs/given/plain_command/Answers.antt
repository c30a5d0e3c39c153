use Rattle.std.proofs.Common.{◌≡◌, ℕ, ◌+◌, ◌<◌, true, List, [], ◌∷◌, ◌++◌, map, take, length, get_or, Bor, sym, ap, ap₂, ◌∙◌}
use Rattle.std.proofs.lemmas.List.{map-append, take_all, take_more}
use Rattle.clap.specs.Walk.{Rule}
use Rattle.clap.specs.Simple.{App, Shape, app_of_fields, on_top, with_rule}
use Rattle.sim_words.specs.Matches.{option_rule, plain_app}
use Rattle.sim_words.proofs.given.plain_command.Goals as goal

pub loop-name-init : goal.loop-name-init
loop-name-init c =
    ap app_of_fields c.disable_help_flag-command.ensures
    ∙ ap
    (on_top (λ (s : Shape). record s { disable_help_flag = true }))
    (ap app_of_fields c.no_binary_name.ensures ∙ ap (on_top (λ (s : Shape). record s { no_binary_name = true })) c.new.ensures.app)

-- a command with one option more
plain-more : (names : List (List ℕ)) (name : List ℕ) → with_rule (plain_app names) (option_rule name) ≡ plain_app (names ++ name ∷ [])
plain-more names name =
    ap (λ (rules : List Rule). on_top (λ (s : Shape). record s { rules = rules }) (plain_app [])) (sym (map-append option_rule names (name ∷ [])))

abbrev named : List (Bor (List ℕ)) → List (List ℕ)
named names = map (λ name. name.now) names

one-more : (names : List (Bor (List ℕ))) (i : ℕ) (d : Bor (List ℕ)) (app after : App) (rule : Rule) → i < length names
    → app ≡ plain_app (named (take i names)) → rule ≡ option_rule (get_or names i d).now → after ≡ with_rule app rule
    → after ≡ plain_app (named (take (i + 1) names))
one-more names i d app after rule within so_far is added =
    added ∙ ap₂ with_rule so_far is ∙ plain-more (named (take i names)) (get_or names i d).now
    ∙ ap plain_app (sym (map-append (λ (name : Bor (List ℕ)). name.now) (take i names) (get_or names i d ∷ [])))
    ∙ ap (λ (ns : List (Bor (List ℕ))). plain_app (named ns)) (sym (take_more names i d within))

pub loop-name-preserved : goal.loop-name-preserved
loop-name-preserved c =
    one-more c.args.names.now c.loop-name.name-index _ _ _ _ c.loop-name-test.true c.loop-name.invariant c.plain_option.ensures.rule
    (c.in_ok-command.ensures.shape c.plain_option.ensures.local)

pub returns : goal.returns
returns c =
    c.loop-name.invariant ∙ ap (λ (names : List (Bor (List ℕ))). plain_app (map (λ name. name.now) names)) (take_all c.loop-name.name-index c.args.names.now c.loop-name-test.false)
