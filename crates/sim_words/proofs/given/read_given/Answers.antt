use Rattle.std.proofs.Common.{rules, ◌≡◌, map, string_bytes, true, false, [], sym, subst, ◌∙◌}
use Rattle.std.specs.List.{list_all}
use Rattle.std.proofs.lemmas.List.Folds.{list_all-map}
use Rattle.clap.specs.Simple.{App, app_of, is_simple, matches_of, subcommand_of, subcommand_rows_of}
use Rattle.clap.specs.Faults.{fault_of, is_simple_and_free}
use Rattle.clap.specs.Kinds.{HasKind}
use Rattle.clap.specs.Matches.{found_of}
use Rattle.clap.specs.Walk.{rows_of}
use Rattle.sim_words.specs.Matches.{is_shaped, plain_app}
use Rattle.sim_words.proofs.Plain.{plain-free, plain-simple}
use Rattle.sim_words.proofs.Law.{Finds, found, not-found, unshaped-refused}
use Rattle.sim_words.proofs.given.read_given.Goals as goal

pub returns-then-not-are_shaped-clause-given : goal.returns-then-not-are_shaped-clause-given
returns-then-not-are_shaped-clause-given c =
    let bad : c.are_shaped.result ≡ false = search rules in
    λ _. unshaped-refused (map (λ name. name.now) c.args.names.now) (map string_bytes c.args.words.now)
    (list_all-map is_shaped string_bytes c.args.words.now ∙ sym c.are_shaped.ensures ∙ bad)

finds : (c : goal.In-Ok) → Finds (map (λ name. name.now) c.args.names.now) (map string_bytes c.args.words.now) c.in-Ok.matches
finds c =
    let names = map (λ name. name.now) c.args.names.now in
    let words = map string_bytes c.args.words.now in
    let good : c.are_shaped.result ≡ true = search rules in
    let shaped : list_all is_shaped words ≡ true = list_all-map is_shaped string_bytes c.args.words.now ∙ sym c.are_shaped.ensures ∙ good in
    let command : app_of c.in_ok-command.command ≡ plain_app names = search rules in
    let none : fault_of (plain_app names) words ≡ [] =
    subst (λ (a : App). is_simple_and_free a ≡ true → fault_of a words ≡ []) command c.in-Ok.ensures.kinds (plain-free names) in
    let rows : rows_of (found_of c.in-Ok.matches) ≡ matches_of (plain_app names) words =
    (subst
    (λ (a : App). is_simple a ≡ true → (rows_of (found_of c.in-Ok.matches) ≡ matches_of a words) × (subcommand_rows_of c.in-Ok.matches ≡ subcommand_of a words))
    command c.in-Ok.ensures.matches (plain-simple names)).0 in
    found names words c.in-Ok.matches shaped none rows

pub returns-in-Ok-clause-given : goal.returns-in-Ok-clause-given
returns-in-Ok-clause-given c = (finds c).given

pub returns-in-Ok-clause-shape : goal.returns-in-Ok-clause-shape
returns-in-Ok-clause-shape c = (finds c).shape

pub returns-in-Err-clause-given : goal.returns-in-Err-clause-given
returns-in-Err-clause-given c =
    let names = map (λ name. name.now) c.args.names.now in
    let words = map string_bytes c.args.words.now in
    let good : c.are_shaped.result ≡ true = search rules in
    let shaped : list_all is_shaped words ≡ true = list_all-map is_shaped string_bytes c.args.words.now ∙ sym c.are_shaped.ensures ∙ good in
    let command : app_of c.in_ok-command.command ≡ plain_app names = search rules in
    let kinds : HasKind (fault_of (plain_app names) words) c.in-Err.error =
    subst (λ (a : App). is_simple_and_free a ≡ true → HasKind (fault_of a words) c.in-Err.error) command c.in-Err.ensures.kinds (plain-free names) in
    let k = c.kind.ensures in
    λ refused. not-found names words c.in-Err.error shaped kinds (λ memory. c.end_of.ensures refused (k ∙ memory))
