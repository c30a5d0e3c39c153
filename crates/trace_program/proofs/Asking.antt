-- The words behind the command that has the same options.
use Rattle.std.proofs.Common.{◌≡◌, ℕ, ◌≤◌, List, ◌∷◌, Option, Some, None, refl, ap, sym, subst, ◌∙◌}
use Rattle.std.specs.Prelude.{codes, option_map, IsTrue}
use Rattle.limits.specs.Limits.{most_budget}
use Rattle.sim_words.specs.declared.asked.Asked.{Asked}
use Rattle.sim_words.specs.declared.asked.Asked.TheVariants.{Dump}
use Rattle.sim_words.specs.declared.asked.Options.{Options}
use Rattle.rtio_core.specs.Entries.{is_config_ok}
use Rattle.sim_words.specs.Asked.{IsAccepted, asked_of, dump_names}
use Rattle.sim_words.specs.Given.{Given, given_of}
use Rattle.trace_program.specs.Words.{options_asked}

-- they ask for what `dump` asks for
dump-asked : (words : List (List ℕ)) → asked_of (codes "dump" ∷ words) ≡ option_map Dump (options_asked words)
dump-asked words = by (given_of dump_names words) refl
  where
    by : (given : Option (List Given)) → given_of dump_names words ≡ given → asked_of (codes "dump" ∷ words) ≡ option_map Dump (options_asked words)
    by None is = rw is refl
    by (Some given) is = rw is refl

-- so what is asked has the options that the words give
pub dump-is : (words all : List (List ℕ)) (asked : Asked) → all ≡ codes "dump" ∷ words → asked_of all ≡ Some asked
    → (options : Options) × (asked ≡ Dump options) × (options_asked words ≡ Some options)
dump-is words all asked all_is is = by (options_asked words) refl (sym (dump-asked words) ∙ sym (ap asked_of all_is) ∙ is)
  where
    by : (read : Option Options) → options_asked words ≡ read → option_map Dump (options_asked words) ≡ Some asked → (options : Options) × (asked ≡ Dump options) × (options_asked words ≡ Some options)
    by None none told = absurd (let clash : None ≡ Some asked = sym (ap (option_map Dump) none) ∙ told in cc)
    by (Some options) some told = (options, (let same : Some (Dump options) ≡ Some asked = sym (ap (option_map Dump) some) ∙ told in cc), some)

-- those that an answer has
pub dump-has : (words all : List (List ℕ)) (asked : Asked) (options : Options) → all ≡ codes "dump" ∷ words → asked_of all ≡ Some asked → asked ≡ Dump options → options_asked words ≡ Some options
dump-has words all asked options all_is is dump =
    let one = dump-is words all asked all_is is in
    one.2 ∙ ap Some (let same : Dump one.0 ≡ Dump options = sym one.1 ∙ dump in cc)

pub dump-none : (words all : List (List ℕ)) → all ≡ codes "dump" ∷ words → asked_of all ≡ None → options_asked words ≡ None
dump-none words all all_is none = by (options_asked words) refl (sym (dump-asked words) ∙ sym (ap asked_of all_is) ∙ none)
  where
    by : (read : Option Options) → options_asked words ≡ read → option_map Dump (options_asked words) ≡ None → options_asked words ≡ None
    by None is told = is
    by (Some options) some told = absurd (let clash : Some (Dump options) ≡ None = sym (ap (option_map Dump) some) ∙ told in cc)

-- they are those of a run
pub dump-accepted : (asked : Asked) (options : Options) → asked ≡ Dump options → IsAccepted asked → IsTrue (is_config_ok options.config) × (1 ≤ options.budget) × (options.budget ≤ most_budget)
dump-accepted asked options is accepted = subst (λ (a : Asked). IsAccepted a) is accepted
