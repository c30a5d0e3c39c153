-- What the words of `artiq_trace` ask.
use Rattle.std.specs.Prelude.{List, ℕ, Option}
use Rattle.sim_words.specs.declared.asked.Options.{Options}
use Rattle.sim_words.specs.Asked.{dump_names, if_read, options_of}
use Rattle.sim_words.specs.Given.{given_of}

-- the options of a run that the words give: those of `sim` but for `--gen` and `--dma`, which are those of `dump`
abbrev pub options_asked : List (List ℕ) → Option Options
options_asked words = if_read (given_of dump_names words) options_of
