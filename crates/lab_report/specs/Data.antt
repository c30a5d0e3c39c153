-- The lines of the datasets.
use Rattle.std.specs.Prelude.{ℕ, Bool, List, ◌++◌, codes, if◌then◌else◌}
use Rattle.dataset_db.specs.declared.datasets.Flags.{Flags}
use Rattle.dataset_db.specs.Datasets.{Dataset}
use Rattle.sim_report.specs.Lines.{value_text}

-- the letter of a flag that is set, or a dash
abbrev pub flag_text : List ℕ → Bool → List ℕ
flag_text letter is_set = if is_set then letter else codes "-"

-- a letter or a dash each for broadcast, persist, archive
abbrev pub flags_text : Flags → List ℕ
flags_text flags = flag_text (codes "b") flags.broadcast ++ flag_text (codes "p") flags.persist ++ flag_text (codes "a") flags.archive

-- how the line of a dataset begins
abbrev pub named_text : List ℕ → List ℕ
named_text name = codes "data " ++ name ++ codes " "

-- the line of a dataset
abbrev pub dataset_line : Dataset → List ℕ
dataset_line dataset = named_text dataset.name ++ flags_text dataset.flags ++ codes " " ++ value_text dataset.value ++ codes "\n"
