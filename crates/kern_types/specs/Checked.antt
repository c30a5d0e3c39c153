-- What a program is that was checked.
use Rattle.kern_syntax.specs.Grammatical.{IsGrammatical}
use Rattle.kern_syntax.specs.Spellable.{IsSpellableProgram}
use Rattle.kern_syntax.specs.Tree.{ProgramTree}
use Rattle.kern_types.specs.Programs.{IsTyped}

-- the program is in the grammar, its names, texts and integers are those of tokens, and it is typed
pub record IsChecked (program : ProgramTree) : Type 0 where
  pub grammatical : IsGrammatical program
  pub spellable : IsSpellableProgram program
  pub typed : IsTyped program
