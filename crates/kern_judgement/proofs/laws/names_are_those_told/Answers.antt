use Rattle.kern_judgement.specs.Programs.{functions_at}
use Rattle.kern_judgement.proofs.ToldFunctions.{body_told, functions_told, names_told}
use Rattle.kern_judgement.proofs.laws.names_are_those_told.Goals as goal

pub returns : goal.returns
returns c = record {
  typed = names_told;
  only = λ program k f after body. body_told program (functions_at program k) f after (functions_told program k) body;
}
