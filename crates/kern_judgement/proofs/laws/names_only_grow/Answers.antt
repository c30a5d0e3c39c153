use Rattle.kern_judgement.proofs.ToldNames.{statement_grows, block_grows, branches_grow, handlers_grow}
use Rattle.kern_judgement.proofs.laws.names_only_grow.Goals as goal

pub returns : goal.returns
returns c = record {
  blocks = λ functions here names b after x t typed e. (block_grows functions here names typed).known x t e;
  statements = λ functions here names s after x t typed e. (statement_grows functions here names typed).known x t e;
  branches = λ functions here names rest after x t typed e. (branches_grow functions here names typed).known x t e;
  handlers = λ functions here names handlers after x t typed e. (handlers_grow functions here names typed).known x t e;
}
