use Rattle.std.proofs.Common.{◌≡◌, map, take}
use Rattle.clap.specs.Words.{app_of}
use Rattle.sim_words.specs.Matches.{plain_app}
use Rattle.sim_words.proofs.given.plain_command.Given as goal

abbrev pub invariant-loop-name : goal.invariant-loop-name
invariant-loop-name l = app_of l.command ≡ plain_app (map (λ name. name.now) (take l.name-index l.names))
