use Rattle.std.proofs.Common.{arith}
use Rattle.core_analyzer.proofs.Names.{name-of-input, name-of-out, name-of-raw}
use Rattle.core_analyzer.proofs.waveform.name_of.Goals as goal

pub returns-in-0-to-15 : goal.returns-in-0-to-15
returns-in-0-to-15 c = name-of-out c.args.channel (omega arith)

pub returns-in-16-to-23 : goal.returns-in-16-to-23
returns-in-16-to-23 c = name-of-raw c.args.channel (omega arith) (omega arith)

pub returns-in_default : goal.returns-in_default
returns-in_default c = name-of-input c.args.channel (omega arith) (omega arith)
