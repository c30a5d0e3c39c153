use Rattle.std.proofs.Common.{sym, ◌∙◌}
use Rattle.core_analyzer.proofs.DumpSpelled.{one-dump}
use Rattle.core_analyzer.proofs.laws.a_dump_has_one_spelling.Goals as goal

pub returns-clause-dump : goal.returns-clause-dump
returns-clause-dump c = one-dump

pub returns-clause-bytes : goal.returns-clause-bytes
returns-clause-bytes c first second dump s t = s.spelled ∙ sym t.spelled
