use Rattle.std.proofs.Common.{sym, ap, ◌∙◌}
use Rattle.std.specs.Option.{option_copied}
use Rattle.recording_bytes.proofs.FewBytes.{last-short}
use Rattle.recording_bytes.proofs.numbers.is_short.Goals as goal

pub returns-in-Some : goal.returns-in-Some
returns-in-Some c = last-short c.args.bytes.now c.in-Some.last.now (sym c.last.ensures.value ∙ ap option_copied c.in-Some.is)
