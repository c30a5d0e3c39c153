use Rattle.std.proofs.Common.{◌≡◌, ◌++◌, ℕ, List, OnOk, decimal, string_bytes, subst}
use Rattle.core_analyzer.proofs.Told.{variable-spelled}
use Rattle.core_analyzer.proofs.waveform.write_variable.Goals as goal

pub returns : goal.returns
returns c =
    subst (λ (more : List ℕ). OnOk c.writeln.result (string_bytes c.writeln.new.self ≡ string_bytes c.args.text.now ++ more))
    (variable-spelled c.args.channel c.identifier-identifier.result c.name_of-number.result.0.now (decimal c.name_of-number.result.1) c.requires c.identifier-identifier.ensures c.name_of-number.ensures)
    c.writeln.ensures.bytes
