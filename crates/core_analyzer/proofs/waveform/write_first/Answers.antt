use Rattle.std.proofs.Common.{◌≡◌, List, ℕ, OnOk, string_bytes, subst}
use Rattle.core_analyzer.proofs.Told.{first-written}
use Rattle.core_analyzer.proofs.waveform.write_first.Goals as goal

pub returns : goal.returns
returns c =
    subst (λ (text : List ℕ). OnOk c.write_zeros.result (string_bytes c.write_zeros.new.text ≡ text))
    (first-written (string_bytes c.args.text.now) (string_bytes c.push_str.new.self) (string_bytes c.write_variables.new.text) (string_bytes c.push_str-2.new.self)
    c.in_ok-push_str.ensures.bytes c.in_ok-write_variables.ensures c.in_ok-push_str-2.ensures.bytes)
    c.write_zeros.ensures
