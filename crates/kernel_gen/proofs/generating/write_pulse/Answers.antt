use Rattle.std.proofs.Common.{◌≡◌, ◌++◌, List, ℕ, OnOk, string_bytes, sym, subst}
use Rattle.std.specs.Prelude.{codes, decimal}
use Rattle.kernel_gen.proofs.Pulses.{grouped}
use Rattle.kernel_gen.proofs.generating.write_pulse.Goals as goal

pub returns : goal.returns
returns c =
    subst
    (λ (line : List ℕ). OnOk c.writeln.result (string_bytes c.writeln.new.self ≡ string_bytes c.args.text.now ++ line))
    (sym (grouped (codes "        ttl") (decimal c.args.output) (codes ".pulse_mu(") (decimal c.args.length) (codes ")\n")))
    c.writeln.ensures.bytes
