use Rattle.std.proofs.Common.{◌≡◌, drop}
use Rattle.kern_lexer.specs.Numbers.{are_digits, is_decimal}
use Rattle.kern_lexer.proofs.number.is_decimal.Given as goal

-- what is left decides, behind the last byte
abbrev pub invariant-loop-b : goal.invariant-loop-b
invariant-loop-b l = are_digits l.after_digit (drop l.b-index l.word) ≡ is_decimal l.word
