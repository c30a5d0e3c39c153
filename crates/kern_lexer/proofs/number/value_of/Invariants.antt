use Rattle.std.proofs.Common.{◌≡◌, ◌<◌, ◌^◌, drop}
use Rattle.std.specs.List.{fold}
use Rattle.kern_lexer.specs.Numbers.{one_more_digit, value_of}
use Rattle.kern_lexer.proofs.number.value_of.Given as goal

-- the value of the digits so far is within the limit, and what is left makes the whole value of it
abbrev pub invariant-loop-b : goal.invariant-loop-b
invariant-loop-b l = record {
  within : l.value < 2 ^ 63;
  same : fold (one_more_digit l.base) l.value (drop l.b-index l.digits) ≡ value_of l.base l.digits;
}
