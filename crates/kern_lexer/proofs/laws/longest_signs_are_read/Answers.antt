use Rattle.std.proofs.Common.{nat_eq}
use Rattle.std.specs.List.{starts_with}
use Rattle.std.proofs.lemmas.Bool.{both_ways}
use Rattle.kern_lexer.specs.Signs.{sign_text}
use Rattle.kern_lexer.proofs.SignLemmas.{sign-begins, sign-longest, sign-none}
use Rattle.kern_lexer.proofs.laws.longest_signs_are_read.Goals as goal

pub returns : goal.returns
returns c = record {
  begins = sign-begins;
  longest = sign-longest;
  none = λ bytes t none begins. both_ways (starts_with nat_eq bytes (sign_text t)) (sign-none bytes t none) begins;
}
