use Rattle.std.proofs.Common.{suc, arith}
use Rattle.kern_judgement.proofs.ToldFunctions.{found_there, found_by_name, place_by_name}
use Rattle.kern_judgement.proofs.laws.functions_have_one_place.Goals as goal

pub returns : goal.returns
returns c = record {
  there = λ program k x g e. let r = found_there program (suc k) x g e in (r.0, omega (arith, r.1), r.2, r.3);
  found = λ program j g typed there. (found_by_name program j g typed there, place_by_name program j g typed there);
}
