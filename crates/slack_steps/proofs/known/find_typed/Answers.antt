use Rattle.std.proofs.Common.{rules, ◌≡◌, Some, option_map, ◌∙◌, FitsSigned, w64}
use Rattle.std.specs.Int.{int_wrap}
use Rattle.std.proofs.lemmas.Int.{to_z-of_z}
use Rattle.kern_syntax.specs.TreeOf.{expression_of}
use Rattle.kern_calls.specs.Types.{bits_of, type_of, width_of}
use Rattle.kern_names.specs.ScopeOf.{scope_of}
use Rattle.timeline_sem.specs.Numbers.{exact_result}
use Rattle.slack_steps.proofs.Parts.{as_word, binary_known, type_by_left}
use Rattle.slack_steps.proofs.known.find_typed.Goals as goal

pub returns-in-Some : goal.returns-in-Some
returns-in-Some c left right s tree typed first second =
    let scope = scope_of c.args.scope.now in
    let op = c.args.operator in
    let e = expression_of c.args.e.now in
    let number = c.in-Some.number in
    let fits : FitsSigned w64 number = search rules in
    let kind : c.kind_of-kind.result ≡ type_of scope e = c.kind_of-kind.ensures (λ long. type_by_left scope op left right e tree (typed long)) in
    let is : Some number ≡ option_map (int_wrap (width_of (type_of scope e))) (exact_result op (bits_of (type_of scope e)) c.args.m c.args.n) =
    c.in-Some.ensures
    ∙ (λ i. option_map (int_wrap (width_of (kind i))) (exact_result op (bits_of (kind i)) (to_z-of_z w64 c.args.m c.ranges.m i) (to_z-of_z w64 c.args.n c.ranges.n i))) in
    let known = binary_known scope op left right e s c.args.m c.args.n number tree first second is in
    as_word scope c.of_type.result number e s fits (c.of_type.ensures number scope e s kind known)
