use Rattle.std.proofs.Common.{◌≡◌, refl, ap, ◌∙◌}
use Rattle.std.specs.Prelude.{Err, Result, map, string_bytes}
use Rattle.trace_program.proofs.Asking.{dump-accepted, dump-has, dump-is, dump-none}
use Rattle.trace_program.proofs.words.read_options.Goals as goal

pub options_of-requires : goal.options_of-requires
options_of-requires c =
    let all_are = ap (map string_bytes) c.deref.ensures.value ∙ c.in_ok-all.ensures in
    let it = dump-is (map string_bytes c.args.words.now) _ c.in-Ok.asked all_are c.in-Ok.ensures.ok in
    (it.0, it.1)

pub returns-in-Ok-clause-ok : goal.returns-in-Ok-clause-ok
returns-in-Ok-clause-ok c =
    let all_are = ap (map string_bytes) c.deref.ensures.value ∙ c.in_ok-all.ensures in
    dump-has (map string_bytes c.args.words.now) _ c.in-Ok.asked c.options_of.result all_are c.in-Ok.ensures.ok c.options_of.ensures

pub returns-in-Ok-clause-config : goal.returns-in-Ok-clause-config
returns-in-Ok-clause-config c = (dump-accepted c.in-Ok.asked c.options_of.result c.options_of.ensures c.in-Ok.ensures.accepted).0

pub returns-in-Ok-clause-units : goal.returns-in-Ok-clause-units
returns-in-Ok-clause-units c = (dump-accepted c.in-Ok.asked c.options_of.result c.options_of.ensures c.in-Ok.ensures.accepted).2

same-error : {X E : Type 0} (result : Result X E) (one other : E) → result ≡ Err one → result ≡ Err other → one ≡ other
same-error result one other is also = cc

pub returns-clause-refused : goal.returns-clause-refused
returns-clause-refused c = λ is.
    let all_are = ap (map string_bytes) c.deref.ensures.value ∙ c.in_ok-all.ensures in
    dump-none (map string_bytes c.args.words.now) _ all_are (c.in-Err.ensures.refused (ap Err (same-error _ c.in-Err.end _ refl is)))
