use Rattle.std.proofs.Common.{◌≡◌, true, false, ◌∷◌, map, Some, bytes_eq, string_bytes, sym, ap, ◌∙◌, rules}
use Rattle.std.specs.List.{list_any}
use Rattle.json_fields.proofs.Keys.{first_unknown, key_passed, key_refused, least_from, lent}
use Rattle.json_fields.proofs.object.least_unknown.Goals as goal

pub loop-key-init : goal.loop-key-init
loop-key-init c =
    ap (λ names. first_unknown (lent c.args.known.now) (map string_bytes names)) (c.into_iter-key-iterator.ensures.into_iter_gives ∙ c.keys-key-items.ensures.rest)
    ∙ least_from (lent c.args.known.now) c.in_ok-members.members.now.entries _ c.keys-key-items.ensures.ordered c.in_ok-members.ensures

pub returns-then-not-is_known : goal.returns-then-not-is_known
returns-then-not-is_known c =
    let steps : c.loop-key.key-iterator ≡ c.in-Some.key.now ∷ c.next.new.self = search rules in
    let text : c.as_str.result.now ≡ string_bytes c.in-Some.key.now = search rules in
    let again : c.as_str-then-not-is_known.result.now ≡ string_bytes c.in-Some.key.now = search rules in
    let answer : c.is_known.result ≡ false = search rules in
    let unknown : list_any (λ name. bytes_eq (string_bytes c.in-Some.key.now) name.now) c.args.known.now ≡ false = ap (λ key. list_any (λ name. bytes_eq key name.now) c.args.known.now) (sym text) ∙ sym c.is_known.ensures ∙ answer in
    ap Some again
    ∙ sym (key_refused c.args.known.now (string_bytes c.in-Some.key.now) (map string_bytes c.next.new.self) unknown)
    ∙ ap (λ names. first_unknown (lent c.args.known.now) (map string_bytes names)) (sym steps)
    ∙ c.loop-key.invariant

pub loop-key-preserved : goal.loop-key-preserved
loop-key-preserved c =
    let steps : c.loop-key.key-iterator ≡ c.in-Some.key.now ∷ c.next.new.self = search rules in
    let text : c.as_str.result.now ≡ string_bytes c.in-Some.key.now = search rules in
    let answer : c.is_known.result ≡ true = search rules in
    let known : list_any (λ name. bytes_eq (string_bytes c.in-Some.key.now) name.now) c.args.known.now ≡ true = ap (λ key. list_any (λ name. bytes_eq key name.now) c.args.known.now) (sym text) ∙ sym c.is_known.ensures ∙ answer in
    sym (key_passed c.args.known.now (string_bytes c.in-Some.key.now) (map string_bytes c.next.new.self) known)
    ∙ ap (λ names. first_unknown (lent c.args.known.now) (map string_bytes names)) (sym steps)
    ∙ c.loop-key.invariant
