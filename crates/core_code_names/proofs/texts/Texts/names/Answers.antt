use Rattle.std.proofs.Common.{◌≡◌, ◌<◌, length, ap, subst, sym, ◌∙◌, arith}
use Rattle.std.specs.Prelude.{IsTrue}
use Rattle.std.proofs.lemmas.List.{length-map}
use Rattle.kern_expression_types.proofs.Named.{names_of_keys}
use Rattle.rtio_types.specs.Names.{is_name}
use Rattle.core_code_names.specs.Named.{AreNames}
use Rattle.core_code_names.proofs.Named.{named_at, on_err}
use Rattle.core_code_names.proofs.texts.Texts.names.Goals as goal

pub push_name-requires : goal.push_name-requires
push_name-requires c =
    let items = c.as_slice-text-items.result.now in
    let named : AreNames (names_of_keys items) = subst (λ keys. AreNames (names_of_keys keys)) (sym c.as_slice-text-items.ensures.keys) c.self.invariant in
    subst (λ text. IsTrue (is_name text)) (sym c.as_slice.ensures.value) (named_at items c.loop-text.text-index c.text-item.result named c.loop-text-test.true c.text-item.is)

pub returns-in_err-push_name-clause-memory : goal.returns-in_err-push_name-clause-memory
returns-in_err-push_name-clause-memory c =
    let items = c.as_slice-text-items.result.now in
    let count : length c.args.self.now ≡ length items = ap length (sym c.self.view_is) ∙ length-map c.self.inside.texts.keys (λ key. key.items) ∙ ap length (sym c.as_slice-text-items.ensures.keys) in
    let some : 0 < length c.args.self.now = omega (arith, count, c.loop-text-test.true) in
    on_err c.from_residual.result some
