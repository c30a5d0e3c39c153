use Rattle.std.proofs.Common.{◌≡◌, Bor, List, map, option_map, sym, ap, ◌∙◌}
use Rattle.kern_calls.specs.Calls.{look_up}
use Rattle.kern_expression_types.specs.declared.names.Local.{Local}
use Rattle.kern_expression_types.proofs.Pairs.{local-found, pair_of}
use Rattle.kern_expression_types.proofs.names.Locals.get.Goals as goal

pub returns-in-Some : goal.returns-in-Some
returns-in-Some c =
    let x = c.args.name.now in
    let kept : look_up (map pair_of c.as_slice.result.now) x ≡ look_up c.args.self.now x = ap (λ (ls : List Local). look_up (map pair_of ls) x) c.as_slice.ensures.value ∙ ap (λ names. look_up names x) c.self.view_is in
    ap (option_map (λ (l : Bor Local). l.now.kind)) (sym c.in-Some.is) ∙ local-found c.first_local.result c.as_slice.result.now x c.first_local.ensures ∙ kept

pub returns-in-None : goal.returns-in-None
returns-in-None c =
    let x = c.args.name.now in
    let kept : look_up (map pair_of c.as_slice.result.now) x ≡ look_up c.args.self.now x = ap (λ (ls : List Local). look_up (map pair_of ls) x) c.as_slice.ensures.value ∙ ap (λ names. look_up names x) c.self.view_is in
    ap (option_map (λ (l : Bor Local). l.now.kind)) (sym c.in-None.is) ∙ local-found c.first_local.result c.as_slice.result.now x c.first_local.ensures ∙ kept
