use Rattle.std.proofs.Common.{◌≡◌, ◌≢◌, ◌∙◌, ◌++◌, ◌∷◌, [], Option, Some, None, ap, sym, Bor}
use Rattle.std.specs.Option.{MatchOption, unwrap_or}
use Rattle.std.proofs.lemmas.Bool.Decides.{Decides-eqb}
use Rattle.std.proofs.lemmas.Slice.Eq.{strip_suffix_is}
use Rattle.kern_lexer.specs.Bytes.{Bytes}
use Rattle.kern_lexer.specs.Lines.{without_return}
use Rattle.kern_lexer.proofs.LineLemmas.{return-cut, return-kept}
use Rattle.kern_lexer.proofs.line.without_return.Goals as goal

stripped : (line : Bor Bytes) (front : Option (Bor Bytes))
    → MatchOption front ((before : Bytes) → line.now ≢ before ++ 13 ∷ []) (λ x. line.now ≡ x.now ++ 13 ∷ [])
    → (unwrap_or front line).now ≡ without_return line.now
stripped line None kept = sym (return-kept line.now kept)
stripped line (Some front) cut = sym (ap without_return cut ∙ return-cut front.now)

pub returns : goal.returns
returns c = ap (λ (x : Bor Bytes). x.now) c.unwrap_or.ensures
    ∙ stripped c.args.line c.strip_suffix.result (strip_suffix_is Decides-eqb c.args.line.now (13 ∷ []) c.strip_suffix.result c.strip_suffix.ensures.cases)
