use Rattle.std.proofs.Common.{◌≡◌, ◌∙◌, Ok, arith, ap, sym, length}
use Rattle.kern_lexer.specs.Fronts.{front_of}
use Rattle.kern_lexer.specs.declared.front.Front.TheVariants.{Token}
use Rattle.kern_lexer.proofs.FrontLemmas.{IsWithin, front-is_within}
use Rattle.kern_lexer.proofs.words.read_front.Goals as goal

-- a token has no more bytes than there are
pub push_token-requires-clause-len_fits : goal.push_token-requires-clause-len_fits
push_token-requires-clause-len_fits c =
    let is : front_of c.args.rest.now ≡ Ok (Token c.in-Ok-Token.kind c.in-Ok-Token.len) = sym c.front_of.ensures
    ∙ c.in-Ok-Token.is ∙ ap Ok c.in-Ok-Token.field-0-is in
    let within : IsWithin (length c.args.rest.now) (Token c.in-Ok-Token.kind c.in-Ok-Token.len) =
    front-is_within c.args.rest.now _ c.requires.some is in
    omega (arith, within.within)

pub returns-in_ok-note_bracket-in-Ok-Token-clause-within : goal.returns-in_ok-note_bracket-in-Ok-Token-clause-within
returns-in_ok-note_bracket-in-Ok-Token-clause-within c =
    let is : front_of c.args.rest.now ≡ Ok (Token c.in-Ok-Token.kind c.in-Ok-Token.len) = sym c.front_of.ensures
    ∙ c.in-Ok-Token.is ∙ ap Ok c.in-Ok-Token.field-0-is in
    let within : IsWithin (length c.args.rest.now) (Token c.in-Ok-Token.kind c.in-Ok-Token.len) =
    front-is_within c.args.rest.now _ c.requires.some is in
    (within.some, within.within)
