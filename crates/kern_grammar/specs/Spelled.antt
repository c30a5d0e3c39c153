-- The symbols of tokens, and whether each is one that a text can have.
use Rattle.std.specs.Prelude.{◌^◌, List, Bool, true, nat_lt, map}
use Rattle.std.specs.List.{list_all}
use Rattle.kern_lexer.specs.Bytes.{Bytes}
use Rattle.kern_lexer.specs.Names.{is_name, is_quotable}
use Rattle.kern_lexer.specs.Symbols.{Symbol, name, number, quoted, symbol_of}
use Rattle.kern_lexer.specs.declared.token.Token.{Token}

-- the symbols of tokens of a text
abbrev pub symbols_in : Bytes → List Token → List Symbol
symbols_in text tokens = map (λ t. symbol_of text t.at t.len t.kind) tokens

-- whether a text can have the symbol: its name, integer or text has the form of one
abbrev pub is_spelled : Symbol → Bool
is_spelled (name x) = is_name x
is_spelled (number n) = nat_lt n (2 ^ 63)
is_spelled (quoted t) = is_quotable t
is_spelled s = true

-- whether each token of a text has such a symbol
unfoldable pub are_spelled : Bytes → List Token → Bool
are_spelled text tokens = list_all is_spelled (symbols_in text tokens)
