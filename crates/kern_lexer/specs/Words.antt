-- Stated a second time for the proof's sake: the tokens within a line,
-- as the code reads them. What a text has is said in Answers.antt.
use Rattle.std.specs.Prelude.{ℕ, zero, suc, ◌-◌, List, [], ◌∷◌, ◌++◌, Result, Ok}
use Rattle.kern_lexer.specs.Bytes.{Bytes}
use Rattle.kern_lexer.specs.Faults.{LexFault, ◌>>=◌, placed}
use Rattle.kern_lexer.specs.Fronts.{front_of, bytes_of}
use Rattle.kern_lexer.specs.declared.front.Front.{Front}
use Rattle.kern_lexer.specs.declared.front.Front.TheVariants as R
use Rattle.kern_lexer.specs.declared.token.Token.{Token}

-- the token that a front makes, if it is no space
abbrev pub tokens_at : (line at : ℕ) → Front → List Token
tokens_at line at R.Space = []
tokens_at line at (R.Token kind len) = record { kind = kind; at = at; len = len; line = line } ∷ []

-- the tokens of a line's bytes from a place on; the first `taken` bytes belong to what began before
abbrev pub words_from : (line at taken : ℕ) → Bytes → Result (List Token) LexFault
words_from line at taken [] = Ok []
words_from line at (suc taken) (b ∷ rest) = words_from line (suc at) taken rest
words_from line at zero (b ∷ rest) = do
  front ← placed at (front_of (b ∷ rest))
  others ← words_from line (suc at) (bytes_of front - 1) rest
  Ok (tokens_at line at front ++ others)
