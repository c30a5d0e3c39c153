-- Stated a second time for the proof's sake: the lines of a text, as
-- the code goes over them. What a text has is said in Answers.antt.
use Rattle.std.specs.Prelude.{List, [], ◌∷◌, ◌==◌, if◌then◌else◌}
use Rattle.std.specs.List.{slice_split, before_first}
use Rattle.kern_lexer.specs.Bytes.{Bytes, line_feed, carriage_return, number_sign}

-- the lines of a text without their line feeds; what follows the last line feed is the last line
abbrev pub lines_of : Bytes → List Bytes
lines_of text = slice_split (λ b. b == line_feed) text

-- a line without the carriage return that stands directly before its line feed
abbrev pub without_return : Bytes → Bytes
without_return [] = []
without_return (b ∷ []) = if b == carriage_return then [] else b ∷ []
without_return (b ∷ c ∷ rest) = b ∷ without_return (c ∷ rest)

-- a line without its comment
abbrev pub without_comment : Bytes → Bytes
without_comment line = before_first (λ b. b == number_sign) line
