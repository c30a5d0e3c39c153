-- For the code alone, which enters a level only where an operator of it
-- stands: at which levels what stands first and what follows is read.
use Rattle.std.specs.Prelude.{ℕ, Bool, true, false, List, [], ◌∷◌, ◌&&◌, ◌==◌, nat_le, min, is_some, if◌then◌else◌}
use Rattle.std.specs.Option.{unwrap_or}
use Rattle.kern_lexer.specs.Symbols.{Symbol, sign}
use Rattle.kern_lexer.specs.declared.token.Sign.TheVariants as S
use Rattle.kern_syntax.specs.Tree.{Expression}
use Rattle.kern_grammar.specs.Operators.{continues_at}
use Rattle.kern_grammar.specs.Reading.{Reader, comparison_behind, row_behind, first_form, not_at}

-- the level of the operator that a symbol is, 0 where it is none
abbrev pub level_of_symbol : Symbol → ℕ
level_of_symbol s = unwrap_or (continues_at s) 0

-- the level of the operator that the symbols begin with, 0 where they begin with none
abbrev pub operator_level : List Symbol → ℕ
operator_level [] = 0
operator_level (s ∷ rest) = level_of_symbol s

-- the level at which what stands first is read: that of `not`, where
-- it is there and the level is as loose, else that of prefixes
abbrev pub front_level : ℕ → List Symbol → ℕ
front_level level symbols = if nat_le 9 level && is_some (first_form not_at symbols) then 9 else min level 1

-- what is read at a level behind an operand of it
abbrev pub behind_operand : (level : ℕ) → (tighter : Reader) → Expression → Reader
behind_operand level tighter e symbols = if level == 8 then comparison_behind tighter e symbols else row_behind 16 level tighter e symbols

-- a symbol that stands behind an argument
abbrev pub ends_argument : Symbol → Bool
ends_argument (sign S.Comma) = true
ends_argument (sign S.CloseParenthesis) = true
ends_argument s = false

abbrev pub argument_ended : List Symbol → Bool
argument_ended [] = false
argument_ended (s ∷ rest) = ends_argument s
