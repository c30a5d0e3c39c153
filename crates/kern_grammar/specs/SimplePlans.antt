-- For the proofs alone: the statements on one line, which Simple defines, stated again as plans of reading.
use Rattle.std.specs.Prelude.{◌≡◌, ℕ, Bool, true, false, List, [], ◌∷◌, Some, None}
use Rattle.kern_lexer.specs.Bytes.{Bytes}
use Rattle.kern_lexer.specs.Symbols.{Symbol, Lexeme}
use Rattle.kern_syntax.specs.Grammatical.{Fits}
use Rattle.kern_syntax.specs.Tree.{Expression, Statement, pass, break, continue, return, evaluate, assign}
use Rattle.kern_syntax.specs.Tree.{assign_element, augment, augment_element, assign_repeated, assign_list}
use Rattle.kern_grammar.specs.Expressions.{expression_symbols}
use Rattle.kern_grammar.specs.Operators.{stops}
use Rattle.kern_grammar.specs.Phrases.{symbols_of}
use Rattle.kern_grammar.specs.Plans.{Taker, Plan, done, token, peek, part, last}
use Rattle.kern_grammar.specs.Plans.{run, Spells, lifted, many, EachOf, EachEnds}
use Rattle.kern_grammar.specs.Reading.{readers}
use Rattle.kern_grammar.specs.Views.{line_end, comma, open_bracket, close_bracket, is_seen, a_number}
use Rattle.kern_grammar.specs.Views.{star_or_end, Opening, passes, breaks, continues, returns, opening, any}
use Rattle.kern_grammar.specs.Views.{to_name, to_element, Deed, evaluates, assigns_to, augments_at, deed}

-- the tokens of an expression with so much room for nesting, and what may follow it
abbrev pub expression_phrase : (room : ℕ) → Expression → List Lexeme → Type 0
expression_phrase room e tokens = (symbols_of tokens ≡ expression_symbols e) × Fits 11 room e

abbrev pub expression_stop : Expression → List Lexeme → Type 0
expression_stop e rest = stops 11 (symbols_of rest) ≡ true

abbrev pub take_expression : (room : ℕ) → Taker Expression
take_expression room tokens = lifted (readers room 11) tokens

abbrev pub an_expression : {A : Type 0} → (room : ℕ) → (Expression → Plan A) → Plan A
an_expression room next = part (expression_phrase room) expression_stop (take_expression room) next

-- the end of a line
abbrev pub end_line : {A : Type 0} → A → Plan A
end_line a = token line_end (λ seen. done a)

-- a comma and an element of an array
abbrev pub comma_element : Plan Expression
comma_element = token comma (λ seen. last (expression_phrase 15) expression_stop (take_expression 15) (λ e. e))

abbrev pub is_comma : Symbol → Bool
is_comma s = is_seen (comma s)

-- the further elements of an array
abbrev pub more_elements : {A : Type 0} → (List Expression → Plan A) → Plan A
more_elements next = part (EachOf (Spells comma_element)) (EachEnds expression_stop is_comma) (many is_comma (run comma_element)) next

-- the length of an array of one repeated element, or an array of that element
abbrev pub repeated : {A : Type 0} → (Statement → A) → Bytes → Expression → (has_length : Bool) → Plan A
repeated build x e true = token a_number (λ n. end_line (build (assign_repeated x e n)))
repeated build x e false = done (build (assign_list x (e ∷ [])))

-- what stands behind the elements of an array
abbrev pub array_end : {A : Type 0} → (Statement → A) → Bytes → Expression → List Expression → Plan A
array_end build x e [] = token star_or_end (repeated build x e)
array_end build x e (f ∷ more) = end_line (build (assign_list x (e ∷ f ∷ more)))

-- the value of an assignment to a name: an array or an expression
abbrev pub assigned : {A : Type 0} → (Statement → A) → Bytes → (is_array : Bool) → Plan A
assigned build x true = token open_bracket (λ seen. an_expression 15 (λ e. more_elements (λ more. token close_bracket (λ seen. array_end build x e more))))
assigned build x false = an_expression 16 (λ e. end_line (build (assign x e)))

-- what stands behind the first expression and the sign
abbrev pub deed_plan : {A : Type 0} → (Statement → A) → Expression → Deed → Plan A
deed_plan build e evaluates = done (build (evaluate e))
deed_plan build e (assigns_to (to_name x)) = peek (λ t. assigned build x (is_seen (open_bracket t.symbol)))
deed_plan build e (assigns_to (to_element x i)) = an_expression 16 (λ v. end_line (build (assign_element x i v)))
deed_plan build e (augments_at (to_name x) op) = an_expression 16 (λ v. end_line (build (augment x op v)))
deed_plan build e (augments_at (to_element x i) op) = an_expression 16 (λ v. end_line (build (augment_element x i op v)))

-- a statement that begins with an expression
abbrev pub by_expression : {A : Type 0} → (Statement → A) → Plan A
by_expression build = an_expression 16 (λ e. token (deed e) (deed_plan build e))

-- the value of a `return`, or none
abbrev pub returned : {A : Type 0} → (Statement → A) → (is_bare : Bool) → Plan A
returned build true = end_line (build (return None))
returned build false = an_expression 16 (λ e. end_line (build (return (Some e))))

-- a keyword that was looked at, alone on its line
abbrev pub word_line : {A : Type 0} → A → Plan A
word_line a = token any (λ seen. end_line a)

-- a statement on one line, by how it begins
abbrev pub simple_plan : {A : Type 0} → (Statement → A) → Opening → Plan A
simple_plan build passes = word_line (build pass)
simple_plan build breaks = word_line (build break)
simple_plan build continues = word_line (build continue)
simple_plan build returns = token any (λ seen. peek (λ t. returned build (is_seen (line_end t.symbol))))
simple_plan build o = by_expression build

-- a statement with its line
abbrev pub Line : Type 0
Line = ℕ × Statement

-- a statement on one line, with its line
abbrev pub simple_line_plan : Plan Line
simple_line_plan = peek (λ t. simple_plan (λ s. (t.line, s)) (opening t.symbol))
