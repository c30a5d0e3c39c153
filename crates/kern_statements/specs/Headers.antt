-- For the proofs alone: the headers of blocks, up to their colons, as plans that go on with what they found.
use Rattle.std.specs.Prelude.{codes, Option, option_map}
use Rattle.kern_syntax.specs.Tree.{Expression}
use Rattle.kern_syntax.specs.TreeOf.{expression_of}
use Rattle.kern_grammar.specs.BlockPlans.{range_plan}
use Rattle.kern_grammar.specs.Plans.{Plan, token}
use Rattle.kern_grammar.specs.SimplePlans.{an_expression}
use Rattle.kern_grammar.specs.Views.{a_text, a_with_item, close_parenthesis, comma_or_close}
use Rattle.kern_grammar.specs.Views.{dot, in_key, open_parenthesis, the_name}
use Rattle.kern_grammar.specs.Views as V
use Rattle.kern_statements.specs.declared.headers.Bounds.{Bounds}
use Rattle.kern_statements.specs.declared.headers.WithItem.{WithItem}
use Rattle.kern_statements.specs.declared.headers.WithItem.TheVariants as W

-- the bounds of a `for`: the lower one, where there is one, and the upper one
abbrev pub BoundTrees : Type 0
BoundTrees = Option Expression × Expression

abbrev pub bounds_of : Bounds → BoundTrees
bounds_of b = (option_map expression_of b.from, expression_of b.to)

-- the bounds of a `for` in their parentheses
abbrev pub bracketed_bounds_plan : {A : Type 0} → (Option Expression → Expression → Plan A) → Plan A
bracketed_bounds_plan next = token open_parenthesis (λ seen. an_expression 15 (λ first. token comma_or_close (range_plan next first)))

-- the bounds of a `for`, behind its name
abbrev pub bounds_plan : {A : Type 0} → (Option Expression → Expression → Plan A) → Plan A
bounds_plan next = token in_key (λ seen. token (the_name (codes "range")) (λ seen. bracketed_bounds_plan next))

-- the quoted name of a recording, and the closing parenthesis
abbrev pub quoted_recording_plan : {A : Type 0} → (WithItem → Plan A) → Plan A
quoted_recording_plan next = token a_text (λ text. token close_parenthesis (λ seen. next (W.Record text)))

-- the name of a recording in its parentheses
abbrev pub recording_name_plan : {A : Type 0} → (WithItem → Plan A) → Plan A
recording_name_plan next = token open_parenthesis (λ seen. quoted_recording_plan next)

-- the item of a `with`
abbrev pub with_head : {A : Type 0} → (WithItem → Plan A) → V.WithItem → Plan A
with_head next V.in_parallel = next W.Parallel
with_head next V.in_sequence = next W.Sequential
with_head next V.recording =
    token dot (λ seen. token (the_name (codes "record")) (λ seen. recording_name_plan next))

abbrev pub with_item_plan : {A : Type 0} → (WithItem → Plan A) → Plan A
with_item_plan next = token a_with_item (with_head next)
