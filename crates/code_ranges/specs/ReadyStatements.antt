-- What the code of a statement needs where it is put.
use Rattle.std.specs.Prelude.{◌≡◌, ℕ, ◌+◌, ◌<◌, ◌≤◌, ◌^◌, List, [], ◌∷◌, length, Option, Some, None}
use Rattle.kern_syntax.specs.Tree.{Bytes, Expression, Statement, pass, break, continue, return, evaluate, assign}
use Rattle.kern_syntax.specs.Tree.{assign_element, augment, augment_element, assign_repeated, assign_list, if_then}
use Rattle.kern_syntax.specs.Tree.{while_do, for_range, parallel, sequential, record_as, try_do, Block, done, line_then}
use Rattle.kern_syntax.specs.Tree.{Otherwise, no_else, else_do, elif_then, Handlers, no_handler, except_then}
use Rattle.core_isa.specs.declared.code.Mark.{Mark}
use Rattle.code_forms.specs.Lines.{raised, with_handler, with_recording}
use Rattle.code_forms.specs.Setting.{Setting, slot_of}
use Rattle.code_forms.specs.Sizes.{block_size}
use Rattle.code_forms.specs.StatementCode.{Inside}
use Rattle.code_ranges.specs.Ready.{ExpressionFits}

-- what stands round a statement leaves room: nothing lies on the operands, and few handlers and slots are in use
pub record HasSpace (mark : Mark) (free : ℕ) : Type 0 where
  pub empty : mark.height ≡ 0
  pub handlers : mark.tries < 100
  pub recording : mark.rec ≤ 100
  pub slots : free < 2 ^ 15 + 2 ^ 14

-- an expression that may be missing fits
abbrev pub FitsIfThere : Mark → Option Expression → Type 0
FitsIfThere mark None = Unit {0}
FitsIfThere mark (Some e) = ExpressionFits mark e

-- each of some expressions fits
abbrev pub EachFits : Mark → List Expression → Type 0
EachFits mark [] = Unit {0}
EachFits mark (e ∷ rest) = ExpressionFits mark e × EachFits mark rest

-- an array's slots, and as many free ones, are of two bytes
abbrev pub HasSlots : Setting → (free : ℕ) → Bytes → (count : ℕ) → Type 0
HasSlots setting free x count = (slot_of setting x + count < 2 ^ 16) × (free + count < 2 ^ 16)

module _ (setting : Setting) where
  abbrev mutual
    -- the parts of a statement have room, under its mark and with the slots from this one on free
    pub StatementFits : Mark → (free : ℕ) → Statement → Type 0
    StatementFits mark free pass = Unit {0}
    StatementFits mark free break = Unit {0}
    StatementFits mark free continue = Unit {0}
    StatementFits mark free (return e) = FitsIfThere mark e
    StatementFits mark free (evaluate e) = ExpressionFits mark e
    StatementFits mark free (assign x e) = ExpressionFits mark e
    StatementFits mark free (assign_element x i e) = ExpressionFits mark e × ExpressionFits (raised 1 mark) i
    StatementFits mark free (augment x op e) = ExpressionFits (raised 1 mark) e
    StatementFits mark free (augment_element x i op e) = ExpressionFits mark i × ExpressionFits (raised 1 mark) e
    StatementFits mark free (assign_repeated x e n) = ExpressionFits mark e
    StatementFits mark free (assign_list x es) = EachFits mark es × HasSlots setting free x (length es)
    StatementFits mark free (if_then c b rest) = ExpressionFits mark c × BlockFits mark free b × OtherwiseFits mark free rest
    StatementFits mark free (while_do c b) = ExpressionFits mark c × BlockFits mark free b
    StatementFits mark free (for_range x from to b) =
        FitsIfThere mark from × ExpressionFits (raised 1 mark) to × HasSpace mark (free + 2) × BlockFits mark (free + 2) b
    StatementFits mark free (parallel b) = HasSpace mark (free + 2) × BlockFits mark (free + 2) b
    StatementFits mark free (sequential b) = BlockFits mark free b
    StatementFits mark free (record_as name b) = HasSpace (with_recording mark) free × BlockFits (with_recording mark) free b
    StatementFits mark free (try_do b handlers) =
        HasSpace (with_handler mark) free × BlockFits (with_handler mark) free b × HandlersFit mark free handlers

    -- the statements of a block
    pub BlockFits : Mark → (free : ℕ) → Block → Type 0
    BlockFits mark free done = Unit {0}
    BlockFits mark free (line_then line s rest) = StatementFits mark free s × BlockFits mark free rest

    -- the further branches of an `if`
    pub OtherwiseFits : Mark → (free : ℕ) → Otherwise → Type 0
    OtherwiseFits mark free no_else = Unit {0}
    OtherwiseFits mark free (else_do b) = BlockFits mark free b
    OtherwiseFits mark free (elif_then line c b rest) =
        ExpressionFits mark c × BlockFits mark free b × OtherwiseFits mark free rest

    -- handlers
    pub HandlersFit : Mark → (free : ℕ) → Handlers → Type 0
    HandlersFit mark free no_handler = Unit {0}
    HandlersFit mark free (except_then line x b rest) = BlockFits mark free b × HandlersFit mark free rest

-- a block can be put at a place
pub record IsReadyBlock (setting : Setting) (inside : Inside) (place : ℕ) (b : Block) : Type 0 where
  pub space : HasSpace inside.mark inside.free
  pub fits : BlockFits setting inside.mark inside.free b
  pub places : place + block_size setting inside.mark.tries inside.loop.tries b < 2 ^ 31
