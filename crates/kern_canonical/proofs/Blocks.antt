-- The lines of a statement with blocks, before a text that goes on at its level.
use Rattle.std.proofs.Common.{◌≡◌, ℕ, zero, suc, inl, inr, List, [], ◌∷◌, ◌++◌, refl, sym, subst, arith, append_assoc}
use Rattle.kern_lexer.specs.Bytes.{Bytes}
use Rattle.kern_lexer.specs.Symbols.{Symbol, newline, indent, dedent, sign}
use Rattle.kern_lexer.specs.declared.token.Sign.TheVariants as S
use Rattle.kern_syntax.specs.Grammatical.{Deeper}
use Rattle.kern_syntax.specs.Print.{line_text}
use Rattle.kern_grammar.specs.Canonical.{with_block}
use Rattle.kern_canonical.proofs.CodeLines.{CodeLine}
use Rattle.kern_canonical.proofs.HeaderLines.{HeaderLine}
use Rattle.kern_canonical.proofs.Levels.{widths_at}
use Rattle.kern_canonical.proofs.Marks.{GoesOn, indent-first, dedent-first}
use Rattle.kern_canonical.proofs.ReadLines.{line-then, begins-line}
use Rattle.kern_canonical.proofs.Texts.{Lexes, BeginsAt}

-- a text that may follow lines of a level, and its symbols
pub record Reads (level : ℕ) (text : Bytes) (symbols : List Symbol) : Type 0 where
  pub lexes : Lexes (widths_at level) text symbols
  pub goes_on : GoesOn level text

-- one that begins with a line of the level
pub record Begun (level : ℕ) (text : Bytes) (symbols : List Symbol) : Type 0 where
  pub lexes : Lexes (widths_at level) text symbols
  pub begins : BeginsAt level text

pub begun-reads : (level : ℕ) (text : Bytes) (symbols : List Symbol) → Begun level text symbols → Reads level text symbols
begun-reads level text symbols b = record { lexes = b.lexes; goes_on = inr (level, omega arith, b.begins) }

-- the same text and the same symbols
pub begun-same : (level : ℕ) (text other : Bytes) (symbols others : List Symbol) → other ≡ text → others ≡ symbols
    → Begun level text symbols → Begun level other others
begun-same level text other symbols others same_text same_symbols b =
    subst (λ t. Begun level t others) (sym same_text) (subst (λ s. Begun level text s) (sym same_symbols) b)

-- behind a block
pub reads-inside : (level : ℕ) (text : Bytes) (symbols : List Symbol) → Reads level text symbols → Reads (suc level) text (dedent ∷ symbols)
reads-inside level text symbols r = record { lexes = dedent-first level text symbols r.goes_on r.lexes; goes_on = deeper r.goes_on }
  where
    deeper : GoesOn level text → GoesOn (suc level) text
    deeper (inl ends) = inl ends
    deeper (inr at_line) = let below = at_line.1 in inr (at_line.0, omega arith, at_line.2)

-- a simple statement's line
pub simple-then : (level : ℕ) (code : Bytes) (symbols : List Symbol) (rest : Bytes) (others : List Symbol) → CodeLine code symbols → Reads level rest others
    → Begun level (line_text level code ++ rest) ((symbols ++ newline ∷ []) ++ others)
simple-then level code symbols rest others c r =
    begun-same level (line_text level code ++ rest) (line_text level code ++ rest) (symbols ++ newline ∷ others) ((symbols ++ newline ∷ []) ++ others) refl (append_assoc symbols (newline ∷ []) others)
    (record { lexes = line-then level code rest symbols others c r.lexes; begins = begins-line level code rest symbols c })

-- a header, its block, and what follows
header-then : (level : ℕ) (code : Bytes) (header : List Symbol) (text : Bytes) (block others : List Symbol) → HeaderLine code header
    → Begun (suc level) text (block ++ dedent ∷ others) → Begun level (line_text level code ++ text) (with_block header block ++ others)
header-then level code header text block others c b =
    begun-same level (line_text level code ++ text) (line_text level code ++ text)
    ((header ++ sign S.Colon ∷ []) ++ newline ∷ indent ∷ (block ++ dedent ∷ others)) (with_block header block ++ others) refl (arranged header block others)
    (record {
      lexes = line-then level code text (header ++ sign S.Colon ∷ []) (indent ∷ (block ++ dedent ∷ others)) c (indent-first level text (block ++ dedent ∷ others) b.begins b.lexes);
      begins = begins-line level code text (header ++ sign S.Colon ∷ []) c;
    })
  where
    arranged : (header block others : List Symbol) → with_block header block ++ others ≡ (header ++ sign S.Colon ∷ []) ++ newline ∷ indent ∷ (block ++ dedent ∷ others)
    arranged header block others = simp append_assoc

-- a block with nothing of its statement behind it
pub block-alone : (level : ℕ) (code : Bytes) (header : List Symbol) (text : Bytes) (block : List Symbol) (rest : Bytes) (others : List Symbol) → HeaderLine code header
    → Begun (suc level) (text ++ rest) (block ++ dedent ∷ others) → Begun level (line_text level code ++ text ++ rest) (with_block header block ++ others)
block-alone level code header text block rest others c b =
    begun-same level (line_text level code ++ (text ++ rest)) (line_text level code ++ text ++ rest) (with_block header block ++ others) (with_block header block ++ others)
    (append_assoc (line_text level code) text rest) refl (header-then level code header (text ++ rest) block others c b)

-- a block with more of its statement behind it
pub block-then_more : (level : ℕ) (code : Bytes) (header : List Symbol) (text : Bytes) (block : List Symbol) (more : Bytes) (after : List Symbol) (rest : Bytes) (others : List Symbol) → HeaderLine code header
    → Begun (suc level) (text ++ (more ++ rest)) (block ++ dedent ∷ (after ++ others)) → Begun level (line_text level code ++ text ++ more ++ rest) (with_block header block ++ after ++ others)
block-then_more level code header text block more after rest others c b =
    begun-same level (line_text level code ++ text ++ (more ++ rest)) (line_text level code ++ text ++ more ++ rest) (with_block header block ++ (after ++ others)) (with_block header block ++ after ++ others)
    (append_assoc (line_text level code ++ text) more rest) (append_assoc (with_block header block) after others)
    (block-alone level code header text block (more ++ rest) (after ++ others) c b)

-- what is deeper
pub deeper-inside : (room : ℕ) (P : ℕ → Type 0) → Deeper room P → (inside : ℕ) × P inside
deeper-inside zero P fits = absurd fits
deeper-inside (suc room) P fits = (room, fits)
