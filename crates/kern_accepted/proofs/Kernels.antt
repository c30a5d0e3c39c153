-- A text has one program at most, and is refused only where that is no accepted kernel.
use Rattle.std.proofs.Common.{◌≡◌, ℕ, ◌<◌, List, length, false, true, refl, sym, ap, subst, ◌∙◌, arith, get_or}
use Rattle.std.proofs.lemmas.List.{length-map}
use Rattle.std.proofs.lemmas.Option.{slice_get_read}
use Rattle.kern_lexer.specs.Answers.{HasTokens}
use Rattle.kern_lexer.specs.declared.token.Token.{Token}
use Rattle.kern_lexer.specs.Symbols.{Lexeme, lexeme_of, lexemes_of}
use Rattle.kern_lexer.proofs.Uniqueness.{one-list, not-both}
use Rattle.kern_grammar.specs.Accepted.{HasTree, IsFirstFault}
use Rattle.kern_grammar.proofs.FirstFaults.{no_fault, within}
use Rattle.kern_grammar.proofs.ProgramReads.{one_tree}
use Rattle.kern_parser.specs.Answers.{EndsRightly}
use Rattle.kern_parser.specs.declared.parsing.SyntaxEnd.{SyntaxEnd}
use Rattle.kern_parser.specs.declared.parsing.SyntaxEnd.TheVariants as S
use Rattle.kern_syntax.specs.Tree.{Bytes, ProgramTree}
use Rattle.kern_expression_types.specs.Verdicts as V
use Rattle.kern_accepted.specs.Refusals.{HasNoTree, IsRefusedFor}
use Rattle.kern_accepted.specs.Texts.{IsKernel, IsKernelText, IsNoKernelText, IsTextOf}
use Rattle.kern_accepted.specs.declared.end.Refusal.{Refusal}
use Rattle.kern_accepted.specs.declared.end.Refusal.TheVariants as R

-- its tokens are those that it has
parsed-as : (text : Bytes) (tokens : List Token) (program : ProgramTree) → HasTokens text tokens → IsTextOf text program → HasTree (lexemes_of text tokens) program
parsed-as text tokens program lexed is =
    subst (λ ts. HasTree (lexemes_of text ts) program) (one-list text is.tokens tokens is.lexed lexed) is.parsed

pub one-program : (text : Bytes) (one other : ProgramTree) → IsTextOf text one → IsTextOf text other → one ≡ other
one-program text one other a b = one_tree (lexemes_of text a.tokens) one other a.parsed (parsed-as text a.tokens other a.lexed b)

-- a kernel that the text has is the program that it has
kernel-of : (text : Bytes) (program other : ProgramTree) → IsTextOf text program → IsKernelText text other → IsKernel program
kernel-of text program other is taken = subst IsKernel (one-program text other program taken.is_text is) taken.kernel

pub none-refused : (text : Bytes) (refusal : Refusal) → IsRefusedFor text refusal → IsNoKernelText text
none-refused text (R.Tokens at kind) faults = λ program taken. not-both text taken.is_text.tokens (record { at = at; kind = kind }) taken.is_text.lexed faults
none-refused text (R.Tree place at) lacks = λ program taken.
    no_fault (lexemes_of text lacks.tokens) program place (parsed-as text lacks.tokens program lacks.lexed taken.is_text) lacks.first
none-refused text (R.Types line kind) ill = λ program taken.
    let typed = (kernel-of text ill.program program ill.is_text taken).typed in
    let clash : false ≡ true = sym (ap V.is_well ill.verdict) ∙ typed in absurd (cc)
none-refused text (R.Nodes count) large = λ program taken.
    let small = (kernel-of text large.program program large.is_text taken).small in
    let more = large.large in
    omega (arith, small, more)

-- ---- the end of the parser

-- a syntax end that is a fault
pub first-of-end : (tokens : List Lexeme) (end : SyntaxEnd) (place : ℕ) → end ≡ S.Fault place → EndsRightly tokens end → IsFirstFault tokens place
first-of-end tokens end place is h = subst (λ (x : SyntaxEnd). EndsRightly tokens x) is h

-- the first wrong token is one of the text's
pub fault-within : (text : Bytes) (tokens : List Token) (place : ℕ) → IsFirstFault (lexemes_of text tokens) place → place < length tokens
fault-within text tokens place fault = omega (arith, within (lexemes_of text tokens) place fault, length-map tokens (lexeme_of text))

-- and so it is found
pub no-tree : (text : Bytes) (tokens : List Token) (place : ℕ) (token : Token) → HasTokens text tokens → IsFirstFault (lexemes_of text tokens) place → token ≡ get_or tokens place token → HasNoTree text place token.at
no-tree text tokens place token lexed fault is = record {
  tokens = tokens;
  lexed = lexed;
  first = fault;
  token = token;
  found = slice_get_read tokens (length tokens) place token refl (fault-within text tokens place fault) is;
  begins = refl;
}
