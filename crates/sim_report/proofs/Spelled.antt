-- Names are text.
use Rattle.std.proofs.Common.{◌≡◌, ◌<◌, ℕ, zero, suc, true, List, [], ◌∷◌, arith}
use Rattle.std.specs.Prelude.{IsTrue}
use Rattle.std.specs.List.{list_all}
use Rattle.std.specs.Str.{IsAscii, IsUtf8}
use Rattle.std.proofs.lemmas.Bool.{and_parts}
use Rattle.std.proofs.lemmas.Bool.Decides.{nat_tests}
use Rattle.std.proofs.lemmas.Str.{IsUtf8-from_ascii}
use Rattle.rtio_types.specs.Names.{is_name, is_word_byte}

word-ascii : (b : ℕ) → is_word_byte b ≡ true → b < 128
word-ascii b is = grind (arith, nat_tests, is)

words-ascii : (bytes : List ℕ) → list_all is_word_byte bytes ≡ true → IsAscii bytes
words-ascii [] all i = omega arith
words-ascii (b ∷ bytes) all zero = word-ascii b (and_parts (is_word_byte b) (list_all is_word_byte bytes) all).0
words-ascii (b ∷ bytes) all (suc i) = words-ascii bytes (and_parts (is_word_byte b) (list_all is_word_byte bytes) all).1 i

pub name-text : (bytes : List ℕ) → IsTrue (is_name bytes) → IsUtf8 bytes
name-text bytes is =
    let front = and_parts _ _ is in
    let back = and_parts _ _ front.1 in
    IsUtf8-from_ascii bytes (words-ascii bytes back.1)
