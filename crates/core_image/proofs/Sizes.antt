-- How many bytes an image, or what stands before a first wrong field, has at most.
use Rattle.std.proofs.Common.{◌≡◌, ℕ, zero, suc, ◌+◌, ◌-◌, ◌*◌, ◌^◌, ◌/◌, ◌%◌, ◌≤◌, true, List, [], ◌∷◌, length, Ok, ap, arith}
use Rattle.std.specs.Prelude.{IsTrue, nat_le, ◌==◌}
use Rattle.std.specs.List.{concat}
use Rattle.std.specs.Int.{Width, byte_len, from_le_bytes, w16, w32, w64, cast_signed}
use Rattle.std.proofs.lemmas.Bool.{and_parts, leb-true}
use Rattle.std.proofs.lemmas.List.{length-append}
use Rattle.core_image.specs.Fields.{Bytes, Format, give, field, byte, number, is_between, ◌>>=◌, StandRightly, HasFault}
use Rattle.core_image.specs.Operands.{integer, one_byte, two_bytes, short, two_shorts, three_shorts, place, shape_of}
use Rattle.core_image.specs.Parts.{ImageParts}
use Rattle.core_image.specs.Reading.{read}
use Rattle.core_image.specs.Table.{times, magic, text, name, function, functions, operands, mark, line, image}
use Rattle.core_image.specs.declared.operands.Shape.{Shape}
use Rattle.core_image.specs.declared.operands.Shape.TheVariants as S
use Rattle.core_image.proofs.Faults.{ends_cut}

-- fields that stand rightly have at most so many bytes, and what they give meets a condition
abbrev Reach : {A : Type 0} → (A → Type 0) → Format A → (most : ℕ) → Type 0
Reach P (give x) most = P x
Reach P (field width test next) most =
    (bytes : Bytes) → length bytes ≡ width → IsTrue (test bytes) → (others : ℕ) × (width + others ≤ most) × Reach P (next bytes) others

record Reaches {A : Type 0} (format : Format A) (P : A → Type 0) (most : ℕ) : Type 0 where
  reach : Reach P format most

farther : {A : Type 0} (P : A → Type 0) (format : Format A) (few many : ℕ) → few ≤ many → Reach P format few → Reach P format many
farther P (give x) few many le h = h
farther P (field width test next) few many le h = λ bytes len passes. let p = h bytes len passes in (p.0, omega (arith, p.1), p.2)

at_most : {A : Type 0} {format : Format A} {P : A → Type 0} {few : ℕ} (many : ℕ) → few ≤ many → Reaches format P few → Reaches format P many
at_most {format = format} {P = P} {few = few} many le h = record { reach = farther P format few many le h.reach }

-- fields and then others
joined : {A B : Type 0} (P : A → Type 0) (Q : B → Type 0) (format : Format A) (next : A → Format B) (m n : ℕ) → Reach P format m → ((x : A) → P x → Reaches (next x) Q n) → Reach Q (format >>= next) (m + n)
joined P Q (give x) next m n h others = farther Q (next x) n (m + n) (omega arith) (others x h).reach
joined P Q (field width test behind) next m n h others = λ bytes len passes.
    let p = h bytes len passes in
    (p.0 + n, omega (arith, p.1), joined P Q (behind bytes) next p.0 n p.2 others)

then_reach : {A B : Type 0} {format : Format A} {P : A → Type 0} {Q : B → Type 0} {m n : ℕ} (next : A → Format B) → Reaches format P m → ((x : A) → P x → Reaches (next x) Q n) → Reaches (format >>= next) Q (m + n)
then_reach {format = format} {P = P} {Q = Q} {m = m} {n = n} next first others = record { reach = joined P Q format next m n first.reach others }

abbrev Any : {A : Type 0} → A → Type 0
Any x = Unit {0}

given : {A : Type 0} (x : A) → Reaches (give x) Any 0
given x = record { reach = tt }

between : (least most n : ℕ) → is_between least most n ≡ true → n ≤ most
between least most n e = leb-true _ _ (and_parts (nat_le least n) (nat_le n most) e).1

byte_reach : (least most : ℕ) → Reaches (byte least most) (λ n. n ≤ most) 1
byte_reach least most = record { reach = λ bytes len passes. (0, omega arith, between least most _ passes) }

number_reach : (w : Width) (least most : ℕ) → Reaches (number w least most) (λ n. n ≤ most) (byte_len w)
number_reach w least most = record { reach = λ bytes len passes. (0, omega arith, between least most (from_le_bytes w bytes) passes) }

magic_reach : Reaches magic Any 4
magic_reach = record { reach = λ bytes len passes. (0, omega arith, tt) }

text_reach : (len : ℕ) → Reaches (text len) Any len
text_reach len = record { reach = λ bytes is passes. (0, omega arith, tt) }

name_reach : Reaches name Any 33
name_reach = then_reach _ (byte_reach 1 32) (λ len le. at_most 32 le (text_reach len))

times_reach : {A : Type 0} (one : Format A) (most count : ℕ) → Reaches one Any most → Reaches (times one count) Any (most * count)
times_reach one most zero first = record { reach = tt }
times_reach one most (suc count) first =
    at_most (most * suc count) (omega arith) (then_reach _ first (λ x _. then_reach _ (times_reach one most count first) (λ xs _. given (x ∷ xs))))

function_reach : (least most : ℕ) → Reaches (function least most) Any 8
function_reach least most =
    then_reach _ (number_reach w32 least most) (λ first _. then_reach _ (byte_reach 0 8) (λ params _. then_reach _ (number_reach w16 params (2 ^ 16 - 1)) (λ slots _. then_reach _ (byte_reach 0 3) (λ flags _. given (record { first = first; params = params; slots = slots; value = flags % 2 == 1; plain = flags / 2 == 1 })))))

functions_reach : (count least most lines : ℕ) → Reaches (functions count least most lines) Any (8 * count)
functions_reach zero least most lines = record { reach = tt }
functions_reach (suc count) least most lines =
    at_most (8 * suc count) (omega arith) (then_reach _ (function_reach least most) (λ f _. then_reach _ (functions_reach count (f.first + 1) (lines - 1) lines) (λ fs _. given (f ∷ fs))))

any_byte_reach : Reaches (byte 0 (2 ^ 8 - 1)) (λ n. n ≤ 2 ^ 8 - 1) 1
any_byte_reach = byte_reach 0 (2 ^ 8 - 1)

any_short_reach : Reaches (number w16 0 (2 ^ 16 - 1)) (λ n. n ≤ 2 ^ 16 - 1) 2
any_short_reach = number_reach w16 0 (2 ^ 16 - 1)

operands_reach : (shape : Shape) → Reaches (operands shape) Any 8
operands_reach S.Nothing = record { reach = tt }
operands_reach S.Integer = then_reach _ (number_reach w64 0 (2 ^ 64 - 1)) (λ n _. given (integer (cast_signed w64 n)))
operands_reach S.Byte = at_most 8 (omega arith) (then_reach _ any_byte_reach (λ n _. given (one_byte n)))
operands_reach S.TwoBytes = at_most 8 (omega arith) (then_reach _ any_byte_reach (λ m _. then_reach _ any_byte_reach (λ n _. given (two_bytes m n))))
operands_reach S.Short = at_most 8 (omega arith) (then_reach _ any_short_reach (λ n _. given (short n)))
operands_reach S.TwoShorts = at_most 8 (omega arith) (then_reach _ any_short_reach (λ m _. then_reach _ any_short_reach (λ n _. given (two_shorts m n))))
operands_reach S.ThreeShorts = at_most 8 (omega arith) (then_reach _ any_short_reach (λ m _. then_reach _ any_short_reach (λ n _. then_reach _ any_short_reach (λ k _. given (three_shorts m n k)))))
operands_reach S.Place = at_most 8 (omega arith) (then_reach _ (number_reach w32 0 (2 ^ 32 - 1)) (λ p _. given (place p)))

mark_reach : Reaches mark Any 3
mark_reach = then_reach _ any_byte_reach (λ height _. then_reach _ any_byte_reach (λ tries _. then_reach _ any_byte_reach (λ rec _. given (record { height = height; tries = tries; rec = rec }))))

line_reach : Reaches line Any 12
line_reach = then_reach _ (byte_reach 0 50) (λ op _. then_reach _ mark_reach (λ mark _. then_reach _ (operands_reach (shape_of op)) (λ operands _. given (record { op = op; mark = mark; operands = operands }))))

-- 14 bytes, 65535 names of 33, 256 functions of 8, 262144 instructions of 12
image_reach : Reaches image Any 8388608
image_reach =
    at_most 8388608 (omega arith) (then_reach _ magic_reach (λ magic _. then_reach _ (number_reach w16 1 256) (λ function_count few_functions. then_reach _ (number_reach w16 0 (function_count - 1)) (λ main _. then_reach _ any_short_reach (λ name_count few_names. then_reach _ (number_reach w32 function_count 262144) (λ line_count few_lines.
    then_reach _ (at_most (33 * 65535) (omega (arith, few_names)) (times_reach name 33 name_count name_reach)) (λ names _.
    then_reach _ (at_most (8 * 256) (omega (arith, few_functions)) (functions_reach function_count 0 0 line_count)) (λ functions _.
    then_reach _ (at_most (12 * 262144) (omega (arith, few_lines)) (times_reach line 12 line_count line_reach)) (λ lines _. given (record { main = main; names = names; functions = functions; lines = lines }))))))))))

reached : {A : Type 0} (P : A → Type 0) (format : Format A) (fields : List Bytes) (most : ℕ) → Reach P format most → StandRightly format fields → length (concat fields) ≤ most
reached P format [] most h right = omega arith
reached P (give x) (bytes ∷ fields) most h right = absurd right
reached P (field width test next) (bytes ∷ fields) most h right =
    let p = h bytes right.0 right.1 in
    let others = reached P (next bytes) fields p.0 p.2 right.2 in
    omega (arith, p.1, right.0, others, length-append bytes (concat fields))

-- a first wrong field begins among the first 8,388,609 bytes
pub fault_most : (bytes : Bytes) (p : ℕ) → HasFault image bytes p → p ≤ 8388608
fault_most bytes p h = omega (arith, h.at, reached Any image h.fields 8388608 image_reach.reach h.right)

-- and where the fields are all of the bytes, there are no more of these
pub whole_most : (bytes : Bytes) (x : ImageParts) → read image bytes ≡ Ok (x, []) → length bytes ≤ 8388608
whole_most bytes x e =
    let cut = (ends_cut image bytes [] x e).0 in
    let all = reached Any image cut.fields 8388608 image_reach.reach cut.right in
    omega (arith, all, ap length cut.whole, length-append (concat cut.fields) [])
