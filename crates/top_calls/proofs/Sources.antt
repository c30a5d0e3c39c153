-- What a told source gave is determined by what it held before and after.
use Rattle.std.proofs.Common.{◌≡◌, ℕ, ◌+◌, List, ◌++◌, sym, ◌∙◌, ap, subst, length, length-append, append-nil, arith}
use Rattle.std.specs.Prelude.{◌≤◌, ◌<◌, Option, Some, None}
use Rattle.std.specs.Io.KnownBytes.{Consumes, IsAtEnd}
use Rattle.top_calls.specs.Commands.{Gets, Has, IsGiven, Origin, Reads, TakesFew, TakesTooMany}
use Rattle.top_calls.specs.Streams.{Stream}

-- two pieces that lead from and to the same bytes are of one length
one-length : (old new : Option (List ℕ)) (left xs ys : List ℕ) → old ≡ Some left → Consumes old new xs → Consumes old new ys → length xs ≡ length ys
one-length old None left xs ys told first second = absurd (subst (λ o. Consumes o None xs) told first)
one-length old (Some rest) left xs ys told first second =
    let a : left ≡ xs ++ rest = subst (λ o. Consumes o (Some rest) xs) told first in
    let b : left ≡ ys ++ rest = subst (λ o. Consumes o (Some rest) ys) told second in
    let e : length xs + length rest ≡ length ys + length rest = sym (length-append xs rest) ∙ ap length (sym a ∙ b) ∙ length-append ys rest in
    omega (arith, e)

-- what was read to the end is all that was left
all-left : (old new : Option (List ℕ)) (left xs : List ℕ) → old ≡ Some left → Consumes old new xs → IsAtEnd new → xs ≡ left
all-left old None left xs told taken end = absurd (subst (λ o. Consumes o None xs) told taken)
all-left old (Some rest) left xs told taken end =
    let a : left ≡ xs ++ rest = subst (λ o. Consumes o (Some rest) xs) told taken in
    sym (a ∙ ap (λ r. xs ++ r) end ∙ append-nil xs)

-- no more than what was left is taken
taken-within : (old new : Option (List ℕ)) (left xs : List ℕ) → old ≡ Some left → Consumes old new xs → length xs ≤ length left
taken-within old None left xs told taken = absurd (subst (λ o. Consumes o None xs) told taken)
taken-within old (Some rest) left xs told taken =
    let a : left ≡ xs ++ rest = subst (λ o. Consumes o (Some rest) xs) told taken in
    let e : length left ≡ length xs + length rest = ap length a ∙ length-append xs rest in
    omega (arith, e)

-- who got the bytes has taken no more than the source may hold
pub got-few : {S : Type 0} (origin : Origin) (source : Stream S) (bytes : List ℕ) → Gets origin source bytes → TakesFew origin source
got-few (Reads most) source bytes got = (bytes, got.given, got.within)
got-few (Has own) source bytes got = got.0

-- and so not one byte more
pub few-not-many : {S : Type 0} (origin : Origin) (source : Stream S) (left : List ℕ) → source.told source.before ≡ Some left → TakesFew origin source → TakesTooMany origin source → ⊥
few-not-many (Reads most) source left told few many =
    let same = one-length (source.told source.before) (source.told source.after) left few.0 many.0 told few.1 many.1 in
    let within = few.2 in
    let count = many.2 in
    omega (arith, same, within, count)
few-not-many (Has own) source left told few many = many

-- the bytes that were got are those that the source is told to have held
pub given-are : {S : Type 0} (origin : Origin) (source : Stream S) (bytes text : List ℕ) → Gets origin source bytes → IsGiven origin source text → bytes ≡ text
given-are (Reads most) source bytes text got given = all-left (source.told source.before) (source.told source.after) text bytes given.0 got.given got.at_end
given-are (Has own) source bytes text got given = got.1 ∙ sym given

-- of a source that held no more than it may, not one byte more is taken
pub given-not-many : {S : Type 0} (origin : Origin) (source : Stream S) (text : List ℕ) → IsGiven origin source text → TakesTooMany origin source → ⊥
given-not-many (Reads most) source text given many =
    let within = taken-within (source.told source.before) (source.told source.after) text many.0 given.0 many.1 in
    let count = many.2 in
    let few = given.1 in
    omega (arith, count, within, few)
given-not-many (Has own) source text given many = many

-- a source that was read whole held no more than it may
pub not-longer : {S : Type 0} (origin : Origin) (source : Stream S) (bytes left : List ℕ) (most : ℕ) → Gets origin source bytes → origin ≡ Reads most → source.told source.before ≡ Some left → most < length left → ⊥
not-longer (Reads other) source bytes left most got is told more =
    let same : other ≡ most = cc in
    let all : length bytes ≡ length left = ap length (all-left (source.told source.before) (source.told source.after) left bytes told got.given got.at_end) in
    let few = got.within in
    omega (arith, same, all, few, more)
not-longer (Has own) source bytes left most got is told more = let clash : Has own ≡ Reads most = is in cc
