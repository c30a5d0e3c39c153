-- Lemmas on the words of a line.
use Rattle.std.proofs.Common.{◌≡◌, ℕ, zero, suc, ◌+◌, ◌-◌, ◌<◌, ◌≤◌, ◌∙◌, List, [], ◌∷◌, ◌++◌, ◌^◌, drop, take, length, Result, Ok, Err, ap, refl, sym, arith, append_assoc, length-drop}
use Rattle.std.proofs.lemmas.List.{take_rest}
use Rattle.std.proofs.lemmas.List.Sums.{fold-append}
use Rattle.kern_lexer.specs.declared.fault.LexEnd.{LexEnd}
use Rattle.kern_lexer.specs.declared.fault.LexEnd.TheVariants.{Fault, Memory}
use Rattle.kern_lexer.specs.Brackets.{open_after, open_behind}
use Rattle.kern_lexer.specs.Bytes.{Bytes}
use Rattle.kern_lexer.specs.Faults.{LexFault, ◌>>=◌, placed}
use Rattle.kern_lexer.specs.Fronts.{Fronted, front_of, bytes_of}
use Rattle.kern_lexer.specs.Steps.{EndsReading, step_from, words_after}
use Rattle.kern_lexer.specs.Words.{tokens_at, words_from}
use Rattle.kern_lexer.specs.declared.front.Front.{Front}
use Rattle.kern_lexer.specs.declared.layout.Bracket.{Bracket}
use Rattle.kern_lexer.specs.declared.token.Token.{Token}
use Rattle.kern_lexer.proofs.FrontLemmas.{IsWithin, front-is_within}

-- bytes that belong to what began before are passed over
pub words_from-taken : (line at taken : ℕ) (bytes : Bytes)
    → words_from line at taken bytes ≡ words_from line (at + taken) 0 (drop taken bytes)
words_from-taken line at zero bytes = let e : at ≡ at + 0 = omega arith in ap (λ n. words_from line n 0 bytes) e
words_from-taken line at (suc taken) [] = refl
words_from-taken line at (suc taken) (b ∷ rest) =
    let e : suc at + taken ≡ at + suc taken = omega arith in words_from-taken line (suc at) taken rest
    ∙ ap (λ n. words_from line n 0 (drop taken rest)) e

-- what stands behind a front
pub words_from-front : (line at : ℕ) (bytes : Bytes) (front : Front) → 0 < length bytes
    → front_of bytes ≡ Ok front
    → words_from line at 0 bytes ≡ words_from line (at + bytes_of front) 0 (drop (bytes_of front) bytes) >>= (λ others. Ok (tokens_at line at front ++ others))
words_from-front line at [] front some e = absurd (omega arith)
words_from-front line at (b ∷ rest) front some e =
    let within : IsWithin (length (b ∷ rest)) front = front-is_within (b ∷ rest) front some e in
    let place : suc at + (bytes_of front - 1) ≡ at + bytes_of front = omega (arith, within.some) in
    let count : bytes_of front ≡ suc (bytes_of front - 1) = omega (arith, within.some) in
    let behind : drop (bytes_of front - 1) rest ≡ drop (bytes_of front) (b ∷ rest) =
    sym (ap (λ n. drop n (b ∷ rest)) count) in
    let read : words_from line (suc at) (bytes_of front - 1) rest ≡ words_from line (at + bytes_of front) 0 (drop (bytes_of front) (b ∷ rest)) =
    words_from-taken line (suc at) (bytes_of front - 1) rest
    ∙ ap (λ n. words_from line n 0 (drop (bytes_of front - 1) rest)) place
    ∙ ap (words_from line (at + bytes_of front) 0) behind in
    rw e (ap (λ r. r >>= (λ others. Ok (tokens_at line at front ++ others))) read)

-- a wrong front is the fault
pub words_from-fault : (line at : ℕ) (bytes : Bytes) (fault : LexFault) → 0 < length bytes
    → placed at (front_of bytes) ≡ Err fault → words_from line at 0 bytes ≡ Err fault
words_from-fault line at [] fault some e = absurd (omega arith)
words_from-fault line at (b ∷ rest) fault some e = rw e refl

-- some tokens before the words
pub words_after-more : (tokens more : List Token) (brackets : List Bracket) (words : Result (List Token) LexFault)
    → words_after tokens brackets (words >>= (λ others. Ok (more ++ others))) ≡ words_after (tokens ++ more) (open_behind brackets more) words
words_after-more tokens more brackets (Err fault) = refl
words_after-more tokens more brackets (Ok others) =
    rw (append_assoc tokens more others) (rw (fold-append (λ b (t : Token). open_after b t.kind) brackets more others) refl)

-- behind a front the words are as before it
pub step-continues : (tokens : List Token) (brackets : List Bracket) (line at : ℕ) (rest : Bytes) (s : ℕ × (List Token × List Bracket))
    → 0 < length rest → step_from tokens brackets line at rest ≡ Ok s
    → words_after (s.1).0 (s.1).1 (words_from line (at + s.0) 0 (drop s.0 rest)) ≡ words_after tokens brackets (words_from line at 0 rest)
step-continues tokens brackets line at rest s some e = at_front (front_of rest) refl
  where
    at_front : (r : Fronted) → front_of rest ≡ r
        → words_after (s.1).0 (s.1).1 (words_from line (at + s.0) 0 (drop s.0 rest)) ≡ words_after tokens brackets (words_from line at 0 rest)
    at_front (Err kind) is = absurd (let wrong : step_from tokens brackets line at rest ≡ Err (record { at = at; kind = kind }) = rw is refl in cc)
    at_front (Ok front) is =
        let found : step_from tokens brackets line at rest ≡ Ok (bytes_of front, (tokens ++ tokens_at line at front, open_behind brackets (tokens_at line at front))) =
        rw is refl in
        let same : s ≡ (bytes_of front, (tokens ++ tokens_at line at front, open_behind brackets (tokens_at line at front))) =
        cc in
        rw same (rw (words_from-front line at rest front some is) (sym (words_after-more tokens (tokens_at line at front) brackets (words_from line (at + bytes_of front) 0 (drop (bytes_of front) rest)))))

-- a fault at the front is the fault of the words
pub step-faults : (tokens : List Token) (brackets : List Bracket) (line at : ℕ) (rest : Bytes) (fault : LexFault)
    → 0 < length rest → step_from tokens brackets line at rest ≡ Err fault
    → words_after tokens brackets (words_from line at 0 rest) ≡ Err fault
step-faults tokens brackets line at rest fault some e = at_front (front_of rest) refl
  where
    at_front : (r : Fronted) → front_of rest ≡ r
        → words_after tokens brackets (words_from line at 0 rest) ≡ Err fault
    at_front (Err kind) is =
        let wrong : placed {A = Front} at (front_of rest) ≡ Err (record { at = at; kind = kind }) = rw is refl in
        let stopped : step_from tokens brackets line at rest ≡ Err (record { at = at; kind = kind }) = rw is refl in
        let read : words_from line at 0 rest ≡ Err (record {
          at =
              at;
          kind = kind;
        }) = words_from-fault line at rest (record { at = at; kind = kind }) some wrong in
        let same : record { at = at; kind = kind } ≡ fault = cc in
        rw read (ap Err same)
    at_front (Ok front) is = absurd (let found : step_from tokens brackets line at rest ≡ Ok (bytes_of front, (tokens ++ tokens_at line at front, open_behind brackets (tokens_at line at front))) = rw is refl in cc)

-- an end of what is read stays one where it is the same that is read
pub end-same : {Y : Type 0} (end : LexEnd) {read again : Result Y LexFault} → read ≡ again → EndsReading end read
    → EndsReading end again
end-same (Fault at kind) same is = sym same ∙ is
end-same Memory same is = tt

-- an end at the front is the end of the words
pub step-ends : (tokens : List Token) (brackets : List Bracket) (line at : ℕ) (rest : Bytes) (end : LexEnd)
    → 0 < length rest → EndsReading end (step_from tokens brackets line at rest)
    → EndsReading end (words_after tokens brackets (words_from line at 0 rest))
step-ends tokens brackets line at rest (Fault place kind) some is = step-faults tokens brackets line at rest _ some is
step-ends tokens brackets line at rest Memory some is = tt

-- what is left behind a step ends where it ended before
pub end-stays : (at len : ℕ) (rest : Bytes) → len ≤ length rest → at + length rest < 2 ^ 32
    → (at + len) + length (take (length rest - len) (drop len rest)) < 2 ^ 32
end-stays at len rest within below = omega (arith, ap length (take_rest rest len), length-drop len rest)
