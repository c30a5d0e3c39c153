-- What a call at the end of a function appends, where the calls before it have appended the rest.
use Rattle.std.proofs.Common.{ℕ, ◌≡◌, List, Result, Ok, Err, OnOk, ◌++◌, ◌∙◌, codes, append_assoc}

-- the last call's text, under another name
pub on_ok_same : {T E : Type 0} (result : Result T E) (text named whole : List ℕ) → named ≡ whole → OnOk result (text ≡ named) → OnOk result (text ≡ whole)
on_ok_same (Ok x) text named whole same last = last ∙ same
on_ok_same (Err e) text named whole same last = last

-- a header that ends with a parenthesis, with its colon, line end and block
pub closed_header : (old spaces front body : List ℕ) → ((old ++ spaces) ++ (front ++ codes ")")) ++ codes ":\n" ++ body ≡ old ++ ((spaces ++ (front ++ codes "):") ++ codes "\n") ++ body)
closed_header old spaces front body = simp append_assoc
