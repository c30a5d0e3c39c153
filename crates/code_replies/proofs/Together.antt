-- Steps of a run are put one behind another.
use Rattle.std.proofs.Common.{◌≡◌, ◌+◌, ℕ, zero, suc, refl, sym, ◌∙◌, ap, arith}
use Rattle.core_isa.specs.Machine.{Machine, Next, goes, ends, stuck}
use Rattle.core_isa.specs.Runs.{go_on, step, steps}
use Rattle.core_isa.specs.declared.code.Code.{Code}

-- going on twice is going on with what goes on
gone_on : (n : Next) (f g : Machine → Next) → go_on (go_on n f) g ≡ go_on n (λ m. go_on (f m) g)
gone_on (goes m) f g = refl
gone_on (ends reason m) f g = refl
gone_on stuck f g = refl

on_goes : (n : Next) (f g : Machine → Next) → ((m : Machine) → f m ≡ g m) → go_on n f ≡ go_on n g
on_goes (goes m) f g same = same m
on_goes (ends reason m) f g same = refl
on_goes stuck f g same = refl

-- so many steps are some of them and then the others
pub together : (code : Code) (first more : ℕ) (m : Machine) → steps code (first + more) m ≡ go_on (steps code first m) (steps code more)
together code zero more m =
    let none : zero + more ≡ more = omega arith in
    ap (λ (n : ℕ). steps code n m) none
together code (suc first) more m =
    let one : suc first + more ≡ suc (first + more) = omega arith in
    ap (λ (n : ℕ). steps code n m) one
    ∙ on_goes (step code m) (steps code (first + more)) (λ m'. go_on (steps code first m') (steps code more)) (together code first more)
    ∙ sym (gone_on (step code m) (steps code first) (steps code more))
