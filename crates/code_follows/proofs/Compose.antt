-- How the claims on parts are put together: one part after another, what stays beneath a part, and the surroundings of an expression.
use Rattle.std.proofs.Common.{◌≡◌, ℕ, ◌≤◌, List, [], ◌∷◌, ◌++◌, refl, sym, ◌∙◌, ap, subst, arith, append_assoc, append-nil}
use Rattle.rtio_types.specs.declared.request.Request.{Request}
use Rattle.rtio_types.specs.declared.request.Reply.{Reply}
use Rattle.timeline_sem.specs.Actions.{State, Completion, normal, early, Action, go_on as then_act, ◌>>=◌, ◌>>◌}
use Rattle.timeline_sem.specs.Laws.{final}
use Rattle.timeline_sem.proofs.Keeps.{IsKept, IsKeptByAsking, Keeps}
use Rattle.timeline_sem.proofs.KeepsWhole.{kept_final}
use Rattle.core_isa.specs.declared.code.Code.{Code}
use Rattle.core_isa.specs.Machine.{Next, goes}
use Rattle.core_isa.specs.WellAsked.{RepliesFit}
use Rattle.code_follows.specs.Stands.{Around, Local, Setting, Suits, machine_at, EndsWith}
use Rattle.code_follows.specs.Parts.{Moved, Follows}
use Rattle.code_follows.proofs.Leads.{with_on}
use Rattle.code_follows.proofs.Lists.{get_front}

pub moved_same : (s : State) → Moved s s
moved_same s = record { units = omega arith; asked = ([], sym (append-nil s.asked)) }

asked_then : (a b c : State) → Moved a b → Moved b c → (own : List Request) × (c.asked ≡ a.asked ++ own)
asked_then a b c r q =
    let ra = r.asked in
    let qa = q.asked in
    (ra.0 ++ qa.0, qa.1 ∙ ap (λ l. l ++ qa.0) ra.1 ∙ append_assoc a.asked ra.0 qa.0)

pub moved_then : {a b c : State} → Moved a b → Moved b c → Moved a c
moved_then {a} {b} {c} r q = record { units = omega (arith, r.units, q.units); asked = asked_then a b c r q }

-- the landed induction on what each part keeps gives this of every part
pub moved : IsKept Moved Moved
moved =
    record {
      same = moved_same;
      then' = moved_then;
      then_lacking = moved_then;
      lacking_then = moved_then;
      units = λ s n e. record { units = omega (arith, e); asked = ([], sym (append-nil s.asked)) };
      reply = λ s n q r rest u e. record { units = omega (arith, u); asked = (q ∷ [], refl) };
      unanswered = λ s n q u e. record { units = omega (arith, u); asked = (q ∷ [], refl) };
      cursor = λ s t. record { units = omega arith; asked = ([], sym (append-nil s.asked)) };
      values = λ s v. record { units = omega arith; asked = ([], sym (append-nil s.asked)) };
      collected = λ s c. record { units = omega arith; asked = ([], sym (append-nil s.asked)) };
    }

pub moved_by_asking : IsKeptByAsking Moved Moved
moved_by_asking =
    record {
      reply = λ s q r rest e. record { units = omega arith; asked = (q ∷ [], refl) };
      unanswered = λ s q e. record { units = omega arith; asked = (q ∷ [], refl) };
    }

pub moves_of : {A : Type 0} {action : Action A} → Keeps Moved Moved moved action → (s : State) → Moved s (final (action s))
moves_of {action} k s = kept_final Moved s (action s) (k.from s)

moves_go_on : {A B : Type 0} (s : State) (c : Completion A) (f : A → Action B) → Moved s (final c) → ((a : A) (t : State) → Moved t (final (f a t))) → Moved s (final (then_act c f))
moves_go_on s (normal a t) f r k = moved_then r (k a t)
moves_go_on s (early reason t) f r k = r

-- the requests of a list fit their replies where those of a longer one do
module _ (given : List Reply) where
  pub fits_first : (xs ys : List Request) → RepliesFit (xs ++ ys) given → RepliesFit xs given
  fits_first xs ys f = λ k q r e g. f k q r (get_front xs ys k q e) g

  pub fits_before : {s s' : State} → Moved s s' → RepliesFit s'.asked given → RepliesFit s.asked given
  fits_before {s} {s'} r f =
      let own = r.asked in
      fits_first s.asked own.0 (subst (λ l. RepliesFit l given) own.1 f)

  fits_go_on : {A B : Type 0} (c : Completion A) (f : A → Action B) → ((a : A) (t : State) → Moved t (final (f a t))) → RepliesFit (final (then_act c f)).asked given → RepliesFit (final c).asked given
  fits_go_on (normal a t) f k fit = fits_before (k a t) fit
  fits_go_on (early reason t) f k fit = fit

  module _ (code : Code) where
    -- what follows a normal end
    pub after : {A B : Type 0} {premise : Type 0} {most : ℕ} {setting : Setting} {mid past : ℕ} {good : A → Type 0} {results : A → Local} {good' : B → Type 0} {results' : B → Local} {f : A → Action B} → premise → ((a : A) → Follows given code (premise × good a) most setting mid past (results a) good' results' (f a)) → (around : Around) (from : Next) → Suits setting around → (c : Completion A) → (final c).units ≤ most → RepliesFit (final (then_act c f)).asked given → EndsWith given code setting from around mid good results c → EndsWith given code setting from around past good' results' (then_act c f)
    after {setting} {past} {good'} {results'} {f} p kf around from suits (normal a s) few fit e =
        let here = e.1 in
        with_on given code setting around past good' results' (f a s) here.leads ((kf a).follows around s here.free here.count (p, e.0) suits here.agrees here.slots few fit)
    after p kf around from suits (early reason s) few fit e = e

    -- one part and then another that takes its value
    pub follows_bind : {A B : Type 0} {premise : Type 0} {most : ℕ} {setting : Setting} {first mid past : ℕ} {inputs : Local} {good : A → Type 0} {results : A → Local} {good' : B → Type 0} {results' : B → Local} {m : Action A} {f : A → Action B} → Follows given code premise most setting first mid inputs good results m → ((a : A) → Follows given code (premise × good a) most setting mid past (results a) good' results' (f a)) → Follows given code premise most setting first past inputs good' results' (m >>= f)
    follows_bind {first} {inputs} {m} {f} fm kf =
        record {
          moves = λ s. moves_go_on s (m s) f (fm.moves s) (λ a. (kf a).moves);
          follows = λ around s free count p suits agrees slots few fit.
              after p kf around (goes (machine_at around s inputs free first count)) suits (m s) (omega (arith, few, (fm.moves s).units)) fit (fm.follows around s free count p suits agrees slots few (fits_go_on (m s) f (λ a. (kf a).moves) fit));
        }

    -- a part rests on as much as there is, or less
    pub follows_if : {A : Type 0} {premise premise' : Type 0} {most : ℕ} {setting : Setting} {first past : ℕ} {inputs : Local} {good : A → Type 0} {results : A → Local} {m : Action A} → (premise → premise') → Follows given code premise' most setting first past inputs good results m → Follows given code premise most setting first past inputs good results m
    follows_if so fm =
        record {
          moves = fm.moves;
          follows = λ around s free count p suits agrees slots few fit. fm.follows around s free count (so p) suits agrees slots few fit;
        }

    -- one part and then another that has no value of it
    pub follows_then : {A B : Type 0} {premise : Type 0} {most : ℕ} {setting : Setting} {first mid past : ℕ} {inputs : Local} {good : A → Type 0} {local : Local} {good' : B → Type 0} {results' : B → Local} {m : Action A} {n : Action B} → Follows given code premise most setting first mid inputs good (λ a. local) m → Follows given code premise most setting mid past local good' results' n → Follows given code premise most setting first past inputs good' results' (m >> n)
    follows_then {A} {premise} {most} {setting} {first} {mid} {past} {inputs} {good} {local} {good'} {results'} {m} {n} fm fn =
        let k : (a : A) → Follows given code (premise × good a) most setting mid past local good' results' n = λ a. follows_if (λ p. p.0) fn in
        record {
          moves = λ s. moves_go_on s (m s) (λ a. n) (fm.moves s) (λ a. fn.moves);
          follows = λ around s free count p suits agrees slots few fit.
              after p k around (goes (machine_at around s inputs free first count)) suits (m s) (omega (arith, few, (fm.moves s).units)) fit (fm.follows around s free count p suits agrees slots few (fits_go_on (m s) (λ a. n) (λ a. fn.moves) fit));
        }

    -- the same of a part that does the same from each state
    pub follows_same : {A : Type 0} {premise : Type 0} {most : ℕ} {setting : Setting} {first past : ℕ} {inputs : Local} {good : A → Type 0} {results : A → Local} {m n : Action A} → ((s : State) → m s ≡ n s) → Follows given code premise most setting first past inputs good results m → Follows given code premise most setting first past inputs good results n
    follows_same {setting} {first} {past} {inputs} {good} {results} {m} {n} same fm =
        record {
          moves = λ s. subst (λ c. Moved s (final c)) (same s) (fm.moves s);
          follows = λ around s free count p suits agrees slots few fit.
              subst (λ c. EndsWith given code setting (goes (machine_at around s inputs free first count)) around past good results c) (same s) (fm.follows around s free count p suits agrees slots few (subst (λ c. RepliesFit (final c).asked given) (sym (same s)) fit));
        }

    -- what the premise gives may be used in the claim itself
    pub by_fits : {A : Type 0} {premise known : Type 0} {most : ℕ} {setting : Setting} {first past : ℕ} {inputs : Local} {good : A → Type 0} {results : A → Local} {m : Action A} → ((s : State) → Moved s (final (m s))) → (premise → known) → (known → Follows given code premise most setting first past inputs good results m) → Follows given code premise most setting first past inputs good results m
    by_fits moves so fm =
        record {
          moves = moves;
          follows = λ around s free count p suits agrees slots few fit. (fm (so p)).follows around s free count p suits agrees slots few fit;
        }
