-- Reading from left to right gives what the fields of the table give.
use Rattle.std.proofs.Common.{◌≡◌, ℕ, zero, suc, ◌+◌, ◌-◌, ◌^◌, Bool, true, false, cond, [], ◌∷◌, take, drop, Ok, Err, refl, ap, ◌∙◌}
use Rattle.std.specs.Int.{w16, w32, w64}
use Rattle.std.specs.List.{list_all}
use Rattle.core_image.specs.Fields.{Bytes, Format, give, field, byte, number, ◌>>=◌ as ◌>>>◌}
use Rattle.core_image.specs.Reading.{Read, ◌>>=◌, read, byte_at, number_at, bytes_at, times_at, magic_at, name_at, function_at, functions_at, operands_at, mark_at, line_at, image_at}
use Rattle.core_image.specs.Table.{times, magic, text, name, function, functions, operands, mark, line, image}
use Rattle.core_image.specs.Operands.{shape_of}
use Rattle.core_image.specs.declared.operands.Shape.{Shape}
use Rattle.core_image.specs.declared.operands.Shape.TheVariants as S
use Rattle.rtio_types.specs.Names.{is_word_byte}

cond-bind : {A B : Type 0} (b : Bool) (found : Read A) (bytes : Bytes) (f : A × Bytes → Read B) → cond b (found >>= f) (Err bytes) ≡ (cond b found (Err bytes) >>= f)
cond-bind true found bytes f = refl
cond-bind false found bytes f = refl

-- fields and then others are read one after another
pub read-bind : {A B : Type 0} (format : Format A) (next : A → Format B) (bytes : Bytes) → read (format >>> next) bytes ≡ (read format bytes >>= λ x. read (next x.0) x.1)
read-bind (give x) next bytes = refl
read-bind (field width test behind) next bytes =
    rw (read-bind (behind (take width bytes)) next (drop width bytes)) (cond-bind _ (read (behind (take width bytes)) (drop width bytes)) bytes (λ x. read (next x.0) x.1))

bind_same : {A B : Type 0} (found : Read A) (f g : A × Bytes → Read B) → ((x : A) (rest : Bytes) → f (x, rest) ≡ g (x, rest)) → (found >>= f) ≡ (found >>= g)
bind_same (Ok x) f g same = same x.0 x.1
bind_same (Err rest) f g same = refl

-- some fields are read so
pub record Describes {A : Type 0} (format : Format A) (at : Bytes → Read A) : Type 0 where
  pub same : (bytes : Bytes) → read format bytes ≡ at bytes

-- and so are others behind them
pub then_read : {A B : Type 0} {format : Format A} {at : Bytes → Read A} (next : A → Format B) (next_at : A → Bytes → Read B) → Describes format at → ((x : A) → Describes (next x) (next_at x)) → Describes (format >>> next) (λ bytes. at bytes >>= λ x. next_at x.0 x.1)
then_read {format = format} {at = at} next next_at first others = record {
  same = λ bytes. read-bind format next bytes ∙ ap (λ (found : Read _). found >>= λ x. read (next x.0) x.1) (first.same bytes) ∙ bind_same (at bytes) _ _ (λ x rest. (others x).same rest);
}

pub given : {A : Type 0} (x : A) → Describes (give x) (λ bytes. Ok (x, bytes))
given x = record { same = λ bytes. refl }

byte-is : (least most : ℕ) (bytes : Bytes) → read (byte least most) bytes ≡ byte_at least most bytes
unfolding byte_at
byte-is least most [] = refl
byte-is least most (b ∷ bytes) = refl

pub byte_is : (least most : ℕ) → Describes (byte least most) (byte_at least most)
byte_is least most = record { same = byte-is least most }

short-is : (least most : ℕ) (bytes : Bytes) → read (number w16 least most) bytes ≡ number_at w16 least most bytes
unfolding number_at
short-is least most [] = refl
short-is least most (a ∷ []) = refl
short-is least most (a ∷ b ∷ bytes) = refl

pub short_is : (least most : ℕ) → Describes (number w16 least most) (number_at w16 least most)
short_is least most = record { same = short-is least most }

long-is : (least most : ℕ) (bytes : Bytes) → read (number w32 least most) bytes ≡ number_at w32 least most bytes
unfolding number_at
long-is least most [] = refl
long-is least most (a ∷ []) = refl
long-is least most (a ∷ b ∷ []) = refl
long-is least most (a ∷ b ∷ c ∷ []) = refl
long-is least most (a ∷ b ∷ c ∷ d ∷ bytes) = refl

pub long_is : (least most : ℕ) → Describes (number w32 least most) (number_at w32 least most)
long_is least most = record { same = long-is least most }

double-is : (least most : ℕ) (bytes : Bytes) → read (number w64 least most) bytes ≡ number_at w64 least most bytes
unfolding number_at
double-is least most [] = refl
double-is least most (a ∷ []) = refl
double-is least most (a ∷ b ∷ []) = refl
double-is least most (a ∷ b ∷ c ∷ []) = refl
double-is least most (a ∷ b ∷ c ∷ d ∷ []) = refl
double-is least most (a ∷ b ∷ c ∷ d ∷ e ∷ []) = refl
double-is least most (a ∷ b ∷ c ∷ d ∷ e ∷ f ∷ []) = refl
double-is least most (a ∷ b ∷ c ∷ d ∷ e ∷ f ∷ g ∷ []) = refl
double-is least most (a ∷ b ∷ c ∷ d ∷ e ∷ f ∷ g ∷ h ∷ bytes) = refl

pub double_is : (least most : ℕ) → Describes (number w64 least most) (number_at w64 least most)
double_is least most = record { same = double-is least most }

pub magic_is : Describes magic magic_at
unfolding magic_at bytes_at
magic_is = record { same = λ bytes. refl }

pub text_is : (len : ℕ) → Describes (text len) (bytes_at len (list_all is_word_byte))
unfolding bytes_at
text_is len = record { same = λ bytes. refl }

pub name_is : Describes name name_at
unfolding name_at
name_is = then_read _ _ (byte_is 1 32) text_is

pub times_is : {A : Type 0} (one : Format A) (one_at : Bytes → Read A) (count : ℕ) → Describes one one_at → Describes (times one count) (times_at one_at count)
unfolding times_at
times_is one one_at zero first = given []
times_is one one_at (suc count) first = then_read _ _ first (λ x. then_read _ _ (times_is one one_at count first) (λ xs. given (x ∷ xs)))

pub function_is : (least most : ℕ) → Describes (function least most) (function_at least most)
unfolding function_at
function_is least most =
    then_read _ _ (long_is least most) (λ first. then_read _ _ (byte_is 0 8) (λ params. then_read _ _ (short_is params (2 ^ 16 - 1)) (λ slots. then_read _ _ (byte_is 0 3) (λ flags. given _))))

pub functions_is : (count least most lines : ℕ) → Describes (functions count least most lines) (functions_at count least most lines)
unfolding functions_at
functions_is zero least most lines = given []
functions_is (suc count) least most lines = then_read _ _ (function_is least most) (λ f. then_read _ _ (functions_is count (f.first + 1) (lines - 1) lines) (λ fs. given (f ∷ fs)))

pub operands_is : (shape : Shape) → Describes (operands shape) (operands_at shape)
unfolding operands_at
operands_is S.Nothing = given _
operands_is S.Integer = then_read _ _ (double_is 0 (2 ^ 64 - 1)) (λ n. given _)
operands_is S.Byte = then_read _ _ (byte_is 0 (2 ^ 8 - 1)) (λ n. given _)
operands_is S.TwoBytes = then_read _ _ (byte_is 0 (2 ^ 8 - 1)) (λ m. then_read _ _ (byte_is 0 (2 ^ 8 - 1)) (λ n. given _))
operands_is S.Short = then_read _ _ (short_is 0 (2 ^ 16 - 1)) (λ n. given _)
operands_is S.TwoShorts = then_read _ _ (short_is 0 (2 ^ 16 - 1)) (λ m. then_read _ _ (short_is 0 (2 ^ 16 - 1)) (λ n. given _))
operands_is S.ThreeShorts = then_read _ _ (short_is 0 (2 ^ 16 - 1)) (λ m. then_read _ _ (short_is 0 (2 ^ 16 - 1)) (λ n. then_read _ _ (short_is 0 (2 ^ 16 - 1)) (λ k. given _)))
operands_is S.Place = then_read _ _ (long_is 0 (2 ^ 32 - 1)) (λ p. given _)

pub mark_is : Describes mark mark_at
unfolding mark_at
mark_is = then_read _ _ (byte_is 0 (2 ^ 8 - 1)) (λ height. then_read _ _ (byte_is 0 (2 ^ 8 - 1)) (λ tries. then_read _ _ (byte_is 0 (2 ^ 8 - 1)) (λ rec. given _)))

pub line_is : Describes line line_at
unfolding line_at
line_is = then_read _ _ (byte_is 0 50) (λ op. then_read _ _ mark_is (λ mark. then_read _ _ (operands_is (shape_of op)) (λ operands. given _)))

pub image_is : Describes image image_at
unfolding image_at
image_is =
    then_read _ _ magic_is (λ magic. then_read _ _ (short_is 1 256) (λ function_count. then_read _ _ (short_is 0 (function_count - 1)) (λ main. then_read _ _ (short_is 0 (2 ^ 16 - 1)) (λ name_count. then_read _ _ (long_is function_count 262144) (λ line_count. then_read _ _ (times_is name name_at name_count name_is) (λ names. then_read _ _ (functions_is function_count 0 0 line_count) (λ functions. then_read _ _ (times_is line line_at line_count line_is) (λ lines. given _))))))))
