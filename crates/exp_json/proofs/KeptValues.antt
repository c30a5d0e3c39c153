-- Numbers and texts that are read.
use Rattle.std.proofs.Common.{ℕ, ℤ, pos, negsuc, Bool, List}
use Rattle.std.specs.Prelude.{IsTrue, ◌&&◌, ◌-◌, ◌^◌, nat_le, nat_lt, int_le, unsigned_abs}
use Rattle.serde_json.specs.Data.{Data}
use Rattle.json_fields.specs.declared.fault.FieldKind.TheVariants as K
use Rattle.json_fields.specs.Readings.{good, demand, ◌>>◌}
use Rattle.json_fields.specs.Values.{count, index, integer, is_between, number, text, word}
use Rattle.exp_json.proofs.Kept.{Keeps, keeps-any, keeps-bind, keeps-demand}

-- a number between two that aren't negative
between-count : (low high : ℕ) (z : ℤ) → IsTrue (is_between (pos low) (pos high) z) → IsTrue (nat_le low (unsigned_abs z) && nat_le (unsigned_abs z) high)
between-count low high (pos n) test = test
between-count low high (negsuc n) test = absurd (cc)

pub keeps-count : (low high : ℕ) (d : Data) → Keeps (λ n. IsTrue (nat_le low n && nat_le n high)) (count low high d)
keeps-count low high d =
    keeps-bind (λ z. Unit {0}) (λ n. IsTrue (nat_le low n && nat_le n high)) (integer d) (λ z. demand (is_between (pos low) (pos high) z) K.Range >> good (unsigned_abs z)) (keeps-any (integer d))
    (λ z found. keeps-demand (λ n. IsTrue (nat_le low n && nat_le n high)) (is_between (pos low) (pos high) z) K.Range (good (unsigned_abs z)) (λ test. between-count low high z test))

pub keeps-number : (low high : ℤ) (d : Data) → Keeps (λ z. IsTrue (int_le low z && int_le z high)) (number low high d)
keeps-number low high d =
    keeps-bind (λ z. Unit {0}) (λ z. IsTrue (int_le low z && int_le z high)) (integer d) (λ z. demand (is_between low high z) K.Range >> good z) (keeps-any (integer d))
    (λ z found. keeps-demand (λ z. IsTrue (int_le low z && int_le z high)) (is_between low high z) K.Range (good z) (λ test. test))

pub keeps-index : (many : ℕ) (d : Data) → Keeps (λ n. IsTrue (nat_lt n many)) (index many d)
keeps-index many d =
    keeps-bind (λ n. Unit {0}) (λ n. IsTrue (nat_lt n many)) (count 0 (2 ^ 63 - 1) d) (λ n. demand (nat_lt n many) K.Index >> good n) (keeps-any (count 0 (2 ^ 63 - 1) d))
    (λ n found. keeps-demand (λ n. IsTrue (nat_lt n many)) (nat_lt n many) K.Index (good n) (λ test. test))

pub keeps-word : (is_formed : List ℕ → Bool) (d : Data) → Keeps (λ bytes. IsTrue (is_formed bytes)) (word is_formed d)
keeps-word is_formed d =
    keeps-bind (λ bytes. Unit {0}) (λ bytes. IsTrue (is_formed bytes)) (text d) (λ bytes. demand (is_formed bytes) K.Range >> good bytes) (keeps-any (text d))
    (λ bytes found. keeps-demand (λ bytes. IsTrue (is_formed bytes)) (is_formed bytes) K.Range (good bytes) (λ test. test))
