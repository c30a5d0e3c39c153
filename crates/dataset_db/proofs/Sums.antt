-- A sum that wraps on the way.
use Rattle.std.proofs.Common.{◌≡◌, ℕ, ◌+◌, ◌<◌, ℤ, pos, List, drop, length, get_or, sym, ap, ◌∙◌, add-one}
use Rattle.std.specs.Prelude.{◌+ℤ◌}
use Rattle.std.specs.Int.{int_wrap, w64}
use Rattle.std.proofs.Math.IntN.{+ℤ_assoc}
use Rattle.std.proofs.Math.Seq.{drop-cons}
use Rattle.std.proofs.lemmas.Int.{int_wrap-add_left}
use Rattle.dataset_db.specs.Datasets.{total}

total-next : (items : List ℤ) (index : ℕ) → index < length items → total (drop index items) ≡ get_or items index (pos 0) +ℤ total (drop (index + 1) items)
total-next items index within = rw (add-one) (ap total (drop-cons items index (pos 0) within))

-- one item more is added, and wrapped
pub total-step : (sum next : ℤ) (items : List ℤ) (index : ℕ) (whole : ℤ) → index < length items → next ≡ int_wrap w64 (sum +ℤ get_or items index (pos 0)) → int_wrap w64 (sum +ℤ total (drop index items)) ≡ whole → int_wrap w64 (next +ℤ total (drop (index + 1) items)) ≡ whole
total-step sum next items index whole within added before =
    ap (λ n. int_wrap w64 (n +ℤ total (drop (index + 1) items))) added
    ∙ int_wrap-add_left w64 (sum +ℤ get_or items index (pos 0)) (total (drop (index + 1) items))
    ∙ ap (int_wrap w64) (+ℤ_assoc sum (get_or items index (pos 0)) (total (drop (index + 1) items)))
    ∙ ap (λ t. int_wrap w64 (sum +ℤ t)) (sym (total-next items index within))
    ∙ before
