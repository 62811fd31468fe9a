use Rattle.std.proofs.Common.{◌*ℤ◌, w64, ◌∙◌, rules}
use Rattle.std.proofs.lemmas.Int.{to_z-of_z}
use Rattle.spectra_judge.specs.Kinds.{Whole, capped, least_of, greatest_of}
use Rattle.spectra_judge.proofs.kind.span_of_products.Goals as goal

-- each end is the least or the greatest of the four products, and fits
pub returns : goal.returns
returns c =
    let p = to_z-of_z w64 c.args.p c.ranges.p in
    let q = to_z-of_z w64 c.args.q c.ranges.q in
    let r = to_z-of_z w64 c.args.r c.ranges.r in
    let s = to_z-of_z w64 c.args.s c.ranges.s in
    let pr = to_z-of_z w64 c.saturating_mul-pr.result (search rules) ∙ c.saturating_mul-pr.ensures ∙ (λ j. capped (p j *ℤ r j)) in
    let ps = to_z-of_z w64 c.saturating_mul-ps.result (search rules) ∙ c.saturating_mul-ps.ensures ∙ (λ j. capped (p j *ℤ s j)) in
    let qr = to_z-of_z w64 c.saturating_mul-qr.result (search rules) ∙ c.saturating_mul-qr.ensures ∙ (λ j. capped (q j *ℤ r j)) in
    let qs = to_z-of_z w64 c.saturating_mul-qs.result (search rules) ∙ c.saturating_mul-qs.ensures ∙ (λ j. capped (q j *ℤ s j)) in
    let low = to_z-of_z w64 c.least.result (search rules) ∙ c.least.ensures ∙ (λ j. least_of (pr j) (ps j) (qr j) (qs j)) in
    let high = to_z-of_z w64 c.greatest.result (search rules) ∙ c.greatest.ensures ∙ (λ j. greatest_of (pr j) (ps j) (qr j) (qs j)) in
    λ i. Whole (low i) (high i)
