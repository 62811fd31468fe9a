use Rattle.std.proofs.Common.{◌≡◌, ℕ, suc, ◌+◌, ◌-◌, ◌^◌, ◌<◌, ◌≤◌, ◌⊎◌, nat_le, true, false, Some, length, slice_set, refl, ◌∙◌, ap, subst, arith}
use Rattle.std.proofs.lemmas.Bool.{le-leb}
use Rattle.std.proofs.lemmas.Bool.Decides.{nat_tests}
use Rattle.bdd_ops.specs.Paths.{fixed_at}
use Rattle.bdd_search.specs.Parts.{IsFixedTo}
use Rattle.bdd_search.proofs.FixLemmas.{fixes_high, fixes_low}
use Rattle.bdd_search.proofs.fixing.+fix_number.Goals as goal
use Rattle.bdd_search.proofs.fixing.+fix_number.Goals.{then-high, else-high}

pub returns-clause-fixes : goal.returns-clause-fixes
returns-clause-fixes t c =
    let level = c.args.level in
    let n = c.args.n in
    let w = c.args.width - 1 in
    let some : 0 < c.args.width = omega (arith, c.if-width-eq0.false) in
    let wide : suc w ≡ c.args.width = omega (arith, some) in
    let next : level + 1 ≡ suc level = omega arith in
    let high = nat_le c.power-half.result n in
    let old = c.args.fixed.now in
    let new = c.fix_number.new.fixed in
    let mid = slice_set old level (Some high) in
    let small : level < length old = omega (arith, some, c.requires.within) in
    let fixes = subst (λ (l : ℕ). IsFixedTo new l w c.if-high.rest) next c.fix_number.ensures.fixes in
    let others = subst (λ (l : ℕ). (m : ℕ) → (m < l) ⊎ (l + w ≤ m) → fixed_at new m ≡ fixed_at mid m) next c.fix_number.ensures.others in
    elim c.if-high.branch [
      | then-high b ↦
          let on : high ≡ true = le-leb c.power-half.result n b.if-high.true in
          let more : 2 ^ w ≤ n = subst (λ (h : ℕ). h ≤ n) c.power-half.ensures b.if-high.true in
          let rest : c.if-high.rest ≡ n - 2 ^ w = b.rest-is ∙ ap (λ (h : ℕ). n - h) c.power-half.ensures in
          subst (λ (k : ℕ). IsFixedTo new level k n) wide (fixes_high old mid new level w n c.if-high.rest high small refl others on more rest fixes)
      | else-high b ↦
          let less = b.if-high.false in
          let off : high ≡ false = grind (arith, nat_tests) in
          let less' : n < 2 ^ w = let e = c.power-half.ensures in omega (arith, less, e) in
          subst (λ (k : ℕ). IsFixedTo new level k n) wide (fixes_low old mid new level w n c.if-high.rest high small refl others off less' b.rest-is fixes)
    ]
