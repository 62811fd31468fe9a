-- What digits write, where the number so far is held within 64 bits.
use Rattle.std.proofs.Common.{◌≡◌, ℕ, ◌+◌, ◌-◌, ◌*◌, ◌≤◌, min, ◌<◌, inl, inr, List, [], ◌∷◌, ap, arith}
use Rattle.std.proofs.lemmas.Bool.{cases_lt}
use Rattle.spectra_resolved.specs.Numbers.{written_after}

grows : (n : ℕ) (cs : List ℕ) → n ≤ written_after n cs
grows n [] = omega arith
grows n (c ∷ cs) = let rest = grows (n * 10 + (c - 48)) cs in omega arith

held_back : (a b : ℕ) (cs : List ℕ) → 1_000_000_000_001 ≤ a → 1_000_000_000_001 ≤ b
    → min (written_after a cs) 1_000_000_000_001 ≡ min (written_after b cs) 1_000_000_000_001
held_back a b cs big large = let p = grows a cs in let q = grows b cs in omega arith

kept : (n c : ℕ) (cs : List ℕ) → n * 10 + (c - 48) < 18_446_744_073_709_551_616
    → min (written_after (min (min (n * 10) 18_446_744_073_709_551_615 + (c - 48)) 18_446_744_073_709_551_615) cs) 1_000_000_000_001
    ≡ min (written_after (n * 10 + (c - 48)) cs) 1_000_000_000_001
kept n c cs small =
    let same : min (min (n * 10) 18_446_744_073_709_551_615 + (c - 48)) 18_446_744_073_709_551_615 ≡ n * 10 + (c - 48) = omega arith in
    ap (λ m. min (written_after m cs) 1_000_000_000_001) same

-- one more digit, with each step held within 64 bits
pub written : (n c : ℕ) (cs : List ℕ)
    → min (written_after (min (min (n * 10) 18_446_744_073_709_551_615 + (c - 48)) 18_446_744_073_709_551_615) cs) 1_000_000_000_001
    ≡ min (written_after (n * 10 + (c - 48)) cs) 1_000_000_000_001
written n c cs = elim (cases_lt (n * 10 + (c - 48)) 18_446_744_073_709_551_616) [
  | inl small ↦ kept n c cs small
  | inr large ↦ held_back _ _ cs (omega arith) (omega arith)
]
