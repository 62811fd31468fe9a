-- Lists that keep the order of bits, level by level.
use Rattle.std.proofs.Common.{◌≡◌, ◌≢◌, ◌<◌, ◌≤◌, ◌+◌, ◌⊎◌, inl, inr, ℕ, List, length, refl, sym, ◌∙◌, ap, subst, arith}
use Rattle.bdd_bits.specs.Orders.{BitOrder, IsOrder, at, level_of, bit_of}
use Rattle.bdd_bits.specs.Keeping.{Keeps, KeepsBefore}
use Rattle.bdd_bits.proofs.OrderLemmas.{bit_back, level_below}

module _ (levels : ℕ) (o : BitOrder) (is : IsOrder levels o) (to : List ℕ) (level : ℕ) where
  -- a bit at a level before the next one stands before the level or is its bit
  at_or_before : (x : ℕ) → level_of o x < level + 1 → (level_of o x < level) ⊎ (x ≡ bit_of o level)
  at_or_before x below = by_cases (grind arith)
    where
      by_cases : (level_of o x < level) ⊎ (level_of o x ≡ level) → (level_of o x < level) ⊎ (x ≡ bit_of o level)
      by_cases (inl before) = inl before
      by_cases (inr here) = inr (sym (bit_back levels o is x) ∙ ap (bit_of o) here)

  -- the bit of a level that is not moved
  pub keeps_stayed : (least bit : ℕ) → bit ≡ bit_of o level → at to bit ≡ bit → KeepsBefore o to level least → KeepsBefore o to (level + 1) least
  keeps_stayed least bit is_bit stays keeps =
      record {
        before = λ x below moved. elim (at_or_before x below) [
          | inl earlier ↦ keeps.before x earlier moved
          | inr here ↦ absurd (moved (unmoved x here))
        ];
        rising = λ x y below moved_x moved_y less. elim (at_or_before y below) [
          | inl earlier ↦ keeps.rising x y earlier moved_x moved_y less
          | inr here ↦ absurd (moved_y (unmoved y here))
        ];
      }
    where
      unmoved : (x : ℕ) → x ≡ bit_of o level → at to x ≡ x
      unmoved x here = subst (λ (n : ℕ). at to n ≡ n) (is_bit ∙ sym here) stays

  -- one that is moved further than all before
  pub keeps_moved : (least bit next : ℕ) → bit ≡ bit_of o level → next ≡ level_of o (at to bit) → least ≤ next → KeepsBefore o to level least → KeepsBefore o to (level + 1) (next + 1)
  keeps_moved least bit next is_bit is_next later keeps =
      record {
        before = λ x below moved. elim (at_or_before x below) [
          | inl earlier ↦ (let far = keeps.before x earlier moved in omega (arith, far, later))
          | inr here ↦ (let same = moved_here x here in omega (arith, same))
        ];
        rising = λ x y below moved_x moved_y less. elim (at_or_before y below) [
          | inl earlier ↦ keeps.rising x y earlier moved_x moved_y less
          | inr here ↦ (let same = moved_here y here in let far = keeps.before x (earlier_than x y below less) moved_x in omega (arith, same, far, later))
        ];
      }
    where
      moved_here : (x : ℕ) → x ≡ bit_of o level → level_of o (at to x) ≡ next
      moved_here x here = ap (λ (n : ℕ). level_of o (at to n)) (here ∙ sym is_bit) ∙ sym is_next

      earlier_than : (x y : ℕ) → level_of o y < level + 1 → level_of o x < level_of o y → level_of o x < level
      earlier_than x y below less = omega (arith, below, less)

pub keeps_all : (levels : ℕ) (o : BitOrder) (to : List ℕ) (least : ℕ) → IsOrder levels o → KeepsBefore o to levels least → Keeps o to
keeps_all levels o to least is keeps x y below moved_x moved_y less =
    keeps.rising x y (level_below levels o is y (omega (arith, below, is.names_each))) moved_x moved_y less
