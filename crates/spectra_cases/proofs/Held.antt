-- Numbers that are held at a greatest one: sums, products and greater ones of them are those of the numbers.
use Rattle.std.proofs.Common.{◌≡◌, ℕ, zero, suc, ◌+◌, ◌*◌, ◌<◌, min, max, inl, inr, sym, ap, ◌∙◌, arith}
use Rattle.std.proofs.lemmas.Bool.{cases_lt}
use Rattle.std.proofs.Math.Nat.{min-eq_left, add-mul, mul_assoc, mul_comm, suc-mul}

module _ (m : ℕ) where
  pub held_add : (a b : ℕ) → min (min a m + min b m) m ≡ min (a + b) m
  held_add a b = omega arith

  pub held_left : (a b : ℕ) → min (min a m + b) m ≡ min (a + b) m
  held_left a b = omega arith

  pub held_max : (a b : ℕ) → min (max a b) m ≡ max (min a m) (min b m)
  held_max a b = omega arith

  pub held_one : (n : ℕ) → min (1 + n) m ≡ min (min n m + 1) m
  held_one n = omega arith

  past-held : (n x : ℕ) → m < x → min (n * m) m ≡ min (n * x) m
  past-held zero x more = omega arith
  past-held (suc n) x more = omega (arith, suc-mul n m, suc-mul n x)

  pub held_mul : (n x : ℕ) → min (n * min x m) m ≡ min (n * x) m
  held_mul n x = elim (cases_lt m x) [
    | inl more ↦ let all : min x m ≡ m = omega arith in ap (λ y. min (n * y) m) all ∙ past-held n x more
    | inr less ↦ ap (λ y. min (n * y) m) (min-eq_left less)
  ]

  pub held_mul_left : (x n : ℕ) → min (min x m * n) m ≡ min (x * n) m
  held_mul_left x n = ap (λ y. min y m) (mul_comm (min x m) n) ∙ held_mul n x ∙ ap (λ y. min y m) (mul_comm n x)

  -- ---- cases around cases

  regroup : (n tb mb ta ma : ℕ) → (n * tb + mb) * ta + ma ≡ n * (ta * tb) + (ta * mb + ma)
  regroup n tb mb ta ma =
      let split = add-mul (n * tb) mb ta in
      let first : n * tb * ta ≡ n * (ta * tb) = mul_assoc n tb ta ∙ ap (λ y. n * y) (mul_comm tb ta) in
      let second = mul_comm mb ta in omega arith

  pub nodes_around : (n tb mb ta ma : ℕ) → min (min (min (min (n * tb) m + mb) m * ta) m + ma) m ≡ min (min (n * min (ta * tb) m) m + min (min (ta * mb) m + ma) m) m
  nodes_around n tb mb ta ma =
      ap (λ y. min (min (y * ta) m + ma) m) (held_left (n * tb) mb)
      ∙ ap (λ y. min (y + ma) m) (held_mul_left (n * tb + mb) ta)
      ∙ held_left ((n * tb + mb) * ta) ma
      ∙ ap (λ y. min y m) (regroup n tb mb ta ma)
      ∙ sym (held_add (n * (ta * tb)) (ta * mb + ma))
      ∙ (λ i. min (sym (held_mul n (ta * tb)) i + sym (held_left (ta * mb) ma) i) m)

  held_max_left : (x y a : ℕ) → min (max (min x m) y + a) m ≡ max (min (x + a) m) (min (y + a) m)
  held_max_left x y a = omega arith

  pub levels_around : (l ab lb aa la : ℕ) → max (min (max (min (l + ab) m) lb + aa) m) la ≡ max (min (l + min (aa + ab) m) m) (max la (min (aa + lb) m))
  levels_around l ab lb aa la =
      let first = held_max_left (l + ab) lb aa in
      let second : min (l + ab + aa) m ≡ min (l + min (aa + ab) m) m = omega arith in
      let third : min (lb + aa) m ≡ min (aa + lb) m = omega arith in
      (λ i. max (first i) la)
      ∙ (λ i. max (max (second i) (third i)) la)
      ∙ turned (min (l + min (aa + ab) m) m) (min (aa + lb) m) la
    where
      turned : (x y z : ℕ) → max (max x y) z ≡ max x (max z y)
      turned x y z = omega arith

  -- ---- several cases

  pub node_step : (E W N Y e r : ℕ) → min E m ≡ e → min W m ≡ r → min N m ≡ min Y m → min (1 + (E + (W + 0)) + N) m ≡ min (Y + (e + 1 + r)) m
  node_step E W N Y e r is_e is_r rest = omega arith

  pub node_sum : (N A B H : ℕ) → min N m ≡ min (A + B) m → H ≡ min A m → min (1 + N) m ≡ min (min B m + min (H + 1) m) m
  node_sum N A B H all first = omega arith

  one_level : (E W e r : ℕ) → min E m ≡ e → min W m ≡ r → min (1 + max E (max W 0)) m ≡ min (1 + max e r) m
  one_level E W e r is_e is_r =
      let greater : min (max E (max W 0)) m ≡ max (min E m) (min W m) = omega arith in
      let same : max (min E m) (min W m) ≡ max e r = (λ i. max (is_e i) (is_r i)) in omega arith

  pub level_last : (E W e r : ℕ) → min E m ≡ e → min W m ≡ r → min (max (1 + max E (max W 0)) 0) m ≡ min (1 + max e r) m
  level_last E W e r is_e is_r = let here = one_level E W e r is_e is_r in omega arith

  pub level_step : (E W N e r : ℕ) → min E m ≡ e → min W m ≡ r → min N m ≡ min (1 + max e r) m → min (max (1 + max E (max W 0)) N) m ≡ min (1 + max e r) m
  level_step E W N e r is_e is_r rest =
      let here = one_level E W e r is_e is_r in
      held_max (1 + max E (max W 0)) N ∙ (λ i. max (here i) (rest i)) ∙ twice (min (1 + max e r) m)
    where
      twice : (x : ℕ) → max x x ≡ x
      twice x = omega arith

  pub level_sum : (L e r : ℕ) → min L m ≡ min (1 + max e r) m → min (1 + L) m ≡ max (min (r + 2) m) (min (e + 2) m)
  level_sum L e r all = omega arith
