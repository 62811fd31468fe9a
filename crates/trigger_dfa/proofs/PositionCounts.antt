-- How many positions an expression has.
use Rattle.std.proofs.Common.{◌≡◌, ℕ, ◌+◌, ◌-◌, ◌*◌, ◌≤◌, ◌<◌, max, min, inl, inr, List, [], ◌∷◌, ◌++◌, Some, None, Option, length, map, take, refl, sym, ◌∙◌, ap, arith, length-append, add-mul, mul-le-mul_right, mul_comm, mul_assoc}
use Rattle.std.proofs.Math.Nat.{min_comm}
use Rattle.std.proofs.lemmas.Bool.{cases_lt, cases_eq}
use Rattle.std.proofs.Common.{get_or}
use Rattle.std.proofs.lemmas.List.{take_more, map-append}
use Rattle.spec_model.specs.declared.expr.Regex.{Regex}
use Rattle.spec_model.specs.Views.{regular}
use Rattle.spec_model.specs.Syntax.{Regular, Atom, Sequence, Choice, Repetition, Regulars, regulars}
use Rattle.spec_model.specs.TriggerStates.{Written, Empty, Either, Star, copies, repeated, written, written_in_turn, written_besides, brackets}
use Rattle.trigger_dfa.specs.Sides.{copies_in, size_in, size_in_each}
use Rattle.trigger_dfa.proofs.LaidParts.{length-copies, length-optional}

split_max : (low high : ℕ) → low + (high - low) ≡ max low high
split_max low high = elim (cases_lt high low) [ inl x ↦ grind arith | inr x ↦ grind arith ]

pub length-repeated : (a : Written) (low : ℕ) (high : Option ℕ) → length (brackets (repeated a low high)) ≡ copies_in low high * length (brackets a)
length-repeated a low None =
    length-copies low a (Star a) ∙ (let e : low * length (brackets a) + length (brackets a) ≡ (low + 1) * length (brackets a) = omega arith in e)
length-repeated a low (Some high) =
    length-copies low a (copies (high - low) (Either a Empty) Empty)
    ∙ ap (λ (m : ℕ). low * length (brackets a) + m) (length-optional (high - low) a)
    ∙ sym (add-mul low (high - low) (length (brackets a)))
    ∙ ap (λ (m : ℕ). m * length (brackets a)) (split_max low high)

mutual
  pub size-written : (a : Regular) → size_in a ≡ length (brackets (written a))
  size-written (Atom e) = refl
  size-written (Sequence rs) = size-in_turn rs
  size-written (Choice rs) = size-besides rs
  size-written (Repetition a low high) = ap (λ (m : ℕ). copies_in low high * m) (size-written a) ∙ sym (length-repeated (written a) low high)

  pub size-in_turn : (rs : Regulars) → size_in_each rs ≡ length (brackets (written_in_turn rs))
  size-in_turn Regulars.none = refl
  size-in_turn (Regulars.one_more a rs) =
      let x = size-written a in let y = size-in_turn rs in let e = length-append (brackets (written a)) (brackets (written_in_turn rs)) in omega arith

  pub size-besides : (rs : Regulars) → size_in_each rs ≡ length (brackets (written_besides rs))
  size-besides Regulars.none = refl
  size-besides (Regulars.one_more a Regulars.none) = let x = size-written a in omega arith
  size-besides (Regulars.one_more a (Regulars.one_more b rs)) =
      let x = size-written a in let y = size-besides (Regulars.one_more b rs) in
      let e = length-append (brackets (written a)) (brackets (written_besides (Regulars.one_more b rs))) in omega arith

-- ---- what is capped

pub capped_product : (k c : ℕ) → min (k * min 65 c) 65 ≡ min 65 (k * c)
capped_product k c =
    elim (cases_lt 65 c) [
      | inl more ↦ elim (cases_eq k 0) [
        | inl none ↦ ap (λ (m : ℕ). min (m * min 65 c) 65) none ∙ (let e : min (0 * min 65 c) 65 ≡ min 65 (0 * c) = grind arith in e) ∙ ap (λ (m : ℕ). min 65 (m * c)) (sym none)
        | inr some ↦
            let one : 1 ≤ k = grind arith in
            let big : 65 ≤ k * c = omega (arith, mul-le-mul_right c one) in
            let cap : min 65 c ≡ 65 = grind arith in
            let sixty : 65 ≤ k * 65 = omega arith in
            ap (λ (m : ℕ). min (k * m) 65) cap ∙ (let e : min (k * 65) 65 ≡ min 65 (k * c) = grind arith in e)
      ]
      | inr less ↦ let cap : min 65 c ≡ c = grind arith in ap (λ (m : ℕ). min (k * m) 65) cap ∙ (let e : min (k * c) 65 ≡ min 65 (k * c) = grind arith in e)
    ]

-- a repeat more around the piece
pub capped_more : (copies k s : ℕ) → min 65 (min (copies * k) 65 * s) ≡ min 65 (copies * (k * s))
capped_more copies k s =
    ap (λ (m : ℕ). min 65 (m * s)) (min_comm (copies * k) 65)
    ∙ ap (λ (m : ℕ). min 65 m) (mul_comm (min 65 (copies * k)) s)
    ∙ min_comm 65 (s * min 65 (copies * k))
    ∙ capped_product s (copies * k)
    ∙ ap (λ (m : ℕ). min 65 m) (mul_comm s (copies * k) ∙ mul_assoc copies k s)

pub size-append : (xs ys : List Regular) → size_in_each (regulars (xs ++ ys)) ≡ size_in_each (regulars xs) + size_in_each (regulars ys)
size-append [] ys = let e : size_in_each (regulars ys) ≡ 0 + size_in_each (regulars ys) = omega arith in e
size-append (x ∷ xs) ys = let more = size-append xs ys in omega arith

module _ (rs : List Regex) (i : ℕ) (r : Regex) (inside : i < length rs) (here : r ≡ get_or rs i r) where
  pub size_more : size_in_each (regulars (map regular (take (i + 1) rs))) ≡ size_in_each (regulars (map regular (take i rs))) + size_in (regular r)
  size_more =
      ap (λ (xs : List Regex). size_in_each (regulars (map regular xs))) (take_more rs i r inside ∙ ap (λ (x : Regex). take i rs ++ x ∷ []) (sym here))
      ∙ ap (λ (xs : List Regular). size_in_each (regulars xs)) (map-append regular (take i rs) (r ∷ []))
      ∙ size-append (map regular (take i rs)) (regular r ∷ [])
      ∙ (let e : size_in_each (regulars (map regular (take i rs))) + (size_in (regular r) + 0) ≡ size_in_each (regulars (map regular (take i rs))) + size_in (regular r) = omega arith in e)

pub capped_sum : (count x p s all : ℕ) → count ≡ min 65 x → p ≡ min 65 s → all ≡ x + s → min (count + p) 65 ≡ min 65 all
capped_sum count x p s all a b c = grind arith
