-- Words as sets of positions.
use Rattle.std.proofs.Common.{◌≡◌, ℕ, ◌^◌, ◌<◌, ◌≤◌, ◌==◌, ◌⊎◌, inl, inr, Bool, true, false, cond, ◌&&◌, ◌||◌, min, max, bit_and, bit_or, List, [], ◌++◌, refl, sym, ◌∙◌, ap, subst, arith}
use Rattle.std.proofs.lemmas.Bool.{false≢true, eq-eqb, ne_eqb, cases_eq}
use Rattle.std.proofs.lemmas.List.Folds.{list_any-append}
use Rattle.std.proofs.lemmas.Nat.Bits.{bit_at_or, bit_at_and, bit_at-lt, bit_at-zero, bit_at-pow_same, bit_at-pow_other, bit_at_above, same_from_bits}
use Rattle.std.specs.Int.{bit_at}
use Rattle.spec_model.specs.TriggerStates.{has}
use Rattle.trigger_dfa.specs.Words.{in_word}

bit_cases : (n i : ℕ) → (bit_at n i ≡ 0) ⊎ (bit_at n i ≡ 1)
bit_cases n i = let l = bit_at-lt n i in elim (cases_eq (bit_at n i) 0) [ inl x ↦ inl x | inr x ↦ inr (grind arith) ]

max_bits : (a b : ℕ) → (a ≡ 0) ⊎ (a ≡ 1) → (b ≡ 0) ⊎ (b ≡ 1) → (max a b == 1) ≡ ((a == 1) || (b == 1))
max_bits a b (inl x) (inl y) = rw (x, y) refl
max_bits a b (inl x) (inr y) = rw (x, y) refl
max_bits a b (inr x) (inl y) = rw (x, y) refl
max_bits a b (inr x) (inr y) = rw (x, y) refl

min_bits : (a b : ℕ) → (a ≡ 0) ⊎ (a ≡ 1) → (b ≡ 0) ⊎ (b ≡ 1) → (min a b == 1) ≡ ((a == 1) && (b == 1))
min_bits a b (inl x) (inl y) = rw (x, y) refl
min_bits a b (inl x) (inr y) = rw (x, y) refl
min_bits a b (inr x) (inl y) = rw (x, y) refl
min_bits a b (inr x) (inr y) = rw (x, y) refl

pub or_word : (a b p : ℕ) → in_word (bit_or a b) p ≡ (in_word a p || in_word b p)
or_word a b p = ap (λ (x : ℕ). x == 1) (bit_at_or a b p) ∙ max_bits (bit_at a p) (bit_at b p) (bit_cases a p) (bit_cases b p)

pub and_word : (a b p : ℕ) → in_word (bit_and a b) p ≡ (in_word a p && in_word b p)
and_word a b p = ap (λ (x : ℕ). x == 1) (bit_at_and a b p) ∙ min_bits (bit_at a p) (bit_at b p) (bit_cases a p) (bit_cases b p)

pub zero_word : (p : ℕ) → in_word 0 p ≡ false
zero_word p = ap (λ (x : ℕ). x == 1) (bit_at-zero p)

pub word_above : (n p : ℕ) → n < 2 ^ 64 → 64 ≤ p → in_word n p ≡ false
word_above n p fits above = ap (λ (x : ℕ). x == 1) (bit_at_above n 64 p fits above)

pub when_word : (b : Bool) (a p : ℕ) → in_word (cond b a 0) p ≡ (b && in_word a p)
when_word true a p = refl
when_word false a p = zero_word p

pub single_word : (p q : ℕ) → in_word (2 ^ p) q ≡ (p == q)
single_word p q =
    elim (cases_eq p q) [
      | inl same ↦ ap (λ (x : ℕ). x == 1) (subst (λ (k : ℕ). bit_at (2 ^ p) k ≡ 1) same (bit_at-pow_same p)) ∙ sym (eq-eqb p q same)
      | inr other ↦ ap (λ (x : ℕ). x == 1) (bit_at-pow_other p q (λ e. other (sym e))) ∙ sym (ne_eqb p q other)
    ]

same_bit : (a b : ℕ) → (a ≡ 0) ⊎ (a ≡ 1) → (b ≡ 0) ⊎ (b ≡ 1) → (a == 1) ≡ (b == 1) → a ≡ b
same_bit a b (inl x) (inl y) e = x ∙ sym y
same_bit a b (inl x) (inr y) e = absurd (false≢true (sym (ap (λ (n : ℕ). n == 1) x) ∙ e ∙ ap (λ (n : ℕ). n == 1) y))
same_bit a b (inr x) (inl y) e = absurd (false≢true (sym (ap (λ (n : ℕ). n == 1) y) ∙ sym e ∙ ap (λ (n : ℕ). n == 1) x))
same_bit a b (inr x) (inr y) e = x ∙ sym y

-- two words with the same positions are one
pub same_words : (a b : ℕ) → ((p : ℕ) → in_word a p ≡ in_word b p) → a ≡ b
same_words a b each = same_from_bits a b (λ i. same_bit (bit_at a i) (bit_at b i) (bit_cases a i) (bit_cases b i) (each i))

-- ---- lists of positions

pub has-append : (xs ys : List ℕ) (p : ℕ) → has (xs ++ ys) p ≡ (has xs p || has ys p)
has-append xs ys p = list_any-append (λ m. m == p) xs ys

pub has-cond : (b : Bool) (xs : List ℕ) (p : ℕ) → has (cond b xs []) p ≡ (b && has xs p)
has-cond true xs p = refl
has-cond false xs p = refl
