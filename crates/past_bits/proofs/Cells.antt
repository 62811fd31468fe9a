-- What a table of a past operator has at a cell.
use Rattle.std.proofs.Common.{◌≡◌, ℕ, zero, suc, ◌+◌, ◌*◌, ◌^◌, Bool, true, false, ◌&&◌, ◌||◌, List, [], ◌∷◌, length, map, get_or, refl, ap, ◌∙◌, arith}
use Rattle.spec_model.specs.declared.expr.Past.{Past}
use Rattle.spec_model.specs.declared.expr.Past.TheVariants.{Prev, Once, Historically, Since, Triggered}
use Rattle.spec_model.specs.Meaning.{operand, past_of}
use Rattle.spec_model.specs.Games.{letter_of}
use Rattle.spec_model.specs.Typing.{operands_of}
use Rattle.past_bits.specs.Tables.{entry_of, bit_at, number_of_bit, cells_of}

-- ---- the operator's value, from its operands and the table's value

or_false : (b : Bool) → (b || false) ≡ b
or_false true = refl
or_false false = refl

and_true : (b : Bool) → (b && true) ≡ b
and_true true = refl
and_true false = refl

and_false : (b : Bool) → (b && false) ≡ false
and_false true = refl
and_false false = refl

or_true : (b : Bool) → (b || true) ≡ true
or_true true = refl
or_true false = refl

pub entry_is_operator : (op : Past) (as' : List (ℕ → Bool)) (t : ℕ) → entry_of op (operand as' 0 t) (operand as' 1 t) (bit_at op as' t) ≡ past_of op as' t
entry_is_operator Prev as' zero = refl
entry_is_operator Prev as' (suc t) = refl
entry_is_operator Once as' zero = or_false _
entry_is_operator Once as' (suc t) = ap (λ b. operand as' 0 (suc t) || b) (entry_is_operator Once as' t)
entry_is_operator Historically as' zero = and_true _
entry_is_operator Historically as' (suc t) = ap (λ b. operand as' 0 (suc t) && b) (entry_is_operator Historically as' t)
entry_is_operator Since as' zero = ap (λ b. operand as' 1 0 || b) (and_false _) ∙ or_false _
entry_is_operator Since as' (suc t) = ap (λ b. operand as' 1 (suc t) || operand as' 0 (suc t) && b) (entry_is_operator Since as' t)
entry_is_operator Triggered as' zero = ap (λ b. operand as' 1 0 && b) (or_true _) ∙ and_true _
entry_is_operator Triggered as' (suc t) = ap (λ b. operand as' 1 (suc t) && (operand as' 0 (suc t) || b)) (entry_is_operator Triggered as' t)

-- ---- cells

module _ {X : Type 0} (f : Bool → Bool → Bool → X) (d : X) where
  at_letter_of_one : (x v : Bool) → get_or (cells_of Prev f) (number_of_bit v * 2 ^ 1 + letter_of (x ∷ [])) d ≡ f x false v
  at_letter_of_one false false = refl
  at_letter_of_one true false = refl
  at_letter_of_one false true = refl
  at_letter_of_one true true = refl

  at_letter_of_two : (x y v : Bool) → get_or (cells_of Since f) (number_of_bit v * 2 ^ 2 + letter_of (x ∷ y ∷ [])) d ≡ f x y v
  at_letter_of_two false false false = refl
  at_letter_of_two true false false = refl
  at_letter_of_two false true false = refl
  at_letter_of_two true true false = refl
  at_letter_of_two false false true = refl
  at_letter_of_two true false true = refl
  at_letter_of_two false true true = refl
  at_letter_of_two true true true = refl

  one : (as' : List (ℕ → Bool)) (t : ℕ) (v : Bool) → length as' ≡ 1 →
      get_or (cells_of Prev f) (number_of_bit v * 2 ^ length as' + letter_of (map (λ (a : ℕ → Bool). a t) as')) d ≡ f (operand as' 0 t) (operand as' 1 t) v
  one [] t v n = absurd (omega arith)
  one (a ∷ []) t v n = at_letter_of_one (a t) v
  one (a ∷ b ∷ as') t v n = absurd (omega arith)

  two : (as' : List (ℕ → Bool)) (t : ℕ) (v : Bool) → length as' ≡ 2 →
      get_or (cells_of Since f) (number_of_bit v * 2 ^ length as' + letter_of (map (λ (a : ℕ → Bool). a t) as')) d ≡ f (operand as' 0 t) (operand as' 1 t) v
  two [] t v n = absurd (omega arith)
  two (a ∷ []) t v n = absurd (omega arith)
  two (a ∷ b ∷ []) t v n = at_letter_of_two (a t) (b t) v
  two (a ∷ b ∷ c ∷ as') t v n = absurd (omega arith)

  pub cell_is : (op : Past) (as' : List (ℕ → Bool)) (t : ℕ) (v : Bool) → length as' ≡ operands_of op →
      get_or (cells_of op f) (number_of_bit v * 2 ^ length as' + letter_of (map (λ (a : ℕ → Bool). a t) as')) d ≡ f (operand as' 0 t) (operand as' 1 t) v
  cell_is Prev as' t v n = one as' t v n
  cell_is Once as' t v n = one as' t v n
  cell_is Historically as' t v n = one as' t v n
  cell_is Since as' t v n = two as' t v n
  cell_is Triggered as' t v n = two as' t v n
