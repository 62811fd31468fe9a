-- Rows, move by move.
use Rattle.std.proofs.Common.{◌≡◌, ℕ, zero, suc, ◌+◌, ◌<◌, ◌≤◌, ◌==◌, ◌⊎◌, inl, inr, Bool, true, false, ◌&&◌, cond, if◌then◌else◌, List, [], ◌∷◌, drop, length, map, filter, Some, None, slice_get, refl, sym, ap, ◌∙◌, arith}
use Rattle.std.specs.List.{AllByRecursion}
use Rattle.std.proofs.lemmas.Bool.{eq-eqb, ne_eqb}
use Rattle.spec_model.specs.Values.{Assignment}
use Rattle.spec_model.specs.Games.{GameData, inputs_of, outputs_of}
use Rattle.spec_model.specs.Steps.{is_input, is_output}
use Rattle.spec_model.proofs.AllStates.{Every}
use Rattle.spec_model.proofs.Listed.{inputs_fit, outputs_fit}
use Rattle.strategy_tables.specs.Tables.{NodeData, names, some_passes}
use Rattle.table_check.specs.Turns.{IsMove, first_passes, place_after}

module _ {X : Type 0} (nodes : List NodeData) (fits : X → NodeData → Bool) (listed : X → Bool) where
  -- a move that isn't listed
  names-passed : (x : X) (xs : List X) (row : List ℕ) → listed x ≡ false → names nodes fits (filter listed (x ∷ xs)) row ≡ names nodes fits (filter listed xs) row
  names-passed x xs row e = ap (λ b. names nodes fits (cond b (x ∷ filter listed xs) (filter listed xs)) row) e

  -- one that is, where the row goes on with it
  names-next : (x : X) (xs : List X) (row : List ℕ) → listed x ≡ true → first_passes nodes (fits x) row ≡ true → names nodes fits (filter listed (x ∷ xs)) row ≡ names nodes fits (filter listed xs) (drop 1 row)
  names-next x xs row e first = ap (λ b. names nodes fits (cond b (x ∷ filter listed xs) (filter listed xs)) row) e ∙ at row first
    where
      at : (row : List ℕ) → first_passes nodes (fits x) row ≡ true → names nodes fits (x ∷ filter listed xs) row ≡ names nodes fits (filter listed xs) (drop 1 row)
      at [] first = absurd (cc)
      at (t ∷ ts) first = ap (λ b. b && names nodes fits (filter listed xs) ts) first

  -- and where it doesn't
  names-failed : (x : X) (xs : List X) (row : List ℕ) → listed x ≡ true → first_passes nodes (fits x) row ≡ false → names nodes fits (filter listed (x ∷ xs)) row ≡ false
  names-failed x xs row e first = ap (λ b. names nodes fits (cond b (x ∷ filter listed xs) (filter listed xs)) row) e ∙ at row first
    where
      at : (row : List ℕ) → first_passes nodes (fits x) row ≡ false → names nodes fits (x ∷ filter listed xs) row ≡ false
      at [] first = refl
      at (t ∷ ts) first = ap (λ b. b && names nodes fits (filter listed xs) ts) first

  drop-next : (row : List ℕ) (place : ℕ) → drop 1 (drop place row) ≡ drop (suc place) row
  drop-next [] zero = refl
  drop-next [] (suc place) = refl
  drop-next (t ∷ ts) zero = refl
  drop-next (t ∷ ts) (suc place) = drop-next ts place

  inside : (test : NodeData → Bool) (row : List ℕ) (place : ℕ) → first_passes nodes test (drop place row) ≡ true → suc place ≤ length row
  inside test [] zero first = absurd (cc)
  inside test [] (suc place) first = absurd (cc)
  inside test (t ∷ ts) zero first = omega arith
  inside test (t ∷ ts) (suc place) first = let later = inside test ts place first in omega (arith, later)

  -- a move after which the row goes on, and one after which it doesn't
  pub step_passes : (x : X) (xs : List X) (row : List ℕ) (place next : ℕ) → place ≤ length row → Some next ≡ place_after nodes (fits x) (listed x) row place →
      (next ≤ length row) × (names nodes fits (filter listed xs) (drop next row) ≡ names nodes fits (filter listed (x ∷ xs)) (drop place row))
  step_passes x xs row place next within is = by (listed x) refl is
    where
      on : (b : Bool) → listed x ≡ true → first_passes nodes (fits x) (drop place row) ≡ b → Some next ≡ (if b then Some (suc place) else None) →
          (next ≤ length row) × (names nodes fits (filter listed xs) (drop next row) ≡ names nodes fits (filter listed (x ∷ xs)) (drop place row))
      on true e first is =
          let same : next ≡ suc place = cc in
          let most = inside (fits x) row place first in (
            omega (arith, same, most),
            ap (λ n. names nodes fits (filter listed xs) (drop n row)) same ∙ (ap (names nodes fits (filter listed xs)) (sym (drop-next row place)) ∙ sym (names-next x xs (drop place row) e first)),
          )
      on false e first is = absurd (cc)

      by : (b : Bool) → listed x ≡ b → Some next ≡ place_after nodes (fits x) b row place →
          (next ≤ length row) × (names nodes fits (filter listed xs) (drop next row) ≡ names nodes fits (filter listed (x ∷ xs)) (drop place row))
      by true e is = on (first_passes nodes (fits x) (drop place row)) e refl is
      by false e is =
          let same : next ≡ place = cc in (
            omega (arith, same, within),
            ap (λ n. names nodes fits (filter listed xs) (drop n row)) same ∙ sym (names-passed x xs (drop place row) e),
          )

  pub step_fails : (x : X) (xs : List X) (row : List ℕ) (place : ℕ) → None ≡ place_after nodes (fits x) (listed x) row place → false ≡ names nodes fits (filter listed (x ∷ xs)) (drop place row)
  step_fails x xs row place is = by (listed x) refl is
    where
      on : (b : Bool) → listed x ≡ true → first_passes nodes (fits x) (drop place row) ≡ b → None ≡ (if b then Some (suc place) else None) → false ≡ names nodes fits (filter listed (x ∷ xs)) (drop place row)
      on true e first is = absurd (cc)
      on false e first is = sym (names-failed x xs (drop place row) e first)

      by : (b : Bool) → listed x ≡ b → None ≡ place_after nodes (fits x) b row place → false ≡ names nodes fits (filter listed (x ∷ xs)) (drop place row)
      by true e is = on (first_passes nodes (fits x) (drop place row)) e refl is
      by false e is = absurd (cc)

  -- after the last move nothing may be left
  pub names-end : (row : List ℕ) (place : ℕ) → place ≤ length row → names nodes fits [] (drop place row) ≡ (place == length row)
  names-end row place within = by_place last_or_before
    where
      last_or_before : (place ≡ length row) ⊎ (place < length row)
      last_or_before = grind arith

      over : (row : List ℕ) (place : ℕ) → place ≡ length row → names nodes fits [] (drop place row) ≡ true
      over [] zero e = refl
      over [] (suc place) e = absurd (omega (arith, e))
      over (t ∷ ts) zero e = absurd (omega (arith, e))
      over (t ∷ ts) (suc place) e = over ts place (omega (arith, e))

      left : (row : List ℕ) (place : ℕ) → place < length row → names nodes fits [] (drop place row) ≡ false
      left [] place before = absurd (omega arith)
      left (t ∷ ts) zero before = refl
      left (t ∷ ts) (suc place) before = left ts place (omega arith)

      by_place : (place ≡ length row) ⊎ (place < length row) → names nodes fits [] (drop place row) ≡ (place == length row)
      by_place (inl e) = over row place e ∙ sym (eq-eqb place (length row) e)
      by_place (inr before) = left row place before ∙ sym (ne_eqb place (length row) (λ e. omega (arith, e, before)))

-- all inputs are inputs, and all outputs are outputs
pub inputs_move : (g : GameData) (xs : List Assignment) → xs ≡ inputs_of g → AllByRecursion (IsMove g None) xs
inputs_move g xs e = rw e (inputs_fit g)

pub outputs_move : (g : GameData) (x : Assignment) → is_input g x ≡ true → (ys : List Assignment) → ys ≡ outputs_of g → AllByRecursion (IsMove g (Some x)) ys
outputs_move g x legal ys e = rw e (each (outputs_of g) (outputs_fit g))
  where
    each : (ys : List Assignment) → Every (λ y. is_output g y ≡ true) ys → AllByRecursion (IsMove g (Some x)) ys
    each [] all = tt
    each (y ∷ ys) all = ((legal, all.0), each ys all.1)
