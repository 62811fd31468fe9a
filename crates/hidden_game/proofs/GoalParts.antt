-- The goals of the truth tables of a hidden table, counted from the front and from the end.
use Rattle.std.proofs.Common.{◌≡◌, ℕ, zero, suc, Bool, true, false, ◌+◌, ◌==◌, if◌then◌else◌, List, [], ◌∷◌, ◌++◌, length, refl, sym, ap, ◌∙◌, arith}
use Rattle.std.proofs.lemmas.Bool.{eqb-true}
use Rattle.spec_model.specs.Syntax.{Entry}
use Rattle.spec_model.specs.Games.{GoalData}
use Rattle.hidden_game.specs.GameOf.{entries_from, labelled_from, labelled}
use Rattle.hidden_game.specs.Sources.{goals_of_parts}

module _ (line table : ℕ) where
  abbrev one : (part label : ℕ) → GoalData
  one part label = record { label = record { line = line; part = label }; holds = Entry table part }

  -- from the front: so many, from a part and its label on
  abbrev ahead : (label part n : ℕ) → List GoalData
  ahead label part zero = []
  ahead label part (suc n) = one part label ∷ ahead (suc label) (suc part) n

  ahead_more : (label part n : ℕ) → ahead label part n ++ one (part + n) (label + n) ∷ [] ≡ ahead label part (suc n)
  ahead_more label part zero = λ i. one (at_zero part i) (at_zero label i) ∷ []
    where
      at_zero : (m : ℕ) → m + 0 ≡ m
      at_zero m = omega arith
  ahead_more label part (suc n) =
      ap (λ gs. one part label ∷ gs)
      ((λ i. ahead (suc label) (suc part) n ++ one (moved part n i) (moved label n i) ∷ []) ∙ ahead_more (suc label) (suc part) n)
    where
      moved : (m n : ℕ) → m + suc n ≡ suc m + n
      moved m n = omega arith

  from_the_front : (first n : ℕ) → goals_of_parts line table first n ≡ ahead first 0 n
  from_the_front first zero = refl
  from_the_front first (suc n) = ap (λ gs. gs ++ one n (first + n) ∷ []) (from_the_front first n) ∙ (λ i. ahead first 0 n ++ one (from_zero n i) (first + n) ∷ []) ∙ ahead_more first 0 n
    where
      from_zero : (n : ℕ) → n ≡ 0 + n
      from_zero n = omega arith

  labels_ahead : (label part : ℕ) (ts : List (List Bool)) → labelled_from line label (entries_from table part ts) ≡ ahead label part (length ts)
  labels_ahead label part [] = refl
  labels_ahead label part (t ∷ ts) = ap (λ gs. one part label ∷ gs) (labels_ahead (suc label) (suc part) ts)

  several : (n : ℕ) → (suc (suc n) == 1) ≡ false
  several n = by (suc (suc n) == 1) refl
    where
      by : (b : Bool) → (suc (suc n) == 1) ≡ b → b ≡ false
      by true e = let same = eqb-true (suc (suc n)) 1 e in absurd (omega (arith, same))
      by false e = refl

  -- the goals of the entries are those of the parts
  pub labelled-entries : (ts : List (List Bool)) → goals_of_parts line table (if length ts == 1 then 0 else 1) (length ts) ≡ labelled line (entries_from table 0 ts)
  labelled-entries [] = refl
  labelled-entries (t ∷ []) = refl
  labelled-entries (t ∷ u ∷ ts) =
      ap (λ (b : Bool). goals_of_parts line table (if b then 0 else 1) (suc (suc (length ts)))) (several (length ts))
      ∙ (from_the_front 1 (suc (suc (length ts))) ∙ sym (labels_ahead 1 0 (t ∷ u ∷ ts)))
