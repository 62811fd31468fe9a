-- Values that the words of a line give, one variable after the other.
use Rattle.std.proofs.Common.{◌≡◌, ℕ, zero, suc, ◌+◌, ◌<◌, List, [], ◌∷◌, ◌++◌, map, length, take, set, get_or, sym, ap, ◌∙◌, subst, arith}
use Rattle.std.proofs.lemmas.List.{map_more, take_more_set}
use Rattle.spec_model.specs.declared.value.Value.{Value}
use Rattle.spec_model.specs.declared.value.Var.{Var}
use Rattle.spec_model.specs.Values.{Assignment}
use Rattle.spec_model.specs.Syntax.{VariableData}
use Rattle.spec_model.specs.Views.{variable_data}
use Rattle.session_lines.specs.Reading.{IsGiven, AreGiven}

module _ (names ws : List (List ℕ)) where
  pub given_push : (vs : List VariableData) (xs : Assignment) (v : VariableData) (x : Value) → AreGiven names ws vs xs → IsGiven names ws v x → AreGiven names ws (vs ++ v ∷ []) (xs ++ x ∷ [])
  given_push [] [] v x front last = (last, tt)
  given_push [] (y ∷ xs) v x front last = absurd front
  given_push (u ∷ vs) [] v x front last = absurd front
  given_push (u ∷ vs) (y ∷ xs) v x front last = (front.0, given_push vs xs v x front.1 last)

  pub given_at : (vars : List Var) (xs : Assignment) (i : ℕ) (d : Var) → i < length vars → AreGiven names ws (map variable_data vars) xs → (x : Value) × IsGiven names ws (variable_data (get_or vars i d)) x
  given_at [] xs i d here given = absurd (omega arith)
  given_at (v ∷ vars) [] i d here given = absurd given
  given_at (v ∷ vars) (x ∷ xs) zero d here given = (x, given.0)
  given_at (v ∷ vars) (x ∷ xs) (suc i) d here given = given_at vars xs i d (omega arith) given.1

  -- one variable more
  pub given_more : (vars : List Var) (values : List Value) (i : ℕ) (v : Var) (x : Value) → i < length vars → i < length values → v ≡ get_or vars i v
      → AreGiven names ws (map variable_data (take i vars)) (take i values) → IsGiven names ws (variable_data v) x → AreGiven names ws (map variable_data (take (i + 1) vars)) (take (i + 1) (set values i x))
  given_more vars values i v x here there is front last =
      let more = given_push (map variable_data (take i vars)) (take i values) (variable_data v) x front last in
      let longer : map variable_data (take (i + 1) vars) ≡ map variable_data (take i vars) ++ variable_data v ∷ [] =
      map_more variable_data vars i v here ∙ ap (λ (u : Var). map variable_data (take i vars) ++ variable_data u ∷ []) (sym is) in
      subst (λ (xs : Assignment). AreGiven names ws (map variable_data (take (i + 1) vars)) xs) (sym (take_more_set values i x there))
      (subst (λ (vs : List VariableData). AreGiven names ws vs (take i values ++ x ∷ [])) (sym longer) more)
