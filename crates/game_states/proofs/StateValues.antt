-- The parts of a state's values, in the list of all of them.
use Rattle.std.proofs.Common.{◌≡◌, ℕ, zero, suc, ◌+◌, ◌<◌, ◌≤◌, Bool, true, false, if◌then◌else◌, List, [], ◌∷◌, ◌++◌, length, map, count_by, length-append, take, drop, Some, slice_get, get_or, refl, sym, ◌∙◌, ap, arith}
use Rattle.std.specs.List.{list_any}
use Rattle.std.proofs.lemmas.Bool.{and_parts, false≢true}
use Rattle.spec_model.specs.declared.value.Value.{Value}
use Rattle.spec_model.specs.Values.{Assignment, DomainData, is_assignment, same_value, values_of}
use Rattle.spec_model.specs.declared.value.Owner.{Owner}
use Rattle.spec_model.specs.Syntax.{VariableData}
use Rattle.spec_model.specs.Moves.{is_env, domains_of}
use Rattle.spec_model.specs.Games.{GameData, HiddenData, State, listed}
use Rattle.spec_model.specs.Steps.{is_state, is_input, is_output, are_hidden_values}
use Rattle.game_states.specs.Numbers.{as_values}
use Rattle.game_states.proofs.ChoicePlaces.{length-values}
use Rattle.game_values.proofs.Typed.{count-cons}

-- ---- lists

pub get-map-at : {V X : Type 0} (items : V → X) (vs : List V) (k : ℕ) (v : V) → k < length vs → v ≡ get_or vs k v → slice_get (map items vs) k ≡ Some (items v)
get-map-at items [] k v h is = absurd (omega arith)
get-map-at items (w ∷ vs) zero v h is = ap (λ z. Some (items z)) (sym is)
get-map-at items (w ∷ vs) (suc k) v h is = get-map-at items vs k v (omega arith) is

pub take-left : {A : Type 0} (xs ys : List A) (n : ℕ) → n ≡ length xs → take n (xs ++ ys) ≡ xs
take-left [] ys zero e = refl
take-left [] ys (suc n) e = absurd (omega (arith, e))
take-left (x ∷ xs) ys zero e = absurd (omega (arith, e))
take-left (x ∷ xs) ys (suc n) e = ap (λ r. x ∷ r) (take-left xs ys n (omega (arith, e)))

pub drop-left : {A : Type 0} (xs ys : List A) (n : ℕ) → n ≡ length xs → drop n (xs ++ ys) ≡ ys
drop-left [] ys zero e = refl
drop-left [] ys (suc n) e = absurd (omega (arith, e))
drop-left (x ∷ xs) ys zero e = absurd (omega (arith, e))
drop-left (x ∷ xs) ys (suc n) e = drop-left xs ys n (omega (arith, e))

-- ---- lengths

pub length-fits : (ds : List DomainData) (vs : Assignment) → is_assignment ds vs ≡ true → length vs ≡ length ds
length-fits [] [] e = refl
length-fits [] (v ∷ vs) e = absurd (false≢true e)
length-fits (d ∷ ds) [] e = absurd (false≢true e)
length-fits (d ∷ ds) (v ∷ vs) e = ap suc (length-fits ds vs (and_parts (list_any (same_value v) (values_of d)) (is_assignment ds vs) e).1)

pub length-hidden-fits : (hs : List HiddenData) (vs : List ℕ) → are_hidden_values hs vs ≡ true → length vs ≡ length hs
length-hidden-fits [] [] e = refl
length-hidden-fits [] (v ∷ vs) e = absurd (false≢true e)
length-hidden-fits (h ∷ hs) [] e = absurd (false≢true e)
length-hidden-fits (h ∷ hs) (v ∷ vs) e = ap suc (length-hidden-fits hs vs (and_parts _ (are_hidden_values hs vs) e).1)

pub length-domains : (test : Owner → Bool) (vs : List VariableData) → length (domains_of test vs) ≡ count_by (λ v. test v.owner) vs
length-domains test [] = refl
length-domains test (v ∷ vs) = at (test v.owner) (length-domains test vs) ∙ sym (count-cons (λ v. test v.owner) v vs)
  where
    at : (b : Bool) → length (domains_of test vs) ≡ count_by (λ v. test v.owner) vs → length (if b then v.domain ∷ domains_of test vs else domains_of test vs) ≡ (if b then suc (count_by (λ v. test v.owner) vs) else count_by (λ v. test v.owner) vs)
    at true e = ap suc e
    at false e = e

-- the parts of a state's values
pub record Parts (g : GameData) (s : State) (values : List Value) : Type 0 where
  pub tables : length g.hidden ≤ length values
  pub hidden : take (length g.hidden) values ≡ as_values s.hidden
  pub moves : drop (length g.hidden) values ≡ s.position.input ++ s.position.output
  pub inputs : length s.position.input ≡ count_by (λ v. is_env v.owner) g.variables
  pub fit : are_hidden_values g.hidden s.hidden ≡ true
  pub input : is_input g s.position.input ≡ true
  pub output : is_output g s.position.output ≡ true

pub parts_of : (g : GameData) (s : State) (values : List Value) → is_state g s ≡ true → listed s ≡ values → Parts g s values
parts_of g s values here is =
    let fit = and_parts (are_hidden_values g.hidden s.hidden) _ here in
    let moves = and_parts (is_input g s.position.input) (is_output g s.position.output) fit.1 in
    let long : length g.hidden ≡ length (as_values s.hidden) = sym (length-values s.hidden ∙ length-hidden-fits g.hidden s.hidden fit.0) in
    let total : length values ≡ length (as_values s.hidden) + length (s.position.input ++ s.position.output) = ap length (sym is) ∙ length-append (as_values s.hidden) (s.position.input ++ s.position.output) in
    record {
      tables = omega (arith, long, total);
      hidden = ap (take (length g.hidden)) (sym is) ∙ take-left (as_values s.hidden) (s.position.input ++ s.position.output) (length g.hidden) long;
      moves = ap (drop (length g.hidden)) (sym is) ∙ drop-left (as_values s.hidden) (s.position.input ++ s.position.output) (length g.hidden) long;
      inputs = length-fits (domains_of is_env g.variables) s.position.input moves.0 ∙ length-domains is_env g.variables;
      fit = fit.0;
      input = moves.0;
      output = moves.1;
    }
