-- How a place goes on to the next state.
use Rattle.std.proofs.Common.{◌≡◌, ℕ, ◌≤◌, suc, take, drop, ◌+◌, Bool, true, false, not, List, [], ◌∷◌, ◌++◌, length, map, pos, cond, count_by, Some, None, refl, sym, ap, ◌∙◌, arith, IsTrue}
use Rattle.std.proofs.lemmas.Bool.{and_parts, false≢true}
use Rattle.std.proofs.lemmas.List.{length-append, take_at, drop_at}
use Rattle.spec_model.specs.declared.value.Value.{Value}
use Rattle.spec_model.specs.declared.value.Value.TheVariants as value
use Rattle.spec_model.specs.Values.{DomainData, Assignment, is_assignment}
use Rattle.spec_model.specs.declared.value.Owner.{Owner}
use Rattle.spec_model.specs.Syntax.{VariableData}
use Rattle.spec_model.specs.Rules.{Position}
use Rattle.spec_model.specs.Moves.{is_env, domains_of}
use Rattle.game_values.proofs.Typed.{count-cons}
use Rattle.spec_model.specs.Games.{GameData, listed}
use Rattle.spec_model.specs.Steps.{Before, reached, is_state, is_input, is_output}
use Rattle.spec_model.specs.WellMade.{WellMade}
use Rattle.spec_model.proofs.Closed.{closed}
use Rattle.trace_planes.specs.declared.run_state.RunState.{RunState}
use Rattle.trace_planes.specs.Audits.{IsReadAfter, IsAt, IsPosition}

-- an assignment has a value for each domain
pub length_fits : (ds : List DomainData) (vs : Assignment) → is_assignment ds vs ≡ true → length vs ≡ length ds
length_fits [] [] e = refl
length_fits [] (v ∷ vs) e = absurd (false≢true e)
length_fits (d ∷ ds) [] e = absurd (false≢true e)
length_fits (d ∷ ds) (v ∷ vs) e = ap suc (length_fits ds vs (and_parts _ (is_assignment ds vs) e).1)

-- as many as variables of the owner
pub length-domains_of : (test : Owner → Bool) (vs : List VariableData) → length (domains_of test vs) ≡ count_by (λ (v : VariableData). test v.owner) vs
length-domains_of test [] = refl
length-domains_of test (v ∷ vs) = at (test v.owner) (length-domains_of test vs) ∙ sym (count-cons (λ (w : VariableData). test w.owner) v vs)
  where
    at : (b : Bool) → length (domains_of test vs) ≡ count_by (λ (w : VariableData). test w.owner) vs →
        length (cond b (v.domain ∷ domains_of test vs) (domains_of test vs)) ≡ cond b (suc (count_by (λ (w : VariableData). test w.owner) vs)) (count_by (λ (w : VariableData). test w.owner) vs)
    at true rest = ap suc rest
    at false rest = rest

-- the hidden values of the state that is reached
next_values : (g : GameData) (b : Before) (x y : Assignment) (p : RunState) → IsReadAfter g b p → p.next.items ≡ map (λ v. value.Int (pos v)) (reached g b x y).hidden
next_values g None x y p read = read.1
next_values g (Some s) x y p read = read.2.next

module _ (g : GameData) (made : WellMade g) (b : Before) (p : RunState) (here : IsAt g b p) (x y : Assignment) (input : IsTrue (is_input g x)) (output : IsTrue (is_output g y)) where
  pub inside : IsTrue (is_state g (reached g b x y))
  inside = at b here.read
    where
      at : (c : Before) → IsReadAfter g c p → IsTrue (is_state g (reached g c x y))
      at None read = (closed g made).first x y input output
      at (Some s) read = (closed g made).later s x y read.1 input output

  pub sized : length p.state.items ≡ length p.next.items + (length x + length y)
  sized = omega (arith, here.sized.state, here.sized.next, length_fits (domains_of is_env g.variables) x input, length_fits (domains_of (λ o. not (is_env o)) g.variables) y output)

  -- the values of the state that is reached
  pub listed_next : listed (reached g b x y) ≡ p.next.items ++ (x ++ y)
  listed_next = ap (λ vs. vs ++ (x ++ y)) (sym (next_values g b x y p here.read))

  pub room_next : length (listed (reached g b x y)) ≡ length g.hidden + (length (domains_of is_env g.variables) + length (domains_of (λ o. not (is_env o)) g.variables))
  room_next =
      ap (λ (vs : List Value). length vs) listed_next ∙ (length-append p.next.items (x ++ y) ∙ (ap (λ n. length p.next.items + n) (length-append x y) ∙ (sym sized ∙ here.sized.state)))

-- the values of a position are its inputs, as many as there are input variables, and then its outputs
module _ (g : GameData) (p : Position) (values : List Value) (is : IsPosition g p values) (n : ℕ) (counted : n ≡ count_by (λ (v : VariableData). is_env v.owner) g.variables) where
  pub as_many : length p.input ≡ n
  as_many = length_fits (domains_of is_env g.variables) p.input is.input ∙ (length-domains_of is_env g.variables ∙ sym counted)

  pub enough : n ≤ length values
  enough = let many = as_many in let whole = ap (λ (vs : List Value). length vs) is.listed in omega (arith, many, whole, length-append p.input p.output)

  pub input_is : take n values ≡ p.input
  input_is = ap (take n) is.listed ∙ take_at p.input p.output n as_many

  pub output_is : drop n values ≡ p.output
  output_is = ap (drop n) is.listed ∙ drop_at p.input p.output n as_many
