-- How a position goes on to the next state.
use Rattle.std.proofs.Common.{◌≡◌, suc, ◌+◌, Bool, true, false, not, List, [], ◌∷◌, ◌++◌, length, cond, count_by, refl, sym, ap, ◌∙◌, arith}
use Rattle.std.proofs.lemmas.Bool.{and_parts, false≢true}
use Rattle.spec_model.specs.declared.value.Value.{Value}
use Rattle.spec_model.specs.Values.{DomainData, Assignment, is_assignment}
use Rattle.spec_model.specs.declared.value.Owner.{Owner}
use Rattle.spec_model.specs.Syntax.{VariableData}
use Rattle.spec_model.specs.Moves.{is_env, domains_of}
use Rattle.game_values.proofs.Typed.{count-cons}
use Rattle.spec_model.specs.Games.{GameData, listed}
use Rattle.spec_model.specs.Steps.{Before, reached}
use Rattle.regions.specs.Rules.{input_count, output_count}
use Rattle.strategy_parts.specs.declared.position.Position.{Position}
use Rattle.strategy_parts.specs.Positions.{IsAfter, IsClosedAt}

-- an assignment has a value for each domain
pub length_fits : (ds : List DomainData) (vs : Assignment) → is_assignment ds vs ≡ true → length vs ≡ length ds
length_fits [] [] e = refl
length_fits [] (v ∷ vs) e = absurd (false≢true e)
length_fits (d ∷ ds) [] e = absurd (false≢true e)
length_fits (d ∷ ds) (v ∷ vs) e = ap suc (length_fits ds vs (and_parts _ (is_assignment ds vs) e).1)

-- as many as variables of the owner
pub length-domains_of : (test : Owner → Bool) (vs : List VariableData) → length (domains_of test vs) ≡ count_by (λ (v : VariableData). test v.owner) vs
length-domains_of test [] = refl
length-domains_of test (v ∷ vs) = at (test v.owner) (length-domains_of test vs) ∙ sym (count-cons (λ (w : VariableData). test w.owner) v vs)
  where
    at : (b : Bool) → length (domains_of test vs) ≡ count_by (λ (w : VariableData). test w.owner) vs →
        length (cond b (v.domain ∷ domains_of test vs) (domains_of test vs)) ≡ cond b (suc (count_by (λ (w : VariableData). test w.owner) vs)) (count_by (λ (w : VariableData). test w.owner) vs)
    at true rest = ap suc rest
    at false rest = rest

module _ (g : GameData) (p : Position) (b : Before) (here : IsAfter g p b) (x y : Assignment) (closed : IsClosedAt g b x y) where
  pub sized : length p.state.items ≡ length p.next.items + (length x + length y)
  sized = omega (arith, here.room, here.tables, length_fits (domains_of is_env g.variables) x closed.input, length_fits (domains_of (λ o. not (is_env o)) g.variables) y closed.output)

  -- the values of the state that is reached
  pub listed_next : listed (reached g b x y) ≡ p.next.items ++ (x ++ y)
  listed_next = ap (λ vs. vs ++ (x ++ y)) (sym here.next)
