-- Where the variables and the hidden tables stand in a state.
use Rattle.std.proofs.Common.{◌≡◌, ℕ, zero, suc, ◌+◌, ◌<◌, pos, inl, inr, ◌⊎◌, Bool, true, false, not, if◌then◌else◌, nat_lt, List, [], ◌∷◌, ◌++◌, map, length, length-append, take, count_by, Some, option_map, unwrap_or, slice_get, get_or, refl, sym, ◌∙◌, ap, arith}
use Rattle.std.proofs.lemmas.Bool.{and_parts, false≢true}
use Rattle.std.proofs.lemmas.List.{length-map}
use Rattle.std.proofs.lemmas.Option.{slice_get-map}
use Rattle.spec_model.specs.declared.value.Value.TheVariants as value
use Rattle.spec_model.specs.declared.value.Var.{Var}
use Rattle.std.specs.List.{list_all}
use Rattle.spec_model.specs.Views.{domain_data, variable_data}
use Rattle.spec_model.specs.WellMade.{is_domain}
use Rattle.spec_model.specs.declared.value.Owner.{Owner}
use Rattle.spec_model.specs.declared.value.Owner.TheVariants.{Env, Sys}
use Rattle.spec_model.specs.Values.{DomainData, TruthValues}
use Rattle.spec_model.specs.Syntax.{VariableData}
use Rattle.spec_model.specs.Moves.{is_env, domains_of, value_among}
use Rattle.spec_model.specs.Games.{HiddenData, GameData, State, listed}
use Rattle.spec_model.specs.Steps.{is_state, is_input, is_output, are_hidden_values, is_output_variable}
use Rattle.game_values.proofs.Typed.{count-cons}
use Rattle.bit_compile.specs.Domains.{state_domains, table_domain}
use Rattle.bit_compile.specs.Codes.{domain_in}
use Rattle.bit_compile.specs.Compiled.{place_of, variable_domain}
use Rattle.bit_compile.specs.CompileLaws.{IsInputSlot, IsOutputSlot}
use Rattle.bit_compile.proofs.Intervals.{get-there}
use Rattle.bit_compile.proofs.SlotLemmas.{length-assignment}

-- ---- places in joined lists

pub get-after : {X : Type 0} (xs ys : List X) (k j : ℕ) (d : X) → k ≡ length xs + j → get_or (xs ++ ys) k d ≡ get_or ys j d
get-after [] ys k j d e = let same : k ≡ j = omega (arith, e) in ap (λ i. get_or ys i d) same
get-after (x ∷ xs) ys zero j d e = absurd (omega (arith, e))
get-after (x ∷ xs) ys (suc k) j d e = get-after xs ys k j d (omega (arith, e))

pub get-before : {X : Type 0} (xs ys : List X) (k : ℕ) (d : X) → k < length xs → get_or (xs ++ ys) k d ≡ get_or xs k d
get-before [] ys k d h = absurd (omega arith)
get-before (x ∷ xs) ys zero d h = refl
get-before (x ∷ xs) ys (suc k) d h = get-before xs ys k d (omega arith)

there_is : {X : Type 0} (xs : List X) (k : ℕ) → k < length xs → (x : X) × (slice_get xs k ≡ Some x)
there_is [] k h = absurd (omega arith)
there_is (x ∷ xs) zero h = (x, refl)
there_is (x ∷ xs) (suc k) h = there_is xs k (omega arith)

some_is : {X : Type 0} (x y : X) → Some x ≡ Some y → x ≡ y
some_is x y e = ap (λ o. unwrap_or o x) e

-- ---- the variables of an owner

module _ (test : Owner → Bool) where
  abbrev owned : List VariableData → ℕ
  owned vs = count_by (λ v. test v.owner) vs

  owned-cons : (v : VariableData) (vs : List VariableData) → owned (v ∷ vs) ≡ (if test v.owner then suc (owned vs) else owned vs)
  owned-cons v vs = count-cons (λ (v : VariableData). test v.owner) v vs

  pub length-owned : (vs : List VariableData) → length (domains_of test vs) ≡ owned vs
  length-owned [] = refl
  length-owned (v ∷ vs) = at (test v.owner) (length-owned vs) ∙ sym (owned-cons v vs)
    where
      at : (b : Bool) → length (domains_of test vs) ≡ owned vs → length (if b then v.domain ∷ domains_of test vs else domains_of test vs) ≡ (if b then suc (owned vs) else owned vs)
      at true e = ap suc e
      at false e = e

  pub at_owned : (vs : List VariableData) (k : ℕ) (v : VariableData) → slice_get vs k ≡ Some v → test v.owner ≡ true → (owned (take k vs) < owned vs) × (get_or (domains_of test vs) (owned (take k vs)) TruthValues ≡ v.domain)
  at_owned [] k v e own = cc (e)
  at_owned (w ∷ vs) zero v e own =
      let is : w ≡ v = some_is w v e in
      let owns : test w.owner ≡ true = ap (λ (u : VariableData). test u.owner) is ∙ own in
      let more = owned-cons w vs ∙ ap (λ b. if b then suc (owned vs) else owned vs) owns in
      (omega (arith, more), ap (λ b. get_or (if b then w.domain ∷ domains_of test vs else domains_of test vs) 0 TruthValues) owns ∙ ap (λ (u : VariableData). u.domain) is)
  at_owned (w ∷ vs) (suc k) v e own = at (test w.owner) refl (at_owned vs k v e own)
    where
      at : (b : Bool) → test w.owner ≡ b → (owned (take k vs) < owned vs) × (get_or (domains_of test vs) (owned (take k vs)) TruthValues ≡ v.domain) → (owned (w ∷ take k vs) < owned (w ∷ vs)) × (get_or (domains_of test (w ∷ vs)) (owned (w ∷ take k vs)) TruthValues ≡ v.domain)
      at true f rest =
          let here = owned-cons w (take k vs) ∙ ap (λ b. if b then suc (owned (take k vs)) else owned (take k vs)) f in
          let all = owned-cons w vs ∙ ap (λ b. if b then suc (owned vs) else owned vs) f in (
            omega (arith, here, all, rest.0),
            ap (λ b. get_or (if b then w.domain ∷ domains_of test vs else domains_of test vs) (owned (w ∷ take k vs)) TruthValues) f ∙ (ap (λ j. get_or (w.domain ∷ domains_of test vs) j TruthValues) here ∙ rest.1),
          )
      at false f rest =
          let here = owned-cons w (take k vs) ∙ ap (λ b. if b then suc (owned (take k vs)) else owned (take k vs)) f in
          let all = owned-cons w vs ∙ ap (λ b. if b then suc (owned vs) else owned vs) f in (
            omega (arith, here, all, rest.0),
            ap (λ b. get_or (if b then w.domain ∷ domains_of test vs else domains_of test vs) (owned (w ∷ take k vs)) TruthValues) f ∙ (ap (λ j. get_or (domains_of test vs) j TruthValues) here ∙ rest.1),
          )

-- ---- states

pub hidden_long : (hs : List HiddenData) (vs : List ℕ) → are_hidden_values hs vs ≡ true → length vs ≡ length hs
hidden_long [] [] e = refl
hidden_long [] (v ∷ vs) e = absurd (false≢true e)
hidden_long (h ∷ hs) [] e = absurd (false≢true e)
hidden_long (h ∷ hs) (v ∷ vs) e = ap suc (hidden_long hs vs (and_parts (nat_lt v h.values) _ e).1)

-- where a variable stands
pub record IsPlaced (g : GameData) (k : ℕ) : Type 0 where
  pub within : place_of g k < length (state_domains g)
  pub domain : domain_in (state_domains g) (place_of g k) ≡ variable_domain g k
  pub value : (s : State) → is_state g s ≡ true → get_or (listed s) (place_of g k) (value.Bool false) ≡ value_among g.variables s.position k
  pub slot : IsInputSlot g (place_of g k) ⊎ (IsOutputSlot g (place_of g k) × (is_output_variable g.variables k ≡ true))

module _ (g : GameData) (k : ℕ) (v : VariableData) (e : slice_get g.variables k ≡ Some v) where
  abbrev inputs : List DomainData
  inputs = domains_of is_env g.variables

  abbrev outputs : List DomainData
  outputs = domains_of (λ o. not (is_env o)) g.variables

  variable_is : variable_domain g k ≡ v.domain
  variable_is = get-there (map (λ v. v.domain) g.variables) k v.domain TruthValues (slice_get-map (λ v. v.domain) g.variables k ∙ ap (option_map (λ v. v.domain)) e)

  tables_long : length (map table_domain g.hidden) ≡ length g.hidden
  tables_long = length-map g.hidden table_domain

  all_long : length (state_domains g) ≡ length g.hidden + (owned is_env g.variables + owned (λ o. not (is_env o)) g.variables)
  all_long =
      let one = length-append (map table_domain g.hidden) (inputs ++ outputs) in
      let two = length-append inputs outputs in
      let three = length-owned is_env g.variables in
      let four = length-owned (λ o. not (is_env o)) g.variables in
      omega (arith, one, two, three, four, tables_long)

  module _ (s : State) (made : is_state g s ≡ true) where
    hidden_part : length (map (λ (n : ℕ). value.Int (pos n)) s.hidden) ≡ length g.hidden
    hidden_part = length-map s.hidden (λ n. value.Int (pos n)) ∙ hidden_long g.hidden s.hidden (and_parts (are_hidden_values g.hidden s.hidden) _ made).0

    input_part : length s.position.input ≡ owned is_env g.variables
    input_part =
        let moves = (and_parts (are_hidden_values g.hidden s.hidden) _ made).1 in
        length-assignment inputs s.position.input (and_parts (is_input g s.position.input) (is_output g s.position.output) moves).0 ∙ length-owned is_env g.variables

  placed_input : v.owner ≡ Env → IsPlaced g k
  placed_input f =
      let at = at_owned is_env g.variables k v e (ap is_env f) in
      let c : ℕ = owned is_env (take k g.variables) in
      let place : place_of g k ≡ length g.hidden + c = rw (e, f) refl in
      record {
        within = (let all = all_long in omega (arith, place, all, at.0));
        domain = get-after (map table_domain g.hidden) (inputs ++ outputs) (place_of g k) c TruthValues (let long = tables_long in omega (arith, place, long))
            ∙ (get-before inputs outputs c TruthValues (let long = length-owned is_env g.variables in omega (arith, long, at.0)) ∙ (at.1 ∙ sym variable_is));
        value = λ s made. get-after (map (λ (n : ℕ). value.Int (pos n)) s.hidden) (s.position.input ++ s.position.output) (place_of g k) c (value.Bool false) (let long = hidden_part s made in omega (arith, place, long))
            ∙ (get-before s.position.input s.position.output c (value.Bool false) (let long = input_part s made in omega (arith, long, at.0)) ∙ sym (input_value s));
        slot = inl (omega (arith, place), omega (arith, place, at.0));
      }
    where
      input_value : (s : State) → value_among g.variables s.position k ≡ get_or s.position.input (owned is_env (take k g.variables)) (value.Bool false)
      input_value s = rw (e, f) refl

  placed_output : v.owner ≡ Sys → IsPlaced g k
  placed_output f =
      let at = at_owned (λ o. not (is_env o)) g.variables k v e (ap (λ o. not (is_env o)) f) in
      let c : ℕ = owned (λ o. not (is_env o)) (take k g.variables) in
      let n : ℕ = owned is_env g.variables in
      let place : place_of g k ≡ length g.hidden + (n + c) = rw (e, f) refl in
      record {
        within = (let all = all_long in omega (arith, place, all, at.0));
        domain = get-after (map table_domain g.hidden) (inputs ++ outputs) (place_of g k) (n + c) TruthValues (let long = tables_long in omega (arith, place, long))
            ∙ (get-after inputs outputs (n + c) c TruthValues (let long = length-owned is_env g.variables in omega (arith, long)) ∙ (at.1 ∙ sym variable_is));
        value = λ s made. get-after (map (λ (n : ℕ). value.Int (pos n)) s.hidden) (s.position.input ++ s.position.output) (place_of g k) (n + c) (value.Bool false) (let long = hidden_part s made in omega (arith, place, long))
            ∙ (get-after s.position.input s.position.output (n + c) c (value.Bool false) (let long = input_part s made in omega (arith, long)) ∙ sym (output_value s));
        slot = inr (omega (arith, place), output_is);
      }
    where
      output_value : (s : State) → value_among g.variables s.position k ≡ get_or s.position.output (owned (λ o. not (is_env o)) (take k g.variables)) (value.Bool false)
      output_value s = rw (e, f) refl

      output_is : is_output_variable g.variables k ≡ true
      output_is = rw (e, f) refl

pub placed : (g : GameData) (k : ℕ) → k < length g.variables → IsPlaced g k
placed g k h = let found = there_is g.variables k h in of_owner found.0 found.1 found.0.owner refl
  where
    of_owner : (v : VariableData) → slice_get g.variables k ≡ Some v → (o : Owner) → v.owner ≡ o → IsPlaced g k
    of_owner v e Env f = placed_input g k v e f
    of_owner v e Sys f = placed_output g k v e f

-- ---- hidden tables

pub table_placed : (hs : List HiddenData) (rest : List DomainData) (k : ℕ) (h d : HiddenData) → k < length hs → h ≡ get_or hs k d → get_or (map table_domain hs ++ rest) k TruthValues ≡ table_domain h
table_placed [] rest k h d less e = absurd (omega arith)
table_placed (x ∷ hs) rest zero h d less e = ap table_domain (sym e)
table_placed (x ∷ hs) rest (suc k) h d less e = table_placed hs rest k h d (omega arith) e

-- ---- a variable of the program

data_there : (vars : List Var) (k : ℕ) (v : Var) → k < length vars → v ≡ get_or vars k v → slice_get (map variable_data vars) k ≡ Some (variable_data v)
data_there [] k v h e = absurd (omega arith)
data_there (w ∷ vars) zero v h e = ap (λ (u : Var). Some (variable_data u)) (sym e)
data_there (w ∷ vars) (suc k) v h e = data_there vars k v (omega arith) e

take-data : (vars : List Var) (k : ℕ) → map variable_data (take k vars) ≡ take k (map variable_data vars)
take-data [] zero = refl
take-data [] (suc k) = refl
take-data (w ∷ vars) zero = refl
take-data (w ∷ vars) (suc k) = ap (λ vs. variable_data w ∷ vs) (take-data vars k)

pub place_input : (g : GameData) (vars : List Var) (k : ℕ) (v : Var) → g.variables ≡ map variable_data vars → k < length vars → v ≡ get_or vars k v → v.owner ≡ Env → place_of g k ≡ length g.hidden + count_by (λ v. is_env v.owner) (map variable_data (take k vars))
place_input g vars k v same h e f =
    let there = ap (λ vs. slice_get vs k) same ∙ data_there vars k v h e in
    of_place there ∙ ap (λ vs. length g.hidden + count_by (λ v. is_env v.owner) vs) (ap (take k) same ∙ sym (take-data vars k))
  where
    of_place : slice_get g.variables k ≡ Some (variable_data v) → place_of g k ≡ length g.hidden + count_by (λ v. is_env v.owner) (take k g.variables)
    of_place there = rw (there, f) refl

pub place_output : (g : GameData) (vars : List Var) (k : ℕ) (v : Var) → g.variables ≡ map variable_data vars → k < length vars → v ≡ get_or vars k v → v.owner ≡ Sys → place_of g k ≡ length g.hidden + (count_by (λ v. is_env v.owner) (map variable_data vars) + count_by (λ v. not (is_env v.owner)) (map variable_data (take k vars)))
place_output g vars k v same h e f =
    let there = ap (λ vs. slice_get vs k) same ∙ data_there vars k v h e in
    of_place there
    ∙ (ap (λ vs. length g.hidden + (count_by (λ v. is_env v.owner) vs + count_by (λ v. not (is_env v.owner)) (take k g.variables))) same
    ∙ ap (λ vs. length g.hidden + (count_by (λ v. is_env v.owner) (map variable_data vars) + count_by (λ v. not (is_env v.owner)) vs)) (ap (take k) same ∙ sym (take-data vars k)))
  where
    of_place : slice_get g.variables k ≡ Some (variable_data v) → place_of g k ≡ length g.hidden + (count_by (λ v. is_env v.owner) g.variables + count_by (λ v. not (is_env v.owner)) (take k g.variables))
    of_place there = rw (there, f) refl

pub domain_read : (vars : List Var) (k : ℕ) (v : Var) → k < length vars → v ≡ get_or vars k v → domain_data v.domain ≡ get_or (map (λ (u : VariableData). u.domain) (map variable_data vars)) k TruthValues
domain_read [] k v h e = absurd (omega arith)
domain_read (w ∷ vars) zero v h e = ap (λ (u : Var). domain_data u.domain) e
domain_read (w ∷ vars) (suc k) v h e = domain_read vars k v (omega arith) e

pub domain_well : (vars : List Var) (k : ℕ) (v : Var) → k < length vars → v ≡ get_or vars k v → list_all (λ (u : VariableData). is_domain u.domain) (map variable_data vars) ≡ true → is_domain (domain_data v.domain) ≡ true
domain_well [] k v h e all = absurd (omega arith)
domain_well (w ∷ vars) zero v h e all = ap (λ (u : Var). is_domain (domain_data u.domain)) e ∙ (and_parts (is_domain (domain_data w.domain)) _ all).0
domain_well (w ∷ vars) (suc k) v h e all = domain_well vars k v (omega arith) e (and_parts (is_domain (domain_data w.domain)) _ all).1
