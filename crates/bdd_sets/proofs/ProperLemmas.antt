-- The bits that have the code of a value in each slot are those of states.
use Rattle.std.proofs.Common.{◌≡◌, ℕ, zero, suc, ◌<◌, ◌⊎◌, pos, ◌-ℤ◌, nat_abs, Bool, true, false, nat_lt, List, [], ◌∷◌, ◌++◌, length, map, get_or, refl, sym, ◌∙◌, ap, subst, arith, inl, inr}
use Rattle.std.proofs.lemmas.Bool.{and_parts, and_from, or_cases, or_left, or_right, false≢true}
use Rattle.std.proofs.lemmas.Int.{ints}
use Rattle.std.proofs.lemmas.List.{map-append}
use Rattle.std.specs.List.{list_any}
use borrow.Author.Tests.{lt-ltb}
use Rattle.spec_model.specs.declared.value.Value.{Value}
use Rattle.spec_model.specs.declared.value.Value.TheVariants as value
use Rattle.spec_model.specs.Values.{DomainData, is_assignment, same_value, values_of, rank_of}
use Rattle.spec_model.specs.Diagrams.{Bits, Function}
use Rattle.spec_model.specs.Moves.{is_env, domains_of}
use Rattle.spec_model.specs.Games.{GameData, HiddenData, State, listed}
use Rattle.spec_model.specs.Steps.{below, is_state, are_hidden_values}
use Rattle.spec_model.specs.Sets.{all_states}
use Rattle.spec_model.proofs.AllStates.{same_value-true}
use Rattle.spec_model.proofs.Domains.{in_range, none_in_range, no_number}
use Rattle.game_values.specs.declared.seen.At.{At}
use Rattle.bit_compile.specs.Domains.{state_domains, table_domain}
use Rattle.bit_compile.specs.Codes.{HasValues, domain_in}
use Rattle.bit_compile.specs.Compiled.{Case, is_code, all_of}
use Rattle.bit_compile.specs.Proper.{has_some_value, proper, AreOfValues}
use Rattle.bit_compile.proofs.Describing.{same_value-refl}
use Rattle.bit_compile.proofs.SlotLemmas.{value_among, length-assignment}
use Rattle.bit_compile.proofs.LawLemmas.{state_listed}
use Rattle.bdd_sets.specs.StateBits.{Tells}
use Rattle.bdd_sets.proofs.SetLemmas.{tells_by}

-- ---- one slot

module _ (F : Value → Function) (s : Bits) where
  abbrev some_holds : List Value → Bool
  some_holds vs = list_any (λ (f : Function). f s) (map (λ (c : Case). c.holds) (map (λ v. record { value = v; holds = F v }) vs))

  some_value : (vs : List Value) → some_holds vs ≡ true → (v : Value) × (list_any (same_value v) vs ≡ true) × (F v s ≡ true)
  some_value [] e = absurd (false≢true e)
  some_value (w ∷ vs) e =
      elim (or_cases (F w s) (some_holds vs) e) [
        | inl here ↦ (w, or_left _ _ (same_value-refl w), here)
        | inr later ↦ (let v = some_value vs later in (v.0, or_right _ _ v.1, v.2))
      ]

  value_holds : (vs : List Value) (v : Value) → list_any (same_value v) vs ≡ true → F v s ≡ true → some_holds vs ≡ true
  value_holds [] v among has = absurd (false≢true among)
  value_holds (w ∷ vs) v among has =
      elim (or_cases (same_value v w) (list_any (same_value v) vs) among) [
        | inl here ↦ or_left _ _ (subst (λ u. F u s ≡ true) (same_value-true v w here) has)
        | inr later ↦ or_right _ _ (value_holds vs v later has)
      ]

-- ---- all slots

all_append : (fs : List Function) (f : Function) (s : Bits) → all_of (fs ++ f ∷ []) s ≡ true → (all_of fs s ≡ true) × (f s ≡ true)
all_append [] f s e = (refl, (and_parts (f s) true e).0)
all_append (g ∷ fs) f s e =
    let parts = and_parts (g s) (all_of (fs ++ f ∷ []) s) e in
    let rest = all_append fs f s parts.1 in
    (and_from _ _ parts.0 rest.0, rest.1)

append_all : (fs : List Function) (f : Function) (s : Bits) → all_of fs s ≡ true → f s ≡ true → all_of (fs ++ f ∷ []) s ≡ true
append_all [] f s e here = and_from _ _ here refl
append_all (g ∷ fs) f s e here = let parts = and_parts (g s) (all_of fs s) e in and_from _ _ parts.0 (append_all fs f s parts.1 here)

module _ (F : ℕ → Function) (s : Bits) where
  each_below : (n : ℕ) → all_of (map F (below n)) s ≡ true → (k : ℕ) → k < n → F k s ≡ true
  each_below zero e k less = absurd (omega arith)
  each_below (suc n) e k less =
      let both = all_append (map F (below n)) (F n) s (subst (λ (fs : List Function). all_of fs s ≡ true) (map-append F (below n) (n ∷ [])) e) in
      let last_or : (k < n) ⊎ (k ≡ n) = grind arith in
      elim last_or [ inl before ↦ each_below n both.0 k before | inr is ↦ subst (λ j. F j s ≡ true) (sym is) both.1 ]

  below_each : (n : ℕ) → ((k : ℕ) → k < n → F k s ≡ true) → all_of (map F (below n)) s ≡ true
  below_each zero each = refl
  below_each (suc n) each =
      subst (λ (fs : List Function). all_of fs s ≡ true) (sym (map-append F (below n) (n ∷ [])))
      (append_all (map F (below n)) (F n) s (below_each n (λ k less. each k (omega arith))) (each n (omega arith)))

-- a value for each domain, where there is one
module _ (ds : List DomainData) (P : ℕ → Value → Type 0) where
  pub record Chosen : Type 0 where
    pub values : List Value
    pub are_values : is_assignment ds values ≡ true
    pub each : (k : ℕ) → k < length ds → P k (get_or values k (value.Bool false))

choose : (ds : List DomainData) (P : ℕ → Value → Type 0) → ((k : ℕ) → k < length ds → (v : Value) × (list_any (same_value v) (values_of (domain_in ds k)) ≡ true) × P k v) → Chosen ds P
choose [] P some = record { values = []; are_values = refl; each = λ k less. absurd (omega arith) }
choose (d ∷ ds) P some =
    let first = some 0 (omega arith) in
    let rest = choose ds (λ k v. P (suc k) v) (λ k less. some (suc k) (omega arith)) in
    record { values = first.0 ∷ rest.values; are_values = and_from _ _ first.1 rest.are_values; each = at first.0 first.2 rest.values rest.each }
  where
    at : (v : Value) → P 0 v → (vs : List Value) → ((k : ℕ) → k < length ds → P (suc k) (get_or vs k (value.Bool false))) → (k : ℕ) → k < suc (length ds) → P k (get_or (v ∷ vs) k (value.Bool false))
    at v here vs later zero less = here
    at v here vs later (suc k) less = later k (omega arith)

module _ (ds : List DomainData) (at : At) (s : Bits) where
  -- bits that are proper are those of values
  pub proper_values : proper ds at s ≡ true → AreOfValues ds at s
  proper_values e =
      let chosen = choose ds (λ k v. is_code ds at k (rank_of (domain_in ds k) v) s ≡ true) (λ k less. some_value (λ v. is_code ds at k (rank_of (domain_in ds k) v)) s (values_of (domain_in ds k)) (each_below (has_some_value ds at) s (length ds) e k less)) in
      record { values = chosen.values; are_values = chosen.are_values; have = chosen.each }

  -- and bits of values are proper
  pub values_proper : (vs : List Value) → is_assignment ds vs ≡ true → HasValues ds at vs s → proper ds at s ≡ true
  values_proper vs are has =
      let long = length-assignment ds vs are in
      below_each (has_some_value ds at) s (length ds) (λ k less. value_holds (λ v. is_code ds at k (rank_of (domain_in ds k) v)) s (values_of (domain_in ds k)) (get_or vs k (value.Bool false)) (value_among ds vs k are (omega (arith, long, less))) (has k less))

-- ---- states

pub record Split (ds es : List DomainData) (vs : List Value) : Type 0 where
  pub first : List Value
  pub second : List Value
  pub joined_are : first ++ second ≡ vs
  pub first_are : is_assignment ds first ≡ true
  pub second_are : is_assignment es second ≡ true

split_values : (ds es : List DomainData) (vs : List Value) → is_assignment (ds ++ es) vs ≡ true → Split ds es vs
split_values [] es vs e = record { first = []; second = vs; joined_are = refl; first_are = refl; second_are = e }
split_values (d ∷ ds) es [] e = absurd (false≢true e)
split_values (d ∷ ds) es (v ∷ vs) e =
    let parts = and_parts (list_any (same_value v) (values_of d)) (is_assignment (ds ++ es) vs) e in
    let rest = split_values ds es vs parts.1 in
    record { first = v ∷ rest.first; second = rest.second; joined_are = ap (λ ws. v ∷ ws) rest.joined_are; first_are = and_from _ _ parts.0 rest.first_are; second_are = rest.second_are }

-- a value of a table's domain is a number below its number of values
table_value : (h : HiddenData) (v : Value) → list_any (same_value v) (values_of (table_domain h)) ≡ true → (n : ℕ) × (value.Int (pos n) ≡ v) × (nat_lt n h.values ≡ true)
table_value h (value.Bool b) e = absurd (false≢true (sym (none_in_range (value.Bool b) (no_number (value.Bool b) (inl (b, refl))) (pos 0) (pos h.values -ℤ pos 1)) ∙ e))
table_value h (value.Name n) e = absurd (false≢true (sym (none_in_range (value.Name n) (no_number (value.Name n) (inr (n, refl))) (pos 0) (pos h.values -ℤ pos 1)) ∙ e))
table_value h (value.Int z) e =
    let ends = (in_range z (pos 0) (pos h.values -ℤ pos 1)).0 e in
    let low = ends.0 in
    let high = ends.1 in
    let is : pos (nat_abs z) ≡ z = grind (arith, ints) in
    let less : nat_abs z < h.values = grind (arith, ints) in
    (nat_abs z, ap value.Int is, lt-ltb (nat_abs z) h.values less)

table_values : (hs : List HiddenData) (vs : List Value) → is_assignment (map table_domain hs) vs ≡ true → (ns : List ℕ) × (map (λ n. value.Int (pos n)) ns ≡ vs) × (are_hidden_values hs ns ≡ true)
table_values [] [] e = ([], refl, refl)
table_values [] (v ∷ vs) e = absurd (false≢true e)
table_values (h ∷ hs) [] e = absurd (false≢true e)
table_values (h ∷ hs) (v ∷ vs) e =
    let parts = and_parts (list_any (same_value v) (values_of (table_domain h))) (is_assignment (map table_domain hs) vs) e in
    let first = table_value h v parts.0 in
    let rest = table_values hs vs parts.1 in
    (first.0 ∷ rest.0, ap (λ w. w ∷ map (λ n. value.Int (pos n)) rest.0) first.1 ∙ ap (λ ws. v ∷ ws) rest.1, and_from _ _ first.2 rest.2)

module _ (g : GameData) where
  -- values of the domains of a state are a state's
  pub state_of : (vs : List Value) → is_assignment (state_domains g) vs ≡ true → (s : State) × (is_state g s ≡ true) × (listed s ≡ vs)
  state_of vs e =
      let inputs = domains_of is_env g.variables in
      let parts = split_values (map table_domain g.hidden) _ vs e in
      let moves = split_values inputs _ parts.second parts.second_are in
      let tables = table_values g.hidden parts.first parts.first_are in
      let s : State = record { hidden = tables.0; position = record { input = moves.first; output = moves.second } } in
      (s, and_from _ _ tables.2 (and_from _ _ moves.first_are moves.second_are), ap (λ ws. ws ++ (moves.first ++ moves.second)) tables.1 ∙ (ap (λ ws. parts.first ++ ws) moves.joined_are ∙ parts.joined_are))

  -- the proper bits are those of all states
  pub proper_tells : (at : At) → Tells g at (proper (state_domains g) at) (all_states g)
  proper_tells at =
      tells_by g at (proper (state_domains g) at) (all_states g) (λ s here. here)
      (λ s b here has. values_proper (state_domains g) at b (listed s) (state_listed g s here) has ∙ sym here)
      (λ b e.
      let of = proper_values (state_domains g) at b e in
      let s = state_of of.values of.are_values in
      (s.0, s.1, subst (λ ws. HasValues (state_domains g) at ws b) (sym s.2) of.have))
