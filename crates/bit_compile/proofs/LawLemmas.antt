-- Bits are those of at most one state, and a state is a value of each domain.
use Rattle.std.proofs.Common.{◌≡◌, ℕ, suc, ◌^◌, ◌<◌, pos, ◌-ℤ◌, ◌≤ℤ◌, Bool, true, false, not, nat_lt, List, [], ◌∷◌, ◌++◌, length, map, get_or, refl, sym, ◌∙◌, ap, arith}
use Rattle.std.proofs.lemmas.Bool.{false≢true, and_parts, and_from}
use Rattle.std.proofs.lemmas.Int.{ints}
use Rattle.std.proofs.lemmas.List.Sums.{passes_at_first}
use Rattle.std.specs.List.{list_any, position_or_len}
use borrow.Author.Tests.{ltb-true}
use Rattle.spec_model.specs.declared.value.Value.{Value}
use Rattle.spec_model.specs.declared.value.Value.TheVariants as value
use Rattle.spec_model.specs.Values.{DomainData, is_assignment, same_value, values_of, rank_of}
use Rattle.spec_model.specs.Moves.{is_env, domains_of}
use Rattle.spec_model.specs.Games.{HiddenData, GameData, State, listed}
use Rattle.spec_model.specs.Steps.{are_hidden_values, is_state, is_input}
use Rattle.spec_model.proofs.AllStates.{same_value-true}
use Rattle.spec_model.proofs.Domains.{in_range}
use Rattle.bit_compile.specs.Domains.{table_domain, state_domains, width_of}
use Rattle.bit_compile.specs.Codes.{level_at, width_at, code_at, domain_in}
use Rattle.bit_compile.specs.CodeLaws.{OneState}
use Rattle.bit_compile.proofs.WidthLemmas.{bits_suffice}
use Rattle.bit_compile.proofs.NumberLemmas.{one_number}
use Rattle.bit_compile.proofs.SlotLemmas.{value_among, length-assignment}

-- where one passes there is a first one
pub any_place : {X : Type 0} (p : X → Bool) (xs : List X) → list_any p xs ≡ true → position_or_len p xs < length xs
any_place p [] e = absurd (false≢true e)
any_place p (x ∷ xs) e = at (p x) refl (any_place p xs)
  where
    at : (b : Bool) → p x ≡ b → (list_any p xs ≡ true → position_or_len p xs < length xs) → position_or_len p (x ∷ xs) < suc (length xs)
    at true eb rest = rw eb (omega arith)
    at false eb rest = let later : list_any p xs ≡ true = rw eb at e in let there = rest later in rw eb (omega (arith, there))

-- the code of a value of the domain has so many digits
pub code_small : (d : DomainData) (v : Value) → list_any (same_value v) (values_of d) ≡ true → rank_of d v < 2 ^ width_of d
code_small d v e = let there = any_place (same_value v) (values_of d) e in let enough = bits_suffice (length (values_of d)) in omega (arith, there, enough)

-- no two values of a domain have the same code
pub one_value : (d : DomainData) (v w : Value) → list_any (same_value v) (values_of d) ≡ true → list_any (same_value w) (values_of d) ≡ true → rank_of d v ≡ rank_of d w → v ≡ w
one_value d v w ev ew same =
    let left = same_value-true v _ (passes_at_first (same_value v) (values_of d) (value.Bool false) (any_place (same_value v) (values_of d) ev)) in
    let right = same_value-true w _ (passes_at_first (same_value w) (values_of d) (value.Bool false) (any_place (same_value w) (values_of d) ew)) in
    left ∙ (ap (λ k. get_or (values_of d) k (value.Bool false)) same ∙ sym right)

same_lists : (vs ws : List Value) → length vs ≡ length ws → ((k : ℕ) → k < length vs → get_or vs k (value.Bool false) ≡ get_or ws k (value.Bool false)) → vs ≡ ws
same_lists [] [] long same = refl
same_lists [] (w ∷ ws) long same = absurd (omega (arith, long))
same_lists (v ∷ vs) [] long same = absurd (omega (arith, long))
same_lists (v ∷ vs) (w ∷ ws) long same =
    let first = same 0 (omega arith) in
    let rest = same_lists vs ws (omega (arith, long)) (λ k h. same (suc k) (omega arith)) in
    cc

pub one_state : (ds : List DomainData) → OneState ds
one_state ds at vs ws s ev ew has_vs has_ws =
    let lv = length-assignment ds vs ev in
    let lw = length-assignment ds ws ew in
    same_lists vs ws (lv ∙ sym lw) (λ k h.
    let known : k < length ds = omega (arith, lv, h) in
    let av = value_among ds vs k ev h in
    let aw = value_among ds ws k ew (omega (arith, lw, known)) in
    one_value (domain_in ds k) _ _ av aw (one_number (level_at ds at k) (width_at ds k) (code_at ds vs k) (code_at ds ws k) s (code_small (domain_in ds k) _ av) (code_small (domain_in ds k) _ aw) (has_vs k known) (has_ws k known)))

both_assignments : (ds es : List DomainData) (vs ws : List Value) → is_assignment ds vs ≡ true → is_assignment es ws ≡ true → is_assignment (ds ++ es) (vs ++ ws) ≡ true
both_assignments [] es [] ws e f = f
both_assignments [] es (v ∷ vs) ws e f = absurd (false≢true e)
both_assignments (d ∷ ds) es [] ws e f = absurd (false≢true e)
both_assignments (d ∷ ds) es (v ∷ vs) ws e f =
    let parts = and_parts (list_any (same_value v) (values_of d)) _ e in
    and_from _ _ parts.0 (both_assignments ds es vs ws parts.1 f)

hidden_assignment : (hs : List HiddenData) (vs : List ℕ) → are_hidden_values hs vs ≡ true → is_assignment (map table_domain hs) (map (λ v. value.Int (pos v)) vs) ≡ true
hidden_assignment [] [] e = refl
hidden_assignment [] (v ∷ vs) e = absurd (false≢true e)
hidden_assignment (h ∷ hs) [] e = absurd (false≢true e)
hidden_assignment (h ∷ hs) (v ∷ vs) e =
    let parts = and_parts (nat_lt v h.values) _ e in
    let below = ltb-true v h.values parts.0 in
    let low : pos 0 ≤ℤ pos v = omega (arith, ints) in
    let high : pos v ≤ℤ (pos h.values -ℤ pos 1) = omega (arith, ints, below) in
    and_from _ _ ((in_range (pos v) (pos 0) (pos h.values -ℤ pos 1)).1 (low, high)) (hidden_assignment hs vs parts.1)

pub state_listed : (g : GameData) (s : State) → is_state g s ≡ true → is_assignment (state_domains g) (listed s) ≡ true
state_listed g s e =
    let parts = and_parts (are_hidden_values g.hidden s.hidden) _ e in
    let moves = and_parts (is_input g s.position.input) _ parts.1 in
    let inputs = domains_of is_env g.variables in
    let outputs = domains_of (λ o. not (is_env o)) g.variables in
    both_assignments (map table_domain g.hidden) (inputs ++ outputs) (map (λ v. value.Int (pos v)) s.hidden) (s.position.input ++ s.position.output)
    (hidden_assignment g.hidden s.hidden parts.0)
    (both_assignments inputs outputs s.position.input s.position.output moves.0 moves.1)
