-- A compiled formula is the formula's value at the bits of a state and the next one.
use Rattle.std.proofs.Common.{◌≡◌, ℕ, zero, suc, ◌+◌, ◌<◌, pos, inl, inr, ◌⊎◌, true, false, not, List, [], ◌∷◌, ◌++◌, map, length, length-append, option_map, slice_get, get_or, refl, sym, ◌∙◌, ap, subst, arith}
use Rattle.std.specs.List.{list_any, list_all}
use Rattle.std.specs.Prelude.{IsTrue}
use Rattle.std.proofs.lemmas.Bool.{and_parts, false≢true}
use Rattle.std.proofs.lemmas.List.{length-map}
use Rattle.spec_model.specs.declared.value.Value.{Value}
use Rattle.spec_model.specs.declared.value.Value.TheVariants as value
use Rattle.spec_model.specs.Values.{DomainData, same_value, values_of, rank_of}
use Rattle.spec_model.specs.Syntax.{Formula}
use Rattle.spec_model.specs.Meaning.{holds_at}
use Rattle.spec_model.specs.Typing.{kind_of, kind_of_domain, is_truth}
use Rattle.spec_model.specs.Moves.{is_env, domains_of, has_next, value_among}
use Rattle.spec_model.specs.Games.{GameData, HiddenData, State, listed, step_reading, nothing_read, readout_of, entry_at}
use Rattle.spec_model.specs.Steps.{is_state, is_input, is_output, are_hidden_values, is_output_variable}
use Rattle.spec_model.specs.WellMade.{WellMade, is_domain, is_step_formula, is_stepwise, scope_of, awaits_output}
use Rattle.spec_model.specs.Diagrams.{Bits}
use Rattle.game_values.specs.declared.seen.At.{At}
use Rattle.game_values.specs.declared.seen.At.TheVariants.{Now, Next}
use Rattle.game_values.proofs.Spans.{IsWithin}
use Rattle.game_values.proofs.Safe.{IsTyped}
use Rattle.game_values.proofs.Typed.{typed_among}
use Rattle.bit_compile.specs.Domains.{state_domains, table_domain}
use Rattle.bit_compile.specs.Codes.{HasValues, code_at, domain_in}
use Rattle.bit_compile.specs.Compiled.{is_code, coded, place_of, variable_domain, entry_of, entries_of, compiled}
use Rattle.bit_compile.specs.CompileLaws.{IsInputSlot, IsOutputSlot, HasAwaited}
use Rattle.bit_compile.proofs.SlotLemmas.{value_among as among_domain, length-assignment}
use Rattle.bit_compile.proofs.LawLemmas.{state_listed}
use Rattle.bit_compile.proofs.Describing.{Describes, describes_code}
use Rattle.bit_compile.proofs.Meanings.{Reads, IsHad, means, some_truth}
use Rattle.bit_compile.proofs.ReadVariables.{reads}
use Rattle.bit_compile.proofs.Knowing.{domains_made}
use Rattle.bit_compile.proofs.TableMeanings.{HaveValues, AreRead, all_read}
use Rattle.bit_compile.proofs.Places.{placed, table_placed, get-before, hidden_long}

get-numbers : (vs : List ℕ) (i v : ℕ) → i < length vs → v ≡ get_or vs i v → get_or (map (λ (n : ℕ). value.Int (pos n)) vs) i (value.Bool false) ≡ value.Int (pos v)
get-numbers [] i v h e = absurd (omega arith)
get-numbers (n ∷ vs) zero v h e = ap (λ (m : ℕ). value.Int (pos m)) (sym e)
get-numbers (n ∷ vs) (suc i) v h e = get-numbers vs i v (omega arith) e

module _ (g : GameData) (s : State) (made : is_state g s ≡ true) (bits : Bits) where
  abbrev ds : List DomainData
  ds = state_domains g

  listed_long : length (listed s) ≡ length ds
  listed_long = length-assignment ds (listed s) (state_listed g s made)

  -- what stands at a place, where the place has its code
  described_at : (at : At) (k : ℕ) (d : DomainData) (w : Value) → k < length ds → domain_in ds k ≡ d → get_or (listed s) k (value.Bool false) ≡ w → is_code ds at k (code_at ds (listed s) k) bits ≡ true → Describes (coded ds at k d) w bits
  described_at at k d w h is_domain_of is_value has =
      let among = among_domain ds (listed s) k (state_listed g s made) (let long = listed_long in omega (arith, long, h)) in
      let among_d = subst (λ (e : DomainData). list_any (same_value (get_or (listed s) k (value.Bool false))) (values_of e) ≡ true) is_domain_of among in
      let among_w = subst (λ (v : Value). list_any (same_value v) (values_of d) ≡ true) is_value among_d in
      let has_d = subst (λ (e : DomainData). is_code ds at k (rank_of e (get_or (listed s) k (value.Bool false))) bits ≡ true) is_domain_of has in
      let has_w = subst (λ (v : Value). is_code ds at k (rank_of d v) bits ≡ true) is_value has_d in
      describes_code ds at k d w bits is_domain_of among_w has_w

  pub variable_described : (at : At) (k : ℕ) → k < length g.variables → is_code ds at (place_of g k) (code_at ds (listed s) (place_of g k)) bits ≡ true → Describes (coded ds at (place_of g k) (variable_domain g k)) (value_among g.variables s.position k) bits
  variable_described at k h has = let p = placed g k h in described_at at (place_of g k) (variable_domain g k) (value_among g.variables s.position k) p.within p.domain (p.value s made) has

  table_described : (at : At) → HasValues ds at (listed s) bits → (i v : ℕ) (h : HiddenData) → i < length g.hidden → h ≡ get_or g.hidden i h → v ≡ get_or s.hidden i v → Describes (coded ds at i (table_domain h)) (value.Int (pos v)) bits
  table_described at has i v h less is_h is_v =
      let long = hidden_long g.hidden s.hidden (and_parts (are_hidden_values g.hidden s.hidden) _ made).0 in
      let numbers = length-map s.hidden (λ (n : ℕ). value.Int (pos n)) in
      let within : i < length ds = places_before i less in
      described_at at i (table_domain h) (value.Int (pos v)) within (table_placed g.hidden _ i h h less is_h)
      (get-before (map (λ (n : ℕ). value.Int (pos n)) s.hidden) _ i (value.Bool false) (omega (arith, long, numbers, less)) ∙ get-numbers s.hidden i v (omega (arith, long, less)) is_v) (has i within)
    where
      places_before : (i : ℕ) → i < length g.hidden → i < length ds
      places_before i less =
          let all = length-append (map table_domain g.hidden) (domains_of is_env g.variables ++ domains_of (λ o. not (is_env o)) g.variables) in
          let tables = length-map g.hidden table_domain in
          omega (arith, all, tables, less)

  have_from : (at : At) (j : ℕ) (hs : List HiddenData) (vs : List ℕ) → length vs ≡ length hs → ((i v : ℕ) (h : HiddenData) → i < length hs → h ≡ get_or hs i h → v ≡ get_or vs i v → Describes (coded ds at (j + i) (table_domain h)) (value.Int (pos v)) bits) → HaveValues g bits at j hs vs
  have_from at j [] vs long each = tt
  have_from at j (h ∷ hs) [] long each = absurd (omega (arith, long))
  have_from at j (h ∷ hs) (v ∷ vs) long each = (
    (let here : j + 0 ≡ j = omega arith in subst (λ (k : ℕ). Describes (coded ds at k (table_domain h)) (value.Int (pos v)) bits) here (each 0 v h (omega arith) refl refl)),
    have_from at (suc j) hs vs (omega (arith, long)) (λ i w k less is_k is_w. (let there : j + suc i ≡ suc j + i = omega arith in subst (λ (m : ℕ). Describes (coded ds at m (table_domain k)) (value.Int (pos w)) bits) there (each (suc i) w k (omega arith) is_k is_w))),
  )

  -- the slots of all tables have the codes of their values
  pub tables_had : (at : At) → HasValues ds at (listed s) bits → HaveValues g bits at 0 g.hidden s.hidden
  tables_had at has =
      have_from at 0 g.hidden s.hidden (hidden_long g.hidden s.hidden (and_parts (are_hidden_values g.hidden s.hidden) _ made).0)
      (λ i v h less is_h is_v. (let same : 0 + i ≡ i = omega arith in subst (λ (m : ℕ). Describes (coded ds at m (table_domain h)) (value.Int (pos v)) bits) (sym same) (table_described at has i v h less is_h is_v)))

  moves_made : (is_input g s.position.input ≡ true) × (is_output g s.position.output ≡ true)
  moves_made = and_parts (is_input g s.position.input) (is_output g s.position.output) (and_parts (are_hidden_values g.hidden s.hidden) _ made).1

  pub typed_state : (k : ℕ) → IsWithin (option_map kind_of_domain (slice_get (map (λ v. v.domain) g.variables) k)) (value_among g.variables s.position k)
  typed_state k = typed_among g.variables s.position.input s.position.output moves_made.0 moves_made.1 k

  module _ (has : HasValues ds Now (listed s) bits) where
    pub had_now : (k : ℕ) → k < length g.variables → Describes (coded ds Now (place_of g k) (variable_domain g k)) (value_among g.variables s.position k) bits
    had_now k h = variable_described Now k h (has (place_of g k) (placed g k h).within)

    pub entries_had : WellMade g → AreRead (entries_of g g.hidden) (readout_of g s).entries bits
    entries_had well =
        all_read g s.position bits typed_state had_now g.hidden s.hidden (record { domains = map (λ v. v.domain) g.variables; tables = [] }) refl (domains_made g.variables well.domains) well.hidden [] nothing_read
        (tables_had Now has) (record { many = refl; same = λ h n. refl })

pub compiled_means : (g : GameData) → WellMade g → (e : Formula) → is_step_formula (scope_of g) e ≡ true → (s s' : State) (bits : Bits) → IsTrue (is_state g s) → IsTrue (is_state g s') → HasValues (state_domains g) Now (listed s) bits → HasAwaited g e s' bits → compiled g e bits ≡ holds_at (step_reading g s s') e 0
compiled_means g well e made s s' bits is_s is_s' has awaited =
    let parts = and_parts (is_truth (kind_of (scope_of g) e)) (is_stepwise false e) made in
    let all = domains_made g.variables well.domains in
    (means g (entries_of g g.hidden) (scope_of g) refl all (step_reading g s s') typed bits entry e Now (some_truth (kind_of (scope_of g) e) parts.0) parts.1 (reads_all all parts)).truth parts.0
  where
    typed : IsTyped (scope_of g) (step_reading g s s')
    typed k zero = typed_state g s is_s bits k
    typed k (suc t) = typed_state g s' is_s' bits k

    entry : (h n : ℕ) → entry_of (entries_of g g.hidden) h n bits ≡ entry_at g s h n
    entry = (entries_had g s is_s bits has well).same

    next : (k : ℕ) → k < length g.variables → has_next e ≡ true → (is_output_variable g.variables k ≡ true → awaits_output g.variables false e ≡ true) → Describes (coded (state_domains g) Next (place_of g k) (variable_domain g k)) (value_among g.variables s'.position k) bits
    next k h reads_next output = variable_described g s' is_s' bits Next k h (awaited (place_of g k) (placed g k h).within (reads_next, by_slot (placed g k h).slot))
      where
        by_slot : IsInputSlot g (place_of g k) ⊎ (IsOutputSlot g (place_of g k) × (is_output_variable g.variables k ≡ true)) → IsInputSlot g (place_of g k) ⊎ ((awaits_output g.variables false e ≡ true) × IsOutputSlot g (place_of g k))
        by_slot (inl input) = inl input
        by_slot (inr out) = inr (output out.1, out.0)

    reads_all : (all : list_all is_domain (map (λ v. v.domain) g.variables) ≡ true) → (is_truth (kind_of (scope_of g) e) ≡ true) × (is_stepwise false e ≡ true) → Reads (IsHad g (entries_of g g.hidden) (scope_of g) refl all (step_reading g s s') typed bits) Now e
    reads_all all parts =
        reads g (scope_of g) refl (IsHad g (entries_of g g.hidden) (scope_of g) refl all (step_reading g s s') typed bits) (has_next e ≡ true) (awaits_output g.variables false e ≡ true) (had_now g s is_s bits has) next e Now (some_truth (kind_of (scope_of g) e) parts.0) parts.1
        (record { reads_next = λ h. h; reads_output = λ h. h; here = λ h. absurd (false≢true h) })
