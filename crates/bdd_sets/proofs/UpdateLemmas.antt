-- The updates of hidden tables tell whether the next hidden values are the ones that follow.
use Rattle.std.proofs.Common.{◌≡◌, ℕ, zero, suc, ◌+◌, ◌<◌, pos, ◌-ℤ◌, ◌≤ℤ◌, Bool, true, not, ◌==◌, ◌&&◌, nat_lt, Some, None, List, [], ◌∷◌, ◌++◌, map, length, length-append, get_or, inl, inr, refl, sym, ◌∙◌, ap, subst, arith}
use Rattle.std.specs.List.{list_all, list_any, AllByRecursion}
use Rattle.std.proofs.lemmas.Bool.{and_parts, or_cases, false≢true}
use Rattle.std.proofs.lemmas.Int.{ints}
use Rattle.std.proofs.lemmas.List.{length-map}
use borrow.Author.Tests.{ltb-true}
use Rattle.spec_model.specs.declared.value.Value.{Value}
use Rattle.spec_model.specs.declared.value.Value.TheVariants as value
use Rattle.spec_model.specs.Values.{DomainData, same_value, values_of, rank_of}
use Rattle.spec_model.specs.Diagrams.{Bits, Function}
use Rattle.spec_model.specs.Typing.{Scope}
use Rattle.spec_model.specs.Moves.{is_env, domains_of}
use Rattle.spec_model.specs.Games.{GameData, HiddenData, State, first_hidden, next_hidden}
use Rattle.spec_model.specs.Steps.{Before, is_state, are_hidden_values}
use Rattle.spec_model.specs.WellMade.{WellMade, is_table, are_tables}
use Rattle.spec_model.proofs.AllStates.{same_value-true}
use Rattle.spec_model.proofs.Domains.{in_range}
use Rattle.regions.specs.declared.types.When.{When}
use Rattle.regions.specs.declared.types.When.TheVariants.{First, Later}
use Rattle.regions.specs.Rules.{is_time}
use Rattle.game_values.specs.declared.seen.At.TheVariants.{Next}
use Rattle.bit_compile.specs.Domains.{state_domains, table_domain}
use Rattle.bit_compile.specs.Compiled.{Case, coded, is_code, never, updates_of}
use Rattle.bit_compile.proofs.Describing.{Describes, same_value-sym}
use Rattle.bit_compile.proofs.DomainLemmas.{place-whole}
use Rattle.bit_compile.proofs.Places.{hidden_long}
use Rattle.bit_compile.proofs.TableMeanings.{HaveValues}
use Rattle.bit_compile.proofs.FormulaMeanings.{tables_had}
use Rattle.bit_compile.proofs.UpdateMeanings.{agree, hidden_next_long, int_eq-pos, updates_long, updates_mean}
use Rattle.bdd_sets.specs.Members.{all_true}
use Rattle.bdd_sets.specs.StateBits.{HasState}
use Rattle.bdd_sets.specs.ToldMoves.{HasBefore, TellsMoves, follows, same_numbers}
use Rattle.bdd_sets.specs.Updates.{starts_from, update_functions}

-- ---- all of several functions

all_true-values : (fs : List Function) (s : Bits) → all_true fs s ≡ list_all (λ b. b) (map (λ (f : Function). f s) fs)
all_true-values [] s = refl
all_true-values (f ∷ fs) s = ap (λ b. f s && b) (all_true-values fs s)

all_agree : (ms ns : List ℕ) → length ms ≡ length ns → list_all (λ b. b) (agree ms ns) ≡ same_numbers ms ns
all_agree [] [] long = refl
all_agree [] (n ∷ ns) long = absurd (omega (arith, long))
all_agree (m ∷ ms) [] long = absurd (omega (arith, long))
all_agree (m ∷ ms) (n ∷ ns) long = ap (λ b. (m == n) && b) (all_agree ms ns (omega (arith, long)))

-- functions that are true where these numbers are those are all true where the lists are one
all_same : (fs : List Function) (s : Bits) (ms ns : List ℕ) → map (λ (f : Function). f s) fs ≡ agree ms ns → length ms ≡ length ns → all_true fs s ≡ same_numbers ms ns
all_same fs s ms ns are long = all_true-values fs s ∙ (ap (list_all (λ b. b)) are ∙ all_agree ms ns long)

-- ---- first values

-- a case among several is had where its value is the one that is had
case_had : (f : Value → Function) (s : Bits) (w u : Value) (vs : List Value) → list_any (same_value u) vs ≡ true → AllByRecursion (λ (c : Case). c.holds s ≡ same_value c.value w) (map (λ v. record { value = v; holds = f v }) vs) → f u s ≡ same_value u w
case_had f s w u [] among exact = absurd (false≢true among)
case_had f s w u (v ∷ vs) among exact = elim (or_cases (same_value u v) _ among) [
  | inl here ↦ subst (λ (x : Value). f x s ≡ same_value x w) (sym (same_value-true u v here)) exact.0
  | inr later ↦ case_had f s w u vs later exact.1
]

code_had : (ds : List DomainData) (k n first : ℕ) (h : HiddenData) (s : Bits) → first < h.values → Describes (coded ds Next k (table_domain h)) (value.Int (pos n)) s → is_code ds Next k first s ≡ (n == first)
code_had ds k n first h s small is =
    let low : pos 0 ≤ℤ pos first = omega (arith, ints) in
    let high : pos first ≤ℤ (pos h.values -ℤ pos 1) = omega (arith, ints, small) in
    let among = (in_range (pos first) (pos 0) (pos h.values -ℤ pos 1)).1 (low, high) in
    let place : rank_of (table_domain h) (value.Int (pos first)) ≡ first = place-whole (pos 0) (pos h.values -ℤ pos 1) (pos first) low high ∙ omega (arith, ints) in
    ap (λ c. is_code ds Next k c s) (sym place)
    ∙ (case_had (λ v. is_code ds Next k (rank_of (table_domain h) v)) s (value.Int (pos n)) (value.Int (pos first)) (values_of (table_domain h)) among is.exact
    ∙ (same_value-sym (value.Int (pos first)) (value.Int (pos n)) ∙ int_eq-pos n first))

starts_agree : (g : GameData) (s : Bits) (sc : Scope) (k : ℕ) (hs : List HiddenData) (ns : List ℕ) → are_tables sc hs ≡ true → HaveValues g s Next k hs ns → length ns ≡ length hs → map (λ (f : Function). f s) (starts_from (state_domains g) k hs) ≡ agree ns (map (λ h. h.first) hs)
starts_agree g s sc k [] [] tables have long = refl
starts_agree g s sc k [] (n ∷ ns) tables have long = absurd (omega (arith, long))
starts_agree g s sc k (h ∷ hs) [] tables have long = absurd have
starts_agree g s sc k (h ∷ hs) (n ∷ ns) tables have long =
    let parts = and_parts (is_table sc h) _ tables in
    let small = ltb-true h.first h.values (and_parts (nat_lt h.first h.values) _ parts.0).0 in
    ap (λ (b : Bool). b ∷ map (λ (f : Function). f s) (starts_from (state_domains g) (suc k) hs)) (code_had (state_domains g) k n h.first h s small have.0)
    ∙ ap (λ (bs : List Bool). (n == h.first) ∷ bs) (starts_agree g s _ (suc k) hs ns parts.1 have.1 (omega (arith, long)))

-- ---- all updates

pub tells_update : (g : GameData) → WellMade g → (when : When) → TellsMoves g when (all_true (update_functions g when)) (follows g)
tells_update g well First = record { at_moves = at_first }
  where
    at_first : (b : Before) (s : State) (bits : Bits) → is_time g First b ≡ true → is_state g s ≡ true → HasBefore g b bits → HasState g Next s bits → all_true (update_functions g First) bits ≡ follows g b s
    at_first (Some r) s bits time is_s before next = absurd (false≢true time)
    at_first None s bits time is_s before next =
        let long = hidden_long g.hidden s.hidden (and_parts (are_hidden_values g.hidden s.hidden) _ is_s).0 in
        all_same (starts_from (state_domains g) 0 g.hidden) bits s.hidden (first_hidden g) (starts_agree g bits _ 0 g.hidden s.hidden well.hidden (tables_had g s is_s bits Next next) long)
        (long ∙ sym (length-map g.hidden (λ (h : HiddenData). h.first)))
tells_update g well Later = record { at_moves = at_later }
  where
    at_later : (b : Before) (s : State) (bits : Bits) → is_time g Later b ≡ true → is_state g s ≡ true → HasBefore g b bits → HasState g Next s bits → all_true (update_functions g Later) bits ≡ follows g b s
    at_later None s bits time is_s before next = absurd (false≢true time)
    at_later (Some r) s bits time is_s before next =
        let long = hidden_long g.hidden s.hidden (and_parts (are_hidden_values g.hidden s.hidden) _ is_s).0 in
        all_same (updates_of g) bits s.hidden (next_hidden g r) (updates_mean g well r s bits time is_s before next) (long ∙ sym (hidden_next_long g r time))

-- ---- the functions in order

pub update_functions_long : (g : GameData) (when : When) → length (update_functions g when) ≡ length g.hidden
update_functions_long g First = long 0 g.hidden
  where
    long : (k : ℕ) (hs : List HiddenData) → length (starts_from (state_domains g) k hs) ≡ length hs
    long k [] = refl
    long k (h ∷ hs) = ap suc (long (suc k) hs)
update_functions_long g Later = updates_long g [] g.hidden

starts_from-get : (ds : List DomainData) (j i k : ℕ) (hs : List HiddenData) (h : HiddenData) → i < length hs → h ≡ get_or hs i h → k ≡ j + i → get_or (starts_from ds j hs) i never ≡ is_code ds Next k h.first
starts_from-get ds j i k [] h less is there = absurd (omega arith)
starts_from-get ds j zero k (x ∷ hs) h less is there = let same : k ≡ j = omega (arith, there) in ap (λ (y : HiddenData). is_code ds Next j y.first) (sym is) ∙ ap (λ m. is_code ds Next m h.first) (sym same)
starts_from-get ds j (suc i) k (x ∷ hs) h less is there = starts_from-get ds (suc j) i k hs h (omega arith) is (omega (arith, there))

pub start_there : (g : GameData) (k : ℕ) (h : HiddenData) → k < length g.hidden → h ≡ get_or g.hidden k h → get_or (update_functions g First) k never ≡ is_code (state_domains g) Next k h.first
start_there g k h less is = starts_from-get (state_domains g) 0 k k g.hidden h less is (omega arith)

-- a table has a slot
pub hidden_slot : (g : GameData) (ds : List DomainData) (k : ℕ) → ds ≡ state_domains g → k < length g.hidden → k < length ds
hidden_slot g ds k is less =
    let same = ap length is in
    let joined = length-append (map table_domain g.hidden) (domains_of is_env g.variables ++ domains_of (λ o. not (is_env o)) g.variables) in
    let tables = length-map g.hidden table_domain in
    omega (arith, same, joined, tables, less)
