-- The entries of the tables at their cells.
use Rattle.std.proofs.Common.{◌≡◌, ℕ, zero, suc, ◌+◌, ◌<◌, ◌≤◌, pos, Bool, true, false, not, nat_lt, List, [], ◌∷◌, ◌++◌, length, map, take, drop, get_or, slice_set, slice_index, cond, count_by, refl, sym, ap, ◌∙◌, arith}
use Rattle.std.proofs.lemmas.Bool.{and_parts, false≢true}
use Rattle.spec_model.specs.declared.value.Value.{Value}
use Rattle.spec_model.specs.declared.value.Value.TheVariants as value
use Rattle.spec_model.specs.declared.game.Hidden.{Hidden}
use Rattle.spec_model.specs.GameViews.{hidden_data}
use Rattle.spec_model.specs.Games.{GameData, State, listed, HiddenData, Readout, entries_in, read_table, nothing_read, present_reading}
use Rattle.spec_model.specs.Values.{DomainData, Assignment, is_assignment}
use Rattle.spec_model.specs.declared.value.Owner.{Owner}
use Rattle.spec_model.specs.Moves.{is_env, domains_of, value_among}
use Rattle.spec_model.specs.Syntax.{VariableData}
use Rattle.spec_model.specs.Rules.{Position}
use Rattle.game_values.proofs.Safe.{IsTyped}
use Rattle.game_values.proofs.Typed.{typed_among, count-cons}
use Rattle.std.proofs.lemmas.List.{length-map, length-append}
use Rattle.spec_model.specs.Steps.{are_hidden_values, is_state}
use Rattle.game_play.specs.Sights.{cell_in, entries_at, nexts_at, read_so_far, seen_reading}

pub entries_here : (hs : List Hidden) (cells : List Value) (k : ℕ) → k < length hs → k < length cells → (h : Hidden) → h ≡ get_or hs k h → (d : Value) →
    get_or (entries_at (map hidden_data hs) cells) k [] ≡ entries_in (hidden_data h) (cell_in (get_or cells k d))
entries_here [] cells k below in_cells h is d = absurd (omega arith)
entries_here (g ∷ hs) [] k below in_cells h is d = absurd (omega arith)
entries_here (g ∷ hs) (c ∷ cells) zero below in_cells h is d = ap (λ (j : Hidden). entries_in (hidden_data j) (cell_in c)) (sym is)
entries_here (g ∷ hs) (c ∷ cells) (suc k) below in_cells h is d = entries_here hs cells k (omega arith) (omega arith) h is d

pub entries_none : (hs : List Hidden) (cells : List Value) (k : ℕ) → (k < length hs → k < length cells → ⊥) → get_or (entries_at (map hidden_data hs) cells) k [] ≡ []
entries_none [] cells k out = refl
entries_none (g ∷ hs) [] k out = refl
entries_none (g ∷ hs) (c ∷ cells) zero out = absurd (out (omega arith) (omega arith))
entries_none (g ∷ hs) (c ∷ cells) (suc k) out = entries_none hs cells k (λ a b. out (omega (arith, a)) (omega (arith, b)))

-- ---- writing in place

module _ {X : Type 0} where
  -- one more of a list is written over another
  pub write_one : (t old : List X) (k : ℕ) (v : X) → length t ≡ length old → k < length t → v ≡ get_or t k v → slice_set (take k t ++ drop k old) k v ≡ take (k + 1) t ++ drop (k + 1) old
  write_one t old k v same below is = let next : k + 1 ≡ suc k = omega arith in rw next (at t old k v same below is)
    where
      at : (t old : List X) (k : ℕ) (v : X) → length t ≡ length old → k < length t → v ≡ get_or t k v → slice_set (take k t ++ drop k old) k v ≡ take (suc k) t ++ drop (suc k) old
      at [] old k v same below is = absurd (omega arith)
      at (a ∷ t) [] k v same below is = absurd (omega arith)
      at (a ∷ t) (b ∷ old) zero v same below is = ap (λ (w : X). w ∷ old) is
      at (a ∷ t) (b ∷ old) (suc k) v same below is = ap (λ (ws : List X). a ∷ ws) (at t old k v (omega arith) (omega arith) is)

  pub all_written : (t old : List X) (k : ℕ) → length t ≡ length old → length t ≤ k → take k t ++ drop k old ≡ t
  all_written [] [] zero same over = refl
  all_written [] [] (suc k) same over = refl
  all_written [] (b ∷ old) k same over = absurd (omega arith)
  all_written (a ∷ t) [] k same over = absurd (omega arith)
  all_written (a ∷ t) (b ∷ old) zero same over = absurd (omega arith)
  all_written (a ∷ t) (b ∷ old) (suc k) same over = ap (λ (ws : List X). a ∷ ws) (all_written t old k (omega arith) (omega arith))

pub nexts_length : (hs : List Hidden) (cells : List Value) → length cells ≡ length hs → length (map (λ v. value.Int (pos v)) (nexts_at (map hidden_data hs) cells)) ≡ length cells
nexts_length [] [] e = refl
nexts_length [] (c ∷ cells) e = absurd (omega arith)
nexts_length (h ∷ hs) [] e = absurd (omega arith)
nexts_length (h ∷ hs) (c ∷ cells) e = ap suc (nexts_length hs cells (omega arith))

pub next_is : (hs : List Hidden) (cells : List Value) (k : ℕ) → k < length hs → length cells ≡ length hs → (h : Hidden) → h ≡ get_or hs k h → (d e : Value) →
    get_or (map (λ v. value.Int (pos v)) (nexts_at (map hidden_data hs) cells)) k d ≡ value.Int (pos (slice_index h.next.items (cell_in (get_or cells k e))))
next_is [] cells k below same h is d e = absurd (omega arith)
next_is (g ∷ hs) [] k below same h is d e = absurd (omega arith)
next_is (g ∷ hs) (c ∷ cells) zero below same h is d e = ap (λ (j : Hidden). value.Int (pos (slice_index j.next.items (cell_in c)))) (sym is)
next_is (g ∷ hs) (c ∷ cells) (suc k) below same h is d e = next_is hs cells k (omega arith) (omega arith) h is d e

pub firsts_length : (hs : List Hidden) → length (map (λ v. value.Int (pos v)) (map (λ (h : HiddenData). h.first) (map hidden_data hs))) ≡ length hs
firsts_length [] = refl
firsts_length (h ∷ hs) = ap suc (firsts_length hs)

pub first_is : (hs : List Hidden) (k : ℕ) → k < length hs → (h : Hidden) → h ≡ get_or hs k h → (d : Value) → get_or (map (λ v. value.Int (pos v)) (map (λ (h : HiddenData). h.first) (map hidden_data hs))) k d ≡ value.Int (pos h.first)
first_is [] k below h is d = absurd (omega arith)
first_is (g ∷ hs) zero below h is d = ap (λ (j : Hidden). value.Int (pos j.first)) (sym is)
first_is (g ∷ hs) (suc k) below h is d = first_is hs k (omega arith) h is d

-- ---- one table more

nothing_at : (hs : List HiddenData) → entries_at hs [] ≡ []
nothing_at [] = refl
nothing_at (h ∷ hs) = refl

nothing_next : (hs : List HiddenData) → nexts_at hs [] ≡ []
nothing_next [] = refl
nothing_next (h ∷ hs) = refl

pub more_read : (hs : List Hidden) (out : List Value) (k : ℕ) (v : Value) → k < length hs → k < length out → (h : Hidden) → h ≡ get_or hs k h →
    read_so_far (map hidden_data hs) (take (k + 1) (slice_set out k v)) ≡ read_table (read_so_far (map hidden_data hs) (take k out)) (hidden_data h) (cell_in v)
more_read hs out k v below room h is =
    let next : k + 1 ≡ suc k = omega arith in
    ap (λ n. read_so_far (map hidden_data hs) (take n (slice_set out k v))) next
    ∙ (ap (λ es. both es (nexts_at (map hidden_data hs) (take (suc k) (slice_set out k v)))) (entries hs out k below room is)
    ∙ ap (both (entries_at (map hidden_data hs) (take k out) ++ entries_in (hidden_data h) (cell_in v) ∷ [])) (nexts hs out k below room is))
  where
    both : List (List Bool) → List ℕ → Readout
    both es ns = record { entries = es; next = ns }

    entries : (hs : List Hidden) (out : List Value) (k : ℕ) → k < length hs → k < length out → h ≡ get_or hs k h →
        entries_at (map hidden_data hs) (take (suc k) (slice_set out k v)) ≡ entries_at (map hidden_data hs) (take k out) ++ entries_in (hidden_data h) (cell_in v) ∷ []
    entries [] out k below room is = absurd (omega arith)
    entries (g ∷ hs) [] k below room is = absurd (omega arith)
    entries (g ∷ hs) (c ∷ out) zero below room is = ap (λ es. entries_in (hidden_data g) (cell_in v) ∷ es) (nothing_at (map hidden_data hs)) ∙ ap (λ (j : Hidden). entries_in (hidden_data j) (cell_in v) ∷ []) (sym is)
    entries (g ∷ hs) (c ∷ out) (suc k) below room is = ap (λ es. entries_in (hidden_data g) (cell_in c) ∷ es) (entries hs out k (omega arith) (omega arith) is)

    nexts : (hs : List Hidden) (out : List Value) (k : ℕ) → k < length hs → k < length out → h ≡ get_or hs k h →
        nexts_at (map hidden_data hs) (take (suc k) (slice_set out k v)) ≡ nexts_at (map hidden_data hs) (take k out) ++ slice_index h.next.items (cell_in v) ∷ []
    nexts [] out k below room is = absurd (omega arith)
    nexts (g ∷ hs) [] k below room is = absurd (omega arith)
    nexts (g ∷ hs) (c ∷ out) zero below room is = ap (λ ns. slice_index g.next.items (cell_in v) ∷ ns) (nothing_next (map hidden_data hs)) ∙ ap (λ (j : Hidden). slice_index j.next.items (cell_in v) ∷ []) (sym is)
    nexts (g ∷ hs) (c ∷ out) (suc k) below room is = ap (λ ns. slice_index g.next.items (cell_in c) ∷ ns) (nexts hs out k (omega arith) (omega arith) is)

pub nothing_so_far : (hs : List HiddenData) → read_so_far hs [] ≡ nothing_read
nothing_so_far [] = refl
nothing_so_far (h ∷ hs) = refl

-- ---- one table, seen

-- where the next position is the same one, what is seen is what is present
pub seen_once : (vs : List VariableData) (p : Position) (entries : List (List Bool)) → seen_reading vs p p entries ≡ present_reading vs p entries
seen_once vs p entries = λ i. record { variable = λ k t. variable k t i; entry = λ h n t. get_or (get_or entries h []) n false }
  where
    variable : (k t : ℕ) → (seen_reading vs p p entries).variable k t ≡ value_among vs p k
    variable k zero = refl
    variable k (suc t) = refl

-- the variables have values of their domains at both positions
pub seen_typed : (vs : List VariableData) (p q : Position) (entries : List (List Bool)) (before : List ℕ) →
    is_assignment (domains_of is_env vs) p.input ≡ true → is_assignment (domains_of (λ o. not (is_env o)) vs) p.output ≡ true →
    is_assignment (domains_of is_env vs) q.input ≡ true → is_assignment (domains_of (λ o. not (is_env o)) vs) q.output ≡ true →
    IsTyped (record { domains = map (λ v. v.domain) vs; tables = before }) (seen_reading vs p q entries)
seen_typed vs p q entries before px py qx qy k zero = typed_among vs p.input p.output px py k
seen_typed vs p q entries before px py qx qy k (suc t) = typed_among vs q.input q.output qx qy k

-- ---- the parts of a listed state

pub front_of : (ns : List ℕ) (more : List Value) (n : ℕ) → n ≡ length ns → take n (map (λ v. value.Int (pos v)) ns ++ more) ≡ map (λ v. value.Int (pos v)) ns
front_of [] more zero e = refl
front_of [] more (suc n) e = absurd (omega arith)
front_of (a ∷ ns) more zero e = absurd (omega arith)
front_of (a ∷ ns) more (suc n) e = ap (λ (vs : List Value). value.Int (pos a) ∷ vs) (front_of ns more n (omega arith))

pub back_of : (ns : List ℕ) (more : List Value) (n : ℕ) → n ≡ length ns → drop n (map (λ v. value.Int (pos v)) ns ++ more) ≡ more
back_of [] more zero e = refl
back_of [] more (suc n) e = absurd (omega arith)
back_of (a ∷ ns) more zero e = absurd (omega arith)
back_of (a ∷ ns) more (suc n) e = back_of ns more n (omega arith)

pub front_move : (xs ys : List Value) (n : ℕ) → n ≡ length xs → take n (xs ++ ys) ≡ xs
front_move [] ys zero e = refl
front_move [] ys (suc n) e = absurd (omega arith)
front_move (a ∷ xs) ys zero e = absurd (omega arith)
front_move (a ∷ xs) ys (suc n) e = ap (λ (vs : List Value). a ∷ vs) (front_move xs ys n (omega arith))

pub back_move : (xs ys : List Value) (n : ℕ) → n ≡ length xs → drop n (xs ++ ys) ≡ ys
back_move [] ys zero e = refl
back_move [] ys (suc n) e = absurd (omega arith)
back_move (a ∷ xs) ys zero e = absurd (omega arith)
back_move (a ∷ xs) ys (suc n) e = back_move xs ys n (omega arith)

pub cells_back : (ns : List ℕ) → map cell_in (map (λ v. value.Int (pos v)) ns) ≡ ns
cells_back [] = refl
cells_back (n ∷ ns) = ap (λ ms. n ∷ ms) (cells_back ns)

pub hidden_length : (hs : List HiddenData) (ns : List ℕ) → are_hidden_values hs ns ≡ true → length hs ≡ length ns
hidden_length [] [] e = refl
hidden_length [] (n ∷ ns) e = absurd (false≢true e)
hidden_length (h ∷ hs) [] e = absurd (false≢true e)
hidden_length (h ∷ hs) (n ∷ ns) e = ap suc (hidden_length hs ns (and_parts (nat_lt n h.values) (are_hidden_values hs ns) e).1)

-- as many as variables of the owner
length-domains_of : (test : Owner → Bool) (vs : List VariableData) → length (domains_of test vs) ≡ count_by (λ (v : VariableData). test v.owner) vs
length-domains_of test [] = refl
length-domains_of test (v ∷ vs) = at (test v.owner) (length-domains_of test vs) ∙ sym (count-cons (λ (w : VariableData). test w.owner) v vs)
  where
    at : (b : Bool) → length (domains_of test vs) ≡ count_by (λ (w : VariableData). test w.owner) vs →
        length (cond b (v.domain ∷ domains_of test vs) (domains_of test vs)) ≡ cond b (suc (count_by (λ (w : VariableData). test w.owner) vs)) (count_by (λ (w : VariableData). test w.owner) vs)
    at true rest = ap suc rest
    at false rest = rest

-- an assignment has a value for each domain
length_fits : (ds : List DomainData) (vs : Assignment) → is_assignment ds vs ≡ true → length vs ≡ length ds
length_fits [] [] e = refl
length_fits [] (v ∷ vs) e = absurd (false≢true e)
length_fits (d ∷ ds) [] e = absurd (false≢true e)
length_fits (d ∷ ds) (v ∷ vs) e = ap suc (length_fits ds vs (and_parts _ (is_assignment ds vs) e).1)

module _ (g : GameData) (s : State) (inside : is_state g s ≡ true) (state : List Value) (lists : listed s ≡ state) (n : ℕ) (tables : n ≡ length g.hidden) where
  pub fits : are_hidden_values g.hidden s.hidden ≡ true
  fits = (and_parts (are_hidden_values g.hidden s.hidden) _ inside).0

  pub input_fits : is_assignment (domains_of is_env g.variables) s.position.input ≡ true
  input_fits = (and_parts (is_assignment (domains_of is_env g.variables) s.position.input) _ (and_parts (are_hidden_values g.hidden s.hidden) _ inside).1).0

  pub output_fits : is_assignment (domains_of (λ o. not (is_env o)) g.variables) s.position.output ≡ true
  output_fits = (and_parts (is_assignment (domains_of is_env g.variables) s.position.input) _ (and_parts (are_hidden_values g.hidden s.hidden) _ inside).1).1

  many : n ≡ length s.hidden
  many = tables ∙ hidden_length g.hidden s.hidden fits

  pub within : n ≤ length state
  within =
      let whole = ap (λ (vs : List Value). length vs) lists in
      let parts = length-append (map (λ v. value.Int (pos v)) s.hidden) (s.position.input ++ s.position.output) in
      omega (arith, whole, parts, many, length-map s.hidden (λ v. value.Int (pos v)))

  pub numbers_are : take n state ≡ map (λ v. value.Int (pos v)) s.hidden
  numbers_are = ap (λ (vs : List Value). take n vs) (sym lists) ∙ front_of s.hidden (s.position.input ++ s.position.output) n many

  pub moves_are : drop n state ≡ s.position.input ++ s.position.output
  moves_are = ap (λ (vs : List Value). drop n vs) (sym lists) ∙ back_of s.hidden (s.position.input ++ s.position.output) n many

  module _ (count : ℕ) (counted : count ≡ count_by (λ (v : VariableData). is_env v.owner) g.variables) where
    inputs : count ≡ length s.position.input
    inputs = counted ∙ (sym (length-domains_of is_env g.variables) ∙ sym (length_fits (domains_of is_env g.variables) s.position.input input_fits))

    pub count_within : (moves : List Value) → moves ≡ s.position.input ++ s.position.output → count ≤ length moves
    count_within moves are = let whole = ap (λ (vs : List Value). length vs) are in omega (arith, whole, inputs, length-append s.position.input s.position.output)

    pub input_is : (moves : List Value) → moves ≡ s.position.input ++ s.position.output → take count moves ≡ s.position.input
    input_is moves are = ap (λ (vs : List Value). take count vs) are ∙ front_move s.position.input s.position.output count inputs

    pub output_is : (moves : List Value) → moves ≡ s.position.input ++ s.position.output → drop count moves ≡ s.position.output
    output_is moves are = ap (λ (vs : List Value). drop count vs) are ∙ back_move s.position.input s.position.output count inputs
