-- The entries of hidden tables, compiled, are those that the tables give at a state.
use Rattle.std.proofs.Common.{◌≡◌, ℕ, zero, suc, ◌+◌, ◌*◌, ◌^◌, ◌<◌, ℤ, pos, ◌+ℤ◌, ◌-ℤ◌, ◌≤ℤ◌, nat_abs, Bool, true, false, not, ◌||◌, ◌==◌, if◌then◌else◌, List, [], ◌∷◌, ◌++◌, map, length, length-append, get_or, refl, sym, ◌∙◌, ap, subst, arith, cond}
use Rattle.std.specs.Prelude.{int_le}
use Rattle.std.specs.List.{list_any, list_all, AllByRecursion}
use Rattle.std.specs.Ordering.{int_eq}
use Rattle.std.proofs.lemmas.Bool.{eqb-true, eq-eqb, and_parts}
use Rattle.std.proofs.lemmas.Bool.Decides.{Decides-int_eq, nat_tests}
use Rattle.std.proofs.lemmas.Int.{ints}
use Rattle.std.proofs.lemmas.List.{length-map}
use Rattle.std.proofs.Math.Nat.{pow-suc}
use Rattle.spec_model.specs.declared.value.Value.{Value}
use Rattle.spec_model.specs.declared.value.Value.TheVariants as value
use Rattle.spec_model.specs.Values.{DomainData, same_value, values_of, rising_from, number_of}
use Rattle.spec_model.specs.Syntax.{Formula}
use Rattle.spec_model.specs.Rules.{Position}
use Rattle.spec_model.specs.Meaning.{Reading, holds_at}
use Rattle.std.proofs.Common.{option_map, slice_get}
use Rattle.spec_model.specs.Moves.{has_next, value_among}
use Rattle.game_values.proofs.Spans.{IsWithin}
use Rattle.spec_model.specs.Typing.{Scope, kind_of, kind_of_domain, is_truth}
use Rattle.spec_model.specs.Games.{GameData, HiddenData, Readout, letter_of, present_reading, cell_of, entries_in, read_table, read_tables}
use Rattle.spec_model.specs.WellMade.{is_domain, is_table, are_tables, is_state_formula, is_step_formula, is_stepwise}
use Rattle.spec_model.specs.Diagrams.{Bits, Function}
use Rattle.spec_model.proofs.Domains.{in_range}
use Rattle.game_values.specs.declared.seen.At.{At}
use Rattle.game_values.specs.declared.seen.At.TheVariants.{Now}
use Rattle.game_values.proofs.Safe.{IsTyped}
use Rattle.game_values.proofs.TableSteps.{table_atoms}
use Rattle.bit_compile.specs.Domains.{state_domains, table_domain}
use Rattle.bit_compile.specs.Compiled.{Case, Entries, is_letter, in_table, lettered, numbers_below, table_truth, table_entries, entries_after, entry_of, never, truth_in, coded, place_of, variable_domain}
use Rattle.bit_compile.proofs.NumberLemmas.{same_bools}
use Rattle.bit_compile.proofs.Describing.{Describes, some_pair-is, same_value-sym}
use Rattle.bit_compile.proofs.Meanings.{IsHad, means, some_truth}
use Rattle.bit_compile.proofs.ReadVariables.{reads_now}

-- ---- letters

letter_small : (bs : List Bool) → letter_of bs < 2 ^ length bs
letter_small [] = omega arith
letter_small (b ∷ bs) = let rest = letter_small bs in let double = pow-suc 2 (length bs) in bit b (omega (arith, double, rest))
  where
    bit : (b : Bool) → 2 * letter_of bs + 1 < 2 ^ suc (length bs) → (if b then 1 else 0) + 2 * letter_of bs < 2 ^ suc (length bs)
    bit true h = omega (arith, h)
    bit false h = omega (arith, h)

same_number : (l : ℕ) (z : ℤ) → pos 0 ≤ℤ z → (l == nat_abs z) ≡ int_eq z (pos l)
same_number l z low = same_bools _ _
    (λ h. (let same = eqb-true l (nat_abs z) h in (Decides-int_eq z (pos l)).1 (omega (arith, ints, same))))
    (λ h. (let same = (Decides-int_eq z (pos l)).0 h in eq-eqb l (nat_abs z) (omega (arith, ints, same))))

among_turned : (w : Value) (f : Value → Function) (vs : List Value) → list_any (same_value w) vs ≡ true → list_any (λ (c : Case). same_value c.value w) (map (λ v. record { value = v; holds = f v }) vs) ≡ true
among_turned w f vs e = turned vs ∙ e
  where
    turned : (vs : List Value) → list_any (λ (c : Case). same_value c.value w) (map (λ v. record { value = v; holds = f v }) vs) ≡ list_any (same_value w) vs
    turned [] = refl
    turned (v ∷ vs) = ap (λ (b : Bool). b || list_any (λ (c : Case). same_value c.value w) (map (λ u. record { value = u; holds = f u }) vs)) (same_value-sym v w) ∙ ap (λ (b : Bool). same_value w v || b) (turned vs)

-- the numbers below a limit, each had where it is this one
module _ (f : Value → Function) (n l : ℕ) (s : Bits) (small : l < n) (had : (z : ℤ) → f (value.Int z) s ≡ (l == nat_abs z)) where
  numbers_described : (z : ℤ) (count : ℕ) → pos 0 ≤ℤ z → AllByRecursion (λ (c : Case). c.holds s ≡ same_value c.value (value.Int (pos l))) (map (λ v. record { value = v; holds = f v }) (rising_from z count))
  numbers_described z zero low = tt
  numbers_described z (suc count) low = (had z ∙ same_number l z low, numbers_described (z +ℤ pos 1) count (omega (arith, ints, low)))

  pub describes_number : Describes (map (λ v. record { value = v; holds = f v }) (values_of (numbers_below n))) (value.Int (pos l)) s
  describes_number =
      let low : pos 0 ≤ℤ pos l = omega (arith, ints) in
      let high : pos l ≤ℤ (pos n -ℤ pos 1) = omega (arith, ints, small) in
      record {
        among = among_turned (value.Int (pos l)) f (values_of (numbers_below n)) ((in_range (pos l) (pos 0) (pos n -ℤ pos 1)).1 (low, high));
        exact = within (int_le (pos 0) (pos n -ℤ pos 1));
      }
    where
      within : (b : Bool) → AllByRecursion (λ (c : Case). c.holds s ≡ same_value c.value (value.Int (pos l))) (map (λ v. record { value = v; holds = f v }) (cond b (rising_from (pos 0) (nat_abs ((pos n -ℤ pos 1) -ℤ pos 0) + 1)) []))
      within true = numbers_described (pos 0) _ (omega (arith, ints))
      within false = tt

pub describes_letter : (fs : List Function) (l : ℕ) (s : Bits) → letter_of (map (λ a. a s) fs) ≡ l → Describes (lettered fs) (value.Int (pos l)) s
describes_letter fs l s e =
    let small = subst (λ (n : ℕ). n < 2 ^ length (map (λ (a : Function). a s) fs)) e (letter_small (map (λ (a : Function). a s) fs)) in
    let below : l < 2 ^ length fs = subst (λ (n : ℕ). l < 2 ^ n) (length-map fs (λ (a : Function). a s)) small in
    describes_number (λ v. is_letter fs (nat_abs (number_of v))) (2 ^ length fs) l s below (λ z. ap (λ k. k == nat_abs z) e)

-- ---- one table

-- a truth table is true at the bits of a value and a letter where its cell is
pub table_is : (ds : List DomainData) (k v : ℕ) (h : HiddenData) (fs : List Function) (table : List Bool) (l : ℕ) (s : Bits) →
    Describes (coded ds Now k (table_domain h)) (value.Int (pos v)) s → letter_of (map (λ a. a s) fs) ≡ l → table_truth ds k h fs table s ≡ get_or table (v * 2 ^ length fs + l) false
table_is ds k v h fs table l s is_value e = some_pair-is (in_table table (2 ^ length fs)) (coded ds Now k (table_domain h)) (lettered fs) (value.Int (pos v)) (value.Int (pos l)) s is_value (describes_letter fs l s e)

parts_are : (ds : List DomainData) (k v : ℕ) (h : HiddenData) (fs : List Function) (l : ℕ) (s : Bits) → Describes (coded ds Now k (table_domain h)) (value.Int (pos v)) s → letter_of (map (λ a. a s) fs) ≡ l →
    (tables : List (List Bool)) (n : ℕ) → get_or (map (table_truth ds k h fs) tables) n never s ≡ get_or (map (λ table. get_or table (v * 2 ^ length fs + l) false) tables) n false
parts_are ds k v h fs l s is_value e [] n = refl
parts_are ds k v h fs l s is_value e (t ∷ tables) zero = table_is ds k v h fs t l s is_value e
parts_are ds k v h fs l s is_value e (t ∷ tables) (suc n) = parts_are ds k v h fs l s is_value e tables n

-- ---- entries so far

pub record AreRead (entries : Entries) (read : List (List Bool)) (s : Bits) : Type 0 where
  pub many : length entries ≡ length read
  pub same : (h n : ℕ) → entry_of entries h n s ≡ get_or (get_or read h []) n false

pub get-pushed : {X : Type 0} (xs : List X) (x d : X) (k : ℕ) → get_or (xs ++ x ∷ []) k d ≡ (if k == length xs then x else get_or xs k d)
get-pushed [] x d zero = refl
get-pushed [] x d (suc k) = let other : (suc k == 0) ≡ false = grind (arith, nat_tests) in sym (ap (λ b. if b then x else d) other)
get-pushed (y ∷ xs) x d zero = let other : (0 == suc (length xs)) ≡ false = grind (arith, nat_tests) in sym (ap (λ b. if b then x else y) other)
get-pushed (y ∷ xs) x d (suc k) = get-pushed xs x d k ∙ ap (λ b. if b then x else get_or xs k d) (suc-same k (length xs))
  where
    suc-same : (m n : ℕ) → (m == n) ≡ (suc m == suc n)
    suc-same m n = grind (arith, nat_tests)

pub read_one : (entries : Entries) (read : List (List Bool)) (fs : List Function) (bs : List Bool) (s : Bits) → AreRead entries read s → ((n : ℕ) → get_or fs n never s ≡ get_or bs n false) → AreRead (entries ++ fs ∷ []) (read ++ bs ∷ []) s
read_one entries read fs bs s are same =
    record {
      many = length-append entries (fs ∷ []) ∙ (ap (λ n. n + 1) are.many ∙ sym (length-append read (bs ∷ [])));
      same = λ h n. by_cases h n (h == length entries) refl;
    }
  where
    by_cases : (h n : ℕ) (b : Bool) → (h == length entries) ≡ b → entry_of (entries ++ fs ∷ []) h n s ≡ get_or (get_or (read ++ bs ∷ []) h []) n false
    by_cases h n true e =
        let there : (h == length read) ≡ true = ap (λ k. h == k) (sym are.many) ∙ e in
        ap (λ (xs : List Function). get_or xs n never s) (get-pushed entries fs [] h ∙ ap (λ b. if b then fs else get_or entries h []) e)
        ∙ (same n ∙ sym (ap (λ (xs : List Bool). get_or xs n false) (get-pushed read bs [] h ∙ ap (λ b. if b then bs else get_or read h []) there)))
    by_cases h n false e =
        let there : (h == length read) ≡ false = ap (λ k. h == k) (sym are.many) ∙ e in
        ap (λ (xs : List Function). get_or xs n never s) (get-pushed entries fs [] h ∙ ap (λ b. if b then fs else get_or entries h []) e)
        ∙ (are.same h n ∙ sym (ap (λ (xs : List Bool). get_or xs n false) (get-pushed read bs [] h ∙ ap (λ b. if b then bs else get_or read h []) there)))

-- ---- all tables

-- the slots from this one on have the codes of these values of the tables
abbrev pub HaveValues : GameData → Bits → At → ℕ → List HiddenData → List ℕ → Type 0
HaveValues g s at k [] vs = Unit {0}
HaveValues g s at k (h ∷ hs) [] = ⊥
HaveValues g s at k (h ∷ hs) (v ∷ vs) = Describes (coded (state_domains g) at k (table_domain h)) (value.Int (pos v)) s × HaveValues g s at (suc k) hs vs

module _ (g : GameData) (p : Position) (s : Bits) (typed : (k : ℕ) → IsWithin (option_map kind_of_domain (slice_get (map (λ v. v.domain) g.variables) k)) (value_among g.variables p k)) (had : (k : ℕ) → k < length g.variables → Describes (coded (state_domains g) Now (place_of g k) (variable_domain g k)) (value_among g.variables p k) s) where
  module _ (sc : Scope) (domains : sc.domains ≡ map (λ v. v.domain) g.variables) (made : list_all is_domain sc.domains ≡ true) (entries : Entries) (read : List (List Bool)) (are : AreRead entries read s) where
    typed_here : IsTyped sc (present_reading g.variables p read)
    typed_here k t = subst (λ (ds : List DomainData). IsWithin (option_map kind_of_domain (slice_get ds k)) (value_among g.variables p k)) (sym domains) (typed k)

    atom_is : (e : Formula) → is_state_formula sc e ≡ true → truth_in g entries Now e s ≡ holds_at (present_reading g.variables p read) e 0
    atom_is e made_e =
        let state = and_parts (is_step_formula sc e) (not (has_next e)) made_e in
        let step = and_parts (is_truth (kind_of sc e)) (is_stepwise false e) state.0 in
        let r : Reading = present_reading g.variables p read in
        let reads = reads_now g sc domains (IsHad g entries sc domains made r typed_here s) e (some_truth (kind_of sc e) step.0) step.1 state.1 had in
        (means g entries sc domains made r typed_here s are.same e Now (some_truth (kind_of sc e) step.0) step.1 reads).truth step.0

    pub atoms_are : (es : List Formula) → list_all (is_state_formula sc) es ≡ true → map (λ (a : Function). a s) (map (truth_in g entries Now) es) ≡ map (λ e. holds_at (present_reading g.variables p read) e 0) es
    atoms_are [] all = refl
    atoms_are (e ∷ es) all =
        let parts = and_parts (is_state_formula sc e) (list_all (is_state_formula sc) es) all in
        ap (λ (b : Bool). b ∷ map (λ (a : Function). a s) (map (truth_in g entries Now) es)) (atom_is e parts.0)
        ∙ ap (λ (bs : List Bool). holds_at (present_reading g.variables p read) e 0 ∷ bs) (atoms_are es parts.1)

    pub table_read : (h : HiddenData) (v : ℕ) → is_table sc h ≡ true → Describes (coded (state_domains g) Now (length entries) (table_domain h)) (value.Int (pos v)) s →
        (n : ℕ) → get_or (table_entries g entries h) n never s ≡ get_or (entries_in h (cell_of g.variables p read h v)) n false
    table_read h v table is_value n =
        let fs : List Function = map (truth_in g entries Now) h.atoms in
        let letter : ℕ = letter_of (map (λ e. holds_at (present_reading g.variables p read) e 0) h.atoms) in
        let same : letter_of (map (λ (a : Function). a s) fs) ≡ letter = ap letter_of (atoms_are h.atoms (table_atoms sc h table)) in
        parts_are (state_domains g) (length entries) v h fs letter s is_value same h.tables n
        ∙ ap (λ m. get_or (map (λ table. get_or table (v * 2 ^ m + letter) false) h.tables) n false) (length-map h.atoms (truth_in g entries Now))

  -- the entries of all tables are those that are read at the state
  pub all_read : (hs : List HiddenData) (vs : List ℕ) (sc : Scope) → sc.domains ≡ map (λ v. v.domain) g.variables → list_all is_domain sc.domains ≡ true → are_tables sc hs ≡ true →
      (entries : Entries) (r : Readout) → HaveValues g s Now (length entries) hs vs → AreRead entries r.entries s → AreRead (entries_after g entries hs) (read_tables g.variables p r hs vs).entries s
  all_read [] vs sc domains made tables entries r have are = are
  all_read (h ∷ hs) [] sc domains made tables entries r have are = absurd have
  all_read (h ∷ hs) (v ∷ vs) sc domains made tables entries r have are =
      let parts = and_parts (is_table sc h) _ tables in
      let cell : ℕ = cell_of g.variables p r.entries h v in
      let one = read_one entries r.entries (table_entries g entries h) (entries_in h cell) s are (table_read sc domains made entries r.entries are h v parts.0 have.0) in
      let longer : length (entries ++ table_entries g entries h ∷ []) ≡ suc (length entries) = length-append entries (table_entries g entries h ∷ []) ∙ omega arith in
      all_read hs vs (record sc { tables = sc.tables ++ length h.tables ∷ [] }) domains made parts.1 (entries ++ table_entries g entries h ∷ []) (read_table r h cell)
      (subst (λ (k : ℕ). HaveValues g s Now k hs vs) (sym longer) have.1) one
