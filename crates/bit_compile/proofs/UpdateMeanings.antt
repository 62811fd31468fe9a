-- The next values of hidden tables, compiled, are those that follow from a state.
use Rattle.std.proofs.Common.{◌≡◌, ℕ, zero, suc, ◌+◌, ◌*◌, ◌^◌, ◌<◌, pos, Bool, true, ◌==◌, nat_lt, slice_index, option_map, slice_get, List, [], ◌∷◌, ◌++◌, map, length, length-append, get_or, refl, sym, ◌∙◌, ap, subst, arith}
use Rattle.std.specs.List.{list_all}
use Rattle.std.specs.Prelude.{IsTrue}
use Rattle.std.specs.Ordering.{int_eq}
use Rattle.std.proofs.lemmas.Bool.{and_parts, eqb-true, eq-eqb}
use Rattle.std.proofs.lemmas.Bool.Decides.{Decides-int_eq}
use Rattle.std.proofs.lemmas.Int.{ints}
use Rattle.std.proofs.lemmas.List.{append-nil, append_assoc, length-map}
use borrow.Author.Tests.{ltb-true}
use Rattle.spec_model.specs.declared.expr.Compare.TheVariants.{Eq}
use Rattle.spec_model.specs.declared.value.Value.TheVariants as value
use Rattle.spec_model.specs.Values.{DomainData}
use Rattle.spec_model.specs.Syntax.{VariableData}
use Rattle.spec_model.specs.Rules.{Position}
use Rattle.spec_model.specs.Meaning.{compare_values, holds_at}
use Rattle.spec_model.specs.Moves.{value_among}
use Rattle.spec_model.specs.Typing.{Scope, kind_of_domain}
use Rattle.spec_model.specs.Games.{GameData, HiddenData, State, Readout, letter_of, listed, present_reading, cell_of, entries_in, next_hidden, nothing_read, read_table, read_tables}
use Rattle.spec_model.specs.Steps.{is_state, are_hidden_values}
use Rattle.spec_model.specs.WellMade.{WellMade, is_domain, is_table, are_tables}
use Rattle.spec_model.specs.Diagrams.{Bits, Function}
use Rattle.game_values.specs.declared.seen.At.TheVariants.{Now, Next}
use Rattle.game_values.proofs.Spans.{IsWithin}
use Rattle.game_values.proofs.TableSteps.{table_atoms}
use Rattle.bit_compile.specs.Codes.{HasValues}
use Rattle.bit_compile.specs.Domains.{state_domains, table_domain}
use Rattle.bit_compile.specs.Compiled.{Entries, coded, following, leads, lettered, never, place_of, some_pair, table_entries, table_update, truth_in, updates_after, updates_of, variable_domain}
use Rattle.bit_compile.specs.CompileLaws.{IsUpdateOf}
use Rattle.bit_compile.proofs.NumberLemmas.{same_bools}
use Rattle.bit_compile.proofs.Describing.{Describes, some_pair-is}
use Rattle.bit_compile.proofs.Knowing.{domains_made}
use Rattle.bit_compile.proofs.Places.{hidden_long}
use Rattle.bit_compile.proofs.TableMeanings.{AreRead, HaveValues, atoms_are, describes_letter, describes_number, read_one, table_read}
use Rattle.bit_compile.proofs.FormulaMeanings.{had_now, tables_had, typed_state}

-- ---- the values that follow

-- whether each number of the first list is that of the second
abbrev pub agree : List ℕ → List ℕ → List Bool
agree (m ∷ ms) (n ∷ ns) = (m == n) ∷ agree ms ns
agree _ _ = []

module _ (vs : List VariableData) (p : Position) where
  -- the values that tables have next, after the entries so far
  abbrev pub next_after : List (List Bool) → List HiddenData → List ℕ → List ℕ
  next_after read [] values = []
  next_after read (h ∷ hs) [] = []
  next_after read (h ∷ hs) (v ∷ values) = let cell = cell_of vs p read h v in slice_index h.next cell ∷ next_after (read ++ entries_in h cell ∷ []) hs values

  pub next-read : (hs : List HiddenData) (values : List ℕ) (r : Readout) → (read_tables vs p r hs values).next ≡ r.next ++ next_after r.entries hs values
  next-read [] values r = sym (append-nil r.next)
  next-read (h ∷ hs) [] r = sym (append-nil r.next)
  next-read (h ∷ hs) (v ∷ values) r = next-read hs values (read_table r h (cell_of vs p r.entries h v)) ∙ append_assoc r.next (slice_index h.next (cell_of vs p r.entries h v) ∷ []) (next_after (r.entries ++ entries_in h (cell_of vs p r.entries h v) ∷ []) hs values)

  next_long : (hs : List HiddenData) (values : List ℕ) (read : List (List Bool)) → length values ≡ length hs → length (next_after read hs values) ≡ length hs
  next_long [] values read long = refl
  next_long (h ∷ hs) [] read long = absurd (omega (arith, long))
  next_long (h ∷ hs) (v ∷ values) read long = ap suc (next_long hs values (read ++ entries_in h (cell_of vs p read h v) ∷ []) (omega (arith, long)))

-- a state is followed by a value of each table
pub hidden_next_long : (g : GameData) (s : State) → is_state g s ≡ true → length (next_hidden g s) ≡ length g.hidden
hidden_next_long g s is =
    ap length (next-read g.variables s.position g.hidden s.hidden nothing_read)
    ∙ next_long g.variables s.position g.hidden s.hidden [] (hidden_long g.hidden s.hidden (and_parts (are_hidden_values g.hidden s.hidden) _ is).0)

-- ---- one table

-- numbers are the same as whole numbers where they are as natural ones
pub int_eq-pos : (m n : ℕ) → int_eq (pos m) (pos n) ≡ (m == n)
int_eq-pos m n = same_bools _ _
    (λ h. (let same = (Decides-int_eq (pos m) (pos n)).0 h in eq-eqb m n (omega (arith, ints, same))))
    (λ h. (let same = eqb-true m n h in (Decides-int_eq (pos m) (pos n)).1 (omega (arith, ints, same))))

module _ (ds : List DomainData) (k v m : ℕ) (h : HiddenData) (fs : List Function) (l : ℕ) (s : Bits) (is_value : Describes (coded ds Now k (table_domain h)) (value.Int (pos v)) s) (is_letter : letter_of (map (λ a. a s) fs) ≡ l) where
  abbrev to : ℕ
  to = slice_index h.next (v * 2 ^ length fs + l)

  -- the value that follows is had
  describes_following : to < h.values → Describes (following ds k h fs) (value.Int (pos to)) s
  describes_following small =
      describes_number (λ u. some_pair (leads h.next (2 ^ length fs) u) (coded ds Now k (table_domain h)) (lettered fs)) h.values to s small
      (λ z. some_pair-is (leads h.next (2 ^ length fs) (value.Int z)) (coded ds Now k (table_domain h)) (lettered fs) (value.Int (pos v)) (value.Int (pos l)) s is_value (describes_letter fs l s is_letter))

  -- the update is true where the next value is the one that follows
  pub update_is : to < h.values → Describes (coded ds Next k (table_domain h)) (value.Int (pos m)) s → table_update ds k h fs s ≡ (m == to)
  update_is small is_next =
      some_pair-is (compare_values Eq) (coded ds Next k (table_domain h)) (following ds k h fs) (value.Int (pos m)) (value.Int (pos to)) s is_next (describes_following small) ∙ int_eq-pos m to

-- each next value of a table is one of its values
index_small : (n : ℕ) (xs : List ℕ) (i : ℕ) → 0 < n → list_all (λ v. nat_lt v n) xs ≡ true → slice_index xs i < n
index_small n [] zero some all = some
index_small n [] (suc i) some all = some
index_small n (x ∷ xs) zero some all = ltb-true x n (and_parts (nat_lt x n) _ all).0
index_small n (x ∷ xs) (suc i) some all = index_small n xs i some (and_parts (nat_lt x n) _ all).1

next_small : (sc : Scope) (h : HiddenData) (cell : ℕ) → is_table sc h ≡ true → slice_index h.next cell < h.values
next_small sc h cell e =
    let one = and_parts (nat_lt h.first h.values) _ e in
    let first = ltb-true h.first h.values one.0 in
    index_small h.values h.next cell (omega (arith, first)) (and_parts (list_all (λ v. nat_lt v h.values) h.next) _ one.1).0

-- ---- all tables

module _ (g : GameData) (p : Position) (s : Bits) (typed : (k : ℕ) → IsWithin (option_map kind_of_domain (slice_get (map (λ v. v.domain) g.variables) k)) (value_among g.variables p k)) (had : (k : ℕ) → k < length g.variables → Describes (coded (state_domains g) Now (place_of g k) (variable_domain g k)) (value_among g.variables p k) s) where
  all_updated : (hs : List HiddenData) (vs ns : List ℕ) (sc : Scope) → sc.domains ≡ map (λ v. v.domain) g.variables → list_all is_domain sc.domains ≡ true → are_tables sc hs ≡ true →
      (entries : Entries) (read : List (List Bool)) → HaveValues g s Now (length entries) hs vs → HaveValues g s Next (length entries) hs ns → length ns ≡ length hs → AreRead entries read s →
      map (λ (f : Function). f s) (updates_after g entries hs) ≡ agree ns (next_after g.variables p read hs vs)
  all_updated [] vs [] sc domains made tables entries read have next long are = refl
  all_updated [] vs (n ∷ ns) sc domains made tables entries read have next long are = absurd (omega (arith, long))
  all_updated (h ∷ hs) [] ns sc domains made tables entries read have next long are = absurd have
  all_updated (h ∷ hs) (v ∷ vs) [] sc domains made tables entries read have next long are = absurd next
  all_updated (h ∷ hs) (v ∷ vs) (n ∷ ns) sc domains made tables entries read have next long are =
      let parts = and_parts (is_table sc h) _ tables in
      let cell : ℕ = cell_of g.variables p read h v in
      let fs : List Function = map (truth_in g entries Now) h.atoms in
      let letter : ℕ = letter_of (map (λ e. holds_at (present_reading g.variables p read) e 0) h.atoms) in
      let same : letter_of (map (λ (a : Function). a s) fs) ≡ letter = ap letter_of (atoms_are g p s typed had sc domains made entries read are h.atoms (table_atoms sc h parts.0)) in
      let place : v * 2 ^ length fs + letter ≡ cell = ap (λ m. v * 2 ^ m + letter) (length-map h.atoms (truth_in g entries Now)) in
      let small = next_small sc h (v * 2 ^ length fs + letter) parts.0 in
      let first = update_is (state_domains g) (length entries) v n h fs letter s have.0 same small next.0 ∙ ap (λ c. n == slice_index h.next c) place in
      let one = read_one entries read (table_entries g entries h) (entries_in h cell) s are (table_read g p s typed had sc domains made entries read are h v parts.0 have.0) in
      let longer : length (entries ++ table_entries g entries h ∷ []) ≡ suc (length entries) = length-append entries (table_entries g entries h ∷ []) ∙ omega arith in
      let rest = all_updated hs vs ns (record sc { tables = sc.tables ++ length h.tables ∷ [] }) domains made parts.1 (entries ++ table_entries g entries h ∷ []) (read ++ entries_in h cell ∷ [])
      (subst (λ (k : ℕ). HaveValues g s Now k hs vs) (sym longer) have.1) (subst (λ (k : ℕ). HaveValues g s Next k hs ns) (sym longer) next.1) (omega (arith, long)) one in
      ap (λ (b : Bool). b ∷ map (λ (f : Function). f s) (updates_after g (entries ++ table_entries g entries h ∷ []) hs)) first
      ∙ ap (λ (bs : List Bool). (n == slice_index h.next cell) ∷ bs) rest

-- each update is true where its table's next value is the one that follows
pub updates_mean : (g : GameData) → WellMade g → (s s' : State) (bits : Bits) → IsTrue (is_state g s) → IsTrue (is_state g s') → HasValues (state_domains g) Now (listed s) bits → HasValues (state_domains g) Next (listed s') bits →
    map (λ (f : Function). f bits) (updates_of g) ≡ agree s'.hidden (next_hidden g s)
updates_mean g well s s' bits is_s is_s' has next =
    let long = hidden_long g.hidden s'.hidden (and_parts (are_hidden_values g.hidden s'.hidden) _ is_s').0 in
    all_updated g s.position bits (typed_state g s is_s bits) (had_now g s is_s bits has) g.hidden s.hidden s'.hidden (record { domains = map (λ v. v.domain) g.variables; tables = [] }) refl (domains_made g.variables well.domains) well.hidden [] []
    (tables_had g s is_s bits Now has) (tables_had g s' is_s' bits Next next) long (record { many = refl; same = λ h n. refl })
    ∙ ap (agree s'.hidden) (sym (next-read g.variables s.position g.hidden s.hidden nothing_read))

-- ---- one update

get-agree : (ms ns : List ℕ) (k : ℕ) → k < length (agree ms ns) → get_or (agree ms ns) k true ≡ (slice_index ms k == slice_index ns k)
get-agree [] ns k h = absurd (omega arith)
get-agree (m ∷ ms) [] k h = absurd (omega arith)
get-agree (m ∷ ms) (n ∷ ns) zero h = refl
get-agree (m ∷ ms) (n ∷ ns) (suc k) h = get-agree ms ns k (omega arith)

pub updates_long : (g : GameData) (entries : Entries) (hs : List HiddenData) → length (updates_after g entries hs) ≡ length hs
updates_long g entries [] = refl
updates_long g entries (h ∷ hs) = ap suc (updates_long g (entries ++ table_entries g entries h ∷ []) hs)

got-mapped : (fs : List Function) (s : Bits) (k : ℕ) → k < length fs → get_or fs k never s ≡ get_or (map (λ (f : Function). f s) fs) k true
got-mapped [] s k h = absurd (omega arith)
got-mapped (f ∷ fs) s zero h = refl
got-mapped (f ∷ fs) s (suc k) h = got-mapped fs s k (omega arith)

pub update_means : (g : GameData) → WellMade g → (k : ℕ) → k < length g.hidden → IsUpdateOf g k (get_or (updates_of g) k never)
update_means g well k h s s' bits is_s is_s' has next =
    let all = updates_mean g well s s' bits is_s is_s' has next in
    let many = updates_long g [] g.hidden in
    let there = length-map (updates_of g) (λ (f : Function). f bits) in
    let same = ap length all in
    got-mapped (updates_of g) bits k (omega (arith, many, h)) ∙ (ap (λ (bs : List Bool). get_or bs k true) all ∙ get-agree s'.hidden (next_hidden g s) k (omega (arith, same, there, many, h)))
