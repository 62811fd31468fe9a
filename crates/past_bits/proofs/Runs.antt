-- The values and entries of the operators' tables on a run.
use Rattle.std.proofs.Common.{◌≡◌, ℕ, zero, suc, ◌<◌, Bool, true, false, List, [], ◌∷◌, ◌++◌, length, map, flat_map, get_or, Option, Some, is_some, slice_get, unwrap_or, refl, sym, ap, ◌∙◌, subst, arith, append_assoc, append-nil}
use Rattle.std.specs.Prelude.{slice_index}
use Rattle.std.specs.List.{list_any, list_all}
use Rattle.std.proofs.lemmas.Bool.{and_parts, false≢true}
use Rattle.std.proofs.lemmas.List.{map-append}
use Rattle.spec_model.specs.Syntax.{Formula, PastOf, VariableData, Specification}
use Rattle.spec_model.specs.Meaning.{Reading, past_of, value_at, holds_at, truths_at}
use Rattle.spec_model.specs.Rules.{Position, Run}
use Rattle.spec_model.specs.Moves.{nothing, value_among, reading_of}
use Rattle.spec_model.specs.Sizes.{same_formula, past_trees, formulas_of, past_operators}
use Rattle.spec_model.specs.Games.{GameData, HiddenData, Readout, cell_of, read_table, read_tables, entries_in, nothing_read, readout_of, entry_at}
use Rattle.spec_model.specs.GameRuns.{hidden_at, state_at, game_reading}
use Rattle.past_bits.specs.Entries.{place_of, with_entries}
use Rattle.past_bits.specs.Bits.{table_of, tables_of}
use Rattle.past_bits.specs.Laws.{BeginsWithBits, EntriesAreOperators}
use Rattle.past_bits.proofs.Plain.{is_plain}
use Rattle.past_bits.proofs.Ordered.{covers, trees_in_line, AreOrdered}
use Rattle.past_bits.proofs.Agreeing.{agrees, both_covered}
use Rattle.past_bits.proofs.Walk.{value_of, entries_of, at_place, walk}

-- reading more tables adds to what was read
module _ (vs : List VariableData) (p : Position) where
  more_entries : (hs : List HiddenData) (ns : List ℕ) (q : Readout) → (xs : List (List Bool)) × ((read_tables vs p q hs ns).entries ≡ q.entries ++ xs)
  more_entries [] ns q = ([], sym (append-nil q.entries))
  more_entries (h ∷ hs) [] q = ([], sym (append-nil q.entries))
  more_entries (h ∷ hs) (n ∷ ns) q =
      let c = cell_of vs p q.entries h n in
      let rest = more_entries hs ns (read_table q h c) in
      (entries_in h c ∷ rest.0, rest.1 ∙ append_assoc q.entries (entries_in h c ∷ []) rest.0)

  more_next : (hs : List HiddenData) (ns : List ℕ) (q : Readout) → (xs : List ℕ) × ((read_tables vs p q hs ns).next ≡ q.next ++ xs)
  more_next [] ns q = ([], sym (append-nil q.next))
  more_next (h ∷ hs) [] q = ([], sym (append-nil q.next))
  more_next (h ∷ hs) (n ∷ ns) q =
      let c = cell_of vs p q.entries h n in
      let rest = more_next hs ns (read_table q h c) in
      (slice_index h.next c ∷ rest.0, rest.1 ∙ append_assoc q.next (slice_index h.next c ∷ []) rest.0)

first_value : (r : Reading) (ops : List Formula) (e : Formula) → (table_of ops e).first ≡ value_of r 0 e
first_value r ops (PastOf op es) = refl
first_value r ops _ = refl

pub first_values : (r : Reading) (ops es : List Formula) → map (λ h. h.first) (map (table_of ops) es) ≡ map (value_of r 0) es
first_values r ops [] = refl
first_values r ops (e ∷ es) = λ i. first_value r ops e i ∷ first_values r ops es i

-- what stands at a place of a list, where more follows
at_index : (f : Formula → List Bool) (ops : List Formula) (more : List (List Bool)) (k : ℕ) (e : Formula) → slice_get ops k ≡ Some e → get_or (map f ops ++ more) k [] ≡ f e
at_index f [] more k e is = absurd (none_is k is)
  where
    none_is : (k : ℕ) → slice_get [] k ≡ Some e → ⊥
    none_is k is = false≢true (ap (λ (o : Option Formula). is_some o) is)
at_index f (x ∷ ops) more zero e is = ap f (ap (λ o. unwrap_or o x) is)
at_index f (x ∷ ops) more (suc k) e is = at_index f ops more k e is

module _ (s : Specification) (g : GameData) (ordered : AreOrdered s) (begins : BeginsWithBits s g) (h : Run) where
  abbrev pub ops : List Formula
  ops = past_operators s

  -- by the values of the operators' tables, what is read at a position
  reads : (t : ℕ) (rest : List ℕ) → hidden_at g h t ≡ map (value_of (reading_of s h) t) ops ++ rest →
      readout_of g (state_at g h t)
      ≡ read_tables g.variables (get_or h t nothing) (record { entries = map (entries_of (reading_of s h) t) ops; next = map (value_of (reading_of s h) (suc t)) ops }) begins.hidden.0 rest
  reads t rest is =
      (λ i. read_tables g.variables (get_or h t nothing) nothing_read (begins.hidden.1 i) (is i))
      ∙ walk ops g.variables (get_or h t nothing) (reading_of s h) t (λ k. ap (λ vs. value_among vs (get_or h t nothing) k) begins.variables) [] ops begins.hidden.0 rest nothing_read refl ordered.order refl

  values : (t : ℕ) → (rest : List ℕ) × (hidden_at g h t ≡ map (value_of (reading_of s h) t) ops ++ rest)
  values zero = (
    map (λ h. h.first) begins.hidden.0,
    ap (λ hs. map (λ h. h.first) hs) begins.hidden.1
        ∙ (map-append (λ (h : HiddenData). h.first) (tables_of ops) begins.hidden.0 ∙ ap (λ ns. ns ++ map (λ h. h.first) begins.hidden.0) (first_values (reading_of s h) ops ops)),
  )
  values (suc t) =
      let now = values t in
      let more = more_next g.variables (get_or h t nothing) begins.hidden.0 now.0 (record { entries = map (entries_of (reading_of s h) t) ops; next = map (value_of (reading_of s h) (suc t)) ops }) in
      (more.0, ap (λ w. w.next) (reads t now.0 now.1) ∙ more.1)

  entries : (t : ℕ) → (more : List (List Bool)) × ((readout_of g (state_at g h t)).entries ≡ map (entries_of (reading_of s h) t) ops ++ more)
  entries t =
      let now = values t in
      let more = more_entries g.variables (get_or h t nothing) begins.hidden.0 now.0 (record { entries = map (entries_of (reading_of s h) t) ops; next = map (value_of (reading_of s h) (suc t)) ops }) in
      (more.0, ap (λ w. w.entries) (reads t now.0 now.1) ∙ more.1)

  pub entry_at_index : (t k : ℕ) (e : Formula) → slice_get ops k ≡ Some e → entry_at g (state_at g h t) k 0 ≡ holds_at (reading_of s h) e t
  entry_at_index t k e is =
      let all = entries t in
      ap (λ xs. get_or (get_or xs k []) 0 false) all.1 ∙ ap (λ x. get_or x 0 false) (at_index (entries_of (reading_of s h) t) ops all.0 k e is)

  pub entry_at_place : (t : ℕ) (e : Formula) → list_any (same_formula e) ops ≡ true → entry_at g (state_at g h t) (place_of ops e) 0 ≡ holds_at (reading_of s h) e t
  entry_at_place t e there =
      let all = entries t in
      ap (λ xs. get_or (get_or xs (place_of ops e) []) 0 false) all.1
      ∙ (ap (λ os. get_or (get_or (map (entries_of (reading_of s h) t) ops ++ all.0) (place_of os e) []) 0 false) (sym (append-nil ops))
      ∙ ap (λ x. get_or x 0 false) (at_place (entries_of (reading_of s h) t) ops [] all.0 [] e there))

  pub formula_agrees : (t : ℕ) (e : Formula) → is_plain true e ≡ true → covers ops (past_trees e) ≡ true → value_at (game_reading g h) (with_entries ops e) t ≡ value_at (reading_of s h) e t
  formula_agrees t e plain has =
      agrees ops ops (game_reading g h) (reading_of s h) true (λ u t. u ≡ t)
      (λ k u t is. (λ i. value_among (begins.variables i) (get_or h (is i) nothing) k))
      (λ op es u t is there. entry_at_place u (PastOf op es) there ∙ ap (λ t. past_of op (truths_at (reading_of s h) es) t) is)
      (λ yes u t is. ap suc is)
      e t t refl plain has

-- ---- a formula of a line

pub covers_one : {X : Type 0} (known : List Formula) (trees : X → List Formula) (xs : List X) (k : ℕ) (x : X) → k < length xs → get_or xs k x ≡ x → covers known (flat_map trees xs) ≡ true → covers known (trees x) ≡ true
covers_one known trees [] k x below is has = absurd (omega arith)
covers_one known trees (y ∷ xs) zero x below is has = subst (λ y. covers known (trees y) ≡ true) is (both_covered known (trees y) (flat_map trees xs) has).0
covers_one known trees (y ∷ xs) (suc k) x below is has = covers_one known trees xs k x (omega arith) is (both_covered known (trees y) (flat_map trees xs) has).1

pub passes_one : {X : Type 0} (p : X → Bool) (xs : List X) (k : ℕ) (x : X) → k < length xs → get_or xs k x ≡ x → list_all p xs ≡ true → p x ≡ true
passes_one p [] k x below is all = absurd (omega arith)
passes_one p (y ∷ xs) zero x below is all = subst (λ y. p y ≡ true) is (and_parts (p y) (list_all p xs) all).0
passes_one p (y ∷ xs) (suc k) x below is all = passes_one p xs k x (omega arith) is (and_parts (p y) (list_all p xs) all).1

pub entries_agree : (s : Specification) (g : GameData) → list_all (λ l. list_all (is_plain true) (formulas_of s l.content)) s.lines ≡ true → AreOrdered s → BeginsWithBits s g → EntriesAreOperators s g
entries_agree s g plain ordered begins =
    record {
      entries = λ h t k e is. entry_at_index s g ordered begins h t k e is;
      formulas = λ h t e inside.
          formula_agrees s g ordered begins h t e
          (passes_one (is_plain true) (formulas_of s inside.line.content) inside.formula.0 e inside.formula.1 inside.formula.2
          (passes_one (λ l. list_all (is_plain true) (formulas_of s l.content)) s.lines inside.there.0 inside.line inside.there.1 inside.there.2 plain))
          (covers_one (past_operators s) past_trees (formulas_of s inside.line.content) inside.formula.0 e inside.formula.1 inside.formula.2
          (covers_one (past_operators s) (trees_in_line s) s.lines inside.there.0 inside.line inside.there.1 inside.there.2 ordered.all));
    }
