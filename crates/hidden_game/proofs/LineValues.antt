-- The values and entries of a game's hidden tables on a run: those of the operators, and then those of the lines' tables.
use Rattle.std.proofs.Common.{◌≡◌, ℕ, zero, suc, ◌+◌, ◌*◌, ◌^◌, Bool, true, false, List, [], ◌∷◌, ◌++◌, length, length-append, map, get_or, Option, Some, None, option_map, refl, sym, ap, ◌∙◌, append_assoc, append-nil}
use Rattle.std.specs.List.{list_all, filter_map, cons_option}
use Rattle.std.proofs.Math.Seq.{get_or-append_seam}
use Rattle.std.proofs.lemmas.Bool.{and_parts, and_from, false≢true}
use Rattle.std.proofs.lemmas.List.{length-map, map-append}
use Rattle.spec_model.specs.Values.{truth_of}
use Rattle.spec_model.specs.Syntax.{Formula, PastOf, Content, Initial, Safety, Recurring, PatternUse, TriggerUse, Statement, Specification}
use Rattle.spec_model.specs.Meaning.{Reading, past_of, holds_at, truths_at}
use Rattle.spec_model.specs.Rules.{Position, Run}
use Rattle.spec_model.specs.Moves.{nothing, value_among, reading_of}
use Rattle.spec_model.specs.Sizes.{past_operators}
use Rattle.spec_model.specs.Games.{HiddenData, Readout, letter_of, present_reading, cell_of, entries_in, read_table, read_tables, nothing_read, readout_of, entry_at}
use Rattle.spec_model.specs.GameRuns.{hidden_at, state_at}
use Rattle.past_bits.specs.Entries.{place_of}
use Rattle.past_bits.specs.Bits.{tables_of}
use Rattle.past_bits.proofs.Ordered.{AreOrdered}
use Rattle.past_bits.proofs.Agreeing.{agrees}
use Rattle.past_bits.proofs.Walk.{value_of, entries_of, at_place, walk}
use Rattle.past_bits.proofs.Runs.{first_values}
use Rattle.trigger_dfa.specs.Along.{cell_along, value_along, entry_along}
use Rattle.hidden_game.specs.GameOf.{entered, line_table, entered_table, table_for, game_of}
use Rattle.hidden_game.proofs.Known.{is_known_state, is_known_table, is_known_or_none, is_known_content, state_known, state_plain, known_covered}

read : {es es' : List (List Bool)} {ns ns' : List ℕ} → es ≡ es' → ns ≡ ns' → ◌≡◌ {A = Readout} (record { entries = es; next = ns }) (record { entries = es'; next = ns' })
read p q = λ i. record { entries = p i; next = q i }

-- what the line's table has at a position
abbrev pub entries_along : Reading → ℕ → HiddenData → List Bool
entries_along r t h = entries_in h (cell_along h r (value_along h r t) t)

-- ---- one position

module _ (s : Specification) (p : Position) (t : ℕ) (r : Reading) (variables : (k : ℕ) → value_among s.variables p k ≡ r.variable k t) where
  abbrev ops : List Formula
  ops = past_operators s

  -- where the tables of the operators were read
  module _ (entries more : List (List Bool)) (is : entries ≡ map (entries_of r t) ops ++ more) where
    atom_agrees : (e : Formula) → is_known_state s e ≡ true → holds_at (present_reading s.variables p entries) (entered s e) 0 ≡ holds_at r e t
    atom_agrees e known =
        ap truth_of
        (agrees ops ops (present_reading s.variables p entries) r false (λ u w. w ≡ t)
        (λ k u w same. variables k ∙ ap (λ w. r.variable k w) (sym same))
        (λ op fs u w same there.
        ap (λ es. get_or (get_or es (place_of ops (PastOf op fs)) []) 0 false) is
        ∙ (ap (λ os. get_or (get_or (map (entries_of r t) ops ++ more) (place_of os (PastOf op fs)) []) 0 false) (sym (append-nil ops))
        ∙ (ap (λ x. get_or x 0 false) (at_place (entries_of r t) ops [] more [] (PastOf op fs) there) ∙ ap (λ w. past_of op (truths_at r fs) w) (sym same))))
        (λ no. absurd (false≢true no))
        e 0 t refl (state_plain s e known) (known_covered s e (state_known s e known).0))

    letter_agrees : (es : List Formula) → list_all (is_known_state s) es ≡ true → map (λ a. holds_at (present_reading s.variables p entries) a 0) (map (entered s) es) ≡ map (λ e. holds_at r e t) es
    letter_agrees [] known = refl
    letter_agrees (e ∷ es) known =
        let parts = and_parts (is_known_state s e) (list_all (is_known_state s) es) known in
        λ i. atom_agrees e parts.0 i ∷ letter_agrees es parts.1 i

    cell_agrees : (h : HiddenData) → is_known_table s h ≡ true → (v : ℕ) → cell_of s.variables p entries (entered_table s h) v ≡ cell_along h r v t
    cell_agrees h known v =
        let parts = and_parts _ (list_all (is_known_state s) h.atoms) known in
        λ i. v * 2 ^ (length-map h.atoms (entered s) i) + letter_of (letter_agrees h.atoms parts.1 i)

  -- the tables of the lines, read after those of the operators
  walk_lines : (hs : List HiddenData) → list_all (is_known_table s) hs ≡ true → (q : Readout) (more : List (List Bool)) → q.entries ≡ map (entries_of r t) ops ++ more →
      read_tables s.variables p q (map (entered_table s) hs) (map (λ h. value_along h r t) hs)
      ≡ record { entries = q.entries ++ map (entries_along r t) hs; next = q.next ++ map (λ h. value_along h r (suc t)) hs }
  walk_lines [] known q more so_far = read (sym (append-nil q.entries)) (sym (append-nil q.next))
  walk_lines (h ∷ hs) known q more so_far =
      let parts = and_parts (is_known_table s h) (list_all (is_known_table s) hs) known in
      ap (λ c. read_tables s.variables p (read_table q (entered_table s h) c) (map (entered_table s) hs) (map (λ h. value_along h r t) hs)) (cell_agrees q.entries more so_far h parts.0 (value_along h r t))
      ∙ (walk_lines hs parts.1 (record { entries = q.entries ++ entries_along r t h ∷ []; next = q.next ++ value_along h r (suc t) ∷ [] }) (more ++ entries_along r t h ∷ [])
      (ap (λ es. es ++ entries_along r t h ∷ []) so_far ∙ append_assoc (map (entries_of r t) ops) more (entries_along r t h ∷ []))
      ∙ read (append_assoc q.entries (entries_along r t h ∷ []) (map (entries_along r t) hs)) (append_assoc q.next (value_along h r (suc t) ∷ []) (map (λ h. value_along h r (suc t)) hs)))

-- ---- the tables of all lines

module _ (s : Specification) where
  abbrev pub tables_in : List Statement → List HiddenData
  tables_in ls = filter_map (λ l. line_table s l.content) ls

  pub tables_entered : (ls : List Statement) → filter_map (λ l. table_for s l.content) ls ≡ map (entered_table s) (tables_in ls)
  tables_entered [] = refl
  tables_entered (l ∷ ls) = at (line_table s l.content) (tables_entered ls)
    where
      at : (o : Option HiddenData) → filter_map (λ (l : Statement). table_for s l.content) ls ≡ map (entered_table s) (tables_in ls) →
          cons_option (option_map (entered_table s) o) (filter_map (λ (l : Statement). table_for s l.content) ls) ≡ map (entered_table s) (cons_option o (tables_in ls))
      at None rest = rest
      at (Some h) rest = ap (λ hs. entered_table s h ∷ hs) rest

  pub table_known : (c : Content) → is_known_content s c ≡ true → is_known_or_none s (line_table s c) ≡ true
  table_known (Initial e) known = refl
  table_known (Safety e) known = refl
  table_known (Recurring e) known = refl
  table_known (PatternUse p es) known = known
  table_known (TriggerUse t) known = known

  pub tables_known : (ls : List Statement) → list_all (λ (l : Statement). is_known_content s l.content) ls ≡ true → list_all (is_known_table s) (tables_in ls) ≡ true
  tables_known [] known = refl
  tables_known (l ∷ ls) known =
      let parts = and_parts (is_known_content s l.content) (list_all (λ (l : Statement). is_known_content s l.content) ls) known in
      at (line_table s l.content) (table_known l.content parts.0) (tables_known ls parts.1)
    where
      at : (o : Option HiddenData) → is_known_or_none s o ≡ true → list_all (is_known_table s) (tables_in ls) ≡ true → list_all (is_known_table s) (cons_option o (tables_in ls)) ≡ true
      at None one rest = rest
      at (Some h) one rest = and_from _ _ one rest

-- ---- runs

module _ (s : Specification) (ordered : AreOrdered s) (known : list_all (is_known_table s) (tables_in s s.lines) ≡ true) (run : Run) where
  abbrev r : Reading
  r = reading_of s run

  abbrev hs : List HiddenData
  hs = tables_in s s.lines

  abbrev values_of_all : ℕ → List ℕ
  values_of_all t = map (value_of r t) (past_operators s) ++ map (λ h. value_along h r t) hs

  -- by the values of the tables, what is read at a position
  reads : (t : ℕ) → hidden_at (game_of s) run t ≡ values_of_all t →
      readout_of (game_of s) (state_at (game_of s) run t) ≡ record { entries = map (entries_of r t) (past_operators s) ++ map (entries_along r t) hs; next = values_of_all (suc t) }
  reads t is =
      (λ i. read_tables s.variables (get_or run t nothing) nothing_read (tables_of (past_operators s) ++ tables_entered s s.lines i) (is i))
      ∙ (walk (past_operators s) s.variables (get_or run t nothing) r t (λ k. refl) [] (past_operators s) (map (entered_table s) hs) (map (λ h. value_along h r t) hs) nothing_read refl ordered.order refl
      ∙ walk_lines s (get_or run t nothing) t r (λ k. refl) hs known (record { entries = map (entries_of r t) (past_operators s); next = map (value_of r (suc t)) (past_operators s) }) []
      (sym (append-nil (map (entries_of r t) (past_operators s)))))

  first_of_lines : (xs : List HiddenData) → map (λ h. h.first) (map (entered_table s) xs) ≡ map (λ h. value_along h r 0) xs
  first_of_lines [] = refl
  first_of_lines (x ∷ xs) = ap (λ ns. x.first ∷ ns) (first_of_lines xs)

  pub values : (t : ℕ) → hidden_at (game_of s) run t ≡ values_of_all t
  values zero =
      ap (λ xs. map (λ h. h.first) (tables_of (past_operators s) ++ xs)) (tables_entered s s.lines)
      ∙ (map-append (λ (h : HiddenData). h.first) (tables_of (past_operators s)) (map (entered_table s) hs)
      ∙ (λ i. first_values r (past_operators s) (past_operators s) i ++ first_of_lines hs i))
  values (suc t) = ap (λ (w : Readout). w.next) (reads t (values t))

  pub entries : (t : ℕ) → (readout_of (game_of s) (state_at (game_of s) run t)).entries ≡ map (entries_of r t) (past_operators s) ++ map (entries_along r t) hs
  entries t = ap (λ (w : Readout). w.entries) (reads t (values t))

  map_default : (f : List Bool → Bool) (xs : List (List Bool)) (k : ℕ) → f [] ≡ false → get_or (map f xs) k false ≡ f (get_or xs k [])
  map_default f [] k none = sym none
  map_default f (x ∷ xs) zero none = refl
  map_default f (x ∷ xs) (suc k) none = map_default f xs k none

  -- the entry of a line's table, where some tables of lines come before it
  pub entry_is : (pre post : List HiddenData) (h : HiddenData) → hs ≡ pre ++ h ∷ post → (t part : ℕ) →
      entry_at (game_of s) (state_at (game_of s) run t) (length (past_operators s) + length pre) part ≡ entry_along h r part t
  entry_is pre post h split t part =
      ap (λ es. get_or (get_or es (length (past_operators s) + length pre) []) part false) all
      ∙ (ap (λ k. get_or (get_or (front ++ entries_along r t h ∷ map (entries_along r t) post) k []) part false) (sym many)
      ∙ (ap (λ bs. get_or bs part false) (get_or-append_seam front (entries_along r t h) (map (entries_along r t) post) [])
      ∙ map_default (λ table. get_or table (cell_along h r (value_along h r t) t) false) h.tables part refl))
    where
      front : List (List Bool)
      front = map (entries_of r t) (past_operators s) ++ map (entries_along r t) pre

      all : (readout_of (game_of s) (state_at (game_of s) run t)).entries ≡ front ++ entries_along r t h ∷ map (entries_along r t) post
      all =
          entries t
          ∙ (ap (λ xs. map (entries_of r t) (past_operators s) ++ xs) (ap (map (entries_along r t)) split ∙ map-append (entries_along r t) pre (h ∷ post))
          ∙ sym (append_assoc (map (entries_of r t) (past_operators s)) (map (entries_along r t) pre) (entries_along r t h ∷ map (entries_along r t) post)))

      many : length front ≡ length (past_operators s) + length pre
      many =
          length-append (map (entries_of r t) (past_operators s)) (map (entries_along r t) pre)
          ∙ (λ i. length-map (past_operators s) (entries_of r t) i + length-map pre (entries_along r t) i)
