-- How tables and goals are added one by one, and which rows are kept meanwhile.
use Rattle.std.proofs.Common.{◌≡◌, ◌≢◌, ◌≤◌, ◌<◌, ◌+◌, ◌==◌, ℕ, zero, suc, Bool, true, false, if◌then◌else◌, List, [], ◌∷◌, ◌++◌, inl, inr, length, map, drop, get_or, set, replicate, Option, Some, None, option_map, slice_get, refl, sym, ap, subst, ◌∙◌, arith}
use Rattle.std.specs.Option.{option_to_list}
use Rattle.std.specs.List.{cons_option}
use Rattle.std.specs.Prelude.{Result, OnOk}
use Rattle.std.proofs.lemmas.Result.{on_ok_weaker}
use Rattle.std.proofs.lemmas.Bool.{cases_eq}
use Rattle.std.proofs.lemmas.List.{append_assoc, get_or-set_same, get_or-set_other, length-set, length-replicate, length-map, drop_more}
use Rattle.spec_model.specs.declared.game.Hidden.{Hidden}
use Rattle.spec_model.specs.declared.spec.Line.{Line}
use Rattle.spec_model.specs.declared.spec.Pattern.{Pattern}
use Rattle.spec_model.specs.Views.{line_data, pattern_data}
use Rattle.spec_model.specs.Syntax.{Formula, Content, Initial, Safety, Recurring, PatternUse, TriggerUse, Statement, PatternData, TriggerData, Specification}
use Rattle.spec_model.specs.Games.{HiddenData, GoalData}
use Rattle.hidden_game.specs.declared.player.Player.{Player}
use Rattle.pattern_rows.specs.Rows.{by_cell, goal_holds, rows_of}
use Rattle.trigger_dfa.specs.Standings.{table_of}
use Rattle.hidden_game.specs.GameOf.{entered, entered_table, table_for, tables_for, next_table, entries_of, recurring, recurs, labelled, goal_for, goals_for}
use Rattle.hidden_game.specs.Sources.{IsKept, AreKept, formula_of_recurring, goals_of_parts}
use Rattle.hidden_game.proofs.GoalParts.{labelled-entries}

-- goals are added that are the same as others
pub same_added : {T E : Type 0} (r : Result T E) (gs front new others : List GoalData) → new ≡ others → OnOk r (gs ≡ front ++ new) → OnOk r (gs ≡ front ++ others)
same_added r gs front new others same = on_ok_weaker {P = gs ≡ front ++ new} {Q = gs ≡ front ++ others} r (λ e. e ∙ ap (λ xs. front ++ xs) same)

-- one line's table more
pub more_tables : (s : Specification) (front : List HiddenData) (l : Statement) (ls : List Statement) →
    (front ++ option_to_list (table_for s l.content)) ++ tables_for s ls ≡ front ++ tables_for s (l ∷ ls)
more_tables s front l ls = append_assoc front (option_to_list (table_for s l.content)) (tables_for s ls) ∙ ap (λ hs. front ++ hs) (joined (table_for s l.content))
  where
    joined : (o : Option HiddenData) → option_to_list o ++ tables_for s ls ≡ cons_option o (tables_for s ls)
    joined None = refl
    joined (Some h) = refl

-- one line's goals more
pub more_goals : (s : Specification) (player : Player) (table : ℕ) (front : List GoalData) (l : Statement) (ls : List Statement) →
    (front ++ goal_for s player table l) ++ goals_for s player (next_table table (table_for s l.content)) ls ≡ front ++ goals_for s player table (l ∷ ls)
more_goals s player table front l ls = append_assoc front (goal_for s player table l) (goals_for s player (next_table table (table_for s l.content)) ls)

pub next_near : (table : ℕ) (o : Option HiddenData) → next_table table o ≤ table + 1
next_near table None = omega arith
next_near table (Some h) = omega arith

-- the next of the lines that are left
pub line_left : (lines seen : List Line) (k : ℕ) (l : Line) → seen ≡ lines → k < length seen → l ≡ get_or seen k l → map line_data (drop k lines) ≡ line_data l ∷ map line_data (drop (k + 1) lines)
line_left lines seen k l same inside is =
    ap (λ (xs : List Line). map line_data (drop k xs)) (sym same)
    ∙ (ap (map line_data) (drop_more seen k l inside ∙ ap (λ (x : Line). x ∷ drop (k + 1) seen) (sym is))
    ∙ ap (λ (xs : List Line). line_data l ∷ map line_data (drop (k + 1) xs)) same)

-- ---- kept rows

abbrev no_rows : Option Hidden
no_rows = None

none_there : (n k : ℕ) → get_or (replicate n no_rows) k None ≡ no_rows
none_there zero k = refl
none_there (suc n) zero = refl
none_there (suc n) (suc k) = none_there n k

-- at first nothing is kept
pub nothing_is_kept : (patterns : List Pattern) (kept : List (Option Hidden)) → kept ≡ replicate (length patterns) None → AreKept (map pattern_data patterns) kept
nothing_is_kept patterns kept none =
    record {
      room = ap length none ∙ (length-replicate (length patterns) no_rows ∙ sym (length-map patterns pattern_data));
      own = λ k p there. subst (IsKept p) (sym (ap (λ (rs : List (Option Hidden)). get_or rs k None) none ∙ none_there (length patterns) k)) tt;
    }

-- the rows of one pattern more
pub kept_more : (ps : List PatternData) (kept : List (Option Hidden)) (k : ℕ) (p : PatternData) (rows : Option Hidden) → AreKept ps kept → k < length kept → slice_get ps k ≡ Some p → IsKept p rows → AreKept ps (set kept k rows)
kept_more ps kept k p rows are inside there mine =
    record {
      room = length-set kept k rows ∙ are.room;
      own = λ j q at. elim (cases_eq j k) [
        | inl same ↦
            let one : p ≡ q = same_element (sym there ∙ (ap (λ (n : ℕ). slice_get ps n) (sym same) ∙ at)) in
            subst (IsKept q) (sym (ap (λ (n : ℕ). get_or (set kept k rows) n None) same ∙ get_or-set_same kept k rows None inside)) (subst (λ x. IsKept x rows) one mine)
        | inr other ↦ subst (IsKept q) (sym (get_or-set_other kept k j rows None other)) (are.own j q at)
      ];
    }
  where
    same_element : {x y : PatternData} → Some x ≡ Some y → x ≡ y
    same_element e = cc

default_free : {X : Type 0} (xs : List X) (k : ℕ) (d e : X) → k < length xs → get_or xs k d ≡ get_or xs k e
default_free [] k d e inside = absurd (omega arith)
default_free (x ∷ xs) zero d e inside = refl
default_free (x ∷ xs) (suc k) d e inside = default_free xs k d e (omega arith)

-- the rows that are kept for a pattern are its own
pub own_kept : (ps : List PatternData) (kept : List (Option Hidden)) (k : ℕ) (p : PatternData) (d : Option Hidden) → AreKept ps kept → k < length kept → slice_get ps k ≡ Some p → IsKept p (get_or kept k d)
own_kept ps kept k p d are inside there = subst (IsKept p) (default_free kept k None d inside) (are.own k p there)

-- ---- the tables of lines

module _ (s : Specification) where
  pub table-use : (k : ℕ) (args : List Formula) (o : Option PatternData) → slice_get s.patterns k ≡ o →
      table_for s (PatternUse k args) ≡ option_map (λ (p : PatternData). entered_table s (record (rows_of p) { atoms = args })) o
  table-use k args None is = ap (λ (o : Option PatternData). option_map (entered_table s) (option_map (λ (p : PatternData). record (rows_of p) { atoms = args }) o)) is
  table-use k args (Some p) is = ap (λ (o : Option PatternData). option_map (entered_table s) (option_map (λ (p : PatternData). record (rows_of p) { atoms = args }) o)) is

  pub table-trigger : (k : ℕ) (o : Option TriggerData) → slice_get s.triggers k ≡ o → table_for s (TriggerUse k) ≡ option_map (λ (t : TriggerData). entered_table s (table_of t)) o
  table-trigger k None is = ap (λ (o : Option TriggerData). option_map (entered_table s) (option_map table_of o)) is
  table-trigger k (Some t) is = ap (λ (o : Option TriggerData). option_map (entered_table s) (option_map table_of o)) is

  abbrev pub parts_of : Option HiddenData → Option ℕ
  parts_of o = option_map (λ (h : HiddenData). length h.tables) o

  -- a pattern's table has a truth table for each goal, and a trigger's has one
  pub parts-use : (k : ℕ) (args : List Formula) (o : Option PatternData) → slice_get s.patterns k ≡ o → parts_of (table_for s (PatternUse k args)) ≡ option_map (λ (p : PatternData). length p.goals) o
  parts-use k args None is = ap parts_of (table-use k args None is)
  parts-use k args (Some p) is = ap parts_of (table-use k args (Some p) is) ∙ ap Some (length-map p.goals (λ goal. by_cell p (goal_holds goal)))

  pub parts-trigger : (k : ℕ) (o : Option TriggerData) → slice_get s.triggers k ≡ o → parts_of (table_for s (TriggerUse k)) ≡ option_map (λ (t : TriggerData). 1) o
  parts-trigger k None is = ap parts_of (table-trigger k None is)
  parts-trigger k (Some t) is = ap parts_of (table-trigger k (Some t) is)

  -- ---- the goals of lines

  pub goals-some : (line table count : ℕ) (o : Option HiddenData) → Some count ≡ parts_of o → goals_of_parts line table (if count == 1 then 0 else 1) count ≡ labelled line (entries_of table o)
  goals-some line table count None is = absurd (cc)
  goals-some line table count (Some h) is =
      let same : count ≡ length h.tables = cc in
      ap (λ n. goals_of_parts line table (if n == 1 then 0 else 1) n) same ∙ labelled-entries line table h.tables

  pub goals-none : (line table : ℕ) (o : Option HiddenData) → None ≡ parts_of o → [] ≡ labelled line (entries_of table o)
  goals-none line table None is = refl
  goals-none line table (Some h) is = absurd (cc)

  pub recurring-some : (table : ℕ) (c : Content) (e : Formula) → Some e ≡ formula_of_recurring c → entered s e ∷ [] ≡ recurring s table c
  recurring-some table (Initial d) e is = absurd (cc)
  recurring-some table (Safety d) e is = absurd (cc)
  recurring-some table (Recurring d) e is = let same : e ≡ d = cc in ap (λ f. entered s f ∷ []) same
  recurring-some table (PatternUse k args) e is = absurd (cc)
  recurring-some table (TriggerUse k) e is = absurd (cc)

  pub recurring-none : (table : ℕ) (c : Content) → None ≡ formula_of_recurring c → entries_of table (table_for s c) ≡ recurring s table c
  recurring-none table (Initial d) is = refl
  recurring-none table (Safety d) is = refl
  recurring-none table (Recurring d) is = absurd (cc)
  recurring-none table (PatternUse k args) is = refl
  recurring-none table (TriggerUse k) is = refl

  -- the goals of a line that counts
  pub goal-counts : (player : Player) (table : ℕ) (l : Statement) (es : List Formula) → recurs player l.role ≡ true → es ≡ recurring s table l.content → labelled l.number es ≡ goal_for s player table l
  goal-counts player table l es counts is = ap (labelled l.number) is ∙ sym (ap (λ (b : Bool). if b then labelled l.number (recurring s table l.content) else []) counts)
