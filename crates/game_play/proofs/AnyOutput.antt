-- A line that reads no present output has one value whatever output follows an input.
use Rattle.std.proofs.Common.{◌≡◌, ℕ, zero, suc, ◌+◌, ◌*◌, ◌-◌, ◌%◌, ◌^◌, ◌<◌, Bool, true, false, not, ◌&&◌, ◌||◌, ◌==◌, nat_lt, if◌then◌else◌, List, [], ◌∷◌, ◌++◌, length, length-append, map, get_or, Some, None, refl, sym, ap, ◌∙◌, inl, inr, ◌⊎◌, arith}
use Rattle.std.specs.List.{list_any, list_all}
use Rattle.std.specs.Bool.{beq}
use Rattle.std.proofs.Math.Nat.{add-mul-mod_self_right, mod-eq_of_lt, mul-le-mul_right, pow-suc}
use Rattle.std.proofs.lemmas.Bool.{and_parts, false≢true}
use Rattle.std.proofs.lemmas.List.{length-map}
use borrow.Author.Tests.{ltb-true, eqb-true}
use Rattle.spec_model.specs.Values.{Assignment, truth_of}
use Rattle.spec_model.specs.Syntax.{Formula, VariableData}
use Rattle.spec_model.specs.Rules.{Position}
use Rattle.spec_model.specs.Meaning.{holds_at}
use Rattle.spec_model.specs.Moves.{has_next}
use Rattle.spec_model.specs.Typing.{Scope, kind_of, is_truth}
use Rattle.spec_model.specs.Games.{GameData, HiddenData, State, Readout, letter_of, cell_of, entries_in, read_table, read_tables, nothing_read, present_reading, step_reading}
use Rattle.spec_model.specs.Steps.{Before, reached, below, are_hidden_values, varies, reads_letter, reads_output, tables_reading_output, waits_for_output, line_holds}
use Rattle.spec_model.specs.WellMade.{WellMade, is_stepwise, awaits_output, is_table, are_tables, is_state_formula, is_step_formula, is_safety_assumption, scope_of, cell_count}
use Rattle.game_values.proofs.TableSteps.{table_atoms}
use Rattle.game_play.proofs.Readings.{Share, value_now}
use Rattle.game_play.proofs.OutputReads.{input_shared, not_false, or_none, reads_both}

-- ---- one truth table

none_below : (test : ℕ → Bool) (n k : ℕ) → k < n → list_any test (below n) ≡ false → test k ≡ false
none_below test zero k h e = absurd (omega arith)
none_below test (suc n) k h e =
    let parts = or_none (list_any test (below n)) (test n || false) (sym (reads_both test (below n) (n ∷ [])) ∙ e) in
    let last_or : (k < n) ⊎ (k ≡ n) = grind arith in
    elim last_or [ inl less ↦ none_below test n k less parts.0 | inr is ↦ ap test is ∙ (or_none (test n) false parts.1).0 ]

same_bit : (a b : Bool) → not (beq a b) ≡ false → a ≡ b
same_bit true true e = refl
same_bit true false e = absurd (cc)
same_bit false true e = absurd (cc)
same_bit false false e = refl

letter_below : (bs : List Bool) → letter_of bs < 2 ^ length bs
letter_below [] = omega arith
letter_below (b ∷ bs) = let double = pow-suc 2 (length bs) in let rest = letter_below bs in at b rest double
  where
    at : (b : Bool) → letter_of bs < 2 ^ length bs → 2 ^ suc (length bs) ≡ 2 ^ length bs * 2 → (if b then 1 else 0) + 2 * letter_of bs < 2 ^ suc (length bs)
    at true rest double = omega (arith, rest, double)
    at false rest double = omega (arith, rest, double)

-- the entry of a table that doesn't vary is that of letter 0
entry_alike : (letters v letter : ℕ) (table : List Bool) → letter < letters → v * letters + letter < length table → varies letters table ≡ false →
    get_or table (v * letters + letter) false ≡ get_or table (v * letters) false
entry_alike letters v letter table small inside e =
    let rest : (v * letters + letter) % letters ≡ letter = ap (λ n. n % letters) (swap (v * letters) letter) ∙ (add-mul-mod_self_right letter v letters ∙ mod-eq_of_lt small) in
    let first : v * letters + letter - (v * letters + letter) % letters ≡ v * letters = ap (λ n. v * letters + letter - n) rest ∙ back (v * letters) letter in
    same_bit (get_or table (v * letters + letter) false) (get_or table (v * letters + letter - (v * letters + letter) % letters) false)
    (none_below (λ cell. not (beq (get_or table cell false) (get_or table (cell - cell % letters) false))) (length table) (v * letters + letter) inside e)
    ∙ ap (λ cell. get_or table cell false) first
  where
    swap : (a b : ℕ) → a + b ≡ b + a
    swap a b = omega arith

    back : (a b : ℕ) → a + b - b ≡ a
    back a b = omega arith

entries_alike : (letters v a b count : ℕ) (tables : List (List Bool)) → a < letters → b < letters → v * letters + a < count → v * letters + b < count →
    list_all (λ (table : List Bool). length table == count) tables ≡ true → list_any (varies letters) tables ≡ false →
    map (λ (table : List Bool). get_or table (v * letters + a) false) tables ≡ map (λ (table : List Bool). get_or table (v * letters + b) false) tables
entries_alike letters v a b count [] sa sb ia ib whole e = refl
entries_alike letters v a b count (t ∷ tables) sa sb ia ib whole e =
    let parts = and_parts (length t == count) _ whole in
    let none = or_none (varies letters t) (list_any (varies letters) tables) e in
    let long = eqb-true (length t) count parts.0 in
    let here : get_or t (v * letters + a) false ≡ get_or t (v * letters + b) false =
    entry_alike letters v a t sa (omega (arith, long, ia)) none.0 ∙ sym (entry_alike letters v b t sb (omega (arith, long, ib)) none.0) in
    ap (λ x. x ∷ map (λ (table : List Bool). get_or table (v * letters + a) false) tables) here
    ∙ ap (λ xs. get_or t (v * letters + b) false ∷ xs) (entries_alike letters v a b count tables sa sb ia ib parts.1 none.1)

-- ---- one hidden table

-- a cell of a value and a letter is a cell of the table
cell_inside : (values letters v letter : ℕ) → v < values → letter < letters → v * letters + letter < values * letters
cell_inside values letters v letter below small = let room = mul-le-mul_right {m = suc v} {n = values} letters (omega arith) in let more = suc-times v letters in omega (arith, room, more, small)
  where
    suc-times : (a b : ℕ) → suc a * b ≡ a * b + b
    suc-times a b = grind arith

-- the entries of two readouts are the same, but for those of the tables that read an output
abbrev AreUnread : List Bool → List (List Bool) → List (List Bool) → Type 0
AreUnread flags es es' = (h n : ℕ) → get_or flags h false ≡ false → get_or (get_or es h []) n false ≡ get_or (get_or es' h []) n false

more_unread : (flags : List Bool) (es es' : List (List Bool)) (flag : Bool) (e e' : List Bool) → length flags ≡ length es → length flags ≡ length es' → AreUnread flags es es' →
    (flag ≡ false → e ≡ e') → AreUnread (flags ++ flag ∷ []) (es ++ e ∷ []) (es' ++ e' ∷ [])
more_unread [] [] [] flag e e' l l' unread same zero n off = ap (λ (bs : List Bool). get_or bs n false) (same off)
more_unread [] [] [] flag e e' l l' unread same (suc h) n off = refl
more_unread [] [] (b ∷ es') flag e e' l l' unread same h n off = absurd (omega arith)
more_unread [] (a ∷ es) es' flag e e' l l' unread same h n off = absurd (omega arith)
more_unread (f ∷ flags) [] es' flag e e' l l' unread same h n off = absurd (omega arith)
more_unread (f ∷ flags) (a ∷ es) [] flag e e' l l' unread same h n off = absurd (omega arith)
more_unread (f ∷ flags) (a ∷ es) (b ∷ es') flag e e' l l' unread same zero n off = unread 0 n off
more_unread (f ∷ flags) (a ∷ es) (b ∷ es') flag e e' l l' unread same (suc h) n off = more_unread flags es es' flag e e' (omega arith) (omega arith) (λ k m o. unread (suc k) m o) same h n off

module _ (vs : List VariableData) (x y y' : Assignment) where
  abbrev here : Position
  here = record { input = x; output = y }

  abbrev there : Position
  there = record { input = x; output = y' }

  module _ (flags : List Bool) (es es' : List (List Bool)) (unread : AreUnread flags es es') where
    shared : Share vs flags false true false (present_reading vs here es) (present_reading vs there es') 0 0
    shared =
        record {
          variable = λ k suits. input_shared vs x y y' k suits;
          entry = λ h n suits. unread h n (not_false (get_or flags h false) suits);
          next_variable = λ never. absurd (cc);
        }

    atoms_alike : (sc : Scope) (atoms : List Formula) → list_all (is_state_formula sc) atoms ≡ true → list_any (reads_output vs flags) atoms ≡ false →
        map (λ e. holds_at (present_reading vs here es) e 0) atoms ≡ map (λ e. holds_at (present_reading vs there es') e 0) atoms
    atoms_alike sc [] made none = refl
    atoms_alike sc (e ∷ atoms) made none =
        let parts = and_parts (is_state_formula sc e) (list_all (is_state_formula sc) atoms) made in
        let state = and_parts (is_step_formula sc e) (not (has_next e)) parts.0 in
        let step = (and_parts (is_truth (kind_of sc e)) (is_stepwise false e) state.0).1 in
        let reads = or_none (reads_output vs flags e) (list_any (reads_output vs flags) atoms) none in
        let one : holds_at (present_reading vs here es) e 0 ≡ holds_at (present_reading vs there es') e 0 =
        ap truth_of (value_now vs flags false true false (present_reading vs here es) (present_reading vs there es') 0 0 shared e (step, ap not reads.0, refl, state.1)) in
        ap (λ b. b ∷ map (λ d. holds_at (present_reading vs here es) d 0) atoms) one
        ∙ ap (λ bs. holds_at (present_reading vs there es') e 0 ∷ bs) (atoms_alike sc atoms parts.1 reads.1)

    -- a table that reads no output has the same entries
    table_alike : (sc : Scope) (h : HiddenData) (v : ℕ) → is_table sc h ≡ true → nat_lt v h.values ≡ true → (reads_letter h && list_any (reads_output vs flags) h.atoms) ≡ false →
        entries_in h (cell_of vs here es h v) ≡ entries_in h (cell_of vs there es' h v)
    table_alike sc h v made fits none = by_letter (reads_letter h) refl none
      where
        letters : List Bool → ℕ
        letters bs = letter_of bs

        mine : List Bool
        mine = map (λ e. holds_at (present_reading vs here es) e 0) h.atoms

        other : List Bool
        other = map (λ e. holds_at (present_reading vs there es') e 0) h.atoms

        by_letter : (b : Bool) → reads_letter h ≡ b → (b && list_any (reads_output vs flags) h.atoms) ≡ false → entries_in h (cell_of vs here es h v) ≡ entries_in h (cell_of vs there es' h v)
        by_letter true is none = ap (λ bs. entries_in h (v * 2 ^ length h.atoms + letter_of bs)) (atoms_alike sc h.atoms (table_atoms sc h made) none)
        by_letter false is none =
            let one = and_parts (nat_lt h.first h.values) _ made in
            let two = and_parts (list_all (λ w. nat_lt w h.values) h.next) _ one.1 in
            let three = and_parts (length h.next == cell_count h) _ two.1 in
            let whole = (and_parts (list_all (λ (table : List Bool). length table == cell_count h) h.tables) _ three.1).0 in
            let small : letter_of mine < 2 ^ length h.atoms = let s = letter_below mine in let l = length-map h.atoms (λ e. holds_at (present_reading vs here es) e 0) in rw l at s in
            let small' : letter_of other < 2 ^ length h.atoms = let s = letter_below other in let l = length-map h.atoms (λ e. holds_at (present_reading vs there es') e 0) in rw l at s in
            let v_in = ltb-true v h.values fits in
            entries_alike (2 ^ length h.atoms) v (letter_of mine) (letter_of other) (cell_count h) h.tables small small'
            (cell_inside h.values (2 ^ length h.atoms) v (letter_of mine) v_in small) (cell_inside h.values (2 ^ length h.atoms) v (letter_of other) v_in small') whole is

  -- ---- all tables

  tables_alike : (sc : Scope) (hs : List HiddenData) (ns : List ℕ) (flags : List Bool) (r r' : Readout) → are_tables sc hs ≡ true → are_hidden_values hs ns ≡ true →
      length flags ≡ length r.entries → length flags ≡ length r'.entries → AreUnread flags r.entries r'.entries →
      AreUnread (tables_reading_output vs flags hs) (read_tables vs here r hs ns).entries (read_tables vs there r' hs ns).entries
  tables_alike sc [] [] flags r r' made fits l l' unread = unread
  tables_alike sc [] (n ∷ ns) flags r r' made fits l l' unread = absurd (false≢true fits)
  tables_alike sc (h ∷ hs) [] flags r r' made fits l l' unread = absurd (false≢true fits)
  tables_alike sc (h ∷ hs) (n ∷ ns) flags r r' made fits l l' unread =
      let parts = and_parts (is_table sc h) _ made in
      let fit = and_parts (nat_lt n h.values) (are_hidden_values hs ns) fits in
      let flag = reads_letter h && list_any (reads_output vs flags) h.atoms in
      let e = entries_in h (cell_of vs here r.entries h n) in
      let e' = entries_in h (cell_of vs there r'.entries h n) in
      tables_alike _ hs ns (flags ++ flag ∷ []) (read_table r h (cell_of vs here r.entries h n)) (read_table r' h (cell_of vs there r'.entries h n)) parts.1 fit.1
      (longer flags flag r.entries e l) (longer flags flag r'.entries e' l')
      (more_unread flags r.entries r'.entries flag e e' l l' unread (λ off. table_alike flags r.entries r'.entries unread sc h n parts.0 fit.0 off))
    where
      longer : {X Y : Type 0} (xs : List X) (x : X) (ys : List Y) (y : Y) → length xs ≡ length ys → length (xs ++ x ∷ []) ≡ length (ys ++ y ∷ [])
      longer xs x ys y l = let a = length-append xs (x ∷ []) in let b = length-append ys (y ∷ []) in omega (arith, a, b, l)

-- ---- one line

module _ (g : GameData) (made : WellMade g) (b : Before) (x y y' : Assignment) (hidden : are_hidden_values g.hidden (reached g b x y).hidden ≡ true) where
  abbrev state : State
  state = reached g b x y

  abbrev state' : State
  state' = reached g b x y'

  -- a line that is judged at the position itself and reads no output there
  pub same_here : (e : Formula) → is_step_formula (scope_of g) e ≡ true → waits_for_output g e ≡ false → line_holds g false b state e ≡ line_holds g false b state' e
  same_here e step waits =
      let reads = or_none (has_next e) (reads_output g.variables flags e) waits in
      ap truth_of (value_now g.variables flags false true false _ _ 0 0 share e ((and_parts (is_truth (kind_of (scope_of g) e)) (is_stepwise false e) step).1, ap not reads.1, refl, ap not reads.0))
    where
      flags : List Bool
      flags = tables_reading_output g.variables [] g.hidden

      share : Share g.variables flags false true false (step_reading g state state) (step_reading g state' state') 0 0
      share =
          record {
            variable = λ k suits. input_shared g.variables x y y' k suits;
            entry = λ h n suits. tables_alike g.variables x y y' _ g.hidden state.hidden [] nothing_read nothing_read made.hidden hidden refl refl (λ k m off. refl) h n (not_false (get_or flags h false) suits);
            next_variable = λ never. absurd (cc);
          }

-- a late line that reads no next output
pub same_late : (g : GameData) (b : Before) (x y y' : Assignment) (e : Formula) → is_safety_assumption g e ≡ true → line_holds g true b (reached g b x y) e ≡ line_holds g true b (reached g b x y') e
same_late g None x y y' e made = refl
same_late g (Some s) x y y' e made =
    let parts = and_parts (is_step_formula (scope_of g) e) (not (awaits_output g.variables false e)) made in
    ap truth_of (value_now g.variables [] true false true _ _ 0 0 share e ((and_parts (is_truth (kind_of (scope_of g) e)) (is_stepwise false e) parts.0).1, refl, parts.1, refl))
  where
    share : Share g.variables [] true false true (step_reading g s (reached g (Some s) x y)) (step_reading g s (reached g (Some s) x y')) 0 0
    share =
        record {
          variable = λ k suits. refl;
          entry = λ h n suits. refl;
          next_variable = λ there k suits. input_shared g.variables x y y' k suits;
        }
