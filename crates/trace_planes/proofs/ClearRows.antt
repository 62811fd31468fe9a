-- Positions whose moves break no line by the planes.
use Rattle.std.proofs.Common.{◌≡◌, ℕ, zero, suc, ◌+◌, ◌-◌, ◌*◌, ◌<◌, ◌≤◌, true, ◌&&◌, Bool, List, [], ◌∷◌, ◌++◌, length, map, take, get_or, Some, None, refl, sym, ap, subst, ◌∙◌, append_assoc, arith, IsTrue}
use Rattle.std.specs.List.{list_all}
use Rattle.std.proofs.lemmas.Bool.{and_parts}
use Rattle.std.proofs.lemmas.List.{append-nil, take_more}
use Rattle.spec_model.specs.Values.{Assignment}
use Rattle.spec_model.specs.Syntax.{Formula}
use Rattle.spec_model.specs.Rules.{Position, Run}
use Rattle.spec_model.specs.Meaning.{Reading}
use Rattle.spec_model.specs.Moves.{has_next, nothing, value_among}
use Rattle.spec_model.specs.Games.{GameData, State, step_reading, entry_at}
use Rattle.spec_model.specs.GameRules.{last_state}
use Rattle.spec_model.specs.Steps.{Before, reached, is_state, is_input, is_output, are_hidden_values, line_holds, waits_for_output}
use Rattle.spec_model.specs.FirstBroken.{first_broken, first_broken_output, least, broken_by, breaks}
use Rattle.spec_model.specs.WellMade.{WellMade, is_safety_assumption}
use Rattle.game_play.proofs.FirstBroken as inputs
use Rattle.game_play.proofs.FirstAnswer as outputs
use Rattle.column_planes.specs.Columns.{ColumnData, AreRead, value_in, entry_in}
use Rattle.trace_planes.specs.Moves.{IsMove, are_kept}
use Rattle.trace_planes.specs.Findings.{or_else}
use Rattle.trace_planes.specs.GameFindings.{broken_after, broken_in_game}
use Rattle.trace_planes.specs.Rows.{AreWhole, HasColumns, HasCells, AreClear, state_among}
use Rattle.trace_planes.proofs.Found.{none_of, IsWholeBefore, reached_whole, whole_after}
use Rattle.trace_planes.proofs.InColumns.{whole_at}
use Rattle.trace_planes.proofs.Walking.{last_among}
use Rattle.trace_planes.proofs.Kept.{kept_by}

-- a move at which all safety lines hold breaks none
module _ (g : GameData) (made : WellMade g) (r : State) (x y : Assignment) (inside : IsTrue (is_state g r)) (input : IsTrue (is_input g x)) (output : IsTrue (is_output g y)) where
  abbrev next : State
  next = reached g (Some r) x y

  hidden : are_hidden_values g.hidden next.hidden ≡ true
  hidden = (and_parts (are_hidden_values g.hidden next.hidden) _ (reached_whole g made (Some r) x y inside input output)).0

  pub none_there : list_all (λ (l : ℕ × Formula). line_holds g (waits_for_output g l.1) (Some r) next l.1) g.safe_asm ≡ true →
      list_all (λ (l : ℕ × Formula). line_holds g (has_next l.1) (Some r) next l.1) g.safe_gar ≡ true → broken_after g (Some r) (record { input = x; output = y }) ≡ None
  none_there asm gar =
      ap (λ l. or_else l (first_broken_output g (Some r) x y))
      (none_of (first_broken g (Some r) x)
      (inputs.none-labelled (least (broken_by g (Some r) x))
      ∙ (inputs.none_where (is_safety_assumption g) (λ e. line_holds g (waits_for_output g e) (Some r) next e) (λ e. breaks g (waits_for_output g e) (Some r) x e)
      (inputs.safety_breaks g made (Some r) x y hidden) g.safe_asm made.safe_asm ∙ asm)))
      ∙ none_of (first_broken_output g (Some r) x y) (outputs.none_is_legal g made (Some r) x y ∙ gar)

module _ (g : GameData) (made : WellMade g) where
  -- the states along whole positions are the game's
  whole_along : (h ps : Run) → IsWholeBefore g (last_state g h) → AreWhole g ps → (i : ℕ) → i ≤ length ps → IsWholeBefore g (last_state g (h ++ take i ps))
  whole_along h ps before whole zero within = subst (λ (r : Run). IsWholeBefore g (last_state g r)) (sym (append-nil h)) before
  whole_along h [] before whole (suc i) within = absurd (omega arith)
  whole_along h (p ∷ ps) before whole (suc i) within =
      subst (λ (r : Run). IsWholeBefore g (last_state g r)) (append_assoc h (p ∷ []) (take i ps))
      (whole_along (h ++ p ∷ []) ps (whole_after g made h p.input p.output before whole.0 whole.1) whole.2 i (omega arith))

  module _ (codes cells : List ℕ) (h ps : Run) (columns : HasColumns codes g (length ps) ps) (celled : HasCells cells g h (length ps) ps) where
    abbrev cs : ColumnData
    cs = record { variables = g.variables; tables = g.hidden; codes = codes; cells = cells }

    abbrev at : ℕ → Position
    at i = get_or ps i nothing

    abbrev state : ℕ → State
    state i = state_among g h ps i

    -- what is read of a position is in the columns
    read_at : (i j : ℕ) → i < length ps → j ≡ i → (r : Reading) (t : ℕ) → ((k : ℕ) → r.variable k t ≡ value_among g.variables (at i) k) → ((table part : ℕ) → r.entry table part t ≡ entry_at g (state i) table part) → AreRead cs j r t
    read_at i j below same r t is has =
        record {
          variables = λ k there. ap (value_in g.variables codes k) same ∙ (columns i below k there ∙ sym (is k));
          entries = λ table part room. ap (entry_in g.hidden cells table part) same ∙ (celled i below table part room ∙ sym (has table part));
        }

    abbrev next_state : ℕ → State
    next_state j = reached g (Some (state j)) (at (j + 1)).input (at (j + 1)).output

    next_is : (j : ℕ) → j < length ps → next_state j ≡ state (j + 1)
    next_is j below = ap (λ (b : Before). reached g b (at (j + 1)).input (at (j + 1)).output) (sym (last_among g h ps j below))

    move_at : (j : ℕ) → j + 1 < length ps → IsMove cs j g (state j) (next_state j)
    move_at j below =
        let r = state j in
        let s = next_state j in
        let same = next_is j (omega (arith, below)) in
        record {
          both =
              record {
                here = read_at j (j + 0) (omega (arith, below)) (omega arith) (step_reading g r s) 0 (λ k. refl) (λ table part. refl);
                next = λ now. read_at (j + 1) (j + 1) below refl (step_reading g r s) 1 (λ k. refl) (λ table part. ap (λ x. entry_at g x table part) same);
              };
          later =
              record {
                here = read_at (j + 1) (j + 1) below refl (step_reading g s s) 0 (λ k. refl) (λ table part. ap (λ x. entry_at g x table part) same);
                next = λ no. absurd (omega (arith, no));
              };
        }

    module _ (before : IsWholeBefore g (last_state g h)) (whole : AreWhole g ps) (waits nexts : List Bool)
        (are_waits : waits ≡ map (λ (l : ℕ × Formula). waits_for_output g l.1) g.safe_asm) (are_nexts : nexts ≡ map (λ (l : ℕ × Formula). has_next l.1) g.safe_gar)
        (n : ℕ) (kept : (j : ℕ) → j < n → (r s : State) → IsMove cs j g r s → (are_kept g r s waits g.safe_asm && are_kept g r s nexts g.safe_gar) ≡ true) where
      clear_after : (j : ℕ) → j < n → j + 1 < length ps → broken_in_game g (h ++ take (j + 1) ps) (at (j + 1)) ≡ None
      clear_after j low below =
          ap (λ (c : Before). broken_after g c (at (j + 1))) (last_among g h ps j (omega (arith, below)))
          ∙ none_there g made r (at (j + 1)).input (at (j + 1)).output
          (reached_whole g made b (at j).input (at j).output (whole_along h ps before whole j (omega (arith, below))) (whole_at g ps j (omega (arith, below)) whole).0 (whole_at g ps j (omega (arith, below)) whole).1)
          (whole_at g ps (j + 1) below whole).0 (whole_at g ps (j + 1) below whole).1
          (sym (kept_by g r s (waits_for_output g) g.safe_asm) ∙ (ap (λ (late : List Bool). are_kept g r s late g.safe_asm) (sym are_waits) ∙ both.0))
          (sym (kept_by g r s has_next g.safe_gar) ∙ (ap (λ (late : List Bool). are_kept g r s late g.safe_gar) (sym are_nexts) ∙ both.1))
        where
          b : Before
          b = last_state g (h ++ take j ps)

          r : State
          r = state j

          s : State
          s = next_state j

          both : (are_kept g r s waits g.safe_asm ≡ true) × (are_kept g r s nexts g.safe_gar ≡ true)
          both = and_parts (are_kept g r s waits g.safe_asm) (are_kept g r s nexts g.safe_gar) (kept j low r s (move_at j below))

      pub all_clear : AreClear g h ps n
      all_clear = λ i some within below.
          let same : (i - 1) + 1 ≡ i = omega (arith, some) in
          subst (λ (k : ℕ). broken_in_game g (h ++ take k ps) (get_or ps k nothing) ≡ None) same (clear_after (i - 1) (omega (arith, some, within)) (omega (arith, same, below)))
