-- A place that goes ahead, and the cells that it writes.
use Rattle.std.proofs.Common.{◌≡◌, ℕ, zero, suc, ◌+◌, ◌*◌, ◌<◌, ◌≤◌, false, List, [], ◌∷◌, ◌++◌, length, map, take, get_or, Some, None, refl, sym, ap, subst, ◌∙◌, append_assoc, arith, inl, inr, ◌⊎◌}
use Rattle.std.proofs.lemmas.List.{take_more}
use Rattle.spec_model.specs.declared.value.Value.{Value}
use Rattle.spec_model.specs.declared.value.Value.TheVariants as value
use Rattle.spec_model.specs.Rules.{Run}
use Rattle.spec_model.specs.Moves.{nothing}
use Rattle.spec_model.specs.Games.{GameData, HiddenData, Readout, entries_in, entry_at}
use Rattle.spec_model.specs.GameRules.{last_state}
use Rattle.spec_model.specs.Steps.{Before}
use Rattle.spec_model.proofs.Running.{last_state-after}
use Rattle.game_play.specs.Sights.{AreCells, cell_in, entries_at}
use Rattle.column_planes.specs.Columns.{entry_in}
use Rattle.trace_planes.specs.declared.run_state.RunState.{RunState}
use Rattle.trace_planes.specs.Audits.{IsReadAfter, IsAt, IsCopy}
use Rattle.trace_planes.specs.Rows.{HasCells, KeepsOthers, state_among}
use Rattle.trace_planes.proofs.InColumns.{below_or_from}

-- a place with the same values is after the same state
pub at_copy : (g : GameData) (b : Before) (p q : RunState) → IsCopy p q → IsAt g b p → IsAt g b q
at_copy g b p q same at =
    record {
      read = reads b at.read;
      sized =
          record {
            state = ap (λ (vs : List Value). length vs) same.state ∙ at.sized.state;
            cells = ap (λ (vs : List Value). length vs) same.cells ∙ at.sized.cells;
            next = ap (λ (vs : List Value). length vs) same.next ∙ at.sized.next;
          };
    }
  where
    reads : (c : Before) → IsReadAfter g c p → IsReadAfter g c q
    reads None read = (same.started ∙ read.0, same.next ∙ read.1)
    reads (Some s) read = (
      same.started ∙ read.0,
      read.1,
      record {
        lists = read.2.lists ∙ sym same.state;
        read = subst (λ (cs : List Value). AreCells g s cs) (sym same.cells) read.2.read;
        next = same.next ∙ read.2.next;
      },
    )

-- the state that a run comes to by one position more
pub last_among : (g : GameData) (h ps : Run) (i : ℕ) → i < length ps → last_state g (h ++ take (i + 1) ps) ≡ Some (state_among g h ps i)
last_among g h ps i below =
    let p = get_or ps i nothing in
    ap (λ (rs : Run). last_state g (h ++ rs)) (take_more ps i nothing below)
    ∙ (ap (last_state g) (sym (append_assoc h (take i ps) (p ∷ []))) ∙ last_state-after g (h ++ take i ps) p.input p.output)

-- the entries of a table are those at its cell
entries_at-get : (hs : List HiddenData) (cells : List Value) (k : ℕ) → length cells ≡ length hs → get_or (entries_at hs cells) k [] ≡ get_or (map (λ h. entries_in h (cell_in (get_or cells k (value.Bool false)))) hs) k []
entries_at-get [] cells k same = refl
entries_at-get (h ∷ hs) [] k same = absurd (omega (arith, same))
entries_at-get (h ∷ hs) (c ∷ cells) zero same = refl
entries_at-get (h ∷ hs) (c ∷ cells) (suc k) same = entries_at-get hs cells k (omega (arith, same))

module _ (g : GameData) (h ps : Run) (i : ℕ) where
  abbrev AreThere : List ℕ → ℕ → Type 0
  AreThere cells n = (table part : ℕ) → 4096 * table + 4096 ≤ length cells → entry_in g.hidden cells table part n ≡ entry_at g (state_among g h ps n) table part

  -- the cells of a place are those of its state
  pub cells_there : (cells : List ℕ) (p : RunState) → IsAt g (Some (state_among g h ps i)) p → length cells ≡ 4096 * length g.hidden →
      ((k : ℕ) → k < length p.cells.items → get_or cells (4096 * k + i) 0 ≡ cell_in (get_or p.cells.items k (value.Bool false))) → AreThere cells i
  cells_there cells p at sized written = λ table part room.
      let many = at.sized.cells in
      let there : table < length p.cells.items = omega (arith, room, sized, many) in
      ap (λ c. get_or (get_or (map (λ (d : HiddenData). entries_in d c) g.hidden) table []) part false) (written table there)
      ∙ (ap (λ es. get_or es part false) (sym (entries_at-get g.hidden p.cells.items table many))
      ∙ ap (λ (r : Readout). get_or (get_or r.entries table []) part false) at.read.2.read)

  pub cells_more : (cells new : List ℕ) → i < 4096 → length new ≡ length cells → HasCells cells g h i ps → KeepsOthers i cells new → AreThere new i → HasCells new g h (i + 1) ps
  cells_more cells new low same before others here = λ i' below table part room.
      elim (below_or_from i' i) [
        | inl less ↦
            ap (λ c. get_or (get_or (map (λ (d : HiddenData). entries_in d c) g.hidden) table []) part false) (others table i' (omega (arith, less, low)) (λ e. absurd (omega (arith, e, less))))
            ∙ before i' less table part (omega (arith, room, same))
        | inr from ↦ let is : i ≡ i' = omega (arith, from, below) in subst (λ (n : ℕ). entry_in g.hidden new table part n ≡ entry_at g (state_among g h ps n) table part) is (here table part room)
      ]
