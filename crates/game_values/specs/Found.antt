-- Where an entry of a hidden table is found.
use Rattle.std.specs.Prelude.{ℕ, ◌≡◌, ◌+◌, ◌*◌, ◌^◌, ◌<◌, ◌≤◌, false, length, map, get_or}
use Rattle.spec_model.specs.declared.game.Hidden.{Hidden}
use Rattle.spec_model.specs.Views.{formula}
use Rattle.spec_model.specs.GameViews.{hidden_data}
use Rattle.spec_model.specs.Meaning.{Reading, holds_at}
use Rattle.spec_model.specs.Games.{letter_of, entries_in}
use Rattle.spec_model.specs.FormulaSizes.{nodes_in_each}
use Rattle.game_values.specs.declared.seen.Found.{Found}
use Rattle.game_values.specs.declared.seen.Found.TheVariants as found
use Rattle.game_values.specs.Safety.{AreSafe, formulas_in}
use Rattle.game_values.specs.Whole.{IsWhole}

-- the cell of a table at a value and at the letter of its atoms
abbrev pub cell_at : Reading → Hidden → ℕ → ℕ
cell_at r h v = v * 2 ^ length h.atoms.items + letter_of (map (λ e. holds_at r e 0) (map formula h.atoms.items))

-- A table's value and atoms may be asked for: it has the value, and its atoms can be computed.
pub record CanRead (r : Reading) (h : Hidden) (v : ℕ) : Type 0 where
  pub below : v < h.values
  pub whole : IsWhole h
  pub safe : AreSafe r (formulas_in h.atoms.items) 0

module _ {S : Type 0} (reading : S → Reading) (unread : S → ℕ) where
  -- What is read of the table is the entry, and less is left to be read.
  pub record IsIn (s : S) (table part t : ℕ) (h : Hidden) (v : ℕ) (before : S) : Type 0 where
    pub can : CanRead (reading before) h v
    pub entry : (reading s).entry table part t ≡ get_or (entries_in (hidden_data h) (cell_at (reading before) h v)) part false
    pub less : nodes_in_each (formulas_in h.atoms.items) + unread before ≤ unread s

  abbrev pub IsFound : S → (table part t : ℕ) → Found S → Type 0
  IsFound s table part t (found.Known b) = b ≡ (reading s).entry table part t
  IsFound s table part t (found.In h v before) = IsIn s table part t h.now v before
