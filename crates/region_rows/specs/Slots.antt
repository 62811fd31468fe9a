-- What is held in slots: a region or moves for each content, and the set that its row marks.
use Rattle.std.specs.Prelude.{◌≡◌, ℕ, suc, ◌++◌, ◌&&◌, ◌⊎◌, List, [], ◌∷◌, length, Some, None, slice_get, slice_set, get_or}
use Rattle.spec_model.specs.Games.{GameData}
use Rattle.spec_model.specs.Steps.{is_state}
use Rattle.spec_model.specs.Sets.{StateSet, no_states}
use Rattle.regions.specs.Kept.{Kept, Item, Region as RegionItem, Move, Meaning, States, Outputs as OutputMoves, Inputs as InputMoves}
use Rattle.region_rows.specs.declared.row.Row.{Row}
use Rattle.region_rows.specs.declared.slots.Slot.{Slot}
use Rattle.region_rows.specs.declared.slots.Slot.TheVariants.{Free, Region, Outputs, Inputs}
use Rattle.region_rows.specs.declared.slots.RowRegion.{RowRegion}
use Rattle.region_rows.specs.declared.slots.RowMove.{RowMove}
use Rattle.game_states.specs.Numbers.{number_of_state}
use Rattle.region_rows.specs.Rows.{bit_of}

-- the states whose numbers a row has
abbrev pub marked : GameData → Row → StateSet
marked g row s = is_state g s && bit_of row (number_of_state g s)

-- what the content of a slot stands for
abbrev pub content_meaning : GameData → Slot → Meaning
content_meaning g (Free next) = States no_states
content_meaning g (Region row) = States (marked g row)
content_meaning g (Outputs when row) = OutputMoves when (marked g row)
content_meaning g (Inputs when row) = InputMoves when (marked g row)

abbrev pub set_of : Meaning → StateSet
set_of (States s) = s
set_of _ = no_states

-- the content of a slot
abbrev pub content_at : List Slot → ℕ → Slot
content_at slots i = get_or slots i (Free 0)

-- what the slots, numbered from n, hold
abbrev pub items_from : ℕ → List Slot → List (Item RowRegion RowMove)
items_from n [] = []
items_from n (Free next ∷ slots) = items_from (suc n) slots
items_from n (Region row ∷ slots) = RegionItem (record { slot = n }) ∷ items_from (suc n) slots
items_from n (Outputs when row ∷ slots) = Move (record { slot = n }) ∷ items_from (suc n) slots
items_from n (Inputs when row ∷ slots) = Move (record { slot = n }) ∷ items_from (suc n) slots

abbrev pub kept_in : GameData → List Slot → Kept RowRegion RowMove
kept_in g slots =
    record {
      game = g;
      bound = 0;
      set = λ r. set_of (content_meaning g (content_at slots r.slot));
      choice = λ m. content_meaning g (content_at slots m.slot);
      held = items_from 0 slots;
      jam = None;
    }

-- ---- how a call changes the slots

abbrev pub HasRow : List Slot → ℕ → Type 0
HasRow slots i = (row : Row) × (slice_get slots i ≡ Some (Region row))

abbrev pub HasContent : List Slot → ℕ → Slot → Type 0
HasContent slots i content = slice_get slots i ≡ Some content

-- the content is in a slot that was free, or in a new one
abbrev pub TakesSlot : List Slot → List Slot → ℕ → Slot → Type 0
TakesSlot old new i content = ((next : ℕ) × HasContent old i (Free next) × (new ≡ slice_set old i content)) ⊎ ((i ≡ length old) × (new ≡ old ++ content ∷ []))

abbrev pub FreesSlot : List Slot → List Slot → ℕ → Type 0
FreesSlot old new i = (next : ℕ) × (new ≡ slice_set old i (Free next))
