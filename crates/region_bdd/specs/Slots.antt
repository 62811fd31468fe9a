-- What is held in slots, by the functions of its diagrams.
use Rattle.std.specs.Prelude.{◌≡◌, ℕ, suc, ◌+◌, ◌++◌, ◌⊎◌, List, [], ◌∷◌, length, Option, Some, slice_get, slice_set, get_or}
use Rattle.spec_model.specs.Diagrams.{Function}
use Rattle.spec_model.specs.Games.{GameData}
use Rattle.spec_model.specs.Sets.{StateSet, no_states}
use Rattle.game_values.specs.declared.seen.At.TheVariants.{Now, Next}
use Rattle.regions.specs.Kept.{Kept, Item, Region as RegionItem, Move, Meaning, States, Outputs as OutputMoves, Inputs as InputMoves, Jam}
use Rattle.regions.specs.declared.types.When.{When}
use Rattle.bdd_bits.specs.Contents.{Contents, function_at}
use Rattle.bdd_sets.specs.StateBits.{set_at}
use Rattle.bdd_sets.specs.Lists.{one_at}
use Rattle.region_bdd.specs.declared.slots.Content.{Content}
use Rattle.region_bdd.specs.declared.slots.Content.TheVariants.{Region, Outputs, Inputs}
use Rattle.region_bdd.specs.declared.slots.Slot.{Slot}
use Rattle.region_bdd.specs.declared.slots.Slot.TheVariants.{Free, Taken, Spent}
use Rattle.region_bdd.specs.declared.slots.BddRegion.{BddRegion}
use Rattle.region_bdd.specs.declared.slots.BddMove.{BddMove}

-- ---- by functions

-- nothing; a set; the moves into a set, by its function at the next bits; the inputs that lead into a set, by its function
-- and by the function that is true where every legal output leads there
pub data Shown : Type 0 where
  Nothing : Shown
  Set : Function → Shown
  OutputsInto : When → Function → Shown
  InputsInto : When → Function → Function → Shown

abbrev pub shown_in : Contents → Content → Shown
shown_in c (Region root) = Set (function_at c root)
shown_in c (Outputs when root) = OutputsInto when (function_at c root)
shown_in c (Inputs when root leads) = InputsInto when (function_at c root) (function_at c leads)

-- what a slot holds; one that is spent holds nothing any more
abbrev pub shown_of : Contents → Slot → Shown
shown_of c (Free next) = Nothing
shown_of c (Taken content) = shown_in c content
shown_of c (Spent content) = Nothing

-- what a slot held when the budget ran out
abbrev pub shown_once : Contents → Slot → Shown
shown_once c (Free next) = Nothing
shown_once c (Taken content) = shown_in c content
shown_once c (Spent content) = shown_in c content

abbrev pub shown_meaning : GameData → Shown → Meaning
shown_meaning g Nothing = States no_states
shown_meaning g (Set f) = States (set_at g Now f)
shown_meaning g (OutputsInto when f) = OutputMoves when (set_at g Next f)
shown_meaning g (InputsInto when f leads) = InputMoves when (set_at g Now f)

abbrev pub set_of : Meaning → StateSet
set_of (States s) = s
set_of _ = no_states

abbrev pub shown_at : List Shown → ℕ → Shown
shown_at shown i = get_or shown i Nothing

-- the items in slots that are numbered from n
abbrev pub items_from : ℕ → List Shown → List (Item BddRegion BddMove)
items_from n [] = []
items_from n (Nothing ∷ shown) = items_from (suc n) shown
items_from n (Set f ∷ shown) = RegionItem (record { slot = n }) ∷ items_from (suc n) shown
items_from n (OutputsInto when f ∷ shown) = Move (record { slot = n }) ∷ items_from (suc n) shown
items_from n (InputsInto when f leads ∷ shown) = Move (record { slot = n }) ∷ items_from (suc n) shown

-- the meanings of all that slots show
abbrev pub meanings_in : GameData → List Shown → List Meaning
meanings_in g [] = []
meanings_in g (Nothing ∷ shown) = meanings_in g shown
meanings_in g (Set f ∷ shown) = shown_meaning g (Set f) ∷ meanings_in g shown
meanings_in g (OutputsInto when f ∷ shown) = shown_meaning g (OutputsInto when f) ∷ meanings_in g shown
meanings_in g (InputsInto when f leads ∷ shown) = shown_meaning g (InputsInto when f leads) ∷ meanings_in g shown

abbrev pub kept_in : GameData → ℕ → Option Jam → List Shown → Kept BddRegion BddMove
kept_in g bound jam shown =
    record {
      game = g;
      bound = bound;
      set = λ r. set_of (shown_meaning g (shown_at shown r.slot));
      choice = λ m. shown_meaning g (shown_at shown m.slot);
      held = items_from 0 shown;
      jam = jam;
    }

-- ---- how slots change

abbrev pub HasContent : List Slot → ℕ → Content → Type 0
HasContent slots i content = slice_get slots i ≡ Some (Taken content)

abbrev pub HasRegionRoot : List Slot → ℕ → Type 0
HasRegionRoot slots i = (root : ℕ) × HasContent slots i (Region root)

-- the slot was free, or is a new one
abbrev pub TakesSlot : List Slot → List Slot → ℕ → Slot → Type 0
TakesSlot old new i slot = ((next : ℕ) × (slice_get old i ≡ Some (Free next)) × (new ≡ slice_set old i slot)) ⊎ ((i ≡ length old) × (new ≡ old ++ slot ∷ []))

abbrev pub FreesSlot : List Slot → List Slot → ℕ → Type 0
FreesSlot old new i = (next : ℕ) × (new ≡ slice_set old i (Free next))

abbrev pub MarksSpent : List Slot → List Slot → ℕ → Type 0
MarksSpent old new i = (content : Content) × HasContent old i content × (new ≡ slice_set old i (Spent content))

-- the same of what slots show
abbrev pub TakesPlace : List Shown → List Shown → ℕ → Shown → Type 0
TakesPlace old new i shown = ((slice_get old i ≡ Some Nothing) × (new ≡ slice_set old i shown)) ⊎ ((i ≡ length old) × (new ≡ old ++ shown ∷ []))

abbrev pub ClearsPlace : List Shown → List Shown → ℕ → Type 0
ClearsPlace old new i = new ≡ slice_set old i Nothing

-- ---- roots

-- how often the slot has the root
abbrev pub roots_within : ℕ → Content → ℕ
roots_within n (Region root) = one_at n root
roots_within n (Outputs when root) = one_at n root
roots_within n (Inputs when root leads) = one_at n root + one_at n leads

abbrev pub roots_of_slot : ℕ → Slot → ℕ
roots_of_slot n (Free next) = 0
roots_of_slot n (Taken content) = roots_within n content
roots_of_slot n (Spent content) = roots_within n content

-- how often the slots have it
abbrev pub roots_of_slots : ℕ → List Slot → ℕ
roots_of_slots n [] = 0
roots_of_slots n (slot ∷ slots) = roots_of_slot n slot + roots_of_slots n slots
