-- Lists of kept diagrams, and their conjunction.
use Rattle.std.specs.Prelude.{◌<◌, ℕ, List, map, length, slice_index, ◌≡◌, ◌⊎◌}
use Rattle.spec_model.specs.Diagrams.{Function}
use Rattle.bdd_store.specs.State.{IsRoot}
use Rattle.bdd_bits.specs.Contents.{Contents, function_at}
use Rattle.bdd_sets.specs.declared.moves.Members.{Members}
pub use Rattle.bdd_sets.specs.MoveFunctions.{all_true, MoveFunctions, reply_of, avoiding}
use Rattle.bdd_sets.specs.NamedMoves.{MoveLists, outputs, inputs, IsFirstOfAll}

-- each of them is kept
abbrev pub AreRoots : Contents → List ℕ → Type 0
AreRoots c roots = (i : ℕ) → i < length roots → IsRoot c.state (slice_index roots i)

abbrev pub functions_at : Contents → List ℕ → List Function
functions_at c roots = map (function_at c) roots

-- ---- the lines of moves

abbrev pub move_functions : Contents → Members → MoveFunctions
move_functions c m =
    record {
      inputs = all_true (functions_at c m.inputs.items);
      outputs = all_true (functions_at c m.outputs.items);
      update = all_true (functions_at c m.update.items);
    }

-- each of them is kept
pub record AreMembers (c : Contents) (m : Members) : Type 0 where
  pub inputs : AreRoots c m.inputs.items
  pub outputs : AreRoots c m.outputs.items
  pub update : AreRoots c m.update.items

abbrev pub lists_at : Contents → Members → MoveLists
lists_at c m = record { inputs = functions_at c m.inputs.items; outputs = functions_at c m.outputs.items; update = functions_at c m.update.items }

-- this one, or one of these two
abbrev pub IsThis : Function → Function → Type 0
IsThis g f = f ≡ g

abbrev pub IsEither : Function → Function → Function → Type 0
IsEither g h f = (f ≡ g) ⊎ (f ≡ h)

-- that, or this one
abbrev pub IsBesideAll : Function → List Function → Function → Type 0
IsBesideAll g fs f = (f ≡ g) ⊎ IsFirstOfAll fs f
