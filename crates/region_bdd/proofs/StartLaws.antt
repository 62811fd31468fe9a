-- What players force at the first move, told by the diagram of where an input keeps the system out of a set.
use Rattle.std.proofs.Common.{◌≡◌, ℕ, Bool, not, Option, IsTrue, ◌↔◌, slice_index, ◌∙◌, ap, arith, List, None}
use Rattle.spec_model.specs.Diagrams.{Function, shifted}
use Rattle.spec_model.specs.Games.{GameData}
use Rattle.spec_model.specs.Sets.{system_forces, environment_forces}
use Rattle.regions.specs.declared.types.When.TheVariants.{First}
use Rattle.game_values.specs.declared.seen.At.TheVariants.{Next}
use Rattle.bdd_bits.specs.Contents.{Contents, function_at}
use Rattle.bdd_ops.specs.Calls.{negated}
use Rattle.bdd_sets.specs.Members.{AreMembers, move_functions, avoiding}
use Rattle.bdd_sets.specs.ToldMoves.{TellsBefore, some_keeps_out}
use Rattle.bdd_sets.specs.StateBits.{Tells}
use Rattle.bdd_sets.proofs.SetLemmas.{told_at}
use Rattle.bdd_sets.proofs.ShiftLemmas.{tells_next}
use Rattle.bdd_sets.proofs.ForceLemmas.{tells_avoiding, forced-not, kept_out-rest}
use Rattle.bdd_sets.specs.declared.moves.NextLevels.{NextLevels}
use Rattle.region_bdd.specs.declared.slots.Content.TheVariants.{Region}
use Rattle.region_bdd.specs.declared.slots.Slot.{Slot}
use Rattle.region_bdd.specs.declared.slots.BddRegion.{BddRegion}
use Rattle.region_bdd.specs.declared.own.Own.{Own}
use Rattle.region_bdd.specs.declared.own.Refused.{Refused}
use Rattle.region_bdd.specs.Slots.{HasContent}
use Rattle.region_bdd.specs.Object.{IsObject, kept_of}
use Rattle.region_bdd.proofs.AlikeLaws.{has_moves}
use Rattle.region_bdd.proofs.ObjectLaws.{own_root}
use Rattle.bdd_sets.proofs.ListLemmas.{times_here}
use Rattle.region_bdd.proofs.SetCalls.{region_tells}
use Rattle.region_bdd.proofs.AskLaws.{first_empty, first_not_empty}

module _ (g : GameData) (own : Own) (lists : NextLevels) (c : Contents) (slots : List Slot) (refused : Option Refused) (object : IsObject g c own lists slots refused) where
  pub first_roots : AreMembers c own.first
  first_roots =
      record {
        inputs = λ i below. own_root g own c slots object.sound (slice_index own.first.inputs.items i) (let here = times_here own.first.inputs.items i below in omega (arith, here));
        outputs = λ i below. own_root g own c slots object.sound (slice_index own.first.outputs.items i) (let here = times_here own.first.outputs.items i below in omega (arith, here));
        update = λ i below. own_root g own c slots object.sound (slice_index own.first.update.items i) (let here = times_here own.first.update.items i below in omega (arith, here));
      }

  module _ (r : BddRegion) (root : ℕ) (here : HasContent slots r.slot (Region root)) where
    there : Tells g Next (shifted lists.to.items (function_at c root)) ((kept_of g c slots refused).set r)
    there = tells_next g lists.to.items object.lists_are.to (function_at c root) ((kept_of g c slots refused).set r) (region_tells g own lists c slots refused object r root here)

    abbrev pub kept_function : Function
    kept_function = avoiding (move_functions c own.first) lists.reply.items lists.all.items (shifted lists.to.items (function_at c root))

    abbrev pub rest_function : Function
    rest_function = avoiding (move_functions c own.first) lists.reply.items lists.all.items (negated (shifted lists.to.items (function_at c root)))

    tells_kept : TellsBefore g First kept_function (some_keeps_out g ((kept_of g c slots refused).set r))
    tells_kept =
        tells_avoiding g First (move_functions c own.first) lists.reply.items lists.all.items (has_moves g object.made) object.sound.own_fits.first object.lists_are.reply object.lists_are.all ((kept_of g c slots refused).set r) (shifted lists.to.items (function_at c root))
        (λ t bits at has. told_at g Next (shifted lists.to.items (function_at c root)) ((kept_of g c slots refused).set r) there t bits at has)

    tells_rest_kept : TellsBefore g First rest_function (some_keeps_out g (λ t. not ((kept_of g c slots refused).set r t)))
    tells_rest_kept =
        tells_avoiding g First (move_functions c own.first) lists.reply.items lists.all.items (has_moves g object.made) object.sound.own_fits.first object.lists_are.reply object.lists_are.all (λ t. not ((kept_of g c slots refused).set r t)) (negated (shifted lists.to.items (function_at c root)))
        (λ t bits at has. ap not (told_at g Next (shifted lists.to.items (function_at c root)) ((kept_of g c slots refused).set r) there t bits at has))

    pub system_answer : (said : Bool) → (IsTrue said ↔ kept_function ≡ function_at c own.step.nothing) → said ≡ system_forces g ((kept_of g c slots refused).set r) None
    system_answer said answer =
        first_empty g kept_function (function_at c own.step.nothing) (some_keeps_out g ((kept_of g c slots refused).set r)) tells_kept object.sound.own_fits.nothing said answer
        ∙ forced-not g ((kept_of g c slots refused).set r) None

    pub environment_answer : (said : Bool) → (IsTrue said ↔ (rest_function ≡ function_at c own.step.nothing → ⊥)) → said ≡ environment_forces g ((kept_of g c slots refused).set r) None
    environment_answer said answer =
        first_not_empty g rest_function (function_at c own.step.nothing) (some_keeps_out g (λ t. not ((kept_of g c slots refused).set r t))) tells_rest_kept object.sound.own_fits.nothing said answer
        ∙ kept_out-rest g ((kept_of g c slots refused).set r) None
