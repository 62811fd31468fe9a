-- What the calls on sets need of the object, and what they make.
use Rattle.std.proofs.Common.{◌≡◌, ℕ, true, List, [], ◌∷◌, ◌++◌, map, slice_index, Option, Some, None, sym, ◌∙◌, ap, subst, arith}
use Rattle.spec_model.specs.Diagrams.{Function, ite, shifted}
use Rattle.spec_model.specs.Games.{GameData}
use Rattle.spec_model.specs.Sets.{all_states, no_states, rest, pre_sys, pre_env}
use Rattle.game_values.specs.declared.seen.At.TheVariants.{Now}
use Rattle.regions.specs.Kept.{States}
use Rattle.bdd_store.specs.State.{IsRoot}
use Rattle.bdd_bits.specs.Contents.{Contents, function_at}
use Rattle.bdd_ops.specs.Functions.{joined, join_of}
use Rattle.bdd_ops.specs.Calls.{negated}
use Rattle.bdd_sets.specs.Members.{AreMembers, move_functions, avoiding}
use Rattle.bdd_sets.proofs.StateLemmas.{system_told, environment_told}
use Rattle.bdd_sets.specs.declared.moves.NextLevels.{NextLevels}
use Rattle.bdd_sets.specs.StateBits.{Tells, TellsStates}
use Rattle.bdd_sets.proofs.SetLemmas.{tells_none, tells_rest}
use Rattle.bdd_sets.proofs.ListLemmas.{one_itself, times_here}
use Rattle.region_bdd.specs.declared.slots.Content.TheVariants.{Region}
use Rattle.region_bdd.specs.declared.slots.Slot.{Slot}
use Rattle.region_bdd.specs.declared.slots.BddRegion.{BddRegion}
use Rattle.region_bdd.specs.declared.own.Own.{Own}
use Rattle.region_bdd.specs.declared.own.Refused.{Refused}
use Rattle.region_bdd.specs.Slots.{HasContent, shown_of, shown_meaning, shown_at}
use Rattle.region_bdd.specs.Object.{IsObject, kept_of, argument_in}
use Rattle.region_bdd.proofs.SlotLaws.{fit_here}
use Rattle.region_bdd.proofs.AlikeLaws.{has_moves}
use Rattle.region_bdd.proofs.ObjectLaws.{own_root, within_root, region_shows, region_set}

module _ (g : GameData) (own : Own) (lists : NextLevels) (c : Contents) (slots : List Slot) (refused : Option Refused) (object : IsObject g c own lists slots refused) where
  pub nothing_root : IsRoot c.state own.step.nothing
  nothing_root = own_root g own c slots object.sound own.step.nothing (let one = one_itself own.step.nothing in omega (arith, one))

  pub proper_root : IsRoot c.state own.step.proper
  proper_root = own_root g own c slots object.sound own.step.proper (let one = one_itself own.step.proper in omega (arith, one))

  pub held_root : (r : BddRegion) (root : ℕ) → HasContent slots r.slot (Region root) → IsRoot c.state root
  held_root r root here = within_root g own c slots object.sound r.slot (Region root) here root (let one = one_itself root in omega (arith, one))

  -- the diagram of a held region tells what it stands for
  pub region_tells : (r : BddRegion) (root : ℕ) → HasContent slots r.slot (Region root) → Tells g Now (function_at c root) ((kept_of g c slots refused).set r)
  region_tells r root here =
      let fits : TellsStates g Now (function_at c root) = fit_here g c slots r.slot (Region root) here object.sound.slots_fit in
      record { states = fits; set = sym (region_set g c slots refused r root here) }

  pub one_argument : (r : BddRegion) (root : ℕ) → HasContent slots r.slot (Region root) → argument_in g (map (shown_of c) slots) (Some r.slot) ++ argument_in g (map (shown_of c) slots) None ≡ States ((kept_of g c slots refused).set r) ∷ []
  one_argument r root here =
      ap (λ s. shown_meaning g s ∷ []) (region_shows g c slots refused r root here) ∙ ap (λ t. States t ∷ []) (sym (region_set g c slots refused r root here))

  pub two_arguments : (a b : BddRegion) (x y : ℕ) → HasContent slots a.slot (Region x) → HasContent slots b.slot (Region y) → argument_in g (map (shown_of c) slots) (Some a.slot) ++ argument_in g (map (shown_of c) slots) (Some b.slot) ≡ States ((kept_of g c slots refused).set a) ∷ States ((kept_of g c slots refused).set b) ∷ []
  two_arguments a b x y here there =
      ap (λ s. shown_meaning g s ∷ shown_meaning g (shown_at (map (shown_of c) slots) b.slot) ∷ []) (region_shows g c slots refused a x here)
      ∙ (ap (λ t. States t ∷ shown_meaning g (shown_at (map (shown_of c) slots) b.slot) ∷ []) (sym (region_set g c slots refused a x here))
      ∙ ap (λ m. States ((kept_of g c slots refused).set a) ∷ m ∷ []) (ap (shown_meaning g) (region_shows g c slots refused b y there) ∙ ap States (sym (region_set g c slots refused b y there))))

  pub tells_all : Tells g Now (function_at c own.step.proper) (all_states g)
  tells_all = object.sound.own_fits.proper

  pub tells_nothing : Tells g Now (function_at c own.step.nothing) no_states
  tells_nothing = subst (λ (f : Function). Tells g Now f no_states) (sym object.sound.own_fits.nothing) (tells_none g Now)

  pub tells_not : (r : BddRegion) (root : ℕ) → HasContent slots r.slot (Region root) → Tells g Now (ite (function_at c root) (function_at c own.step.nothing) (function_at c own.step.proper)) (rest g ((kept_of g c slots refused).set r))
  tells_not r root here =
      subst (λ (f : Function). Tells g Now (ite (function_at c root) f (function_at c own.step.proper)) (rest g ((kept_of g c slots refused).set r))) (sym object.sound.own_fits.nothing)
      (tells_rest g Now (function_at c root) (function_at c own.step.proper) ((kept_of g c slots refused).set r) (region_tells r root here) tells_all)

  -- ---- moves

  pub later_roots : AreMembers c own.step.later
  later_roots =
      record {
        inputs = λ i below. own_root g own c slots object.sound (slice_index own.step.later.inputs.items i) (let here = times_here own.step.later.inputs.items i below in omega (arith, here));
        outputs = λ i below. own_root g own c slots object.sound (slice_index own.step.later.outputs.items i) (let here = times_here own.step.later.outputs.items i below in omega (arith, here));
        update = λ i below. own_root g own c slots object.sound (slice_index own.step.later.update.items i) (let here = times_here own.step.later.update.items i below in omega (arith, here));
      }

  module _ (r : BddRegion) (root : ℕ) (here : HasContent slots r.slot (Region root)) where
    pub tells_forced : Tells g Now (ite (avoiding (move_functions c own.step.later) lists.reply.items lists.all.items (shifted lists.to.items (function_at c root))) (function_at c own.step.nothing) (function_at c own.step.proper)) (pre_sys g ((kept_of g c slots refused).set r))
    tells_forced =
        subst (λ (f : Function). Tells g Now (ite (avoiding (move_functions c own.step.later) lists.reply.items lists.all.items (shifted lists.to.items (function_at c root))) f (function_at c own.step.proper)) (pre_sys g ((kept_of g c slots refused).set r))) (sym object.sound.own_fits.nothing)
        (system_told g lists (move_functions c own.step.later) (has_moves g object.made) object.lists_are object.sound.own_fits.later (function_at c root) (function_at c own.step.proper) ((kept_of g c slots refused).set r) tells_all (region_tells r root here))

    pub tells_kept_in : Tells g Now (joined (join_of true) (avoiding (move_functions c own.step.later) lists.reply.items lists.all.items (negated (shifted lists.to.items (function_at c root)))) (function_at c own.step.proper)) (pre_env g ((kept_of g c slots refused).set r))
    tells_kept_in =
        environment_told g lists (move_functions c own.step.later) (has_moves g object.made) object.lists_are object.sound.own_fits.later (function_at c root) (function_at c own.step.proper) ((kept_of g c slots refused).set r) tells_all (region_tells r root here)
