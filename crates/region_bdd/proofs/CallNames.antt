-- What is named where a call asks of a held region, and where a diagram was only asked for.
use Rattle.std.proofs.Common.{◌≡◌, Bool, List, Option, None, Result, Ok, Err, IfErr, ℕ, refl, sym, ap, subst}
use Rattle.std.proofs.Math.Logic.{∥∥₁_map}
use Rattle.spec_model.specs.Diagrams.{Function, shifted}
use Rattle.spec_model.specs.Games.{GameData}
use Rattle.regions.specs.declared.types.When.{When}
use Rattle.regions.specs.declared.types.When.TheVariants.{First, Later}
use Rattle.regions.specs.declared.types.Halt.{Halt}
use Rattle.bdd_bits.specs.Contents.{Contents, function_at}
use Rattle.bdd_ops.specs.Calls.{negated}
use Rattle.bdd_bits.specs.Calls.{KeepsRoots}
use Rattle.bit_compile.specs.Crowding.{HasCause}
use Rattle.bit_compile.proofs.Causes.{cause_ok, cause_handed}
use Rattle.bdd_sets.specs.declared.moves.NextLevels.{NextLevels}
use Rattle.bdd_sets.specs.Members.{move_functions, reply_of, lists_at}
use Rattle.bdd_sets.specs.NamedMoves.{MoveLists, joined_lists}
use Rattle.bdd_sets.specs.NamedGame.{IsOfStep, IsOfRest, IsOfSet, lines_of}
use Rattle.bdd_sets.proofs.ShiftLemmas.{tells_next}
use Rattle.region_bdd.specs.declared.slots.Content.TheVariants.{Region}
use Rattle.region_bdd.specs.declared.slots.Slot.{Slot}
use Rattle.region_bdd.specs.declared.slots.BddRegion.{BddRegion}
use Rattle.region_bdd.specs.declared.own.Own.{Own}
use Rattle.region_bdd.specs.declared.own.Refused.{Refused}
use Rattle.region_bdd.specs.Slots.{HasContent}
use Rattle.region_bdd.specs.Object.{IsObject, OwnIsNamed, kept_of}
use Rattle.region_bdd.specs.Leading.{members_at, leading_in}
use Rattle.region_bdd.specs.Crowding.{LeadsInto}
use Rattle.region_bdd.proofs.ObjectLaws.{none_refused}
use Rattle.region_bdd.proofs.SetCalls.{region_tells}
use Rattle.region_bdd.proofs.Refusals.{members_are, step_named, rest_named}

-- an answer has the cause of the diagram that was asked for
pub asked_cause : (base mid new : Contents) (made : Result ℕ Halt) (result : Result Bool Halt) (N : Function → Type 0) → IfErr result (λ h. (made ≡ Err h) × (new ≡ mid)) → HasCause base mid made N → HasCause base new result N
asked_cause base mid new made (Ok said) N handed cause = cause_ok base new said N
asked_cause base mid new made (Err h) N handed cause =
    let said : Result Bool Halt = Err h in
    subst (λ (k : Contents). HasCause {V = Bool} base k said N) (sym handed.1) (cause_handed base mid made said h N handed.0 refl cause)

module _ (g : GameData) (own : Own) (lists : NextLevels) (c : Contents) (slots : List Slot) (was : Option Refused) (object : IsObject g c own lists slots was) (r : BddRegion) (root : ℕ) (here : HasContent slots r.slot (Region root)) (when : When) where
  lines_named : (when : When) → OwnIsNamed g lists.to.items c own → lists_at c (members_at own when) ≡ lines_of g lists.to.items when
  lines_named First own_is = own_is.first
  lines_named Later own_is = own_is.later

  -- where every legal output leads into the region
  pub leads_into : ∥ LeadsInto g when ((kept_of g c slots was).set r) (leading_in (move_functions c (members_at own when)) lists (function_at c root)) ∥₁
  leads_into =
      let f = function_at c root in
      ∥∥₁_map object.named (λ own_is.
      record {
        levels = lists;
        levels_are = object.lists_are;
        next = shifted lists.to.items f;
        tells = tells_next g lists.to.items object.lists_are.to f ((kept_of g c slots was).set r) (region_tells g own lists c slots was object r root here);
        is = ap (λ (l : MoveLists). negated (reply_of (joined_lists l) lists.reply.items (negated (shifted lists.to.items f)))) (lines_named when own_is);
      })

  module _ (c' : Contents) (free : (kept_of g c slots was).jam ≡ None) (keeps : KeepsRoots c c') (own_is : OwnIsNamed g lists.to.items c' own) where
    lines : lists_at c (members_at own when) ≡ lines_of g lists.to.items when
    lines = members_are g own lists c c' slots (subst (λ (o : Option Refused). IsObject g c own lists slots o) (none_refused g c slots was free) object) keeps when own_is

    pub step_of : (h : Function) → IsOfStep (lists_at c (members_at own when)) lists (shifted lists.to.items (function_at c root)) h → IsOfSet g ((kept_of g c slots was).set r) h
    step_of = step_named g lists object.lists_are when (lists_at c (members_at own when)) lines (function_at c root) ((kept_of g c slots was).set r) (region_tells g own lists c slots was object r root here)

    pub rest_of : (h : Function) → IsOfRest (lists_at c (members_at own when)) lists (shifted lists.to.items (function_at c root)) h → IsOfSet g ((kept_of g c slots was).set r) h
    rest_of = rest_named g lists object.lists_are when (lists_at c (members_at own when)) lines (function_at c root) ((kept_of g c slots was).set r) (region_tells g own lists c slots was object r root here)
