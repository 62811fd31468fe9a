-- What a refused call leaves of the object: its own diagrams stay named, and what was held fills the budget.
use Rattle.std.proofs.Common.{◌≡◌, ◌⊎◌, inl, inr, ℕ, ◌<◌, List, ◌++◌, map, Some, None, Result, Err, sym, ◌∙◌, ap, subst, arith}
use Rattle.std.proofs.Math.Logic.{∥∥₁_map}
use Rattle.spec_model.specs.Diagrams.{Function, shifted}
use Rattle.spec_model.specs.Games.{GameData}
use Rattle.spec_model.specs.Sets.{StateSet}
use Rattle.game_values.specs.declared.seen.At.TheVariants.{Now, Next}
use Rattle.regions.specs.declared.types.When.{When}
use Rattle.regions.specs.declared.types.When.TheVariants.{First, Later}
use Rattle.regions.specs.declared.types.Halt.{Halt}
use Rattle.regions.specs.declared.types.Halt.TheVariants as halt
use Rattle.regions.specs.Kept.{Meaning, Call, Jam}
use Rattle.bdd_store.specs.State.{SameRoots}
use Rattle.bdd_bits.specs.Contents.{Contents, function_at, IsDeclared}
use Rattle.bdd_ops.specs.Calls.{negated}
use Rattle.bdd_bits.specs.Calls.{KeepsRoots}
use Rattle.bdd_bits.proofs.CallLemmas.{keeps_function}
use Rattle.bit_compile.specs.Crowding.{HasCause}
use Rattle.bdd_sets.specs.declared.moves.NextLevels.{NextLevels}
use Rattle.bdd_sets.specs.StateBits.{Tells}
use Rattle.bdd_sets.specs.Forcing.{AreLevelsOf}
use Rattle.bdd_sets.specs.NamedMoves.{MoveLists}
use Rattle.bdd_sets.specs.Members.{lists_at}
use Rattle.bdd_sets.specs.NamedGame.{IsOfGame, IsOfStep, IsOfRest, IsOfSet, first, into, out_of, lines_of}
use Rattle.bdd_sets.proofs.ShiftLemmas.{tells_next}
use Rattle.region_bdd.specs.declared.slots.Slot.{Slot}
use Rattle.region_bdd.specs.declared.own.Own.{Own}
use Rattle.region_bdd.specs.declared.own.Refused.{Refused}
use Rattle.region_bdd.specs.Slots.{shown_of, shown_once, meanings_in}
use Rattle.region_bdd.specs.Object.{IsObject, OwnIsNamed, roots_of_own, argument_in, call_of, jam_in}
use Rattle.region_bdd.specs.Leading.{members_at}
use Rattle.region_bdd.specs.Crowding.{IsOfCall, FillsIn, IsJammed}
use Rattle.region_bdd.proofs.SlotLaws.{once_open}
use Rattle.region_bdd.proofs.ObjectLaws.{own_root, once_stays, sound_same}
use Rattle.region_bdd.proofs.JamLaws.{named_stays, lists_same, jam_made}

-- what the jam of a refused call is
abbrev pub jam_of : GameData → Contents → List Slot → Call → List Meaning → Jam
jam_of g c slots asked arguments = record { call = asked; arguments = arguments; held = meanings_in g (map (shown_once c) slots) }

module _ (g : GameData) (own : Own) (lists : NextLevels) (c c' : Contents) (slots : List Slot) (object : IsObject g c own lists slots None) (keeps : KeepsRoots c c') where
  pub own_same : (n : ℕ) → 0 < roots_of_own n own → function_at c' n ≡ function_at c n
  own_same n some = keeps_function c c' n keeps (own_root g own c slots object.sound n some)

  -- the object's own diagrams stay named
  pub still_named : ∥ OwnIsNamed g lists.to.items c' own ∥₁
  still_named = ∥∥₁_map object.named (named_stays g c c' lists.to.items own keeps.order own_same)

  -- the lines that it keeps were those of the game before the call too
  pub members_are : (when : When) → OwnIsNamed g lists.to.items c' own → lists_at c (members_at own when) ≡ lines_of g lists.to.items when
  members_are First own_is = sym (lists_same g c c' own.first (λ n some. own_same n (omega (arith, some)))) ∙ own_is.first
  members_are Later own_is = sym (lists_same g c c' own.step.later (λ n some. own_same n (omega (arith, some)))) ∙ own_is.later

  -- the object tells of a jam that fills its budget
  pub is_jammed : (why : Refused) (arguments : List Meaning) → argument_in g (map (shown_of c) slots) why.first ++ argument_in g (map (shown_of c) slots) why.second ≡ arguments →
      FillsIn g c' (jam_of g c' slots (call_of why.asked) arguments) → IsJammed g c' (jam_in g (map (shown_once c') slots) (Some why))
  is_jammed why arguments are fills =
      let once : map (shown_once c') slots ≡ map (shown_of c) slots = once_stays g own c c' slots object.sound keeps ∙ once_open c slots object.unspent in
      let told : argument_in g (map (shown_once c') slots) why.first ++ argument_in g (map (shown_once c') slots) why.second ≡ arguments = ap (λ shown. argument_in g shown why.first ++ argument_in g shown why.second) once ∙ are in
      subst (λ (ms : List Meaning). FillsIn g c' (jam_of g c' slots (call_of why.asked) ms)) (sym told) fills

  module _ (same : SameRoots c.state c'.state) where
    -- a refusal fills the budget, where what its cause names is of the game or of the call
    pub refusal_fills : {V : Type 0} (N : Function → Type 0) (result : Result V Halt) → (IsDeclared c' → OwnIsNamed g lists.to.items c' own → HasCause c c' result N) → (asked : Call) (arguments : List Meaning) → (OwnIsNamed g lists.to.items c' own → (f : Function) → N f → IsOfGame g f ⊎ IsOfCall g asked arguments f) →
        result ≡ Err halt.Budget → FillsIn g c' (jam_of g c' slots asked arguments)
    refusal_fills N result cause asked arguments calls is =
        jam_made g own lists c c' slots (sound_same g own c c' slots object.sound keeps same) object.unspent (keeps.levels ∙ object.fits.levels) object.lists_are still_named same keeps N result cause is asked arguments calls

-- ---- what the formulas of a set name

module _ (g : GameData) (levels : NextLevels) (levels_are : AreLevelsOf g levels) (when : When) (m : MoveLists) (lines : m ≡ lines_of g levels.to.items when) (f : Function) (t : StateSet) (tells : Tells g Now f t) where
  next : Tells g Next (shifted levels.to.items f) t
  next = tells_next g levels.to.items levels_are.to f t tells

  pub step_named : (h : Function) → IsOfStep m levels (shifted levels.to.items f) h → IsOfSet g t h
  step_named h is = into when levels (shifted levels.to.items f) levels_are next (subst (λ (l : MoveLists). IsOfStep l levels (shifted levels.to.items f) h) lines is)

  pub rest_named : (h : Function) → IsOfRest m levels (shifted levels.to.items f) h → IsOfSet g t h
  rest_named h (inl is) = first (subst (λ (k : Function). Tells g Next k t) (sym is) next)
  rest_named h (inr is) = out_of when levels (shifted levels.to.items f) levels_are next (subst (λ (l : MoveLists). IsOfStep l levels (negated (shifted levels.to.items f)) h) lines is)
