-- What a call that makes a region leaves, whatever came of its diagram.
use Rattle.std.proofs.Common.{◌≡◌, ℕ, List, ◌++◌, map, Option, Some, None, Result, Ok, Err, IfOk, IfErr, OnErr, ◌⊎◌, refl, sym, ◌∙◌, ap, subst, arith, Bool, true, false, is_ok}
use Rattle.std.proofs.lemmas.Bool.{false≢true}
use Rattle.bdd_store.specs.declared.fault.StoreFault.{StoreFault}
use Rattle.bdd_store.specs.declared.fault.StoreFault.TheVariants as fault
use Rattle.spec_model.specs.Diagrams.{Function}
use Rattle.spec_model.specs.Games.{GameData}
use Rattle.spec_model.specs.Sets.{StateSet}
use Rattle.game_values.specs.declared.seen.At.TheVariants.{Now}
use Rattle.regions.specs.Kept.{Region as RegionItem, Meaning, States, Call, MakesRegion, Halts, IsSameGame}
use Rattle.regions.specs.declared.types.Halt.{Halt}
use Rattle.regions.specs.declared.types.Halt.TheVariants as halt
use Rattle.bdd_bits.specs.Contents.{Contents, function_at, IsDeclared}
use Rattle.bdd_store.specs.State.{SameRoots}
use Rattle.bit_compile.specs.Making.{Makes, halted}
use Rattle.bit_compile.specs.Crowding.{HasCause}
use Rattle.bdd_sets.specs.NamedGame.{IsOfGame}
use Rattle.bdd_sets.specs.declared.moves.NextLevels.{NextLevels}
use Rattle.bdd_sets.specs.StateBits.{Tells, TellsStates, set_at}
use Rattle.bdd_sets.proofs.ShiftLemmas.{fits_kept}
use Rattle.region_bdd.specs.declared.slots.Content.TheVariants.{Region}
use Rattle.region_bdd.specs.declared.slots.Slot.{Slot}
use Rattle.region_bdd.specs.declared.slots.BddRegion.{BddRegion}
use Rattle.region_bdd.specs.declared.own.Own.{Own}
use Rattle.region_bdd.specs.declared.own.Refused.{Refused}
use Rattle.region_bdd.specs.Slots.{shown_of, shown_once}
use Rattle.region_bdd.specs.Crowding.{IsOfCall, FillsIn, IsJammed}
use Rattle.region_bdd.specs.Keeping.{Settles}
use Rattle.region_bdd.proofs.FewNodes.{few_nodes}
use Rattle.region_bdd.specs.Needs.{IsTight}
use Rattle.region_bdd.specs.Object.{IsObject, IsOpen, OwnIsNamed, call_of, argument_in, jam_in, kept_of}
use Rattle.region_bdd.proofs.Refusals.{jam_of, still_named, refusal_fills, is_jammed}
use Rattle.region_bdd.proofs.SlotLaws.{open_taken}
use Rattle.region_bdd.proofs.BoundLaws.{same_bound}
use Rattle.region_bdd.proofs.ObjectLaws.{none_refused, sound_same, sound_taken, makes_item, halts_memory, halts_budget, early_fits}

-- whether a result is a refusal for want of memory
abbrev pub is_memory : {T : Type 0} → Result T Halt → Bool
is_memory (Ok x) = false
is_memory (Err halt.Memory) = true
is_memory (Err halt.Budget) = false

-- what the call answers and leaves
pub record Outcome (g : GameData) (own : Own) (lists : NextLevels) (c c' : Contents) (slots new : List Slot) (refused : Option Refused) (result : Result BddRegion Halt) (t : StateSet) (asked : Call) (arguments : List Meaning) : Type 0 where
  pub made : IfOk result (λ r. MakesRegion (kept_of g c slots None) (kept_of g c' new refused) r t)
  pub halted : IfErr result (Halts (kept_of g c slots None) (kept_of g c' new refused) asked arguments)
  pub same : IsSameGame (kept_of g c slots None) (kept_of g c' new refused)
  pub object : IsObject g c' own lists new refused

module _ (g : GameData) (own : Own) (lists : NextLevels) (c c' : Contents) (slots new : List Slot) (refused : Option Refused) (object : IsObject g c own lists slots None) (f : Function) (t : StateSet) (tells : Tells g Now f t) (why : Refused) (arguments : List Meaning)
    (arguments_are : argument_in g (map (shown_of c) slots) why.first ++ argument_in g (map (shown_of c) slots) why.second ≡ arguments) where
  pub outcome : (made : Result ℕ Halt) (result : Result BddRegion Halt) → Makes c c' made f → (made ≡ Err halt.Budget → FillsIn g c' (jam_of g c' slots (call_of why.asked) arguments)) → Settles slots new refused made result why → Outcome g own lists c c' slots new refused result t (call_of why.asked) arguments
  outcome (Ok root) (Ok r) makes fills settles =
      let told : function_at c' root ≡ f = makes.meaning in
      let fits : TellsStates g Now (function_at c' root) = subst (TellsStates g Now) (sym told) tells.states in
      let is : set_at g Now (function_at c' root) ≡ t = ap (set_at g Now) told ∙ tells.set in
      let made : MakesRegion (kept_of g c slots None) (kept_of g c' new None) r t = makes_item g own c c' slots object.sound makes.keeps new r.slot (Region root) (RegionItem r) (States t) settles.0 (λ w. ap (λ u. w (RegionItem r) (States u)) is) in
      record {
        made = subst (λ (o : Option Refused). MakesRegion (kept_of g c slots None) (kept_of g c' new o) r t) (sym settles.1) made;
        halted = tt;
        same = record { game = refl; bound = same_bound c c' makes.keeps };
        object = record {
          made = object.made;
          fits = fits_kept g lists.to.items c c' makes.keeps object.fits;
          lists_are = object.lists_are;
          early = early_fits g own c c' slots object.sound makes.keeps lists object.early;
          named = still_named g own lists c c' slots object makes.keeps;
          sound = sound_taken g own c c' slots object.sound makes.keeps new r.slot (Region root) makes.added settles.0 fits;
          unspent = subst (λ (o : Option Refused). IsOpen o new) (sym settles.1) (open_taken slots new r.slot (Region root) settles.0 object.unspent);
          tight = subst (λ (o : Option Refused). IsTight o c'.state.table) (sym settles.1) tt;
          jammed = subst (λ (o : Option Refused). IsJammed g c' (jam_in g (map (shown_once c') new) o)) (sym settles.1) tt;
        };
      }
  outcome (Err halt.Memory) (Err halt.Memory) makes fills settles = at_rest new refused settles.0 settles.1
    where
      at_rest : (new : List Slot) (refused : Option Refused) → new ≡ slots → refused ≡ None → Outcome g own lists c c' slots new refused (Err halt.Memory) t (call_of why.asked) arguments
      at_rest new refused same unspent =
          subst (λ (ss : List Slot). Outcome g own lists c c' slots ss refused (Err halt.Memory) t (call_of why.asked) arguments) (sym same)
          (subst (λ (o : Option Refused). Outcome g own lists c c' slots slots o (Err halt.Memory) t (call_of why.asked) arguments) (sym unspent)
          (record {
            made = tt;
            halted = halts_memory g own c c' slots object.sound makes.keeps (call_of why.asked) arguments;
            same = record { game = refl; bound = same_bound c c' makes.keeps };
            object = record { made = object.made; fits = fits_kept g lists.to.items c c' makes.keeps object.fits; lists_are = object.lists_are; early = early_fits g own c c' slots object.sound makes.keeps lists object.early; named = still_named g own lists c c' slots object makes.keeps; sound = sound_same g own c c' slots object.sound makes.keeps makes.refused; unspent = object.unspent; tight = tt; jammed = tt };
          }))
  outcome (Err halt.Budget) (Err halt.Budget) makes fills settles = at_rest new refused settles.0 settles.1
    where
      at_rest : (new : List Slot) (refused : Option Refused) → new ≡ slots → refused ≡ Some why → Outcome g own lists c c' slots new refused (Err halt.Budget) t (call_of why.asked) arguments
      at_rest new refused same told =
          subst (λ (ss : List Slot). Outcome g own lists c c' slots ss refused (Err halt.Budget) t (call_of why.asked) arguments) (sym same)
          (subst (λ (o : Option Refused). Outcome g own lists c c' slots slots o (Err halt.Budget) t (call_of why.asked) arguments) (sym told)
          (record {
            made = tt;
            halted = halts_budget g own c c' slots object.sound makes.keeps why (call_of why.asked) arguments object.unspent refl arguments_are;
            same = record { game = refl; bound = same_bound c c' makes.keeps };
            object = record { made = object.made; fits = fits_kept g lists.to.items c c' makes.keeps object.fits; lists_are = object.lists_are; early = early_fits g own c c' slots object.sound makes.keeps lists object.early; named = still_named g own lists c c' slots object makes.keeps; sound = sound_same g own c c' slots object.sound makes.keeps makes.refused; unspent = tt; tight = few_nodes c'.state.table (makes.full refl); jammed = is_jammed g own lists c c' slots object makes.keeps why arguments arguments_are (fills refl) };
          }))
  outcome (Ok root) (Err halt.Memory) makes fills settles = absurd settles
  outcome (Ok root) (Err halt.Budget) makes fills settles = absurd settles
  outcome (Err halt.Memory) (Ok r) makes fills settles = absurd settles
  outcome (Err halt.Budget) (Ok r) makes fills settles = absurd settles
  outcome (Err halt.Memory) (Err halt.Budget) makes fills settles = absurd settles
  outcome (Err halt.Budget) (Err halt.Memory) makes fills settles = absurd settles

-- the same, as the calls have it: with room made for the diagram first
pub record Answered (g : GameData) (own : Own) (lists : NextLevels) (c c' : Contents) (slots new : List Slot) (was refused : Option Refused) (result : Result BddRegion Halt) (t : StateSet) (asked : Call) (arguments : List Meaning) : Type 0 where
  pub made : IfOk result (λ r. MakesRegion (kept_of g c slots was) (kept_of g c' new refused) r t)
  pub halted : IfErr result (Halts (kept_of g c slots was) (kept_of g c' new refused) asked arguments)
  pub same : IsSameGame (kept_of g c slots was) (kept_of g c' new refused)
  pub object : IsObject g c' own lists new refused

module _ (g : GameData) (own : Own) (lists : NextLevels) (c : Contents) (slots : List Slot) where
  answered_free : (c' : Contents) (new : List Slot) (refused : Option Refused) (result : Result BddRegion Halt) (t : StateSet) (asked : Call) (arguments : List Meaning) (was : Option Refused) → was ≡ None →
      Outcome g own lists c c' slots new refused result t asked arguments → Answered g own lists c c' slots new was refused result t asked arguments
  answered_free c' new refused result t asked arguments was free outcome =
      subst (λ (o : Option Refused). Answered g own lists c c' slots new o refused result t asked arguments) (sym free)
      (record { made = outcome.made; halted = outcome.halted; same = outcome.same; object = outcome.object })

  -- where a cause is told under the declared order, of what is kept there
  pub answered_where : (c' : Contents) (mid new : List Slot) (was refused : Option Refused) (object : IsObject g c own lists slots was) → (kept_of g c slots was).jam ≡ None → mid ≡ slots → (f : Function) (t : StateSet) → Tells g Now f t → (why : Refused) (arguments : List Meaning) →
      argument_in g (map (shown_of c) slots) why.first ++ argument_in g (map (shown_of c) slots) why.second ≡ arguments → (made : Result ℕ Halt) (result : Result BddRegion Halt) → Makes c c' made f → (N : Function → Type 0) → (IsDeclared c' → OwnIsNamed g lists.to.items c' own → HasCause c c' made N) → (OwnIsNamed g lists.to.items c' own → (h : Function) → N h → IsOfGame g h ⊎ IsOfCall g (call_of why.asked) arguments h) → (given : Refused) → given ≡ why → Settles mid new refused made result given →
      Answered g own lists c c' slots new was refused result t (call_of why.asked) arguments
  answered_where c' mid new was refused object free room f t tells why arguments are made result makes N cause calls given is_given settles =
      let none = none_refused g c slots was free in
      let object' : IsObject g c own lists slots None = subst (λ (o : Option Refused). IsObject g c own lists slots o) none object in
      let settles' : Settles slots new refused made result why = subst (λ (ss : List Slot). Settles ss new refused made result why) room (subst (Settles mid new refused made result) is_given settles) in
      answered_free c' new refused result t (call_of why.asked) arguments was none (outcome g own lists c c' slots new refused object' f t tells why arguments are made result makes (λ is. refusal_fills g own lists c c' slots object' makes.keeps (subst (λ (r : Result ℕ Halt). OnErr r (SameRoots c.state c'.state)) is makes.refused) N made cause (call_of why.asked) arguments calls is) settles')

  pub answered : (c' : Contents) (mid new : List Slot) (was refused : Option Refused) (object : IsObject g c own lists slots was) → (kept_of g c slots was).jam ≡ None → mid ≡ slots → (f : Function) (t : StateSet) → Tells g Now f t → (why : Refused) (arguments : List Meaning) →
      argument_in g (map (shown_of c) slots) why.first ++ argument_in g (map (shown_of c) slots) why.second ≡ arguments → (made : Result ℕ Halt) (result : Result BddRegion Halt) → Makes c c' made f → (N : Function → Type 0) → HasCause c c' made N → (OwnIsNamed g lists.to.items c' own → (h : Function) → N h → IsOfGame g h ⊎ IsOfCall g (call_of why.asked) arguments h) → (given : Refused) → given ≡ why → Settles mid new refused made result given →
      Answered g own lists c c' slots new was refused result t (call_of why.asked) arguments
  answered c' mid new was refused object free room f t tells why arguments are made result makes N cause calls given is_given settles =
      answered_where c' mid new was refused object free room f t tells why arguments are made result makes N (λ declared own_is. cause) calls given is_given settles

  -- where there was no room for it
  pub no_room : (mid : List Slot) (was : Option Refused) (object : IsObject g c own lists slots was) → (kept_of g c slots was).jam ≡ None → mid ≡ slots → (t : StateSet) (asked : Call) (arguments : List Meaning) → Answered g own lists c c slots mid was was (Err halt.Memory) t asked arguments
  no_room mid was object free room t asked arguments =
      let none = none_refused g c slots was free in
      subst (λ (ss : List Slot). Answered g own lists c c slots ss was was (Err halt.Memory) t asked arguments) (sym room)
      (record {
        made = tt;
        halted = subst (λ (o : Option Refused). Halts (kept_of g c slots o) (kept_of g c slots o) asked arguments halt.Memory) (sym none) (record { held = λ w. omega arith; jam = refl });
        same = record { game = refl; bound = refl };
        object = object;
      })

-- what is never refused for want of budget is never told so
pub settled_never : (old new : List Slot) (refused : Option Refused) (made : Result ℕ Halt) (result : Result BddRegion Halt) (why : Refused) → Settles old new refused made result why → (made ≡ Err halt.Budget → ⊥) → result ≡ Err halt.Budget → ⊥
settled_never old new refused (Ok root) (Ok r) why settles never e = false≢true (sym (ap is_ok e))
settled_never old new refused (Err halt.Memory) (Err halt.Memory) why settles never e = false≢true (sym (ap is_memory e))
settled_never old new refused (Err halt.Budget) (Err halt.Budget) why settles never e = never refl
settled_never old new refused (Ok root) (Err halt.Memory) why settles never e = absurd settles
settled_never old new refused (Ok root) (Err halt.Budget) why settles never e = absurd settles
settled_never old new refused (Err halt.Memory) (Ok r) why settles never e = absurd settles
settled_never old new refused (Err halt.Budget) (Ok r) why settles never e = absurd settles
settled_never old new refused (Err halt.Memory) (Err halt.Budget) why settles never e = absurd settles
settled_never old new refused (Err halt.Budget) (Err halt.Memory) why settles never e = absurd settles

-- keeping a root never fills the store
pub never_full : (kept : Result ℕ StoreFault) → (kept ≡ Err fault.Full → ⊥) → halted kept ≡ Err halt.Budget → ⊥
never_full (Ok r) never e = false≢true (sym (ap is_ok e))
never_full (Err fault.Full) never e = never refl
never_full (Err fault.Memory) never e = false≢true (sym (ap is_memory e))
