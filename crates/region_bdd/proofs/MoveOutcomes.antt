-- What a call that makes moves leaves, whatever came of its diagrams.
use Rattle.std.proofs.Common.{◌≡◌, ◌⊎◌, ℕ, ◌+◌, not, List, ◌++◌, map, Option, Some, None, Result, Ok, Err, IfOk, IfErr, OnErr, refl, sym, ◌∙◌, ap, subst}
use Rattle.spec_model.specs.Diagrams.{Function}
use Rattle.spec_model.specs.Games.{GameData}
use Rattle.spec_model.specs.Sets.{StateSet}
use Rattle.game_values.specs.declared.seen.At.TheVariants.{Now, Next}
use Rattle.regions.specs.Kept.{Move, Outputs as OutputMoves, Inputs as InputMoves, Meaning, Call, Makes as MakesItem, Halts, IsSameGame}
use Rattle.regions.specs.declared.types.When.{When}
use Rattle.regions.specs.declared.types.Halt.{Halt}
use Rattle.regions.specs.declared.types.Halt.TheVariants as halt
use Rattle.bdd_store.specs.State.{roots_at, SameRoots, IsFull}
use Rattle.bdd_sets.proofs.ShiftLemmas.{fits_kept}
use Rattle.region_bdd.proofs.FewNodes.{few_nodes}
use Rattle.bdd_bits.specs.Contents.{Contents, function_at}
use Rattle.bdd_bits.specs.Calls.{KeepsRoots}
use Rattle.bit_compile.specs.Making.{Makes}
use Rattle.bdd_sets.specs.declared.moves.NextLevels.{NextLevels}
use Rattle.bdd_sets.specs.StateBits.{Tells, TellsStates, set_at}
use Rattle.bdd_sets.specs.ToldMoves.{TellsMoves, some_leads}
use Rattle.region_bdd.specs.declared.slots.Content.{Content}
use Rattle.region_bdd.specs.declared.slots.Content.TheVariants.{Outputs, Inputs}
use Rattle.region_bdd.specs.declared.slots.Slot.{Slot}
use Rattle.region_bdd.specs.declared.slots.Slot.TheVariants.{Taken}
use Rattle.region_bdd.specs.declared.slots.BddMove.{BddMove}
use Rattle.region_bdd.specs.declared.own.Own.{Own}
use Rattle.region_bdd.specs.declared.own.Refused.{Refused}
use Rattle.region_bdd.specs.Slots.{shown_in, shown_of, shown_once, roots_within, TakesSlot}
use Rattle.region_bdd.specs.Held.{Weights, slot_weighs}
use Rattle.region_bdd.specs.Keeping.{SettlesOutputs}
use Rattle.region_bdd.specs.Leading.{MakesTwo, SettlesInputs}
use Rattle.region_bdd.specs.Needs.{IsTight}
use Rattle.region_bdd.specs.Object.{ShownFits, IsObject, IsOpen, OwnIsNamed, call_of, argument_in, jam_in, kept_of}
use Rattle.region_bdd.specs.Crowding.{LeadsInto, IsOfCall, FillsIn, IsJammed}
use Rattle.bit_compile.specs.Crowding.{HasCause}
use Rattle.bdd_sets.specs.NamedGame.{IsOfGame}
use Rattle.region_bdd.proofs.Refusals.{jam_of, still_named, refusal_fills, is_jammed}
use Rattle.region_bdd.proofs.SlotLaws.{open_taken}
use Rattle.region_bdd.proofs.BoundLaws.{same_bound}
use Rattle.region_bdd.proofs.ObjectLaws.{none_refused, sound_same, sound_taken, makes_item, halts_memory, halts_budget, early_fits}

-- what the call answers and leaves
pub record MoveOutcome (g : GameData) (own : Own) (lists : NextLevels) (c c' : Contents) (slots new : List Slot) (was refused : Option Refused) (result : Result BddMove Halt) (meaning : Meaning) (asked : Call) (arguments : List Meaning) : Type 0 where
  pub made : IfOk result (λ r. MakesItem (kept_of g c slots was) (kept_of g c' new refused) (Move r) meaning)
  pub halted : IfErr result (Halts (kept_of g c slots was) (kept_of g c' new refused) asked arguments)
  pub same : IsSameGame (kept_of g c slots was) (kept_of g c' new refused)
  pub object : IsObject g c' own lists new refused

module _ (g : GameData) (own : Own) (lists : NextLevels) (c c' : Contents) (slots new : List Slot) (refused : Option Refused) (object : IsObject g c own lists slots None) (meaning : Meaning) (why : Refused) (arguments : List Meaning)
    (arguments_are : argument_in g (map (shown_of c) slots) why.first ++ argument_in g (map (shown_of c) slots) why.second ≡ arguments) (keeps : KeepsRoots c c') where
  -- a content came into a slot
  taken : (content : Content) (r : BddMove) → ((n : ℕ) → roots_at c'.state n ≡ roots_at c.state n + roots_within n content) → ShownFits g (shown_in c' content) → ((w : Weights) → slot_weighs g r.slot (shown_in c' content) w ≡ w (Move r) meaning) → TakesSlot slots new r.slot (Taken content) → refused ≡ None →
      MoveOutcome g own lists c c' slots new None refused (Ok r) meaning (call_of why.asked) arguments
  taken content r adds fits weighs takes unspent =
      let made : MakesItem (kept_of g c slots None) (kept_of g c' new None) (Move r) meaning = makes_item g own c c' slots object.sound keeps new r.slot content (Move r) meaning takes weighs in
      record {
        made = subst (λ (o : Option Refused). MakesItem (kept_of g c slots None) (kept_of g c' new o) (Move r) meaning) (sym unspent) made;
        halted = tt;
        same = record { game = refl; bound = same_bound c c' keeps };
        object = record {
          made = object.made;
          fits = fits_kept g lists.to.items c c' keeps object.fits;
          lists_are = object.lists_are;
          early = early_fits g own c c' slots object.sound keeps lists object.early;
          named = still_named g own lists c c' slots object keeps;
          sound = sound_taken g own c c' slots object.sound keeps new r.slot content adds takes fits;
          unspent = subst (λ (o : Option Refused). IsOpen o new) (sym unspent) (open_taken slots new r.slot content takes object.unspent);
          tight = subst (λ (o : Option Refused). IsTight o c'.state.table) (sym unspent) tt;
          jammed = subst (λ (o : Option Refused). IsJammed g c' (jam_in g (map (shown_once c') new) o)) (sym unspent) tt;
        };
      }

  -- nothing came, for want of memory
  none_memory : SameRoots c.state c'.state → new ≡ slots → refused ≡ None → MoveOutcome g own lists c c' slots new None refused (Err halt.Memory) meaning (call_of why.asked) arguments
  none_memory roots same unspent =
      subst (λ (ss : List Slot). MoveOutcome g own lists c c' slots ss None refused (Err halt.Memory) meaning (call_of why.asked) arguments) (sym same)
      (subst (λ (o : Option Refused). MoveOutcome g own lists c c' slots slots None o (Err halt.Memory) meaning (call_of why.asked) arguments) (sym unspent)
      (record {
        made = tt;
        halted = halts_memory g own c c' slots object.sound keeps (call_of why.asked) arguments;
        same = record { game = refl; bound = same_bound c c' keeps };
        object = record { made = object.made; fits = fits_kept g lists.to.items c c' keeps object.fits; lists_are = object.lists_are; early = early_fits g own c c' slots object.sound keeps lists object.early; named = still_named g own lists c c' slots object keeps; sound = sound_same g own c c' slots object.sound keeps roots; unspent = object.unspent; tight = tt; jammed = tt };
      }))

  -- or for want of budget
  none_budget : SameRoots c.state c'.state → IsFull c'.state → FillsIn g c' (jam_of g c' slots (call_of why.asked) arguments) → new ≡ slots → refused ≡ Some why → MoveOutcome g own lists c c' slots new None refused (Err halt.Budget) meaning (call_of why.asked) arguments
  none_budget roots full fills same told =
      subst (λ (ss : List Slot). MoveOutcome g own lists c c' slots ss None refused (Err halt.Budget) meaning (call_of why.asked) arguments) (sym same)
      (subst (λ (o : Option Refused). MoveOutcome g own lists c c' slots slots None o (Err halt.Budget) meaning (call_of why.asked) arguments) (sym told)
      (record {
        made = tt;
        halted = halts_budget g own c c' slots object.sound keeps why (call_of why.asked) arguments object.unspent refl arguments_are;
        same = record { game = refl; bound = same_bound c c' keeps };
        object = record { made = object.made; fits = fits_kept g lists.to.items c c' keeps object.fits; lists_are = object.lists_are; early = early_fits g own c c' slots object.sound keeps lists object.early; named = still_named g own lists c c' slots object keeps; sound = sound_same g own c c' slots object.sound keeps roots; unspent = tt; tight = few_nodes c'.state.table full; jammed = is_jammed g own lists c c' slots object keeps why arguments arguments_are fills };
      }))

module _ (g : GameData) (own : Own) (when : When) (lists : NextLevels) (c c' : Contents) (slots new : List Slot) (refused : Option Refused) (object : IsObject g c own lists slots None) (t : StateSet) (why : Refused) (arguments : List Meaning)
    (arguments_are : argument_in g (map (shown_of c) slots) why.first ++ argument_in g (map (shown_of c) slots) why.second ≡ arguments) where
  outputs_outcome : (f : Function) → Tells g Next f t → (made : Result ℕ Halt) (result : Result BddMove Halt) → Makes c c' made f → (made ≡ Err halt.Budget → FillsIn g c' (jam_of g c' slots (call_of why.asked) arguments)) → SettlesOutputs slots new refused made result when why → MoveOutcome g own lists c c' slots new None refused result (OutputMoves when t) (call_of why.asked) arguments
  outputs_outcome f tells (Ok root) (Ok r) makes fills settles =
      let told : function_at c' root ≡ f = makes.meaning in
      let fits : TellsStates g Next (function_at c' root) = subst (TellsStates g Next) (sym told) tells.states in
      let is : set_at g Next (function_at c' root) ≡ t = ap (set_at g Next) told ∙ tells.set in
      taken g own lists c c' slots new refused object (OutputMoves when t) why arguments arguments_are makes.keeps (Outputs when root) r makes.added fits (λ w. ap (λ u. w (Move r) (OutputMoves when u)) is) settles.0 settles.1
  outputs_outcome f tells (Err halt.Memory) (Err halt.Memory) makes fills settles = none_memory g own lists c c' slots new refused object (OutputMoves when t) why arguments arguments_are makes.keeps makes.refused settles.0 settles.1
  outputs_outcome f tells (Err halt.Budget) (Err halt.Budget) makes fills settles = none_budget g own lists c c' slots new refused object (OutputMoves when t) why arguments arguments_are makes.keeps makes.refused (makes.full refl) (fills refl) settles.0 settles.1
  outputs_outcome f tells (Ok root) (Err halt.Memory) makes fills settles = absurd settles
  outputs_outcome f tells (Ok root) (Err halt.Budget) makes fills settles = absurd settles
  outputs_outcome f tells (Err halt.Memory) (Ok r) makes fills settles = absurd settles
  outputs_outcome f tells (Err halt.Budget) (Ok r) makes fills settles = absurd settles
  outputs_outcome f tells (Err halt.Memory) (Err halt.Budget) makes fills settles = absurd settles
  outputs_outcome f tells (Err halt.Budget) (Err halt.Memory) makes fills settles = absurd settles

  inputs_outcome : (f h : Function) → Tells g Now f t → TellsMoves g when h (λ b s. not (some_leads g (λ s. not (t s)) b s.position.input)) → ∥ LeadsInto g when t h ∥₁ → (made : Result (ℕ × ℕ) Halt) (result : Result BddMove Halt) → MakesTwo c c' made f h → (made ≡ Err halt.Budget → FillsIn g c' (jam_of g c' slots (call_of why.asked) arguments)) → SettlesInputs slots new refused made result when why → MoveOutcome g own lists c c' slots new None refused result (InputMoves when t) (call_of why.asked) arguments
  inputs_outcome f h tells leads into (Ok p) (Ok r) makes fills settles =
      let is : set_at g Now (function_at c' p.0) ≡ t = ap (set_at g Now) makes.first ∙ tells.set in
      let states : TellsStates g Now (function_at c' p.0) = subst (TellsStates g Now) (sym makes.first) tells.states in
      let out : TellsMoves g when (function_at c' p.1) (λ b s. not (some_leads g (λ s. not (t s)) b s.position.input)) = subst (λ (k : Function). TellsMoves g when k (λ b s. not (some_leads g (λ s. not (t s)) b s.position.input))) (sym makes.second) leads in
      let out' : TellsMoves g when (function_at c' p.1) (λ b s. not (some_leads g (λ s. not (set_at g Now (function_at c' p.0) s)) b s.position.input)) = subst (λ (u : StateSet). TellsMoves g when (function_at c' p.1) (λ b s. not (some_leads g (λ s. not (u s)) b s.position.input))) (sym is) out in
      let into' : ∥ LeadsInto g when (set_at g Now (function_at c' p.0)) (function_at c' p.1) ∥₁ = subst (λ (u : StateSet). ∥ LeadsInto g when u (function_at c' p.1) ∥₁) (sym is) (subst (λ (k : Function). ∥ LeadsInto g when t k ∥₁) (sym makes.second) into) in
      taken g own lists c c' slots new refused object (InputMoves when t) why arguments arguments_are makes.keeps (Inputs when p.0 p.1) r makes.added (states, out', into') (λ w. ap (λ u. w (Move r) (InputMoves when u)) is) settles.0 settles.1
  inputs_outcome f h tells leads into (Err halt.Memory) (Err halt.Memory) makes fills settles = none_memory g own lists c c' slots new refused object (InputMoves when t) why arguments arguments_are makes.keeps makes.refused settles.0 settles.1
  inputs_outcome f h tells leads into (Err halt.Budget) (Err halt.Budget) makes fills settles = none_budget g own lists c c' slots new refused object (InputMoves when t) why arguments arguments_are makes.keeps makes.refused (makes.full refl) (fills refl) settles.0 settles.1
  inputs_outcome f h tells leads into (Ok p) (Err halt.Memory) makes fills settles = absurd settles
  inputs_outcome f h tells leads into (Ok p) (Err halt.Budget) makes fills settles = absurd settles
  inputs_outcome f h tells leads into (Err halt.Memory) (Ok r) makes fills settles = absurd settles
  inputs_outcome f h tells leads into (Err halt.Budget) (Ok r) makes fills settles = absurd settles
  inputs_outcome f h tells leads into (Err halt.Memory) (Err halt.Budget) makes fills settles = absurd settles
  inputs_outcome f h tells leads into (Err halt.Budget) (Err halt.Memory) makes fills settles = absurd settles

-- the same, as the calls have it: with room made for the diagrams first
module _ (g : GameData) (own : Own) (when : When) (lists : NextLevels) (c c' : Contents) (slots mid new : List Slot) (was refused : Option Refused) (object : IsObject g c own lists slots was) (free : (kept_of g c slots was).jam ≡ None) (room : mid ≡ slots) (t : StateSet) (why : Refused) (arguments : List Meaning)
    (arguments_are : argument_in g (map (shown_of c) slots) why.first ++ argument_in g (map (shown_of c) slots) why.second ≡ arguments) where
  none : was ≡ None
  none = none_refused g c slots was free

  object' : IsObject g c own lists slots None
  object' = subst (λ (o : Option Refused). IsObject g c own lists slots o) none object

  pub outputs_answered : (f : Function) → Tells g Next f t → (made : Result ℕ Halt) (result : Result BddMove Halt) → Makes c c' made f → (N : Function → Type 0) → HasCause c c' made N → (OwnIsNamed g lists.to.items c' own → (h : Function) → N h → IsOfGame g h ⊎ IsOfCall g (call_of why.asked) arguments h) → (given : Refused) → given ≡ why → SettlesOutputs mid new refused made result when given → MoveOutcome g own lists c c' slots new was refused result (OutputMoves when t) (call_of why.asked) arguments
  outputs_answered f tells made result makes N cause calls given is_given settles =
      subst (λ (o : Option Refused). MoveOutcome g own lists c c' slots new o refused result (OutputMoves when t) (call_of why.asked) arguments) (sym none)
      (outputs_outcome g own when lists c c' slots new refused object' t why arguments arguments_are f tells made result makes (λ is. refusal_fills g own lists c c' slots object' makes.keeps (subst (λ (r : Result ℕ Halt). OnErr r (SameRoots c.state c'.state)) is makes.refused) N made (λ declared own_is. cause) (call_of why.asked) arguments calls is) (subst (λ (ss : List Slot). SettlesOutputs ss new refused made result when why) room (subst (SettlesOutputs mid new refused made result when) is_given settles)))

  pub inputs_answered : (f h : Function) → Tells g Now f t → TellsMoves g when h (λ b s. not (some_leads g (λ s. not (t s)) b s.position.input)) → ∥ LeadsInto g when t h ∥₁ → (made : Result (ℕ × ℕ) Halt) (result : Result BddMove Halt) → MakesTwo c c' made f h → (N : Function → Type 0) → HasCause c c' made N → (OwnIsNamed g lists.to.items c' own → (h : Function) → N h → IsOfGame g h ⊎ IsOfCall g (call_of why.asked) arguments h) → (given : Refused) → given ≡ why → SettlesInputs mid new refused made result when given → MoveOutcome g own lists c c' slots new was refused result (InputMoves when t) (call_of why.asked) arguments
  inputs_answered f h tells leads into made result makes N cause calls given is_given settles =
      subst (λ (o : Option Refused). MoveOutcome g own lists c c' slots new o refused result (InputMoves when t) (call_of why.asked) arguments) (sym none)
      (inputs_outcome g own when lists c c' slots new refused object' t why arguments arguments_are f h tells leads into made result makes (λ is. refusal_fills g own lists c c' slots object' makes.keeps (subst (λ (r : Result (ℕ × ℕ) Halt). OnErr r (SameRoots c.state c'.state)) is makes.refused) N made (λ declared own_is. cause) (call_of why.asked) arguments calls is) (subst (λ (ss : List Slot). SettlesInputs ss new refused made result when why) room (subst (SettlesInputs mid new refused made result when) is_given settles)))
