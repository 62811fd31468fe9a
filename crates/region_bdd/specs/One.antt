-- What the object keeps true has one proof at most, so the object can carry it.
use Rattle.std.proofs.Common.{◌≡◌, ℕ, suc, pos, Bool, true, false, nat_lt, List, [], ◌∷◌, ◌++◌, length, map, Option, Some, None, refl, sym, ◌∙◌, ap, arith}
use Rattle.std.proofs.lemmas.Bool.{and_parts, false≢true}
use Rattle.std.proofs.lemmas.List.{length-map}
use mathlib.Core.Bool.{Bool-set}
use mathlib.Core.HLevel.{×_prop, ×₃_prop, Σ_prop_path}
use Rattle.std.proofs.Math.Logic.{∥∥₁_prop}
use Rattle.regions.specs.Kept.{Jam}
use native.Mathlib.Nat.{ℕ_set}
use Rattle.std.specs.Coded.{le_prop}
use Rattle.spec_model.specs.declared.value.Value.TheVariants as value
use Rattle.spec_model.specs.Diagrams.{Bits, Function}
use Rattle.spec_model.specs.Moves.{is_env, domains_of}
use Rattle.spec_model.specs.Games.{GameData, GoalData, HiddenData, State, listed}
use Rattle.spec_model.specs.Steps.{Before, is_state, is_input, are_hidden_values}
use Rattle.spec_model.proofs.OneSpelling.{IsVariableName-prop}
use Rattle.spec_model.specs.Sets.{StateSet}
use Rattle.spec_model.specs.WellMade.{WellMade}
use Rattle.regions.specs.declared.types.When.{When}
use Rattle.game_values.specs.declared.seen.At.{At}
use Rattle.game_values.specs.declared.seen.At.TheVariants.{Now, Next}
use Rattle.bdd_bits.specs.Contents.{Contents}
use Rattle.bit_compile.specs.Domains.{state_domains}
use Rattle.bit_compile.proofs.SlotLemmas.{length-assignment}
use Rattle.bit_compile.proofs.LawLemmas.{one_state, state_listed}
use Rattle.bdd_sets.specs.declared.moves.NextLevels.{NextLevels}
use Rattle.bdd_sets.specs.StateBits.{bits_for, set_at, HasState, TellsStates, Tells}
use Rattle.bdd_sets.specs.MoveBits.{AreNextOf, LeadsToNext, AreLevelsOf}
use Rattle.bdd_sets.specs.NextOrders.{FitsNext}
use Rattle.bdd_sets.specs.ToldMoves.{TellsMoves, IsOfNext}
use Rattle.bdd_sets.specs.Members.{move_functions}
use Rattle.bdd_sets.specs.MoveFunctions.{MoveFunctions}
use Rattle.bdd_products.specs.declared.early.Early.{Early}
use Rattle.bdd_products.specs.Products.{NoneReads, AreInOrder, IsProductOf}
use Rattle.bdd_products.specs.Early.{FitsEarly}
use Rattle.bdd_sets.specs.Forcing.{FitMoves}
use Rattle.region_bdd.specs.declared.slots.Slot.{Slot}
use Rattle.region_bdd.specs.declared.slots.Slot.TheVariants.{Free, Taken, Spent}
use Rattle.region_bdd.specs.declared.own.Own.{Own}
use Rattle.region_bdd.specs.declared.own.Refused.{Refused}
use Rattle.region_bdd.specs.declared.search.Search.{Search}
use Rattle.node_table.specs.Table.{Table}
use Rattle.region_bdd.specs.Room.{IsRoom}
use Rattle.region_bdd.specs.Needs.{IsTight}
use Rattle.region_bdd.specs.Slots.{Shown, Nothing, Set, OutputsInto, InputsInto, shown_of, shown_once}
use Rattle.region_bdd.specs.Crowding.{IsJammed}
use Rattle.bdd_sets.specs.Goals.{TellGoals}
use Rattle.region_bdd.specs.Object.{OwnFunctions, OwnFits, ShownFits, AllFit, NoneSpent, IsSound, IsOpen, jam_in, IsObject}

-- ---- a state is known by its values

same_parts : {X : Type 0} (xs ys xs' ys' : List X) → length xs ≡ length xs' → xs ++ ys ≡ xs' ++ ys' → (xs ≡ xs') × (ys ≡ ys')
same_parts [] ys [] ys' long e = (refl, e)
same_parts [] ys (x ∷ xs') ys' long e = absurd (omega (arith, long))
same_parts (x ∷ xs) ys [] ys' long e = absurd (omega (arith, long))
same_parts (x ∷ xs) ys (y ∷ xs') ys' long e =
    let first : x ≡ y = cc (e) in
    let rest : xs ++ ys ≡ xs' ++ ys' = cc (e) in
    let more = same_parts xs ys xs' ys' (omega (arith, long)) rest in
    let one = more.0 in
    (cc (first, one), more.1)

one_list : (xs ys : List ℕ) → map (λ v. value.Int (pos v)) xs ≡ map (λ v. value.Int (pos v)) ys → xs ≡ ys
one_list [] [] e = refl
one_list [] (y ∷ ys) e = absurd (cc (e))
one_list (x ∷ xs) [] e = absurd (cc (e))
one_list (x ∷ xs) (y ∷ ys) e =
    let first : value.Int (pos x) ≡ value.Int (pos y) = cc (e) in
    let rest : map (λ v. value.Int (pos v)) xs ≡ map (λ v. value.Int (pos v)) ys = cc (e) in
    let one : x ≡ y = cc (first) in
    let more = one_list xs ys rest in
    cc (one, more)

many_hidden : (hs : List HiddenData) (vs : List ℕ) → are_hidden_values hs vs ≡ true → length vs ≡ length hs
many_hidden [] [] e = refl
many_hidden [] (v ∷ vs) e = absurd (false≢true e)
many_hidden (h ∷ hs) [] e = absurd (false≢true e)
many_hidden (h ∷ hs) (v ∷ vs) e = ap suc (many_hidden hs vs (and_parts (nat_lt v h.values) _ e).1)

module _ (g : GameData) (at : At) where
  state_is_one : (s s' : State) (b : Bits) → is_state g s ≡ true → is_state g s' ≡ true → HasState g at s b → HasState g at s' b → s ≡ s'
  state_is_one s s' b e e' has has' =
      let lists = one_state (state_domains g) at (listed s) (listed s') b (state_listed g s e) (state_listed g s' e') has has' in
      let p = and_parts (are_hidden_values g.hidden s.hidden) _ e in
      let p' = and_parts (are_hidden_values g.hidden s'.hidden) _ e' in
      let many : length (map (λ v. value.Int (pos v)) s.hidden) ≡ length g.hidden = length-map s.hidden (λ v. value.Int (pos v)) ∙ many_hidden g.hidden s.hidden p.0 in
      let many' : length (map (λ v. value.Int (pos v)) s'.hidden) ≡ length g.hidden = length-map s'.hidden (λ v. value.Int (pos v)) ∙ many_hidden g.hidden s'.hidden p'.0 in
      let parts = same_parts (map (λ v. value.Int (pos v)) s.hidden) (s.position.input ++ s.position.output) (map (λ v. value.Int (pos v)) s'.hidden) (s'.position.input ++ s'.position.output) (many ∙ sym many') lists in
      let hidden = one_list s.hidden s'.hidden parts.0 in
      let ins = length-assignment (domains_of is_env g.variables) s.position.input (and_parts (is_input g s.position.input) _ p.1).0 in
      let ins' = length-assignment (domains_of is_env g.variables) s'.position.input (and_parts (is_input g s'.position.input) _ p'.1).0 in
      let moves = same_parts s.position.input s.position.output s'.position.input s'.position.output (ins ∙ sym ins') parts.1 in
      λ i. record { hidden = hidden i; position = record { input = moves.0 i; output = moves.1 i } }

  has_one : (s : State) (b : Bits) → IsProp (HasState g at s b)
  has_one s b = λ x y i k known. Bool-set _ true (x k known) (y k known) i

  found_one : (b : Bits) → IsProp ((s : State) × (is_state g s ≡ true) × HasState g at s b)
  found_one b = λ x y.
      let flat : ((s : State) × ((is_state g s ≡ true) × HasState g at s b)) → (s : State) × (is_state g s ≡ true) × HasState g at s b = λ p. (p.0, p.1.0, p.1.1) in
      let one : (s : State) × ((is_state g s ≡ true) × HasState g at s b) = (x.0, (x.1, x.2)) in
      let other : (s : State) × ((is_state g s ≡ true) × HasState g at s b) = (y.0, (y.1, y.2)) in
      let same : one ≡ other = Σ_prop_path (λ s. ×_prop (Bool-set (is_state g s) true) (has_one s b)) (state_is_one x.0 y.0 b x.1 y.1 x.2 y.2) in
      ap flat same

  states_one : (f : Function) → IsProp (TellsStates g at f)
  states_one f = λ x y i. record { settled = λ s b here has. Bool-set (f b) (f (bits_for g at s)) (x.settled s b here has) (y.settled s b here has) i; elsewhere = λ b e. found_one b (x.elsewhere b e) (y.elsewhere b e) i }

  set_one : (t u : StateSet) → IsProp (t ≡ u)
  set_one t u = λ p q i j s. Bool-set (t s) (u s) (λ k. p k s) (λ k. q k s) i j

  tells_one : (f : Function) (t : StateSet) → IsProp (Tells g at f t)
  tells_one f t = λ x y i. record { states = states_one f x.states y.states i; set = set_one (set_at g at f) t x.set y.set i }

module _ (g : GameData) where
  moves_one : (when : When) (f : Function) (r : Before → State → Bool) → IsProp (TellsMoves g when f r)
  moves_one when f r = λ x y i. record { at_moves = λ b s bits time here before has. Bool-set (f bits) (r b s) (x.at_moves b s bits time here before has) (y.at_moves b s bits time here before has) i }

  next_one : (f : Function) → IsProp (IsOfNext g f)
  next_one f = λ x y i bits e. found_one g Next bits (x bits e) (y bits e) i

  fit_one : (when : When) (m : MoveFunctions) → IsProp (FitMoves g when m)
  fit_one when m = λ x y i. record { inputs = moves_one when m.inputs _ x.inputs y.inputs i; inputs_next = next_one m.inputs x.inputs_next y.inputs_next i; outputs = moves_one when m.outputs _ x.outputs y.outputs i; outputs_next = next_one m.outputs x.outputs_next y.outputs_next i; update = moves_one when m.update _ x.update y.update i }

  goals_one : (goals : List GoalData) (fs : List Function) → IsProp (TellGoals g goals fs)
  goals_one [] [] = λ x y. refl
  goals_one [] (f ∷ fs) = λ x y. absurd x
  goals_one (goal ∷ goals) [] = λ x y. absurd x
  goals_one (goal ∷ goals) (f ∷ fs) = ×_prop (λ x y i s b here has. Bool-set _ _ (x s b here has) (y s b here has) i) (goals_one goals fs)

  function_one : (f h : Function) → IsProp (f ≡ h)
  function_one f h = λ p q i j b. Bool-set (f b) (h b) (λ k. p k b) (λ k. q k b) i j

  own_one : (own : OwnFunctions) → IsProp (OwnFits g own)
  own_one own = λ x y i. record { nothing = function_one own.nothing (λ b. false) x.nothing y.nothing i; proper = tells_one g Now own.proper _ x.proper y.proper i; assume = goals_one g.assume own.assume x.assume y.assume i; goals = goals_one g.goals own.goals x.goals y.goals i; first = fit_one _ own.first x.first y.first i; later = fit_one _ own.later x.later y.later i }

  shown_one : (s : Shown) → IsProp (ShownFits g s)
  shown_one Nothing = λ x y. refl
  shown_one (Set f) = states_one g Now f
  shown_one (OutputsInto when f) = states_one g Next f
  shown_one (InputsInto when f leads) = ×₃_prop (states_one g Now f) (moves_one when leads _) ∥∥₁_prop

  all_one : (c : Contents) (slots : List Slot) → IsProp (AllFit g c slots)
  all_one c [] = λ x y. refl
  all_one c (slot ∷ slots) = ×_prop (shown_one (shown_of c slot)) (all_one c slots)

  sound_one : (c : Contents) (own : Own) (slots : List Slot) → IsProp (IsSound g c own slots)
  sound_one c own slots = λ x y i. record { counted = λ n. ℕ_set _ _ (x.counted n) (y.counted n) i; own_fits = own_one _ x.own_fits y.own_fits i; slots_fit = all_one c slots x.slots_fit y.slots_fit i }

none_one : (slots : List Slot) → IsProp (NoneSpent slots)
none_one [] = λ x y. refl
none_one (Free next ∷ slots) = none_one slots
none_one (Taken content ∷ slots) = none_one slots
none_one (Spent content ∷ slots) = λ x y. absurd x

open_one : (refused : Option Refused) (slots : List Slot) → IsProp (IsOpen refused slots)
open_one None slots = none_one slots
open_one (Some r) slots = λ x y. refl

tight_one : (refused : Option Refused) (t : Table) → IsProp (IsTight refused t)
tight_one None t = λ x y. refl
tight_one (Some r) t = λ x y i. le_prop x y i

jammed_one : (g : GameData) (c : Contents) (jam : Option Jam) → IsProp (IsJammed g c jam)
jammed_one g c None = λ x y. refl
jammed_one g c (Some jam) = λ x y i declared. ∥∥₁_prop (x declared) (y declared) i

next_of_one : (g : GameData) (test : ℕ → Bool) (levels : List ℕ) → IsProp (AreNextOf g test levels)
next_of_one g test levels = λ x y i. record { has = λ k m known on level. Bool-set _ _ (x.has k m known on level) (y.has k m known on level) i; leaves = λ k m known off level. Bool-set _ _ (x.leaves k m known off level) (y.leaves k m known off level) i; leaves_present = λ k m known level. Bool-set _ _ (x.leaves_present k m known level) (y.leaves_present k m known level) i }

leads_one : (g : GameData) (to : List ℕ) → IsProp (LeadsToNext g to)
leads_one g to = λ x y i. record { long = ℕ_set _ _ x.long y.long i; to_next = λ k m known level. ℕ_set _ _ (x.to_next k m known level) (y.to_next k m known level) i }

fits_one : (g : GameData) (to : List ℕ) (c : Contents) → IsProp (FitsNext g to c)
fits_one g to c = λ x y i. record { levels = ℕ_set _ _ x.levels y.levels i; rising = λ a b p q less. le_prop (x.rising a b p q less) (y.rising a b p q less) i }

lists_one : (g : GameData) (lists : NextLevels) → IsProp (AreLevelsOf g lists)
lists_one g lists = λ x y i. record { all = next_of_one g _ _ x.all y.all i; reply = next_of_one g _ _ x.reply y.reply i; to = leads_one g _ x.to y.to i }

none_reads_one : (levels : List ℕ) (fs : List Function) → IsProp (NoneReads levels fs)
none_reads_one levels [] = λ x y. refl
none_reads_one levels (f ∷ fs) = ×_prop (λ x y i m among s b. Bool-set _ _ (x m among s b) (y m among s b) i) (none_reads_one levels fs)

order_one : (fs : List Function) (outs : List (List ℕ)) → IsProp (AreInOrder fs outs)
order_one [] [] = λ x y. refl
order_one [] (out ∷ outs) = λ x y. absurd x
order_one (f ∷ fs) [] = λ x y. absurd x
order_one (f ∷ fs) (out ∷ outs) = ×_prop (none_reads_one out fs) (order_one fs outs)

product_one : (whole : Function) (out : List ℕ) (fs : List Function) (outs : List (List ℕ)) → IsProp (IsProductOf whole out fs outs)
product_one whole out fs outs = λ x y i. record { conjunction = λ j b. Bool-set _ _ (λ k. x.conjunction k b) (λ k. y.conjunction k b) i j; in_order = order_one fs outs x.in_order y.in_order i; levels = λ m. Bool-set _ _ (x.levels m) (y.levels m) i }

early_one : (m : MoveFunctions) (lists : NextLevels) (c : Contents) (e : Option Early) → IsProp (FitsEarly m lists c e)
early_one m lists c None = λ x y. refl
early_one m lists c (Some e) = λ x y i. record { replies = product_one _ _ _ _ x.replies y.replies i; inputs = product_one _ _ _ _ x.inputs y.inputs i }

well_made_one : (g : GameData) → IsProp (WellMade g)
well_made_one g = λ x y i. record { few_variables = le_prop x.few_variables y.few_variables i; names = Bool-set _ true x.names y.names i; spelled = λ k d lt. IsVariableName-prop _ (x.spelled k d lt) (y.spelled k d lt) i; domains = Bool-set _ true x.domains y.domains i; hidden = Bool-set _ true x.hidden y.hidden i; initial_asm = Bool-set _ true x.initial_asm y.initial_asm i; initial_gar = Bool-set _ true x.initial_gar y.initial_gar i; safe_asm = Bool-set _ true x.safe_asm y.safe_asm i; safe_gar = Bool-set _ true x.safe_gar y.safe_gar i; assume = Bool-set _ true x.assume y.assume i; goals = Bool-set _ true x.goals y.goals i }

pub object_is_one : (g : GameData) (c : Contents) (own : Own) (lists : NextLevels) (slots : List Slot) (refused : Option Refused) → IsProp (IsObject g c own lists slots refused)
object_is_one g c own lists slots refused = λ x y i. record { made = well_made_one g x.made y.made i; fits = fits_one g lists.to.items c x.fits y.fits i; lists_are = lists_one g lists x.lists_are y.lists_are i; early = early_one (move_functions c own.step.later) lists c own.early x.early y.early i; named = ∥∥₁_prop x.named y.named i; sound = sound_one g c own slots x.sound y.sound i; unspent = open_one refused slots x.unspent y.unspent i; tight = tight_one refused c.state.table x.tight y.tight i; jammed = jammed_one g c (jam_in g (map (shown_once c) slots) refused) x.jammed y.jammed i }

pub room_is_one : (levels : ℕ) (own : Own) (search : Search) → IsProp (IsRoom levels own search)
room_is_one levels own search = λ x y i. record { bits = ℕ_set _ _ x.bits y.bits i; fixed = ℕ_set _ _ x.fixed y.fixed i; levels_are = ℕ_set _ _ x.levels_are y.levels_are i; first = le_prop x.first y.first i; later = le_prop x.later y.later i; early = le_prop x.early y.early i }
