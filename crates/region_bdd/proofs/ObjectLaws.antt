-- What the object is seen as after each kind of change, and that it stays sound.
use Rattle.std.proofs.Common.{◌≡◌, ℕ, zero, suc, ◌+◌, ◌<◌, true, false, List, [], ◌∷◌, ◌++◌, length, map, Option, Some, None, is_some, refl, sym, ◌∙◌, ap, subst, arith}
use Rattle.std.proofs.lemmas.Bool.{false≢true}
use Rattle.spec_model.specs.Diagrams.{Function}
use Rattle.spec_model.specs.Games.{GameData}
use Rattle.game_values.specs.declared.seen.At.TheVariants.{Now}
use Rattle.regions.specs.Kept.{Item, Region as RegionItem, Meaning, States, weight, meaning_of, meanings, HasRegion, Makes, Stays, Spends, Halts, jam_after, Jam, Call}
use Rattle.regions.specs.declared.types.Halt.TheVariants as halt
use Rattle.node_table.specs.Table.{Table, diagram_at}
use Rattle.bdd_store.specs.State.{IsRoot, roots_at, AddsRoot, SameRoots}
use Rattle.bdd_bits.specs.Contents.{Contents, function_at}
use Rattle.bdd_bits.specs.Calls.{KeepsRoots, SameNodes}
use Rattle.bdd_bits.proofs.CallLemmas.{keeps_function, same_function as same_function_at}
use Rattle.bdd_sets.specs.declared.moves.Members.{Members}
use Rattle.bdd_sets.specs.StateBits.{set_at}
use Rattle.bdd_sets.specs.Members.{MoveFunctions, functions_at, move_functions, all_true}
use Rattle.region_bdd.specs.declared.slots.Content.{Content}
use Rattle.region_bdd.specs.declared.slots.Content.TheVariants.{Region, Outputs, Inputs}
use Rattle.region_bdd.specs.declared.slots.Slot.{Slot}
use Rattle.region_bdd.specs.declared.slots.Slot.TheVariants.{Free, Taken, Spent}
use Rattle.region_bdd.specs.declared.slots.BddRegion.{BddRegion}
use Rattle.region_bdd.specs.declared.slots.BddMove.{BddMove}
use Rattle.region_bdd.specs.declared.own.Own.{Own}
use Rattle.region_bdd.specs.declared.own.Refused.{Refused}
use Rattle.bdd_sets.specs.Lists.{times_in}
use Rattle.bdd_sets.proofs.ListLemmas.{one_itself, times_here}
use Rattle.bdd_sets.specs.declared.moves.NextLevels.{NextLevels}
use Rattle.bdd_products.specs.declared.early.Early.{Early}
use Rattle.bdd_products.specs.Early.{FitsEarly, AreRootsOfEarly, roots_of_early}
use Rattle.bdd_products.proofs.EarlyLemmas.{early_stays}
use Rattle.region_bdd.specs.Slots.{Shown, Nothing, Set, OutputsInto, InputsInto, shown_in, shown_of, shown_once, shown_meaning, set_of, shown_at, items_from, meanings_in, kept_in, HasContent, HasRegionRoot, TakesSlot, FreesSlot, MarksSpent, roots_within, roots_of_slots}
use Rattle.region_bdd.specs.Bound.{bound_of}
use Rattle.region_bdd.specs.Held.{Weights, weight_is, takes, clears, slot_weighs, region_content}
use Rattle.region_bdd.specs.Object.{own_functions, OwnFits, FitsOwnEarly, roots_of_own, roots_of_members, ShownFits, AllFit, NoneSpent, IsSound, call_of, argument_in, jam_in, kept_of}
use Rattle.region_bdd.proofs.SlotLaws.{map-get, place_of, get_here, takes_place, clears_place, marks_place, once_marked, once_open, roots_taken, roots_freed, roots_marked, roots_among, shown_same, once_same, fit_same, fit_taken, fit_freed, fit_marked, open_freed}

-- ---- the same functions

module _ (c c' : Contents) where
  pub list_same : (roots : List ℕ) → ((n : ℕ) → 0 < times_in n roots → function_at c' n ≡ function_at c n) → functions_at c' roots ≡ functions_at c roots
  list_same [] same = refl
  list_same (r ∷ roots) same =
      let first = same r (let one = one_itself r in omega (arith, one)) in
      let rest = list_same roots (λ n some. same n (omega (arith, some))) in
      ap (λ f. f ∷ functions_at c' roots) first ∙ ap (λ fs. function_at c r ∷ fs) rest

  pub members_same : (m : Members) → ((n : ℕ) → 0 < roots_of_members n m → function_at c' n ≡ function_at c n) → move_functions c' m ≡ move_functions c m
  members_same m same =
      let inputs = list_same m.inputs.items (λ n some. same n (omega (arith, some))) in
      let outputs = list_same m.outputs.items (λ n some. same n (omega (arith, some))) in
      let update = list_same m.update.items (λ n some. same n (omega (arith, some))) in
      λ i. record { inputs = all_true (inputs i); outputs = all_true (outputs i); update = all_true (update i) }

  pub own_same : (own : Own) → ((n : ℕ) → 0 < roots_of_own n own → function_at c' n ≡ function_at c n) → own_functions c' own ≡ own_functions c own
  own_same own same =
      let nothing = same own.step.nothing (let one = one_itself own.step.nothing in omega (arith, one)) in
      let proper = same own.step.proper (let one = one_itself own.step.proper in omega (arith, one)) in
      let assume = list_same own.assume.items (λ n some. same n (omega (arith, some))) in
      let goals = list_same own.goals.items (λ n some. same n (omega (arith, some))) in
      let first = members_same own.first (λ n some. same n (omega (arith, some))) in
      let later = members_same own.step.later (λ n some. same n (omega (arith, some))) in
      λ i. record { nothing = nothing i; proper = proper i; assume = assume i; goals = goals i; first = first i; later = later i }

-- what is held has the meanings that the slots show
meanings_are : (g : GameData) (b : ℕ) (j : Option Jam) (shown : List Shown) → meanings (kept_in g b j shown) ≡ meanings_in g shown
meanings_are g b j shown = from shown 0 shown (λ i below. let e : 0 + i ≡ i = omega arith in ap (shown_at shown) e)
  where
    from : (whole : List Shown) (n : ℕ) (shown : List Shown) → ((i : ℕ) → i < length shown → shown_at whole (n + i) ≡ shown_at shown i) → map (meaning_of (kept_in g b j whole)) (items_from n shown) ≡ meanings_in g shown
    from whole n [] reads = refl
    from whole n (s ∷ shown) reads =
        let here : shown_at whole n ≡ s = (let e : n ≡ n + 0 = omega arith in ap (shown_at whole) e ∙ reads 0 (omega arith)) in
        at s here (from whole (suc n) shown (λ i below. let e : suc n + i ≡ n + suc i = omega arith in ap (shown_at whole) e ∙ reads (suc i) (omega arith)))
      where
        at : (s : Shown) → shown_at whole n ≡ s → map (meaning_of (kept_in g b j whole)) (items_from (suc n) shown) ≡ meanings_in g shown → map (meaning_of (kept_in g b j whole)) (items_from n (s ∷ shown)) ≡ meanings_in g (s ∷ shown)
        at Nothing here more = more
        at (Set f) here more = ap (λ c. States (set_of (shown_meaning g c)) ∷ map (meaning_of (kept_in g b j whole)) (items_from (suc n) shown)) here ∙ ap (λ ms. shown_meaning g (Set f) ∷ ms) more
        at (OutputsInto when f) here more = ap (λ c. shown_meaning g c ∷ map (meaning_of (kept_in g b j whole)) (items_from (suc n) shown)) here ∙ ap (λ ms. shown_meaning g (OutputsInto when f) ∷ ms) more
        at (InputsInto when f leads) here more = ap (λ c. shown_meaning g c ∷ map (meaning_of (kept_in g b j whole)) (items_from (suc n) shown)) here ∙ ap (λ ms. shown_meaning g (InputsInto when f leads) ∷ ms) more

module _ (g : GameData) (own : Own) where
  -- ---- what is kept

  pub own_root : (c : Contents) (slots : List Slot) → IsSound g c own slots → (n : ℕ) → 0 < roots_of_own n own → IsRoot c.state n
  own_root c slots sound n some = let all = sound.counted n in omega (arith, all, some)

  pub slot_root : (c : Contents) (slots : List Slot) → IsSound g c own slots → (n : ℕ) → 0 < roots_of_slots n slots → IsRoot c.state n
  slot_root c slots sound n some = let all = sound.counted n in omega (arith, all, some)

  pub within_root : (c : Contents) (slots : List Slot) → IsSound g c own slots → (i : ℕ) (content : Content) → HasContent slots i content → (n : ℕ) → 0 < roots_within n content → IsRoot c.state n
  within_root c slots sound i content here n some = slot_root c slots sound n (let all = roots_among n slots i (Taken content) here in omega (arith, all, some))

  module _ (c c' : Contents) (slots : List Slot) (sound : IsSound g c own slots) (keeps : KeepsRoots c c') where
    kept_same : (n : ℕ) → IsRoot c.state n → function_at c' n ≡ function_at c n
    kept_same n root = keeps_function c c' n keeps root

    pub shown_stays : map (shown_of c') slots ≡ map (shown_of c) slots
    shown_stays = shown_same c c' slots (λ n some. kept_same n (slot_root c slots sound n some))

    pub once_stays : map (shown_once c') slots ≡ map (shown_once c) slots
    once_stays = once_same c c' slots (λ n some. kept_same n (slot_root c slots sound n some))

    own_stays : own_functions c' own ≡ own_functions c own
    own_stays = own_same c c' own (λ n some. kept_same n (own_root c slots sound n some))

    slots_stay : AllFit g c' slots
    slots_stay = fit_same c c' g slots (λ n some. kept_same n (slot_root c slots sound n some)) sound.slots_fit

    early_kept : (e : Option Early) → ((n : ℕ) → 0 < roots_of_early n e → IsRoot c.state n) → AreRootsOfEarly c e
    early_kept None some = tt
    early_kept (Some e) some =
        record {
          replies = λ i below. some _ (let here = times_here e.replies.lines.items i below in omega (arith, here));
          inputs = λ i below. some _ (let here = times_here e.inputs.lines.items i below in omega (arith, here));
        }

    pub early_roots : AreRootsOfEarly c own.early
    early_roots = early_kept own.early (λ n some. own_root c slots sound n (omega (arith, some)))

    -- products that fit go on to
    pub early_fits : (lists : NextLevels) → FitsOwnEarly lists c own → FitsOwnEarly lists c' own
    early_fits lists fits =
        let later = members_same c c' own.step.later (λ n some. kept_same n (own_root c slots sound n (omega (arith, some)))) in
        subst (λ (m : MoveFunctions). FitsEarly m lists c' own.early) (sym later) (early_stays c c' (move_functions c own.step.later) lists own.early keeps early_roots fits)

    -- nothing came and nothing went
    pub sound_same : SameRoots c.state c'.state → IsSound g c' own slots
    sound_same same =
        record {
          counted = λ n. same n ∙ sound.counted n;
          own_fits = subst (OwnFits g) (sym own_stays) sound.own_fits;
          slots_fit = slots_stay;
        }

    -- a content came, with its roots
    pub sound_taken : (new : List Slot) (i : ℕ) (content : Content) → ((n : ℕ) → roots_at c'.state n ≡ roots_at c.state n + roots_within n content) → TakesSlot slots new i (Taken content) → ShownFits g (shown_in c' content) → IsSound g c' own new
    sound_taken new i content adds taken fits =
        record {
          counted = λ n. (let more = adds n in let all = sound.counted n in let slots_more = roots_taken n slots new i content taken in omega (arith, more, all, slots_more));
          own_fits = subst (OwnFits g) (sym own_stays) sound.own_fits;
          slots_fit = fit_taken g c' slots new i content taken slots_stay fits;
        }

  -- ---- what the object is seen as

  pub weight_any : (b b' : ℕ) (j j' : Option Jam) (shown : List Shown) (w : Weights) → weight (kept_in g b j shown) w ≡ weight (kept_in g b' j' shown) w
  weight_any b b' j j' shown w = weight_is g b j shown w ∙ sym (weight_is g b' j' shown w)

  module _ (c c' : Contents) (slots : List Slot) (sound : IsSound g c own slots) (keeps : KeepsRoots c c') where
    -- an item came
    pub makes_item : (new : List Slot) (i : ℕ) (content : Content) (item : Item BddRegion BddMove) (meaning : Meaning) → TakesSlot slots new i (Taken content) → ((w : Weights) → slot_weighs g i (shown_in c' content) w ≡ w item meaning) → Makes (kept_of g c slots None) (kept_of g c' new None) item meaning
    makes_item new i content item meaning taken weighs =
        record {
          held = λ w.
              let b = bound_of c' in
              let come = takes g b None (map (shown_of c') slots) (map (shown_of c') new) i (shown_in c' content) (takes_place c' slots new i content taken) w in
              let stays = ap (λ s. weight (kept_in g b None s) w) (shown_stays c c' slots sound keeps) in
              let any = weight_any b (bound_of c) None None (map (shown_of c) slots) w in
              let is = weighs w in
              omega (arith, come, stays, any, is);
          jam = refl;
        }

    same_weight : (jam : Option Jam) (refused : Option Refused) (w : Weights) → weight (kept_in g (bound_of c') jam (map (shown_of c') slots)) w ≡ weight (kept_of g c slots refused) w
    same_weight jam refused w =
        ap (λ s. weight (kept_in g (bound_of c') jam s) w) (shown_stays c c' slots sound keeps)
        ∙ weight_any (bound_of c') (bound_of c) jam (jam_in g (map (shown_once c) slots) refused) (map (shown_of c) slots) w

    -- nothing came, for want of memory
    pub halts_memory : (asked : Call) (arguments : List Meaning) → Halts (kept_of g c slots None) (kept_of g c' slots None) asked arguments halt.Memory
    halts_memory asked arguments = record { held = λ w. (let same = same_weight None None w in omega (arith, same)); jam = refl }

    -- or for want of budget
    pub halts_budget : (r : Refused) (asked : Call) (arguments : List Meaning) → NoneSpent slots → call_of r.asked ≡ asked → argument_in g (map (shown_of c) slots) r.first ++ argument_in g (map (shown_of c) slots) r.second ≡ arguments →
        Halts (kept_of g c slots None) (kept_of g c' slots (Some r)) asked arguments halt.Budget
    halts_budget r asked arguments unspent call_is arguments_are =
        record {
          held = λ w. (let same = same_weight (jam_in g (map (shown_once c') slots) (Some r)) None w in omega (arith, same));
          jam = ap (λ s. jam_in g s (Some r)) once ∙ told;
        }
      where
        once : map (shown_once c') slots ≡ map (shown_of c) slots
        once = once_stays c c' slots sound keeps ∙ once_open c slots unspent

        told : jam_in g (map (shown_of c) slots) (Some r) ≡ jam_after (kept_of g c slots None) asked arguments halt.Budget
        told = λ i. Some (record { call = call_is i; arguments = arguments_are i; held = sym (meanings_are g (bound_of c) None (map (shown_of c) slots)) i })

    pub stays_same : (refused : Option Refused) → Stays (kept_of g c slots refused) (kept_of g c' slots refused)
    stays_same refused =
        record {
          held = λ w. (let same = same_weight (jam_in g (map (shown_once c') slots) refused) refused w in omega (arith, same));
          jam = ap (λ s. jam_in g s refused) (once_stays c c' slots sound keeps);
        }

-- no budget ran out where no jam is told
pub none_refused : (g : GameData) (c : Contents) (slots : List Slot) (refused : Option Refused) → (kept_of g c slots refused).jam ≡ None → refused ≡ None
none_refused g c slots None e = refl
none_refused g c slots (Some r) e = absurd (cc (e))

-- ---- held regions

module _ (g : GameData) (c : Contents) (slots : List Slot) (refused : Option Refused) where
  -- a held region's slot has its root
  pub region_root : (r : BddRegion) → HasRegion (kept_of g c slots refused) r → HasRegionRoot slots r.slot
  region_root r held = let is = region_content g (bound_of c) (jam_in g (map (shown_once c) slots) refused) (map (shown_of c) slots) r held in found slots r.slot is.0 is.1
    where
      at : (slots : List Slot) (slot : Slot) (f : Function) → shown_of c slot ≡ Set f → (root : ℕ) × (slot ≡ Taken (Region root))
      at slots (Free next) f e = absurd (cc (e))
      at slots (Spent content) f e = absurd (cc (e))
      at slots (Taken (Region root)) f e = (root, refl)
      at slots (Taken (Outputs when root)) f e = absurd (cc (e))
      at slots (Taken (Inputs when root leads)) f e = absurd (cc (e))

      found : (slots : List Slot) (i : ℕ) (f : Function) → shown_at (map (shown_of c) slots) i ≡ Set f → HasRegionRoot slots i
      found [] i f e = absurd (cc (e))
      found (slot ∷ slots) zero f e = let is = at slots slot f e in (is.0, ap Some is.1)
      found (slot ∷ slots) (suc i) f e = found slots i f e

  -- and stands for what its diagram tells
  pub region_shows : (r : BddRegion) (root : ℕ) → HasContent slots r.slot (Region root) → shown_at (map (shown_of c) slots) r.slot ≡ Set (function_at c root)
  region_shows r root here = get_here (map (shown_of c) slots) r.slot (Set (function_at c root)) Nothing (map-get (shown_of c) slots r.slot (Taken (Region root)) here)

  pub region_set : (r : BddRegion) (root : ℕ) → HasContent slots r.slot (Region root) → (kept_of g c slots refused).set r ≡ set_at g Now (function_at c root)
  region_set r root here = ap (λ s. set_of (shown_meaning g s)) (region_shows r root here)

-- ---- what is given back

module _ (g : GameData) (own : Own) (c c' : Contents) (slots new : List Slot) (a : BddRegion) (root : ℕ) (sound : IsSound g c own slots) (here : HasContent slots a.slot (Region root)) where
  shown_here : shown_at (map (shown_of c) slots) a.slot ≡ Set (function_at c root)
  shown_here = get_here (map (shown_of c) slots) a.slot (Set (function_at c root)) Nothing (map-get (shown_of c) slots a.slot (Taken (Region root)) here)

  below : a.slot < length (map (shown_of c) slots)
  below = place_of (map (shown_of c) slots) a.slot (shown_of c (Taken (Region root))) (map-get (shown_of c) slots a.slot (Taken (Region root)) here)

  weighs : (w : Weights) → slot_weighs g a.slot (shown_at (map (shown_of c) slots) a.slot) w ≡ w (RegionItem a) (States (set_of (shown_meaning g (shown_at (map (shown_of c) slots) a.slot))))
  weighs w = ap (λ s. slot_weighs g a.slot s w) shown_here ∙ ap (λ s. w (RegionItem a) (States (set_of (shown_meaning g s)))) (sym shown_here)

  -- a region's slot is freed and its root released
  pub spends_freed : FreesSlot slots new a.slot → AddsRoot c'.state c.state root → SameNodes c c' → NoneSpent slots →
      Spends (kept_of g c slots None) (kept_of g c' new None) (RegionItem a) × IsSound g c' own new × NoneSpent new
  spends_freed freed back nodes clear = (
    record {
      held = λ w.
          let b = bound_of c in
          let gone = clears g b None (map (shown_of c) slots) (map (shown_of c) new) a.slot below (clears_place c slots new a.slot freed) w in
          let any = weight_any g own (bound_of c') b None None (map (shown_of c') new) w in
          let same = ap (λ s. weight (kept_in g b None s) w) (shown_same c c' new (λ n some. same_function n)) in
          let is = weighs w in
          omega (arith, gone, any, same, is);
      jam = refl;
    },
    record {
      counted = λ n. (let one = back n in let all = sound.counted n in let fewer = roots_freed n slots new a.slot (Region root) here freed in omega (arith, one, all, fewer));
      own_fits = subst (OwnFits g) (sym (own_same c c' own (λ n some. same_function n))) sound.own_fits;
      slots_fit = fit_same c c' g new (λ n some. same_function n) (fit_freed g c slots new a.slot freed sound.slots_fit);
    },
    open_freed slots new a.slot freed clear,
  )
    where
      same_function : (n : ℕ) → function_at c' n ≡ function_at c n
      same_function n = same_function_at c c' n nodes

  -- a region's slot is marked, after the budget ran out
  pub spends_marked : (r : Refused) → MarksSpent slots new a.slot → Spends (kept_of g c slots (Some r)) (kept_of g c new (Some r)) (RegionItem a) × IsSound g c own new
  spends_marked r marked = (
    record {
      held = λ w.
          let b = bound_of c in
          let j = jam_in g (map (shown_once c) slots) (Some r) in
          let gone = clears g b j (map (shown_of c) slots) (map (shown_of c) new) a.slot below (marks_place c slots new a.slot marked) w in
          let any = weight_any g own b b (jam_in g (map (shown_once c) new) (Some r)) j (map (shown_of c) new) w in
          let is = weighs w in
          omega (arith, gone, any, is);
      jam = ap (λ s. jam_in g s (Some r)) (once_marked c slots new a.slot marked);
    },
    record {
      counted = λ n. (let all = sound.counted n in let same = roots_marked n slots new a.slot marked in omega (arith, all, same));
      own_fits = sound.own_fits;
      slots_fit = fit_marked g c slots new a.slot marked sound.slots_fit;
    },
  )

-- the same nodes keep what is kept
pub same_table : (c c' : Contents) → SameNodes c c' → KeepsRoots c c'
same_table c c' nodes =
    record {
      levels = ap (λ (t : Table). t.levels) nodes.table;
      budget = ap (λ (t : Table). t.budget) nodes.table;
      order = nodes.order;
      meaning = λ n root. ap (λ (t : Table). diagram_at t n) nodes.table;
    }

pub some_refused : (o : Option Refused) → is_some o ≡ true → (r : Refused) × (o ≡ Some r)
some_refused None e = absurd (false≢true e)
some_refused (Some r) e = (r, refl)

pub not_refused : (o : Option Refused) → is_some o ≡ false → o ≡ None
not_refused None e = refl
not_refused (Some r) e = absurd (false≢true (sym e))
