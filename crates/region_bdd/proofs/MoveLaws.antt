-- Moves that are held, and that are given back.
use Rattle.std.proofs.Common.{◌≡◌, ℕ, zero, suc, ◌+◌, ◌<◌, ◌≤◌, List, [], ◌∷◌, length, map, Option, Some, None, refl, sym, ◌∙◌, ap, subst, arith}
use Rattle.spec_model.specs.Games.{GameData}
use Rattle.regions.specs.Kept.{Move, HasMove, Spends, weight}
use Rattle.bdd_store.specs.State.{roots_at}
use Rattle.bdd_bits.specs.Contents.{Contents, function_at}
use Rattle.bdd_bits.specs.Calls.{SameNodes}
use Rattle.bdd_bits.proofs.CallLemmas.{same_function}
use Rattle.region_bdd.specs.declared.slots.Content.{Content}
use Rattle.region_bdd.specs.declared.slots.Slot.{Slot}
use Rattle.region_bdd.specs.declared.slots.Slot.TheVariants.{Free, Taken, Spent}
use Rattle.region_bdd.specs.declared.slots.BddMove.{BddMove}
use Rattle.region_bdd.specs.declared.own.Own.{Own}
use Rattle.region_bdd.specs.declared.own.Refused.{Refused}
use Rattle.region_bdd.specs.Slots.{Shown, Nothing, Set, OutputsInto, InputsInto, shown_in, shown_of, shown_once, shown_meaning, shown_at, kept_in, HasContent, FreesSlot, MarksSpent, roots_within}
use Rattle.region_bdd.specs.Bound.{bound_of}
use Rattle.region_bdd.specs.Held.{Weights, clears, slot_weighs, move_content, IsMoves}
use Rattle.region_bdd.specs.Object.{OwnFits, NoneSpent, IsSound, jam_in, kept_of}
use Rattle.region_bdd.proofs.SlotLaws.{map-get, place_of, get_here, clears_place, marks_place, once_marked, roots_freed, roots_marked, roots_among, shown_same, fit_same, fit_freed, fit_marked, open_freed}
use Rattle.region_bdd.proofs.ObjectLaws.{own_same, weight_any}

-- the content of a slot that shows moves
pub record HoldsMoves (c : Contents) (slots : List Slot) (i : ℕ) : Type 0 where
  pub content : Content
  pub here : HasContent slots i content
  pub kind : IsMoves (shown_in c content)

holds : (c : Contents) (slots : List Slot) (i : ℕ) (s : Shown) → shown_at (map (shown_of c) slots) i ≡ s → IsMoves s → HoldsMoves c slots i
holds c [] i s e kind = absurd (subst IsMoves (sym e) kind)
holds c (Free next ∷ slots) zero s e kind = absurd (subst IsMoves (sym e) kind)
holds c (Spent content ∷ slots) zero s e kind = absurd (subst IsMoves (sym e) kind)
holds c (Taken content ∷ slots) zero s e kind = record { content = content; here = refl; kind = subst IsMoves (sym e) kind }
holds c (slot ∷ slots) (suc i) s e kind = let more = holds c slots i s e kind in record { content = more.content; here = more.here; kind = more.kind }

pub moves_held : (g : GameData) (c : Contents) (slots : List Slot) (refused : Option Refused) (m : BddMove) → HasMove (kept_of g c slots refused) m → HoldsMoves c slots m.slot
moves_held g c slots refused m held = let is = move_content g (bound_of c) (jam_in g (map (shown_once c) slots) refused) (map (shown_of c) slots) m held in holds c slots m.slot is.0 is.1 is.2

weighs_moves : (g : GameData) (i : ℕ) (m : BddMove) (s : Shown) → i ≡ m.slot → IsMoves s → (w : Weights) → slot_weighs g m.slot s w ≡ w (Move m) (shown_meaning g s)
weighs_moves g i m (OutputsInto when f) same kind w = refl
weighs_moves g i m (InputsInto when f leads) same kind w = refl
weighs_moves g i m Nothing same kind w = absurd kind
weighs_moves g i m (Set f) same kind w = absurd kind

module _ (g : GameData) (own : Own) (c c' : Contents) (slots new : List Slot) (m : BddMove) (sound : IsSound g c own slots) (held : HoldsMoves c slots m.slot) where
  shown_here : shown_at (map (shown_of c) slots) m.slot ≡ shown_in c held.content
  shown_here = get_here (map (shown_of c) slots) m.slot (shown_in c held.content) Nothing (map-get (shown_of c) slots m.slot (Taken held.content) held.here)

  below : m.slot < length (map (shown_of c) slots)
  below = place_of (map (shown_of c) slots) m.slot (shown_in c held.content) (map-get (shown_of c) slots m.slot (Taken held.content) held.here)

  weighs : (w : Weights) → slot_weighs g m.slot (shown_at (map (shown_of c) slots) m.slot) w ≡ w (Move m) (shown_meaning g (shown_at (map (shown_of c) slots) m.slot))
  weighs w =
      ap (λ s. slot_weighs g m.slot s w) shown_here
      ∙ (weighs_moves g m.slot m (shown_in c held.content) refl held.kind w ∙ ap (λ s. w (Move m) (shown_meaning g s)) (sym shown_here))

  -- each root of the slot is kept
  pub roots_kept : (n : ℕ) → roots_within n held.content ≤ roots_at c.state n
  roots_kept n = let all = sound.counted n in let here = roots_among n slots m.slot (Taken held.content) held.here in omega (arith, all, here)

  same_functions : SameNodes c c' → (n : ℕ) → function_at c' n ≡ function_at c n
  same_functions nodes n = same_function c c' n nodes

  pub moves_freed : FreesSlot slots new m.slot → ((n : ℕ) → roots_at c.state n ≡ roots_at c'.state n + roots_within n held.content) → SameNodes c c' → NoneSpent slots →
      Spends (kept_of g c slots None) (kept_of g c' new None) (Move m) × IsSound g c' own new × NoneSpent new
  moves_freed freed back nodes clear = (
    record {
      held = λ w.
          let b = bound_of c in
          let gone = clears g b None (map (shown_of c) slots) (map (shown_of c) new) m.slot below (clears_place c slots new m.slot freed) w in
          let any = weight_any g own (bound_of c') b None None (map (shown_of c') new) w in
          let same = ap (λ s. weight (kept_in g b None s) w) (shown_same c c' new (λ n some. same_functions nodes n)) in
          let is = weighs w in
          omega (arith, gone, any, same, is);
      jam = refl;
    },
    record {
      counted = λ n. (let one = back n in let all = sound.counted n in let fewer = roots_freed n slots new m.slot held.content held.here freed in omega (arith, one, all, fewer));
      own_fits = subst (OwnFits g) (sym (own_same c c' own (λ n some. same_functions nodes n))) sound.own_fits;
      slots_fit = fit_same c c' g new (λ n some. same_functions nodes n) (fit_freed g c slots new m.slot freed sound.slots_fit);
    },
    open_freed slots new m.slot freed clear,
  )

  pub moves_marked : (r : Refused) → MarksSpent slots new m.slot → Spends (kept_of g c slots (Some r)) (kept_of g c new (Some r)) (Move m) × IsSound g c own new
  moves_marked r marked = (
    record {
      held = λ w.
          let b = bound_of c in
          let j = jam_in g (map (shown_once c) slots) (Some r) in
          let gone = clears g b j (map (shown_of c) slots) (map (shown_of c) new) m.slot below (marks_place c slots new m.slot marked) w in
          let any = weight_any g own b b (jam_in g (map (shown_once c) new) (Some r)) j (map (shown_of c) new) w in
          let is = weighs w in
          omega (arith, gone, any, is);
      jam = ap (λ s. jam_in g s (Some r)) (once_marked c slots new m.slot marked);
    },
    record {
      counted = λ n. (let all = sound.counted n in let same = roots_marked n slots new m.slot marked in omega (arith, all, same));
      own_fits = sound.own_fits;
      slots_fit = fit_marked g c slots new m.slot marked sound.slots_fit;
    },
  )

-- whatever content the slot is seen to have
abbrev pub holds_this : (c : Contents) (slots : List Slot) (i : ℕ) → HoldsMoves c slots i → (content : Content) → HasContent slots i content → HoldsMoves c slots i
holds_this c slots i held content here =
    let both : Some (Taken held.content) ≡ Some (Taken content) = sym held.here ∙ here in
    let same : held.content ≡ content = cc (both) in
    record { content = content; here = here; kind = subst (λ (x : Content). IsMoves (shown_in c x)) same held.kind }
