-- What was made for a strategy is sound.
use Rattle.std.proofs.Common.{◌≡◌, ℕ, zero, suc, ◌+◌, ◌≤◌, ◌<◌, false, List, [], ◌∷◌, ◌++◌, map, length, slice_get, Vec, vec_len, Some, None, is_some, IsTrue, ap, sym, ◌∙◌, refl, subst, arith}
use Rattle.std.proofs.lemmas.List.{map-append}
use Rattle.std.proofs.lemmas.Bool.{false≢true}
use Rattle.std.specs.declared.alloc.Global.{Global}
use Rattle.spec_model.specs.Rules.{Run}
use Rattle.spec_model.specs.Games.{GameData}
use Rattle.spec_model.specs.Steps.{Before, below}
use Rattle.spec_model.specs.Sets.{StateSet, system_forces}
use Rattle.spec_model.specs.WellMade.{WellMade}
use Rattle.regions.specs.declared.types.When.{When}
use Rattle.regions.specs.declared.types.When.TheVariants.{First, Later}
use Rattle.regions.specs.Kept.{Kept, Item, Region, Move, Meaning, States, meaning_of, weight, IsHeldAs, IsExact, IsSameGame, Outputs}
use Rattle.gr1_law.specs.Layers.{LayerSets, IsWinning, AreGreatestRanks, goal_set, goal_sets, assumption_sets}
use Rattle.gr1_law.specs.Choice.{Memory, ChosenPlay, first_memory}
use Rattle.gr1_sys.specs.declared.layers.SysLayer.{SysLayer}
use Rattle.gr1_sys.specs.Held.{HasEach, layer_regions, goal_regions, all_regions, ranks_of, AllHaveParts, HaveParts as LayersHaveParts}
use Rattle.controller.specs.declared.aims.Aim.{Aim}
use Rattle.strategy_parts.specs.Owned.{RegionsAre, weight_as, HasAll, MakesAll, region_items, move_items}
use Rattle.controller.specs.Aims.{MovesLead, AimsLead, GoalsLead, LayersAre, AllLayersAre}
use Rattle.controller.specs.Turns.{HaveParts}
use Rattle.controller.specs.Owned.{aim_items, aims_items, all_aims_items, made_items, layer_items}
use Rattle.controller.specs.Made.{leadings, parts_for, regions_for, AreLike, AreAllLike, first_layers, move_meanings, made_meanings, AreLayersOf}
use Rattle.controller.specs.Objects.{AreSound, AllAimsHaveParts, AreAlike, IsFirstOf}
use Rattle.strategy_parts.proofs.Owning.{length_map, length_both, weight_as-append, weight_as-more, all_as, together_regions, together_each, sets_as-more}
use Rattle.strategy_parts.proofs.Standing.{AreSets, are_sets, regions_are, regions_held, each_parts}
use Rattle.controller.proofs.Makings.{later_regions, some_goal}

-- a play without a state has no position
pub none_yet : (g : GameData) (l : LayerSets) (h : Run) (b : Before) (m : Memory) → ChosenPlay g l h b m → is_some b ≡ false → (h ≡ []) × (b ≡ None) × (m ≡ first_memory)
none_yet g l h b m ChosenPlay.nothing e = (refl, refl, refl)
none_yet g l h b m (ChosenPlay.more q c n x y next play input legal chosen) e = absurd (false≢true (sym e))

module _ {R M : Type 0} where
  module _ (old new : Kept R M) (same : IsSameGame old new) where
    held_leading : (when : When) (m : M) (s t : StateSet) → s ≡ t → ((w : Item R M → Meaning → ℕ) → w (Move m) (Outputs when s) ≤ weight new w) → IsHeldAs new (Move m) (Outputs when t)
    held_leading when m s t e held = subst (λ (u : StateSet). IsHeldAs new (Move m) (Outputs when u)) e held

    moves_lead : (when : When) (ms : List M) (rs : List R) (sets : ℕ → StateSet) → length ms ≡ length rs → ((w : Item R M → Meaning → ℕ) → weight_as (move_items ms) (leadings old when rs) w ≤ weight new w) → AreSets old rs sets → MovesLead new when ms sets
    moves_lead when [] rs sets e held are = tt
    moves_lead when (m ∷ ms) [] sets e held are = absurd (omega arith)
    moves_lead when (m ∷ ms) (r ∷ rs) sets e held are = (
      held_leading when m (old.set r) (sets 0) are.0 (λ w. omega (arith, held w, weight_as-more (Move m) (move_items ms) (Outputs when (old.set r)) (leadings old when rs) w)),
      moves_lead when ms rs (λ i. sets (suc i)) (omega arith) (λ w. omega (arith, held w, weight_as-more (Move m) (move_items ms) (Outputs when (old.set r)) (leadings old when rs) w)) are.1,
    )

module _ {G R M : Type 0} where
  -- the layers of a goal stand for these sets
  abbrev Shows : Kept R M → ℕ → List (SysLayer G R M) → (y : ℕ → StateSet) → (x : ℕ → ℕ → StateSet) → Type 0
  Shows k n ls y x = (r : ℕ) (l : SysLayer G R M) → slice_get ls r ≡ Some l → (k.set l.y ≡ y r) × (map k.set l.x.items ≡ map (x r) (below n))

  abbrev AllShow : Kept R M → ℕ → List (Vec (SysLayer G R M) Global) → (y : ℕ → ℕ → StateSet) → (x : ℕ → ℕ → ℕ → StateSet) → Type 0
  AllShow k n vs y x = (j r : ℕ) (v : Vec (SysLayer G R M) Global) (l : SysLayer G R M) → slice_get vs j ≡ Some v → slice_get v.items r ≡ Some l → (k.set l.y ≡ y j r) × (map k.set l.x.items ≡ map (x j r) (below n))

  parts_are : (k : Kept R M) (when : When) (l : SysLayer G R M) (x : ℕ → StateSet) (n : ℕ) → map k.set l.x.items ≡ map x (below n) → AreSets k (parts_for when l) x
  parts_are k First l x n e = tt
  parts_are k Later l x n e = are_sets k l.x.items x n e

  like_counted : (when : When) (aims : List (Aim G R M)) (ls : List (SysLayer G R M)) → AreLike when aims ls → length (aims_items aims) ≡ length (regions_for when ls)
  like_counted when [] [] like = refl
  like_counted when [] (l ∷ ls) like = absurd like
  like_counted when (a ∷ aims) [] like = absurd like
  like_counted when (a ∷ aims) (l ∷ ls) like =
      let rest = like_counted when aims ls like.1 in
      let parts = like.0 in
      let moves : length (move_items {R = R} a.parts.items) ≡ length a.parts.items = length_map {X = M} {Y = Item R M} Move a.parts.items in
      omega (arith, rest, parts, moves, length_both (aim_items a) (aims_items aims), length_both (l.y ∷ parts_for when l) (regions_for when ls))

  like_alike : (when : When) (aims : List (Aim G R M)) (ls : List (SysLayer G R M)) → AreLike when aims ls → length aims ≡ length ls
  like_alike when [] [] like = refl
  like_alike when [] (l ∷ ls) like = absurd like
  like_alike when (a ∷ aims) [] like = absurd like
  like_alike when (a ∷ aims) (l ∷ ls) like = ap suc (like_alike when aims ls like.1)

  all_alike : (goals : List (Vec (Aim G R M) Global)) (vs : List (Vec (SysLayer G R M) Global)) → AreAllLike goals vs → AreAlike goals vs
  all_alike [] [] like = tt
  all_alike [] (v ∷ vs) like = absurd like
  all_alike (a ∷ goals) [] like = absurd like
  all_alike (a ∷ goals) (v ∷ vs) like = (like_alike Later a.items v.items like.0, all_alike goals vs like.1)

  first_alike : (aims : List (Aim G R M)) (vs : List (Vec (SysLayer G R M) Global)) → 0 < length vs → AreLike First aims (first_layers vs) → IsFirstOf aims vs
  first_alike aims [] some like = absurd (omega (arith, some))
  first_alike aims (v ∷ vs) some like = like_alike First aims v.items like

  like_parts : (n : ℕ) (aims : List (Aim G R M)) (ls : List (SysLayer G R M)) → AreLike Later aims ls → LayersHaveParts n ls → HaveParts n aims
  like_parts n [] [] like have = tt
  like_parts n [] (l ∷ ls) like have = absurd like
  like_parts n (a ∷ aims) [] like have = absurd like
  like_parts n (a ∷ aims) (l ∷ ls) like have = (let e = like.0 in let h = have.0 in omega (arith, e, h), like_parts n aims ls like.1 have.1)

  all_like_parts : (n : ℕ) (goals : List (Vec (Aim G R M) Global)) (vs : List (Vec (SysLayer G R M) Global)) → AreAllLike goals vs → AllHaveParts n vs → AllAimsHaveParts n goals
  all_like_parts n [] [] like have = tt
  all_like_parts n [] (v ∷ vs) like have = absurd like
  all_like_parts n (a ∷ goals) [] like have = absurd like
  all_like_parts n (a ∷ goals) (v ∷ vs) like have = (like_parts n a.items v.items like.0 have.0, all_like_parts n goals vs like.1 have.1)

  module _ (k : Kept R M) (n : ℕ) where
    shown_parts : (ls : List (SysLayer G R M)) (y : ℕ → StateSet) (x : ℕ → ℕ → StateSet) → Shows k n ls y x → LayersHaveParts n ls
    shown_parts [] y x shown = tt
    shown_parts (l ∷ ls) y x shown = (counted, shown_parts ls (λ r. y (suc r)) (λ r. x (suc r)) (λ r q. shown (suc r) q))
      where
        below_many : (n : ℕ) → length (below n) ≡ n
        below_many zero = refl
        below_many (suc n) = let rest = below_many n in omega (arith, rest, length_both (below n) (n ∷ []))

        counted : vec_len l.x ≡ n
        counted =
            let e = ap (λ (ss : List StateSet). length ss) (shown 0 l refl).1 in
            let a : length (map k.set l.x.items) ≡ length l.x.items = length_map {X = R} {Y = StateSet} k.set l.x.items in
            let b : length (map (x 0) (below n)) ≡ length (below n) = length_map {X = ℕ} {Y = StateSet} (x 0) (below n) in
            omega (arith, e, a, b, below_many n)

    all_shown_parts : (vs : List (Vec (SysLayer G R M) Global)) (y : ℕ → ℕ → StateSet) (x : ℕ → ℕ → ℕ → StateSet) → AllShow k n vs y x → AllHaveParts n vs
    all_shown_parts [] y x shown = tt
    all_shown_parts (v ∷ vs) y x shown = (shown_parts v.items (y 0) (x 0) (λ r l. shown 0 r v l refl), all_shown_parts vs (λ j. y (suc j)) (λ j. x (suc j)) (λ j r u l. shown (suc j) r u l))

  module _ (old new : Kept R M) (more : (w : Item R M → Meaning → ℕ) → weight old w ≤ weight new w) (n : ℕ) where
    layers_are : (ls : List (SysLayer G R M)) (y : ℕ → StateSet) (x : ℕ → ℕ → StateSet) → HasEach old (goal_regions ls) → Shows old n ls y x → LayersAre new ls x
    layers_are [] y x each shown = tt
    layers_are (l ∷ ls) y x each shown =
        let parts = each_parts old (layer_regions l) (goal_regions ls) each in (
          regions_are old new more l.x.items (x 0) parts.0.1 (are_sets old l.x.items (x 0) n (shown 0 l refl).1),
          layers_are ls (λ r. y (suc r)) (λ r. x (suc r)) parts.1 (λ r q. shown (suc r) q),
        )

    all_layers_are : (vs : List (Vec (SysLayer G R M) Global)) (y : ℕ → ℕ → StateSet) (x : ℕ → ℕ → ℕ → StateSet) → HasEach old (all_regions vs) → AllShow old n vs y x → AllLayersAre new vs x
    all_layers_are [] y x each shown = tt
    all_layers_are (v ∷ vs) y x each shown =
        let parts = each_parts old (goal_regions v.items) (all_regions vs) each in
        (layers_are v.items (y 0) (x 0) parts.0 (λ r l. shown 0 r v l refl), all_layers_are vs (λ j. y (suc j)) (λ j. x (suc j)) parts.1 (λ j r u l. shown (suc j) r u l))

  module _ (old new : Kept R M) (same : IsSameGame old new) (n : ℕ) where
    aims_lead : (when : When) (aims : List (Aim G R M)) (ls : List (SysLayer G R M)) (y : ℕ → StateSet) (x : ℕ → ℕ → StateSet) → AreLike when aims ls →
        ((w : Item R M → Meaning → ℕ) → weight_as (aims_items aims) (leadings old when (regions_for when ls)) w ≤ weight new w) → Shows old n ls y x → AimsLead new when aims y x
    aims_lead when [] [] y x like held shown = tt
    aims_lead when [] (l ∷ ls) y x like held shown = absurd like
    aims_lead when (a ∷ aims) [] y x like held shown = absurd like
    aims_lead when (a ∷ aims) (l ∷ ls) y x like held shown = (
      held_leading old new same when a.layer (old.set l.y) (y 0) (shown 0 l refl).0 (λ w. omega (arith, held w, split w, one w)),
      moves_lead old new same when a.parts.items (parts_for when l) (x 0) like.0 (λ w. omega (arith, held w, split w, one w)) (parts_are old when l (x 0) n (shown 0 l refl).1),
      aims_lead when aims ls (λ r. y (suc r)) (λ r. x (suc r)) like.1 (λ w. omega (arith, held w, split w)) (λ r q. shown (suc r) q),
    )
      where
        counted : length (aim_items a) ≡ length (leadings old when (l.y ∷ parts_for when l))
        counted =
            let moves : length (move_items {R = R} a.parts.items) ≡ length a.parts.items = length_map {X = M} {Y = Item R M} Move a.parts.items in
            let meant : length (leadings old when (parts_for when l)) ≡ length (parts_for when l) = length_map {X = R} {Y = Meaning} (λ r. Outputs when (old.set r)) (parts_for when l) in
            let parts = like.0 in
            omega (arith, moves, meant, parts)

        split : (w : Item R M → Meaning → ℕ) → weight_as (aims_items (a ∷ aims)) (leadings old when (regions_for when (l ∷ ls))) w ≡ weight_as (aim_items a) (leadings old when (l.y ∷ parts_for when l)) w + weight_as (aims_items aims) (leadings old when (regions_for when ls)) w
        split w =
            ap (λ ms. weight_as (aims_items (a ∷ aims)) ms w) (map-append (λ r. Outputs when (old.set r)) (l.y ∷ parts_for when l) (regions_for when ls))
            ∙ weight_as-append (aim_items a) (aims_items aims) (leadings old when (l.y ∷ parts_for when l)) (leadings old when (regions_for when ls)) w counted

        one : (w : Item R M → Meaning → ℕ) → weight_as (aim_items a) (leadings old when (l.y ∷ parts_for when l)) w ≡ w (Move a.layer) (Outputs when (old.set l.y)) + weight_as (move_items a.parts.items) (leadings old when (parts_for when l)) w
        one w = weight_as-more (Move a.layer) (move_items a.parts.items) (Outputs when (old.set l.y)) (leadings old when (parts_for when l)) w

    goals_lead : (goals : List (Vec (Aim G R M) Global)) (vs : List (Vec (SysLayer G R M) Global)) (y : ℕ → ℕ → StateSet) (x : ℕ → ℕ → ℕ → StateSet) → AreAllLike goals vs →
        ((w : Item R M → Meaning → ℕ) → weight_as (all_aims_items goals) (leadings old Later (all_regions vs)) w ≤ weight new w) → AllShow old n vs y x → GoalsLead new goals y x
    goals_lead [] [] y x like held shown = tt
    goals_lead [] (v ∷ vs) y x like held shown = absurd like
    goals_lead (a ∷ goals) [] y x like held shown = absurd like
    goals_lead (a ∷ goals) (v ∷ vs) y x like held shown = (
      aims_lead Later a.items v.items (y 0) (x 0) like.0 (λ w. omega (arith, held w, split w)) (λ r l. shown 0 r v l refl),
      goals_lead goals vs (λ j. y (suc j)) (λ j. x (suc j)) like.1 (λ w. omega (arith, held w, split w)) (λ j r u l. shown (suc j) r u l),
    )
      where
        counted : length (aims_items a.items) ≡ length (leadings old Later (regions_for Later v.items))
        counted =
            let meant : length (leadings old Later (regions_for Later v.items)) ≡ length (regions_for Later v.items) = length_map {X = R} {Y = Meaning} (λ r. Outputs Later (old.set r)) (regions_for Later v.items) in
            let many = like_counted Later a.items v.items like.0 in
            omega (arith, meant, many)

        split : (w : Item R M → Meaning → ℕ) → weight_as (all_aims_items (a ∷ goals)) (leadings old Later (all_regions (v ∷ vs))) w ≡ weight_as (aims_items a.items) (leadings old Later (regions_for Later v.items)) w + weight_as (all_aims_items goals) (leadings old Later (all_regions vs)) w
        split w =
            ap (λ (rs : List R). weight_as (all_aims_items (a ∷ goals)) (leadings old Later (rs ++ all_regions vs)) w) (sym (later_regions v.items))
            ∙ (ap (λ ms. weight_as (all_aims_items (a ∷ goals)) ms w) (map-append (λ r. Outputs Later (old.set r)) (regions_for Later v.items) (all_regions vs))
            ∙ weight_as-append (aims_items a.items) (all_aims_items goals) (leadings old Later (regions_for Later v.items)) (leadings old Later (all_regions vs)) w counted)

-- ---- all together

module _ {G R M : Type 0} where
  -- each region of the layers is held
  pub layers_each : (k : Kept R M) (z : R) (layers : List (Vec (SysLayer G R M) Global)) (l : LayerSets) → AreLayersOf k z layers l → HasEach k (all_regions layers)
  layers_each k z layers l own = together_each k (all_regions layers) (λ w. omega (arith, own.held w, sets_as-more z (all_regions layers) (k.set z) (map k.set (all_regions layers)) w))

module _ {G R M : Type 0} (old new : Kept R M) (same : IsSameGame old new) (exact : IsExact new) (z : R) (layers : List (Vec (SysLayer G R M) Global)) (l : LayerSets) (own : AreLayersOf old z layers l) where
  pub layers_counted : length layers ≡ length (goal_sets old.game)
  layers_counted = sym (length_map {X = Vec (SysLayer G R M) Global} {Y = ℕ} vec_len layers) ∙ own.ranks.counted

  module _ (first : List (Aim G R M)) (goals : List (Vec (Aim G R M) Global)) (holds : List R) (made : MakesAll old new (made_items first goals holds) (made_meanings old layers)) (like_first : AreLike First first (first_layers layers)) (like : AreAllLike goals layers) (many : length holds ≡ length (goal_sets old.game)) where
    more : (w : Item R M → Meaning → ℕ) → weight old w ≤ weight new w
    more w = omega (arith, made.held w)

    holds_counted : length (region_items {M = M} holds) ≡ length (map States (goal_sets old.game))
    holds_counted =
        let a : length (region_items {M = M} holds) ≡ length holds = length_map {X = R} {Y = Item R M} Region holds in
        let b : length (map States (goal_sets old.game)) ≡ length (goal_sets old.game) = length_map {X = StateSet} {Y = Meaning} States (goal_sets old.game) in
        omega (arith, a, b, many)

    first_counted : length (aims_items first) ≡ length (leadings old First (regions_for First (first_layers layers)))
    first_counted =
        let a : length (leadings old First (regions_for First (first_layers layers))) ≡ length (regions_for First (first_layers layers)) = length_map {X = R} {Y = Meaning} (λ r. Outputs First (old.set r)) (regions_for First (first_layers layers)) in
        let b = like_counted First first (first_layers layers) like_first in
        omega (arith, a, b)

    parts_of : (w : Item R M → Meaning → ℕ) → weight_as (made_items first goals holds) (made_meanings old layers) w ≡ weight_as (region_items holds) (map States (goal_sets old.game)) w + (weight_as (aims_items first) (leadings old First (regions_for First (first_layers layers))) w + weight_as (all_aims_items goals) (leadings old Later (all_regions layers)) w)
    parts_of w =
        weight_as-append (region_items holds) (aims_items first ++ all_aims_items goals) (map States (goal_sets old.game)) (move_meanings old layers) w holds_counted
        ∙ ap (λ n. weight_as (region_items holds) (map States (goal_sets old.game)) w + n) (weight_as-append (aims_items first) (all_aims_items goals) (leadings old First (regions_for First (first_layers layers))) (leadings old Later (all_regions layers)) w first_counted)

    first_shown : (vs : List (Vec (SysLayer G R M) Global)) (n : ℕ) (y : ℕ → ℕ → StateSet) (x : ℕ → ℕ → ℕ → StateSet) → AllShow old n vs y x → Shows old n (first_layers vs) (y 0) (x 0)
    first_shown [] n y x shown r q e = absurd (none_at r e)
      where
        none_at : (r : ℕ) → slice_get [] r ≡ Some q → ⊥
        none_at r e = cc
    first_shown (v ∷ vs) n y x shown r q e = shown 0 r v q refl e

    pub sound : AreSound new layers first goals holds (old.set z) l
    sound =
        let n = length (assumption_sets old.game) in
        let y : ℕ → ℕ → StateSet = λ j r. l.y j (suc r) in
        let x : ℕ → ℕ → ℕ → StateSet = λ j r. l.x j (suc r) in
        let shown : AllShow old n layers y x = own.shown in
        let parts = all_shown_parts old n layers y x shown in
        record {
          made = subst WellMade (sym same.game) own.made;
          won = subst (λ (g : GameData). IsWinning g (old.set z) l) (sym same.game) own.winning;
          ranks = subst (λ (g : GameData). AreGreatestRanks g l (ranks_of layers)) (sym same.game) own.ranks;
          starts = subst (λ (g : GameData). IsTrue (system_forces g (old.set z) None)) (sym same.game) own.forced;
          first = aims_lead old new same n First first (first_layers layers) (y 0) (x 0) like_first (λ w. omega (arith, made.held w, parts_of w)) (first_shown layers n y x shown);
          goals = goals_lead old new same n goals layers y x like (λ w. omega (arith, made.held w, parts_of w)) shown;
          parts = subst (λ (g : GameData). AllAimsHaveParts (length (assumption_sets g)) goals) (sym same.game) (all_like_parts n goals layers like parts);
          regions = all_layers_are old new more n layers y x (layers_each old z layers l own) shown;
          region_parts = subst (λ (g : GameData). AllHaveParts (length (assumption_sets g)) layers) (sym same.game) parts;
          holds = subst (λ (g : GameData). RegionsAre new holds (goal_set g)) (sym same.game) (regions_held new holds (goal_sets old.game) (goal_set old.game) many (λ w. omega (arith, made.held w, parts_of w)) (λ i. refl));
          counted = many ∙ ap (λ (g : GameData). length (goal_sets g)) (sym same.game);
          alike = all_alike goals layers like;
          first_alike = first_alike first layers (omega (arith, layers_counted, some_goal old.game)) like_first;
        }

    pub owned : HasAll new (layer_items z layers ++ made_items first goals holds)
    owned =
        let before = together_regions old (z ∷ all_regions layers) own.held in
        let counted : length (layer_items {G = G} {R = R} {M = M} z layers) ≡ length (map (meaning_of old) (layer_items z layers)) = sym (length_map {X = Item R M} {Y = Meaning} (meaning_of old) (layer_items z layers)) in
        all_as new (layer_items z layers ++ made_items first goals holds) (map (meaning_of old) (layer_items z layers) ++ made_meanings old layers) exact
        (let e = made.counted in omega (arith, e, counted, length_both (layer_items z layers) (made_items first goals holds), length_both (map (meaning_of old) (layer_items z layers)) (made_meanings old layers)))
        (λ w. omega (arith, before w, made.held w, weight_as-append (layer_items z layers) (made_items first goals holds) (map (meaning_of old) (layer_items z layers)) (made_meanings old layers) w counted))
