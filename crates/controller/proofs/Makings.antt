-- Moves and regions that are made one after the other, and what is told where one isn't.
use Rattle.std.proofs.Common.{◌≡◌, ℕ, zero, suc, ◌≤◌, ◌<◌, List, [], ◌∷◌, ◌++◌, map, length, get_or, take, Vec, ap, sym, ◌∙◌, refl, subst, arith}
use Rattle.std.proofs.lemmas.List.{append_assoc, append-nil}
use Rattle.std.specs.declared.alloc.Global.{Global}
use Rattle.spec_model.specs.declared.value.Owner.TheVariants.{Sys}
use Rattle.spec_model.specs.Games.{GameData}
use Rattle.spec_model.specs.Sets.{StateSet, holding}
use Rattle.regions.specs.declared.types.Halt.{Halt}
use Rattle.regions.specs.declared.types.When.{When}
use Rattle.regions.specs.declared.types.When.TheVariants.{First, Later}
use Rattle.regions.specs.Kept.{Kept, Item, Move, Meaning, States, Each, weight, HasRegion, Halts, OutMoves, IsExact, IsSameGame, Outputs}
use Rattle.gr1_law.specs.Layers.{or_all_states, goal_sets}
use Rattle.gr1_sys.specs.declared.layers.SysLayer.{SysLayer}
use Rattle.gr1_sys.specs.Held.{HasEach, layer_regions, goal_regions, all_regions}
use Rattle.strategy_parts.specs.Told.{IsMade, TellsHalt as HaltIsTold}
use Rattle.strategy_parts.proofs.Telling.{every_append, every_both, every_in, has_every, has_each, made_sets, targets_stay as targets_stay_of, leadings_stay as leadings_stay_of, made_moves as made_moves_of, told as told_of, told_after as told_after_of, told_still as told_still_of}
use Rattle.controller.specs.declared.aims.Aim.{Aim}
use Rattle.strategy_parts.specs.Owned.{MakesAll, move_items, Every}
use Rattle.controller.specs.Owned.{aim_items}
use Rattle.strategy_parts.specs.Told.{IsIn}
use Rattle.controller.specs.Made.{Targets, tale_of, AreTargets, TellsHalt, leadings, parts_for, regions_for, AreLike, AreAllLike, first_layers, move_meanings}
use Rattle.strategy_parts.proofs.Owning.{length_map}

-- the states of the goals, or of the first of them, are made
pub goals_in : (g : GameData) → Every (λ s. IsIn s (goal_sets g)) (goal_sets g)
goals_in g = subst (λ (sets : List StateSet). Every (λ s. IsIn s sets) (goal_sets g)) (map-same (goal_sets g)) (every_in (λ s. s) (goal_sets g))
  where
    map-same : (ss : List StateSet) → map (λ s. s) ss ≡ ss
    map-same [] = refl
    map-same (s ∷ ss) = ap (λ ts. s ∷ ts) (map-same ss)

pub all_goals_made : (g : GameData) (targets : Targets) → Each (IsMade (tale_of g targets)) (map States (goal_sets g))
all_goals_made g targets = made_sets (tale_of g targets) (goal_sets g) (goals_in g)

-- there is a goal
pub some_goal : (g : GameData) → 0 < length (goal_sets g)
some_goal g = some (map (λ goal. holding g goal.holds) g.goals)
  where
    some : (sets : List StateSet) → 0 < length (or_all_states g sets)
    some [] = omega arith
    some (s ∷ sets) = omega arith

module _ {R M : Type 0} where
  module _ (old new : Kept R M) (exact : IsExact new) (more : (w : Item R M → Meaning → ℕ) → weight old w ≤ weight new w) where
    pub targets_stay : (targets : Targets) (when : When) (rs : List R) → HasEach old rs → AreTargets targets when old rs → AreTargets targets when new rs
    targets_stay targets when rs each all = targets_stay_of old new exact more (tale_of old.game targets) when rs each all

    pub leadings_stay : (when : When) (rs : List R) → HasEach old rs → leadings new when rs ≡ leadings old when rs
    leadings_stay when rs each = leadings_stay_of old new exact more Sys when rs each

  pub made_moves : (k : Kept R M) (targets : Targets) (when : When) (rs : List R) → AreTargets targets when k rs → Each (IsMade (tale_of k.game targets)) (leadings k when rs)
  made_moves k targets when rs all = made_moves_of k (tale_of k.game targets) when rs all

  -- what a call tells is told of what was held before it
  pub told_after : (first k new : Kept R M) (targets : Targets) (is : List (Item R M)) (ms : List Meaning) (halt : Halt) → MakesAll first k is ms → IsSameGame first k → Each (IsMade (tale_of first.game targets)) ms →
      TellsHalt k new targets halt → TellsHalt first new targets halt
  told_after first k new targets is ms halt made same are tells =
      told_after_of first k new (tale_of first.game targets) is ms halt made are (subst (λ (g : GameData). HaltIsTold k new (tale_of g targets) halt) same.game tells)

  -- a call halted after some were made
  pub told : (first k new : Kept R M) (targets : Targets) (is : List (Item R M)) (ms : List Meaning) (when : When) (s : StateSet) (halt : Halt) → MakesAll first k is ms → Halts k new (OutMoves when) (States s ∷ []) halt →
      Each (IsMade (tale_of first.game targets)) ms → IsIn s (targets when) → TellsHalt first new targets halt
  told first k new targets is ms when s halt made halts are of = told_of first k new (tale_of first.game targets) is ms (OutMoves when) (States s ∷ []) halt made halts are (s, of, refl)

  pub told_still : (first k new : Kept R M) (targets : Targets) (halt : Halt) → new.jam ≡ k.jam → TellsHalt first k targets halt → TellsHalt first new targets halt
  told_still first k new targets halt e tells = told_still_of first k new (tale_of first.game targets) halt e tells

-- ---- layer by layer

module _ {G R M : Type 0} where
  -- an aim has as many parts as there are regions behind the layer's
  pub as_many : (first k new : Kept R M) (a : Aim G R M) (when : When) (r : R) (rs : List R) → MakesAll k new (aim_items a) (leadings first when (r ∷ rs)) → length a.parts.items ≡ length rs
  as_many first k new a when r rs made =
      let e = made.counted in
      let items : length (move_items {R = R} a.parts.items) ≡ length a.parts.items = length_map {X = M} {Y = Item R M} Move a.parts.items in
      let meant : length (leadings first when rs) ≡ length rs = length_map {X = R} {Y = Meaning} (λ r. Outputs when (first.set r)) rs in
      omega (arith, e, items, meant)

  pub regions_for-push : (when : When) (ls : List (SysLayer G R M)) (l : SysLayer G R M) → regions_for when (ls ++ l ∷ []) ≡ regions_for when ls ++ (l.y ∷ parts_for when l)
  regions_for-push when [] l = append-nil (l.y ∷ parts_for when l)
  regions_for-push when (first ∷ ls) l = ap (λ rs. (first.y ∷ parts_for when first) ++ rs) (regions_for-push when ls l) ∙ sym (append_assoc (first.y ∷ parts_for when first) (regions_for when ls) (l.y ∷ parts_for when l))

  pub all_regions-push : (vs : List (Vec (SysLayer G R M) Global)) (v : Vec (SysLayer G R M) Global) → all_regions (vs ++ v ∷ []) ≡ all_regions vs ++ goal_regions v.items
  all_regions-push [] v = append-nil (goal_regions v.items)
  all_regions-push (first ∷ vs) v = ap (λ rs. goal_regions first.items ++ rs) (all_regions-push vs v) ∙ sym (append_assoc (goal_regions first.items) (all_regions vs) (goal_regions v.items))

  pub later_regions : (ls : List (SysLayer G R M)) → regions_for Later ls ≡ goal_regions ls
  later_regions [] = refl
  later_regions (l ∷ ls) = ap (λ rs. layer_regions l ++ rs) (later_regions ls)

  pub like_push : (when : When) (aims : List (Aim G R M)) (ls : List (SysLayer G R M)) (a : Aim G R M) (l : SysLayer G R M) → AreLike when aims ls → length a.parts.items ≡ length (parts_for when l) → AreLike when (aims ++ a ∷ []) (ls ++ l ∷ [])
  like_push when [] [] a l like e = (e, tt)
  like_push when [] (q ∷ ls) a l like e = absurd like
  like_push when (b ∷ aims) [] a l like e = absurd like
  like_push when (b ∷ aims) (q ∷ ls) a l like e = (like.0, like_push when aims ls a l like.1 e)

  pub all_like_push : (goals : List (Vec (Aim G R M) Global)) (vs : List (Vec (SysLayer G R M) Global)) (a : Vec (Aim G R M) Global) (v : Vec (SysLayer G R M) Global) → AreAllLike goals vs → AreLike Later a.items v.items → AreAllLike (goals ++ a ∷ []) (vs ++ v ∷ [])
  all_like_push [] [] a v like e = (e, tt)
  all_like_push [] (q ∷ vs) a v like e = absurd like
  all_like_push (b ∷ goals) [] a v like e = absurd like
  all_like_push (b ∷ goals) (q ∷ vs) a v like e = (like.0, all_like_push goals vs a v like.1 e)

  -- what holds of each region holds of those of one of the layers
  pub every_layer : (P : R → Type 0) (when : When) (ls : List (SysLayer G R M)) (i : ℕ) (l : SysLayer G R M) → Every P (regions_for when ls) → i < length ls → l ≡ get_or ls i l → Every P (l.y ∷ parts_for when l)
  every_layer P when [] i l all below is = absurd (omega arith)
  every_layer P when (q ∷ ls) zero l all below is = subst (λ (p : SysLayer G R M). Every P (p.y ∷ parts_for when p)) (sym is) (every_append P (q.y ∷ parts_for when q) (regions_for when ls) all).0
  every_layer P when (q ∷ ls) (suc i) l all below is = every_layer P when ls i l (every_append P (q.y ∷ parts_for when q) (regions_for when ls) all).1 (omega arith) is

  pub every_layers_take : (P : R → Type 0) (when : When) (i : ℕ) (ls : List (SysLayer G R M)) → Every P (regions_for when ls) → Every P (regions_for when (take i ls))
  every_layers_take P when zero ls all = tt
  every_layers_take P when (suc i) [] all = tt
  every_layers_take P when (suc i) (l ∷ ls) all =
      let parts = every_append P (l.y ∷ parts_for when l) (regions_for when ls) all in every_both P (l.y ∷ parts_for when l) (regions_for when (take i ls)) parts.0 (every_layers_take P when i ls parts.1)

  pub every_goals_take : (P : R → Type 0) (i : ℕ) (vs : List (Vec (SysLayer G R M) Global)) → Every P (all_regions vs) → Every P (all_regions (take i vs))
  every_goals_take P zero vs all = tt
  every_goals_take P (suc i) [] all = tt
  every_goals_take P (suc i) (v ∷ vs) all =
      let parts = every_append P (goal_regions v.items) (all_regions vs) all in every_both P (goal_regions v.items) (all_regions (take i vs)) parts.0 (every_goals_take P i vs parts.1)

  pub every_goal : (P : R → Type 0) (vs : List (Vec (SysLayer G R M) Global)) (i : ℕ) (v : Vec (SysLayer G R M) Global) → Every P (all_regions vs) → i < length vs → v ≡ get_or vs i v → Every P (goal_regions v.items)
  every_goal P [] i v all below is = absurd (omega arith)
  every_goal P (q ∷ vs) zero v all below is = subst (λ (p : Vec (SysLayer G R M) Global). Every P (goal_regions p.items)) (sym is) (every_append P (goal_regions q.items) (all_regions vs) all).0
  every_goal P (q ∷ vs) (suc i) v all below is = every_goal P vs i v (every_append P (goal_regions q.items) (all_regions vs) all).1 (omega arith) is

  -- the first layers are among all
  tops : (P : R → Type 0) (ls : List (SysLayer G R M)) → Every P (goal_regions ls) → Every P (regions_for First ls)
  tops P [] all = tt
  tops P (l ∷ ls) all = let parts = every_append P (layer_regions l) (goal_regions ls) all in (parts.0.0, tops P ls parts.1)

  pub every_first : (P : R → Type 0) (vs : List (Vec (SysLayer G R M) Global)) → Every P (all_regions vs) → Every P (regions_for First (first_layers vs))
  every_first P [] all = tt
  every_first P (v ∷ vs) all = tops P v.items (every_append P (goal_regions v.items) (all_regions vs) all).0

  pub first_each : (k : Kept R M) (vs : List (Vec (SysLayer G R M) Global)) → HasEach k (all_regions vs) → HasEach k (regions_for First (first_layers vs))
  first_each k vs each = has_each k (regions_for First (first_layers vs)) (every_first (HasRegion k) vs (has_every k (all_regions vs) each))

  pub first_is : (vs : List (Vec (SysLayer G R M) Global)) (v : Vec (SysLayer G R M) Global) → 0 < length vs → v ≡ get_or vs 0 v → v.items ≡ first_layers vs
  first_is [] v some is = absurd (omega arith)
  first_is (q ∷ vs) v some is = ap (λ (p : Vec (SysLayer G R M) Global). p.items) is

  -- the moves stand for the same where more is held
  pub moves_stay_told : (old new : Kept R M) → IsExact new → ((w : Item R M → Meaning → ℕ) → weight old w ≤ weight new w) → (vs : List (Vec (SysLayer G R M) Global)) → HasEach old (all_regions vs) → move_meanings new vs ≡ move_meanings old vs
  moves_stay_told old new exact more vs each =
      let first = leadings_stay old new exact more First (regions_for First (first_layers vs)) (first_each old vs each) in
      let later = leadings_stay old new exact more Later (all_regions vs) each in
      ap (λ ms. ms ++ leadings new Later (all_regions vs)) first ∙ ap (λ ms. leadings old First (regions_for First (first_layers vs)) ++ ms) later
