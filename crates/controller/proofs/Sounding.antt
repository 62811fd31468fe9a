-- What is sound stays so, and serves the turns that are chosen.
use Rattle.std.proofs.Common.{◌≡◌, ℕ, zero, suc, ◌<◌, ◌≤◌, Bool, List, [], ◌∷◌, Vec, vec_len, length, get_or, slice_index, slice_get, option_map, Some, None, refl, sym, ap, ◌∙◌, subst, arith, IsTrue}
use Rattle.std.specs.declared.alloc.Global.{Global}
use Rattle.spec_model.specs.Values.{Assignment}
use Rattle.spec_model.specs.Games.{GameData}
use Rattle.spec_model.specs.Steps.{Before, reached}
use Rattle.spec_model.specs.Sets.{StateSet, system_forces}
use Rattle.spec_model.specs.WellMade.{WellMade}
use Rattle.regions.specs.declared.types.When.{When}
use Rattle.regions.specs.declared.types.When.TheVariants.{First, Later}
use Rattle.regions.specs.Kept.{Kept, Move, Stays, IsSameGame, Outputs}
use Rattle.gr1_law.specs.Layers.{LayerSets, IsWinning, AreGreatestRanks, goal_set, goal_sets, assumption_sets}
use Rattle.gr1_law.specs.Choice.{Memory, waits}
use Rattle.gr1_sys.specs.declared.layers.SysLayer.{SysLayer}
use Rattle.gr1_sys.specs.Held.{AllHaveParts, ranks_of}
use Rattle.controller.specs.declared.aims.Aim.{Aim}
use Rattle.controller.specs.declared.remembered.Remembered.{Remembered}
use Rattle.strategy_parts.specs.Owned.{RegionsAre}
use Rattle.controller.specs.Aims.{AimsLead, GoalsLead, LayersAre, AllLayersAre}
use Rattle.controller.specs.Places.{IsAt}
use Rattle.controller.specs.Turns.{IsTurn, HaveParts}
use Rattle.controller.specs.Settled.{Settles}
use Rattle.controller.specs.Objects.{AreSound, AllAimsHaveParts, AreAlike, IsFirstOf}
use Rattle.strategy_parts.proofs.Holdings.{held_stays, regions_stay}
use Rattle.controller.proofs.Holdings.{moves_stay}

module _ {G R M : Type 0} (k k1 : Kept R M) (stays : Stays k k1) (same : IsSameGame k k1) where
  aims_stay : (when : When) (aims : List (Aim G R M)) (y : ℕ → StateSet) (x : ℕ → ℕ → StateSet) → AimsLead k when aims y x → AimsLead k1 when aims y x
  aims_stay when [] y x all = tt
  aims_stay when (a ∷ aims) y x all = (
    held_stays k k1 (Move a.layer) (Outputs when (y 0)) stays all.0,
    moves_stay k k1 when a.parts.items (x 0) stays same all.1,
    aims_stay when aims (λ r. y (suc r)) (λ r. x (suc r)) all.2,
  )

  goals_stay : (vs : List (Vec (Aim G R M) Global)) (y : ℕ → ℕ → StateSet) (x : ℕ → ℕ → ℕ → StateSet) → GoalsLead k vs y x → GoalsLead k1 vs y x
  goals_stay [] y x all = tt
  goals_stay (v ∷ vs) y x all = (aims_stay Later v.items (y 0) (x 0) all.0, goals_stay vs (λ j. y (suc j)) (λ j. x (suc j)) all.1)

  layers_stay : (ls : List (SysLayer G R M)) (x : ℕ → ℕ → StateSet) → LayersAre k ls x → LayersAre k1 ls x
  layers_stay [] x all = tt
  layers_stay (l ∷ ls) x all = (regions_stay k k1 l.x.items (x 0) stays all.0, layers_stay ls (λ r. x (suc r)) all.1)

  all_layers_stay : (vs : List (Vec (SysLayer G R M) Global)) (x : ℕ → ℕ → ℕ → StateSet) → AllLayersAre k vs x → AllLayersAre k1 vs x
  all_layers_stay [] x all = tt
  all_layers_stay (v ∷ vs) x all = (layers_stay v.items (x 0) all.0, all_layers_stay vs (λ j. x (suc j)) all.1)

  pub sound_stays : (layers : List (Vec (SysLayer G R M) Global)) (first : List (Aim G R M)) (goals : List (Vec (Aim G R M) Global)) (holds : List R) (z : StateSet) (l : LayerSets) → AreSound k layers first goals holds z l → AreSound k1 layers first goals holds z l
  sound_stays layers first goals holds z l sound =
      record {
        made = subst WellMade (sym same.game) sound.made;
        won = subst (λ (g : GameData). IsWinning g z l) (sym same.game) sound.won;
        ranks = subst (λ (g : GameData). AreGreatestRanks g l (ranks_of layers)) (sym same.game) sound.ranks;
        starts = subst (λ (g : GameData). IsTrue (system_forces g z None)) (sym same.game) sound.starts;
        first = aims_stay First first (λ r. l.y 0 (suc r)) (λ r. l.x 0 (suc r)) sound.first;
        goals = goals_stay goals (λ j r. l.y j (suc r)) (λ j r. l.x j (suc r)) sound.goals;
        parts = subst (λ (g : GameData). AllAimsHaveParts (length (assumption_sets g)) goals) (sym same.game) sound.parts;
        regions = all_layers_stay layers (λ j r. l.x j (suc r)) sound.regions;
        region_parts = subst (λ (g : GameData). AllHaveParts (length (assumption_sets g)) layers) (sym same.game) sound.region_parts;
        holds = subst (λ (g : GameData). RegionsAre k1 holds (goal_set g)) (sym same.game) (regions_stay k k1 holds (goal_set k.game) stays sound.holds);
        counted = sound.counted ∙ ap (λ (g : GameData). length (goal_sets g)) (sym same.game);
        alike = sound.alike;
        first_alike = sound.first_alike;
      }

-- ---- the aims of one goal

module _ {G R M : Type 0} where
  pub goal_leads : (k : Kept R M) (vs : List (Vec (Aim G R M) Global)) (y : ℕ → ℕ → StateSet) (x : ℕ → ℕ → ℕ → StateSet) → GoalsLead k vs y x → (j : ℕ) (aims : List (Aim G R M)) → option_map (λ (v : Vec (Aim G R M) Global). v.items) (slice_get vs j) ≡ Some aims → AimsLead k Later aims (y j) (x j)
  goal_leads k [] y x all j aims is = absurd (let e : None ≡ Some aims = is in cc)
  goal_leads k (v ∷ vs) y x all zero aims is = let e : v.items ≡ aims = cc (is) in subst (λ (list : List (Aim G R M)). AimsLead k Later list (y 0) (x 0)) e all.0
  goal_leads k (v ∷ vs) y x all (suc j) aims is = goal_leads k vs (λ j. y (suc j)) (λ j. x (suc j)) all.1 j aims is

  pub goal_parts : (n : ℕ) (vs : List (Vec (Aim G R M) Global)) → AllAimsHaveParts n vs → (j : ℕ) (aims : List (Aim G R M)) → option_map (λ (v : Vec (Aim G R M) Global). v.items) (slice_get vs j) ≡ Some aims → HaveParts n aims
  goal_parts n [] all j aims is = absurd (let e : None ≡ Some aims = is in cc)
  goal_parts n (v ∷ vs) all zero aims is = let e : v.items ≡ aims = cc (is) in subst (HaveParts n) e all.0
  goal_parts n (v ∷ vs) all (suc j) aims is = goal_parts n vs all.1 j aims is

  pub goal_high : (vs : List (Vec (Aim G R M) Global)) (ls : List (Vec (SysLayer G R M) Global)) → AreAlike vs ls → (j : ℕ) (aims : List (Aim G R M)) → option_map (λ (v : Vec (Aim G R M) Global). v.items) (slice_get vs j) ≡ Some aims → slice_index (ranks_of ls) j ≡ length aims
  goal_high [] ls all j aims is = absurd (let e : None ≡ Some aims = is in cc)
  goal_high (v ∷ vs) [] all j aims is = absurd all
  goal_high (v ∷ vs) (l ∷ ls) all zero aims is = let e : v.items ≡ aims = cc (is) in subst (λ (list : List (Aim G R M)). vec_len l ≡ length list) e (let alike = all.0 in omega (arith, alike))
  goal_high (v ∷ vs) (l ∷ ls) all (suc j) aims is = goal_high vs ls all.1 j aims is

  pub first_high : (first : List (Aim G R M)) (ls : List (Vec (SysLayer G R M) Global)) → IsFirstOf first ls → slice_index (ranks_of ls) 0 ≡ length first
  first_high first [] all = absurd all
  first_high first (l ∷ ls) all = let alike = all in omega (arith, alike)

  pub alike_counted : (vs : List (Vec (Aim G R M) Global)) (ls : List (Vec (SysLayer G R M) Global)) → AreAlike vs ls → length vs ≡ length ls
  alike_counted [] [] all = refl
  alike_counted [] (l ∷ ls) all = absurd all
  alike_counted (v ∷ vs) [] all = absurd all
  alike_counted (v ∷ vs) (l ∷ ls) all = ap suc (alike_counted vs ls all.1)

  -- so many layers has the goal
  pub layers_high : (ls : List (Vec (SysLayer G R M) Global)) (j : ℕ) → j < length ls → (d : Vec (SysLayer G R M) Global) → length (get_or ls j d).items ≡ slice_index (ranks_of ls) j
  layers_high [] j below d = absurd (omega arith)
  layers_high (l ∷ ls) zero below d = omega arith
  layers_high (l ∷ ls) (suc j) below d = layers_high ls j (omega arith) d

-- ---- what is remembered

pub remembered : (g : GameData) (p : Remembered) (b : Before) (m : Memory) (goal rank index : ℕ) (next : Memory) → IsAt g p b m → goal ≡ next.goal → rank ≡ next.rank → index ≡ next.index →
    IsAt g (record p { goal = goal; rank = rank; index = index }) b next
remembered g p b m goal rank index next here goal_is rank_is index_is =
    record {
      position = here.position;
      memory = ap (λ (j : ℕ). memory j rank index) goal_is ∙ (ap (λ (r : ℕ). memory next.goal r index) rank_is ∙ ap (λ (i : ℕ). memory next.goal next.rank i) index_is);
    }
  where
    memory : ℕ → ℕ → ℕ → Memory
    memory j r i = record { goal = j; rank = r; index = i }

-- ---- a turn that was made

module _ {G R M : Type 0} (k k1 : Kept R M) (stays : Stays k k1) (same : IsSameGame k k1) (layers : List (Vec (SysLayer G R M) Global)) (first : List (Aim G R M)) (goals : List (Vec (Aim G R M) Global)) (holds : List R)
    (z : StateSet) (l : LayerSets) (sound : AreSound k layers first goals holds z l) (b : Before) (m : Memory) (x y : Assignment) (next : Memory) (turn : IsTurn k.game l b m x y next) (high : next.rank ≤ slice_index (ranks_of layers) next.goal) where
  pub settles : (p : Remembered) (goal rank : ℕ) (waited : Bool) → IsAt k.game p (Some (reached k.game b x y)) m → goal ≡ next.goal → suc rank ≡ next.rank → waited ≡ waits k.game b m next.rank → Settles k1 layers p goal rank waited l b m x y next
  settles p goal rank waited here goal_is rank_is waited_is =
      record {
        turn = subst (λ (g : GameData). IsTurn g l b m x y next) (sym same.game) turn;
        layers = all_layers_stay k k1 stays same layers (λ j r. l.x j (suc r)) sound.regions;
        parts = subst (λ (g : GameData). AllHaveParts (length (assumption_sets g)) layers) (sym same.game) sound.region_parts;
        here = subst (λ (g : GameData). IsAt g p (Some (reached g b x y)) m) (sym same.game) here;
        aim = goal_is;
        reach = rank_is;
        waiting = waited_is ∙ ap (λ (g : GameData). waits g b m next.rank) (sym same.game);
        goal_in = below;
        rank_in = λ v. (let many = layers_high layers goal below v in let same_ranks = ap (slice_index (ranks_of layers)) goal_is in omega (arith, many, same_ranks, high, rank_is));
      }
    where
      goals_counted : length layers ≡ length (goal_sets k.game)
      goals_counted = sym (length_map_ layers) ∙ sound.ranks.counted
        where
          length_map_ : (vs : List (Vec (SysLayer G R M) Global)) → length (ranks_of vs) ≡ length vs
          length_map_ [] = refl
          length_map_ (v ∷ vs) = ap suc (length_map_ vs)

      below : goal < length layers
      below = omega (arith, goal_is, goals_counted, turn.goal_in)
