-- The first turn and the later ones, as the calls make them.
use Rattle.std.proofs.Common.{◌≡◌, ℕ, suc, ◌<◌, ◌≤◌, Bool, false, List, Vec, length, slice_index, slice_get, option_map, Some, None, is_some, refl, sym, ap, ◌∙◌, subst, arith}
use Rattle.std.proofs.lemmas.Bool.{false≢true}
use Rattle.std.specs.declared.alloc.Global.{Global}
use Rattle.spec_model.specs.declared.value.Value.{Value}
use Rattle.spec_model.specs.Values.{Assignment}
use Rattle.spec_model.specs.Games.{GameData, State, listed}
use Rattle.spec_model.specs.Steps.{Before}
use Rattle.spec_model.specs.Sets.{StateSet}
use Rattle.regions.specs.declared.types.When.{When}
use Rattle.regions.specs.declared.types.When.TheVariants.{First, Later}
use Rattle.regions.specs.Kept.{Kept}
use Rattle.regions.specs.Rules.{AreBefore, listed_before}
use Rattle.gr1_law.specs.Layers.{LayerSets, assumption_sets}
use Rattle.gr1_law.specs.Choice.{Memory, waits, goal_aimed, goal_stays}
use Rattle.gr1_sys.specs.declared.layers.SysLayer.{SysLayer}
use Rattle.gr1_sys.specs.Held.{ranks_of}
use Rattle.controller.specs.declared.aims.Aim.{Aim}
use Rattle.controller.specs.Aims.{AimsLead}
use Rattle.controller.specs.Turns.{IsTurn, IsFirstReached, IsLater}
use Rattle.controller.specs.Objects.{AreSound}
use Rattle.controller.proofs.Chosen.{Reaches, reaches}
use Rattle.controller.proofs.Sounding.{first_high, goal_leads, goal_parts, goal_high}

-- what the first turn remembers, and its output
pub record IsFirstTurn (g : GameData) (b : Before) (m : Memory) (y : Assignment) (next : Memory) (result : ℕ) (out : Assignment) : Type 0 where
  pub goal : 0 ≡ next.goal
  pub rank : suc result ≡ next.rank
  pub output : out ≡ y
  pub waiting : false ≡ waits g b m next.rank

module _ {G R M : Type 0} where
  pub first_turn : (k : Kept R M) (layers : List (Vec (SysLayer G R M) Global)) (first : List (Aim G R M)) (goals : List (Vec (Aim G R M) Global)) (holds : List R) (z : StateSet) (l : LayerSets) → AreSound k layers first goals holds z l →
      (b : Before) (m : Memory) (x y : Assignment) (next : Memory) → IsTurn k.game l b m x y next → next.rank ≤ slice_index (ranks_of layers) next.goal → is_some b ≡ false → (values : List Value) → listed_before b ≡ values → (result : ℕ) (out : Assignment) →
      ((when : When) (y : ℕ → StateSet) (x' : ℕ → ℕ → StateSet) (b : Before) (r : ℕ) (reply : Assignment) →
      AimsLead k when first y x' → AreBefore k.game when b values → IsFirstReached k.game when y b x r reply → r < length first → (result ≡ r) × (out ≡ reply)) →
      IsFirstTurn k.game b m y next result out
  first_turn k layers first goals holds z l sound (Some s) m x y next turn high fresh values lists result out call = absurd (false≢true (sym fresh))
  first_turn k layers first goals holds z l sound None m x y next turn high fresh values lists result out call =
      let there : Reaches k.game First l None m x y next = reaches k.game First l None m x y next turn refl in
      let goal_is : next.goal ≡ 0 = turn.chosen.goal in
      let bound : slice_index (ranks_of layers) next.goal ≡ length first = ap (slice_index (ranks_of layers)) goal_is ∙ first_high first layers sound.first_alike in
      let called =
      call First (λ r. l.y next.goal (suc r)) (λ r. l.x next.goal (suc r)) None there.rank there.reply
      (subst (λ j. AimsLead k First first (λ r. l.y j (suc r)) (λ r. l.x j (suc r))) (sym goal_is) sound.first)
      (record { listed = lists; time = refl }) there.first (omega (arith, there.is, high, bound)) in
      record {
        goal = sym goal_is;
        rank = ap suc called.0 ∙ sym there.is;
        output = called.1 ∙ there.chosen refl;
        waiting = refl;
      }

  -- the moves into the layers of the goal aimed at serve a later turn
  pub later_turn : (k : Kept R M) (layers : List (Vec (SysLayer G R M) Global)) (first : List (Aim G R M)) (goals : List (Vec (Aim G R M) Global)) (holds : List R) (z : StateSet) (l : LayerSets) → AreSound k layers first goals holds z l →
      (s : State) (m : Memory) (x y : Assignment) (next : Memory) → IsTurn k.game l (Some s) m x y next → next.rank ≤ slice_index (ranks_of layers) next.goal → (values : List Value) → listed s ≡ values →
      (goal : ℕ) (stayed : Bool) → goal ≡ goal_aimed k.game (Some s) m → stayed ≡ goal_stays k.game (Some s) m →
      (aims : List (Aim G R M)) → option_map (λ (v : Vec (Aim G R M) Global). v.items) (slice_get goals goal) ≡ Some aims → (rank index : ℕ) → m.rank ≡ rank → m.index ≡ index →
      IsLater k aims values rank index stayed x l s m y next
  later_turn k layers first goals holds z l sound s m x y next turn high values lists goal stayed aims_at stays_as aims are rank index rank_is index_is =
      let goal_is : goal ≡ next.goal = aims_at ∙ sym turn.chosen.goal in
      let bound : slice_index (ranks_of layers) next.goal ≡ length aims = ap (slice_index (ranks_of layers)) (sym goal_is) ∙ goal_high goals layers sound.alike goal aims are in
      record {
        turn = turn;
        serves = record {
          lead = subst (λ j. AimsLead k Later aims (λ r. l.y j (suc r)) (λ r. l.x j (suc r))) goal_is (goal_leads k goals (λ j r. l.y j (suc r)) (λ j r. l.x j (suc r)) sound.goals goal aims are);
          high = omega (arith, high, bound);
        };
        parts = goal_parts (length (assumption_sets k.game)) goals sound.parts goal aims are;
        listed = lists;
        rank = rank_is;
        index = index_is;
        stays = stays_as;
      }

  -- the first goal has as many layers as there are first moves
  pub first_bound : (k : Kept R M) (layers : List (Vec (SysLayer G R M) Global)) (first : List (Aim G R M)) (goals : List (Vec (Aim G R M) Global)) (holds : List R) (z : StateSet) (l : LayerSets) → AreSound k layers first goals holds z l →
      (goal : ℕ) → goal ≡ 0 → slice_index (ranks_of layers) goal ≡ length first
  first_bound k layers first goals holds z l sound goal is = ap (slice_index (ranks_of layers)) is ∙ first_high first layers sound.first_alike
