-- What a reply tells of the new position, and what is remembered of it.
use Rattle.std.proofs.Common.{◌≡◌, ℕ, suc, ◌<◌, Bool, true, false, List, length, get_or, slice_get, Some, sym, ap, ◌∙◌, subst, arith, IsTrue}
use Rattle.std.proofs.lemmas.Option.{slice_get-get_or}
use Rattle.spec_model.specs.declared.value.Value.{Value}
use Rattle.spec_model.specs.Games.{GameData, State, listed}
use Rattle.spec_model.specs.Steps.{is_state}
use Rattle.spec_model.specs.Sets.{StateSet}
use Rattle.regions.specs.Kept.{Kept, Stays, IsSameGame}
use Rattle.gr1_law.specs.Layers.{IsLeastNumber}
use Rattle.gr1_law.specs.EnvLayers.{EnvLayerSets}
use Rattle.gr1_law.specs.Counter.{CounterMemory}
use Rattle.gr1_env.specs.declared.layers.EnvGoal.{EnvGoal}
use Rattle.gr1_env.specs.declared.layers.EnvLayer.{EnvLayer}
use Rattle.strategy_parts.specs.Owned.{RegionsAre}
use Rattle.strategy_parts.specs.Positions.{values_at}
use Rattle.strategy_parts.proofs.Holdings.{regions_stay}
use Rattle.counterstrategy.specs.declared.kit.Kit.{Kit}
use Rattle.counterstrategy.specs.declared.remembered.Remembered.{Remembered}
use Rattle.counterstrategy.specs.Settled.{tops, holds_in}
use Rattle.counterstrategy.specs.Turns.{ServesReply}

-- what is remembered is known by its parts
pub remembered : (n : CounterMemory) (denying : Bool) (layer goal before index : ℕ) → denying ≡ n.denying → layer ≡ n.layer → goal ≡ n.goal → before ≡ n.before → index ≡ n.index →
    record { denying = denying; layer = layer; goal = goal; before = before; index = index } ≡ n
remembered n denying layer goal before index a b c d e =
    ap (λ (v : Bool). memory v layer goal before index) a ∙ (ap (λ v. memory n.denying v goal before index) b ∙ (ap (λ v. memory n.denying n.layer v before index) c ∙ (ap (λ v. memory n.denying n.layer n.goal v index) d ∙ ap (λ v. memory n.denying n.layer n.goal n.before v) e)))
  where
    memory : Bool → ℕ → ℕ → ℕ → ℕ → CounterMemory
    memory denying layer goal before index = record { denying = denying; layer = layer; goal = goal; before = before; index = index }

module _ {G R M : Type 0} (k : Kept R M) (ls : List (EnvLayer G R M)) (kit : Kit G R M) (p : Remembered) (e : EnvLayerSets) (m : CounterMemory) (s : State) (next : CounterMemory) (serves : ServesReply k ls kit p e m s next) where
  pub kept_on : p.denying ≡ true → (p.layer ≡ next.layer) × (p.goal ≡ next.goal) × (p.index ≡ next.before)
  kept_on on =
      let same = serves.reply.noted.stays (ap (λ (q : CounterMemory). q.denying) (sym serves.here.memory) ∙ on) in (
        ap (λ (q : CounterMemory). q.layer) serves.here.memory ∙ sym same.0,
        ap (λ (q : CounterMemory). q.goal) serves.here.memory ∙ sym same.1,
        ap (λ (q : CounterMemory). q.index) serves.here.memory ∙ sym same.2,
      )

  module _ (off : p.denying ≡ false) where
    anew : IsLeastNumber (λ a. IsTrue (e.z a s)) next.layer × IsLeastNumber (λ j. IsTrue (e.y next.layer j s)) next.goal × (next.before ≡ 0)
    anew = serves.reply.noted.anew (ap (λ (q : CounterMemory). q.denying) (sym serves.here.memory) ∙ off)

    pub least_low : IsLeastNumber (λ n. IsTrue (e.z (suc n) s)) serves.reply.low
    least_low =
        let layer = anew.0 in
        let is = serves.reply.layer in
        record { here = subst (λ a. IsTrue (e.z a s)) is layer.here; none_before = λ i less. layer.none_before (suc i) (omega (arith, less, is)) }

    pub least_hold : IsLeastNumber (λ j. IsTrue (e.y (suc serves.reply.low) j s)) next.goal
    least_hold = subst (λ a. IsLeastNumber (λ j. IsTrue (e.y a j s)) next.goal) serves.reply.layer anew.1

    pub first_asm : 0 ≡ next.before
    first_asm = sym anew.2

  pub holds_there : (l : EnvLayer G R M) → slice_get ls serves.reply.low ≡ Some l → RegionsAre k (holds_in l.goals.items) (e.y (suc serves.reply.low)) × (next.goal < length l.goals.items)
  holds_there l is = (serves.layers.holds serves.reply.low l is, (let counted = serves.layers.counted serves.reply.low l is in omega (arith, counted, serves.reply.goal_in)))

  pub lists_there : (values : List Value) → values ≡ values_at p.position → listed s ≡ values
  lists_there values is = serves.here.position.listed ∙ sym is

  -- a search among the layers finds the one that is remembered
  pub low_is : p.denying ≡ false → (values : List Value) → values ≡ values_at p.position → (found : ℕ) →
      ((sets : ℕ → StateSet) (s : State) (a : ℕ) → RegionsAre k (tops ls) sets → is_state k.game s ≡ true → listed s ≡ values → IsLeastNumber (λ n. IsTrue (sets n s)) a → a < length ls → found ≡ a) → found ≡ serves.reply.low
  low_is off values is found call = call (λ a. e.z (suc a)) s serves.reply.low serves.layers.layers serves.reply.state (lists_there values is) (least_low off) serves.reply.layer_in

-- the layer with a number is found
pub layer_found : {G R M : Type 0} (ls : List (EnvLayer G R M)) (found low : ℕ) → found ≡ low → low < length ls → (d : EnvLayer G R M) → slice_get ls low ≡ Some (get_or ls found d)
layer_found ls found low is below d = slice_get-get_or ls low d below ∙ ap (λ n. Some (get_or ls n d)) (sym is)

module _ {G R M : Type 0} (k k1 : Kept R M) (stays : Stays k k1) (same : IsSameGame k k1) (ls : List (EnvLayer G R M)) (kit : Kit G R M) (p : Remembered) (e : EnvLayerSets) (m : CounterMemory) (s : State) (next : CounterMemory) (serves : ServesReply k ls kit p e m s next) where
  -- and a search among its holds finds the goal
  pub goal_is : p.denying ≡ false → (values : List Value) → values ≡ values_at p.position → (l : EnvLayer G R M) → slice_get ls serves.reply.low ≡ Some l → (goals : List (EnvGoal G R M)) → goals ≡ l.goals.items → (found : ℕ) →
      ((sets : ℕ → StateSet) (s : State) (j : ℕ) → RegionsAre k1 (holds_in goals) sets → is_state k1.game s ≡ true → listed s ≡ values → IsLeastNumber (λ n. IsTrue (sets n s)) j → j < length goals → found ≡ j) → found ≡ next.goal
  goal_is off values is l l_is goals goals_are found call =
      let sets = e.y (suc serves.reply.low) in
      let there = holds_there k ls kit p e m s next serves l l_is in
      call sets s next.goal
      (subst (λ (es : List (EnvGoal G R M)). RegionsAre k1 (holds_in es) sets) (sym goals_are) (regions_stay k k1 (holds_in l.goals.items) sets stays there.0))
      (subst (λ (g : GameData). is_state g s ≡ true) (sym same.game) serves.reply.state) (lists_there k ls kit p e m s next serves values is) (least_hold k ls kit p e m s next serves off)
      (let long = ap (λ (es : List (EnvGoal G R M)). length es) goals_are in omega (arith, there.1, long))
