-- The moves that serve a turn, and the input that they give.
use Rattle.std.proofs.Common.{◌≡◌, ℕ, zero, suc, ◌+◌, ◌*◌, ◌≤◌, ◌<◌, true, false, List, Vec, length, get_or, slice_get, Some, None, is_some, refl, sym, ap, ◌∙◌, subst, arith}
use Rattle.std.proofs.lemmas.Bool.{false≢true}
use Rattle.std.proofs.lemmas.Option.{get_or_from_slice_get}
use Rattle.std.specs.declared.alloc.Global.{Global}
use Rattle.spec_model.specs.declared.value.Value.{Value}
use Rattle.spec_model.specs.Values.{Assignment}
use Rattle.spec_model.specs.Games.{GameData}
use Rattle.spec_model.specs.Steps.{Before}
use Rattle.spec_model.specs.Sets.{StateSet}
use Rattle.regions.specs.declared.types.When.{When}
use Rattle.regions.specs.declared.types.When.TheVariants.{First, Later}
use Rattle.regions.specs.Kept.{Kept, Move, Inputs, IsHeldAs, Stays, IsSameGame}
use Rattle.regions.specs.Rules.{AreBefore, is_time}
use Rattle.gr1_law.specs.Layers.{goal_sets, assumption_sets}
use Rattle.gr1_law.specs.EnvLayers.{EnvLayerSets}
use Rattle.gr1_law.specs.Counter.{CounterMemory}
use Rattle.strategy_parts.specs.Positions.{IsWholeBefore, values_at}
use Rattle.counterstrategy.specs.declared.kit.Kit.{Kit}
use Rattle.counterstrategy.specs.declared.remembered.Remembered.{Remembered}
use Rattle.counterstrategy.specs.Forced.{IsFirstForced, MovesLead}
use Rattle.counterstrategy.specs.Turns.{ServesTurn}
use Rattle.counterstrategy.proofs.Moving.{moves_stay, move_at}

-- ---- all but the first set

below_some : (r : ℕ) → 1 ≤ r → (q : ℕ) × (r ≡ suc q)
below_some zero some = absurd (omega arith)
below_some (suc q) some = (q, refl)

later_forced : (g : GameData) (when : When) (sets : ℕ → StateSet) (b : Before) (q : ℕ) (x : Assignment) → IsFirstForced g when sets b (suc q) x → IsFirstForced g when (λ r. sets (suc r)) b q x
later_forced g when sets b q x is = record { none_before = λ i less. is.none_before (suc i) (omega (arith, less)); here = is.here }

module _ {R M : Type 0} (k k1 : Kept R M) (stays : Stays k k1) (same : IsSameGame k k1) (moves : List M) (values : List Value) (input : Assignment) (number : ℕ) where
  -- where none forces the state into the first set, a call finds the input for the others
  pub in_others : ((when : When) (sets : ℕ → StateSet) (b : Before) (r : ℕ) (x : Assignment) → MovesLead k1 when moves sets → AreBefore k1.game when b values → IsFirstForced k1.game when sets b r x → r < length moves → (input ≡ x) × (number ≡ suc r)) →
      (when : When) (sets : ℕ → StateSet) (b : Before) (r : ℕ) (x : Assignment) → MovesLead k when moves (λ r. sets (suc r)) → AreBefore k.game when b values → IsFirstForced k.game when sets b r x → 1 ≤ r → r ≤ length moves → (input ≡ x) × (number ≡ r)
  in_others call when sets b r x lead before forced some few =
      let q = below_some r some in
      let here : IsFirstForced k.game when sets b (suc q.0) x = subst (λ n. IsFirstForced k.game when sets b n x) q.1 forced in
      let found = call when (λ r. sets (suc r)) b q.0 x (moves_stay k k1 when moves (λ r. sets (suc r)) stays lead) (subst (λ (g : GameData). AreBefore g when b values) (sym same.game) before)
      (subst (λ (g : GameData). IsFirstForced g when (λ r. sets (suc r)) b q.0 x) (sym same.game) (later_forced k.game when sets b q.0 x here)) (let e = q.1 in omega (arith, few, e)) in
      (found.0, found.1 ∙ sym q.1)

-- ---- the moves after a denial

pub record ServesHold {G R M : Type 0} (k : Kept R M) (kit : Kit G R M) (p : Remembered) (e : EnvLayerSets) (m : CounterMemory) (r : ℕ) : Type 0 where
  pub low : ℕ
  pub layer : p.layer ≡ suc low
  pub chain : Vec M Global
  pub there : slice_get kit.delays.items ((low * length kit.goals.items + p.goal) * length kit.asms.items + p.index) ≡ Some chain
  pub lead : MovesLead k Later chain.items (λ r. e.x m.layer m.goal m.index (suc r))
  pub few : r ≤ length chain.items
  pub some_asm : 0 < length kit.asms.items

module _ {G R M : Type 0} (k : Kept R M) (kit : Kit G R M) (p : Remembered) (e : EnvLayerSets) (n : ℕ) (counts : ℕ → ℕ → List ℕ) (b : Before) (m : CounterMemory) (r : ℕ) (x : Assignment) (serves : ServesTurn k kit p e n counts b m r x) where
  pub denies : p.denying ≡ true → m.denying ≡ true
  denies on = ap (λ (q : CounterMemory). q.denying) (sym serves.here.memory) ∙ on

  pub denies_not : p.denying ≡ false → m.denying ≡ false
  denies_not off = ap (λ (q : CounterMemory). q.denying) (sym serves.here.memory) ∙ off

  pub serves_hold : p.denying ≡ true → ServesHold k kit p e m r
  serves_hold on =
      let hold = serves.turn.hold (denies on) in
      let chain = serves.chains hold.low m.goal m.index hold.layer_in hold.goal_in hold.index_in in
      let goal_is : p.goal ≡ m.goal = ap (λ (q : CounterMemory). q.goal) serves.here.memory in
      let index_is : p.index ≡ m.index = ap (λ (q : CounterMemory). q.index) serves.here.memory in
      let number : (hold.low * length kit.goals.items + p.goal) * length kit.asms.items + p.index ≡ (hold.low * length (goal_sets k.game) + m.goal) * length (assumption_sets k.game) + m.index =
      ap (λ c. (hold.low * c + p.goal) * length kit.asms.items + p.index) serves.goals
      ∙ (ap (λ c. (hold.low * length (goal_sets k.game) + c) * length kit.asms.items + p.index) goal_is
      ∙ (ap (λ c. (hold.low * length (goal_sets k.game) + m.goal) * c + p.index) serves.asms
      ∙ ap (λ c. (hold.low * length (goal_sets k.game) + m.goal) * length (assumption_sets k.game) + c) index_is)) in
      record {
        low = hold.low;
        layer = ap (λ (q : CounterMemory). q.layer) serves.here.memory ∙ hold.layer;
        chain = chain.0;
        there = ap (λ c. slice_get kit.delays.items c) number ∙ chain.1;
        lead = subst (λ a. MovesLead k Later chain.0.items (λ r. e.x a m.goal m.index (suc r))) (sym hold.layer) chain.2.lead;
        few = (let count = chain.2.counted in let most = hold.few in omega (arith, count, most));
        some_asm = (let counted = serves.asms in let inner = hold.index_in in omega (arith, counted, inner));
      }

  -- ---- where the play is

  pub before_later : p.position.started ≡ true → (values : List Value) → values ≡ values_at p.position → AreBefore k.game Later b values
  before_later started values is = record { listed = serves.here.position.listed ∙ sym is; time = some_time b serves.turn.before (sym serves.here.position.started ∙ started) }
    where
      some_time : (b : Before) → IsWholeBefore k.game b → is_some b ≡ true → is_time k.game Later b ≡ true
      some_time None whole e = absurd (false≢true e)
      some_time (Some s) whole e = whole

  pub before_first : p.position.started ≡ false → (values : List Value) → values ≡ values_at p.position → AreBefore k.game First b values
  before_first fresh values is = record { listed = serves.here.position.listed ∙ sym is; time = no_time b (sym serves.here.position.started ∙ fresh) }
    where
      no_time : (b : Before) → is_some b ≡ false → is_time k.game First b ≡ true
      no_time None e = refl
      no_time (Some s) e = absurd (false≢true (sym e))

  pub after_denial : p.denying ≡ true → (values : List Value) → values ≡ values_at p.position → AreBefore k.game Later b values
  after_denial on values is = before_later (serves.here.position.started ∙ serves.turn.later (denies on)) values is

  -- the first later move leads into no states, as into a hold's first iterate
  pub none_into : p.denying ≡ true → (q : M) → q ≡ get_or kit.later.items 0 q → IsHeldAs k (Move q) (Inputs Later (e.x m.layer m.goal m.index 0))
  none_into on q is =
      subst (λ t. IsHeldAs k (Move q) (Inputs Later t)) (sym (serves.turn.none (denies on)))
      (move_at k Later kit.later.items e.z serves.later 0 (let many = serves.later_counted in omega (arith, many)) q is)

module _ {G R M : Type 0} (k : Kept R M) (kit : Kit G R M) (p : Remembered) (e : EnvLayerSets) (m : CounterMemory) (r : ℕ) (hold : ServesHold k kit p e m r) where
  pub chain_found : (number : ℕ) → number ≡ (hold.low * length kit.goals.items + p.goal) * length kit.asms.items + p.index → (c : Vec M Global) → c ≡ get_or kit.delays.items number c → c ≡ hold.chain
  chain_found number is c c_is = c_is ∙ get_or_from_slice_get kit.delays.items number hold.chain c (ap (λ n. slice_get kit.delays.items n) is ∙ hold.there)
