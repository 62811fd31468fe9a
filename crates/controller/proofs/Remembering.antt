-- Replies that are remembered: what they tell, and that they stay.
use Rattle.std.proofs.Common.{◌≡◌, ℕ, ◌⊎◌, inl, inr, sym, ◌∙◌, ap, ap₂, subst, refl, Bool, true, false, List, [], length, if◌then◌else◌, find, Some, None, Option, unwrap_or}
use Rattle.std.proofs.lemmas.Bool.{cases_Bool}
use Rattle.spec_model.specs.declared.value.Value.{Value}
use Rattle.spec_model.specs.Values.{Assignment}
use Rattle.spec_model.specs.Rules.{Run}
use Rattle.spec_model.specs.Moves.{is_env, domains_of}
use Rattle.spec_model.specs.Games.{GameData, State, listed, outputs_of}
use Rattle.spec_model.specs.Steps.{Before, is_state, is_input, is_output, reached}
use Rattle.spec_model.specs.Sets.{StateSet, output_into}
use Rattle.regions.specs.Kept.{Kept}
use Rattle.regions.specs.Rules.{input_count, output_count}
use Rattle.gr1_law.specs.Layers.{LayerSets, IsLeastNumber}
use Rattle.gr1_law.specs.Choice.{Memory, IsChosen, can_lead, target, waits}
use Rattle.gr1_law.proofs.Solutions.{least-one}
use Rattle.strategy_parts.specs.Positions.{values_at}
use Rattle.strategy_parts.specs.Counts.{value_count}
use Rattle.strategy_parts.proofs.Placing.{length_fits}
use Rattle.strategy_parts.proofs.Splitting.{listed_once}
use Rattle.controller.specs.declared.remembered.Remembered.{Remembered}
use Rattle.controller.specs.declared.replies.Replies.{Replies}
use Rattle.controller.specs.declared.controller.Controller.{Controller}
use Rattle.controller.specs.Places.{IsAt}
use Rattle.controller.specs.Turns.{IsTurn}
use Rattle.controller.specs.Replies.{HasReply, HasRoom, AddsReply, IsToldTurn, Tells, AreRepliesOf, HasRoomFor}
use Rattle.controller.specs.Objects.{StandsFor, game_of}

memory_is : (a b : Memory) → a.goal ≡ b.goal → a.rank ≡ b.rank → a.index ≡ b.index → a ≡ b
memory_is a b goal rank index i = record { goal = goal i; rank = rank i; index = index i }

some_once : (y z : Assignment) → Some y ≡ Some z → y ≡ z
some_once y z same = ap (λ (o : Option Assignment). unwrap_or o y) same

-- what is chosen is one output, and one thing is remembered then
pub chosen_once : (g : GameData) (l : LayerSets) (b : Before) (m : Memory) (x y z : Assignment) (n o : Memory) → IsChosen g l b m x y n → IsChosen g l b m x z o → (y ≡ z) × (n ≡ o)
chosen_once g l b m x y z n o one two =
    let goals : n.goal ≡ o.goal = one.goal ∙ sym two.goal in
    let ranks : n.rank ≡ o.rank = least-one _ n.rank o.rank (subst (λ (j : ℕ). IsLeastNumber (λ r. can_lead g (l.y j r) b x ≡ true) n.rank) goals one.rank) two.rank in
    let outputs : y ≡ z = some_once y z (sym one.output ∙ (ap₂ (λ (j r : ℕ). find (output_into g (target g l b m j r) b x) (outputs_of g)) goals ranks ∙ two.output)) in
    let indexes : n.index ≡ o.index = elim (cases_Bool (waits g b m n.rank)) [
      | inl stays ↦ one.kept stays ∙ sym (two.kept (ap (waits g b m) (sym ranks) ∙ stays))
      | inr goes ↦
          let first : IsLeastNumber (λ i. l.x o.goal o.rank i (reached g b x z) ≡ true) n.index = rw (← goals, ← ranks, ← outputs) (one.index goes) in
          least-one _ n.index o.index first (two.index (ap (waits g b m) (sym ranks) ∙ goes))
    ] in
    (outputs, memory_is n o goals ranks indexes)

-- so what was chosen once tells of each turn there
pub chosen_tells : (g : GameData) (l : LayerSets) (s : State) (before after : Memory) (x y : Assignment) → is_state g s ≡ true → IsChosen g l (Some s) before x y after → Tells g l before after (listed s) x y
chosen_tells g l s before after x y inside chosen t same z next turn =
    let is : t ≡ s = listed_once g t s turn.before inside same in
    chosen_once g l (Some s) before x y z after next chosen (subst (λ (u : State). IsChosen g l (Some u) before x z next) is turn.chosen)

-- replies tell of turns where those places are
pub replies_moved : (g : GameData) (l : LayerSets) (old new : Replies) → new.replies ≡ old.replies → AreRepliesOf g l old → AreRepliesOf g l new
replies_moved g l old new same are = λ before after state input output has. are before after state input output (rw (← same) has)

-- and where one came that does
pub replies_added : (g : GameData) (l : LayerSets) (old new : Replies) (before after : Memory) (state input output : List Value) → AddsReply old new before after state input output → AreRepliesOf g l old → Tells g l before after state input output → AreRepliesOf g l new
replies_added g l old new before after state input output adds are tells = λ b a s i o has.
    elim (adds b a s i o has) [
      | inl had ↦ are b a s i o had
      | inr same ↦ rw (same.0, same.1, same.2, same.3, same.4) tells
    ]

-- ---- room

pub values_counted : (g : GameData) (p : Remembered) (b : Before) (m : Memory) → IsAt g p b m → p.position.started ≡ true → length (values_at p.position) ≡ value_count g
values_counted g p b m at started = ap (λ (c : Bool). length (if c then p.position.state.items else [])) started ∙ at.position.room

pub input_counted : (g : GameData) (x : Assignment) → is_input g x ≡ true → length x ≡ input_count g
input_counted g x inside = length_fits (domains_of is_env g.variables) x inside

pub output_counted : (g : GameData) (y : Assignment) → is_output g y ≡ true → length y ≡ output_count g
output_counted g y inside = length_fits _ y inside

-- ---- the object with other replies

pub with_replies : {G R M : Type 0} (kept : G → Kept R M) (c : Controller G R M) (z : StateSet) (l : LayerSets) (h : Run) (b : Before) (m : Memory) (rs : Replies) → StandsFor kept c z l h b m → AreRepliesOf (game_of kept c) l rs → HasRoomFor (game_of kept c) rs → StandsFor kept (record c { replies = rs }) z l h b m
with_replies kept c z l h b m rs st are room =
    record { sound = st.sound; play = st.play; whole = st.whole; place = st.place; owned = st.owned; few = st.few; judge = st.judge; replies = are; room = room }
