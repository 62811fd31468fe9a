-- Questions of any operation that wait for the answers of their parts. No public clause cites these.
use Rattle.std.specs.Prelude.{◌≡◌, ◌<◌, ℕ, Bool, false, true, min, List, [], ◌∷◌, ◌++◌, length}
use Rattle.spec_model.specs.Diagrams.{Diagram, Function, shifted}
use Rattle.bdd_store.specs.declared.edge.Edge.{Edge}
use Rattle.bdd_store.specs.State.{IsEdge, IsHeldBy, diagram_of}
use Rattle.bdd_ops.specs.declared.frames.Choice.{Choice}
use Rattle.bdd_ops.specs.declared.frames.Frame.{Frame}
use Rattle.bdd_ops.specs.declared.frames.Pair.{Pair}
use Rattle.bdd_ops.specs.declared.frames.Waits.{Waits}
use Rattle.bdd_ops.specs.declared.frames.Waits.TheVariants.{Low, High}
use Rattle.bdd_ops.specs.declared.frames.Turn.{Turn}
use Rattle.bdd_ops.specs.declared.frames.Turn.TheVariants.{Ask, Given}
use Rattle.bdd_ops.specs.Functions.{joined, joined_over, join_of}
use Rattle.bdd_ops.specs.Contents.{Contents, function_at, list_at}
use Rattle.bdd_ops.specs.Steps.{IsSplitAt, IsChoice, HasFunction, IsShift, level_at, IsUnfinished, IsQuantifiedPart, IsRelatedPart, IsJoinOfParts, IsChoiceOfParts, IsShiftedPart}
use Rattle.bdd_ops.specs.Frames.{Leads}

-- an operation on diagrams as they are: the first level that a question looks at, which questions are live, the two parts at a level, and which nodes are answers
pub record Operation (Q : Type 0) : Type 1 where
  pub levels : ℕ
  pub first : Q → ℕ
  pub IsLive : Q → Type 0
  pub Splits : ℕ → Q → Q → Q → Type 0
  pub Answers : Q → ℕ → Type 0

-- the two parts of a live question, at its first level
pub record SplitsFirst {Q : Type 0} (op : Operation Q) (level : ℕ) (asked low high : Q) : Type 0 where
  pub below : level < op.levels
  pub is_first : level ≡ op.first asked
  pub live : op.IsLive asked
  pub splits : op.Splits level asked low high

-- the answer of the low part is known, and the high part is asked
pub record AwaitsHigh {Q : Type 0} (op : Operation Q) (level : ℕ) (asked : Q) (low : ℕ) (high : Q) : Type 0 where
  pub low_part : Q
  pub parts : SplitsFirst op level asked low_part high
  pub low_is : op.Answers low_part low

abbrev pub AwaitsPart : {Q : Type 0} → Operation Q → ℕ → Q → Waits Q → Q → Type 0
AwaitsPart op level asked (Low high) part = SplitsFirst op level asked part high
AwaitsPart op level asked (High low) part = AwaitsHigh op level asked low.0 part

-- the frame waits for the answer of this part
abbrev pub Awaits : {Q : Type 0} → Operation Q → Frame Q → Q → Type 0
Awaits op frame part = AwaitsPart op frame.level frame.asked frame.waits part

-- a frame more waits for the low part
pub record Pushes {Q : Type 0} (op : Operation Q) (asked : Q) (old new : List (Frame Q)) (low : Q) : Type 0 where
  pub level : ℕ
  pub high : Q
  pub pushed : new ≡ old ++ record { asked = asked; level = level; waits = Low high } ∷ []
  pub parts : SplitsFirst op level asked low high

-- the answer is at hand, or its low part is asked
abbrev pub Asks : {Q : Type 0} → Operation Q → Q → List (Frame Q) → List (Frame Q) → Turn Q → Type 0
Asks op asked old new (Ask low) = Pushes op asked old new low
Asks op asked old new (Given edge) = (new ≡ old) × op.Answers asked edge.0

-- both answers of the parts are known
pub record AreHalves {Q : Type 0} (op : Operation Q) (level : ℕ) (asked : Q) (low high : ℕ) : Type 0 where
  pub high_part : Q
  pub awaits : AwaitsHigh op level asked low high_part
  pub high_is : op.Answers high_part high

-- the part that the frame waits for has this answer
pub record IsAnswered {Q : Type 0} (op : Operation Q) (frame : Frame Q) (answer : ℕ) : Type 0 where
  pub part : Q
  pub awaits : Awaits op frame part
  pub answer_is : op.Answers part answer

-- the low answer waits, in the frame's place, for that of the high part
pub record PushesAnswer {Q : Type 0} (op : Operation Q) (frame : Frame Q) (old new : List (Frame Q)) (high : Q) : Type 0 where
  pub low : Edge
  pub pushed : new ≡ old ++ record { asked = frame.asked; level = frame.level; waits = High low } ∷ []
  pub waited : frame.waits ≡ Low high
  pub awaits : AwaitsHigh op frame.level frame.asked low.0 high

-- the high part is asked, or the frame's question is answered
abbrev pub Gives : {Q : Type 0} → Operation Q → Frame Q → List (Frame Q) → List (Frame Q) → Turn Q → Type 0
Gives op frame old new (Ask high) = PushesAnswer op frame old new high
Gives op frame old new (Given edge) = (new ≡ old) × op.Answers frame.asked edge.0

-- the frame was on top
abbrev pub GivesTop : {Q : Type 0} → Operation Q → Frame Q → List (Frame Q) → List (Frame Q) → Turn Q → Type 0
GivesTop {Q} op frame old new turn = (rest : List (Frame Q)) → old ≡ rest ++ frame ∷ [] → Gives op frame rest new turn

-- the frames lead from the whole question to what is asked or answered next
abbrev pub IsUnderWay : {Q : Type 0} → Operation Q → Q → List (Frame Q) → Turn Q → Type 0
IsUnderWay op whole frames (Ask asked) = op.IsLive asked × Leads (Awaits op) whole frames asked
IsUnderWay {Q} op whole frames (Given edge) = (asked : Q) × Leads (Awaits op) whole frames asked × op.Answers asked edge.0

-- ---- "all" and "some"

-- a node's function over a list
abbrev pub over_at : Bool → Contents → ℕ → ℕ → Function
over_at all c list a = joined_over (join_of all) (list_at c list) (function_at c a)

-- what quantifying a node may make
abbrev pub MayMake : Bool → Contents → ℕ → ℕ → Diagram → Type 0
MayMake all c list a = IsUnfinished (join_of all) (IsQuantifiedPart (join_of all) (list_at c list) (diagram_of c.state a))

abbrev pub quantifying : Bool → ℕ → Contents → Operation Edge
quantifying all list c = record {
  levels = c.state.table.levels;
  first = λ a. level_at c a.0;
  IsLive = λ a. IsEdge c.state a.0;
  Splits = λ level a low high. IsSplitAt c level a.0 low.0 high.0;
  Answers = λ a n. HasFunction c (over_at all c list a.0) n;
}

-- ---- "some make both true"

-- where two nodes are true
abbrev pub both_at : Contents → ℕ → ℕ → Function
both_at c a b = joined (join_of true) (function_at c a) (function_at c b)

-- where some make both true
abbrev pub related_at : Contents → ℕ → ℕ → ℕ → Function
related_at c list a b = joined_over (join_of false) (list_at c list) (both_at c a b)

-- what relating two nodes may make
abbrev pub MayRelate : Contents → ℕ → ℕ → ℕ → Diagram → Type 0
MayRelate c list a b = IsUnfinished (join_of false) (IsRelatedPart (list_at c list) (diagram_of c.state a) (diagram_of c.state b))

-- both nodes are live
pub record AreBothLive (c : Contents) (asked : Pair) : Type 0 where
  pub a_live : IsEdge c.state asked.a.0
  pub b_live : IsEdge c.state asked.b.0

-- the two parts of both
pub record SplitsBoth (c : Contents) (level : ℕ) (asked low high : Pair) : Type 0 where
  pub a_split : IsSplitAt c level asked.a.0 low.a.0 high.a.0
  pub b_split : IsSplitAt c level asked.b.0 low.b.0 high.b.0

abbrev pub relating : ℕ → Contents → Operation Pair
relating list c = record {
  levels = c.state.table.levels;
  first = λ asked. min (level_at c asked.a.0) (level_at c asked.b.0);
  IsLive = λ asked. AreBothLive c asked;
  Splits = λ level asked low high. SplitsBoth c level asked low high;
  Answers = λ asked n. HasFunction c (related_at c list asked.a.0 asked.b.0) n;
}

-- ---- `and` and `or`

-- two nodes' functions, joined
abbrev pub joined_of : Bool → Contents → ℕ → ℕ → Function
joined_of all c a b = joined (join_of all) (function_at c a) (function_at c b)

-- what joining two nodes may make
abbrev pub MayJoin : Bool → Contents → ℕ → ℕ → Diagram → Type 0
MayJoin all c a b = IsJoinOfParts (join_of all) (diagram_of c.state a) (diagram_of c.state b)

abbrev pub joining : Bool → Contents → Operation Pair
joining all c = record {
  levels = c.state.table.levels;
  first = λ asked. min (level_at c asked.a.0) (level_at c asked.b.0);
  IsLive = λ asked. AreBothLive c asked;
  Splits = λ level asked low high. SplitsBoth c level asked low high;
  Answers = λ asked n. HasFunction c (joined_of all c asked.a.0 asked.b.0) n;
}

-- ---- choices

pub record AreLive (c : Contents) (asked : Choice) : Type 0 where
  pub a_live : IsEdge c.state asked.a.0
  pub b_live : IsEdge c.state asked.b.0
  pub c_live : IsEdge c.state asked.c.0

abbrev pub first_level : Contents → Choice → ℕ
first_level c asked = min (min (level_at c asked.a.0) (level_at c asked.b.0)) (level_at c asked.c.0)

-- the node is the answer
abbrev pub Chooses : Contents → Choice → ℕ → Type 0
Chooses c asked n = IsChoice c (function_at c asked.a.0) (function_at c asked.b.0) (function_at c asked.c.0) n

-- what a choice may make
abbrev pub MayChoose : Contents → Choice → Diagram → Type 0
MayChoose c asked = IsChoiceOfParts (diagram_of c.state asked.a.0) (diagram_of c.state asked.b.0) (diagram_of c.state asked.c.0)

-- the two parts of the three
pub record SplitsChoice (c : Contents) (level : ℕ) (asked low high : Choice) : Type 0 where
  pub a_split : IsSplitAt c level asked.a.0 low.a.0 high.a.0
  pub b_split : IsSplitAt c level asked.b.0 low.b.0 high.b.0
  pub c_split : IsSplitAt c level asked.c.0 low.c.0 high.c.0

abbrev pub choosing : Contents → Operation Choice
choosing c = record {
  levels = c.state.table.levels;
  first = first_level c;
  IsLive = AreLive c;
  Splits = SplitsChoice c;
  Answers = Chooses c;
}

-- ---- moved levels

-- the list moves the levels of the edge
pub record IsMovable (s : Contents) (list : ℕ) (asked : Edge) : Type 0 where
  pub known : list < length s.lists
  pub live : IsEdge s.state asked.0
  pub rises : IsShift s.state.table.levels (list_at s list) (diagram_of s.state asked.0)

-- the node is the answer
abbrev pub Moves : Contents → ℕ → Edge → ℕ → Type 0
Moves s list asked n = HasFunction s (shifted (list_at s list) (function_at s asked.0)) n

-- what moving levels may make
abbrev pub MayMove : Contents → ℕ → ℕ → Diagram → Type 0
MayMove c list a = IsShiftedPart (list_at c list) (diagram_of c.state a)

-- the two parts of a movable edge
pub record SplitsMoved (c : Contents) (list level : ℕ) (asked low high : Edge) : Type 0 where
  pub movable : IsMovable c list asked
  pub is_split : IsSplitAt c level asked.0 low.0 high.0

abbrev pub moving : ℕ → Contents → Operation Edge
moving list c = record {
  levels = c.state.table.levels;
  first = λ a. level_at c a.0;
  IsLive = IsMovable c list;
  Splits = SplitsMoved c list;
  Answers = Moves c list;
}

-- ---- held questions

-- kept roots and these nodes hold both
pub record AreBothHeld (c : Contents) (starts : List ℕ) (asked : Pair) : Type 0 where
  pub a_held : IsHeldBy c.state starts asked.a.0
  pub b_held : IsHeldBy c.state starts asked.b.0

-- and all three
pub record AreHeld (c : Contents) (starts : List ℕ) (asked : Choice) : Type 0 where
  pub a_held : IsHeldBy c.state starts asked.a.0
  pub b_held : IsHeldBy c.state starts asked.b.0
  pub c_held : IsHeldBy c.state starts asked.c.0
