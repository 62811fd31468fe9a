-- Questions that wait for the answers of their parts.
use Rattle.std.specs.Prelude.{◌≡◌, ◌+◌, ◌-◌, ℕ, zero, suc, List, [], ◌∷◌, ◌++◌}
use Rattle.bdd_store.specs.declared.edge.Edge.{Edge}
use Rattle.bdd_ops.specs.declared.frames.Frame.{Frame}
use Rattle.bdd_ops.specs.declared.frames.Waits.{Waits}
use Rattle.bdd_ops.specs.declared.frames.Waits.TheVariants.{Low, High}
use Rattle.bdd_ops.specs.declared.frames.Turn.{Turn}
use Rattle.bdd_ops.specs.declared.frames.Turn.TheVariants.{Ask, Given}

-- the frames lead from the whole question to a part of it: each waits for a part of its own, which the next one asks
abbrev pub Leads : {Q : Type 0} → (Frame Q → Q → Type 0) → Q → List (Frame Q) → Q → Type 0
Leads Awaits whole [] part = part ≡ whole
Leads {Q} Awaits whole (frame ∷ frames) part = (next : Q) × (frame.asked ≡ whole) × Awaits frame next × Leads Awaits next frames part

-- the frame is the last
pub record IsTop {X : Type 0} (frames : List X) (frame : X) : Type 0 where
  pub rest : List X
  pub is : frames ≡ rest ++ frame ∷ []

-- the last is no more there
abbrev pub DropsTop : {X : Type 0} → List X → List X → Type 0
DropsTop {X} old new = (rest : List X) (frame : X) → old ≡ rest ++ frame ∷ [] → new ≡ rest

-- the frame on top waits for its high part then, and has this answer of its low part
abbrev pub AwaitsHighFrom : {Q : Type 0} → Frame Q → Edge → List (Frame Q) → List (Frame Q) → Type 0
AwaitsHighFrom {Q} frame low old new = (rest : List (Frame Q)) → old ≡ rest ++ frame ∷ [] → new ≡ rest ++ record { asked = frame.asked; level = frame.level; waits = High low } ∷ []

-- ---- how many turns are left at most

-- the turns of a question over so many levels
abbrev pub turns : ℕ → ℕ
turns zero = 1
turns (suc n) = 3 + (turns n + turns n)

-- the turns of what waits, where its parts are over so many levels
abbrev pub turns_waiting : {Q : Type 0} → ℕ → Waits Q → ℕ
turns_waiting n (Low high) = 2 + turns n
turns_waiting n (High low) = 1

abbrev pub turns_of_frames : {Q : Type 0} → ℕ → List (Frame Q) → ℕ
turns_of_frames levels [] = 0
turns_of_frames levels (frame ∷ frames) = turns_waiting (levels - (frame.level + 1)) frame.waits + turns_of_frames levels frames

-- the turns of a question, by the first level that it looks at
abbrev pub turns_next : {Q : Type 0} → ℕ → (Q → ℕ) → Turn Q → ℕ
turns_next levels first (Ask asked) = turns (levels - first asked)
turns_next levels first (Given edge) = 0

-- ---- what the stack holds

-- the answer that is kept while a frame waits
abbrev pub answer_of : {Q : Type 0} → Waits Q → List ℕ
answer_of (Low high) = []
answer_of (High low) = low.0 ∷ []

-- the answers of low parts that frames keep, in the order of the frames
abbrev pub answers_of : {Q : Type 0} → List (Frame Q) → List ℕ
answers_of [] = []
answers_of (frame ∷ frames) = answer_of frame.waits ++ answers_of frames

-- the stack ends in the answers that frames keep, and the rest stays
abbrev pub MovesStack : {Q : Type 0} → List (Frame Q) → List (Frame Q) → List ℕ → List ℕ → Type 0
MovesStack before after old new = (base : List ℕ) → old ≡ base ++ answers_of before → new ≡ base ++ answers_of after

-- something may have come on top of the stack
abbrev pub IsOver : List ℕ → List ℕ → Type 0
IsOver old new = (more : List ℕ) × (new ≡ old ++ more)
