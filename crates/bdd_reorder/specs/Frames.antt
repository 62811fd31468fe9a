-- Parts that are being copied, the first one first. No public clause cites this.
use Rattle.std.specs.Prelude.{◌≡◌, ◌<◌, ◌+◌, ◌*◌, ℕ, List, [], ◌∷◌, Option, Some, None, MatchOption}
use Rattle.spec_model.specs.Diagrams.{Diagram, branch, value, shifted, IsPartOf, IsReduced}
use Rattle.node_table.specs.Table.{Table, diagram_at}
use Rattle.bdd_ops.specs.declared.split.Split.{Split}
use Rattle.bdd_ops.specs.Contents.{Contents, function_at}
use Rattle.bdd_reorder.specs.declared.frames.Frame.{Frame}
use Rattle.bdd_reorder.specs.Keeping.{one_at}
use Rattle.bdd_reorder.specs.Copying.{size_of}

-- ---- what frames keep

-- how often a split keeps the root
abbrev pub both_at : ℕ → Split → ℕ
both_at n split = one_at n split.low + one_at n split.high

-- how often the copy is the root
abbrev pub low_at : ℕ → Option ℕ → ℕ
low_at n None = 0
low_at n (Some root) = one_at n root

-- how often the frames' splits keep the root
abbrev pub splits_at : ℕ → List Frame → ℕ
splits_at n [] = 0
splits_at n (f ∷ fs) = both_at n f.split + splits_at n fs

-- how often the frames' copies are the root
abbrev pub lows_at : ℕ → List Frame → ℕ
lows_at n [] = 0
lows_at n (f ∷ fs) = low_at n f.low_copy + lows_at n fs

-- ---- what frames wait for

-- the low part, and the high part once there is a copy of the low one
abbrev pub waited_of : Split → Option ℕ → ℕ
waited_of split None = split.low
waited_of split (Some root) = split.high

abbrev pub waited_by : Frame → ℕ
waited_by f = waited_of f.split f.low_copy

-- what the last frame waits for, and the whole where there is none
abbrev pub awaited : Table → Diagram → List Frame → Diagram
awaited t whole [] = whole
awaited t whole (f ∷ fs) = awaited t (diagram_at t (waited_by f)) fs

-- the first frame is of the whole, and each other of what the one before it waits for
abbrev pub AreChained : Table → Diagram → List Frame → Type 0
AreChained t whole [] = Unit {0}
AreChained t whole (f ∷ fs) = (diagram_at t f.number ≡ whole) × AreChained t (diagram_at t (waited_by f)) fs

-- the frame is of a branch of this level and these parts
pub record IsSplitInto (t : Table) (n : ℕ) (split : Split) : Type 0 where
  pub diagram : diagram_at t n ≡ branch split.level (diagram_at t split.low) (diagram_at t split.high)
  pub below : split.level < t.levels
  pub reduced : IsReduced (diagram_at t n)

-- the frame is of a part of the whole, and its copy is one of its low part
pub record IsFrame (from : Table) (to : Contents) (levels : List ℕ) (whole : Diagram) (f : Frame) : Type 0 where
  pub split : IsSplitInto from f.number f.split
  pub part : IsPartOf (diagram_at from f.number) whole
  pub copied : MatchOption f.low_copy (Unit {0}) (λ root. function_at to root ≡ shifted levels (value (diagram_at from f.split.low)))

-- ---- how many turns are left

-- after the copy that the frame waits for, where its high part is this
abbrev pub turns_after : Diagram → Option ℕ → ℕ
turns_after high None = 3 + 4 * size_of high
turns_after high (Some root) = 1

abbrev pub turns_of : Table → Frame → ℕ
turns_of t f = turns_after (diagram_at t f.split.high) f.low_copy

abbrev pub all_turns : Table → List Frame → ℕ
all_turns t [] = 0
all_turns t (f ∷ fs) = turns_of t f + all_turns t fs
