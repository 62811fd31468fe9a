-- Bodies that are being put in, and what expressions in them stand for.
use Rattle.std.specs.Prelude.{◌≡◌, ℕ, ◌<◌, List, [], ◌∷◌, ◌++◌, Option, Some, None, length, map, get_or, slice_get}
use Rattle.spectra_resolved.specs.declared.spot.Spot.{Spot}
use Rattle.spectra_resolved.specs.declared.spot.Mark.{Mark}
use Rattle.spectra_resolved.specs.declared.tree.Leaf.{Leaf}
use Rattle.spectra_resolved.specs.declared.tree.Hole.{Hole}
use Rattle.spectra_resolved.specs.Resolved.{ResolvedTree, ResolvedTrees, Form}
use Rattle.spectra_resolved.specs.Chained.{LinkData}
use Rattle.spectra_resolved.specs.Views.{resolved_data}
use Rattle.spectra_elaboration.specs.declared.frames.Frame.{Frame}
use Rattle.spectra_elaboration.specs.Putting.{Bodies, Put, put_deep, leaf_put, filled, form_filled, each_filled}
use Rattle.spectra_copies.specs.Links.{placed_link}

-- what an expression in a body is put in by: how deep other bodies may stand in it, the name in the line that brings the body,
-- and its arguments
pub record Around : Type 0 where
  pub deep : ℕ
  pub brought : Option Spot
  pub arguments : List ResolvedTree

abbrev pub nothing_around : Around
nothing_around = record { deep = 0; brought = None; arguments = [] }

abbrev pub put_around : Bodies → Around → Put
put_around b w = put_deep w.deep b

abbrev pub filled_in : Bodies → Around → ResolvedTree → ResolvedTree
filled_in b w t = filled (put_around b w) w.brought w.arguments t

-- what a frame stands for, by what those before it stand for: its arguments stand in one of these
abbrev pub frame_around : Bodies → (before : List Around) → Frame → Around
frame_around b before f =
    record { deep = f.deep; brought = f.brought; arguments = map (λ t. filled_in b (get_or before f.outer nothing_around) (resolved_data t)) f.arguments.now }

abbrev pub arounds_behind : Bodies → (before : List Around) → List Frame → List Around
arounds_behind b before [] = before
arounds_behind b before (f ∷ fs) = arounds_behind b (before ++ frame_around b before f ∷ []) fs

unfoldable pub around_at : Bodies → List Frame → ℕ → Around
around_at b fs i = get_or (arounds_behind b [] fs) i nothing_around

-- an expression in a frame, by its number
abbrev pub filled_at : Bodies → List Frame → ℕ → ResolvedTree → ResolvedTree
filled_at b fs i t = filled_in b (around_at b fs i) t

abbrev pub form_at : Bodies → List Frame → ℕ → (first : Spot) → (at : Mark) → Form → ResolvedTree
form_at b fs i = let w = around_at b fs i in form_filled (put_around b w) w.brought w.arguments

abbrev pub leaf_in_frame : Bodies → List Frame → ℕ → (first : Spot) → (at : Mark) → Leaf → ResolvedTree
leaf_in_frame b fs i = let w = around_at b fs i in leaf_put (put_around b w) w.arguments

abbrev pub each_at : Bodies → List Frame → ℕ → ResolvedTrees → ResolvedTrees
each_at b fs i = let w = around_at b fs i in each_filled (put_around b w) w.brought w.arguments

abbrev pub link_at : Bodies → List Frame → ℕ → LinkData → LinkData
link_at b fs i l = placed_link (around_at b fs i).brought l (filled_at b fs i l.second)

-- the use of a definition in a frame, with arguments that stand there
abbrev pub used_at : Bodies → List Frame → ℕ → Hole → ℕ → Spot → List ResolvedTree → ResolvedTree
used_at b fs i hole k at ts = put_around b (around_at b fs i) hole k at (map (filled_at b fs i) ts)

-- arguments stand in frames before that of their body
abbrev pub AreFrames : List Frame → Type 0
AreFrames fs = (i : ℕ) (f : Frame) → slice_get fs i ≡ Some f → 0 < length f.arguments.now → f.outer < i

-- some frames more
abbrev pub Grows : List Frame → List Frame → Type 0
Grows old new = (more : List Frame) × (new ≡ old ++ more)
