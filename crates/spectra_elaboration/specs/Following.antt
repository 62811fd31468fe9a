-- What an expression comes to when it is followed.
use Rattle.std.specs.Prelude.{◌≡◌, ◌<◌, Bool, true, false, List, Option, Some, None, length, map}
use Rattle.spectra_resolved.specs.declared.spot.Spot.{Spot}
use Rattle.spectra_resolved.specs.Resolved.{ResolvedTree, tree, Form}
use Rattle.spectra_resolved.specs.Chained.{chained}
use Rattle.spectra_resolved.specs.Views.{resolved_data, link_data, form_data}
use Rattle.spectra_elaboration.specs.declared.frames.Frame.{Frame}
use Rattle.spectra_elaboration.specs.declared.following.Front.{Front}
use Rattle.spectra_elaboration.specs.declared.following.Front.TheVariants as fronts
use Rattle.spectra_elaboration.specs.declared.following.Step.{Step}
use Rattle.spectra_elaboration.specs.declared.following.Step.TheVariants as steps
use Rattle.spectra_elaboration.specs.declared.following.Use.{Use}
use Rattle.spectra_elaboration.specs.Putting.{Bodies, put_deep}
use Rattle.spectra_elaboration.specs.Frames.{filled_at, form_at, AreFrames, Grows}

-- an operator with one operand or several, which isn't one of a row
abbrev pub is_operator : Form → Bool
is_operator (Form.LeafOf l) = false
is_operator (Form.PredicateOf k ts) = false
is_operator (Form.MisuseOf m ts) = false
is_operator (Form.Binary word a b) = false
is_operator _ = true

-- a quantifier, where an operator is one
abbrev pub quantified_of : Form → Option Form
quantified_of (Form.Quantified word variable extent low high ts) = Some (Form.Quantified word variable extent low high ts)
quantified_of _ = None

-- the expression that an end of the way stands for
abbrev pub front_data : Bodies → List Frame → Front → ResolvedTree
front_data b fs (fronts.Leaf first at l) = tree first at (Form.LeafOf l)
front_data b fs (fronts.Row i head links) = filled_at b fs i (chained (resolved_data head.now) (map link_data links.now))
front_data b fs (fronts.Node i first at shape) = form_at b fs i first at (form_data shape.now)

abbrev pub IsFront : List Frame → Front → Type 0
IsFront fs (fronts.Leaf first at l) = Unit {0}
IsFront fs (fronts.Row i head links) = (i < length fs) × (0 < length links.now)
IsFront fs (fronts.Node i first at shape) = (i < length fs) × (is_operator (form_data shape.now) ≡ true)

abbrev pub step_data : Bodies → List Frame → Step → ResolvedTree
step_data b fs (steps.On i t) = filled_at b fs i (resolved_data t.now)
step_data b fs (steps.Ends front) = front_data b fs front

abbrev pub IsStep : List Frame → Step → Type 0
IsStep fs (steps.On i t) = i < length fs
IsStep fs (steps.Ends front) = IsFront fs front

-- the use of a definition
abbrev pub put_use : Bodies → Use → Spot → List ResolvedTree → ResolvedTree
put_use b u at ts = put_deep u.deep b u.hole u.number at ts

-- a step keeps what an expression stands for, and adds frames
pub record Goes (old new : List Frame) (before after : ResolvedTree) : Type 0 where
  pub grows : Grows old new
  pub framed : AreFrames new
  pub same : before ≡ after
