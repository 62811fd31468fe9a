-- Operators in rows, each of which stands in a frame.
use Rattle.std.specs.Prelude.{◌≡◌, ℕ, ◌<◌, List, [], ◌∷◌, length, map, reverse}
use Rattle.spectra_resolved.specs.Resolved.{ResolvedTree}
use Rattle.spectra_resolved.specs.Chained.{LinkData, chained}
use Rattle.spectra_resolved.specs.Views.{link_data}
use Rattle.spectra_elaboration.specs.declared.frames.Frame.{Frame}
use Rattle.spectra_elaboration.specs.declared.following.Front.{Front}
use Rattle.spectra_elaboration.specs.declared.following.Front.TheVariants as fronts
use Rattle.spectra_elaboration.specs.declared.following.Step.{Step}
use Rattle.spectra_elaboration.specs.declared.following.Step.TheVariants as steps
use Rattle.spectra_elaboration.specs.declared.rows.Piece.{Piece}
use Rattle.spectra_elaboration.specs.declared.rows.Rows.{Rows}
use Rattle.spectra_elaboration.specs.Putting.{Bodies}
use Rattle.spectra_elaboration.specs.Frames.{link_at, AreFrames, Grows}
use Rattle.spectra_elaboration.specs.Following.{front_data, IsFront}

-- an operator as it is written
abbrev pub piece_link : Piece → LinkData
piece_link p = link_data p.link.now

-- what stands for it
abbrev pub piece_at : Bodies → List Frame → Piece → LinkData
piece_at b fs p = link_at b fs p.frame (link_data p.link.now)

abbrev pub pieces_at : Bodies → List Frame → List Piece → List LinkData
pieces_at b fs ps = map (piece_at b fs) ps

-- the frames of operators are among the first ones
abbrev pub AreWithin : (count : ℕ) → List Piece → Type 0
AreWithin count [] = Unit {0}
AreWithin count (p ∷ ps) = (p.frame < count) × AreWithin count ps

-- an expression with operators behind it, the last of which is the first one
abbrev pub behind : Bodies → List Frame → List Piece → ResolvedTree → ResolvedTree
behind b fs ps t = chained t (reverse (pieces_at b fs ps))

-- a step keeps what an expression with operators behind it stands for, and adds frames and operators
pub record Gathers (b : Bodies) (old new : List Frame) (ps qs : List Piece) (before after : ResolvedTree) : Type 0 where
  pub grows : Grows old new
  pub framed : AreFrames new
  pub same : behind b old ps before ≡ behind b new qs after
  pub within : AreWithin (length new) qs
  pub some : 0 < length ps → 0 < length qs

-- an end of the way that has no operators behind it
abbrev pub IsApart : Front → Type 0
IsApart (fronts.Row i head links) = ⊥
IsApart _ = Unit {0}

abbrev pub EndsApart : Step → Type 0
EndsApart (steps.On i t) = Unit {0}
EndsApart (steps.Ends front) = IsApart front

abbrev pub Ends : List Frame → Front → Type 0
Ends fs front = IsFront fs front × IsApart front

-- operators with what stands before them
abbrev pub rows_data : Bodies → List Frame → Rows → ResolvedTree
rows_data b fs rows = chained (front_data b fs rows.front) (pieces_at b fs rows.pieces.items)

-- that stands apart, and there is an operator at least
pub record AreRows (fs : List Frame) (rows : Rows) : Type 0 where
  pub ends : Ends fs rows.front
  pub within : AreWithin (length fs) rows.pieces.items
  pub some : 0 < length rows.pieces.items

-- an expression comes to operators with what stands before them
pub record Unwinds (b : Bodies) (old new : List Frame) (whole : ResolvedTree) (rows : Rows) : Type 0 where
  pub grows : Grows old new
  pub framed : AreFrames new
  pub same : whole ≡ rows_data b new rows
  pub are : AreRows new rows
