-- An operator that isn't one of a row: its operands, and the operator above others.
use Rattle.std.specs.Prelude.{Bool, true, false, Option, Some, None, map}
use Rattle.spectra_resolved.specs.declared.spot.Spot.{Spot}
use Rattle.spectra_resolved.specs.Resolved.{ResolvedTree, Form, ResolvedTrees}
use Rattle.spectra_copies.specs.Places.{placed}

-- whether an operator has one operand
abbrev pub has_one : Form → Bool
has_one (Form.Next t) = true
has_one (Form.Prefix word t) = true
has_one (Form.Mod t number_at n) = true
has_one (Form.Index first n t) = true
has_one _ = false

-- that operand
abbrev pub one_of : Form → Option ResolvedTree
one_of (Form.Next t) = Some t
one_of (Form.Prefix word t) = Some t
one_of (Form.Mod t number_at n) = Some t
one_of (Form.Index first n t) = Some t
one_of _ = None

-- such an operator above another operand, where it stands
abbrev pub over_one : (brought : Option Spot) → Form → ResolvedTree → Form
over_one brought (Form.Next t) u = Form.Next u
over_one brought (Form.Prefix word t) u = Form.Prefix word u
over_one brought (Form.Mod t number_at n) u = Form.Mod u (placed brought number_at) n
over_one brought (Form.Index first n t) u = Form.Index first n u
over_one brought f u = f

-- whether an operator has a list of operands
abbrev pub has_several : Form → Bool
has_several (Form.And ts operators) = true
has_several (Form.Or ts operators) = true
has_several _ = false

-- these operands
abbrev pub several_of : Form → ResolvedTrees
several_of (Form.And ts operators) = ts
several_of (Form.Or ts operators) = ts
several_of _ = ResolvedTrees.none

-- such an operator above other operands, where it stands
abbrev pub over_each : (brought : Option Spot) → Form → ResolvedTrees → Form
over_each brought (Form.And ts operators) us = Form.And us (map (placed brought) operators)
over_each brought (Form.Or ts operators) us = Form.Or us (map (placed brought) operators)
over_each brought f us = f
