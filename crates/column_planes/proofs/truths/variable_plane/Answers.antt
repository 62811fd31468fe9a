use Rattle.std.proofs.Common.{sym, ap}
use Rattle.spec_model.specs.Values.{truth_of}
use Rattle.column_planes.specs.Columns.{value_of_code}
use Rattle.column_planes.proofs.truths.variable_plane.Goals as goal

pub returns-clause-plane : goal.returns-clause-plane
returns-clause-plane c = λ read. c.code_plane.ensures.plane read truth_of (λ n. ap (λ d. truth_of (value_of_code d n)) (sym (c.is_truth.ensures c.if-not-is_truth.false)))
