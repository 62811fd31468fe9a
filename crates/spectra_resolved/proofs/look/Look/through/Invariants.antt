use Rattle.std.proofs.Common.{◌≡◌, drop, map}
use Rattle.spectra_resolved.specs.MentionViews.{mention_data}
use Rattle.spectra_resolved.specs.Looks.{through_quantifiers}
use Rattle.spectra_resolved.proofs.look.Look.through.Given as goal

-- those that are left make the answer
abbrev pub invariant-loop-variable : goal.invariant-loop-variable
invariant-loop-variable l =
    through_quantifiers (map mention_data (drop l.variable-index l.quantified)) l.text l.named ≡ through_quantifiers (map mention_data l.quantified) l.text l.fn.outside
