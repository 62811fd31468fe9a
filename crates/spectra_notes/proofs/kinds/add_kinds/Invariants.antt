use Rattle.std.proofs.Common.{◌≡◌, ◌++◌, map, replicate}
use Rattle.spectra_judge.specs.KindViews.{kind_data}
use Rattle.spectra_notes.proofs.kinds.add_kinds.Given as goal

-- so many elements have their kind
abbrev pub invariant-loop-element : goal.invariant-loop-element
invariant-loop-element l = map kind_data l.all.items ≡ map kind_data l.fn.all.items ++ replicate l._element (kind_data l.kind)
