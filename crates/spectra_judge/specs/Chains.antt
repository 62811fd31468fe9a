-- Operators in text order, each of which has all before it as its first operand.
use Rattle.std.specs.Prelude.{Bool, ◌&&◌, List, [], ◌∷◌, ◌++◌, Option, None}
use Rattle.std.specs.List.{list_any}
use Rattle.spectra_resolved.specs.declared.spot.Spot.{Spot}
use Rattle.spectra_resolved.specs.declared.spot.Mark.{Mark}
use Rattle.spectra_resolved.specs.Chained.{LinkData}
use Rattle.spectra_resolved.specs.declared.findings.Finding.{Finding}
use Rattle.spectra_judge.specs.Kinds.{Kind}
use Rattle.spectra_judge.specs.Operators.{gives, is_past}
use Rattle.spectra_judge.specs.Around.{Around, first_brought, within}
use Rattle.spectra_judge.specs.Known.{Known, Setting}
use Rattle.spectra_judge.specs.Judged.{kind_of, binary_faults, operator_faults, faults}

-- what is open in the operands of the first of these operators
abbrev pub opened : Around → List LinkData → Around
opened around [] = around
opened around (l ∷ ls) = within (is_past l.word) l.at (opened around ls)

-- whether one of them is a past operator, and the place of the last one that a body brings
abbrev pub has_past : List LinkData → Bool
has_past ls = list_any (λ l. is_past l.word) ls

abbrev pub brought_in : List LinkData → Option Spot
brought_in [] = None
brought_in (l ∷ ls) = first_brought (brought_in ls) (is_past l.word && l.at.brought) l.at.spot

-- An operator and its second operand, where the first one has a kind. So much is open in its operands; and around it, so a `next`.
abbrev pub link_faults : Setting → (inner : Around) → (next : Option Mark) → Kind → LinkData → List Finding
link_faults s inner next k l =
    operator_faults s (is_past l.word) next l.at ++ (faults s inner l.second ++ binary_faults l.word k (kind_of s.known l.second) l.at.spot)

-- what operators behind a first operand of this kind give, and their faults
abbrev pub chain_kind : Known → Kind → List LinkData → Kind
chain_kind known k [] = k
chain_kind known k (l ∷ ls) = chain_kind known (gives l.word k (kind_of known l.second)) ls

abbrev pub chain_faults : Setting → Around → Kind → List LinkData → List Finding
chain_faults s around k [] = []
chain_faults s around k (l ∷ ls) =
    link_faults s (opened around (l ∷ ls)) around.next k l ++ chain_faults s around (gives l.word k (kind_of s.known l.second)) ls
