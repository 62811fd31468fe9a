-- Which definitions have a meaning, and the kinds of defines.
use Rattle.std.specs.Prelude.{Bool, true, false, ◌||◌, if◌then◌else◌, List, [], map, replicate}
use Rattle.spectra_resolved.specs.declared.stand.Stand.{Stand}
use Rattle.spectra_resolved.specs.declared.stand.Stand.TheVariants as stand
use Rattle.spectra_resolved.specs.declared.text.DefinitionWord.{DefinitionWord}
use Rattle.spectra_resolved.specs.declared.text.DefinitionWord.TheVariants as words
use Rattle.spectra_resolved.specs.declared.findings.Finding.{Finding}
use Rattle.spectra_resolved.specs.Texts.{ResolvedDefinition, ResolvedPattern, ResolvedText}
use Rattle.spectra_judge.specs.Kinds.{Kind, Truth, Anything}
use Rattle.spectra_judge.specs.Known.{Known}
use Rattle.spectra_judge.specs.Judged.{kind_of, faults_of}
use Rattle.spectra_uses.specs.Uses.{all_uses}
use Rattle.spectra_bounds.specs.ByUses.{made_by_uses}
use Rattle.spectra_bounds.specs.Numbers.{is_faulty}
use Rattle.spectra_bounds.specs.Cycles.{on_cycles}
use Rattle.spectra_notes.specs.TypeKinds.{TypeKinds, kind_in, type_kinds, known_by}

-- whether a definition has no meaning, and the kind of its uses
pub record Note : Type 0 where
  pub hole : Bool
  pub kind : Kind

-- what has no meaning fits everything
abbrev pub no_meaning : Note
no_meaning = record { hole = true; kind = Anything }

abbrev pub stand_of : DefinitionWord → Stand
stand_of words.Define = stand.Define
stand_of words.Predicate = stand.Predicate

-- the faults of a definition's body as it is written
abbrev pub body_faults : Known → ResolvedDefinition → List Finding
body_faults known d = faults_of known (stand_of d.word) d.body

-- a name stands twice among its parameters, or its body has a fault as it is written
abbrev pub is_meaningless : Known → ResolvedDefinition → Bool
is_meaningless known d = d.doubled || is_faulty (body_faults known d)

abbrev pub note_of : Known → ResolvedDefinition → Note
note_of known d = if is_meaningless known d then no_meaning else record { hole = false; kind = kind_of known d.body }

-- what is known of the names in a definition's body, where defines have these kinds
abbrev pub known_inside : ResolvedText → (defines : List Kind) → ResolvedDefinition → Known
known_inside text defines d = known_by (type_kinds text) defines (map (kind_in text) d.params) []

-- each definition's note, from the notes of those that it uses; one that is used in its own body has no meaning
abbrev pub notes : ResolvedText → List Note
notes text =
    made_by_uses (all_uses text.definitions) no_meaning (λ known d. note_of (known_inside text (map (λ (n : Note). n.kind) known) d) d) text.definitions

-- all that is known of a text's names: what its types stand for, the kinds of its defines, and which definitions have no
-- meaning, and which are used in their own bodies
pub record Noted : Type 0 where
  pub kinds : TypeKinds
  pub defines : List Kind
  pub holes : List Bool
  pub on_cycle : List Bool

abbrev pub noted : ResolvedText → Noted
noted text =
    record {
      kinds = type_kinds text;
      defines = map (λ (n : Note). n.kind) (notes text);
      holes = map (λ (n : Note). n.hole) (notes text);
      on_cycle = on_cycles (all_uses text.definitions);
    }

-- what is known of the names in a line
abbrev pub known_in_line : Noted → Known
known_in_line n = known_by n.kinds n.defines [] []

-- what is known of the names in a pattern, whose parameters are truth values
abbrev pub known_in_pattern : ResolvedText → ResolvedPattern → Known
known_in_pattern text p = known_by (type_kinds text) (noted text).defines (replicate p.params Truth) (map (kind_in text) p.own)
