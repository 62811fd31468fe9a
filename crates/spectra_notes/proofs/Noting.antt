-- Notes of definitions are found along their order.
use Rattle.std.proofs.Common.{◌≡◌, inl, inr, ℕ, ◌+◌, ◌<◌, Bool, true, false, ◌||◌, if◌then◌else◌, List, [], Some, length, map, get_or, set, refl, sym, ap, ◌∙◌, arith}
use Rattle.std.specs.Prelude.{slice_get, option_map}
use Rattle.std.proofs.Math.ListN as lists
use Rattle.std.proofs.lemmas.List.{length-map}
use Rattle.std.proofs.lemmas.Option.{slice_get-map, slice_get_cases, get_or_from_slice_get}
use Rattle.spectra_uses.specs.Orders.{IsOrderOf}
use Rattle.spectra_resolved.specs.Texts.{ResolvedDefinition, ResolvedText}
use Rattle.spectra_judge.specs.Kinds.{Kind, Anything}
use Rattle.spectra_judge.specs.Known.{Known}
use Rattle.spectra_uses.specs.Uses.{uses_in, all_uses}
use Rattle.spectra_bounds.specs.ByUses.{is_on_cycle}
use Rattle.spectra_bounds.specs.Numbers.{is_faulty}
use Rattle.spectra_bounds.proofs.Made.{AgreeOn, HasMade, one_more, made-length, made-at, agree_there}
use Rattle.spectra_bounds.proofs.Judging.{kind-same, faults_of-same}
use Rattle.spectra_notes.specs.TypeKinds.{kind_in, type_kinds}
use Rattle.spectra_notes.specs.Notes.{Note, no_meaning, stand_of, note_of, known_inside, notes, noted}

-- a note rests on the kinds of the defines that the body uses
note-same : (known : Known) (kinds : List Kind) (d : ResolvedDefinition) → AgreeOn Anything known.defines kinds (uses_in d.body) → note_of known d ≡ note_of (record known { defines = kinds }) d
note-same known kinds d h =
    let faults = faults_of-same known kinds (stand_of d.word) d.body h in
    let kind = kind-same known kinds d.body h in
    λ i. if d.doubled || is_faulty (faults i) then no_meaning else record { hole = false; kind = kind i }

module _ (text : ResolvedText) where
  abbrev uses_of : ResolvedDefinition → List ℕ
  uses_of d = uses_in d.body

  abbrev make : List Note → ResolvedDefinition → Note
  make known d = note_of (known_inside text (map (λ (n : Note). n.kind) known) d) d

  kind_there : (f : List Note) (k : ℕ) → get_or (map (λ (n : Note). n.kind) f) k Anything ≡ (get_or f k no_meaning).kind
  kind_there f k = lists.get_or-map (λ (n : Note). n.kind) f k no_meaning

  hole_there : (f : List Note) (k : ℕ) → get_or (map (λ (n : Note). n.hole) f) k true ≡ (get_or f k no_meaning).hole
  hole_there f k = lists.get_or-map (λ (n : Note). n.hole) f k no_meaning

  make-same : (f g : List Note) (d : ResolvedDefinition) → AgreeOn no_meaning f g (uses_in d.body) → make f d ≡ make g d
  make-same f g d h =
      note-same (known_inside text (map (λ (n : Note). n.kind) f) d) (map (λ (n : Note). n.kind) g) d
      (λ i u e. kind_there f u ∙ ap (λ (n : Note). n.kind) (h i u e) ∙ sym (kind_there g u))

  -- the kinds of a definition's parameters, by its number
  pub parameters_at : (k : ℕ) (d : ResolvedDefinition) → slice_get text.definitions k ≡ Some d → get_or (type_kinds text).predicates k [] ≡ map (kind_in text) d.params
  parameters_at k d there =
      get_or_from_slice_get (type_kinds text).predicates k (map (kind_in text) d.params) []
      (slice_get-map (λ (e : ResolvedDefinition). map (kind_in text) e.params) text.definitions k ∙ (λ i. option_map (λ (e : ResolvedDefinition). map (kind_in text) e.params) (there i)))

  module _ (order : List ℕ) (ordered : IsOrderOf (all_uses text.definitions) (length text.definitions) order) where
    all-length : length (notes text) ≡ length text.definitions
    all-length = made-length uses_of no_meaning make make-same text.definitions order ordered

    pub defines-length : length (noted text).defines ≡ length text.definitions
    defines-length = length-map (notes text) (λ (n : Note). n.kind) ∙ all-length

    pub holes-length : length (noted text).holes ≡ length text.definitions
    holes-length = length-map (notes text) (λ (n : Note). n.hole) ∙ all-length

    -- each note is made from all of them
    pub hole_is : (k : ℕ) (d : ResolvedDefinition) → slice_get text.definitions k ≡ Some d
        → get_or (noted text).holes k true ≡ (if is_on_cycle (all_uses text.definitions) k then no_meaning else note_of (known_inside text (noted text).defines d) d).hole
    hole_is k d there = hole_there (notes text) k ∙ ap (λ (n : Note). n.hole) (made-at uses_of no_meaning make make-same text.definitions order ordered k d there)

    pub kind_is : (k : ℕ) (d : ResolvedDefinition) → slice_get text.definitions k ≡ Some d
        → get_or (noted text).defines k Anything ≡ (if is_on_cycle (all_uses text.definitions) k then no_meaning else note_of (known_inside text (noted text).defines d) d).kind
    kind_is k d there = kind_there (notes text) k ∙ ap (λ (n : Note). n.kind) (made-at uses_of no_meaning make make-same text.definitions order ordered k d there)

    -- what is found of a definition where what stands before it is known
    note_there : (place k : ℕ) (d : ResolvedDefinition) (kinds : List Kind) → HasMade Anything (noted text).defines order place kinds → slice_get order place ≡ Some k → slice_get text.definitions k ≡ Some d
        → (if is_on_cycle (all_uses text.definitions) k then no_meaning else note_of (known_inside text kinds d) d) ≡ get_or (notes text) k no_meaning
    note_there place k d kinds has here there =
        by (is_on_cycle (all_uses text.definitions) k) refl ∙ sym (made-at uses_of no_meaning make make-same text.definitions order ordered k d there)
      where
        by : (b : Bool) → is_on_cycle (all_uses text.definitions) k ≡ b → (if b then no_meaning else note_of (known_inside text kinds d) d) ≡ (if b then no_meaning else make (notes text) d)
        by true e = refl
        by false e =
            note-same (known_inside text kinds d) (noted text).defines d
            (agree_there uses_of no_meaning make make-same text.definitions order ordered Anything (noted text).defines kinds place k d defines-length has here there e)

    module _ (place k : ℕ) (kinds : List Kind) (has : HasMade Anything (noted text).defines order place kinds) (here : slice_get order place ≡ Some k) (below : k < length text.definitions) (note : Note) (is : (d : ResolvedDefinition) → slice_get text.definitions k ≡ Some d → note ≡ (if is_on_cycle (all_uses text.definitions) k then no_meaning else note_of (known_inside text kinds d) d)) where
      found : note ≡ get_or (notes text) k no_meaning
      found = elim ((slice_get_cases text.definitions k).1) [
        | inl there ↦ is there.0 there.2 ∙ note_there place k there.0 kinds has here there.2
        | inr past ↦ let ge = past.0 in let lt = below in absurd (omega arith)
      ]

      pub define_more : HasMade Anything (noted text).defines order (place + 1) (set kinds k note.kind)
      define_more =
          one_more Anything (noted text).defines order place k kinds note.kind has (let long = defines-length in let lt = below in omega arith) here
          (ap (λ (n : Note). n.kind) found ∙ sym (kind_there (notes text) k))

      pub hole_more : (holes : List Bool) → HasMade true (noted text).holes order place holes → HasMade true (noted text).holes order (place + 1) (set holes k note.hole)
      hole_more holes had =
          one_more true (noted text).holes order place k holes note.hole had (let long = holes-length in let lt = below in omega arith) here
          (ap (λ (n : Note). n.hole) found ∙ sym (hole_there (notes text) k))
