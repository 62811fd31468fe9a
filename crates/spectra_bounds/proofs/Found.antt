-- What bounds have of definitions is found along their order.
use Rattle.std.proofs.Common.{◌≡◌, ℕ, ◌<◌, Bool, true, false, if◌then◌else◌, List, Some, None, length, get_or, set, ◌+◌, refl, sym, ap, ◌∙◌, arith}
use Rattle.std.specs.Prelude.{slice_get}
use Rattle.std.proofs.lemmas.List.{length-map}
use Rattle.std.proofs.lemmas.Option.{slice_get_within}
use Rattle.spectra_uses.specs.Orders.{IsOrderOf}
use Rattle.spectra_resolved.specs.Texts.{ResolvedDefinition}
use Rattle.spectra_judge.specs.Kinds.{Anything}
use Rattle.spectra_uses.specs.Uses.{uses_in, all_uses}
use Rattle.spectra_bounds.specs.ByUses.{is_on_cycle, made_by_uses}
use Rattle.spectra_bounds.specs.Numbers.{Constants, Constant, no_constant, each_of, constant_of, constants}
use Rattle.spectra_bounds.proofs.Made.{HasMade, one_more, made-length, made-at, agree_there}
use Rattle.spectra_bounds.proofs.Sound.{constant-same, number_there, kind_there, made-same}

module _ (ds : List ResolvedDefinition) (order : List ℕ) (ordered : IsOrderOf (all_uses ds) (length ds) order) where
  abbrev uses_of : ResolvedDefinition → List ℕ
  uses_of d = uses_in d.body

  abbrev make : List Constant → ResolvedDefinition → Constant
  make known d = constant_of (each_of known) d.body

  abbrev all : List Constant
  all = made_by_uses (all_uses ds) no_constant make ds

  all-length : length all ≡ length ds
  all-length = made-length uses_of no_constant make made-same ds order ordered

  pub numbers-length : length (constants ds).numbers ≡ length ds
  numbers-length = length-map all (λ (c : Constant). c.number) ∙ all-length

  pub kinds-length : length (constants ds).kinds ≡ length ds
  kinds-length = length-map all (λ (c : Constant). c.kind) ∙ all-length

  -- what is found of a definition where what stands before it is known
  constant_there : (place k : ℕ) (d : ResolvedDefinition) (c : Constants) → HasMade None (constants ds).numbers order place c.numbers → HasMade Anything (constants ds).kinds order place c.kinds
      → slice_get order place ≡ Some k → slice_get ds k ≡ Some d
      → (if is_on_cycle (all_uses ds) k then no_constant else constant_of c d.body) ≡ get_or all k no_constant
  constant_there place k d c numbers kinds here there = by (is_on_cycle (all_uses ds) k) refl ∙ sym (made-at uses_of no_constant make made-same ds order ordered k d there)
    where
      by : (b : Bool) → is_on_cycle (all_uses ds) k ≡ b → (if b then no_constant else constant_of c d.body) ≡ (if b then no_constant else make all d)
      by true e = refl
      by false e =
          constant-same c (each_of all) d.body (agree_there uses_of no_constant make made-same ds order ordered None (constants ds).numbers c.numbers place k d numbers-length numbers here there e)
          (agree_there uses_of no_constant make made-same ds order ordered Anything (constants ds).kinds c.kinds place k d kinds-length kinds here there e)

  module _ (place k : ℕ) (d : ResolvedDefinition) (c : Constants) (numbers : HasMade None (constants ds).numbers order place c.numbers) (kinds : HasMade Anything (constants ds).kinds order place c.kinds) (here : slice_get order place ≡ Some k) (there : slice_get ds k ≡ Some d) (b : Bool) (marked : b ≡ is_on_cycle (all_uses ds) k) (made : Constant) (is : made ≡ (if b then no_constant else constant_of c d.body)) where
    found : made ≡ get_or all k no_constant
    found = is ∙ ap (λ m. if m then no_constant else constant_of c d.body) marked ∙ constant_there place k d c numbers kinds here there

    within : k < length ds
    within = slice_get_within ds k d there

    pub number_more : HasMade None (constants ds).numbers order (place + 1) (set c.numbers k made.number)
    number_more =
        one_more None (constants ds).numbers order place k c.numbers made.number numbers (let long = numbers-length in let lt = within in omega arith) here
        (ap (λ (m : Constant). m.number) found ∙ sym (number_there all k))

    pub kind_more : HasMade Anything (constants ds).kinds order (place + 1) (set c.kinds k made.kind)
    kind_more =
        one_more Anything (constants ds).kinds order place k c.kinds made.kind kinds (let long = kinds-length in let lt = within in omega arith) here
        (ap (λ (m : Constant). m.kind) found ∙ sym (kind_there all k))
