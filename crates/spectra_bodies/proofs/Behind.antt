-- What stands behind the first fault that was found changes nothing.
use Rattle.std.proofs.Common.{◌≡◌, ℕ, ◌==◌, nat_lt, Bool, true, false, if◌then◌else◌, List, [], ◌∷◌, Option, Some, None, refl, ap, ◌∙◌, arith}
use Rattle.std.specs.List.{list_all}
use Rattle.std.proofs.lemmas.Bool.{false≢true, and_parts}
use Rattle.std.proofs.lemmas.Bool.Decides.{nat_tests}
use Rattle.spectra_resolved.specs.declared.stand.Stand.{Stand}
use Rattle.spectra_resolved.specs.declared.findings.Finding.{Finding}
use Rattle.spectra_resolved.specs.Findings.{precedes, with_faults}
use Rattle.spectra_resolved.specs.Resolved.{ResolvedTree}
use Rattle.spectra_judge.specs.Around.{comes_before}
use Rattle.spectra_judge.specs.Known.{Known}
use Rattle.spectra_elaboration.specs.Putting.{Bodies, put_in}
use Rattle.spectra_copies.specs.Levels.{within_limits}
use Rattle.spectra_holes.specs.Holed.{holed}
use Rattle.spectra_judge.specs.Judged.{faults_of}
use Rattle.spectra_bodies.specs.PutIn.{most_nodes, most_levels, is_shallow, made_faults, put_in_faults}
use Rattle.spectra_bodies.specs.Places.{all_places, is_behind}
use Rattle.spectra_bodies.proofs.Standing.{AreThere, all_there}
use Rattle.spectra_bodies.proofs.PlacesPut.{put_in_there}

-- one of two numbers is less, or a test decides
one_way : (x y : ℕ) (p q : Bool) → (p ≡ true → q ≡ false) → (if x == y then p else nat_lt x y) ≡ true → (if y == x then q else nat_lt y x) ≡ false
one_way x y p q inner a = grind (arith, nat_tests)

-- a fault behind another one doesn't come before it
later : (f g : Finding) → comes_before f.at g.at ≡ true → precedes g f ≡ false
later f g =
    one_way f.at.file g.at.file _ _
    (one_way f.at.line g.at.line _ _ (last f.at.column g.at.column f.number g.number))
  where
    last : (x y m n : ℕ) → nat_lt x y ≡ true → (if y == x then nat_lt n m else nat_lt y x) ≡ false
    last x y m n a = grind (arith, nat_tests)

pub none_first : (f : Finding) (gs : List Finding) → AreThere (comes_before f.at) gs → with_faults (Some f) gs ≡ Some f
none_first f [] all = refl
none_first f (g ∷ gs) all =
    let parts = and_parts (comes_before f.at g.at) (list_all (λ (g : Finding). comes_before f.at g.at) gs) all in
    ap (λ b. with_faults (Some (if b then g else f)) gs) (later f g parts.0) ∙ none_first f gs parts.1

few_there : (f : Finding) (known : Known) (st : Stand) (t : ResolvedTree) → all_places (comes_before f.at) t ≡ true → (few : Bool) → AreThere (comes_before f.at) (if few then faults_of known st t else [])
few_there f known st t all true = all_there (comes_before f.at) known st t all
few_there f known st t all false = refl

made_there : (f : Finding) (known : Known) (st : Stand) (t : ResolvedTree) → all_places (comes_before f.at) t ≡ true
    → (room : Bool) → AreThere (comes_before f.at) (made_faults known st (if room then Some t else None))
made_there f known st t all true = few_there f known st t all (is_shallow known t)
made_there f known st t all false = refl

-- so it is with those of an expression with everything put in
pub put_in_behind : (found : Option Finding) (b : Bodies) (known : Known) (st : Stand) (t : ResolvedTree) → is_behind found t ≡ true → with_faults found (put_in_faults b known st t) ≡ found
unfolding put_in_faults
put_in_behind None b known st t behind = absurd (false≢true behind)
put_in_behind (Some f) b known st t behind =
    none_first f (made_faults known st (within_limits most_nodes most_levels (put_in b (holed known st t))))
    (made_there f known st (put_in b (holed known st t)) (put_in_there (comes_before f.at) b known st t behind) _)
