-- Laws over the definitions alone, each of which the function of its name in src/laws.rt proves.
use Rattle.std.specs.Prelude.{◌≡◌, ℕ, ℤ, ◌<◌, Bool, true, false, List, [], Some, length, map, get_or}
use Rattle.spectra_resolved.specs.declared.tree.Leaf.TheVariants as leaf
use Rattle.spectra_resolved.specs.Resolved.{ResolvedTree}
use Rattle.spectra_resolved.specs.declared.stand.Stand.{Stand}
use Rattle.spectra_judge.specs.Kinds.{Anything}
use Rattle.spectra_judge.specs.Known.{Known}
use Rattle.spectra_judge.specs.Judged.{faults_of}
use Rattle.spectra_judge.specs.PutIn.{Parts, is_put_in}
use Rattle.spectra_holes.specs.Holed.{is_anything, holed}
use Rattle.spectra_elaboration.specs.Putting.{put_in}
use Rattle.spectra_uses.specs.Uses.{uses_in}
use Rattle.spectra_uses.specs.Cycles.{reaches}
use Rattle.spectra_uses.specs.Orders.{IsOrderOf}
use Rattle.spectra_elaboration.specs.Written.{is_written, AreWritten}

-- Where every definition has a meaning, and none is used in its own body, everything is put in: nothing is left but parts that
-- pass the test that all parts pass as they are written, as numbers do.
abbrev pub EverythingIsPutIn : Type 0
EverythingIsPutIn = (arities : List ℕ) (good : Parts) (bodies : List ResolvedTree) (order : List ℕ) → ((z : ℤ) → good.leaf (leaf.Number z) ≡ true) → AreWritten arities good bodies →
    IsOrderOf (map uses_in bodies) (length bodies) order → ((k : ℕ) → k < length bodies → reaches (map uses_in bodies) (length bodies) k k ≡ false) →
    (t : ResolvedTree) → is_written arities good 0 t ≡ true → is_put_in good (put_in (map (λ body. Some body) bodies) t) ≡ true

-- the kinds of all predicates' parameters, as many as each has, none of which is a type without meaning
pub record HasMeantParameters (arities : List ℕ) (known : Known) : Type 0 where
  pub counts : (k : ℕ) → length (get_or known.predicates k []) ≡ get_or arities k 0
  pub kinds : (k place : ℕ) → place < length (get_or known.predicates k []) → is_anything (get_or (get_or known.predicates k []) place Anything) ≡ false

-- Where no name is misused and no parameter's type is without meaning, an expression without faults is put in as it is written:
-- none of its arguments is a hole.
abbrev pub HoledIsAsWritten : Type 0
HoledIsAsWritten = (arities : List ℕ) (good : Parts) (params : ℕ) (known : Known) (stand : Stand) → HasMeantParameters arities known →
    (t : ResolvedTree) → is_written arities good params t ≡ true → faults_of known stand t ≡ [] → holed known stand t ≡ t
