-- What expressions are written out: operators above their operands, and the copies of quantifiers.
use Rattle.std.proofs.Common.{◌≡◌, ℤ, List, [], ◌∷◌, map, true, Option, Some, None, refl, ap}
use Rattle.std.proofs.lemmas.Bool.{false≢true}
use Rattle.spectra_resolved.specs.declared.spot.Spot.{Spot}
use Rattle.spectra_resolved.specs.Resolved.{ResolvedTree, Form}
use Rattle.spectra_copies.specs.Places.{placed}
use Rattle.spectra_copies.specs.Ranges.{Bound}
use Rattle.spectra_copies.specs.Operands.{one_of, over_one, has_several, several_of, over_each}
use Rattle.spectra_copies.specs.Copies.{written, form_out, each_out}
use Rattle.spectra_copies.proofs.Over.{not_one, value_is}
use Rattle.spectra_copies.proofs.Made.{OneByOne}

in_place : (operators : List Spot) → operators ≡ map (placed None) operators
in_place [] = refl
in_place (at ∷ operators) = ap (λ xs. at ∷ xs) (in_place operators)

module _ (c : List (Option ℤ)) (q : List Bound) where
  pub each_written : OneByOne (written c q) (each_out c q)
  each_written = record { none = refl; more = λ t ts. refl }

  pub one_written : (form : Form) (t : ResolvedTree) → Some t ≡ one_of form → form_out c q form ≡ over_one None form (written c q t)
  one_written (Form.LeafOf l) t e = not_one t e
  one_written (Form.PredicateOf k ts) t e = not_one t e
  one_written (Form.MisuseOf m ts) t e = not_one t e
  one_written (Form.Next x) t e = ap (λ y. Form.Next (written c q y)) (value_is t x e)
  one_written (Form.Prefix word x) t e = ap (λ y. Form.Prefix word (written c q y)) (value_is t x e)
  one_written (Form.Binary word x y) t e = not_one t e
  one_written (Form.Mod x number_at n) t e = ap (λ y. Form.Mod (written c q y) number_at n) (value_is t x e)
  one_written (Form.And ts operators) t e = not_one t e
  one_written (Form.Or ts operators) t e = not_one t e
  one_written (Form.Index array n x) t e = ap (λ y. Form.Index array n (written c q y)) (value_is t x e)
  one_written (Form.Quantified word variable extent low high ts) t e = not_one t e

  pub several_written : (form : Form) → has_several form ≡ true → form_out c q form ≡ over_each None form (each_out c q (several_of form))
  several_written (Form.LeafOf l) is = absurd (false≢true is)
  several_written (Form.PredicateOf k ts) is = absurd (false≢true is)
  several_written (Form.MisuseOf m ts) is = absurd (false≢true is)
  several_written (Form.Next x) is = absurd (false≢true is)
  several_written (Form.Prefix word x) is = absurd (false≢true is)
  several_written (Form.Binary word x y) is = absurd (false≢true is)
  several_written (Form.Mod x number_at n) is = absurd (false≢true is)
  several_written (Form.And ts operators) is = ap (Form.And (each_out c q ts)) (in_place operators)
  several_written (Form.Or ts operators) is = ap (Form.Or (each_out c q ts)) (in_place operators)
  several_written (Form.Index array n x) is = absurd (false≢true is)
  several_written (Form.Quantified word variable extent low high ts) is = absurd (false≢true is)
