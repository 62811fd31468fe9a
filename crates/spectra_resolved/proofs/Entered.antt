-- Names by their bytes, and look-ups with one more name.
use Rattle.std.proofs.Common.{◌≡◌, ℕ, Bool, true, false, cond, List, Option, Some, None, refl, sym, ap, ◌∙◌}
use Rattle.std.specs.Bool.{Decides}
use Rattle.std.specs.Option.{option_or}
use Rattle.std.specs.Str.{bytes_eq}
use Rattle.std.proofs.lemmas.Slice.Eq.{bytes_eq-Decides}
use Rattle.std.proofs.lemmas.Bool.Decides.{same_from_decides}
use Rattle.spectra_resolved.specs.declared.table.Named.{Named}
use Rattle.spectra_resolved.specs.Spaces.{and_name}

pub eq-comm : (a b : List ℕ) → bytes_eq a b ≡ bytes_eq b a
eq-comm a b = same_from_decides _ _ (bytes_eq-Decides a b) (turned (bytes_eq-Decides b a))
  where
    turned : Decides (bytes_eq b a) (b ≡ a) → Decides (bytes_eq b a) (a ≡ b)
    turned d = (λ e. sym (d.0 e), λ e. d.1 (sym e))

pub or-none : {X : Type 0} (o : Option X) → option_or o None ≡ o
or-none (Some x) = refl
or-none None = refl

module _ (look : List ℕ → Option Named) (name : List ℕ) (x : Named) where
  -- a name that stands for nothing is put there
  pub put_first : look name ≡ None → (text : List ℕ) → cond (bytes_eq name text) (Some x) (look text) ≡ and_name look name x text
  put_first absent text = by (bytes_eq text name) refl
    where
      by : (b : Bool) → bytes_eq text name ≡ b → cond (bytes_eq name text) (Some x) (look text) ≡ and_name look name x text
      by true is =
          let same = (bytes_eq-Decides text name).0 is in
          let nothing : look text ≡ None = ap look same ∙ absent in
          let turned = eq-comm name text ∙ is in
          rw (turned, is, nothing) refl
      by false is = let turned = eq-comm name text ∙ is in rw (turned, is) (sym (or-none (look text)))
