-- What putting in gives where there is room, and where there isn't.
use Rattle.std.proofs.Common.{◌≡◌, ◌≢◌, Bool, true, false, if◌then◌else◌, Option, Some, None, MatchOption, Result, Ok, Err, IfOk, IsErrAnd, option_map, refl, sym, subst, ◌∙◌}
use Rattle.spectra_resolved.specs.declared.tree.Resolved.{Resolved}
use Rattle.spectra_resolved.specs.Resolved.{ResolvedTree}
use Rattle.spectra_resolved.specs.Views.{resolved_data}
use Rattle.spectra_copies.specs.declared.refusal.Refusal.{Refusal}
use Rattle.spectra_copies.specs.declared.refusal.Refusal.TheVariants.{Large, Memory}
use Rattle.spectra_copies.specs.Levels.{within_limits}
use Rattle.spectra_lines.specs.Limits.{most_levels, most_put, fits}
use Rattle.spectra_lines.specs.Putting.{Puts}

-- an expression with everything put in, where there is room for it
pub puts_within : (t : ResolvedTree) (made : Option Resolved) (r : Result Resolved Refusal) → option_map resolved_data made ≡ within_limits most_put most_levels t →
    MatchOption made (r ≡ Err Large) (λ x. r ≡ Ok x) → Puts (λ x. resolved_data x ≡ t) (fits t) r
puts_within t (Some x) r is gives = subst (λ y. Puts (λ x. resolved_data x ≡ t) (fits t) y) (sym gives) (by (fits t) refl is)
  where
    by : (b : Bool) → fits t ≡ b → Some (resolved_data x) ≡ (if b then Some t else None) → (resolved_data x ≡ t) × (fits t ≡ true)
    by true fit e = (cc, fit)
    by false large e = absurd (cc)
puts_within t None r is gives = subst (λ y. Puts (λ x. resolved_data x ≡ t) (fits t) y) (sym gives) (λ differs. by (fits t) refl is)
  where
    by : (b : Bool) → fits t ≡ b → None ≡ (if b then Some t else None) → fits t ≡ false
    by true fit e = absurd (cc)
    by false large e = large

-- nothing is made where a part is refused
pub stop_puts : {A : Type 0} (IsMade : A → Type 0) (all_fits : Bool) (halt : Refusal) (r : Result A Refusal) → IsErrAnd r (λ y. y ≡ halt) → (halt ≢ Memory → all_fits ≡ false) → Puts IsMade all_fits r
stop_puts IsMade all_fits halt (Ok made) is large = absurd is
stop_puts IsMade all_fits halt (Err y) is large = λ differs. large (λ e. differs (is ∙ e))

-- what follows from what an `Ok` has
pub if_ok : {A E : Type 0} (r : Result A E) (P Q : A → Type 0) → ((x : A) → P x → Q x) → IfOk r P → IfOk r Q
if_ok (Ok x) P Q follows p = follows x p
if_ok (Err e) P Q follows p = p
