-- What two positions with the same input share, and whether one of several numbers passes a test.
use Rattle.std.proofs.Common.{◌≡◌, ℕ, Bool, true, false, not, ◌||◌, List, [], ◌∷◌, ◌++◌, slice_get, Option, Some, None, option_map, unwrap_or, refl}
use Rattle.std.specs.List.{list_any}
use Rattle.spec_model.specs.declared.value.Owner.{Owner}
use Rattle.spec_model.specs.declared.value.Owner.TheVariants.{Env, Sys}
use Rattle.spec_model.specs.Values.{Assignment}
use Rattle.spec_model.specs.Syntax.{VariableData}
use Rattle.spec_model.specs.Rules.{Position}
use Rattle.spec_model.specs.Moves.{is_env, value_among}
use Rattle.spec_model.specs.Steps.{is_output_variable}

-- ---- what two positions with the same input share

module _ (vs : List VariableData) (x y y' : Assignment) where
  abbrev with_output : Assignment → Position
  with_output z = record { input = x; output = z }

  pub input_shared : (k : ℕ) → not (is_output_variable vs k) ≡ true → value_among vs (with_output y) k ≡ value_among vs (with_output y') k
  input_shared k own = by_owner (option_map (λ (v : VariableData). v.owner) (slice_get vs k)) refl
    where
      by_owner : (o : Option Owner) → option_map (λ (v : VariableData). v.owner) (slice_get vs k) ≡ o → value_among vs (with_output y) k ≡ value_among vs (with_output y') k
      by_owner None e = cc
      by_owner (Some Env) e = cc
      by_owner (Some Sys) e = absurd (owned (slice_get vs k) e own)
        where
          owned : (o : Option VariableData) → option_map (λ (v : VariableData). v.owner) o ≡ Some Sys → not (unwrap_or (option_map (λ (v : VariableData). not (is_env v.owner)) o) false) ≡ true → ⊥
          owned None e own = cc
          owned (Some v) e own = let sys : v.owner ≡ Sys = cc in cc

pub reads_both : (test : ℕ → Bool) (ks ms : List ℕ) → list_any test (ks ++ ms) ≡ (list_any test ks || list_any test ms)
reads_both test [] ms = refl
reads_both test (k ∷ ks) ms = first (test k) (reads_both test ks ms)
  where
    first : (b : Bool) → list_any test (ks ++ ms) ≡ (list_any test ks || list_any test ms) → (b || list_any test (ks ++ ms)) ≡ ((b || list_any test ks) || list_any test ms)
    first true rest = refl
    first false rest = rest

pub not_false : (b : Bool) → not b ≡ true → b ≡ false
not_false true h = absurd (cc)
not_false false h = refl

pub or_none : (a b : Bool) → (a || b) ≡ false → (a ≡ false) × (b ≡ false)
or_none true b h = absurd (cc)
or_none false b h = (refl, h)
