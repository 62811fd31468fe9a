-- Names of types, followed one by one.
use Rattle.std.proofs.Common.{◌≡◌, ℕ, zero, suc, ◌-◌, ◌<◌, ◌≤◌, List, length, map, get_or, refl, sym, ap, ◌∙◌, arith}
use Rattle.std.proofs.lemmas.List.{length-map, get_or-map, get_or_past}
use Rattle.spectra_resolved.specs.declared.text.Alias.{Alias}
use Rattle.spectra_resolved.specs.Texts.{TypeNumber, NoType, ResolvedAlias}
use Rattle.spectra_resolved.specs.TextViews.{type_data, alias_data}
use Rattle.spectra_bounds.specs.Types.{meant_within}

pub no_steps : (steps k : ℕ) (types : List ResolvedAlias) → steps ≡ 0 → meant_within steps types (TypeNumber k) ≡ NoType
no_steps steps k types is = ap (λ n. meant_within n types (TypeNumber k)) is

next : (steps k : ℕ) (types : List ResolvedAlias) → (steps ≡ 0 → ⊥)
    → meant_within steps types (TypeNumber k) ≡ meant_within (steps - 1) types (get_or (map (λ (a : ResolvedAlias). a.body) types) k NoType)
next zero k types some = absurd (some refl)
next (suc n) k types some = let e : suc n - 1 ≡ n = omega arith in ap (λ m. meant_within m types (get_or (map (λ (a : ResolvedAlias). a.body) types) k NoType)) (sym e)

-- a name of no type
pub no_type : (steps k : ℕ) (types : List ResolvedAlias) → length types ≤ k → meant_within steps types (TypeNumber k) ≡ NoType
no_type zero k types past = refl
no_type (suc n) k types past =
    ap (meant_within n types) (get_or_past (map (λ (a : ResolvedAlias). a.body) types) k NoType (let long = length-map types (λ (a : ResolvedAlias). a.body) in omega arith))

-- a name of a type
pub one_step : (steps k : ℕ) (types : List Alias) (a : Alias) → (steps ≡ 0 → ⊥) → k < length types → a ≡ get_or types k a
    → meant_within steps (map alias_data types) (TypeNumber k) ≡ meant_within (steps - 1) (map alias_data types) (type_data a.body)
one_step steps k types a some below is =
    next steps k (map alias_data types) some
    ∙ ap (meant_within (steps - 1) (map alias_data types))
    (get_or-map (λ (b : ResolvedAlias). b.body) (map alias_data types) k (alias_data a) NoType (let long = length-map types alias_data in omega arith)
    ∙ ap (λ (b : ResolvedAlias). b.body) (get_or-map alias_data types k a (alias_data a) below ∙ ap alias_data (sym is)))
