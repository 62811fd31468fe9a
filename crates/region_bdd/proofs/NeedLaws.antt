-- A store that holds its budget of nodes has a budget below the game's need.
use Rattle.std.proofs.Common.{◌≡◌, ℕ, zero, suc, ◌+◌, ◌*◌, ◌^◌, ◌<◌, ◌≤◌, pos, ◌-ℤ◌, ◌≤ℤ◌, Bool, true, false, not, cond, List, [], ◌∷◌, ◌++◌, map, Option, Some, None, Result, Err, refl, sym, ◌∙◌, ap, subst, inl, inr, arith}
use Rattle.std.specs.Prelude.{sum_by}
use Rattle.std.proofs.lemmas.Int.{ints}
use Rattle.std.proofs.lemmas.Nat.{mul-pow, pow-add}
use Rattle.std.proofs.lemmas.List.Sums.{sum_by-cons}
use Rattle.std.proofs.lemmas.Bool.{cases_lt}
use Rattle.spec_model.specs.Values.{DomainData}
use Rattle.spec_model.specs.Syntax.{VariableData}
use Rattle.spec_model.specs.Games.{GameData, HiddenData}
use Rattle.spec_model.specs.GameViews.{game_data}
use Rattle.spec_model.specs.Moves.{is_env, domains_of}
use Rattle.spec_model.specs.Sizes.{domain_size}
use Rattle.spec_model.specs.Needs.{bits_for}
use Rattle.regions.specs.declared.types.Halt.{Halt}
use Rattle.node_table.specs.Table.{Table}
use Rattle.bdd_store.specs.State.{IsFilled}
use Rattle.region_bdd.proofs.FewNodes.{few_nodes}
use Rattle.bit_compile.specs.Domains.{table_domain, state_domains, level_count}
use Rattle.bit_compile.proofs.DomainLemmas.{size-whole}
use Rattle.region_bdd.specs.declared.object.RegionBdd.{RegionBdd}
use Rattle.region_bdd.specs.declared.own.Refused.{Refused}
use Rattle.region_bdd.specs.Needs.{bits_of_game, need_of_game, IsTight}
use Rattle.region_bdd.specs.Seen.{seen}
use Rattle.region_bdd.proofs.BoundLaws.{bound_most}

-- ---- the levels of a game are the present and next bits of a state

level_count-append : (ds es : List DomainData) → level_count (ds ++ es) ≡ level_count ds + level_count es
level_count-append [] es = let e : level_count es ≡ 0 + level_count es = omega arith in e
level_count-append (d ∷ ds) es = let rest = level_count-append ds es in omega (arith, rest)

table_size : (h : HiddenData) → domain_size (table_domain h) ≡ h.values
table_size h = elim (cases_lt 0 h.values) [
  | inl some ↦
      let rises : pos 0 ≤ℤ (pos h.values -ℤ pos 1) = omega (arith, ints, some) in
      size-whole (pos 0) (pos h.values -ℤ pos 1) rises ∙ omega (arith, ints, some)
  | inr none ↦ none_at h.values none
]
  where
    none_at : (n : ℕ) → n ≤ 0 → domain_size (table_domain (record h { values = n })) ≡ n
    none_at zero none = refl
    none_at (suc n) none = absurd (omega (arith, none))

table_levels : (hs : List HiddenData) → level_count (map table_domain hs) ≡ 2 * sum_by (λ h. bits_for h.values) hs
table_levels [] = refl
table_levels (h ∷ hs) =
    let rest = table_levels hs in
    let here = ap bits_for (table_size h) in
    let sums = sum_by-cons (λ (h : HiddenData). bits_for h.values) h hs in
    omega (arith, rest, here, sums)

variable_levels : (vs : List VariableData) → level_count (domains_of is_env vs) + level_count (domains_of (λ o. not (is_env o)) vs) ≡ 2 * sum_by (λ v. bits_for (domain_size v.domain)) vs
variable_levels [] = refl
variable_levels (v ∷ vs) = by_owner (is_env v.owner) (domains_of is_env vs) (domains_of (λ o. not (is_env o)) vs) (variable_levels vs)
  where
    by_owner : (b : Bool) (ds es : List DomainData) → level_count ds + level_count es ≡ 2 * sum_by (λ v. bits_for (domain_size v.domain)) vs →
        level_count (cond b (v.domain ∷ ds) ds) + level_count (cond (not b) (v.domain ∷ es) es) ≡ 2 * sum_by (λ v. bits_for (domain_size v.domain)) (v ∷ vs)
    by_owner true ds es rest = let sums = sum_by-cons (λ (v : VariableData). bits_for (domain_size v.domain)) v vs in omega (arith, rest, sums)
    by_owner false ds es rest = let sums = sum_by-cons (λ (v : VariableData). bits_for (domain_size v.domain)) v vs in omega (arith, rest, sums)

levels_are : (g : GameData) → level_count (state_domains g) ≡ bits_of_game g + bits_of_game g
levels_are g =
    let all = level_count-append (map table_domain g.hidden) (domains_of is_env g.variables ++ domains_of (λ o. not (is_env o)) g.variables) in
    let moves = level_count-append (domains_of is_env g.variables) (domains_of (λ o. not (is_env o)) g.variables) in
    let tables = table_levels g.hidden in
    let variables = variable_levels g.variables in
    omega (arith, all, moves, tables, variables)

-- 4 to the power of the bits is 2 to that of the levels
fours : (b : ℕ) → 2 ^ (b + b) ≡ 4 ^ b
fours b = pow-add 2 b b ∙ sym (mul-pow 2 2 b)

-- ---- a budget that is reached

-- a halt is the same in results of any type
pub same_halt : {V W : Type 0} {e f : Halt} → ◌≡◌ {A = Result V Halt} (Err e) (Err f) → ◌≡◌ {A = Result W Halt} (Err e) (Err f)
same_halt {V} {W} {e} {f} is = let one : e ≡ f = cc (is) in ap (λ (x : Halt). Err x) one

pub below_need : (g : GameData) (budget levels : ℕ) → levels ≡ level_count (state_domains g) → budget ≤ 2 ^ (2 ^ levels) → budget < need_of_game g
below_need g budget levels are few =
    let same : 2 ^ (2 ^ levels) ≡ 2 ^ (4 ^ bits_of_game g) = ap (λ n. 2 ^ (2 ^ n)) (are ∙ levels_are g) ∙ ap (λ n. 2 ^ n) (fours (bits_of_game g)) in
    omega (arith, few, same)

-- a store over the game's levels that holds its budget of nodes
pub filled_below_need : (g : GameData) (t : Table) (budget levels : ℕ) → t.budget ≡ budget → t.levels ≡ levels → levels ≡ level_count (state_domains g) → IsFilled t → budget < need_of_game g
filled_below_need g t budget levels bound same are filled =
    let few = few_nodes t filled in
    below_need g budget t.levels (same ∙ are) (omega (arith, few, bound))

-- an object of which a call was refused for want of budget
pub jammed_below_need : (o : RegionBdd) → ((seen o).jam ≡ None → ⊥) → (seen o).bound < need_of_game (seen o).game
jammed_below_need o jammed = at o.refused refl
  where
    at : (refused : Option Refused) → o.refused ≡ refused → (seen o).bound < need_of_game (seen o).game
    at None is = absurd (jammed (rw is refl))
    at (Some r) is =
        let tight = subst (λ (refused : Option Refused). IsTight refused o.diagrams.state.table) is o.whole.tight in
        let most = bound_most o.diagrams in
        below_need (game_data o.game) (seen o).bound o.diagrams.state.table.levels o.whole.fits.levels (omega (arith, tight, most))
