-- Definitions that give back a parameter as it is: what a use comes to is that argument.
use Rattle.std.specs.Prelude.{◌≡◌, ℕ, zero, suc, ◌-◌, ◌==◌, nat_lt, nat_le, Bool, true, false, ◌&&◌, List, Option, Some, None, get_or}
use Rattle.spectra_resolved.specs.declared.tree.Leaf.{Leaf}
use Rattle.spectra_resolved.specs.declared.tree.Leaf.TheVariants as leaf
use Rattle.spectra_resolved.specs.Resolved.{ResolvedTree, tree, Form, ResolvedTrees}
use Rattle.spectra_elaboration.specs.declared.given.Given.{Given}
use Rattle.spectra_elaboration.specs.Putting.{Bodies, body_of}

-- a definition that gives back a parameter where bodies may stand in one another so deep, and the place of that
abbrev pub is_within : (deep : ℕ) → Option Given → Bool
is_within deep (Some g) = nat_le g.deep deep
is_within deep None = false

abbrev pub place_of : Option Given → ℕ
place_of (Some g) = g.place
place_of None = 0

abbrev pub leaf_gives : (place : ℕ) → Leaf → Bool
leaf_gives place (leaf.Parameter k) = k == place
leaf_gives place _ = false

-- whether an expression comes to a parameter, by what is known of the definitions in it, where bodies may stand in one another so deep
abbrev mutual
  pub gives : List (Option Given) → (deep place : ℕ) → ResolvedTree → Bool
  gives gs deep place (tree first at form) = form_gives gs deep place form

  pub form_gives : List (Option Given) → (deep place : ℕ) → Form → Bool
  form_gives gs deep place (Form.LeafOf l) = leaf_gives place l
  form_gives gs deep place (Form.PredicateOf k ts) = is_within deep (get_or gs k None) && operand_gives gs deep place (place_of (get_or gs k None)) ts
  form_gives gs deep place (Form.MisuseOf m ts) = false
  form_gives gs deep place (Form.Next t) = false
  form_gives gs deep place (Form.Prefix word t) = false
  form_gives gs deep place (Form.Binary word a b) = false
  form_gives gs deep place (Form.Mod t number_at n) = false
  form_gives gs deep place (Form.And ts operators) = false
  form_gives gs deep place (Form.Or ts operators) = false
  form_gives gs deep place (Form.Index first n t) = false
  form_gives gs deep place (Form.Quantified word variable extent low high ts) = false

  pub operand_gives : List (Option Given) → (deep place : ℕ) → (i : ℕ) → ResolvedTrees → Bool
  operand_gives gs deep place i ResolvedTrees.none = false
  operand_gives gs deep place zero (ResolvedTrees.one_more t ts) = gives gs deep place t
  operand_gives gs deep place (suc i) (ResolvedTrees.one_more t ts) = operand_gives gs deep place i ts

-- a definition's body comes to that parameter, where bodies may stand in it one less deep
abbrev pub is_given : List (Option Given) → Option ResolvedTree → Given → Bool
is_given gs None g = false
is_given gs (Some body) g = nat_lt 0 g.deep && gives gs (g.deep - 1) g.place body

-- what is known of definitions is right
abbrev pub AreGiven : Bodies → List (Option Given) → Type 0
AreGiven b gs = (k : ℕ) (g : Given) → get_or gs k None ≡ Some g → is_given gs (body_of b k) g ≡ true
