-- Expressions without misused names, and where in them what stands.
use Rattle.std.specs.Prelude.{◌≡◌, ℕ, ◌==◌, nat_lt, Bool, true, false, ◌&&◌, List, length, get_or, Some, slice_get}
use Rattle.spectra_resolved.specs.declared.tree.Leaf.{Leaf}
use Rattle.spectra_resolved.specs.declared.tree.Leaf.TheVariants as leaf
use Rattle.spectra_resolved.specs.Resolved.{ResolvedTree, tree, Form, ResolvedTrees, listed}
use Rattle.spectra_judge.specs.PutIn.{Parts, seen_inside}

-- The use of a definition with so many arguments. `arities` has for each definition how many parameters it has.
abbrev pub is_use : (arities : List ℕ) → (number arguments : ℕ) → Bool
is_use arities k n = nat_lt k (length arities) && (get_or arities k 0 == n)

-- a define, one of so many parameters, or a part that passes a test
abbrev pub is_written_leaf : (arities : List ℕ) → Parts → (params : ℕ) → Leaf → Bool
is_written_leaf arities good params (leaf.Define k) = is_use arities k 0
is_written_leaf arities good params (leaf.Parameter k) = nat_lt k params
is_written_leaf arities good params l = good.leaf l

-- An expression of a line, or of a body with so many parameters: no name is misused, and each part without parts is one of these.
abbrev mutual
  pub is_written : (arities : List ℕ) → Parts → (params : ℕ) → ResolvedTree → Bool
  is_written arities good params (tree first at form) = form_written arities good params form

  pub form_written : (arities : List ℕ) → Parts → (params : ℕ) → Form → Bool
  form_written arities good params (Form.LeafOf l) = is_written_leaf arities good params l
  form_written arities good params (Form.PredicateOf k ts) = is_use arities k (length (listed ts)) && each_written arities good params ts
  form_written arities good params (Form.MisuseOf m ts) = false
  form_written arities good params (Form.Next t) = is_written arities good params t
  form_written arities good params (Form.Prefix word t) = is_written arities good params t
  form_written arities good params (Form.Binary word a b) = is_written arities good params a && is_written arities good params b
  form_written arities good params (Form.Mod t number_at n) = is_written arities good params t
  form_written arities good params (Form.And ts operators) = each_written arities good params ts
  form_written arities good params (Form.Or ts operators) = each_written arities good params ts
  form_written arities good params (Form.Index first n t) = good.array first n && is_written arities good params t
  form_written arities good params (Form.Quantified word variable extent low high ts) =
      is_written arities good params low && (is_written arities good params high && each_written arities (seen_inside extent variable good) params ts)

  pub each_written : (arities : List ℕ) → Parts → (params : ℕ) → ResolvedTrees → Bool
  each_written arities good params ResolvedTrees.none = true
  each_written arities good params (ResolvedTrees.one_more t ts) = is_written arities good params t && each_written arities good params ts

-- so are the bodies of all definitions
pub record AreWritten (arities : List ℕ) (good : Parts) (bodies : List ResolvedTree) : Type 0 where
  pub size : length arities ≡ length bodies
  pub each : (k : ℕ) (body : ResolvedTree) → slice_get bodies k ≡ Some body → is_written arities good (get_or arities k 0) body ≡ true
