-- Definitions that only use another one: what a use comes to is the use of the last one in a chain of such.
use Rattle.std.specs.Prelude.{◌≡◌, ℕ, zero, suc, ◌==◌, Bool, true, false, ◌&&◌, List, Option, Some, None, get_or}
use Rattle.spectra_resolved.specs.declared.tree.Hole.{Hole}
use Rattle.spectra_resolved.specs.declared.tree.Hole.TheVariants as hole
use Rattle.spectra_resolved.specs.declared.tree.Leaf.{Leaf}
use Rattle.spectra_resolved.specs.declared.tree.Leaf.TheVariants as leaf
use Rattle.spectra_resolved.specs.Resolved.{ResolvedTree, tree, Form, ResolvedTrees}
use Rattle.spectra_elaboration.specs.declared.last.Last.{Last}
use Rattle.spectra_elaboration.specs.Putting.{Bodies, body_of}

-- a parameter, by its place
abbrev pub form_is_parameter : ℕ → Form → Bool
form_is_parameter place (Form.LeafOf (leaf.Parameter k)) = k == place
form_is_parameter place _ = false

abbrev pub is_parameter : ℕ → ResolvedTree → Bool
is_parameter place (tree first at form) = form_is_parameter place form

-- the parameters from a place on, in order
abbrev pub are_parameters : ℕ → ResolvedTrees → Bool
are_parameters place ResolvedTrees.none = true
are_parameters place (ResolvedTrees.one_more t ts) = is_parameter place t && are_parameters (suc place) ts

abbrev pub how_many : ResolvedTrees → ℕ
how_many ResolvedTrees.none = zero
how_many (ResolvedTrees.one_more t ts) = suc (how_many ts)

-- the definition that an expression with so many parameters around it uses with these in order, where it does nothing else
abbrev pub only : Bool → Last → Option Last
only true next = Some next
only false next = None

abbrev pub leaf_next : Leaf → Option Last
leaf_next (leaf.Define k) = Some (record { number = k; hole = hole.Anything; count = zero; deep = suc zero })
leaf_next _ = None

abbrev pub form_next : Form → Option Last
form_next (Form.LeafOf l) = leaf_next l
form_next (Form.PredicateOf k ts) = only (are_parameters zero ts) (record { number = k; hole = hole.Truth; count = how_many ts; deep = suc zero })
form_next _ = None

abbrev pub tree_next : ResolvedTree → Option Last
tree_next (tree first at form) = form_next form

abbrev pub next_of : Option ResolvedTree → Option Last
next_of (Some body) = tree_next body
next_of None = None

-- the use of a definition, with so many arguments, goes to that of another one in so many bodies
abbrev pub same_hole : Hole → Hole → Bool
same_hole hole.Anything hole.Anything = true
same_hole hole.Truth hole.Truth = true
same_hole _ _ = false

abbrev pub one_is : (Last → Bool) → Option Last → Bool
one_is test (Some next) = test next
one_is test None = false

abbrev pub leads : Bodies → (count number : ℕ) → Hole → (deep : ℕ) → Hole → ℕ → Bool
leads b count number fills zero h k = same_hole h fills && (k == number)
leads b count number fills (suc deep) h k = one_is (λ next. (next.count == count) && leads b count number fills deep next.hole next.number) (next_of (body_of b k))

abbrev pub IsLast : Bodies → ℕ → Last → Type 0
IsLast b k last = (h : Hole) → leads b last.count last.number last.hole last.deep h k ≡ true

-- what is known of definitions is right
abbrev pub AreLast : Bodies → List (Option Last) → Type 0
AreLast b ls = (k : ℕ) (last : Last) → get_or ls k None ≡ Some last → IsLast b k last
