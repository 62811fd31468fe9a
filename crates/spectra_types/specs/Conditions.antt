-- What is asked of what a text's variables have at each position: where an element of an array is read, a value of their domain.
use Rattle.std.specs.Prelude.{◌≡◌, ℕ, Bool, true, false, ◌||◌, List, Some, IsTrue, slice_get}
use Rattle.std.specs.List.{list_any}
use Rattle.spec_model.specs.Values.{same_value, values_of}
use Rattle.spec_model.specs.Syntax.{VariableData}
use Rattle.spec_model.specs.Meaning.{Reading}
use Rattle.spectra_resolved.specs.Resolved.{ResolvedTree, tree, Form, ResolvedTrees}
use Rattle.spectra_resolved.specs.Texts.{ResolvedDefinition, ResolvedLine, ResolvedText}
use Rattle.spectra_lines.specs.Contents.{trees_in}

-- ---- arrays

-- whether an element of an array is read
abbrev mutual
  pub has_index : ResolvedTree → Bool
  has_index (tree first at form) = form_indexed form

  pub form_indexed : Form → Bool
  form_indexed (Form.LeafOf l) = false
  form_indexed (Form.PredicateOf k ts) = some_indexed ts
  form_indexed (Form.MisuseOf m ts) = some_indexed ts
  form_indexed (Form.Next t) = has_index t
  form_indexed (Form.Prefix word t) = has_index t
  form_indexed (Form.Binary word a b) = has_index a || has_index b
  form_indexed (Form.Mod t number_at n) = has_index t
  form_indexed (Form.And ts operators) = some_indexed ts
  form_indexed (Form.Or ts operators) = some_indexed ts
  form_indexed (Form.Index first n t) = true
  form_indexed (Form.Quantified word variable extent low high ts) = has_index low || (has_index high || some_indexed ts)

  pub some_indexed : ResolvedTrees → Bool
  some_indexed ResolvedTrees.none = false
  some_indexed (ResolvedTrees.one_more t ts) = has_index t || some_indexed ts

-- so it is somewhere in a text's definitions or lines
abbrev pub reads_elements : ResolvedText → Bool
reads_elements text =
    list_any (λ (d : ResolvedDefinition). has_index d.body) text.definitions || list_any (λ (l : ResolvedLine). list_any has_index (trees_in l.body)) text.lines

-- ---- readings

-- each variable has a value of its domain at each position
abbrev pub HaveValues : List VariableData → Reading → Type 0
HaveValues vs r = (k : ℕ) (v : VariableData) → slice_get vs k ≡ Some v → (p : ℕ) → IsTrue (list_any (same_value (r.variable k p)) (values_of v.domain))

-- so it is asked where an element is read, since a number that no element has isn't an index then
abbrev pub FitsText : ResolvedText → List VariableData → Reading → Type 0
FitsText text vs r = reads_elements text ≡ true → HaveValues vs r
