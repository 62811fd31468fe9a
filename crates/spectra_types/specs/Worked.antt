-- A worked example: with `define d := PREV(x);` and `predicate p(boolean y): y & next(y);`, the use `p(d)`.
use Rattle.std.specs.Prelude.{◌≡◌, ℕ, suc, false, ◌&&◌, [], ◌∷◌}
use Rattle.spec_model.specs.declared.value.Value.TheVariants as value
use Rattle.spec_model.specs.Values.{truth_of}
use Rattle.spec_model.specs.Meaning.{Reading}
use Rattle.spectra_trees.specs.declared.tree.PrefixWord.TheVariants as prefixes
use Rattle.spectra_resolved.specs.declared.spot.Spot.{Spot}
use Rattle.spectra_resolved.specs.declared.tree.Leaf.{Leaf}
use Rattle.spectra_resolved.specs.declared.tree.Leaf.TheVariants as leaf
use Rattle.spectra_resolved.specs.declared.text.DefinitionWord.TheVariants as words
use Rattle.spectra_resolved.specs.Spots.{in_text}
use Rattle.spectra_resolved.specs.Resolved.{ResolvedTree, tree, Form, ResolvedTrees}
use Rattle.spectra_resolved.specs.Texts.{Booleans, ResolvedDefinition}
use Rattle.spectra_types.specs.Senses.{Senses, sense}

-- places make no difference
module _ (o : Spot) where
  abbrev pub part : Leaf → ResolvedTree
  part l = tree o (in_text o) (Form.LeafOf l)

  -- x is the first variable, d the first definition and p the second
  abbrev pub worked_define : ResolvedDefinition
  worked_define = record { name = record { text = []; at = o }; word = words.Define; params = []; doubled = false; body = tree o (in_text o) (Form.Prefix prefixes.Prev (part (leaf.Variable 0))) }

  abbrev pub worked_predicate : ResolvedDefinition
  worked_predicate =
      record {
        name = record { text = []; at = o };
        word = words.Predicate;
        params = Booleans ∷ [];
        doubled = false;
        body = tree o (in_text o) (Form.And (ResolvedTrees.one_more (part (leaf.Parameter 0)) (ResolvedTrees.one_more (tree o (in_text o) (Form.Next (part (leaf.Parameter 0)))) ResolvedTrees.none)) (o ∷ []));
      }

  abbrev pub worked_use : ResolvedTree
  worked_use = tree o (in_text o) (Form.PredicateOf 1 (ResolvedTrees.one_more (part (leaf.Define 0)) ResolvedTrees.none))

-- At the first position it is false, since `PREV` is; at each later one it says that x held before and holds now, since the next
-- value of `PREV(x)` is the present one of x.
pub record IsWorked (o : Spot) (r : Reading) (s : Senses) : Type 0 where
  pub first : sense s (worked_use o) 0 ≡ value.Bool false
  pub later : (q : ℕ) → sense s (worked_use o) (suc q) ≡ value.Bool (truth_of (r.variable 0 q) && truth_of (r.variable 0 (suc q)))
