-- Lists of resolved trees.
use Rattle.std.proofs.Common.{Box, Vec, Global, rules, ◌≡◌, ◌==◌, Bool, true, false, if◌then◌else◌, suc, List, [], ◌∷◌, ◌++◌, length, map, Option, Some, None, refl, ap, sym, ◌∙◌, append-nil}
use Rattle.spectra_resolved.specs.declared.spot.Spot.{Spot}
use Rattle.spectra_resolved.specs.declared.tree.Link.{Link}
use Rattle.spectra_resolved.specs.declared.tree.Resolved.{Resolved, Resolved-F, fold-roll-Resolved}
use Rattle.spectra_resolved.specs.declared.tree.Resolved.TheFolds.{fold-Link, fold_out-Link}
use Rattle.spectra_resolved.specs.declared.tree.Resolved.TheVariants as variants
use Rattle.spectra_resolved.specs.declared.tree.Resolved.TheVariants.{rolls-Chain}
use Rattle.spectra_resolved.specs.declared.tree.Times.{Times}
use Rattle.spectra_resolved.specs.declared.tree.Regex as regex
use Rattle.spectra_resolved.specs.declared.tree.Regex.{Regex, the_lemmas as regex_lemmas}
use Rattle.spectra_resolved.specs.declared.tree.Misuse.TheVariants as misuse
use Rattle.spectra_resolved.specs.declared.table.Named.{Named}
use Rattle.spectra_resolved.specs.declared.table.Named.TheVariants as names
use Rattle.spectra_resolved.specs.Resolved.{ResolvedTree, ResolvedTrees, Form, listed}
use Rattle.spectra_resolved.specs.Chained.{LinkData, trees, chained, repeated}
use Rattle.spectra_resolved.specs.Views.{resolved_data, link_data, resolved_step, shape_step, link_step, regex_data}
use Rattle.spectra_resolved.specs.Resolving.{call_form, read_form, index_form, fault_of, form_misuses, misuses, misuses_of_each}
use Rattle.spectra_resolved.specs.Findings.{fault}
use Rattle.spectra_resolved.specs.Misused.{own_misuse}

pub count_of_trees : (vs : List Resolved) → length (listed (trees (map resolved_data vs))) ≡ length vs
count_of_trees [] = refl
count_of_trees (v ∷ vs) = ap suc (count_of_trees vs)

pub trees-listed : (ts : ResolvedTrees) → trees (listed ts) ≡ ts
trees-listed ResolvedTrees.none = refl
trees-listed (ResolvedTrees.one_more t ts) = ap (ResolvedTrees.one_more t) (trees-listed ts)

-- the misuses of a name without parentheses are its own
pub read-misuses : (at : Spot) (n : Option Named) → form_misuses at (read_form n) ≡ own_misuse at (read_form n)
read-misuses at (Some (names.Leaf leaf)) = refl
read-misuses at (Some (names.Array k n)) = refl
read-misuses at (Some (names.Predicate k arity)) = refl
read-misuses at (Some (names.Pattern k arity)) = refl
read-misuses at (Some (names.Type k)) = refl
read-misuses at (Some names.Plain) = refl
read-misuses at None = refl

-- those of a name with arguments are its own and the arguments'
pub call-misuses : (at : Spot) (n : Option Named) (ts : ResolvedTrees) → form_misuses at (call_form n ts) ≡ own_misuse at (call_form n ts) ++ misuses_of_each ts
call-misuses at (Some (names.Leaf leaf)) ts = refl
call-misuses at (Some (names.Array k n)) ts = refl
call-misuses at (Some (names.Predicate k arity)) ts = by (length (listed ts) == arity)
  where
    by : (b : Bool) → form_misuses at (if b then Form.PredicateOf k ts else Form.MisuseOf (misuse.Arity k) ts) ≡ own_misuse at (if b then Form.PredicateOf k ts else Form.MisuseOf (misuse.Arity k) ts) ++ misuses_of_each ts
    by true = refl
    by false = refl
call-misuses at (Some (names.Pattern k arity)) ts = refl
call-misuses at (Some (names.Type k)) ts = refl
call-misuses at (Some names.Plain) ts = refl
call-misuses at None ts = refl

-- those of a name with an index are its own and the index's
pub index-misuses : (at : Spot) (n : Option Named) (t : ResolvedTree) → form_misuses at (index_form n t) ≡ own_misuse at (index_form n t) ++ misuses t
index-misuses at (Some (names.Array k n)) t = refl
index-misuses at (Some (names.Leaf leaf)) t = ap (λ fs. fault (fault_of (misuse.Called leaf)) at ∷ fs) (append-nil (misuses t))
index-misuses at (Some (names.Predicate k arity)) t = ap (λ fs. fault (fault_of (misuse.Bare k)) at ∷ fs) (append-nil (misuses t))
index-misuses at (Some (names.Pattern k arity)) t = ap (λ fs. fault (fault_of misuse.Unknown) at ∷ fs) (append-nil (misuses t))
index-misuses at (Some (names.Type k)) t = ap (λ fs. fault (fault_of misuse.Unknown) at ∷ fs) (append-nil (misuses t))
index-misuses at (Some names.Plain) t = ap (λ fs. fault (fault_of misuse.Unknown) at ∷ fs) (append-nil (misuses t))
index-misuses at None t = ap (λ fs. fault (fault_of misuse.Unknown) at ∷ fs) (append-nil (misuses t))

link-folded : (l : Link) → fold-Link ResolvedTree Form LinkData resolved_step shape_step link_step l ≡ link_data l
link-folded l = fold_out-Link ResolvedTree Form LinkData resolved_step shape_step link_step l

-- a tree with operators behind it
pub chain_data : (head : Box Resolved Global) (links : Vec Link Global) → resolved_data (variants.Chain head links) ≡ chained (resolved_data head.value) (map link_data links.items)
chain_data head links =
    ap resolved_data (sym (rolls-Chain head links))
    ∙ fold-roll-Resolved ResolvedTree Form LinkData resolved_step shape_step link_step (Resolved-F.Chain head links)
    ∙ (λ i. chained (resolved_data head.value) (map (λ l. link-folded l i) links.items))

-- a part with repeats behind it
pub repeat_data : (part : Box Regex Global) (times : Vec Times Global) → regex_data (regex.Repeat part times) ≡ repeated (regex_data part.value) times.items
repeat_data part times = search (rules, regex_lemmas)
