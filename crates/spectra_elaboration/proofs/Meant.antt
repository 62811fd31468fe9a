-- Where no parameter's type is without meaning, an expression without faults stays as it is written.
use Rattle.std.proofs.Common.{◌≡◌, ℕ, suc, ◌==◌, ◌<◌, nat_lt, Bool, true, false, not, ◌&&◌, List, [], ◌∷◌, length, get_or, refl, sym, ap, ◌∙◌, arith}
use Rattle.std.proofs.lemmas.Bool.{false≢true, and_parts, and_from}
use Rattle.std.proofs.lemmas.Bool.Decides.{nat_tests}
use Rattle.spectra_resolved.specs.Resolved.{ResolvedTree, tree, Form, ResolvedTrees, listed}
use Rattle.spectra_judge.specs.Kinds.{Kind, Anything}
use Rattle.spectra_judge.specs.Known.{Known}
use Rattle.spectra_judge.specs.PutIn.{Parts, seen_inside}
use Rattle.spectra_holes.specs.Holed.{is_anything}
use Rattle.spectra_holes.specs.HoleViews.{is_meant, form_meant, each_meant, arguments_meant}
use Rattle.spectra_holes.proofs.Stays.{holed_stays}
use Rattle.spectra_elaboration.specs.Written.{is_use, is_written, form_written, each_written}
use Rattle.spectra_elaboration.specs.Laws.{HasMeantParameters, HoledIsAsWritten}

module _ (arities : List ℕ) (params : ℕ) (known : Known) (meant : HasMeantParameters arities known) where
  mutual
    tree_meant : (good : Parts) (t : ResolvedTree) → is_written arities good params t ≡ true → is_meant known t ≡ true
    tree_meant good (tree first at form) e = form_is_meant good form e

    form_is_meant : (good : Parts) (form : Form) → form_written arities good params form ≡ true → form_meant known form ≡ true
    form_is_meant good (Form.LeafOf l) e = refl
    form_is_meant good (Form.PredicateOf k ts) e =
        let parts = and_parts (is_use arities k (length (listed ts))) (each_written arities good params ts) e in
        let use' = and_parts (nat_lt k (length arities)) (get_or arities k 0 == length (listed ts)) parts.0 in
        let count : get_or arities k 0 ≡ length (listed ts) = (let is = use'.1 in grind (arith, nat_tests)) in
        arguments_are good (get_or known.predicates k []) ts (meant.kinds k) (sym count ∙ sym (meant.counts k)) parts.1
    form_is_meant good (Form.MisuseOf m ts) e = absurd (false≢true e)
    form_is_meant good (Form.Next t) e = tree_meant good t e
    form_is_meant good (Form.Prefix word t) e = tree_meant good t e
    form_is_meant good (Form.Binary word a b) e =
        let parts = and_parts (is_written arities good params a) (is_written arities good params b) e in
        and_from (is_meant known a) (is_meant known b) (tree_meant good a parts.0) (tree_meant good b parts.1)
    form_is_meant good (Form.Mod t number_at n) e = tree_meant good t e
    form_is_meant good (Form.And ts operators) e = each_is_meant good ts e
    form_is_meant good (Form.Or ts operators) e = each_is_meant good ts e
    form_is_meant good (Form.Index array n t) e = tree_meant good t (and_parts (good.array array n) (is_written arities good params t) e).1
    form_is_meant good (Form.Quantified word variable extent low high ts) e =
        let inside = seen_inside extent variable good in
        let parts = and_parts (is_written arities good params low) (is_written arities good params high && each_written arities inside params ts) e in
        let more = and_parts (is_written arities good params high) (each_written arities inside params ts) parts.1 in
        and_from (is_meant known low) (is_meant known high && each_meant known ts) (tree_meant good low parts.0)
        (and_from (is_meant known high) (each_meant known ts) (tree_meant good high more.0) (each_is_meant inside ts more.1))

    each_is_meant : (good : Parts) (ts : ResolvedTrees) → each_written arities good params ts ≡ true → each_meant known ts ≡ true
    each_is_meant good ResolvedTrees.none e = refl
    each_is_meant good (ResolvedTrees.one_more t ts) e =
        let parts = and_parts (is_written arities good params t) (each_written arities good params ts) e in
        and_from (is_meant known t) (each_meant known ts) (tree_meant good t parts.0) (each_is_meant good ts parts.1)

    arguments_are : (good : Parts) (kinds : List Kind) (ts : ResolvedTrees) → ((place : ℕ) → place < length kinds → is_anything (get_or kinds place Anything) ≡ false) → length (listed ts) ≡ length kinds
        → each_written arities good params ts ≡ true → arguments_meant known kinds ts ≡ true
    arguments_are good kinds ResolvedTrees.none all same e = refl
    arguments_are good [] (ResolvedTrees.one_more t ts) all same e = absurd (omega (arith, same))
    arguments_are good (k ∷ ks) (ResolvedTrees.one_more t ts) all same e =
        let parts = and_parts (is_written arities good params t) (each_written arities good params ts) e in
        and_from (not (is_anything k)) (is_meant known t && arguments_meant known ks ts) (ap not (all 0 (omega arith)))
        (and_from (is_meant known t) (arguments_meant known ks ts) (tree_meant good t parts.0) (arguments_are good ks ts (λ place below. all (suc place) (omega (arith, below))) (omega (arith, same)) parts.1))

pub holed_is_as_written : HoledIsAsWritten
holed_is_as_written arities good params known stand meant t e none = holed_stays known stand t (tree_meant arities params known meant good t e) none
