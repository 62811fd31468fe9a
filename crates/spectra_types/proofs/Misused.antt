-- An expression without faults where it stands has no misused name.
use Rattle.std.proofs.Common.{◌≡◌, List, [], ◌∷◌, ◌++◌, Some, drop, refl}
use Rattle.spectra_resolved.specs.declared.spot.Spot.{Spot}
use Rattle.spectra_resolved.specs.declared.spot.Mark.{Mark}
use Rattle.spectra_resolved.specs.declared.stand.Stand.{Stand}
use Rattle.spectra_resolved.specs.Resolved.{ResolvedTree, tree, Form, ResolvedTrees}
use Rattle.spectra_resolved.specs.Resolving.{misuses, form_misuses, misuses_of_each}
use Rattle.spectra_judge.specs.Kinds.{Kind, is_whole}
use Rattle.spectra_judge.specs.Operators.{is_past, is_past_prefix}
use Rattle.spectra_judge.specs.Standings.{bans_of}
use Rattle.spectra_judge.specs.declared.around.Around.{Around}
use Rattle.spectra_judge.specs.Around.{nothing_open, under_next, in_bound, within, next_faults}
use Rattle.spectra_judge.specs.Known.{Known, Setting, wanted}
use Rattle.spectra_judge.specs.Judged.{kind_of, first_of, wrong, operator_faults, faults, form_faults, operand_faults, bound_faults, copy_faults, argument_faults, faults_of}
use Rattle.spectra_judge.proofs.Empty.{not_empty, empty_parts}

module _ (s : Setting) where
  mutual
    none_in : (o : Around) (t : ResolvedTree) → faults s o t ≡ [] → misuses t ≡ []
    none_in o (tree first at form) none = form_none o at form none

    form_none : (o : Around) (at : Mark) (form : Form) → form_faults s o at form ≡ [] → form_misuses at.spot form ≡ []
    form_none o at (Form.LeafOf l) none = refl
    form_none o at (Form.PredicateOf k ts) none = arguments_none o (wanted s.known (Some k)) ts none
    form_none o at (Form.MisuseOf m ts) none = absurd (not_empty _ _ none)
    form_none o at (Form.Next t) none = none_in (under_next at o) t (empty_parts (next_faults s.bans o at) _ none).1
    form_none o at (Form.Prefix word t) none =
        let inner = within (is_past_prefix word) at o in
        let behind = empty_parts (operator_faults s (is_past_prefix word) o.next at) _ none in none_in inner t (empty_parts (faults s inner t) _ behind.1).0
    form_none o at (Form.Binary word a b) none =
        let inner = within (is_past word) at o in
        let left = empty_parts (faults s inner a) _ none in
        let behind = empty_parts (operator_faults s (is_past word) o.next at) _ left.1 in
        let right = empty_parts (faults s inner b) _ behind.1 in (λ i. none_in inner a left.0 i ++ none_in inner b right.0 i)
    form_none o at (Form.Mod t number_at n) none = none_in o t (empty_parts (faults s o t) _ none).0
    form_none o at (Form.And ts operators) none = operands_none o at.spot (at.spot ∷ operators) ts none
    form_none o at (Form.Or ts operators) none = operands_none o at.spot (at.spot ∷ operators) ts none
    form_none o at (Form.Index first n t) none = none_in o t (empty_parts (faults s o t) _ none).0
    form_none o at (Form.Quantified word variable extent low high ts) none =
        let bounds = empty_parts (bound_faults s o at low high) _ none in
        let both = empty_parts (faults s (in_bound at o) low ++ wrong (is_whole (kind_of s.known low)) (first_of low)) _ bounds.0 in
        let left = empty_parts (faults s (in_bound at o) low) _ both.0 in
        let right = empty_parts (faults s (in_bound at o) high) _ both.1 in
        let inside = empty_parts _ (copy_faults s o ts) bounds.1 in
        (λ i. none_in (in_bound at o) low left.0 i ++ (none_in (in_bound at o) high right.0 i ++ copies_none o ts inside.1 i))

    operands_none : (o : Around) (at : Spot) (operators : List Spot) (ts : ResolvedTrees) → operand_faults s o at operators ts ≡ [] → misuses_of_each ts ≡ []
    operands_none o at operators ResolvedTrees.none none = refl
    operands_none o at operators (ResolvedTrees.one_more t ts) none =
        let here = empty_parts (faults s o t) _ none in
        let more = empty_parts _ (operand_faults s o at (drop 1 operators) ts) here.1 in (λ i. none_in o t here.0 i ++ operands_none o at (drop 1 operators) ts more.1 i)

    copies_none : (o : Around) (ts : ResolvedTrees) → copy_faults s o ts ≡ [] → misuses_of_each ts ≡ []
    copies_none o ResolvedTrees.none none = refl
    copies_none o (ResolvedTrees.one_more t ts) none =
        let here = empty_parts (faults s o t) _ none in let more = empty_parts _ (copy_faults s o ts) here.1 in (λ i. none_in o t here.0 i ++ copies_none o ts more.1 i)

    arguments_none : (o : Around) (kinds : List Kind) (ts : ResolvedTrees) → argument_faults s o kinds ts ≡ [] → misuses_of_each ts ≡ []
    arguments_none o kinds ResolvedTrees.none none = refl
    arguments_none o kinds (ResolvedTrees.one_more t ts) none =
        let here = empty_parts (faults s o t) _ none in
        let more = empty_parts _ (argument_faults s o (drop 1 kinds) ts) here.1 in (λ i. none_in o t here.0 i ++ arguments_none o (drop 1 kinds) ts more.1 i)

pub no_misuse : (known : Known) (st : Stand) (t : ResolvedTree) → faults_of known st t ≡ [] → misuses t ≡ []
no_misuse known st t none =
    let s : Setting = record { known = known; bans = bans_of st } in none_in s nothing_open t (empty_parts (faults s nothing_open t) _ none).0
