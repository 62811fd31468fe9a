-- Where an expression has no fault as it is written, no argument becomes a hole.
use Rattle.std.proofs.Common.{◌≡◌, ℕ, Bool, true, false, not, ◌&&◌, ◌||◌, if◌then◌else◌, List, [], ◌∷◌, ◌++◌, drop, get_or, Option, Some, None, refl, ap, ◌∙◌}
use Rattle.std.proofs.lemmas.Bool.{false≢true, and_parts}
use Rattle.spectra_resolved.specs.declared.spot.Spot.{Spot}
use Rattle.spectra_resolved.specs.declared.spot.Mark.{Mark}
use Rattle.spectra_resolved.specs.declared.tree.Leaf.{Leaf}
use Rattle.spectra_resolved.specs.declared.tree.Leaf.TheVariants as leaf
use Rattle.spectra_resolved.specs.Resolved.{ResolvedTree, tree, Form, ResolvedTrees}
use Rattle.spectra_judge.specs.Findings.{fault_if}
use Rattle.spectra_judge.specs.Kinds.{Kind, Anything, is_truth, is_whole, is_outside, can_equal}
use Rattle.spectra_judge.specs.Operators.{is_past, is_past_prefix}
use Rattle.spectra_judge.specs.declared.standing.Bans.{Bans}
use Rattle.spectra_judge.specs.Standings.{bans_of, is_wanted}
use Rattle.spectra_judge.specs.declared.around.Around.{Around}
use Rattle.spectra_judge.specs.Around.{nothing_open, under_next, in_bound, within, in_bounds, next_faults, shifted, variable_faults}
use Rattle.spectra_judge.specs.Known.{Known, Setting, is_system, wanted}
use Rattle.spectra_judge.specs.Judged.{kind_of, first_of, wrong, binary_faults, remainder_faults, operator_faults, leaf_faults, index_faults, is_wrong, faults, form_faults, operand_faults, bound_faults, copy_faults, argument_faults}
use Rattle.spectra_holes.specs.Holed.{is_some_fault, own_bans, is_faulty, is_anything, is_lost, hole_for, part_holed, form_holed, each_holed, arguments_holed}
use Rattle.spectra_holes.specs.HoleViews.{is_meant, form_meant, each_meant, arguments_meant}
use Rattle.spectra_holes.specs.Laws.{HoledStays}
use Rattle.spectra_judge.proofs.Empty.{not_empty, empty_parts, right}

both_empty : {X : Type 0} (xs ys : List X) → xs ≡ [] → ys ≡ [] → xs ++ ys ≡ []
both_empty xs ys e f = ap (λ zs. zs ++ ys) e ∙ f

-- ---- less is banned

module _ (known : Known) (bans : Bans) where
  abbrev s : Setting
  s = record { known = known; bans = bans }

  abbrev lifted : Setting
  lifted = record { known = known; bans = record bans { shifted_system = false; shifted_parameter = false } }

  nothing_shifted : (number : ℕ) (next : Option Mark) (at : Mark) → shifted false number next at ≡ []
  nothing_shifted number (Some next) at = refl
  nothing_shifted number None at = refl

  -- a variable that is read
  variable_fewer : (o : Around) (at : Mark) (own : Bool) → variable_faults bans o at own ≡ [] → variable_faults lifted.bans o at own ≡ []
  variable_fewer o at own none =
      let first = fault_if bans.variable 9 at.spot in
      let second = fault_if (bans.system && own) 13 at.spot in
      let third = shifted (bans.shifted_system && own) 12 o.next at in
      let fewer = shifted false 12 o.next at in
      let last = in_bounds true 9 o at in
      let parts = empty_parts first (second ++ (third ++ last)) none in
      let more = empty_parts second (third ++ last) parts.1 in
      let rest = empty_parts third last more.1 in
      both_empty first (second ++ (fewer ++ last)) parts.0 (both_empty second (fewer ++ last) more.0 (both_empty fewer last (nothing_shifted 12 o.next at) rest.1))

  leaf_fewer : (l : Leaf) (o : Around) (at : Mark) → leaf_faults s o at l ≡ [] → leaf_faults lifted o at l ≡ []
  leaf_fewer (leaf.Variable k) o at none = variable_fewer o at (is_system known k) none
  leaf_fewer (leaf.Parameter k) o at none =
      let first = fault_if (bans.variable || bans.parameter) 9 at.spot in
      let last = in_bounds bans.bound_parameter 9 o at in
      let parts = empty_parts first (shifted bans.shifted_parameter 10 o.next at ++ last) none in
      let more = empty_parts (shifted bans.shifted_parameter 10 o.next at) last parts.1 in
      both_empty first (shifted false 10 o.next at ++ last) parts.0 (both_empty (shifted false 10 o.next at) last (nothing_shifted 10 o.next at) more.1)
  leaf_fewer (leaf.Truth b) o at none = none
  leaf_fewer (leaf.Number z) o at none = none
  leaf_fewer (leaf.EnumName n) o at none = none
  leaf_fewer (leaf.Own k) o at none = none
  leaf_fewer (leaf.Define k) o at none = none
  leaf_fewer (leaf.Bound p) o at none = none
  leaf_fewer (leaf.Hole h) o at none = none

  mutual
    fewer : (t : ResolvedTree) (o : Around) → faults s o t ≡ [] → faults lifted o t ≡ []
    fewer (tree first at form) o none = form_fewer form o at none

    form_fewer : (form : Form) (o : Around) (at : Mark) → form_faults s o at form ≡ [] → form_faults lifted o at form ≡ []
    form_fewer (Form.LeafOf l) o at none = leaf_fewer l o at none
    form_fewer (Form.PredicateOf k ts) o at none = arguments_fewer ts o (wanted known (Some k)) none
    form_fewer (Form.MisuseOf m ts) o at none = absurd (not_empty _ _ none)
    form_fewer (Form.Next t) o at none =
        let parts = empty_parts (next_faults bans o at) (faults s (under_next at o) t) none in
        both_empty (next_faults bans o at) (faults lifted (under_next at o) t) parts.0 (fewer t (under_next at o) parts.1)
    form_fewer (Form.Prefix word t) o at none =
        let inner = within (is_past_prefix word) at o in
        let own = operator_faults s (is_past_prefix word) o.next at in
        let last = wrong (is_truth (kind_of known t)) at.spot in
        let parts = empty_parts own (faults s inner t ++ last) none in
        let more = empty_parts (faults s inner t) last parts.1 in
        both_empty own (faults lifted inner t ++ last) parts.0 (both_empty (faults lifted inner t) last (fewer t inner more.0) more.1)
    form_fewer (Form.Binary word a b) o at none =
        let inner = within (is_past word) at o in
        let own = operator_faults s (is_past word) o.next at in
        let last = binary_faults word (kind_of known a) (kind_of known b) at.spot in
        let parts = empty_parts (faults s inner a) (own ++ (faults s inner b ++ last)) none in
        let more = empty_parts own (faults s inner b ++ last) parts.1 in
        let rest = empty_parts (faults s inner b) last more.1 in
        both_empty (faults lifted inner a) (own ++ (faults lifted inner b ++ last)) (fewer a inner parts.0)
        (both_empty own (faults lifted inner b ++ last) more.0 (both_empty (faults lifted inner b) last (fewer b inner rest.0) rest.1))
    form_fewer (Form.Mod t number_at n) o at none =
        let last = remainder_faults (kind_of known t) at.spot number_at n in
        let parts = empty_parts (faults s o t) last none in
        both_empty (faults lifted o t) last (fewer t o parts.0) parts.1
    form_fewer (Form.And ts operators) o at none = operands_fewer ts o at.spot (at.spot ∷ operators) none
    form_fewer (Form.Or ts operators) o at none = operands_fewer ts o at.spot (at.spot ∷ operators) none
    form_fewer (Form.Index first n t) o at none =
        let k = kind_of known t in
        let own = is_system known first in
        let last = wrong (is_whole k) (first_of t) ++ fault_if (is_outside n k) 25 at.spot in
        let parts = empty_parts (faults s o t) (variable_faults bans o at own ++ last) none in
        let more = empty_parts (variable_faults bans o at own) last parts.1 in
        both_empty (faults lifted o t) (variable_faults lifted.bans o at own ++ last) (fewer t o parts.0)
        (both_empty (variable_faults lifted.bans o at own) last (variable_fewer o at own more.0) more.1)
    form_fewer (Form.Quantified word variable extent low high ts) o at none =
        let own = fault_if (is_wrong extent) 14 at.spot in
        let parts = empty_parts (bound_faults s o at low high) (own ++ copy_faults s o ts) none in
        let more = empty_parts own (copy_faults s o ts) parts.1 in
        let inner = in_bound at o in
        let low_last = wrong (is_whole (kind_of known low)) (first_of low) in
        let high_last = wrong (is_whole (kind_of known high)) (first_of high) in
        let bounds = empty_parts (faults s inner low ++ low_last) (faults s inner high ++ high_last) parts.0 in
        let low_parts = empty_parts (faults s inner low) low_last bounds.0 in
        let high_parts = empty_parts (faults s inner high) high_last bounds.1 in
        both_empty (bound_faults lifted o at low high) (own ++ copy_faults lifted o ts)
        (both_empty (faults lifted inner low ++ low_last) (faults lifted inner high ++ high_last)
        (both_empty (faults lifted inner low) low_last (fewer low inner low_parts.0) low_parts.1)
        (both_empty (faults lifted inner high) high_last (fewer high inner high_parts.0) high_parts.1))
        (both_empty own (copy_faults lifted o ts) more.0 (copies_fewer ts o more.1))

    copies_fewer : (ts : ResolvedTrees) (o : Around) → copy_faults s o ts ≡ [] → copy_faults lifted o ts ≡ []
    copies_fewer ResolvedTrees.none o none = refl
    copies_fewer (ResolvedTrees.one_more t ts) o none =
        let own = wrong (is_truth (kind_of known t)) (first_of t) in
        let parts = empty_parts (faults s o t) (own ++ copy_faults s o ts) none in
        let more = empty_parts own (copy_faults s o ts) parts.1 in
        both_empty (faults lifted o t) (own ++ copy_faults lifted o ts) (fewer t o parts.0) (both_empty own (copy_faults lifted o ts) more.0 (copies_fewer ts o more.1))

    operands_fewer : (ts : ResolvedTrees) (o : Around) (at : Spot) (operators : List Spot) → operand_faults s o at operators ts ≡ [] → operand_faults lifted o at operators ts ≡ []
    operands_fewer ResolvedTrees.none o at operators none = refl
    operands_fewer (ResolvedTrees.one_more t ts) o at operators none =
        let own = wrong (is_truth (kind_of known t)) (get_or operators 0 at) in
        let parts = empty_parts (faults s o t) (own ++ operand_faults s o at (drop 1 operators) ts) none in
        let more = empty_parts own (operand_faults s o at (drop 1 operators) ts) parts.1 in
        both_empty (faults lifted o t) (own ++ operand_faults lifted o at (drop 1 operators) ts) (fewer t o parts.0)
        (both_empty own (operand_faults lifted o at (drop 1 operators) ts) more.0 (operands_fewer ts o at (drop 1 operators) more.1))

    arguments_fewer : (ts : ResolvedTrees) (o : Around) (kinds : List Kind) → argument_faults s o kinds ts ≡ [] → argument_faults lifted o kinds ts ≡ []
    arguments_fewer ResolvedTrees.none o kinds none = refl
    arguments_fewer (ResolvedTrees.one_more t ts) o kinds none =
        let own = wrong (can_equal (get_or kinds 0 Anything) (kind_of known t)) (first_of t) in
        let parts = empty_parts (faults s o t) (own ++ argument_faults s o (drop 1 kinds) ts) none in
        let more = empty_parts own (argument_faults s o (drop 1 kinds) ts) parts.1 in
        both_empty (faults lifted o t) (own ++ argument_faults lifted o (drop 1 kinds) ts) (fewer t o parts.0)
        (both_empty own (argument_faults lifted o (drop 1 kinds) ts) more.0 (arguments_fewer ts o (drop 1 kinds) more.1))

  -- ---- an argument without faults

  not_faulty : (t : ResolvedTree) (o : Around) → faults s o t ≡ [] → is_faulty s o t ≡ false
  not_faulty t o none = by o.next
    where
      by : (next : Option Mark) → is_some_fault (faults (record s { bans = own_bans next bans }) o t) ≡ false
      by (Some next) = ap is_some_fault (fewer t o none)
      by None = ap is_some_fault none

  not_lost : (t : ResolvedTree) (o : Around) (k : Kind) → not (is_anything k) ≡ true → can_equal k (kind_of known t) ≡ true → faults s o t ≡ [] → is_lost s o k t ≡ false
  not_lost t o k meant fits none = by (is_anything k) meant ∙ (λ i. not (fits i) || not_faulty t o none i)
    where
      by : (b : Bool) → not b ≡ true → (b || (not (can_equal k (kind_of known t)) || is_faulty s o t)) ≡ (not (can_equal k (kind_of known t)) || is_faulty s o t)
      by true e = absurd (false≢true e)
      by false e = refl

  mutual
    part_stays : (t : ResolvedTree) (o : Around) → is_meant known t ≡ true → faults s o t ≡ [] → part_holed s o t ≡ t
    part_stays (tree first at form) o meant none = ap (tree first at) (form_stays form o at meant none)

    form_stays : (form : Form) (o : Around) (at : Mark) → form_meant known form ≡ true → form_faults s o at form ≡ [] → form_holed s o at form ≡ form
    form_stays (Form.LeafOf l) o at meant none = refl
    form_stays (Form.PredicateOf k ts) o at meant none = ap (Form.PredicateOf k) (arguments_stay ts o (wanted known (Some k)) meant none)
    form_stays (Form.MisuseOf m ts) o at meant none = absurd (not_empty _ _ none)
    form_stays (Form.Next t) o at meant none =
        let parts = empty_parts (next_faults bans o at) (faults s (under_next at o) t) none in
        ap Form.Next (part_stays t (under_next at o) meant parts.1)
    form_stays (Form.Prefix word t) o at meant none =
        let inner = within (is_past_prefix word) at o in
        let parts = empty_parts (operator_faults s (is_past_prefix word) o.next at) (faults s inner t ++ wrong (is_truth (kind_of known t)) at.spot) none in
        let more = empty_parts (faults s inner t) (wrong (is_truth (kind_of known t)) at.spot) parts.1 in
        ap (Form.Prefix word) (part_stays t inner meant more.0)
    form_stays (Form.Binary word a b) o at meant none =
        let inner = within (is_past word) at o in
        let own = operator_faults s (is_past word) o.next at in
        let last = binary_faults word (kind_of known a) (kind_of known b) at.spot in
        let parts = empty_parts (faults s inner a) (own ++ (faults s inner b ++ last)) none in
        let more = empty_parts own (faults s inner b ++ last) parts.1 in
        let rest = empty_parts (faults s inner b) last more.1 in
        let means = and_parts _ _ meant in
        (λ i. Form.Binary word (part_stays a inner means.0 parts.0 i) (part_stays b inner means.1 rest.0 i))
    form_stays (Form.Mod t number_at n) o at meant none =
        let parts = empty_parts (faults s o t) (remainder_faults (kind_of known t) at.spot number_at n) none in
        ap (λ u. Form.Mod u number_at n) (part_stays t o meant parts.0)
    form_stays (Form.And ts operators) o at meant none = ap (λ us. Form.And us operators) (each_stays ts o at.spot (at.spot ∷ operators) meant none)
    form_stays (Form.Or ts operators) o at meant none = ap (λ us. Form.Or us operators) (each_stays ts o at.spot (at.spot ∷ operators) meant none)
    form_stays (Form.Index first n t) o at meant none =
        let parts = empty_parts (faults s o t) (index_faults s o at first n (kind_of known t) (first_of t)) none in
        ap (Form.Index first n) (part_stays t o meant parts.0)
    form_stays (Form.Quantified word variable extent low high ts) o at meant none =
        let own = fault_if (is_wrong extent) 14 at.spot in
        let parts = empty_parts (bound_faults s o at low high) (own ++ copy_faults s o ts) none in
        let more = empty_parts own (copy_faults s o ts) parts.1 in
        let inner = in_bound at o in
        let low_last = wrong (is_whole (kind_of known low)) (first_of low) in
        let high_last = wrong (is_whole (kind_of known high)) (first_of high) in
        let bounds = empty_parts (faults s inner low ++ low_last) (faults s inner high ++ high_last) parts.0 in
        let low_parts = empty_parts (faults s inner low) low_last bounds.0 in
        let high_parts = empty_parts (faults s inner high) high_last bounds.1 in
        let means = and_parts _ _ meant in
        let behind = and_parts _ _ means.1 in
        (λ i. Form.Quantified word variable extent (part_stays low inner means.0 low_parts.0 i) (part_stays high inner behind.0 high_parts.0 i) (copies_stay ts o behind.1 more.1 i))

    copies_stay : (ts : ResolvedTrees) (o : Around) → each_meant known ts ≡ true → copy_faults s o ts ≡ [] → each_holed s o ts ≡ ts
    copies_stay ResolvedTrees.none o meant none = refl
    copies_stay (ResolvedTrees.one_more t ts) o meant none =
        let own = wrong (is_truth (kind_of known t)) (first_of t) in
        let parts = empty_parts (faults s o t) (own ++ copy_faults s o ts) none in
        let more = empty_parts own (copy_faults s o ts) parts.1 in
        let means = and_parts _ _ meant in
        (λ i. ResolvedTrees.one_more (part_stays t o means.0 parts.0 i) (copies_stay ts o means.1 more.1 i))

    each_stays : (ts : ResolvedTrees) (o : Around) (at : Spot) (operators : List Spot) → each_meant known ts ≡ true → operand_faults s o at operators ts ≡ [] → each_holed s o ts ≡ ts
    each_stays ResolvedTrees.none o at operators meant none = refl
    each_stays (ResolvedTrees.one_more t ts) o at operators meant none =
        let own = wrong (is_truth (kind_of known t)) (get_or operators 0 at) in
        let parts = empty_parts (faults s o t) (own ++ operand_faults s o at (drop 1 operators) ts) none in
        let more = empty_parts own (operand_faults s o at (drop 1 operators) ts) parts.1 in
        let means = and_parts _ _ meant in
        (λ i. ResolvedTrees.one_more (part_stays t o means.0 parts.0 i) (each_stays ts o at (drop 1 operators) means.1 more.1 i))

    arguments_stay : (ts : ResolvedTrees) (o : Around) (kinds : List Kind) → arguments_meant known kinds ts ≡ true → argument_faults s o kinds ts ≡ [] → arguments_holed s o kinds ts ≡ ts
    arguments_stay ResolvedTrees.none o kinds meant none = refl
    arguments_stay (ResolvedTrees.one_more t ts) o kinds meant none =
        let k = get_or kinds 0 Anything in
        let fits = can_equal k (kind_of known t) in
        let parts = empty_parts (faults s o t) (wrong fits (first_of t) ++ argument_faults s o (drop 1 kinds) ts) none in
        let more = empty_parts (wrong fits (first_of t)) (argument_faults s o (drop 1 kinds) ts) parts.1 in
        let means = and_parts _ _ meant in
        let inner = and_parts _ _ means.1 in
        let stays = not_lost t o k means.0 (right fits (first_of t) more.0) parts.0 in
        (λ i. ResolvedTrees.one_more (if stays i then hole_for t else part_holed s o t) (arguments_stay ts o (drop 1 kinds) inner.1 more.1 i))
        ∙ ap (λ u. ResolvedTrees.one_more u ts) (part_stays t o inner.0 parts.0)

pub holed_stays : HoledStays
holed_stays known stand t meant none =
    let bans = bans_of stand in
    let parts = empty_parts (faults (record { known = known; bans = bans }) nothing_open t) (wrong (is_wanted stand (kind_of known t)) (first_of t)) none in
    part_stays known bans t nothing_open meant parts.0
