-- The numbers of bounds are within their spans, which aren't wide.
use Rattle.std.proofs.Common.{◌≡◌, ℕ, zero, suc, ℤ, pos, ◌+ℤ◌, ◌-ℤ◌, ◌*ℤ◌, Bool, true, false, if◌then◌else◌, List, [], ◌∷◌, Option, Some, None, is_some, length, map, get_or, refl, sym, ap, subst, ◌∙◌, arith}
use Rattle.std.specs.Prelude.{int_le, int_lt}
use Rattle.std.specs.List.{enumerate_from}
use Rattle.std.specs.Int.{int_rem_euclid}
use Rattle.std.proofs.lemmas.Int.{ints, clamps}
use Rattle.std.proofs.lemmas.Bool.{false≢true}
use Rattle.spec_model.proofs.AllStates.{Every}
use Rattle.spectra_trees.specs.declared.tree.BinaryWord.{BinaryWord}
use Rattle.spectra_trees.specs.declared.tree.BinaryWord.TheVariants as binary
use Rattle.spectra_resolved.specs.declared.spot.Spot.{Spot}
use Rattle.spectra_resolved.specs.declared.spot.Mark.{Mark}
use Rattle.spectra_resolved.specs.declared.stand.Stand.{Stand}
use Rattle.spectra_resolved.specs.declared.stand.Stand.TheVariants as stand
use Rattle.spectra_resolved.specs.declared.tree.Leaf.{Leaf}
use Rattle.spectra_resolved.specs.declared.tree.Leaf.TheVariants as leaf
use Rattle.spectra_resolved.specs.declared.findings.Finding.{Finding}
use Rattle.spectra_resolved.specs.Findings.{precedes, with_faults}
use Rattle.spectra_resolved.specs.Resolved.{ResolvedTree, tree, Form}
use Rattle.spectra_resolved.specs.Texts.{ResolvedDefinition}
use Rattle.spectra_judge.specs.Findings.{fault_if}
use Rattle.spectra_judge.specs.Kinds.{Kind, Whole, Anything, is_whole, is_wide, added, subtracted, multiplied, reduced}
use Rattle.spectra_judge.specs.Operators.{is_past, takes, gives}
use Rattle.spectra_judge.specs.Standings.{bans_of}
use Rattle.spectra_judge.specs.declared.around.Around.{Around}
use Rattle.spectra_judge.specs.Around.{nothing_open, within}
use Rattle.spectra_judge.specs.Known.{Setting}
use Rattle.spectra_judge.specs.Judged.{leaf_kind, kind_of, form_kind, wrong, wide, binary_faults, operator_faults, leaf_faults, faults, form_faults, faults_of}
use Rattle.spectra_judge.proofs.Empty.{empty_parts, no_fault}
use Rattle.spectra_judge.proofs.Spans.{IsNear}
use Rattle.spectra_uses.specs.Uses.{all_uses}
use Rattle.spectra_bounds.specs.ByUses.{is_on_cycle, made_to_depth}
use Rattle.spectra_copies.specs.Numbers.{capped_number, both, joined_number, remainder_number, leaf_number, number_in, form_number}
use Rattle.spectra_bounds.specs.Numbers.{Constants, known_constants, is_faulty, sound_number, Constant, no_constant, each_of, constant_with, constant_of, constants}
use Rattle.spectra_meant.proofs.Within.{IsWithin, sum_within, difference_within, product_within, remainder_within, within_near}

pub record HasSpan (z : ℤ) (k : Kind) : Type 0 where
  pub within : IsWithin z k
  pub narrow : is_wide k ≡ false

pub none_some : {X : Type 0} {x : X} → None ≡ Some x → ⊥
none_some e = cc

pub same : (x z : ℤ) → Some x ≡ Some z → x ≡ z
same x z e = cc

pub capped-near : (z : ℤ) → IsNear z → capped_number z ≡ z
capped-near z is = let l = is.0 in let h = is.1 in omega (arith, ints, clamps)

-- what is capped there is the number itself
capped_has : (x z : ℤ) (k : Kind) → IsWithin x k → is_wide k ≡ false → Some (capped_number x) ≡ Some z → HasSpan z k
capped_has x z k is e at = subst (λ z. HasSpan z k) (sym (capped-near x (within_near x k is e)) ∙ same (capped_number x) z at) (record { within = is; narrow = e })

-- ---- one operation

module _ (join : ℤ → ℤ → ℤ) (spans : Kind → Kind → Kind) (keeps : (x y : ℤ) (j k : Kind) → IsWithin x j → IsWithin y k → is_wide (spans j k) ≡ false → IsWithin (join x y) (spans j k)) where
  joined_has : (a b : Option ℤ) (j k : Kind) (z : ℤ) → is_wide (spans j k) ≡ false → ((x : ℤ) → a ≡ Some x → HasSpan x j) → ((y : ℤ) → b ≡ Some y → HasSpan y k) → both join a b ≡ Some z → HasSpan z (spans j k)
  joined_has (Some x) (Some y) j k z e p q at = capped_has (join x y) z (spans j k) (keeps x y j k (p x refl).within (q y refl).within e) e at
  joined_has (Some x) None j k z e p q at = absurd (none_some at)
  joined_has None b j k z e p q at = absurd (none_some at)

operation : (word : BinaryWord) (a b : Option ℤ) (j k : Kind) (z : ℤ) → is_wide (gives word j k) ≡ false → ((x : ℤ) → a ≡ Some x → HasSpan x j) → ((y : ℤ) → b ≡ Some y → HasSpan y k) →
    joined_number word a b ≡ Some z → HasSpan z (gives word j k)
operation binary.Add a b j k z e p q at = joined_has (λ x y. x +ℤ y) added sum_within a b j k z e p q at
operation binary.Sub a b j k z e p q at = joined_has (λ x y. x -ℤ y) subtracted difference_within a b j k z e p q at
operation binary.Mul a b j k z e p q at = joined_has (λ x y. x *ℤ y) multiplied product_within a b j k z e p q at
operation binary.Implies a b j k z e p q at = absurd (none_some at)
operation binary.Iff a b j k z e p q at = absurd (none_some at)
operation binary.Since a b j k z e p q at = absurd (none_some at)
operation binary.Triggered a b j k z e p q at = absurd (none_some at)
operation binary.Eq a b j k z e p q at = absurd (none_some at)
operation binary.Ne a b j k z e p q at = absurd (none_some at)
operation binary.Lt a b j k z e p q at = absurd (none_some at)
operation binary.Le a b j k z e p q at = absurd (none_some at)
operation binary.Gt a b j k z e p q at = absurd (none_some at)
operation binary.Ge a b j k z e p q at = absurd (none_some at)

remainder_has : (n : ℤ) (a : Option ℤ) (z : ℤ) → is_wide (reduced n) ≡ false → remainder_number n a ≡ Some z → HasSpan z (reduced n)
remainder_has n None z e at = absurd (none_some at)
remainder_has n (Some x) z e at = by (int_lt (pos 0) n) refl at
  where
    by : (b : Bool) → int_lt (pos 0) n ≡ b → (if b then Some (int_rem_euclid x n) else None) ≡ Some z → HasSpan z (reduced n)
    by true some at = subst (λ z. HasSpan z (reduced n)) (same (int_rem_euclid x n) z at) (record { within = remainder_within n x some; narrow = e })
    by false some at = absurd (none_some at)

-- ---- expressions

-- each define's number is within its span
abbrev pub AreSpanned : Constants → Type 0
AreSpanned c = (k : ℕ) (z : ℤ) → get_or c.numbers k None ≡ Some z → HasSpan z (get_or c.kinds k Anything)

module _ (c : Constants) (spanned : AreSpanned c) (s : Setting) (known : s.known ≡ known_constants c.kinds) where
  leaf_has : (o : Around) (at : Mark) (l : Leaf) (z : ℤ) → leaf_faults s o at l ≡ [] → leaf_number c.numbers l ≡ Some z → HasSpan z (leaf_kind (known_constants c.kinds) l)
  leaf_has o at (leaf.Number n) z none is =
      capped_has n z (Whole n n) (record { low = n; high = n; is = refl; from_low = omega (arith, ints); to_high = omega (arith, ints) }) (no_fault (is_wide (Whole n n)) 14 at.spot none) is
  leaf_has o at (leaf.Define k) z none is = spanned k z is
  leaf_has o at (leaf.Truth b) z none is = absurd (none_some is)
  leaf_has o at (leaf.EnumName k) z none is = absurd (none_some is)
  leaf_has o at (leaf.Variable k) z none is = absurd (none_some is)
  leaf_has o at (leaf.Parameter k) z none is = absurd (none_some is)
  leaf_has o at (leaf.Own k) z none is = absurd (none_some is)
  leaf_has o at (leaf.Bound k) z none is = absurd (none_some is)
  leaf_has o at (leaf.Hole k) z none is = absurd (none_some is)

  not_wide : (k j : Kind) (at : Spot) → k ≡ j → wide k at ≡ [] → is_wide j ≡ false
  not_wide k j at same none = ap is_wide (sym same) ∙ no_fault (is_wide k) 14 at none

  mutual
    pub has : (o : Around) (t : ResolvedTree) (z : ℤ) → faults s o t ≡ [] → number_in c.numbers t ≡ Some z → HasSpan z (kind_of (known_constants c.kinds) t)
    has o (tree first at form) z none is = form_has o at form z none is

    form_has : (o : Around) (at : Mark) (form : Form) (z : ℤ) → form_faults s o at form ≡ [] → form_number c.numbers form ≡ Some z → HasSpan z (form_kind (known_constants c.kinds) form)
    form_has o at (Form.LeafOf l) z none is = leaf_has o at l z none is
    form_has o at (Form.Binary word a b) z none is =
        let inner = within (is_past word) at o in
        let first = empty_parts (faults s inner a) _ none in
        let more = empty_parts (operator_faults s (is_past word) o.next at) _ first.1 in
        let second = empty_parts (faults s inner b) (binary_faults word (kind_of s.known a) (kind_of s.known b) at.spot) more.1 in
        let last = empty_parts (wrong (takes word (kind_of s.known a) (kind_of s.known b)) at.spot) _ second.1 in
        operation word (number_in c.numbers a) (number_in c.numbers b) (kind_of (known_constants c.kinds) a) (kind_of (known_constants c.kinds) b) z
        (not_wide (gives word (kind_of s.known a) (kind_of s.known b)) _ at.spot (λ i. gives word (kind_of (known i) a) (kind_of (known i) b)) last.1)
        (λ x here. has inner a x first.0 here) (λ y here. has inner b y second.0 here) is
    form_has o at (Form.Mod t number_at n) z none is =
        let first = empty_parts (faults s o t) _ none in
        let more = empty_parts (wrong (is_whole (kind_of s.known t)) at.spot) _ first.1 in
        let last = empty_parts (fault_if (int_le n (pos 0)) 14 number_at) (wide (reduced n) at.spot) more.1 in
        remainder_has n (number_in c.numbers t) z (no_fault (is_wide (reduced n)) 14 at.spot last.1) is
    form_has o at (Form.PredicateOf k ts) z none is = absurd (none_some is)
    form_has o at (Form.MisuseOf m ts) z none is = absurd (none_some is)
    form_has o at (Form.Next t) z none is = absurd (none_some is)
    form_has o at (Form.Prefix word t) z none is = absurd (none_some is)
    form_has o at (Form.And ts operators) z none is = absurd (none_some is)
    form_has o at (Form.Or ts operators) z none is = absurd (none_some is)
    form_has o at (Form.Index first n t) z none is = absurd (none_some is)
    form_has o at (Form.Quantified word variable extent low high ts) z none is = absurd (none_some is)

still_some : (f : Finding) (fs : List Finding) → is_some (with_faults (Some f) fs) ≡ true
still_some f [] = refl
still_some f (g ∷ fs) = still_some (if precedes g f then g else f) fs

pub faultless : (fs : List Finding) → is_faulty fs ≡ false → fs ≡ []
faultless [] e = refl
faultless (f ∷ fs) e = absurd (false≢true (sym e ∙ still_some f fs))

-- a number of an expression without a fault
pub sound_has : (c : Constants) → AreSpanned c → (st : Stand) (t : ResolvedTree) (z : ℤ) → sound_number c st t ≡ Some z → HasSpan z (kind_of (known_constants c.kinds) t)
sound_has c spanned st t z is = by (is_faulty (faults_of (known_constants c.kinds) st t)) refl is
  where
    by : (b : Bool) → is_faulty (faults_of (known_constants c.kinds) st t) ≡ b → (if b then None else number_in c.numbers t) ≡ Some z → HasSpan z (kind_of (known_constants c.kinds) t)
    by true e is = absurd (none_some is)
    by false e is =
        let none = faultless (faults_of (known_constants c.kinds) st t) e in
        has c spanned (record { known = known_constants c.kinds; bans = bans_of st }) refl nothing_open t z (empty_parts (faults (record { known = known_constants c.kinds; bans = bans_of st }) nothing_open t) _ none).0 is

-- ---- defines

abbrev pub IsSpanned : Constant → Type 0
IsSpanned c = (z : ℤ) → c.number ≡ Some z → HasSpan z c.kind

pub all_spanned : (cs : List Constant) → Every IsSpanned cs → AreSpanned (each_of cs)
all_spanned [] all k z is = absurd (none_some is)
all_spanned (c ∷ cs) all zero z is = all.0 z is
all_spanned (c ∷ cs) all (suc k) z is = all_spanned cs all.1 k z is

one_spanned : (c : Constants) → AreSpanned c → (body : ResolvedTree) → IsSpanned (constant_of c body)
one_spanned c spanned body z = by (sound_number c stand.Define body) refl
  where
    by : (o : Option ℤ) → sound_number c stand.Define body ≡ o → (constant_with o (kind_of (known_constants c.kinds) body)).number ≡ Some z → HasSpan z (constant_with o (kind_of (known_constants c.kinds) body)).kind
    by (Some x) at is = subst (λ z. HasSpan z (kind_of (known_constants c.kinds) body)) (same x z is) (sound_has c spanned stand.Define body x at)
    by None at is = absurd (none_some is)

module _ (uses : List (List ℕ)) (ds : List ResolvedDefinition) where
  abbrev pub make : List Constant → ResolvedDefinition → Constant
  make known d = constant_of (each_of known) d.body

  each_spanned : (known : List Constant) → Every IsSpanned known → (es : List (ℕ × ResolvedDefinition)) → Every IsSpanned (map (λ (d : ℕ × ResolvedDefinition). if is_on_cycle uses d.0 then no_constant else make known d.1) es)
  each_spanned known all [] = tt
  each_spanned known all (e ∷ es) = (by (is_on_cycle uses e.0), each_spanned known all es)
    where
      by : (b : Bool) → IsSpanned (if b then no_constant else make known e.1)
      by true z is = absurd (none_some is)
      by false z is = one_spanned (each_of known) (all_spanned known all) e.1.body z is

  pub made_spanned : (deep : ℕ) → Every IsSpanned (made_to_depth uses no_constant make deep ds)
  made_spanned zero = tt
  made_spanned (suc deep) = each_spanned (made_to_depth uses no_constant make deep ds) (made_spanned deep) (enumerate_from 0 ds)

pub constants_spanned : (ds : List ResolvedDefinition) → AreSpanned (constants ds)
constants_spanned ds = all_spanned _ (made_spanned (all_uses ds) ds (length ds))

-- the number of a bound is near
pub bound_near : (ds : List ResolvedDefinition) (st : Stand) (t : ResolvedTree) (z : ℤ) → sound_number (constants ds) st t ≡ Some z → IsNear z
bound_near ds st t z is = let span = sound_has (constants ds) (constants_spanned ds) st t z is in within_near z _ span.within span.narrow
