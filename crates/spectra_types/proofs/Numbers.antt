-- The number of a bound is the value of its expression.
use Rattle.std.proofs.Common.{◌≡◌, ℕ, zero, suc, ◌+◌, ℤ, pos, ◌+ℤ◌, ◌-ℤ◌, ◌*ℤ◌, Bool, true, false, if◌then◌else◌, List, [], ◌∷◌, Option, Some, None, length, map, get_or, slice_get, refl, sym, ap, subst, ◌∙◌, arith}
use Rattle.std.specs.Prelude.{int_le, int_lt}
use Rattle.std.specs.List.{enumerate_from}
use Rattle.std.specs.Int.{int_rem_euclid}
use Rattle.std.proofs.lemmas.Int.{ints}
use Rattle.spec_model.specs.declared.value.Value.TheVariants as value
use Rattle.spec_model.specs.Values.{number_of}
use Rattle.spectra_trees.specs.declared.tree.BinaryWord.{BinaryWord}
use Rattle.spectra_trees.specs.declared.tree.BinaryWord.TheVariants as binary
use Rattle.spectra_resolved.specs.declared.spot.Mark.{Mark}
use Rattle.spectra_resolved.specs.declared.stand.Stand.{Stand}
use Rattle.spectra_resolved.specs.declared.stand.Stand.TheVariants as stand
use Rattle.spectra_resolved.specs.declared.tree.Leaf.{Leaf}
use Rattle.spectra_resolved.specs.declared.tree.Leaf.TheVariants as leaf
use Rattle.spectra_resolved.specs.Resolved.{ResolvedTree, tree, Form}
use Rattle.spectra_resolved.specs.Texts.{ResolvedDefinition}
use Rattle.spectra_judge.specs.Kinds.{Kind, Whole, Anything, is_whole, is_wide, added, subtracted, multiplied, reduced}
use Rattle.spectra_judge.specs.Findings.{fault_if}
use Rattle.spectra_judge.specs.Operators.{is_past, takes, gives}
use Rattle.spectra_judge.specs.Standings.{bans_of}
use Rattle.spectra_judge.specs.declared.around.Around.{Around}
use Rattle.spectra_judge.specs.Around.{nothing_open, within}
use Rattle.spectra_judge.specs.Known.{Setting}
use Rattle.spectra_judge.specs.Judged.{leaf_kind, kind_of, form_kind, wrong, wide, binary_faults, operator_faults, leaf_faults, faults, form_faults, faults_of}
use Rattle.spectra_judge.proofs.Empty.{empty_parts, no_fault}
use Rattle.spectra_uses.specs.Uses.{all_uses}
use Rattle.spectra_bounds.specs.ByUses.{is_on_cycle, made_to_depth}
use Rattle.spectra_copies.specs.Numbers.{capped_number, both, joined_number, remainder_number, leaf_number, number_in, form_number}
use Rattle.spectra_bounds.specs.Numbers.{Constants, known_constants, is_faulty, sound_number, Constant, no_constant, each_of, constant_with, constant_of, constants}
use Rattle.spectra_meant.proofs.Within.{IsWithin, sum_within, difference_within, product_within, remainder_within, within_near}
use Rattle.spectra_meant.proofs.Numbers.{HasSpan, AreSpanned, none_some, same, capped-near, faultless, all_spanned, make, made_spanned}
use Rattle.spectra_types.specs.Senses.{Sense, Senses, inside, leaf_sense, binary_sense, sense, form_sense}

-- the number of each define that has one is its value
abbrev pub AreNumbers : List (Option ℤ) → Senses → Type 0
AreNumbers numbers s = (k : ℕ) (z : ℤ) → get_or numbers k None ≡ Some z → (p : ℕ) → s.definition k [] p ≡ value.Int z

-- and is within the span of its uses
abbrev pub AreWithin : List (Option ℤ) → (defines : List Kind) → Type 0
AreWithin numbers defines = (k : ℕ) (z : ℤ) → get_or numbers k None ≡ Some z → HasSpan z (get_or defines k Anything)

-- a number within a span is the value
pub record Told (z : ℤ) (k : Kind) (u : Sense) : Type 0 where
  pub span : HasSpan z k
  pub value_is : (p : ℕ) → u p ≡ value.Int z

-- ---- one operation

-- a number of a span that isn't wide isn't capped
uncapped : (x z : ℤ) (k : Kind) → IsWithin x k → is_wide k ≡ false → Some (capped_number x) ≡ Some z → x ≡ z
uncapped x z k is e at = sym (capped-near x (within_near x k is e)) ∙ same (capped_number x) z at

-- an operand that has a number
abbrev Stands : Option ℤ → Kind → Sense → Type 0
Stands a k u = (x : ℤ) → a ≡ Some x → Told x k u

module _ (join : ℤ → ℤ → ℤ) (spans : Kind → Kind → Kind) (keeps : (x y : ℤ) (j k : Kind) → IsWithin x j → IsWithin y k → is_wide (spans j k) ≡ false → IsWithin (join x y) (spans j k)) where
  joined_is : (a b : Option ℤ) (j k : Kind) (u v : Sense) (z : ℤ) → is_wide (spans j k) ≡ false → Stands a j u → Stands b k v → both join a b ≡ Some z →
      Told z (spans j k) (λ p. value.Int (join (number_of (u p)) (number_of (v p))))
  joined_is (Some x) (Some y) j k u v z e first second at =
      let one = first x refl in
      let other = second y refl in
      let inner = keeps x y j k one.span.within other.span.within e in
      let is = uncapped (join x y) z (spans j k) inner e at in
      record {
        span = subst (λ z. HasSpan z (spans j k)) is (record { within = inner; narrow = e });
        value_is = λ p. (λ i. value.Int (join (number_of (one.value_is p i)) (number_of (other.value_is p i)))) ∙ ap (λ n. value.Int n) is;
      }
  joined_is (Some x) None j k u v z e first second at = absurd (none_some at)
  joined_is None b j k u v z e first second at = absurd (none_some at)

operation_is : (word : BinaryWord) (a b : Option ℤ) (j k : Kind) (u v : Sense) (z : ℤ) → is_wide (gives word j k) ≡ false → Stands a j u → Stands b k v → joined_number word a b ≡ Some z →
    Told z (gives word j k) (binary_sense word u v)
operation_is binary.Add a b j k u v z e first second at = joined_is (λ x y. x +ℤ y) added sum_within a b j k u v z e first second at
operation_is binary.Sub a b j k u v z e first second at = joined_is (λ x y. x -ℤ y) subtracted difference_within a b j k u v z e first second at
operation_is binary.Mul a b j k u v z e first second at = joined_is (λ x y. x *ℤ y) multiplied product_within a b j k u v z e first second at
operation_is binary.Implies a b j k u v z e first second at = absurd (none_some at)
operation_is binary.Iff a b j k u v z e first second at = absurd (none_some at)
operation_is binary.Since a b j k u v z e first second at = absurd (none_some at)
operation_is binary.Triggered a b j k u v z e first second at = absurd (none_some at)
operation_is binary.Eq a b j k u v z e first second at = absurd (none_some at)
operation_is binary.Ne a b j k u v z e first second at = absurd (none_some at)
operation_is binary.Lt a b j k u v z e first second at = absurd (none_some at)
operation_is binary.Le a b j k u v z e first second at = absurd (none_some at)
operation_is binary.Gt a b j k u v z e first second at = absurd (none_some at)
operation_is binary.Ge a b j k u v z e first second at = absurd (none_some at)

remainder_is : (m : ℤ) (a : Option ℤ) (u : Sense) (z : ℤ) → is_wide (reduced m) ≡ false → ((x : ℤ) → a ≡ Some x → (p : ℕ) → u p ≡ value.Int x) → remainder_number m a ≡ Some z →
    Told z (reduced m) (λ p. value.Int (int_rem_euclid (number_of (u p)) m))
remainder_is m None u z e is at = absurd (none_some at)
remainder_is m (Some x) u z e is at = by (int_lt (pos 0) m) refl at
  where
    by : (b : Bool) → int_lt (pos 0) m ≡ b → (if b then Some (int_rem_euclid x m) else None) ≡ Some z → Told z (reduced m) (λ p. value.Int (int_rem_euclid (number_of (u p)) m))
    by false some at = absurd (none_some at)
    by true some at =
        let one = same (int_rem_euclid x m) z at in
        record {
          span = subst (λ z. HasSpan z (reduced m)) one (record { within = remainder_within m x some; narrow = e });
          value_is = λ p. (λ i. value.Int (int_rem_euclid (number_of (is x refl p i)) m)) ∙ ap (λ n. value.Int n) one;
        }

-- ---- expressions

module _ (numbers : List (Option ℤ)) (set : Setting) (within_spans : AreWithin numbers set.known.defines) (s : Senses) (are_numbers : AreNumbers numbers s) where
  leaf_is : (o : Around) (at : Mark) (l : Leaf) (z : ℤ) → leaf_faults set o at l ≡ [] → leaf_number numbers l ≡ Some z → Told z (leaf_kind set.known l) (leaf_sense s l)
  leaf_is o at (leaf.Number m) z none is =
      let narrow_here = no_fault (is_wide (Whole m m)) 14 at.spot none in
      let inner : IsWithin m (Whole m m) = record { low = m; high = m; is = refl; from_low = omega (arith, ints); to_high = omega (arith, ints) } in
      let one = uncapped m z (Whole m m) inner narrow_here is in
      record { span = subst (λ z. HasSpan z (Whole m m)) one (record { within = inner; narrow = narrow_here }); value_is = λ p. ap (λ n. value.Int n) one }
  leaf_is o at (leaf.Define k) z none is = record { span = within_spans k z is; value_is = are_numbers k z is }
  leaf_is o at (leaf.Truth b) z none is = absurd (none_some is)
  leaf_is o at (leaf.EnumName k) z none is = absurd (none_some is)
  leaf_is o at (leaf.Variable k) z none is = absurd (none_some is)
  leaf_is o at (leaf.Parameter k) z none is = absurd (none_some is)
  leaf_is o at (leaf.Own k) z none is = absurd (none_some is)
  leaf_is o at (leaf.Bound variable) z none is = absurd (none_some is)
  leaf_is o at (leaf.Hole k) z none is = absurd (none_some is)

  mutual
    -- the number of an expression without a fault is its value
    pub number_is : (o : Around) (t : ResolvedTree) (z : ℤ) → faults set o t ≡ [] → number_in numbers t ≡ Some z → Told z (kind_of set.known t) (sense s t)
    number_is o (tree first at form) z none is = let told = form_is o at form z none is in record { span = told.span; value_is = told.value_is }

    form_is : (o : Around) (at : Mark) (form : Form) (z : ℤ) → form_faults set o at form ≡ [] → form_number numbers form ≡ Some z → Told z (form_kind set.known form) (form_sense s form)
    form_is o at (Form.LeafOf l) z none is = let told = leaf_is o at l z none is in record { span = told.span; value_is = told.value_is }
    form_is o at (Form.Binary word a b) z none is =
        let inner = within (is_past word) at o in
        let first = empty_parts (faults set inner a) _ none in
        let more = empty_parts (operator_faults set (is_past word) o.next at) _ first.1 in
        let second = empty_parts (faults set inner b) (binary_faults word (kind_of set.known a) (kind_of set.known b) at.spot) more.1 in
        let last = empty_parts (wrong (takes word (kind_of set.known a) (kind_of set.known b)) at.spot) _ second.1 in
        let j = kind_of set.known a in
        let k = kind_of set.known b in
        let told =
        operation_is word (number_in numbers a) (number_in numbers b) j k (λ q. sense s a q) (λ q. sense s b q) z (no_fault (is_wide (gives word j k)) 14 at.spot last.1)
        (λ x here. number_is inner a x first.0 here) (λ y here. number_is inner b y second.0 here) is in
        record { span = told.span; value_is = told.value_is }
    form_is o at (Form.Mod t number_at m) z none is =
        let first = empty_parts (faults set o t) _ none in
        let more = empty_parts (wrong (is_whole (kind_of set.known t)) at.spot) _ first.1 in
        let last = empty_parts (fault_if (int_le m (pos 0)) 14 number_at) (wide (reduced m) at.spot) more.1 in
        let told = remainder_is m (number_in numbers t) (λ q. sense s t q) z (no_fault (is_wide (reduced m)) 14 at.spot last.1) (λ x here. (number_is o t x first.0 here).value_is) is in
        record { span = told.span; value_is = told.value_is }
    form_is o at (Form.PredicateOf k ts) z none is = absurd (none_some is)
    form_is o at (Form.MisuseOf m ts) z none is = absurd (none_some is)
    form_is o at (Form.Next t) z none is = absurd (none_some is)
    form_is o at (Form.Prefix word t) z none is = absurd (none_some is)
    form_is o at (Form.And ts operators) z none is = absurd (none_some is)
    form_is o at (Form.Or ts operators) z none is = absurd (none_some is)
    form_is o at (Form.Index array count t) z none is = absurd (none_some is)
    form_is o at (Form.Quantified word variable extent low high ts) z none is = absurd (none_some is)

-- of an expression without a fault where it stands
sound_is : (c : Constants) → AreSpanned c → (s : Senses) → AreNumbers c.numbers s → (st : Stand) (t : ResolvedTree) (z : ℤ) → sound_number c st t ≡ Some z → (p : ℕ) → sense s t p ≡ value.Int z
sound_is c spanned s are_numbers st t z is = by (is_faulty (faults_of (known_constants c.kinds) st t)) refl is
  where
    by : (b : Bool) → is_faulty (faults_of (known_constants c.kinds) st t) ≡ b → (if b then None else number_in c.numbers t) ≡ Some z → (p : ℕ) → sense s t p ≡ value.Int z
    by true e is = absurd (none_some is)
    by false e is =
        let set : Setting = record { known = known_constants c.kinds; bans = bans_of st } in
        let none = faultless (faults_of (known_constants c.kinds) st t) e in
        (number_is c.numbers set spanned s are_numbers nothing_open t z (empty_parts (faults set nothing_open t) _ none).0 is).value_is

-- ---- defines

pub constant_is : (o : Option ℤ) (kind : Kind) (z : ℤ) → (constant_with o kind).number ≡ Some z → o ≡ Some z
constant_is (Some x) kind z is = is
constant_is None kind z is = is

module _ (ds : List ResolvedDefinition) (s : Senses) (bodies : (k : ℕ) (d : ResolvedDefinition) → slice_get ds k ≡ Some d → (p : ℕ) → s.definition k [] p ≡ sense (inside s []) d.body p) where
  abbrev uses : List (List ℕ)
  uses = all_uses ds

  -- a definition with its number
  abbrev made : List Constant → ℕ × ResolvedDefinition → Constant
  made known d = if is_on_cycle uses d.0 then no_constant else make uses ds known d.1

  each_numbered : (known : List Constant) → AreSpanned (each_of known) → AreNumbers (each_of known).numbers s → (es : List ResolvedDefinition) (n : ℕ) → ((k : ℕ) (d : ResolvedDefinition) → slice_get es k ≡ Some d → slice_get ds (n + k) ≡ Some d) →
      (k : ℕ) (z : ℤ) → get_or (each_of (map (made known) (enumerate_from n es))).numbers k None ≡ Some z → (p : ℕ) → s.definition (n + k) [] p ≡ value.Int z
  each_numbered known spanned numbered [] n there k z is p = absurd (none_some is)
  each_numbered known spanned numbered (d ∷ es) n there zero z is p = by (is_on_cycle uses n) is
    where
      by : (b : Bool) → (if b then no_constant else constant_of (each_of known) d.body).number ≡ Some z → s.definition (n + 0) [] p ≡ value.Int z
      by true is = absurd (none_some is)
      by false is =
          bodies (n + 0) d (there 0 d refl) p
          ∙ sound_is (each_of known) spanned (inside s []) numbered stand.Define d.body z (constant_is (sound_number (each_of known) stand.Define d.body) _ z is) p
  each_numbered known spanned numbered (d ∷ es) n there (suc k) z is p =
      let next : (j : ℕ) → n + suc j ≡ n + 1 + j = λ j. omega arith in
      ap (λ m. s.definition m [] p) (next k) ∙ each_numbered known spanned numbered es (n + 1) (λ j e at. ap (slice_get ds) (sym (next j)) ∙ there (suc j) e at) k z is p

  made_numbered : (deep : ℕ) → AreNumbers (each_of (made_to_depth uses no_constant (make uses ds) deep ds)).numbers s
  made_numbered zero k z is p = absurd (none_some is)
  made_numbered (suc deep) k z is p =
      let known = made_to_depth uses no_constant (make uses ds) deep ds in
      let all : (j : ℕ) → 0 + j ≡ j = λ j. omega arith in
      ap (λ m. s.definition m [] p) (sym (all k)) ∙ each_numbered known (all_spanned known (made_spanned uses ds deep)) (made_numbered deep) ds 0 (λ j e at. ap (slice_get ds) (all j) ∙ at) k z is p

  pub numbers_are : AreNumbers (constants ds).numbers s
  numbers_are = made_numbered (length ds)

  -- the number of a bound without a fault
  pub bound_is : (t : ResolvedTree) (z : ℤ) → sound_number (constants ds) stand.Bound t ≡ Some z → (p : ℕ) → sense s t p ≡ value.Int z
  bound_is t z is = sound_is (constants ds) (all_spanned _ (made_spanned uses ds (length ds))) s numbers_are stand.Bound t z is
