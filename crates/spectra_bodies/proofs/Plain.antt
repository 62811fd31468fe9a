-- A bound that has a number has no fault with everything put in.
use Rattle.std.proofs.Common.{◌≡◌, ◌⊎◌, inl, inr, ℕ, zero, suc, ◌+◌, ◌≤◌, ℤ, pos, ◌+ℤ◌, ◌-ℤ◌, ◌*ℤ◌, Bool, true, false, ◌&&◌, ◌||◌, if◌then◌else◌, List, [], ◌++◌, Option, Some, None, length, get_or, slice_get, refl, sym, ap, subst, ◌∙◌, arith}
use Rattle.std.specs.Prelude.{int_le}
use Rattle.std.specs.List.{enumerate_from}
use Rattle.std.proofs.Math.ListN as lists
use Rattle.std.proofs.lemmas.Bool.{false≢true, and_parts, and_from}
use Rattle.std.proofs.lemmas.List.{length-map, get_or-map, get_or_past}
use Rattle.std.proofs.lemmas.List.FromFn.{length-enumerate_from, get_or-enumerate_from}
use Rattle.std.proofs.lemmas.Option.{slice_get_cases, slice_get_within, get_or_from_slice_get}
use Rattle.spectra_trees.specs.Faults.{WideInt, number_of}
use Rattle.spectra_trees.specs.declared.tree.BinaryWord.{BinaryWord}
use Rattle.spectra_trees.specs.declared.tree.BinaryWord.TheVariants as binary
use Rattle.spectra_resolved.specs.declared.spot.Spot.{Spot}
use Rattle.spectra_resolved.specs.declared.spot.Mark.{Mark}
use Rattle.spectra_resolved.specs.declared.stand.Stand.{Stand}
use Rattle.spectra_resolved.specs.declared.stand.Stand.TheVariants as stand
use Rattle.spectra_resolved.specs.declared.tree.Leaf.{Leaf}
use Rattle.spectra_resolved.specs.declared.tree.Leaf.TheVariants as leaf
use Rattle.spectra_resolved.specs.declared.tree.Hole.TheVariants as hole
use Rattle.spectra_resolved.specs.Resolved.{ResolvedTree, tree, Form}
use Rattle.spectra_resolved.specs.Texts.{ResolvedDefinition, ResolvedText}
use Rattle.spectra_judge.specs.Findings.{fault_if}
use Rattle.spectra_judge.specs.Kinds.{Kind, Truth, Whole, SomeWhole, NameOf, OneName, Anything, is_whole, is_wide, added, subtracted, multiplied, reduced}
use Rattle.spectra_judge.specs.Operators.{is_past, takes, gives}
use Rattle.spectra_judge.specs.declared.standing.Bans.{Bans}
use Rattle.spectra_judge.specs.Standings.{no_bans, bans_of}
use Rattle.spectra_judge.specs.declared.around.Around.{Around}
use Rattle.spectra_judge.specs.Around.{nothing_open, within}
use Rattle.spectra_judge.specs.Known.{Known, Setting}
use Rattle.spectra_judge.specs.Judged.{leaf_kind, kind_of, form_kind, wrong, wide, first_of, binary_faults, operator_faults, leaf_faults, faults, form_faults, faults_of}
use Rattle.spectra_judge.proofs.Empty.{empty_parts, no_fault, right}
use Rattle.spectra_uses.specs.Uses.{all_uses}
use Rattle.spectra_bounds.specs.ByUses.{is_on_cycle, made_to_depth}
use Rattle.spectra_copies.specs.Numbers.{both, joined_number, remainder_number, leaf_number, number_in, form_number}
use Rattle.spectra_bounds.specs.Numbers.{Constants, known_constants, is_faulty, sound_number, Constant, no_constant, each_of, constant_with, constant_of, constants}
use Rattle.spectra_holes.specs.Holed.{part_holed, form_holed, holed}
use Rattle.spectra_copies.specs.Places.{placed, marked}
use Rattle.spectra_elaboration.specs.Putting.{Bodies, Put, hole_at, leaf_put, filled, form_filled, body_put, put_deep, with_bodies, put_in}
use Rattle.spectra_copies.specs.Levels.{within_limits}
use Rattle.spectra_copies.specs.Copies.{has_quantifier}
use Rattle.spectra_elaboration.proofs.WrittenOut.{plain_stays}
use Rattle.spectra_notes.specs.Notes.{stand_of, known_inside, noted}
use Rattle.spectra_bodies.specs.PutIn.{bodies, most_nodes, most_levels, is_shallow, made_faults, put_in_faults}
use Rattle.spectra_bodies.specs.SoundBounds.{HaveSoundBounds}
use Rattle.spectra_bodies.proofs.Inside.{no_body, some_body}
use Rattle.spectra_bodies.proofs.Meaning.{nothing_wrong}

none_some : {X : Type 0} {x : X} → None ≡ Some x → ⊥
none_some e = cc

-- ---- kinds that say less

-- a whole number whose span isn't known, or what fits everything
abbrev is_loose : Kind → Bool
is_loose SomeWhole = true
is_loose Anything = true
is_loose _ = false

-- a kind, or one that is loose
abbrev IsAtMost : Kind → Kind → Type 0
IsAtMost k j = (j ≡ k) ⊎ (is_loose j ≡ true)

loose_whole : (j : Kind) → is_loose j ≡ true → is_whole j ≡ true
loose_whole Truth e = absurd (false≢true e)
loose_whole (Whole a b) e = absurd (false≢true e)
loose_whole SomeWhole e = refl
loose_whole (NameOf ns) e = absurd (false≢true e)
loose_whole (OneName n) e = absurd (false≢true e)
loose_whole Anything e = refl

still_whole : (k j : Kind) → IsAtMost k j → is_whole k ≡ true → is_whole j ≡ true
still_whole k j (inl same) e = ap is_whole same ∙ e
still_whole k j (inr loose) e = loose_whole j loose

-- no span is known of what is made of a loose one
abbrev IsLost : Kind → Kind → Type 0
IsLost j k = (added j k ≡ SomeWhole) × (subtracted j k ≡ SomeWhole) × (multiplied j k ≡ SomeWhole)

lost_first : (j k : Kind) → is_loose j ≡ true → IsLost j k
lost_first Truth k e = absurd (false≢true e)
lost_first (Whole a b) k e = absurd (false≢true e)
lost_first SomeWhole k e = (refl, refl, refl)
lost_first (NameOf ns) k e = absurd (false≢true e)
lost_first (OneName n) k e = absurd (false≢true e)
lost_first Anything k e = (refl, refl, refl)

lost_second : (j k : Kind) → is_loose k ≡ true → IsLost j k
lost_second Truth k e = (refl, refl, refl)
lost_second SomeWhole k e = (refl, refl, refl)
lost_second (NameOf ns) k e = (refl, refl, refl)
lost_second (OneName n) k e = (refl, refl, refl)
lost_second Anything k e = (refl, refl, refl)
lost_second (Whole a b) Truth e = absurd (false≢true e)
lost_second (Whole a b) (Whole c d) e = absurd (false≢true e)
lost_second (Whole a b) SomeWhole e = (refl, refl, refl)
lost_second (Whole a b) (NameOf ns) e = absurd (false≢true e)
lost_second (Whole a b) (OneName n) e = absurd (false≢true e)
lost_second (Whole a b) Anything e = (refl, refl, refl)

-- ---- trees without a fault, whatever is open around them

-- with this kind, or a loose one, whatever is known of names
record IsPlain (k : Kind) (t : ResolvedTree) : Type 0 where
  kind : (known : Known) → IsAtMost k (kind_of known t)
  free : (s : Setting) (o : Around) → faults s o t ≡ []
  simple : has_quantifier t ≡ false

hole_plain : (k : Kind) (at : Spot) → IsPlain k (hole_at at hole.Anything)
hole_plain k at = record { kind = λ known. inr refl; free = λ s o. refl; simple = refl }

-- ---- one operation

module _ (word : BinaryWord) (future : is_past word ≡ false) (whole : (j k : Kind) → takes word j k ≡ (is_whole j && is_whole k)) (lost_by_first : (j k : Kind) → is_loose j ≡ true → gives word j k ≡ SomeWhole) (lost_by_second : (j k : Kind) → is_loose k ≡ true → gives word j k ≡ SomeWhole) where
  at_most : (j k l m : Kind) → IsAtMost j l → IsAtMost k m → IsAtMost (gives word j k) (gives word l m)
  at_most j k l m (inl p) (inl q) = inl (λ i. gives word (p i) (q i))
  at_most j k l m (inl p) (inr loose) = inr (ap is_loose (lost_by_second l m loose))
  at_most j k l m (inr loose) q = inr (ap is_loose (lost_by_first l m loose))

  narrow : (k j : Kind) → IsAtMost k j → is_wide k ≡ false → is_wide j ≡ false
  narrow k j (inl same) e = ap is_wide same ∙ e
  narrow k Truth (inr loose) e = refl
  narrow k (Whole a b) (inr loose) e = absurd (false≢true loose)
  narrow k SomeWhole (inr loose) e = refl
  narrow k (NameOf ns) (inr loose) e = refl
  narrow k (OneName n) (inr loose) e = refl
  narrow k Anything (inr loose) e = refl

  joined_plain : (j k : Kind) (first : Spot) (at : Mark) (a b : ResolvedTree) → takes word j k ≡ true → is_wide (gives word j k) ≡ false → IsPlain j a → IsPlain k b
      → IsPlain (gives word j k) (tree first at (Form.Binary word a b))
  joined_plain j k first at a b taken thin p q = record { kind = kind; free = free; simple = λ i. p.simple i || q.simple i }
    where
      kind : (known : Known) → IsAtMost (gives word j k) (gives word (kind_of known a) (kind_of known b))
      kind known = at_most j k (kind_of known a) (kind_of known b) (p.kind known) (q.kind known)

      takes_these : (known : Known) → takes word (kind_of known a) (kind_of known b) ≡ true
      takes_these known =
          let parts = and_parts (is_whole j) (is_whole k) (sym (whole j k) ∙ taken) in
          whole (kind_of known a) (kind_of known b)
          ∙ and_from (is_whole (kind_of known a)) (is_whole (kind_of known b)) (still_whole j (kind_of known a) (p.kind known) parts.0) (still_whole k (kind_of known b) (q.kind known) parts.1)

      free : (s : Setting) (o : Around) → form_faults s o at (Form.Binary word a b) ≡ []
      free s o =
          let inner = within (is_past word) at o in
          let fits = takes_these s.known in
          let spans = narrow (gives word j k) (gives word (kind_of s.known a) (kind_of s.known b)) (kind s.known) thin in
          λ i. p.free s inner i ++ (operator_faults s (future i) o.next at ++ (q.free s inner i ++ (wrong (fits i) at.spot ++ fault_if (spans i) (number_of WideInt) at.spot)))

both_some : (join : ℤ → ℤ → ℤ) (a b : Option ℤ) (z : ℤ) → both join a b ≡ Some z → ((x : ℤ) × (a ≡ Some x)) × ((y : ℤ) × (b ≡ Some y))
both_some join (Some x) (Some y) z is = ((x, refl), (y, refl))
both_some join (Some x) None z is = absurd (none_some is)
both_some join None b z is = absurd (none_some is)

operation : (word : BinaryWord) (m n : Option ℤ) (z : ℤ) (j k : Kind) (first : Spot) (at : Mark) (a b : ResolvedTree) → takes word j k ≡ true → is_wide (gives word j k) ≡ false → ((x : ℤ) → m ≡ Some x → IsPlain j a) → ((y : ℤ) → n ≡ Some y → IsPlain k b) →
    joined_number word m n ≡ Some z → IsPlain (gives word j k) (tree first at (Form.Binary word a b))
operation binary.Add m n z j k first at a b taken thin p q is =
    let found = both_some (λ x y. x +ℤ y) m n z is in
    joined_plain binary.Add refl (λ l o. refl) (λ l o e. (lost_first l o e).0) (λ l o e. (lost_second l o e).0) j k first at a b taken thin (p found.0.0 found.0.1) (q found.1.0 found.1.1)
operation binary.Sub m n z j k first at a b taken thin p q is =
    let found = both_some (λ x y. x -ℤ y) m n z is in
    joined_plain binary.Sub refl (λ l o. refl) (λ l o e. (lost_first l o e).1) (λ l o e. (lost_second l o e).1) j k first at a b taken thin (p found.0.0 found.0.1) (q found.1.0 found.1.1)
operation binary.Mul m n z j k first at a b taken thin p q is =
    let found = both_some (λ x y. x *ℤ y) m n z is in
    joined_plain binary.Mul refl (λ l o. refl) (λ l o e. (lost_first l o e).2) (λ l o e. (lost_second l o e).2) j k first at a b taken thin (p found.0.0 found.0.1) (q found.1.0 found.1.1)
operation binary.Implies m n z j k first at a b taken thin p q is = absurd (none_some is)
operation binary.Iff m n z j k first at a b taken thin p q is = absurd (none_some is)
operation binary.Since m n z j k first at a b taken thin p q is = absurd (none_some is)
operation binary.Triggered m n z j k first at a b taken thin p q is = absurd (none_some is)
operation binary.Eq m n z j k first at a b taken thin p q is = absurd (none_some is)
operation binary.Ne m n z j k first at a b taken thin p q is = absurd (none_some is)
operation binary.Lt m n z j k first at a b taken thin p q is = absurd (none_some is)
operation binary.Le m n z j k first at a b taken thin p q is = absurd (none_some is)
operation binary.Gt m n z j k first at a b taken thin p q is = absurd (none_some is)
operation binary.Ge m n z j k first at a b taken thin p q is = absurd (none_some is)

divided : (n : ℤ) (a : Option ℤ) (z : ℤ) → remainder_number n a ≡ Some z → (x : ℤ) × (a ≡ Some x)
divided n (Some x) z is = (x, refl)
divided n None z is = absurd (none_some is)

-- ---- expressions with a number

module _ (c : Constants) (bans : Bans) (put : Put) (uses : (k : ℕ) (z : ℤ) (at : Spot) → get_or c.numbers k None ≡ Some z → IsPlain (get_or c.kinds k Anything) (put hole.Anything k at [])) (brought : Option Spot) (arguments : List ResolvedTree) where
  abbrev written : Setting
  written = record { known = known_constants c.kinds; bans = bans }

  leaf_plain : (o : Around) (first : Spot) (there at : Mark) (l : Leaf) (z : ℤ) → leaf_faults written o at l ≡ [] → leaf_number c.numbers l ≡ Some z
      → IsPlain (leaf_kind written.known l) (leaf_put put arguments first there l)
  leaf_plain o first there at (leaf.Number n) z none is =
      let thin = no_fault (is_wide (Whole n n)) (number_of WideInt) at.spot none in
      record { kind = λ known. inl refl; free = λ s o' i. fault_if (thin i) (number_of WideInt) there.spot; simple = refl }
  leaf_plain o first there at (leaf.Define k) z none is = uses k z there.spot is
  leaf_plain o first there at (leaf.Truth b) z none is = absurd (none_some is)
  leaf_plain o first there at (leaf.EnumName k) z none is = absurd (none_some is)
  leaf_plain o first there at (leaf.Variable k) z none is = absurd (none_some is)
  leaf_plain o first there at (leaf.Parameter k) z none is = absurd (none_some is)
  leaf_plain o first there at (leaf.Own k) z none is = absurd (none_some is)
  leaf_plain o first there at (leaf.Bound variable) z none is = absurd (none_some is)
  leaf_plain o first there at (leaf.Hole k) z none is = absurd (none_some is)

  module _ (holes : Setting) where
    mutual
      plain : (around o : Around) (t : ResolvedTree) (z : ℤ) → faults written o t ≡ [] → number_in c.numbers t ≡ Some z → IsPlain (kind_of written.known t) (filled put brought arguments (part_holed holes around t))
      plain around o (tree first at form) z none is = form_plain around o (placed brought first) (marked brought at) at form z none is

      form_plain : (around o : Around) (first : Spot) (there at : Mark) (form : Form) (z : ℤ) → form_faults written o at form ≡ [] → form_number c.numbers form ≡ Some z
          → IsPlain (form_kind written.known form) (form_filled put brought arguments first there (form_holed holes around at form))
      form_plain around o first there at (Form.LeafOf l) z none is = leaf_plain o first there at l z none is
      form_plain around o first there at (Form.Binary word a b) z none is =
          let known = written.known in
          let inner = within (is_past word) at o in
          let outer = within (is_past word) at around in
          let one = empty_parts (faults written inner a) _ none in
          let more = empty_parts (operator_faults written (is_past word) o.next at) _ one.1 in
          let two = empty_parts (faults written inner b) (binary_faults word (kind_of known a) (kind_of known b) at.spot) more.1 in
          let last = empty_parts (wrong (takes word (kind_of known a) (kind_of known b)) at.spot) _ two.1 in
          operation word (number_in c.numbers a) (number_in c.numbers b) z (kind_of known a) (kind_of known b) first there (filled put brought arguments (part_holed holes outer a)) (filled put brought arguments (part_holed holes outer b))
          (right (takes word (kind_of known a) (kind_of known b)) at.spot last.0) (no_fault (is_wide (gives word (kind_of known a) (kind_of known b))) (number_of WideInt) at.spot last.1)
          (λ x here. plain outer inner a x one.0 here) (λ y here. plain outer inner b y two.0 here) is
      form_plain around o first there at (Form.Mod t number_at n) z none is =
          let known = written.known in
          let one = empty_parts (faults written o t) _ none in
          let more = empty_parts (wrong (is_whole (kind_of known t)) at.spot) _ one.1 in
          let last = empty_parts (fault_if (int_le n (pos 0)) (number_of WideInt) number_at) (wide (reduced n) at.spot) more.1 in
          let found = divided n (number_in c.numbers t) z is in
          let inside = plain around o t found.0 one.0 found.1 in
          let made = filled put brought arguments (part_holed holes around t) in
          let whole = λ (k : Known). still_whole (kind_of known t) (kind_of k made) (inside.kind k) (right (is_whole (kind_of known t)) at.spot more.0) in
          let some = no_fault (int_le n (pos 0)) (number_of WideInt) number_at last.0 in
          let thin = no_fault (is_wide (reduced n)) (number_of WideInt) at.spot last.1 in
          record {
            kind = λ k. inl refl;
            free = λ s o i. inside.free s o i ++ (wrong (whole s.known i) there.spot ++ (fault_if (some i) (number_of WideInt) (placed brought number_at) ++ fault_if (thin i) (number_of WideInt) there.spot));
            simple = inside.simple;
          }
      form_plain around o first there at (Form.PredicateOf k ts) z none is = absurd (none_some is)
      form_plain around o first there at (Form.MisuseOf m ts) z none is = absurd (none_some is)
      form_plain around o first there at (Form.Next t) z none is = absurd (none_some is)
      form_plain around o first there at (Form.Prefix word t) z none is = absurd (none_some is)
      form_plain around o first there at (Form.And ts operators) z none is = absurd (none_some is)
      form_plain around o first there at (Form.Or ts operators) z none is = absurd (none_some is)
      form_plain around o first there at (Form.Index array n t) z none is = absurd (none_some is)
      form_plain around o first there at (Form.Quantified word variable extent low high ts) z none is = absurd (none_some is)

sound_parts : (c : Constants) (st : Stand) (t : ResolvedTree) (z : ℤ) → sound_number c st t ≡ Some z → (faults_of (known_constants c.kinds) st t ≡ []) × (number_in c.numbers t ≡ Some z)
sound_parts c st t z is = by (is_faulty (faults_of (known_constants c.kinds) st t)) refl is
  where
    by : (b : Bool) → is_faulty (faults_of (known_constants c.kinds) st t) ≡ b → (if b then None else number_in c.numbers t) ≡ Some z → (faults_of (known_constants c.kinds) st t ≡ []) × (number_in c.numbers t ≡ Some z)
    by true e is = absurd (none_some is)
    by false e is = (nothing_wrong (faults_of (known_constants c.kinds) st t) [] (ap (λ b. if b then faults_of (known_constants c.kinds) st t else []) e), is)

constant_parts : (o : Option ℤ) (kind : Kind) (z : ℤ) → (constant_with o kind).number ≡ Some z → (o ≡ Some z) × (kind ≡ (constant_with o kind).kind)
constant_parts (Some x) kind z is = (is, refl)
constant_parts None kind z is = absurd (none_some is)

-- ---- the uses of defines

module _ (text : ResolvedText) where
  abbrev ds : List ResolvedDefinition
  ds = text.definitions

  abbrev all : List (List ℕ)
  all = all_uses text.definitions

  -- what is had of the defines, where so many are made one from another
  abbrev deep : ℕ → List Constant
  deep n = made_to_depth all no_constant (λ known (d : ResolvedDefinition). constant_of (each_of known) d.body) n ds

  abbrev value : ℕ → ℕ × ResolvedDefinition → Constant
  value n d = if is_on_cycle all d.0 then no_constant else constant_of (each_of (deep n)) d.1.body

  number_at : (n k : ℕ) → get_or (each_of (deep n)).numbers k None ≡ (get_or (deep n) k no_constant).number
  number_at n k = lists.get_or-map (λ (c : Constant). c.number) (deep n) k no_constant

  kind_at : (n k : ℕ) → get_or (each_of (deep n)).kinds k Anything ≡ (get_or (deep n) k no_constant).kind
  kind_at n k = lists.get_or-map (λ (c : Constant). c.kind) (deep n) k no_constant

  deep_at : (n k : ℕ) (d : ResolvedDefinition) → slice_get ds k ≡ Some d → get_or (deep (suc n)) k no_constant ≡ value n (k, d)
  deep_at n k d there =
      let below = slice_get_within ds k d there in
      let long = length-enumerate_from 0 ds in
      get_or-map (value n) (enumerate_from 0 ds) k (0, d) no_constant (omega (arith, below, long))
      ∙ ap (value n) (get_or-enumerate_from 0 ds k (0, d) below ∙ (λ i. (zero_more i, get_or_from_slice_get ds k d d there i)))
    where
      zero_more : zero + k ≡ k
      zero_more = omega arith

  deep_past : (n k : ℕ) → length ds ≤ k → get_or (deep (suc n)) k no_constant ≡ no_constant
  deep_past n k past =
      let long : length (deep (suc n)) ≡ length ds = length-map (enumerate_from 0 ds) (value n) ∙ length-enumerate_from 0 ds in
      get_or_past (deep (suc n)) k no_constant (omega (arith, past, long))

  value_parts : (n k : ℕ) (d : ResolvedDefinition) (z : ℤ) → (value n (k, d)).number ≡ Some z
      → (sound_number (each_of (deep n)) stand.Define d.body ≡ Some z) × (kind_of (known_constants (each_of (deep n)).kinds) d.body ≡ (value n (k, d)).kind)
  value_parts n k d z = by (is_on_cycle all k)
    where
      made : Bool → Constant
      made b = if b then no_constant else constant_of (each_of (deep n)) d.body

      by : (b : Bool) → (made b).number ≡ Some z → (sound_number (each_of (deep n)) stand.Define d.body ≡ Some z) × (kind_of (known_constants (each_of (deep n)).kinds) d.body ≡ (made b).kind)
      by true is = absurd (none_some is)
      by false is = constant_parts (sound_number (each_of (deep n)) stand.Define d.body) (kind_of (known_constants (each_of (deep n)).kinds) d.body) z is

  -- the uses of those that have a number are plain, where bodies are put in one in another so often
  abbrev ArePlain : (n m : ℕ) → Type 0
  ArePlain n m = (k : ℕ) (z : ℤ) (at : Spot) → get_or (each_of (deep n)).numbers k None ≡ Some z → IsPlain (get_or (each_of (deep n)).kinds k Anything) (put_deep m (bodies text) hole.Anything k at [])

  one_plain : (n m : ℕ) → ArePlain n m → (k : ℕ) (d : ResolvedDefinition) (z : ℤ) (at : Spot) → slice_get ds k ≡ Some d → get_or (each_of (deep (suc n))).numbers k None ≡ Some z
      → IsPlain (get_or (each_of (deep (suc n))).kinds k Anything) (put_deep (suc m) (bodies text) hole.Anything k at [])
  one_plain n m less k d z at found is = by (get_or (noted text).holes k true) refl
    where
      kind : Kind
      kind = get_or (each_of (deep (suc n))).kinds k Anything

      IsPut : Option ResolvedTree → Type 0
      IsPut body = IsPlain kind (body_put (put_deep m (bodies text)) hole.Anything at [] body)

      by : (h : Bool) → get_or (noted text).holes k true ≡ h → IsPut (get_or (bodies text) k None)
      by true h = subst IsPut (no_body text k d found h) (hole_plain kind at)
      by false h =
          let inside = known_inside text (noted text).defines d in
          let c = each_of (deep n) in
          let parts = value_parts n k d z (sym (ap (λ (c : Constant). c.number) (deep_at n k d found)) ∙ sym (number_at (suc n) k) ∙ is) in
          let same : kind_of (known_constants c.kinds) d.body ≡ kind = parts.1 ∙ sym (kind_at (suc n) k ∙ ap (λ (c : Constant). c.kind) (deep_at n k d found)) in
          let sound = sound_parts c stand.Define d.body z parts.0 in
          let none = (empty_parts (faults (record { known = known_constants c.kinds; bans = no_bans }) nothing_open d.body) _ sound.0).0 in
          let body = plain c no_bans (put_deep m (bodies text)) less (Some at) [] (record { known = inside; bans = bans_of (stand_of d.word) }) nothing_open nothing_open d.body z none sound.1 in
          subst IsPut (some_body text k d found h) (subst (λ j. IsPlain j (filled (put_deep m (bodies text)) (Some at) [] (holed inside (stand_of d.word) d.body))) same body)

  use_plain : (n m : ℕ) → ArePlain n m
  use_plain zero m k z at is = absurd (none_some is)
  use_plain (suc n) zero k z at is = hole_plain (get_or (each_of (deep (suc n))).kinds k Anything) at
  use_plain (suc n) (suc m) k z at is = elim ((slice_get_cases ds k).1) [
    | inl found ↦ one_plain n m (use_plain n m) k found.0 z at found.2 is
    | inr past ↦ absurd (none_some (sym (ap (λ (c : Constant). c.number) (deep_past n k past.0)) ∙ sym (number_at (suc n) k) ∙ is))
  ]

-- ---- bounds

-- what is judged of a plain expression
made_free : (known : Known) (nodes levels : ℕ) (k : Kind) (t : ResolvedTree) → is_whole k ≡ true → IsPlain k t → made_faults known stand.Bound (within_limits nodes levels t) ≡ []
made_free known nodes levels k t whole p = by _
  where
    by : (room : Bool) → made_faults known stand.Bound (if room then Some t else None) ≡ []
    by false = refl
    by true = few (is_shallow known t)
      where
        few : (shallow : Bool) → (if shallow then faults_of known stand.Bound t else []) ≡ []
        few false = refl
        few true =
            let fits = still_whole k (kind_of known t) (p.kind known) whole in
            λ i. p.free (record { known = known; bans = bans_of stand.Bound }) nothing_open i ++ wrong (fits i) (first_of t)

pub have_sound_bounds : (text : ResolvedText) → HaveSoundBounds (constants text.definitions) (bodies text)
unfolding put_in_faults
have_sound_bounds text known t z is =
    let c = constants text.definitions in
    let b = bodies text in
    let sound = sound_parts c stand.Bound t z is in
    let parts = empty_parts (faults (record { known = known_constants c.kinds; bans = bans_of stand.Bound }) nothing_open t) _ sound.0 in
    let whole = right (is_whole (kind_of (known_constants c.kinds) t)) (first_of t) parts.1 in
    let made = plain c (bans_of stand.Bound) (put_deep (length b) b) (use_plain text (length text.definitions) (length b)) None [] (record { known = known; bans = bans_of stand.Bound }) nothing_open nothing_open t z parts.0 sound.1 in
    let k = kind_of (known_constants c.kinds) t in
    made_free known most_nodes most_levels k (put_in b (holed known stand.Bound t)) whole (subst (IsPlain k) (sym (plain_stays [] (with_bodies b (holed known stand.Bound t)) made.simple)) made)

-- so for whatever is the same as these
pub same_sound_bounds : (text : ResolvedText) (c : Constants) (b : Bodies) → c ≡ constants text.definitions → b ≡ bodies text → HaveSoundBounds c b
same_sound_bounds text c b p q = subst (λ x. HaveSoundBounds x b) (sym p) (subst (HaveSoundBounds (constants text.definitions)) (sym q) (have_sound_bounds text))
