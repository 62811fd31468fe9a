-- What a text is with quantifiers written out: its definitions are those of the text, and the numbers of defines are within the
-- spans that are known of them.
use Rattle.std.proofs.Common.{◌≡◌, ◌⊎◌, inl, inr, ℕ, zero, suc, ◌+◌, ◌<◌, ℤ, pos, ◌+ℤ◌, ◌-ℤ◌, ◌*ℤ◌, Bool, true, false, not, ◌||◌, if◌then◌else◌, List, [], ◌∷◌, ◌++◌, Option, Some, None, length, map, flat_map, get_or, slice_get, refl, sym, ap, subst, ◌∙◌, arith}
use Rattle.std.specs.List.{enumerate_from}
use Rattle.std.proofs.lemmas.List.{length-map}
use Rattle.std.proofs.lemmas.Option.{same_Some}
use Rattle.spec_model.specs.declared.value.Value.{Value}
use Rattle.spec_model.specs.declared.value.Value.TheVariants as value
use Rattle.spectra_trees.specs.declared.tree.BinaryWord.{BinaryWord}
use Rattle.spectra_trees.specs.declared.tree.BinaryWord.TheVariants as binary
use Rattle.spectra_resolved.specs.declared.stand.Stand.{Stand}
use Rattle.spectra_resolved.specs.declared.stand.Stand.TheVariants as stand
use Rattle.spectra_resolved.specs.declared.tree.Leaf.{Leaf}
use Rattle.spectra_resolved.specs.declared.tree.Leaf.TheVariants as leaf
use Rattle.spectra_resolved.specs.Resolved.{ResolvedTree, tree, Form}
use Rattle.spectra_resolved.specs.Texts.{ResolvedDefinition, ResolvedText}
use Rattle.spectra_judge.specs.Kinds.{Kind, Anything}
use Rattle.spectra_judge.specs.Known.{Known, Setting}
use Rattle.spectra_judge.specs.Around.{nothing_open}
use Rattle.spectra_judge.specs.Standings.{bans_of}
use Rattle.spectra_judge.specs.Judged.{kind_of, faults, faults_of}
use Rattle.spectra_judge.proofs.Empty.{empty_parts}
use Rattle.spectra_copies.specs.Numbers.{both, joined_number, remainder_number, leaf_number, number_in, form_number}
use Rattle.spectra_copies.specs.declared.ranges.Bound.{Bound}
use Rattle.spectra_copies.specs.Copies.{written_leaf, written, form_out}
use Rattle.spectra_copies.specs.Texts.{Out, each_in_turn, definition_out, all_room}
use Rattle.spectra_uses.specs.Uses.{uses_in, all_uses}
use Rattle.spectra_uses.specs.Orders.{IsOrderOf}
use Rattle.spectra_bounds.specs.ByUses.{is_on_cycle, made_to_depth}
use Rattle.spectra_bounds.specs.Cycles.{on_cycles, cycle_faults}
use Rattle.spectra_bounds.specs.Numbers.{Constants, is_faulty, sound_number, Constant, no_constant, each_of, constant_with, constant_of, constants}
use Rattle.spectra_notes.specs.Notes.{no_meaning, stand_of, body_faults, known_inside, noted}
use Rattle.spectra_notes.proofs.Noting.{kind_is}
use Rattle.spectra_bodies.specs.Faults.{declared_faults}
use Rattle.spectra_bodies.proofs.Meaning.{both_empty, none_of, definitions_right, none_goes_round}
use Rattle.spectra_meant.proofs.Numbers.{HasSpan, none_some, make}
use Rattle.spectra_sound.specs.Sound.{IsSound}
use Rattle.spectra_sound.proofs.WrittenSound.{tree_made}
use Rattle.spectra_types.specs.Meanings.{written_out}
use Rattle.spectra_types.proofs.Bodies.{order, order_is, single}
use Rattle.spectra_types.specs.Senses.{Sense, Senses, nothing}
use Rattle.spectra_types.proofs.Numbers.{AreNumbers, AreWithin, constant_is, number_is}

-- ---- expressions

-- an expression is as it is written, or written out
abbrev pub IsOut : List (Option ℤ) → (t made : ResolvedTree) → Type 0
IsOut c t made = (made ≡ t) ⊎ (made ≡ written c [] t)

-- one that has a number stays as it is
both_parts : (join : ℤ → ℤ → ℤ) (a b : Option ℤ) (z : ℤ) → both join a b ≡ Some z → ((x : ℤ) × (a ≡ Some x)) × ((y : ℤ) × (b ≡ Some y))
both_parts join (Some x) (Some y) z is = ((x, refl), (y, refl))
both_parts join (Some x) None z is = absurd (none_some is)
both_parts join None b z is = absurd (none_some is)

joined_parts : (word : BinaryWord) (a b : Option ℤ) (z : ℤ) → joined_number word a b ≡ Some z → ((x : ℤ) × (a ≡ Some x)) × ((y : ℤ) × (b ≡ Some y))
joined_parts binary.Add a b z is = both_parts (λ x y. x +ℤ y) a b z is
joined_parts binary.Sub a b z is = both_parts (λ x y. x -ℤ y) a b z is
joined_parts binary.Mul a b z is = both_parts (λ x y. x *ℤ y) a b z is
joined_parts binary.Implies a b z is = absurd (none_some is)
joined_parts binary.Iff a b z is = absurd (none_some is)
joined_parts binary.Since a b z is = absurd (none_some is)
joined_parts binary.Triggered a b z is = absurd (none_some is)
joined_parts binary.Eq a b z is = absurd (none_some is)
joined_parts binary.Ne a b z is = absurd (none_some is)
joined_parts binary.Lt a b z is = absurd (none_some is)
joined_parts binary.Le a b z is = absurd (none_some is)
joined_parts binary.Gt a b z is = absurd (none_some is)
joined_parts binary.Ge a b z is = absurd (none_some is)

remainder_part : (n : ℤ) (a : Option ℤ) (z : ℤ) → remainder_number n a ≡ Some z → (x : ℤ) × (a ≡ Some x)
remainder_part n (Some x) z is = (x, refl)
remainder_part n None z is = absurd (none_some is)

leaf_stays : (c : List (Option ℤ)) (q : List Bound) (l : Leaf) (z : ℤ) → leaf_number c l ≡ Some z → written_leaf q l ≡ l
leaf_stays c q (leaf.Number n) z is = refl
leaf_stays c q (leaf.Define k) z is = refl
leaf_stays c q (leaf.Truth b) z is = refl
leaf_stays c q (leaf.EnumName k) z is = refl
leaf_stays c q (leaf.Variable k) z is = refl
leaf_stays c q (leaf.Parameter k) z is = refl
leaf_stays c q (leaf.Own k) z is = refl
leaf_stays c q (leaf.Bound at) z is = absurd (none_some is)
leaf_stays c q (leaf.Hole h) z is = refl

module _ (numbers c : List (Option ℤ)) (q : List Bound) where
  mutual
    number_stays : (t : ResolvedTree) (z : ℤ) → number_in numbers t ≡ Some z → written c q t ≡ t
    number_stays (tree first at form) z is = ap (tree first at) (form_stays form z is)

    form_stays : (form : Form) (z : ℤ) → form_number numbers form ≡ Some z → form_out c q form ≡ form
    form_stays (Form.LeafOf l) z is = ap (λ l. Form.LeafOf l) (leaf_stays numbers q l z is)
    form_stays (Form.Binary word a b) z is =
        let parts = joined_parts word (number_in numbers a) (number_in numbers b) z is in
        let left = number_stays a parts.0.0 parts.0.1 in
        let other = number_stays b parts.1.0 parts.1.1 in λ i. Form.Binary word (left i) (other i)
    form_stays (Form.Mod t number_at n) z is = let part = remainder_part n (number_in numbers t) z is in ap (λ t. Form.Mod t number_at n) (number_stays t part.0 part.1)
    form_stays (Form.PredicateOf k ts) z is = absurd (none_some is)
    form_stays (Form.MisuseOf m ts) z is = absurd (none_some is)
    form_stays (Form.Next t) z is = absurd (none_some is)
    form_stays (Form.Prefix word t) z is = absurd (none_some is)
    form_stays (Form.And ts operators) z is = absurd (none_some is)
    form_stays (Form.Or ts operators) z is = absurd (none_some is)
    form_stays (Form.Index first n t) z is = absurd (none_some is)
    form_stays (Form.Quantified word variable extent low high ts) z is = absurd (none_some is)

-- ---- several

-- what is made of each of several in turn
pub turned_at : {A : Type 0} (step : Option ℕ → A → Out A) (room : Option ℕ) (xs : List A) (k : ℕ) (y : A) → slice_get (each_in_turn step room xs).made k ≡ Some y → (x : A) × ((left : Option ℕ) × ((slice_get xs k ≡ Some x) × ((step left x).made ≡ y)))
turned_at step room [] k y there = absurd (none_some there)
turned_at step room (x ∷ xs) zero y there = (x, (room, (refl, same_Some (step room x).made y there)))
turned_at step room (x ∷ xs) (suc k) y there = turned_at step (step room x).room xs k y there

pub turned_from : {A : Type 0} (step : Option ℕ → A → Out A) (room : Option ℕ) (xs : List A) (k : ℕ) (x : A) → slice_get xs k ≡ Some x → (left : Option ℕ) × (slice_get (each_in_turn step room xs).made k ≡ Some (step left x).made)
turned_from step room [] k x there = absurd (none_some there)
turned_from step room (y ∷ xs) zero x there = (room, ap (λ x. Some (step room x).made) (same_Some y x there))
turned_from step room (y ∷ xs) (suc k) x there = turned_from step (step room y).room xs k x there

-- ---- definitions

module _ (text : ResolvedText) where
  abbrev pub judged : ResolvedText
  judged = written_out text

  abbrev c : List (Option ℤ)
  c = (constants text.definitions).numbers

  body_out : (room : Option ℕ) (d : ResolvedDefinition) → IsOut c d.body (definition_out c room d).made.body
  body_out room d = tree_made c (IsOut c d.body) room d.body (inl refl) (inr refl)

  -- a definition of the text judged is one of the text
  pub record IsDefinition (k : ℕ) (made : ResolvedDefinition) : Type 0 where
    pub definition : ResolvedDefinition
    pub there : slice_get text.definitions k ≡ Some definition
    pub out : IsOut c definition.body made.body

  pub definition_at : (k : ℕ) (made : ResolvedDefinition) → slice_get judged.definitions k ≡ Some made → IsDefinition k made
  definition_at k made there =
      let found = turned_at (definition_out c) all_room text.definitions k made there in
      record { definition = found.0; there = found.1.1.0; out = subst (λ (d : ResolvedDefinition). IsOut c found.0.body d.body) found.1.1.1 (body_out found.1.0 found.0) }

  pub definition_from : (k : ℕ) (d : ResolvedDefinition) → slice_get text.definitions k ≡ Some d → (made : ResolvedDefinition) × ((slice_get judged.definitions k ≡ Some made) × IsOut c d.body made.body)
  definition_from k d there = let found = turned_from (definition_out c) all_room text.definitions k d there in ((definition_out c found.0 d).made, (found.1, body_out found.0 d))

  -- ---- numbers

  module _ (sound : IsSound judged) (none : declared_faults judged ≡ []) where
    -- no body has a fault
    pub body_right : (k : ℕ) (d : ResolvedDefinition) → slice_get judged.definitions k ≡ Some d → body_faults (known_inside judged (noted judged).defines d) d ≡ []
    body_right k d there =
        none_of (λ (d : ResolvedDefinition). body_faults (known_inside judged (noted judged).defines d) d) judged.definitions k d
        (both_empty (cycle_faults (on_cycles (all_uses judged.definitions)) (map (λ (d : ResolvedDefinition). d.name.at) judged.definitions)) _ (definitions_right judged none)).1 there

    kind_known : (k : ℕ) (d : ResolvedDefinition) → slice_get judged.definitions k ≡ Some d → k < length judged.definitions → get_or (noted judged).defines k Anything ≡ kind_of (known_inside judged (noted judged).defines d) d.body
    kind_known k d there below =
        let round = none_goes_round judged none k below in
        let once = single judged sound none k d there in
        let faultless = body_right k d there in
        kind_is judged (order judged sound none).0 (order_is judged sound none) k d there
        ∙ (λ i. (if round i then no_meaning else (if once i || is_faulty (faultless i) then no_meaning else record { hole = false; kind = kind_of (known_inside judged (noted judged).defines d) d.body })).kind)

    -- senses in which each define that has a number is that
    abbrev number_sense : Option ℤ → Sense
    number_sense (Some z) p = value.Int z
    number_sense None p = nothing p

    abbrev numbered_senses : List (Option ℤ) → Senses
    numbered_senses numbers = record { variable = λ k. nothing; parameter = λ k. nothing; own = λ k. nothing; definition = λ k as'. number_sense (get_or numbers k None); number = λ at. pos 0 }

    -- a definition's number is within its span
    one_within : (numbers : List (Option ℤ)) → AreWithin numbers (noted judged).defines → (k : ℕ) (d : ResolvedDefinition) (z : ℤ) → slice_get text.definitions k ≡ Some d → number_in numbers d.body ≡ Some z → HasSpan z (get_or (noted judged).defines k Anything)
    one_within numbers within k d z there is =
        let made = definition_from k d there in
        let known = known_inside judged (noted judged).defines made.0 in
        let body : made.0.body ≡ d.body = by made.1.1 in
        let faultless = empty_parts (faults (record { known = known; bans = bans_of (stand_of made.0.word) }) nothing_open made.0.body) _ (body_right k made.0 made.1.0) in
        let told =
        number_is numbers (record { known = known; bans = bans_of (stand_of made.0.word) }) within (numbered_senses numbers) (λ k z is p. ap (λ o. number_sense o p) is) nothing_open made.0.body z
        faultless.0 (ap (number_in numbers) body ∙ is) in
        subst (HasSpan z) (sym (kind_known k made.0 made.1.0 (within_list judged.definitions k made.0 made.1.0))) told.span
      where
        by : IsOut c d.body (definition_from k d there).0.body → (definition_from k d there).0.body ≡ d.body
        by (inl same) = same
        by (inr out) = out ∙ number_stays numbers c [] d.body z is

        within_list : (ds : List ResolvedDefinition) (k : ℕ) (d : ResolvedDefinition) → slice_get ds k ≡ Some d → k < length ds
        within_list [] k d there = absurd (none_some there)
        within_list (e ∷ ds) zero d there = omega arith
        within_list (e ∷ ds) (suc k) d there = let rest = within_list ds k d there in omega (arith, rest)

    abbrev uses : List (List ℕ)
    uses = all_uses text.definitions

    abbrev made : List Constant → ℕ × ResolvedDefinition → Constant
    made known d = if is_on_cycle uses d.0 then no_constant else make uses text.definitions known d.1

    each_within : (known : List Constant) → AreWithin (each_of known).numbers (noted judged).defines → (es : List ResolvedDefinition) (m : ℕ) → ((k : ℕ) (d : ResolvedDefinition) → slice_get es k ≡ Some d → slice_get text.definitions (m + k) ≡ Some d) →
        (k : ℕ) (z : ℤ) → get_or (each_of (map (made known) (enumerate_from m es))).numbers k None ≡ Some z → HasSpan z (get_or (noted judged).defines (m + k) Anything)
    each_within known within [] m there k z is = absurd (none_some is)
    each_within known within (d ∷ es) m there zero z is = by (is_on_cycle uses m) is
      where
        number : (b : Bool) → (if b then None else number_in (each_of known).numbers d.body) ≡ Some z → number_in (each_of known).numbers d.body ≡ Some z
        number true is = absurd (none_some is)
        number false is = is

        by : (b : Bool) → (if b then no_constant else constant_of (each_of known) d.body).number ≡ Some z → HasSpan z (get_or (noted judged).defines (m + 0) Anything)
        by true is = absurd (none_some is)
        by false is = one_within (each_of known).numbers within (m + 0) d z (there 0 d refl) (number _ (constant_is (sound_number (each_of known) stand.Define d.body) _ z is))
    each_within known within (d ∷ es) m there (suc k) z is =
        let next : (j : ℕ) → m + suc j ≡ m + 1 + j = λ j. omega arith in
        subst (λ k. HasSpan z (get_or (noted judged).defines k Anything)) (sym (next k)) (each_within known within es (m + 1) (λ j e at. ap (slice_get text.definitions) (sym (next j)) ∙ there (suc j) e at) k z is)

    made_within : (deep : ℕ) → AreWithin (each_of (made_to_depth uses no_constant (make uses text.definitions) deep text.definitions)).numbers (noted judged).defines
    made_within zero k z is = absurd (none_some is)
    made_within (suc deep) k z is =
        let all : (j : ℕ) → 0 + j ≡ j = λ j. omega arith in
        subst (λ k. HasSpan z (get_or (noted judged).defines k Anything)) (all k)
        (each_within (made_to_depth uses no_constant (make uses text.definitions) deep text.definitions) (made_within deep) text.definitions 0 (λ j e at. ap (slice_get text.definitions) (all j) ∙ at) k z is)

    pub numbers_within : AreWithin c (noted judged).defines
    numbers_within = made_within (length text.definitions)
