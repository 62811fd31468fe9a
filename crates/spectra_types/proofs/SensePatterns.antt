-- In a text without faults the patterns of the specification say what the text's patterns say.
use Rattle.std.proofs.Common.{◌≡◌, ◌⊎◌, inl, inr, ℕ, zero, suc, ◌≤◌, ◌<◌, ℤ, Bool, true, false, not, ◌&&◌, ◌||◌, is_some, List, [], ◌∷◌, ◌++◌, Option, Some, None, length, map, flat_map, replicate, get_or, refl, sym, ap, subst, ◌∙◌, arith}
use Rattle.std.specs.List.{list_all}
use Rattle.std.proofs.lemmas.Bool.{false≢true, and_parts}
use Rattle.std.proofs.lemmas.Bool.Decides.{nat_tests}
use Rattle.std.proofs.lemmas.List.{length-map}
use Rattle.std.proofs.Math.Nat.{min-eq_left}
use Rattle.spec_model.specs.declared.value.Value.TheVariants as value
use Rattle.spec_model.specs.Meaning.{Reading, value_at}
use Rattle.spectra_resolved.specs.declared.spot.Mark.{Mark}
use Rattle.spectra_resolved.specs.declared.stand.Stand.{Stand}
use Rattle.spectra_resolved.specs.declared.stand.Stand.TheVariants as stand
use Rattle.spectra_resolved.specs.declared.tree.Leaf.{Leaf}
use Rattle.spectra_resolved.specs.declared.tree.Leaf.TheVariants as leaf
use Rattle.spectra_resolved.specs.Resolved.{ResolvedTree}
use Rattle.spectra_resolved.specs.Texts.{ResolvedType, ResolvedPatternLine, Initial, Safety, Recurring, ResolvedPattern, ResolvedText}
use Rattle.spectra_judge.specs.Findings.{fault_if}
use Rattle.spectra_judge.specs.Kinds.{Kind, Truth, Anything, is_truth, is_whole}
use Rattle.spectra_judge.specs.declared.standing.Bans.{Bans}
use Rattle.spectra_judge.specs.Standings.{bans_of, is_wanted}
use Rattle.spectra_judge.specs.declared.around.Around.{Around}
use Rattle.spectra_judge.specs.Around.{nothing_open}
use Rattle.spectra_judge.specs.Known.{Known, Setting}
use Rattle.spectra_judge.specs.Judged.{leaf_kind, first_of, leaf_faults, faults, faults_of}
use Rattle.spectra_judge.specs.PutIn.{Parts, is_put_in, in_pattern}
use Rattle.spectra_judge.proofs.Empty.{empty_parts, right}
use Rattle.spectra_copies.specs.Numbers.{leaf_number, number_in}
use Rattle.spectra_copies.specs.Copies.{written}
use Rattle.spectra_copies.specs.Texts.{tree_out, pattern_line_out, pattern_out, each_in_turn}
use Rattle.spectra_cases.specs.Formulas.{leaf_formula, formula_of}
use Rattle.spectra_elaboration.specs.Putting.{Bodies, put_deep, put_in}
use Rattle.spectra_bounds.specs.Numbers.{constants}
use Rattle.spectra_notes.specs.TypeKinds.{kind_in}
use Rattle.spectra_bodies.specs.Faults.{declared_faults}
use Rattle.spectra_patterns.specs.SoundPatterns.{is_type_kind}
use Rattle.spectra_patterns.specs.Patterns.{pattern_known, line_faults, lines_faults, first_in, step_in, goals_in, pattern_faults, pattern_of}
use Rattle.spectra_lines.specs.Contents.{Facts, pattern_line_put, pattern_put}
use Rattle.spectra_lines.specs.Parts.{TypedPattern}
use Rattle.spectra_lines.specs.Laws.{are_all_sound, PatternsHaveNoFault}
use Rattle.spectra_meant.proofs.Numbers.{none_some}
use Rattle.spectra_sound.specs.Sound.{Sizes, sizes_of, is_type, is_sound_pattern_line, is_sound_pattern, IsSound}
use Rattle.spectra_sound.proofs.Again.{written_twice}
use Rattle.spectra_sound.proofs.WrittenSound.{tree_made}
use Rattle.spectra_types.specs.Meanings.{facts_of, own_kinds, is_sound, typed_pattern}
use Rattle.spectra_types.proofs.PatternsPut.{tree_stays}
use Rattle.spectra_types.specs.Senses.{Numbers, Senses, leaf_sense, sense, AreInPattern}
use Rattle.spectra_types.proofs.Placed.{HasOwnPlaces}
use Rattle.spectra_types.specs.SameText.{HasSense, HaveSenses, initial_in, safety_in, recurring_in, IsPatternOf, ArePatternsOf}
use Rattle.spectra_types.proofs.Numbers.{number_is}
use Rattle.spectra_types.proofs.Copied.{with_numbers}
use Rattle.spectra_types.proofs.Bounded.{banned_there, bound_some}
use Rattle.spectra_types.proofs.PutOut.{put_sense, put_right}
use Rattle.spectra_types.proofs.SenseFormulas.{formula_has}
use Rattle.spectra_types.proofs.Bare.{bare, out_same}
use Rattle.spectra_types.proofs.Judged as out
use Rattle.spectra_types.proofs.Judged.{IsOut}
use Rattle.spectra_types.proofs.SenseDomains.{own_have}

module _ (f : Facts) (c : List (Option ℤ)) (names : ℕ) (few : names ≤ 65_535) (params : ℕ) (own : List Kind) (r : Reading) (s : Senses) (are : AreInPattern params r s) where
  abbrev b : Bodies
  b = f.bodies

  abbrev good : Parts
  good = in_pattern names params (length own)

  abbrev known : Known
  known = pattern_known params own

  leaves : (l : Leaf) → good.leaf l ≡ true → (p : ℕ) → value_at r (leaf_formula params l) p ≡ leaf_sense s l p
  leaves (leaf.Truth b) is p = refl
  leaves (leaf.Number n) is p = refl
  leaves (leaf.EnumName n) is p = let below : n < names = grind (arith, nat_tests) in ap (λ m. value.Name m) (min-eq_left (omega (arith, few, below)))
  leaves (leaf.Variable k) is p = absurd (false≢true is)
  leaves (leaf.Parameter k) is p = λ i. sym are.parameters i k p
  leaves (leaf.Own k) is p = λ i. sym (are.own k) i p
  leaves (leaf.Define k) is p = absurd (false≢true is)
  leaves (leaf.Bound at) is p = absurd (false≢true is)
  leaves (leaf.Hole h) is p = absurd (false≢true is)

  -- a parameter is a truth value
  parameter_truth : (n k : ℕ) → k < n → get_or (replicate n Truth) k Anything ≡ Truth
  parameter_truth zero k below = absurd (omega (arith, below))
  parameter_truth (suc n) zero below = refl
  parameter_truth (suc n) (suc k) below = parameter_truth n k (omega (arith, below))

  bounds : (bans : Bans) (o : Around) (at : Mark) (l : Leaf) → is_some o.bound ≡ true → good.leaf l ≡ true → leaf_faults (record { known = known; bans = bans }) o at l ≡ [] → is_whole (leaf_kind known l) ≡ true → is_some (leaf_number [] l) ≡ true
  bounds bans o at (leaf.Number n) there is none whole = refl
  bounds bans o at (leaf.Truth b) there is none whole = absurd (false≢true whole)
  bounds bans o at (leaf.EnumName k) there is none whole = absurd (false≢true whole)
  bounds bans o at (leaf.Parameter k) there is none whole = (let below : k < params = grind (arith, nat_tests) in absurd (false≢true (sym (ap is_whole (parameter_truth params k below)) ∙ whole)))
  bounds bans o at (leaf.Own k) there is none whole = absurd (banned_there _ o at there (empty_parts (fault_if bans.variable _ at.spot) _ none).1)
  bounds bans o at (leaf.Variable k) there is none whole = absurd (false≢true is)
  bounds bans o at (leaf.Define k) there is none whole = absurd (false≢true is)
  bounds bans o at (leaf.Bound v) there is none whole = absurd (false≢true is)
  bounds bans o at (leaf.Hole h) there is none whole = absurd (false≢true is)

  -- with everything put in it is the one that is written, written out
  put_is : (t made : ResolvedTree) → IsOut c t made → is_put_in good t ≡ true → is_put_in good made ≡ true → put_in b made ≡ written [] [] t
  put_is t made (inl same) is is_made = ap (written [] []) (bare (put_deep (length b) b) good (λ k. refl) made is_made ∙ same)
  put_is t made (inr out) is is_made =
      ap (written [] []) (bare (put_deep (length b) b) good (λ k. refl) made is_made ∙ (out ∙ out_same c good (λ k. refl) [] t is)) ∙ written_twice [] [] t

  -- the value of the one that is written
  line_has : (at : Stand) → ((k : Kind) → is_wanted at k ≡ true → is_truth k ≡ true) → (t made : ResolvedTree) → IsOut c t made → is_put_in good t ≡ true → is_put_in good made ≡ true → is_put_in good (put_in b made) ≡ true → faults_of known at (put_in b made) ≡ [] →
      HasSense r s t (formula_of known params (put_in b made))
  line_has at truth t made out is is_made put first p =
      let set : Setting = record { known = known; bans = bans_of at } in
      let same = put_is t made out is is_made in
      let parts = empty_parts (faults set nothing_open (written [] [] t)) _ (ap (faults_of known at) (sym same) ∙ first) in
      let put_there = ap (is_put_in good) (sym same) ∙ put in
      let tells = λ (n : Numbers) (o : Around) (t : ResolvedTree) (z : ℤ) (faultless : faults set o t ≡ []) (number : number_in [] t ≡ Some z) (p : ℕ).
      (number_is [] set (λ k z is. absurd (none_some is)) (with_numbers s n) (λ k z is. absurd (none_some is)) o t z faultless number).value_is p in
      let bounded = bound_some good set (bounds (bans_of at)) in
      subst (λ u. value_at r (formula_of known params u) p ≡ sense s t p) (sym same)
      (formula_has r s params good set leaves (λ first n there. absurd (false≢true there)) (λ first n there. absurd (false≢true there)) nothing_open (written [] [] t) (record { put = put_there; out = put_right good set s tells bounded [] nothing_open t put_there parts.0; none = parts.0 }) (truth _ (right _ (first_of (written [] [] t)) parts.1)) p
      ∙ put_sense good set s tells bounded [] nothing_open t put_there parts.0 s.number p)

  -- ---- lines

  abbrev Made : Option ℕ → List ResolvedPatternLine → List ResolvedPatternLine
  Made room ls = (each_in_turn (pattern_line_out c) room ls).made

  tree_is : (at : Stand) → ((k : Kind) → is_wanted at k ≡ true → is_truth k ≡ true) → (room : Option ℕ) (t : ResolvedTree) → is_put_in good t ≡ true → is_put_in good (tree_out c room t).made ≡ true → faults_of known at (put_in b (tree_out c room t).made) ≡ [] →
      HasSense r s t (formula_of known params (put_in b (tree_out c room t).made))
  tree_is at truth room t is is_made first =
      line_has at truth t (tree_out c room t).made (tree_made c (IsOut c t) room t (inl refl) (inr refl)) is is_made (tree_stays b names params (length own) (tree_out c room t).made is_made) first

  pub record AreGood (room : Option ℕ) (ls : List ResolvedPatternLine) : Type 0 where
    pub written : list_all (is_sound_pattern_line good) ls ≡ true
    pub made : list_all (is_sound_pattern_line good) (Made room ls) ≡ true
    pub none : flat_map (line_faults known) (map (pattern_line_put f) (Made room ls)) ≡ []

  next_good : (room : Option ℕ) (l : ResolvedPatternLine) (ls : List ResolvedPatternLine) → AreGood room (l ∷ ls) → AreGood (pattern_line_out c room l).room ls
  next_good room l ls all =
      record {
        written = (and_parts (is_sound_pattern_line good l) _ all.written).1;
        made = (and_parts (is_sound_pattern_line good (pattern_line_out c room l).made) _ all.made).1;
        none = (empty_parts (line_faults known (pattern_line_put f (pattern_line_out c room l).made)) _ all.none).1;
      }

  first_same : (room : Option ℕ) (ls : List ResolvedPatternLine) → AreGood room ls → HaveSenses r s (flat_map initial_in ls) (flat_map (first_in known params) (map (pattern_line_put f) (Made room ls)))
  first_same room [] all = tt
  first_same room (Initial at t ∷ ls) all =
      let is = (and_parts (is_put_in good t) _ all.written).0 in
      let is_made = (and_parts (is_put_in good (tree_out c room t).made) _ all.made).0 in
      let first = (empty_parts (faults_of known stand.PatternInitial (put_in b (tree_out c room t).made)) _ all.none).0 in
      (tree_is stand.PatternInitial (λ k e. e) room t is is_made first, first_same (tree_out c room t).room ls (next_good room (Initial at t) ls all))
  first_same room (Safety at t ∷ ls) all = first_same (tree_out c room t).room ls (next_good room (Safety at t) ls all)
  first_same room (Recurring at t ∷ ls) all = first_same (tree_out c room t).room ls (next_good room (Recurring at t) ls all)

  step_same : (room : Option ℕ) (ls : List ResolvedPatternLine) → AreGood room ls → HaveSenses r s (flat_map safety_in ls) (flat_map (step_in known params) (map (pattern_line_put f) (Made room ls)))
  step_same room [] all = tt
  step_same room (Initial at t ∷ ls) all = step_same (tree_out c room t).room ls (next_good room (Initial at t) ls all)
  step_same room (Safety at t ∷ ls) all =
      let is = (and_parts (is_put_in good t) _ all.written).0 in
      let is_made = (and_parts (is_put_in good (tree_out c room t).made) _ all.made).0 in
      let first = (empty_parts (faults_of known stand.PatternSafety (put_in b (tree_out c room t).made)) _ all.none).0 in
      (tree_is stand.PatternSafety (λ k e. e) room t is is_made first, step_same (tree_out c room t).room ls (next_good room (Safety at t) ls all))
  step_same room (Recurring at t ∷ ls) all = step_same (tree_out c room t).room ls (next_good room (Recurring at t) ls all)

  goals_same : (room : Option ℕ) (ls : List ResolvedPatternLine) → AreGood room ls → HaveSenses r s (flat_map recurring_in ls) (flat_map (goals_in known params) (map (pattern_line_put f) (Made room ls)))
  goals_same room [] all = tt
  goals_same room (Initial at t ∷ ls) all = goals_same (tree_out c room t).room ls (next_good room (Initial at t) ls all)
  goals_same room (Safety at t ∷ ls) all = goals_same (tree_out c room t).room ls (next_good room (Safety at t) ls all)
  goals_same room (Recurring at t ∷ ls) all =
      let is = (and_parts (is_put_in good t) _ all.written).0 in
      let is_made = (and_parts (is_put_in good (tree_out c room t).made) _ all.made).0 in
      let first = (empty_parts (faults_of known stand.PatternRecurring (put_in b (tree_out c room t).made)) _ all.none).0 in
      (tree_is stand.PatternRecurring (λ k e. e) room t is is_made first, goals_same (tree_out c room t).room ls (next_good room (Recurring at t) ls all))

module _ (text : ResolvedText) (sound : IsSound (out.judged text)) (none : declared_faults (out.judged text) ≡ []) (own : HasOwnPlaces text) where
  abbrev judged : ResolvedText
  judged = out.judged text

  abbrev constant_numbers : List (Option ℤ)
  constant_numbers = (constants text.definitions).numbers

  abbrev z : Sizes
  z = sizes_of judged

  abbrev facts : Facts
  facts = facts_of judged

  abbrev AreKinds : List ResolvedType → Type 0
  AreKinds ts = list_all (λ t. is_type_kind (length judged.names) (kind_in judged t)) ts ≡ true

  -- the lines of a pattern may have in them what they have
  abbrev HasLines : ResolvedPattern → List ResolvedPatternLine → Type 0
  HasLines p ls = list_all (is_sound_pattern_line (in_pattern z.names p.params (length (own_kinds judged p)))) ls ≡ true

  has_lines : (p : ResolvedPattern) (made : ResolvedPattern) → made.params ≡ p.params → made.own ≡ p.own → is_sound_pattern z made ≡ true → HasLines p made.lines
  has_lines p made params own is =
      let rest = and_parts (not made.doubled) _ is in
      let lines = (and_parts (list_all (is_type z) made.own) (list_all (is_sound_pattern_line (in_pattern z.names made.params (length made.own))) made.lines) rest.1).1 in
      let long = length-map p.own (kind_in judged) in
      (λ i. list_all (is_sound_pattern_line (in_pattern z.names (sym params i) ((long ∙ ap (λ (ts : List ResolvedType). length ts) (sym own)) i))) made.lines) ∙ lines

  pattern_same : (room : Option ℕ) (p : ResolvedPattern) → is_sound_pattern z p ≡ true → is_sound_pattern z (pattern_out constant_numbers room p).made ≡ true → AreKinds p.own →
      pattern_faults true (own_kinds judged p) (pattern_put facts (pattern_out constant_numbers room p).made) ≡ [] → IsPatternOf text p (pattern_of (own_kinds judged p) (pattern_put facts (pattern_out constant_numbers room p).made))
  pattern_same room p is is_made kinds faultless =
      let made = (pattern_out constant_numbers room p).made in
      let all : (r : Reading) (s : Senses) (are : AreInPattern p.params r s) → AreGood facts constant_numbers z.names sound.few_names p.params (own_kinds judged p) r s are room p.lines =
      λ r s are. record { written = has_lines p p refl refl is; made = has_lines p made refl refl is_made; none = (empty_parts (lines_faults (own_kinds judged p) (pattern_put facts made)) _ faultless).0 } in
      record {
        params = refl;
        own = own_have text sound none own (length judged.names) p.own kinds;
        lines = λ r s are.
            record {
              first = first_same facts constant_numbers z.names sound.few_names p.params (own_kinds judged p) r s are room p.lines (all r s are);
              step = step_same facts constant_numbers z.names sound.few_names p.params (own_kinds judged p) r s are room p.lines (all r s are);
              goals = goals_same facts constant_numbers z.names sound.few_names p.params (own_kinds judged p) r s are room p.lines (all r s are);
            };
      }

  pub patterns_same : (room : Option ℕ) (ps : List ResolvedPattern) → list_all (is_sound_pattern z) ps ≡ true → list_all (is_sound_pattern z) (each_in_turn (pattern_out constant_numbers) room ps).made ≡ true →
      list_all (λ (p : ResolvedPattern). list_all (λ t. is_type_kind (length judged.names) (kind_in judged t)) p.own) (each_in_turn (pattern_out constant_numbers) room ps).made ≡ true →
      are_all_sound (map (typed_pattern judged) (each_in_turn (pattern_out constant_numbers) room ps).made) ≡ true →
      PatternsHaveNoFault facts (map (typed_pattern judged) (each_in_turn (pattern_out constant_numbers) room ps).made) →
      ArePatternsOf text ps (map (λ (p : TypedPattern). pattern_of p.own (pattern_put facts p.pattern)) (map (typed_pattern judged) (each_in_turn (pattern_out constant_numbers) room ps).made))
  patterns_same room [] all made kinds said right = tt
  patterns_same room (p ∷ ps) all made kinds said right =
      let one = (pattern_out constant_numbers room p).made in
      let parts = and_parts (is_sound_pattern z p) _ all in
      let makes = and_parts (is_sound_pattern z one) _ made in
      let types = and_parts (list_all (λ t. is_type_kind (length judged.names) (kind_in judged t)) one.own) _ kinds in
      let sounds = and_parts (is_sound judged one) _ said in
      (pattern_same room p parts.0 makes.0 types.0 (right.1 sounds.0), patterns_same (pattern_out constant_numbers room p).room ps parts.1 makes.1 types.1 sounds.1 right.2)
