-- The faults of an expression stand at places of it.
use Rattle.std.proofs.Common.{◌≡◌, ℕ, pos, Bool, true, false, not, ◌&&◌, ◌||◌, if◌then◌else◌, List, [], ◌∷◌, ◌++◌, drop, get_or, unwrap_or, Option, Some, None, refl}
use Rattle.std.specs.Prelude.{int_le}
use Rattle.std.specs.List.{list_all}
use Rattle.std.proofs.lemmas.Bool.{and_parts, and_from}
use Rattle.spectra_trees.specs.Faults.{NextHere, NextNested, NextOfSystem, OutOfBounds, SystemInInitial, WideInt, WrongType, number_of}
use Rattle.spectra_resolved.specs.declared.spot.Spot.{Spot}
use Rattle.spectra_resolved.specs.declared.spot.Mark.{Mark}
use Rattle.spectra_resolved.specs.declared.stand.Stand.{Stand}
use Rattle.spectra_resolved.specs.declared.tree.Leaf.{Leaf}
use Rattle.spectra_resolved.specs.declared.tree.Leaf.TheVariants as leaf
use Rattle.spectra_resolved.specs.declared.tree.Misuse.{Misuse}
use Rattle.spectra_resolved.specs.declared.tree.Misuse.TheVariants as misuse
use Rattle.spectra_resolved.specs.declared.findings.Finding.{Finding}
use Rattle.spectra_resolved.specs.Resolved.{ResolvedTree, tree, Form, ResolvedTrees}
use Rattle.spectra_judge.specs.Findings.{fault_if}
use Rattle.spectra_judge.specs.Kinds.{Kind, Whole, Anything, is_truth, is_whole, is_wide, is_outside, can_equal, reduced}
use Rattle.spectra_judge.specs.Operators.{takes, gives, is_past, is_past_prefix}
use Rattle.spectra_judge.specs.declared.standing.Bans.{Bans}
use Rattle.spectra_judge.specs.Standings.{bans_of, is_wanted}
use Rattle.spectra_judge.specs.declared.around.Around.{Around}
use Rattle.spectra_judge.specs.Around.{meeting, nothing_open, outer_of, under_next, in_bound, first_brought, within, in_next, in_past, in_bounds, next_faults, shifted, variable_faults, parameter_faults, own_faults}
use Rattle.spectra_judge.specs.Known.{Known, Setting, is_system, wanted}
use Rattle.spectra_judge.specs.Judged.{kind_of, wrong, wide, binary_faults, remainder_faults, operator_faults, leaf_faults, called_faults, misuse_faults, index_faults, is_wrong, first_of, faults, form_faults, operand_faults, copy_faults, argument_faults, faults_of}
use Rattle.spectra_bodies.specs.Places.{all_places, form_places, each_places}

module _ (good : Spot → Bool) where
  abbrev is_there : Finding → Bool
  is_there f = good f.at

  -- each fault stands at a place of which the test holds
  abbrev pub AreThere : List Finding → Type 0
  AreThere fs = list_all is_there fs ≡ true

  pub both_there : (fs gs : List Finding) → AreThere fs → AreThere gs → AreThere (fs ++ gs)
  both_there [] gs p q = q
  both_there (f ∷ fs) gs p q =
      let parts = and_parts (is_there f) (list_all is_there fs) p in
      and_from (is_there f) (list_all is_there (fs ++ gs)) parts.0 (both_there fs gs parts.1 q)

  if_there : (b : Bool) (number : ℕ) (at : Spot) → good at ≡ true → AreThere (fault_if b number at)
  if_there true number at here = and_from (good at) true here refl
  if_there false number at here = refl

  -- ---- what is open

  abbrev next_there : Option Mark → Bool
  next_there (Some at) = good at.spot
  next_there None = true

  abbrev brought_there : Option Spot → Bool
  brought_there (Some at) = good at
  brought_there None = true

  -- what is open stands at such places too
  record IsThere (o : Around) : Type 0 where
    next : next_there o.next ≡ true
    brought : brought_there o.brought ≡ true
    bound : next_there o.bound ≡ true

  outer_there : (next : Option Mark) (at : Mark) → next_there next ≡ true → good at.spot ≡ true → next_there (Some (outer_of next at)) ≡ true
  outer_there (Some outer) at opened here = opened
  outer_there None at opened here = here

  first_there : (brought : Option Spot) (b : Bool) (at : Spot) → brought_there brought ≡ true → good at ≡ true → brought_there (first_brought brought b at) ≡ true
  first_there (Some outer) b at opened here = opened
  first_there None true at opened here = here
  first_there None false at opened here = refl

  under_there : (at : Mark) (o : Around) → IsThere o → good at.spot ≡ true → IsThere (under_next at o)
  under_there at o opened here = record { next = outer_there o.next at opened.next here; brought = opened.brought; bound = opened.bound }

  bound_there : (at : Mark) (o : Around) → IsThere o → good at.spot ≡ true → IsThere (in_bound at o)
  bound_there at o opened here = record { next = opened.next; brought = opened.brought; bound = outer_there o.bound at opened.bound here }

  within_there : (past : Bool) (at : Mark) (o : Around) → IsThere o → good at.spot ≡ true → IsThere (within past at o)
  within_there true at o opened here = record { next = opened.next; brought = first_there o.brought at.brought at.spot opened.brought here; bound = opened.bound }
  within_there false at o opened here = opened

  -- ---- one part

  either : (b : Bool) (p q : Spot) → good p ≡ true → good q ≡ true → good (if b then p else q) ≡ true
  either true p q one other = one
  either false p q one other = other

  meeting_there : (outer inner said : Mark) → good outer.spot ≡ true → good inner.spot ≡ true → good said.spot ≡ true → good (meeting outer inner said) ≡ true
  meeting_there outer inner said p q r =
      either outer.brought outer.spot (if inner.brought then inner.spot else said.spot) p (either inner.brought inner.spot said.spot q r)

  in_next_there : (next : Option Mark) (at : Mark) → next_there next ≡ true → good at.spot ≡ true → AreThere (in_next next at)
  in_next_there (Some outer) at opened here = and_from (good (meeting outer at at)) true (meeting_there outer at at opened here here) refl
  in_next_there None at opened here = refl

  open_there : (brought : Option Spot) (at : Spot) → brought_there brought ≡ true → good at ≡ true → good (unwrap_or brought at) ≡ true
  open_there (Some outer) at opened here = opened
  open_there None at opened here = here

  shifted_there : (b : Bool) (number : ℕ) (next : Option Mark) (at : Mark) → next_there next ≡ true → good at.spot ≡ true → AreThere (shifted b number next at)
  shifted_there b number (Some next) at opened here = if_there b number (meeting next at next) (meeting_there next at next opened here opened)
  shifted_there b number None at opened here = refl

  in_bounds_there : (b : Bool) (number : ℕ) (o : Around) (at : Mark) → IsThere o → good at.spot ≡ true → AreThere (in_bounds b number o at)
  in_bounds_there b number o at opened here = by o.next o.past o.brought o.bound opened.bound
    where
      by : (next : Option Mark) (past : Bool) (brought : Option Spot) (bound : Option Mark) → next_there bound ≡ true → AreThere (in_bounds b number (record { next = next; past = past; brought = brought; bound = bound }) at)
      by next past brought (Some outer) there = if_there b number (meeting outer at at) (meeting_there outer at at there here here)
      by next past brought None there = refl

  next_faults_there : (bans : Bans) (o : Around) (at : Mark) → IsThere o → good at.spot ≡ true → AreThere (next_faults bans o at)
  next_faults_there bans o at opened here =
      let last = in_bounds true (number_of NextHere) o at in
      both_there (fault_if bans.next (number_of NextHere) at.spot) (in_next o.next at ++ (in_past o at.spot ++ last)) (if_there bans.next (number_of NextHere) at.spot here)
      (both_there (in_next o.next at) (in_past o at.spot ++ last) (in_next_there o.next at opened.next here)
      (both_there (in_past o at.spot) last (if_there o.past (number_of NextNested) (unwrap_or o.brought at.spot) (open_there o.brought at.spot opened.brought here))
      (in_bounds_there true (number_of NextHere) o at opened here)))

  operator_there : (s : Setting) (past : Bool) (next : Option Mark) (at : Mark) → next_there next ≡ true → good at.spot ≡ true → AreThere (operator_faults s past next at)
  operator_there s true next at opened here =
      both_there (fault_if s.bans.past (number_of WrongType) at.spot) (in_next next at) (if_there s.bans.past (number_of WrongType) at.spot here) (in_next_there next at opened here)
  operator_there s false next at opened here = refl

  variable_there : (bans : Bans) (o : Around) (at : Mark) (system : Bool) → IsThere o → good at.spot ≡ true → AreThere (variable_faults bans o at system)
  variable_there bans o at system opened here =
      let initial = fault_if (bans.system && system) (number_of SystemInInitial) at.spot in
      let later = shifted (bans.shifted_system && system) (number_of NextOfSystem) o.next at in
      let last = in_bounds true (number_of WrongType) o at in
      both_there (fault_if bans.variable (number_of WrongType) at.spot) (initial ++ (later ++ last)) (if_there bans.variable (number_of WrongType) at.spot here)
      (both_there initial (later ++ last) (if_there (bans.system && system) (number_of SystemInInitial) at.spot here)
      (both_there later last (shifted_there (bans.shifted_system && system) (number_of NextOfSystem) o.next at opened.next here) (in_bounds_there true (number_of WrongType) o at opened here)))

  leaf_there : (s : Setting) (o : Around) (at : Mark) (l : Leaf) → IsThere o → good at.spot ≡ true → AreThere (leaf_faults s o at l)
  leaf_there s o at (leaf.Number z) opened here = if_there (is_wide (Whole z z)) (number_of WideInt) at.spot here
  leaf_there s o at (leaf.Variable k) opened here = variable_there s.bans o at (is_system s.known k) opened here
  leaf_there s o at (leaf.Parameter k) opened here =
      let banned = s.bans.variable || s.bans.parameter in
      let later = shifted s.bans.shifted_parameter (number_of NextHere) o.next at in
      let last = in_bounds s.bans.bound_parameter (number_of WrongType) o at in
      both_there (fault_if banned (number_of WrongType) at.spot) (later ++ last) (if_there banned (number_of WrongType) at.spot here)
      (both_there later last (shifted_there s.bans.shifted_parameter (number_of NextHere) o.next at opened.next here) (in_bounds_there s.bans.bound_parameter (number_of WrongType) o at opened here))
  leaf_there s o at (leaf.Own k) opened here =
      both_there (fault_if s.bans.variable (number_of WrongType) at.spot) (in_bounds true (number_of WrongType) o at) (if_there s.bans.variable (number_of WrongType) at.spot here)
      (in_bounds_there true (number_of WrongType) o at opened here)
  leaf_there s o at (leaf.Truth b) opened here = refl
  leaf_there s o at (leaf.EnumName k) opened here = refl
  leaf_there s o at (leaf.Define k) opened here = refl
  leaf_there s o at (leaf.Bound variable) opened here = refl
  leaf_there s o at (leaf.Hole h) opened here = refl

  called_there : (s : Setting) (o : Around) (at : Mark) (m : Misuse) → IsThere o → good at.spot ≡ true → AreThere (called_faults s o at m)
  called_there s o at (misuse.Called l) opened here = leaf_there s o at l opened here
  called_there s o at misuse.Unknown opened here = refl
  called_there s o at (misuse.Bare k) opened here = refl
  called_there s o at (misuse.Arity k) opened here = refl

  pub first_is_there : (t : ResolvedTree) → all_places good t ≡ true → good (first_of t) ≡ true
  first_is_there (tree first at form) all =
      (and_parts (good first) (good at.spot) (and_parts (good first && good at.spot) (form_places good form) all).0).0

  operator_at : (operators : List Spot) (at : Spot) → list_all good operators ≡ true → good at ≡ true → good (get_or operators 0 at) ≡ true
  operator_at [] at all here = here
  operator_at (x ∷ operators) at all here = (and_parts (good x) (list_all good operators) all).0

  operators_behind : (operators : List Spot) → list_all good operators ≡ true → list_all good (drop 1 operators) ≡ true
  operators_behind [] all = refl
  operators_behind (x ∷ operators) all = (and_parts (good x) (list_all good operators) all).1

  -- ---- an expression

  module _ (s : Setting) where
    -- a bound with its kind, where its faults are there
    one_bound_there : (o : Around) (t : ResolvedTree) → AreThere (faults s o t) → all_places good t ≡ true → AreThere (faults s o t ++ wrong (is_whole (kind_of s.known t)) (first_of t))
    one_bound_there o t own all =
        both_there (faults s o t) (wrong (is_whole (kind_of s.known t)) (first_of t)) own
        (if_there (not (is_whole (kind_of s.known t))) (number_of WrongType) (first_of t) (first_is_there t all))

    mutual
      faults_there : (o : Around) (t : ResolvedTree) → IsThere o → all_places good t ≡ true → AreThere (faults s o t)
      faults_there o (tree first at form) opened all =
          let parts = and_parts (good first && good at.spot) (form_places good form) all in
          form_there o at form opened (and_parts (good first) (good at.spot) parts.0).1 parts.1

      form_there : (o : Around) (at : Mark) (form : Form) → IsThere o → good at.spot ≡ true → form_places good form ≡ true → AreThere (form_faults s o at form)
      form_there o at (Form.LeafOf l) opened here all = leaf_there s o at l opened here
      form_there o at (Form.PredicateOf k ts) opened here all = arguments_there o (wanted s.known (Some k)) ts opened all
      form_there o at (Form.MisuseOf m ts) opened here all =
          both_there (misuse_faults s o at m) (argument_faults s o (wanted s.known None) ts)
          (and_from (good at.spot) (list_all is_there (called_faults s o at m)) here (called_there s o at m opened here)) (arguments_there o (wanted s.known None) ts opened all)
      form_there o at (Form.Next t) opened here all =
          both_there (next_faults s.bans o at) (faults s (under_next at o) t) (next_faults_there s.bans o at opened here) (faults_there (under_next at o) t (under_there at o opened here) all)
      form_there o at (Form.Prefix word t) opened here all =
          let past = is_past_prefix word in
          let inner = faults s (within past at o) t in
          let own = wrong (is_truth (kind_of s.known t)) at.spot in
          both_there (operator_faults s past o.next at) (inner ++ own) (operator_there s past o.next at opened.next here)
          (both_there inner own (faults_there (within past at o) t (within_there past at o opened here) all) (if_there (not (is_truth (kind_of s.known t))) (number_of WrongType) at.spot here))
      form_there o at (Form.Binary word a b) opened here all =
          let past = is_past word in
          let first = faults s (within past at o) a in
          let second = faults s (within past at o) b in
          let j = kind_of s.known a in
          let k = kind_of s.known b in
          let inside = within_there past at o opened here in
          let parts = and_parts (all_places good a) (all_places good b) all in
          both_there first (operator_faults s past o.next at ++ (second ++ binary_faults word j k at.spot)) (faults_there (within past at o) a inside parts.0)
          (both_there (operator_faults s past o.next at) (second ++ binary_faults word j k at.spot) (operator_there s past o.next at opened.next here)
          (both_there second (binary_faults word j k at.spot) (faults_there (within past at o) b inside parts.1)
          (both_there (wrong (takes word j k) at.spot) (wide (gives word j k) at.spot) (if_there (not (takes word j k)) (number_of WrongType) at.spot here)
          (if_there (is_wide (gives word j k)) (number_of WideInt) at.spot here))))
      form_there o at (Form.Mod t number_at n) opened here all =
          let k = kind_of s.known t in
          let parts = and_parts (all_places good t) (good number_at) all in
          let last = fault_if (int_le n (pos 0)) (number_of WideInt) number_at in
          both_there (faults s o t) (remainder_faults k at.spot number_at n) (faults_there o t opened parts.0)
          (both_there (wrong (is_whole k) at.spot) (last ++ wide (reduced n) at.spot) (if_there (not (is_whole k)) (number_of WrongType) at.spot here)
          (both_there last (wide (reduced n) at.spot) (if_there (int_le n (pos 0)) (number_of WideInt) number_at parts.1) (if_there (is_wide (reduced n)) (number_of WideInt) at.spot here)))
      form_there o at (Form.And ts operators) opened here all =
          let parts = and_parts (each_places good ts) (list_all good operators) all in
          operands_there o at.spot (at.spot ∷ operators) ts opened here (and_from (good at.spot) (list_all good operators) here parts.1) parts.0
      form_there o at (Form.Or ts operators) opened here all =
          let parts = and_parts (each_places good ts) (list_all good operators) all in
          operands_there o at.spot (at.spot ∷ operators) ts opened here (and_from (good at.spot) (list_all good operators) here parts.1) parts.0
      form_there o at (Form.Index first n t) opened here all =
          let k = kind_of s.known t in
          let last = fault_if (is_outside n k) (number_of OutOfBounds) at.spot in
          both_there (faults s o t) (index_faults s o at first n k (first_of t)) (faults_there o t opened all)
          (both_there (variable_faults s.bans o at (is_system s.known first)) (wrong (is_whole k) (first_of t) ++ last) (variable_there s.bans o at (is_system s.known first) opened here)
          (both_there (wrong (is_whole k) (first_of t)) last (if_there (not (is_whole k)) (number_of WrongType) (first_of t) (first_is_there t all)) (if_there (is_outside n k) (number_of OutOfBounds) at.spot here)))
      form_there o at (Form.Quantified word variable extent low high ts) opened here all =
          let parts = and_parts (all_places good low) (all_places good high && each_places good ts) all in
          let rest = and_parts (all_places good high) (each_places good ts) parts.1 in
          let inner = bound_there at o opened here in
          let first = faults s (in_bound at o) low ++ wrong (is_whole (kind_of s.known low)) (first_of low) in
          let second = faults s (in_bound at o) high ++ wrong (is_whole (kind_of s.known high)) (first_of high) in
          let own = fault_if (is_wrong extent) (number_of WideInt) at.spot in
          both_there (first ++ second) (own ++ copy_faults s o ts)
          (both_there first second (one_bound_there (in_bound at o) low (faults_there (in_bound at o) low inner parts.0) parts.0) (one_bound_there (in_bound at o) high (faults_there (in_bound at o) high inner rest.0) rest.0))
          (both_there own (copy_faults s o ts) (if_there (is_wrong extent) (number_of WideInt) at.spot here) (copies_there o ts opened rest.1))

      copies_there : (o : Around) (ts : ResolvedTrees) → IsThere o → each_places good ts ≡ true → AreThere (copy_faults s o ts)
      copies_there o ResolvedTrees.none opened all = refl
      copies_there o (ResolvedTrees.one_more t ts) opened all =
          let parts = and_parts (all_places good t) (each_places good ts) all in
          let own = wrong (is_truth (kind_of s.known t)) (first_of t) in
          both_there (faults s o t) (own ++ copy_faults s o ts) (faults_there o t opened parts.0)
          (both_there own (copy_faults s o ts) (if_there (not (is_truth (kind_of s.known t))) (number_of WrongType) (first_of t) (first_is_there t parts.0)) (copies_there o ts opened parts.1))

      operands_there : (o : Around) (at : Spot) (operators : List Spot) (ts : ResolvedTrees) → IsThere o → good at ≡ true → list_all good operators ≡ true → each_places good ts ≡ true → AreThere (operand_faults s o at operators ts)
      operands_there o at operators ResolvedTrees.none opened here between all = refl
      operands_there o at operators (ResolvedTrees.one_more t ts) opened here between all =
          let parts = and_parts (all_places good t) (each_places good ts) all in
          let own = wrong (is_truth (kind_of s.known t)) (get_or operators 0 at) in
          let rest = operand_faults s o at (drop 1 operators) ts in
          both_there (faults s o t) (own ++ rest) (faults_there o t opened parts.0)
          (both_there own rest (if_there (not (is_truth (kind_of s.known t))) (number_of WrongType) (get_or operators 0 at) (operator_at operators at between here))
          (operands_there o at (drop 1 operators) ts opened here (operators_behind operators between) parts.1))

      arguments_there : (o : Around) (kinds : List Kind) (ts : ResolvedTrees) → IsThere o → each_places good ts ≡ true → AreThere (argument_faults s o kinds ts)
      arguments_there o kinds ResolvedTrees.none opened all = refl
      arguments_there o kinds (ResolvedTrees.one_more t ts) opened all =
          let parts = and_parts (all_places good t) (each_places good ts) all in
          let fits = can_equal (get_or kinds 0 Anything) (kind_of s.known t) in
          let rest = argument_faults s o (drop 1 kinds) ts in
          both_there (faults s o t) (wrong fits (first_of t) ++ rest) (faults_there o t opened parts.0)
          (both_there (wrong fits (first_of t)) rest (if_there (not fits) (number_of WrongType) (first_of t) (first_is_there t parts.0))
          (arguments_there o (drop 1 kinds) ts opened parts.1))

  pub all_there : (known : Known) (st : Stand) (t : ResolvedTree) → all_places good t ≡ true → AreThere (faults_of known st t)
  all_there known st t all =
      let s : Setting = record { known = known; bans = bans_of st } in
      let fits = is_wanted st (kind_of known t) in
      both_there (faults s nothing_open t) (wrong fits (first_of t)) (faults_there s nothing_open t (record { next = refl; brought = refl; bound = refl }) all)
      (if_there (not fits) (number_of WrongType) (first_of t) (first_is_there t all))
