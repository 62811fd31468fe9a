-- Which states have the same bits at some levels, and bits that are mixed of two states.
use Rattle.std.proofs.Common.{◌≡◌, ℕ, suc, ◌+◌, ◌-◌, ◌<◌, ◌≤◌, ◌==◌, nat_le, nat_lt, pos, Bool, true, false, not, cond, List, [], ◌∷◌, ◌++◌, length, length-append, map, get_or, Some, None, refl, sym, ◌∙◌, ap, arith}
use Rattle.std.proofs.lemmas.Bool.{and_parts, and_from, false≢true, leb-true, le-leb}
use Rattle.std.proofs.lemmas.List.{length-map, get_or_append_left, get_or-append_right}
use borrow.Author.Tests.{ltb-true, lt-ltb, eqb-true, eq-eqb}
use Rattle.spec_model.specs.declared.value.Value.{Value}
use Rattle.spec_model.specs.declared.value.Value.TheVariants as value
use Rattle.spec_model.specs.Values.{Assignment, rank_of}
use Rattle.spec_model.specs.Diagrams.{Bits}
use Rattle.spec_model.specs.Moves.{is_env, domains_of}
use Rattle.spec_model.specs.Games.{GameData, HiddenData, State, listed}
use Rattle.spec_model.specs.Steps.{Before, is_state, is_input, are_hidden_values, reached}
use Rattle.game_values.specs.declared.seen.At.TheVariants.{Now, Next}
use Rattle.bdd_ops.specs.Functions.{is_among}
use Rattle.bit_compile.specs.Domains.{state_domains}
use Rattle.bit_compile.specs.Codes.{has_number, level_at, width_at, code_at, domain_in}
use Rattle.bit_compile.proofs.NumberLemmas.{has_number-same, one_number}
use Rattle.bit_compile.proofs.SlotLemmas.{value_among, length-assignment}
use Rattle.bit_compile.proofs.LawLemmas.{code_small, one_value, state_listed}
use Rattle.bdd_sets.specs.StateBits.{bits_for, HasState}
use Rattle.bdd_sets.specs.MoveBits.{is_input_slot, IsLevelOf, AreNextOf, is_any_slot, is_reply_slot}
use Rattle.bdd_sets.specs.ToldMoves.{HasBefore, same_numbers, follows}
use Rattle.bdd_sets.proofs.BitLemmas.{has_bits}
use Rattle.bdd_sets.proofs.QuantLemmas.{AgreesOff}

pub same_numbers-true : (ms ns : List ℕ) → same_numbers ms ns ≡ true → ms ≡ ns
same_numbers-true [] [] e = refl
same_numbers-true [] (n ∷ ns) e = absurd (false≢true e)
same_numbers-true (m ∷ ms) [] e = absurd (false≢true e)
same_numbers-true (m ∷ ms) (n ∷ ns) e =
    let parts = and_parts (m == n) (same_numbers ms ns) e in
    let first = eqb-true m n parts.0 in
    let rest = same_numbers-true ms ns parts.1 in
    cc

pub same_numbers-refl : (ms : List ℕ) → same_numbers ms ms ≡ true
same_numbers-refl [] = refl
same_numbers-refl (m ∷ ms) = and_from _ _ (eq-eqb m m refl) (same_numbers-refl ms)

same_lists : (vs ws : List Value) → length vs ≡ length ws → ((k : ℕ) → k < length vs → get_or vs k (value.Bool false) ≡ get_or ws k (value.Bool false)) → vs ≡ ws
same_lists [] [] long same = refl
same_lists [] (w ∷ ws) long same = absurd (omega (arith, long))
same_lists (v ∷ vs) [] long same = absurd (omega (arith, long))
same_lists (v ∷ vs) (w ∷ ws) long same =
    let first = same 0 (omega arith) in
    let rest = same_lists vs ws (omega (arith, long)) (λ k h. same (suc k) (omega arith)) in
    cc

hidden_length : (hs : List HiddenData) (vs : List ℕ) → are_hidden_values hs vs ≡ true → length vs ≡ length hs
hidden_length [] [] e = refl
hidden_length [] (v ∷ vs) e = absurd (false≢true e)
hidden_length (h ∷ hs) [] e = absurd (false≢true e)
hidden_length (h ∷ hs) (v ∷ vs) e = ap suc (hidden_length hs vs (and_parts (nat_lt v h.values) _ e).1)

-- bits that are those of the first at the levels, and of the second elsewhere
abbrev pub mixed : List ℕ → Bits → Bits → Bits
mixed levels b c m = cond (is_among m levels) (b m) (c m)

pub mixed_off : (levels : List ℕ) (b c : Bits) → AgreesOff levels c (mixed levels b c)
mixed_off levels b c = record { same = λ m out. ap (λ a. cond a (b m) (c m)) out }

module _ (g : GameData) where
  -- ---- the parts of a state

  pub hidden_is : (b : Before) (x y x' y' : Assignment) → (reached g b x y).hidden ≡ (reached g b x' y').hidden
  hidden_is None x y x' y' = refl
  hidden_is (Some s) x y x' y' = refl

  pub reached_is : (b : Before) (s : State) → follows g b s ≡ true → reached g b s.position.input s.position.output ≡ s
  reached_is b s e =
      let hidden : (reached g b s.position.input s.position.output).hidden ≡ s.hidden = hidden_is b s.position.input s.position.output [] [] ∙ sym (same_numbers-true s.hidden (reached g b [] []).hidden e) in
      λ i. record { hidden = hidden i; position = s.position }

  pub follows-reached : (b : Before) (x y : Assignment) → follows g b (reached g b x y) ≡ true
  follows-reached b x y = ap (λ hidden. same_numbers (reached g b x y).hidden hidden) (hidden_is b [] [] x y) ∙ same_numbers-refl (reached g b x y).hidden

  hidden_part : (s : State) → is_state g s ≡ true → length (map (λ v. value.Int (pos v)) s.hidden) ≡ length g.hidden
  hidden_part s e = length-map s.hidden (λ v. value.Int (pos v)) ∙ hidden_length g.hidden s.hidden (and_parts (are_hidden_values g.hidden s.hidden) _ e).0

  input_part : (s : State) → is_state g s ≡ true → length s.position.input ≡ length (domains_of is_env g.variables)
  input_part s e = length-assignment (domains_of is_env g.variables) s.position.input (and_parts (is_input g s.position.input) _ (and_parts (are_hidden_values g.hidden s.hidden) _ e).1).0

  slot_inside : (k : ℕ) → is_input_slot g k ≡ true → (length g.hidden ≤ k) × (k < length g.hidden + length (domains_of is_env g.variables))
  slot_inside k e = let parts = and_parts (nat_le (length g.hidden) k) _ e in (leb-true (length g.hidden) k parts.0, ltb-true k (length g.hidden + length (domains_of is_env g.variables)) parts.1)

  input_value : (s : State) → is_state g s ≡ true → (k : ℕ) → is_input_slot g k ≡ true → get_or (listed s) k (value.Bool false) ≡ get_or s.position.input (k - length g.hidden) (value.Bool false)
  input_value s e k slot =
      let inside = slot_inside k slot in
      let long = input_part s e in
      get_or-append_right (map (λ v. value.Int (pos v)) s.hidden) (s.position.input ++ s.position.output) (length g.hidden) k (value.Bool false) (hidden_part s e) inside.0
      ∙ get_or_append_left s.position.input s.position.output (value.Bool false) (k - length g.hidden) (omega (arith, inside.0, inside.1, long))

  -- ---- the bits of two states

  number_kept : (levels : List ℕ) (test : ℕ → Bool) (b b' : Bits) → AreNextOf g test levels → AgreesOff levels b b' → (k n : ℕ) → k < length (state_domains g) → test k ≡ false →
      has_number (level_at (state_domains g) Next k) (width_at (state_domains g) k) n b' ≡ has_number (level_at (state_domains g) Next k) (width_at (state_domains g) k) n b
  number_kept levels test b b' next agrees k n known out = has_number-same (level_at (state_domains g) Next k) (width_at (state_domains g) k) n b' b (λ m low high. agrees.same m (next.leaves k m known out (low, high)))

  -- what is present stays
  pub before_kept : (levels : List ℕ) (test : ℕ → Bool) (b b' : Bits) → AreNextOf g test levels → AgreesOff levels b b' → (before : Before) → HasBefore g before b → HasBefore g before b'
  before_kept levels test b b' next agrees None = λ has. has
  before_kept levels test b b' next agrees (Some s) = λ has k known.
      has_number-same (level_at (state_domains g) Now k) (width_at (state_domains g) k) (code_at (state_domains g) (listed s) k) b' b (λ m low high. agrees.same m (next.leaves_present k m known (low, high))) ∙ has k known

  -- states whose bits agree but for those of replies have the same inputs
  pub inputs_one : (levels : List ℕ) (b b' : Bits) (s s' : State) → AreNextOf g (is_reply_slot g) levels → AgreesOff levels b b' → is_state g s ≡ true → is_state g s' ≡ true → HasState g Next s b → HasState g Next s' b' → s'.position.input ≡ s.position.input
  inputs_one levels b b' s s' next agrees here here' has has' =
      same_lists s'.position.input s.position.input (input_part s' here' ∙ sym (input_part s here)) (λ j below. one j below)
    where
      one : (j : ℕ) → j < length s'.position.input → get_or s'.position.input j (value.Bool false) ≡ get_or s.position.input j (value.Bool false)
      one j below =
          let n = length g.hidden in
          let k = n + j in
          let long = input_part s' here' in
          let slot : is_input_slot g k ≡ true = and_from _ _ (le-leb n k (omega arith)) (lt-ltb k (n + length (domains_of is_env g.variables)) (omega (arith, below, long))) in
          let listed_s = state_listed g s here in
          let listed_s' = state_listed g s' here' in
          let many = length-assignment (state_domains g) (listed s) listed_s in
          let many' = length-assignment (state_domains g) (listed s') listed_s' in
          let parts = length-append (map (λ v. value.Int (pos v)) s'.hidden) (s'.position.input ++ s'.position.output) in
          let more = length-append s'.position.input s'.position.output in
          let first = hidden_part s' here' in
          let known : k < length (state_domains g) = omega (arith, many', parts, more, first, below) in
          let av = value_among (state_domains g) (listed s') k listed_s' (omega (arith, many', known)) in
          let aw = value_among (state_domains g) (listed s) k listed_s (omega (arith, many, known)) in
          let kept = number_kept levels (is_reply_slot g) b b' next agrees k (code_at (state_domains g) (listed s') k) known (ap not slot) in
          let same_value = one_value (domain_in (state_domains g) k) _ _ av aw (one_number (level_at (state_domains g) Next k) (width_at (state_domains g) k) (code_at (state_domains g) (listed s') k) (code_at (state_domains g) (listed s) k) b (code_small (domain_in (state_domains g) k) _ av) (code_small (domain_in (state_domains g) k) _ aw) (sym kept ∙ has' k known) (has k known)) in
          let back : k - n ≡ j = omega arith in
          let left : get_or (listed s') k (value.Bool false) ≡ get_or s'.position.input j (value.Bool false) = input_value s' here' k slot ∙ ap (λ i. get_or s'.position.input i (value.Bool false)) back in
          let right : get_or (listed s) k (value.Bool false) ≡ get_or s.position.input j (value.Bool false) = input_value s here k slot ∙ ap (λ i. get_or s.position.input i (value.Bool false)) back in
          sym left ∙ (same_value ∙ right)

  -- a number at levels that are all mixed in
  mixed_in : (levels : List ℕ) (b c : Bits) (k n : ℕ) → ((m : ℕ) → IsLevelOf g Next k m → is_among m levels ≡ true) →
      has_number (level_at (state_domains g) Next k) (width_at (state_domains g) k) n (mixed levels b c) ≡ has_number (level_at (state_domains g) Next k) (width_at (state_domains g) k) n b
  mixed_in levels b c k n all = has_number-same (level_at (state_domains g) Next k) (width_at (state_domains g) k) n (mixed levels b c) b (λ m low high. ap (λ a. cond a (b m) (c m)) (all m (low, high)))

  -- the replies of one state after the inputs of another, where these are its own
  pub mixed_reply : (levels : List ℕ) (c : Bits) (s s' : State) → AreNextOf g (is_reply_slot g) levels → is_state g s ≡ true → is_state g s' ≡ true → s'.position.input ≡ s.position.input → HasState g Next s c → HasState g Next s' (mixed levels (bits_for g Next s') c)
  mixed_reply levels c s s' next here here' same has k known = by_slot (is_input_slot g k) refl
    where
      by_slot : (a : Bool) → is_input_slot g k ≡ a → has_number (level_at (state_domains g) Next k) (width_at (state_domains g) k) (code_at (state_domains g) (listed s') k) (mixed levels (bits_for g Next s') c) ≡ true
      by_slot false e = mixed_in levels (bits_for g Next s') c k (code_at (state_domains g) (listed s') k) (λ m level. next.has k m known (ap not e) level) ∙ has_bits g Next s' k known
      by_slot true e =
          let one_value : get_or (listed s') k (value.Bool false) ≡ get_or (listed s) k (value.Bool false) = input_value s' here' k e ∙ (ap (λ x. get_or x (k - length g.hidden) (value.Bool false)) same ∙ sym (input_value s here k e)) in
          number_kept levels (is_reply_slot g) c (mixed levels (bits_for g Next s') c) next (mixed_off levels (bits_for g Next s') c) k (code_at (state_domains g) (listed s') k) known (ap not e)
          ∙ (ap (λ v. has_number (level_at (state_domains g) Next k) (width_at (state_domains g) k) (rank_of (domain_in (state_domains g) k) v) c) one_value ∙ has k known)

  -- a whole state mixed in
  pub mixed_state : (levels : List ℕ) (c : Bits) (s' : State) → AreNextOf g is_any_slot levels → HasState g Next s' (mixed levels (bits_for g Next s') c)
  mixed_state levels c s' next k known = mixed_in levels (bits_for g Next s') c k (code_at (state_domains g) (listed s') k) (λ m level. next.has k m known refl level) ∙ has_bits g Next s' k known
