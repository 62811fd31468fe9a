-- The plays of a sound system's table go on after each legal input; so the table's claim is true.
use Rattle.std.proofs.Common.{◌≡◌, ℕ, zero, suc, ◌+◌, ◌<◌, ◌≤◌, Bool, true, ◌&&◌, nat_le, List, [], length, slice_get, sum, Some, filter, refl, sym, ◌∙◌, ap, subst, arith}
use Rattle.std.proofs.lemmas.Bool.{and_parts, and_from}
use borrow.Author.Tests.{leb-true}
use Rattle.spec_model.specs.Values.{Assignment}
use Rattle.spec_model.specs.Moves.{is_env, domains_of}
use Rattle.spec_model.specs.Rules.{Run, after}
use Rattle.spec_model.specs.Realizable.{Kept, Wins, IsRealizable}
use Rattle.spec_model.specs.Games.{GameData, State, inputs_of}
use Rattle.spec_model.specs.GameRules.{last_state, before_at, rules_of_game}
use Rattle.spec_model.specs.Steps.{is_input, is_output, legal_input, legal_output}
use Rattle.spec_model.specs.WellMade.{WellMade}
use Rattle.spec_model.proofs.AllStates.{at_assignment}
use Rattle.spec_model.proofs.Growth.{realizable_grows}
use Rattle.gr1_law.proofs.Rounds.{kept}
use Rattle.strategy_tables.specs.Tables.{NodeData, SystemTable, is_reached, system_row}
use Rattle.strategy_tables.specs.Rules.{greatest_ranks}
use Rattle.strategy_tables.specs.Sound.{HasStates, SoundSystemTablesWin}
use Rattle.strategy_tables.proofs.Finding.{Found, names-found, every_passing, same_state-true}
use Rattle.strategy_tables.proofs.Checked.{SystemRules, system_rules}
use Rattle.strategy_tables.proofs.Walks.{Walk, Next, no_node, nothing_walked, longer_node, longer}
use Rattle.strategy_tables.proofs.SystemWalks.{trail}

-- what a node fits that a row names for an input
abbrev fits : GameData → Run → Assignment → NodeData → Bool
fits g h x v = is_reached g (last_state g h) x v && legal_output g (last_state g h) x v.state.position.output

-- a legal input has a node in the row, by a legal output
next_of : (g : GameData) (nodes : List NodeData) (h : Run) (row : List ℕ) → system_row g nodes (last_state g h) row ≡ true → (x : Assignment) → is_input g x ≡ true → legal_input g (last_state g h) x ≡ true →
    (next : Next g nodes h row x) × (legal_output g (last_state g h) x next.node.state.position.output ≡ true)
next_of g nodes h row e x input legal =
    of_found
    (at_assignment (domains_of is_env g.variables) (λ x. legal_input g (last_state g h) x ≡ true → Found nodes (fits g h) row x)
    (every_passing (Found nodes (fits g h) row) (legal_input g (last_state g h)) (inputs_of g) (names-found nodes (fits g h) (filter (legal_input g (last_state g h)) (inputs_of g)) row e)) x input legal)
  where
    of_found : Found nodes (fits g h) row x → (next : Next g nodes h row x) × (legal_output g (last_state g h) x next.node.state.position.output ≡ true)
    of_found found =
        let parts = and_parts (is_reached g (last_state g h) x found.node) (legal_output g (last_state g h) x found.node.state.position.output) found.fits_move in (
          record {
            place = found.place;
            number = found.number;
            node = found.node;
            in_row = found.in_row;
            in_table = found.in_table;
            state = same_state-true found.node.state _ parts.0;
          },
          parts.1,
        )

module _ (g : GameData) (made : WellMade g) (t : SystemTable) (states : HasStates g t.nodes) (rules : SystemRules g t) where
  -- the row that a walk goes on by
  record Row (h : Run) (node : ℕ → NodeData) : Type 0 where
    numbers : List ℕ
    whole : system_row g t.nodes (last_state g h) numbers ≡ true
    of_last : (p : ℕ) → suc p ≡ length h → numbers ≡ (node p).next

  row_of : (h : Run) (node : ℕ → NodeData) → Walk g t.nodes h node → Row h node
  row_of h node walk = by_length (length h) refl
    where
      by_length : (len : ℕ) → length h ≡ len → Row h node
      by_length zero is = record { numbers = t.first; whole = ap (λ (n : ℕ). system_row g t.nodes (before_at g h n) t.first) is ∙ rules.first; of_last = λ p last. absurd (omega (arith, is, last)) }
      by_length (suc p) is =
          let inner : p < length h = omega (arith, is) in
          record {
            numbers = (node p).next;
            whole =
                ap (λ (n : ℕ). system_row g t.nodes (before_at g h n) (node p).next) is
                ∙ (ap (λ (s : State). system_row g t.nodes (Some s) (node p).next) (sym (walk.states p inner))
                ∙ (rules.each (walk.number p) (node p) (walk.in_table p inner)).row);
            of_last = λ q last. let same : p ≡ q = omega (arith, is, last) in ap (λ (p : ℕ). (node p).next) same;
          }

  walk_keeps : (h : Run) (node : ℕ → NodeData) → Walk g t.nodes h node → Kept (rules_of_game g) (suc (sum (greatest_ranks g t.nodes))) h
  walk_keeps h node walk =
      let e : 1 + sum (greatest_ranks g t.nodes) ≡ suc (sum (greatest_ranks g t.nodes)) = omega arith in
      subst (λ (k : ℕ). Kept (rules_of_game g) k h) e (kept g (greatest_ranks g t.nodes) h _ (trail g t states rules h node walk) made)

  output_of : (i : ℕ) (v : NodeData) → slice_get t.nodes i ≡ Some v → is_output g v.state.position.output ≡ true
  output_of i v is = let parts = and_parts _ _ (states i v is) in (and_parts _ _ parts.1).1

  wins : (depth : ℕ) (h : Run) (node : ℕ → NodeData) → Walk g t.nodes h node → Wins (rules_of_game g) (suc (sum (greatest_ranks g t.nodes))) h depth
  wins zero h node walk = tt
  wins (suc depth) h node walk = λ x legal.
      let parts = and_parts (is_input g x) (legal_input g (last_state g h) x) legal in
      let row = row_of h node walk in
      let found = next_of g t.nodes h row.numbers row.whole x parts.0 parts.1 in
      let next = found.0 in
      let on = longer g t.nodes h node walk x row.numbers row.of_last next in
      let node' = longer_node g t.nodes h node walk x row.numbers row.of_last next in (
        next.node.state.position.output,
        and_from _ _ (output_of next.number next.node next.in_table) found.1,
        walk_keeps (after h x next.node.state.position.output) node' on,
        wins depth (after h x next.node.state.position.output) node' on,
      )

  realizable : IsRealizable (rules_of_game g) (suc (sum (greatest_ranks g t.nodes)))
  realizable = record { at_least_one = omega arith; wins = λ depth. wins depth [] no_node (nothing_walked g t.nodes) }

pub system_tables_win : (g : GameData) → WellMade g → SoundSystemTablesWin g
system_tables_win g made t states sound =
    let rules = system_rules g t sound in
    let most = leb-true (1 + sum (greatest_ranks g t.nodes)) t.k rules.k_most in
    realizable_grows (rules_of_game g) (suc (sum (greatest_ranks g t.nodes))) t.k (omega (arith, most)) (realizable g made t states rules)
