use Rattle.std.proofs.Common.{◌≡◌, ℕ, ◌<◌, ◌≤◌, ◌||◌, get_or, take, vec_len, false}
use Rattle.std.specs.Prelude.{nat_lt, count_by}
use Rattle.node_table.proofs.columns.drop_unmarked.Given as goal

abbrev pub invariant-loop-n : goal.invariant-loop-n
invariant-loop-n l = record {
  flags : vec_len l.live ≡ vec_len l.initial.live;
  marks : vec_len l.marked ≡ vec_len l.initial.live;
  live : (k : ℕ) → k < l.n → get_or l.live.items k false ≡ (nat_lt k 2 || get_or l.initial.marked.items k false);
  unmarked : (k : ℕ) → k < l.n → get_or l.marked.items k false ≡ false;
  rest : (k : ℕ) → l.n ≤ k → get_or l.marked.items k false ≡ get_or l.initial.marked.items k false;
  count : l.count ≡ count_by (λ b. b) (take l.n l.live.items);
}
