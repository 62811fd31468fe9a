-- How many nodes always suffice for a specification, and which specifications trying for a core asks about.
use Rattle.std.specs.Prelude.{◌≡◌, ◌⊎◌, ℕ, ◌+◌, ◌^◌, nat_lt, List, [], ◌∷◌, length, sum_by, count_by, map, option_map, unwrap_or, slice_get}
use Rattle.spec_model.specs.Syntax.{Content, PatternUse, TriggerUse, Specification}
use Rattle.spec_model.specs.Sizes.{domain_size, past_operators, product}
use Rattle.spec_model.specs.TriggerStates.{trigger_states}
use Rattle.spec_model.specs.Steps.{below}
use Rattle.spec_model.specs.Cores.{Realizable, Unrealizable, with_guarantees, less, guarantees_of}

-- ---- bits

-- the least number of bits that give so many codes: there is one for each power of two below it
abbrev pub bits_for : ℕ → ℕ
bits_for n = count_by (λ b. nat_lt (2 ^ b) n) (below n)

-- those of the hidden part of a line: of a pattern's own values, and of a trigger's states before any are merged
abbrev pub hidden_bits : Specification → Content → ℕ
hidden_bits s (PatternUse p args) = unwrap_or (option_map (λ p. bits_for (product (map domain_size p.domains))) (slice_get s.patterns p)) 0
hidden_bits s (TriggerUse t) = unwrap_or (option_map (λ t. bits_for (trigger_states t)) (slice_get s.triggers t)) 0
hidden_bits s _ = 0

-- the bits of a state: of the variables, one for each past operator, and those of the lines
abbrev pub bits_of : Specification → ℕ
bits_of s = sum_by (λ v. bits_for (domain_size v.domain)) s.variables + length (past_operators s) + sum_by (λ l. hidden_bits s l.content) s.lines

-- One more than there are reduced diagrams over the present and next bits of a state.
abbrev pub need_of : Specification → ℕ
need_of s = 1 + 2 ^ (4 ^ bits_of s)

-- ---- trying in text order

-- From the guarantees that are kept, each of these is tried in turn; these specifications are asked about on the way.
abbrev pub AskedFrom : Specification → (kept tries : List ℕ) → Specification → Type 0
AskedFrom s kept [] t = ⊥
AskedFrom s kept (n ∷ ns) t =
    (t ≡ with_guarantees s (less kept n))
    ⊎ (Unrealizable (with_guarantees s (less kept n)) × AskedFrom s (less kept n) ns t
    ⊎ Realizable (with_guarantees s (less kept n)) × AskedFrom s kept ns t)

-- the specification itself, and each whose realizability trying for its core asks for
abbrev pub Tried : Specification → Specification → Type 0
Tried s t = (t ≡ s) ⊎ AskedFrom s (guarantees_of s) (guarantees_of s) t
