-- The way that bits lead from a node down to a level.
use Rattle.std.proofs.Common.{◌≡◌, ◌⊎◌, ℕ, zero, suc, ◌<◌, ◌≤◌, ◌+◌, ◌-◌, inl, inr, sym, ◌∙◌, ap, subst, refl, arith, Bool, true, false, Option, Some, None, MatchOption, List, length, set, get_or-set_same, get_or-set_other}
use Rattle.std.proofs.lemmas.Bool.{cases_eq, cases_lt, false≢true}
use Rattle.spec_model.specs.Diagrams.{Diagram, Bits, Function, value, constant, with_bit}
use Rattle.spec_model.specs.DiagramReads.{bits_of}
use Rattle.bdd_store.specs.declared.edge.Edge.{Edge}
use Rattle.bdd_store.specs.State.{diagram_of}
use Rattle.bdd_ops.specs.declared.paths.Branch.{Branch}
use Rattle.bdd_ops.specs.Functions.{split}
use Rattle.bdd_ops.specs.Contents.{Contents, function_at}
use Rattle.bdd_ops.specs.Steps.{level_at, IsSplitAt}
use Rattle.bdd_ops.specs.Reading.{Ignores}
use Rattle.bdd_ops.specs.Paths.{AgreesAt, Agrees, fixed_at, NotAfter, IsFirst, HasNone}
use Rattle.bdd_ops.specs.Together.{IsChosen, HasNoneWith}
use Rattle.bdd_ops.specs.Searching.{cost, cost_of, next_of, pending}
use Rattle.bdd_ops.specs.Ways.{AreSameBefore, HasNoneBehind, IsWay, IsLed, IsFirstPart, IsLast, IsNextBranch}
use Rattle.bdd_ops.proofs.FunctionLemmas.{with_bit-same, with_bit-other}
use Rattle.bdd_ops.proofs.PathLemmas.{bit_cases, at_bit}
use Rattle.bdd_ops.proofs.RowLemmas.{agrees_above}
use Rattle.bdd_ops.proofs.FirstLemmas.{past_agrees}
use Rattle.bdd_ops.proofs.SearchLemmas.{fewer_on, fewer_fails, pending_more}

-- ---- bits before a level

-- what holds at each level before one, and there, holds before the next
before_more : (P : ℕ → Type 0) (level : ℕ) → ((k : ℕ) → k < level → P k) → P level → (k : ℕ) → k < level + 1 → P k
before_more P level each here k less =
    elim (cases_eq k level) [ inl same ↦ subst P (sym same) here | inr other ↦ each k (omega arith) ]

same_more : (level : ℕ) (s t : Bits) → AreSameBefore level s t → t level ≡ s level → AreSameBefore (level + 1) s t
same_more level s t = before_more (λ k. t k ≡ s k) level

same_earlier : (level other : ℕ) (s t : Bits) → level ≤ other → AreSameBefore other s t → AreSameBefore level s t
same_earlier level other s t le same k less = same k (omega arith)

-- a write changes no bit before it
write_later : (out : List Bool) (at k : ℕ) (b : Bool) → k < at → bits_of (set out at b) k ≡ bits_of out k
write_later out at k b less = get_or-set_other out at k b false (λ same. absurd (omega arith))

same_unwritten : (out : List Bool) (at level : ℕ) (b : Bool) (t : Bits) → level ≤ at → AreSameBefore level (bits_of (set out at b)) t → AreSameBefore level (bits_of out) t
same_unwritten out at level b t le same k less = same k less ∙ write_later out at k b (omega arith)

-- ---- the way goes on

-- a bit that is written at the way's end, after false was tried there if it is true
way_more : (fixed : List (Option Bool)) (f : Function) (out : List Bool) (at : ℕ) (bit : Bool) → at < length out → IsWay fixed f at (bits_of out) → AgreesAt (fixed_at fixed at) bit → (bit ≡ true → (t : Bits) → AreSameBefore at (bits_of out) t → t at ≡ false → Agrees fixed 0 t → f t ≡ true → ⊥) → IsWay fixed f (at + 1) (bits_of (set out at bit))
way_more fixed f out at bit inside way allowed none = record {
  agrees = before_more (λ k. AgreesAt (fixed_at fixed k) (bits_of (set out at bit) k)) at
      (λ k less. subst (λ (b : Bool). AgreesAt (fixed_at fixed k) b) (sym (write_later out at k bit less)) (way.agrees k less))
      (subst (λ (b : Bool). AgreesAt (fixed_at fixed at) b) (sym (get_or-set_same out at bit false inside)) allowed);
  tried = before_more (λ k. bits_of (set out at bit) k ≡ true → (t : Bits) → AreSameBefore k (bits_of (set out at bit)) t → t k ≡ false → Agrees fixed 0 t → f t ≡ true → ⊥) at
      (λ k less is t same. way.tried k less (sym (write_later out at k bit less) ∙ is) t (same_unwritten out at k bit t (omega arith) same))
      (λ is t same. none (sym (get_or-set_same out at bit false inside) ∙ is) t (same_unwritten out at at bit t (omega arith) same));
}

way_earlier : (fixed : List (Option Bool)) (f : Function) (level other : ℕ) (s : Bits) → level ≤ other → IsWay fixed f other s → IsWay fixed f level s
way_earlier fixed f level other s le way = record {
  agrees = λ k less. way.agrees k (omega arith);
  tried = λ k less. way.tried k (omega arith);
}

pub led_more : (c : Contents) (f : Function) (level : ℕ) (s : Bits) (bit : Bool) (e part : Edge) → level < c.state.table.levels → IsLed c f level s e.0 → IsChosen c level bit e part → s level ≡ bit → IsLed c f (level + 1) s part.0
led_more c f level s bit e part below led chosen is =
    let after : level < level_at c part.0 = chosen.after in
    record {
      live = chosen.live;
      within = omega arith;
      from = omega arith;
      same = λ t same. chosen.same t (same level (omega arith) ∙ is) ∙ led.same t (same_earlier level (level + 1) s t (omega arith) same);
    }

led_written : (c : Contents) (f : Function) (level : ℕ) (out : List Bool) (at n : ℕ) (b : Bool) → level ≤ at → IsLed c f level (bits_of out) n → IsLed c f level (bits_of (set out at b)) n
led_written c f level out at n b le led = record {
  live = led.live;
  within = led.within;
  from = led.from;
  same = λ t same. led.same t (same_unwritten out at level b t le same);
}

-- what a bit that is written leaves
led_on : (c : Contents) (f : Function) (level : ℕ) (out : List Bool) (bit : Bool) (e part : Edge) → level < c.state.table.levels → length out ≡ c.state.table.levels → IsLed c f level (bits_of out) e.0 → IsChosen c level bit e part → IsLed c f (level + 1) (bits_of (set out level bit)) part.0
led_on c f level out bit e part below long led chosen =
    led_more c f level (bits_of (set out level bit)) bit e part below (led_written c f level out level e.0 bit (omega arith) led) chosen (get_or-set_same out level bit false (omega arith))

-- bits with one that has none at the edge, behind the way to it
none_with : (c : Contents) (fixed : List (Option Bool)) (f : Function) (level : ℕ) (s t : Bits) (bit : Bool) (n : ℕ) → IsLed c f level s n → HasNoneWith fixed (function_at c n) level bit → AreSameBefore level s t → t level ≡ bit → Agrees fixed 0 t → f t ≡ true → ⊥
none_with c fixed f level s t bit n led none same here agrees makes =
    none t here (agrees_above fixed 0 level t (omega arith) agrees) (led.same t same ∙ makes)

pub branch_on : (c : Contents) (fixed : List (Option Bool)) (f : Function) (out : List Bool) (level at : ℕ) (bit : Bool) (e part : Edge) → level < c.state.table.levels → length out ≡ c.state.table.levels → IsWay fixed f level (bits_of out) → IsLed c f level (bits_of out) e.0 → IsFirstPart c fixed level e at bit part → IsNextBranch c fixed f out level at bit part
branch_on c fixed f out level at bit e part below long way led first =
    let there : IsNextBranch c fixed f out level level bit part = record {
      below = below;
      way = way_more fixed f out level bit (omega arith) way first.allowed (λ is t same low. none_with c fixed f level (bits_of out) t false e.0 led (first.low_none is) same low);
      led = led_on c f level out bit e part below long led first.chosen;
      later = inl refl;
    } in
    subst (λ (n : ℕ). IsNextBranch c fixed f out level n bit part) (sym first.here) there

-- ---- nothing is behind the way

pub none_behind_both : (c : Contents) (fixed : List (Option Bool)) (f : Function) (level : ℕ) (s : Bits) (n : ℕ) → IsLed c f level s n → ((bit : Bool) → HasNoneWith fixed (function_at c n) level bit) → HasNoneBehind fixed f level s
none_behind_both c fixed f level s n led none t same agrees makes = none_with c fixed f level s t (t level) n led (none (t level)) same refl agrees makes

pub none_behind_false : (c : Contents) (fixed : List (Option Bool)) (f : Function) (level : ℕ) (s : Bits) (n : ℕ) → IsLed c f level s n → diagram_of c.state n ≡ constant false → HasNoneBehind fixed f level s
none_behind_false c fixed f level s n led is t same agrees makes =
    false≢true (sym (ap (λ (d : Diagram). value d t) is) ∙ (led.same t same ∙ makes))

-- ---- and back

-- none behind a level at which false was tried
pub none_behind_true : (fixed : List (Option Bool)) (f : Function) (level at : ℕ) (s : Bits) → IsWay fixed f level s → at < level → s at ≡ true → HasNoneBehind fixed f (at + 1) s → HasNoneBehind fixed f at s
none_behind_true fixed f level at s way less is none t same agrees makes =
    elim (bit_cases (t at)) [
      | inl high ↦ none t (same_more at s t same (high ∙ sym is)) agrees makes
      | inr low ↦ way.tried at less is t same low agrees makes
    ]

-- bits that agree still do with a bit there that may stand
turned_agrees : (fixed : List (Option Bool)) (at : ℕ) (t : Bits) (b : Bool) → AgreesAt (fixed_at fixed at) b → Agrees fixed 0 t → Agrees fixed 0 (with_bit t at b)
turned_agrees fixed at t b allowed agrees k above =
    elim (cases_eq k at) [
      | inl same ↦ subst (λ (n : ℕ). AgreesAt (fixed_at fixed n) (with_bit t at b n)) (sym same) (subst (λ (x : Bool). AgreesAt (fixed_at fixed at) x) (sym (with_bit-same t at b)) allowed)
      | inr other ↦ subst (λ (x : Bool). AgreesAt (fixed_at fixed k) x) (sym (with_bit-other t at k b other)) (agrees k above)
    ]

none_behind_unread : (c : Contents) (fixed : List (Option Bool)) (f : Function) (at : ℕ) (s t : Bits) (n : ℕ) → IsLed c f at s n → AgreesAt (fixed_at fixed at) (s at) → Ignores at (function_at c n) → HasNoneBehind fixed f (at + 1) s → AreSameBefore at s t → Agrees fixed 0 t → f t ≡ true → ⊥
none_behind_unread c fixed f at s t n led allowed ignores none same agrees makes =
    let turned : Bits = with_bit t at (s at) in
    let before : AreSameBefore at s turned = λ k less. with_bit-other t at k (s at) (λ is. absurd (omega arith)) ∙ same k less in
    none turned (same_more at s turned before (with_bit-same t at (s at))) (turned_agrees fixed at t (s at) allowed agrees)
    (sym (led.same turned before) ∙ (ignores t (s at) ∙ (led.same t same ∙ makes)))

-- none behind one that true leaves nothing of, or that isn't read
pub none_behind_low : (c : Contents) (fixed : List (Option Bool)) (f : Function) (at : ℕ) (s : Bits) (n : ℕ) → IsLed c f at s n → AgreesAt (fixed_at fixed at) (s at) → s at ≡ false → (HasNoneWith fixed (function_at c n) at true) ⊎ (Ignores at (function_at c n)) → HasNoneBehind fixed f (at + 1) s → HasNoneBehind fixed f at s
none_behind_low c fixed f at s n led allowed is (inl high_none) none t same agrees makes =
    elim (bit_cases (t at)) [
      | inl high ↦ none_with c fixed f at s t true n led high_none same high agrees makes
      | inr low ↦ none t (same_more at s t same (low ∙ sym is)) agrees makes
    ]
none_behind_low c fixed f at s n led allowed is (inr ignores) none t same agrees makes = none_behind_unread c fixed f at s t n led allowed ignores none same agrees makes

pub none_behind_start : (fixed : List (Option Bool)) (f : Function) (s : Bits) → HasNoneBehind fixed f 0 s → HasNone fixed f 0
none_behind_start fixed f s none t agrees makes = none t (λ k less. absurd (omega arith)) agrees makes

-- the last branch stays the last at a level that has none
pub last_kept : (c : Contents) (fixed : List (Option Bool)) (f : Function) (out : List Bool) (level at : ℕ) (bit : Bool) (part : Edge) → (HasNoneBehind fixed f (level + 1) (bits_of out) → HasNoneBehind fixed f level (bits_of out)) → IsLast c fixed f out level at bit part → IsLast c fixed f out (level + 1) at bit part
last_kept c fixed f out level at bit part back last =
    let before : at < level = last.before in
    record {
      before = omega arith;
      was = last.was;
      is = last.is;
      allowed = last.allowed;
      led = last.led;
      none = λ none. last.none (back none);
    }

pub last_new : (c : Contents) (fixed : List (Option Bool)) (f : Function) (out : List Bool) (at : ℕ) (e part : Edge) → at < c.state.table.levels → length out ≡ c.state.table.levels → IsLed c f at (bits_of out) e.0 → bits_of out at ≡ false → AgreesAt (fixed_at fixed at) true → IsChosen c at true e part → IsLast c fixed f out (at + 1) at true part
last_new c fixed f out at e part below long led was allowed chosen = record {
  before = omega arith;
  was = was;
  is = refl;
  allowed = allowed;
  led = led_on c f at out true e part below long led chosen;
  none = λ none. none;
}

pub branch_back : (c : Contents) (fixed : List (Option Bool)) (f : Function) (out : List Bool) (level at : ℕ) (bit : Bool) (part : Edge) → level ≤ c.state.table.levels → length out ≡ c.state.table.levels → IsWay fixed f level (bits_of out) → HasNoneBehind fixed f level (bits_of out) → IsLast c fixed f out level at bit part → IsNextBranch c fixed f out level at bit part
branch_back c fixed f out level at bit part within long way none last =
    let before : at < level = last.before in
    record {
      below = omega arith;
      way = way_more fixed f out at bit (omega arith) (way_earlier fixed f at level (bits_of out) (omega arith) way) last.allowed
          (λ is t same low. last.none none t (same_more at (bits_of out) t same (low ∙ sym last.was)));
      led = last.led;
      later = inr (before, last.was, last.is);
    }

-- ---- the way's end

not_after : (count level : ℕ) (s t : Bits) → ((k : ℕ) → level ≤ k → k < level + count → s k ≡ true → ((j : ℕ) → level ≤ j → j < k → t j ≡ s j) → t k ≡ false → ⊥) → NotAfter count level s t
not_after zero level s t behind = tt
not_after (suc count) level s t behind =
    let later : t level ≡ s level → NotAfter count (suc level) s t = λ here.
    not_after count (suc level) s t (λ k above less high same low.
    behind k (omega arith) (omega arith) high (λ j from before. elim (cases_eq j level) [ inl is ↦ subst (λ (n : ℕ). t n ≡ s n) (sym is) here | inr other ↦ same j (omega arith) before ]) low) in
    elim (bit_cases (s level)) [
      | inl high ↦ elim (bit_cases (t level)) [
        | inl also ↦ inr (high ∙ sym also, later (also ∙ sym high))
        | inr low ↦ absurd (behind level (omega arith) (omega arith) high (λ j from before. absurd (omega arith)) low)
      ]
      | inr low ↦ elim (bit_cases (t level)) [
        | inl high ↦ inl (low, high)
        | inr also ↦ inr (low ∙ sym also, later (also ∙ sym low))
      ]
    ]

pub way_ends : (c : Contents) (fixed : List (Option Bool)) (f : Function) (s : Bits) (levels n : ℕ) → length fixed ≡ levels → IsWay fixed f levels s → IsLed c f levels s n → diagram_of c.state n ≡ constant true → IsFirst fixed f 0 levels s
way_ends c fixed f s levels n long way led is = record {
  agrees = λ k above. elim (cases_lt k levels) [ inl less ↦ way.agrees k less | inr past ↦ past_agrees fixed levels s long k (omega arith) ];
  true_there = sym (led.same s (λ k less. refl)) ∙ ap (λ (d : Diagram). value d s) is;
  first = λ t agrees makes. not_after levels 0 s t (λ k above less high same low. way.tried k (omega arith) high t (λ j before. same j (omega arith) before) low agrees makes);
}

-- ---- steps that are left

cost_at_most : (bit : Bool) (count : ℕ) → 0 < count → cost_of (Some bit) count ≤ cost count
cost_at_most true count some = let less : cost_of (Some true) count < cost count = fewer_fails false count some in omega (arith, less)
cost_at_most false count some = let same : cost count ≤ cost count = omega arith in same

pending_rises : (s : Bits) (levels low high : ℕ) → low ≤ high → pending s levels low ≤ pending s levels high
pending_rises s levels low zero le =
    let none : low ≡ 0 = omega arith in
    let same : pending s levels low ≡ pending s levels 0 = ap (pending s levels) none in omega (arith, same)
pending_rises s levels low (suc high) le =
    elim (cases_eq low (suc high)) [
      | inl is ↦ let same : pending s levels low ≡ pending s levels (suc high) = ap (pending s levels) is in omega (arith, same)
      | inr other ↦
          let rest : pending s levels low ≤ pending s levels high = pending_rises s levels low high (omega arith) in
          let sum : pending s levels low ≤ pending s levels high + cost_of (next_of (s high)) (levels - high) = omega (arith, rest) in sum
    ]

-- after a branch there are fewer
pub fewer_behind : (c : Contents) (fixed : List (Option Bool)) (f : Function) (out : List Bool) (level at : ℕ) (bit : Bool) (part : Edge) → length out ≡ c.state.table.levels → IsNextBranch c fixed f out level at bit part →
    cost (c.state.table.levels - (at + 1)) + pending (bits_of (set out at bit)) c.state.table.levels (at + 1) < cost (c.state.table.levels - level) + pending (bits_of out) c.state.table.levels level
fewer_behind c fixed f out level at bit part long branch =
    let levels : ℕ = c.state.table.levels in
    let below : at < c.state.table.levels = branch.below in
    let next : ℕ = cost (levels - (at + 1)) + pending (bits_of (set out at bit)) levels (at + 1) in
    let fewer : cost (levels - (at + 1)) + pending (bits_of (set out at bit)) levels (at + 1) < cost_of (Some bit) (levels - at) + pending (bits_of out) levels at =
    fewer_on (bits_of out) (bits_of (set out at bit)) bit levels at below (λ k less. write_later out at k bit less) (get_or-set_same out at bit false (omega arith)) in
    elim branch.later [
      | inl same ↦
          let most : cost_of (Some bit) (levels - at) ≤ cost (levels - at) = cost_at_most bit (levels - at) (omega arith) in
          let less : next < cost (levels - at) + pending (bits_of out) levels at = omega (arith, fewer, most) in
          subst (λ (n : ℕ). next < cost (levels - n) + pending (bits_of out) levels n) same less
      | inr (before, was, is) ↦
          let one : pending (bits_of out) levels (at + 1) ≡ pending (bits_of out) levels at + cost_of (Some bit) (levels - at) =
          pending_more (bits_of out) levels at ∙ ap (λ (o : Option Bool). pending (bits_of out) levels at + cost_of o (levels - at)) (ap next_of was ∙ ap Some (sym is)) in
          let rises : pending (bits_of out) levels (at + 1) ≤ pending (bits_of out) levels level = pending_rises (bits_of out) levels (at + 1) level (omega (arith, before)) in
          let less : next < cost (levels - level) + pending (bits_of out) levels level = omega (arith, fewer, one, rises) in less
    ]

-- ---- one edge

pub option_mapped : {A N M : Type 0} (o : Option A) {P Q : A → Type 0} → (N → M) → ((x : A) → P x → Q x) → MatchOption o N P → MatchOption o M Q
option_mapped None none some is = none is
option_mapped (Some x) none some is = some x is

-- a part that is false has none
pub part_false : (c : Contents) (fixed : List (Option Bool)) (level : ℕ) (bit : Bool) (e part : Edge) → IsChosen c level bit e part → diagram_of c.state part.0 ≡ constant false → HasNoneWith fixed (function_at c e.0) level bit
part_false c fixed level bit e part chosen is t here agrees makes =
    false≢true (sym (ap (λ (d : Diagram). value d t) is) ∙ (chosen.same t here ∙ makes))

-- where both bits lead to one part, the level isn't read
either_part : (c : Contents) (level n low : ℕ) (t : Bits) → function_at c n ≡ split level (function_at c low) (function_at c low) → function_at c n t ≡ function_at c low t
either_part c level n low t is =
    elim (bit_cases (t level)) [
      | inl high ↦ ap (λ (f : Function). f t) is ∙ at_bit level (function_at c low) (function_at c low) t true high
      | inr here ↦ ap (λ (f : Function). f t) is ∙ at_bit level (function_at c low) (function_at c low) t false here
    ]

pub one_part : (c : Contents) (level n low high : ℕ) → low ≡ high → IsSplitAt c level n low high → Ignores level (function_at c n)
one_part c level n low high same at s b =
    let is : function_at c n ≡ split level (function_at c low) (function_at c low) = subst (λ (m : ℕ). function_at c n ≡ split level (function_at c low) (function_at c m)) (sym same) at.function in
    either_part c level n low (with_bit s level b) is ∙ (at.low_ignores level (omega arith) s b ∙ sym (either_part c level n low s is))

-- ---- the loop down the way

abbrev pub LastAt : Contents → List (Option Bool) → Function → List Bool → ℕ → Option Branch → Type 0
LastAt c fixed f out level last = MatchOption last (HasNoneBehind fixed f level (bits_of out) → HasNone fixed f 0) (λ b. IsLast c fixed f out level b.level b.bit b.part)

-- past a level that has none, the last branch stays
pub stays_last : (c : Contents) (fixed : List (Option Bool)) (f : Function) (out : List Bool) (at : ℕ) (last : Option Branch) → (HasNoneBehind fixed f (at + 1) (bits_of out) → HasNoneBehind fixed f at (bits_of out)) → LastAt c fixed f out at last → LastAt c fixed f out (at + 1) last
stays_last c fixed f out at last back is = option_mapped last (λ none dead. none (back dead)) (λ b found. last_kept c fixed f out at b.level b.bit b.part back found) is
