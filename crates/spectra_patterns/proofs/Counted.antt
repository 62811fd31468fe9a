-- How many hidden tables there are with one more line.
use Rattle.std.proofs.Common.{◌≡◌, ℕ, suc, ◌+◌, ◌<◌, ◌≤◌, nat_lt, Bool, true, false, cond, List, [], ◌∷◌, ◌++◌, length, map, flat_map, count_by, take, drop, get_or, add-one, if◌then◌else◌, refl, sym, ap, ◌∙◌, append-nil, arith}
use Rattle.std.proofs.lemmas.Bool.Decides.{nat_tests}
use Rattle.std.proofs.lemmas.List.Sums.{sum_by-append}
use Rattle.std.proofs.lemmas.Grind.{flat_map-append}
use Rattle.spec_model.specs.Syntax.{Formula, Statement, TriggerData}
use Rattle.spec_model.specs.Sizes.{distinct, past_operators}
use Rattle.spec_model.specs.WellTyped.{is_hidden, all_hidden}
use Rattle.past_bits.specs.Entries.{added}
use Rattle.past_bits.specs.Bits.{tree_of}
use Rattle.spectra_patterns.specs.declared.gathering.Tables.{Tables}
use Rattle.spectra_patterns.specs.Hidden.{alone, most_hidden, are_many}
use Rattle.spectra_patterns.specs.Gathering.{past_in, own_tables, IsCount}
use Rattle.spec_model.specs.declared.spec.Line.{Line}
use Rattle.spec_model.specs.Views.{line_data as model_line}
use Rattle.spectra_trees.specs.Faults.{TooMany, number_of}
use Rattle.spectra_resolved.specs.declared.spot.Spot.{Spot}
use Rattle.spectra_resolved.specs.Findings.{fault}
use Rattle.spectra_resolved.proofs.Mapped.{map_push}
use Rattle.spectra_judge.proofs.Lists.{mapped_left, get_or_any}
use Rattle.std.proofs.lemmas.List.{take_more}
use Rattle.std.proofs.Math.Seq.{drop-cons}
use Rattle.spectra_patterns.specs.Hidden.{hidden_faults}
use Rattle.spectra_patterns.proofs.Gathered.{distinct_more}

module _ (ts : List TriggerData) (before : List Statement) (l : Statement) where
  abbrev past_of : Statement → List Formula
  past_of l = past_in ts l.content

  operators_more : past_operators (alone ts (before ++ l ∷ [])) ≡ added (past_operators (alone ts before)) (past_in ts l.content)
  operators_more =
      ap distinct (flat_map-append past_of before (l ∷ []) ∙ ap (λ fs. flat_map past_of before ++ fs) (append-nil (past_of l)))
      ∙ sym (distinct_more (flat_map past_of before) (past_of l))

  own_more : count_by (λ (l : Statement). is_hidden l.content) (before ++ l ∷ []) ≡ count_by (λ (l : Statement). is_hidden l.content) before + own_tables l.content
  own_more = sum_by-append (λ (l : Statement). cond (is_hidden l.content) 1 0) before (l ∷ []) ∙ ap (λ n. count_by (λ (l : Statement). is_hidden l.content) before + n) (one (is_hidden l.content))
    where
      one : (b : Bool) → 0 + cond b 1 0 ≡ cond b 1 0
      one true = refl
      one false = refl

is_less : (m n : ℕ) → m < n → nat_lt m n ≡ true
is_less m n less = grind (arith, nat_tests)

module _ (ts : List TriggerData) (before : List Statement) (l : Statement) (t : Tables) (count : IsCount ts before t) where
  abbrev operators_now : List Formula
  operators_now = added (map tree_of t.ops) (past_in ts l.content)

  same_operators : operators_now ≡ past_operators (alone ts (before ++ l ∷ []))
  same_operators = ap (λ ops. added ops (past_in ts l.content)) count.operators ∙ sym (operators_more ts before l)

  same_own : t.own + own_tables l.content ≡ count_by (λ (l : Statement). is_hidden l.content) (before ++ l ∷ [])
  same_own = ap (λ n. n + own_tables l.content) count.own ∙ sym (own_more ts before l)

  same_total : length operators_now + (t.own + own_tables l.content) ≡ all_hidden (alone ts (before ++ l ∷ []))
  same_total = λ i. length (same_operators i) + same_own i

  -- those with a table of their own are too many, or all are
  pub many_own : most_hidden < t.own + own_tables l.content → are_many ts (before ++ l ∷ []) ≡ true
  many_own many = is_less _ _ (let total = same_total in omega (arith, total, many))

  pub many_all : (own most : ℕ) → own ≡ t.own + own_tables l.content → most + own ≡ most_hidden → most < length operators_now → are_many ts (before ++ l ∷ []) ≡ true
  many_all own most is all many = is_less _ _ (let total = same_total in omega (arith, total, is, all, many))

  -- and where they aren't, these are counted
  pub counted_more : (new : Tables) (most : ℕ) → map tree_of new.ops ≡ operators_now → new.own ≡ t.own + own_tables l.content → most + new.own ≡ most_hidden → length (map tree_of new.ops) ≤ most → IsCount ts (before ++ l ∷ []) new
  counted_more new most ops own all few =
      record {
        operators = ops ∙ same_operators;
        own = own ∙ same_own;
        few = let total = same_total in let long = ap length ops in omega (arith, total, long, own, all, few);
      }

-- at first there is none
pub none_counted : (ts : List TriggerData) (t : Tables) → t.ops ≡ [] → t.own ≡ 0 → IsCount ts [] t
none_counted ts t ops own = record { operators = ap (map tree_of) ops; own = own; few = omega arith }

-- ---- the lines that are left

place_left : (places : List Spot) (k : ℕ) (at : Spot) → k < length places → at ≡ get_or places k at → drop k places ≡ at ∷ drop (k + 1) places
place_left places k at below is = drop-cons places k at below ∙ ap (λ y. y ∷ drop (suc k) places) (sym is) ∙ rw add-one refl

pub lines_so_far : (lines : List Line) (k : ℕ) (l : Line) → k < length lines → l ≡ get_or lines k l → map model_line (take k lines) ++ model_line l ∷ [] ≡ map model_line (take (k + 1) lines)
lines_so_far lines k l below is =
    ap (λ m. map model_line (take k lines) ++ model_line m ∷ []) is
    ∙ sym (map_push model_line (take k lines) (get_or lines k l))
    ∙ ap (map model_line) (sym (take_more lines k l below))

-- one more line, with which there are too many or not
pub hidden_step : (ts : List TriggerData) (lines : List Line) (places : List Spot) (k : ℕ) (l : Line) (at : Spot) (many : Bool) → k < length lines → k < length places → l ≡ get_or lines k l → at ≡ get_or places k at →
    are_many ts (map model_line (take k lines) ++ model_line l ∷ []) ≡ many →
    hidden_faults ts (map model_line (take k lines)) (drop k places) (map model_line (drop k lines))
    ≡ (if many then fault (number_of TooMany) at ∷ [] else hidden_faults ts (map model_line (take (k + 1) lines)) (drop (k + 1) places) (map model_line (drop (k + 1) lines)))
hidden_step ts lines places k l at many below within is there are =
    (λ i. hidden_faults ts (map model_line (take k lines)) (place_left places k at within there i) (mapped_left model_line lines k l below is i))
    ∙ (λ i. if are i then fault (number_of TooMany) at ∷ [] else hidden_faults ts (lines_so_far lines k l below is i) (drop (k + 1) places) (map model_line (drop (k + 1) lines)))

-- where there aren't too many, their test says so
pub not_many : (ts : List TriggerData) (lines : List Statement) (t : Tables) → IsCount ts lines t → are_many ts lines ≡ false
not_many ts lines t count = is_not_less _ _ count.few
  where
    is_not_less : (m n : ℕ) → n ≤ m → nat_lt m n ≡ false
    is_not_less m n few = grind (arith, nat_tests)

nowhere : Spot
nowhere = record { file = 0; line = 0; column = 0 }

-- one more line, with which there aren't too many
pub hidden_less : (ts : List TriggerData) (lines : List Line) (places : List Spot) (k : ℕ) (l : Line) → k < length lines → k < length places → l ≡ get_or lines k l →
    are_many ts (map model_line (take k lines) ++ model_line l ∷ []) ≡ false →
    hidden_faults ts (map model_line (take k lines)) (drop k places) (map model_line (drop k lines)) ≡ hidden_faults ts (map model_line (take (k + 1) lines)) (drop (k + 1) places) (map model_line (drop (k + 1) lines))
hidden_less ts lines places k l below within is few =
    hidden_step ts lines places k l (get_or places k nowhere) false below within is (get_or_any places k nowhere (get_or places k nowhere) within) few
