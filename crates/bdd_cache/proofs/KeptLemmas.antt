-- What is kept after a write of one cell, and after a sweep.
use Rattle.std.proofs.Common.{◌≡◌, ℕ, zero, suc, ◌+◌, ◌-◌, ◌<◌, ◌≤◌, ◌⊎◌, ◌↔◌, ◌++◌, ◌∷◌, inl, inr, sym, ◌∙◌, ap, subst, refl, arith, Bool, List, Contains, map, take, length, get_or, set, get_or-set_same, get_or-set_other, length-take, get_or-take}
use Rattle.std.proofs.lemmas.Bool.{cases_eq, cases_lt}
use Rattle.std.proofs.lemmas.List.{length-set, length-map, length-append, get_or_default, get_or-map, get_or_append_left, get_or-append_right}
use Rattle.bdd_cache.specs.declared.answer.Answer.{Answer}
use Rattle.bdd_cache.specs.declared.cell.Cell.{Cell}
use Rattle.bdd_cache.specs.declared.cell.TheConstants.{EMPTY}
use Rattle.bdd_cache.specs.Cells.{answer_in, answers_in}
use Rattle.bdd_cache.specs.Kept.{IsKept, HasLiveNodes, IsSwept, AllSwept, AreEmpty}

-- the answer is in one of the cells
abbrev pub IsInCells : List Cell → Answer → Type 0
IsInCells cells answer = (k : ℕ) × (k < length cells) × (answer_in (get_or cells k EMPTY) ≡ answer)

-- it is the one that stands by itself, or in one of the cells
abbrev pub IsAmong : Answer → List Cell → Answer → Type 0
IsAmong wide cells answer = (wide ≡ answer) ⊎ IsInCells cells answer

pub among : (wide : Answer) (cells : List Cell) (answer : Answer) → Contains (answers_in wide cells) answer → IsAmong wide cells answer
among wide cells answer (zero, inside, is) = inl is
among wide cells answer (suc k, inside, is) =
    let below : k < length cells = omega (arith, inside, length-map cells answer_in) in
    inr (k, below, sym (get_or-map answer_in cells k EMPTY answer below) ∙ (get_or_default (map answer_in cells) k answer _ (omega (arith, below, length-map cells answer_in)) ∙ is))

pub contains : (wide : Answer) (cells : List Cell) (answer : Answer) → IsAmong wide cells answer → Contains (answers_in wide cells) answer
contains wide cells answer (inl same) = (zero, omega arith, same)
contains wide cells answer (inr (k, below, is)) = (suc k, omega (arith, below, length-map cells answer_in), get_or-map answer_in cells k EMPTY answer below ∙ is)

-- ---- by cells

-- after a write of one cell, what is there is what was written or was there before
pub written_or_there : (cells : List Cell) (i : ℕ) (new : Cell) (answer : Answer) → i < length cells → IsInCells (set cells i new) answer → (answer ≡ answer_in new) ⊎ IsInCells cells answer
written_or_there cells i new answer inside (k, within, is) =
    let below : k < length cells = omega (arith, within, length-set cells i new) in
    elim (cases_eq k i) [
      | inl same ↦ inl (sym is ∙ ap answer_in (rw same (get_or-set_same cells i new EMPTY inside)))
      | inr other ↦ inr (k, below, ap answer_in (sym (get_or-set_other cells i k new EMPTY other)) ∙ is)
    ]

pub written_is_there : (cells : List Cell) (i : ℕ) (new : Cell) → i < length cells → IsInCells (set cells i new) (answer_in new)
written_is_there cells i new inside = (i, omega (arith, inside, length-set cells i new), ap answer_in (get_or-set_same cells i new EMPTY inside))

-- what is in the first of the cells is in them
pub front_there : (n : ℕ) (cells : List Cell) (answer : Answer) → IsInCells (take n cells) answer → IsInCells cells answer
front_there n cells answer (k, within, is) =
    let below : k < length cells = omega (arith, within, length-take n cells) in
    let first : k < n = omega (arith, within, length-take n cells) in
    (k, below, ap answer_in (sym (get_or-take n cells k EMPTY first)) ∙ is)

-- cells that are written a second time hold what they held
pub twice_there : (cells : List Cell) (answer : Answer) → IsInCells (cells ++ cells) answer ↔ IsInCells cells answer
twice_there cells answer = (λ both. from both, λ there. to there)
  where
    to : IsInCells cells answer → IsInCells (cells ++ cells) answer
    to (k, below, is) = (k, omega (arith, below, length-append cells cells), ap answer_in (get_or_append_left cells cells EMPTY k below) ∙ is)

    from : IsInCells (cells ++ cells) answer → IsInCells cells answer
    from (k, within, is) = elim (cases_lt k (length cells)) [
      | inl first ↦ (k, first, ap answer_in (sym (get_or_append_left cells cells EMPTY k first)) ∙ is)
      | inr second ↦ (k - length cells, omega (arith, within, second, length-append cells cells), ap answer_in (sym (get_or-append_right cells cells (length cells) k EMPTY refl second)) ∙ is)
    ]

-- ---- a sweep

-- what is in the cells after a sweep was there and has live nodes
pub swept_there : (live : List Bool) (old new : List Cell) → length new ≡ length old → AllSwept live old new EMPTY → (answer : Answer) → 0 < answer.op → IsInCells new answer → IsInCells old answer × HasLiveNodes live answer
swept_there live old new long swept answer op (k, below, is) =
    let in_old : k < length old = omega arith in
    elim (swept k in_old) [
      | inl stays ↦
          let same : answer_in (get_or old k EMPTY) ≡ answer = sym stays.1 ∙ is in
          ((k, in_old, same), subst (λ (x : Answer). HasLiveNodes live x) same stays.0)
      | inr goes ↦
          let nothing : answer.op ≡ 0 = ap (λ (x : Answer). x.op) (sym is) ∙ goes.1 in
          absurd (omega (arith, nothing, op))
    ]

-- what was there and has live nodes is there after a sweep
pub there_swept : (live : List Bool) (old new : List Cell) → length new ≡ length old → AllSwept live old new EMPTY → (answer : Answer) → IsInCells old answer → HasLiveNodes live answer → IsInCells new answer
there_swept live old new long swept answer (k, below, is) alive =
    elim (swept k below) [
      | inl stays ↦ (k, omega arith, stays.1 ∙ is)
      | inr goes ↦ absurd (goes.0 (subst (λ (x : Answer). HasLiveNodes live x) (sym is) alive))
    ]

-- ---- a table: one answer by itself, and cells

pub kept_twice : (wide : Answer) (cells : List Cell) (answer : Answer) → IsKept (answers_in wide (cells ++ cells)) answer ↔ IsKept (answers_in wide cells) answer
kept_twice wide cells answer = (
  λ kept. (kept.0, contains wide cells answer (elim (among wide _ answer kept.1) [ inl same ↦ inl same | inr there ↦ inr ((twice_there cells answer).0 there) ])),
  λ kept. (kept.0, contains wide _ answer (elim (among wide cells answer kept.1) [ inl same ↦ inl same | inr there ↦ inr ((twice_there cells answer).1 there) ])),
)

pub front_kept : (wide : Answer) (n : ℕ) (cells : List Cell) (answer : Answer) → IsKept (answers_in wide (take n cells)) answer → IsKept (answers_in wide cells) answer
front_kept wide n cells answer kept = (kept.0, contains wide cells answer (elim (among wide _ answer kept.1) [ inl same ↦ inl same | inr there ↦ inr (front_there n cells answer there) ]))

pub written_kept : (wide : Answer) (cells : List Cell) (i : ℕ) (new : Cell) → i < length cells → 0 < (answer_in new).op → IsKept (answers_in wide (set cells i new)) (answer_in new)
written_kept wide cells i new inside op = (op, contains wide _ (answer_in new) (inr (written_is_there cells i new inside)))

pub written_or_kept : (wide : Answer) (cells : List Cell) (i : ℕ) (new : Cell) (answer : Answer) → i < length cells → IsKept (answers_in wide (set cells i new)) answer → (answer ≡ answer_in new) ⊎ IsKept (answers_in wide cells) answer
written_or_kept wide cells i new answer inside kept =
    elim (among wide _ answer kept.1) [
      | inl same ↦ inr (kept.0, contains wide cells answer (inl same))
      | inr there ↦ elim (written_or_there cells i new answer inside there) [
        | inl written ↦ inl written
        | inr stayed ↦ inr (kept.0, contains wide cells answer (inr stayed))
      ]
    ]

-- no answer is in empty cells
pub none_kept : (wide : Answer) (cells : List Cell) → wide.op ≡ 0 → AreEmpty cells → (answer : Answer) → IsKept (answers_in wide cells) answer → ⊥
none_kept wide cells nothing empty answer kept =
    let op : 0 < answer.op = kept.0 in
    let zero_op : answer.op ≡ 0 = elim (among wide cells answer kept.1) [
      | inl same ↦ ap (λ (x : Answer). x.op) (sym same) ∙ nothing
      | inr there ↦ ap (λ (x : Answer). x.op) (sym there.2) ∙ empty there.0
    ] in
    absurd (omega (arith, op, zero_op))

-- after a sweep of all cells and of the one by itself exactly the answers with live nodes are left
pub swept_kept : (live : List Bool) (wide left : Answer) (old new : List Cell) → length new ≡ length old → IsSwept live wide left → AllSwept live old new EMPTY → (answer : Answer) → IsKept (answers_in left new) answer ↔ (IsKept (answers_in wide old) answer × HasLiveNodes live answer)
swept_kept live wide left old new long one all answer = (to, from)
  where
    to : IsKept (answers_in left new) answer → IsKept (answers_in wide old) answer × HasLiveNodes live answer
    to kept = elim (among left new answer kept.1) [
      | inl same ↦ elim one [
        | inl stays ↦
            let is : wide ≡ answer = sym stays.1 ∙ same in
            ((kept.0, contains wide old answer (inl is)), subst (λ (x : Answer). HasLiveNodes live x) is stays.0)
        | inr goes ↦
            let op : 0 < answer.op = kept.0 in
            let zero_op : answer.op ≡ 0 = ap (λ (x : Answer). x.op) (sym same) ∙ goes.1 in
            absurd (omega (arith, op, zero_op))
      ]
      | inr there ↦ let was : IsInCells old answer × HasLiveNodes live answer = swept_there live old new long all answer kept.0 there in ((kept.0, contains wide old answer (inr was.0)), was.1)
    ]

    from : IsKept (answers_in wide old) answer × HasLiveNodes live answer → IsKept (answers_in left new) answer
    from both = (
      both.0.0,
      contains left new answer (elim (among wide old answer both.0.1) [
        | inl same ↦ elim one [
          | inl stays ↦ inl (stays.1 ∙ same)
          | inr goes ↦ absurd (goes.0 (subst (λ (x : Answer). HasLiveNodes live x) (sym same) both.1))
        ]
        | inr there ↦ inr (there_swept live old new long all answer there both.1)
      ]),
    )

-- the answer of a cell is kept
pub cell_kept : (wide : Answer) (cells : List Cell) (i : ℕ) (d : Cell) (answer : Answer) → i < length cells → answer_in (get_or cells i d) ≡ answer → 0 < answer.op → IsKept (answers_in wide cells) answer
cell_kept wide cells i d answer inside is op = (op, contains wide cells answer (inr (i, inside, ap answer_in (get_or_default cells i EMPTY d inside) ∙ is)))
