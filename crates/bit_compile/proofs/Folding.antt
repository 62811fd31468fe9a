-- One part more of a conjunction or disjunction.
use Rattle.std.proofs.Common.{◌≡◌, ◌≢◌, ℕ, zero, suc, ◌+◌, ◌-◌, ◌<◌, ◌≤◌, Bool, true, false, not, ◌&&◌, ◌||◌, ◌==◌, ◌*◌, ◌/◌, ◌%◌, if◌then◌else◌, Result, Ok, Err, List, [], ◌∷◌, ◌++◌, map, drop, length, get_or, refl, sym, ◌∙◌, ap, subst, arith}
use Rattle.std.specs.List.{list_any, AllByRecursion}
use Rattle.std.specs.Bool.{beq}
use Rattle.std.proofs.lemmas.Bool.{and_parts, and_from, eqb-true, eq-eqb, ne_eqb, false≢true}
use Rattle.spec_model.specs.declared.value.Value.{Value}
use Rattle.spec_model.specs.Games.{letter_of}
use Rattle.spec_model.specs.Diagrams.{Bits, Function}
use Rattle.bdd_store.specs.State.{AddsRoot, IsRoot}
use Rattle.regions.specs.declared.types.Halt.{Halt}
use Rattle.bdd_ops.specs.Functions.{Join, joined, join_of}
use Rattle.bdd_bits.specs.Contents.{Contents, function_at}
use Rattle.bdd_bits.specs.Calls.{SameNodes}
use Rattle.bdd_ops.specs.Calls.{negated}
use Rattle.bit_compile.proofs.NumberLemmas.{same_bools}
use Rattle.bit_compile.proofs.MakingLemmas.{fails, given_back, is_root, root_added}
use Rattle.bit_compile.proofs.Between.{still_kept}
use Rattle.bit_compile.specs.declared.folds.Fold.{Fold}
use Rattle.bit_compile.specs.declared.folds.Fold.TheVariants as fold
use Rattle.bit_compile.specs.Making.{Makes}
use Rattle.bit_compile.specs.Compiled.{Case, some_pair, is_letter, all_of}
use Rattle.bit_compile.specs.CaseRoots.{AreKept, folded, is_all}
use Rattle.bit_compile.specs.declared.cases.CaseRoot.{CaseRoot}

not_true : (b : Bool) → not b ≡ true → b ≡ false
not_true true e = absurd (false≢true e)
not_true false e = refl

-- two functions joined, where each is known as another
pub joined_as : (join : Join) (f f' g g' : Function) → f' ≡ f → g' ≡ g → joined join f' g' ≡ joined join f g
joined_as join f f' g g' same_f same_g = ap (λ (k : Function). joined join k g') same_f ∙ ap (λ (k : Function). joined join f k) same_g

or_assoc : (a b c : Bool) → ((a || b) || c) ≡ (a || (b || c))
or_assoc true b c = refl
or_assoc false b c = refl

and_assoc : (a b c : Bool) → ((a && b) && c) ≡ (a && (b && c))
and_assoc true b c = refl
and_assoc false b c = refl

pub or_false : (a : Bool) → (a || false) ≡ a
or_false true = refl
or_false false = refl

pub and_true : (a : Bool) → (a && true) ≡ a
and_true true = refl
and_true false = refl

-- ---- what is left of a list

drop_at : {V : Type 0} (xs : List V) (i : ℕ) (x : V) → i < length xs → x ≡ get_or xs i x → drop i xs ≡ x ∷ drop (suc i) xs
drop_at [] i x h e = absurd (omega arith)
drop_at (y ∷ xs) zero x h e = ap (λ z. z ∷ xs) (sym e)
drop_at (y ∷ xs) (suc i) x h e = drop_at xs i x (omega arith) e

pub drop_next : {V : Type 0} (xs : List V) (i : ℕ) (x : V) → i < length xs → x ≡ get_or xs i x → drop i xs ≡ x ∷ drop (i + 1) xs
drop_next xs i x h e = let next : i + 1 ≡ suc i = omega arith in rw next (drop_at xs i x h e)

drop_past : {V : Type 0} (xs : List V) (i : ℕ) → length xs ≤ i → drop i xs ≡ []
drop_past [] zero h = refl
drop_past [] (suc i) h = refl
drop_past (y ∷ xs) zero h = absurd (omega arith)
drop_past (y ∷ xs) (suc i) h = drop_past xs i (omega arith)

pub past_end : {V : Type 0} (xs : List V) (i : ℕ) → length xs ≤ i → drop i xs ≡ []
past_end xs i h = drop_past xs i h

pub all_next : {V : Type 0} (P : V → Type 0) (xs : List V) (i : ℕ) (x : V) → i < length xs → x ≡ get_or xs i x → AllByRecursion P (drop i xs) → P x × AllByRecursion P (drop (i + 1) xs)
all_next P xs i x h e all = subst (AllByRecursion P) (drop_next xs i x h e) all

-- ---- rows of pairs

-- the row of a value: the pairs with it that pass
abbrev pub row_of : (Value → Value → Bool) → Value → Function → List Case → Function
row_of test x f ys s = list_any (λ y. test x y.value && (f s && y.holds s)) ys

-- one pair more
pub row_step : (test : Value → Value → Bool) (x : Value) (f sum more : Function) (y : Case) (rest : List Case) (target : Function) →
    (λ s. sum s || row_of test x f (y ∷ rest) s) ≡ target → more ≡ (λ s. sum s || test x y.value && (f s && y.holds s)) → (λ s. more s || row_of test x f rest s) ≡ target
row_step test x f sum more y rest target so_far is =
    ap (λ (m : Function). (λ (s : Bits). m s || row_of test x f rest s)) is ∙ ((λ i s. or_assoc (sum s) (test x y.value && (f s && y.holds s)) (row_of test x f rest s) i) ∙ so_far)

-- one row more
pub rows_step : (test : Value → Value → Bool) (sum more : Function) (x : Case) (rest ys : List Case) (target : Function) →
    (λ s. sum s || some_pair test (x ∷ rest) ys s) ≡ target → more ≡ (λ s. sum s || row_of test x.value x.holds ys s) → (λ s. more s || some_pair test rest ys s) ≡ target
rows_step test sum more x rest ys target so_far is =
    ap (λ (m : Function). (λ (s : Bits). m s || some_pair test rest ys s)) is ∙ ((λ i s. or_assoc (sum s) (row_of test x.value x.holds ys s) (some_pair test rest ys s) i) ∙ so_far)

-- ---- conjunctions and disjunctions

pub fold_first : (f : Fold) (fs : List Function) → joined (join_of (is_all f)) (λ s. is_all f) (folded f fs) ≡ folded f fs
fold_first fold.All fs = refl
fold_first fold.Some fs = refl

pub fold_step : (f : Fold) (whole more x : Function) (rest : List Function) (target : Function) →
    joined (join_of (is_all f)) whole (folded f (x ∷ rest)) ≡ target → more ≡ joined (join_of (is_all f)) whole x → joined (join_of (is_all f)) more (folded f rest) ≡ target
fold_step fold.All whole more x rest target so_far is =
    ap (λ (m : Function). joined ◌&&◌ m (folded fold.All rest)) is ∙ ((λ i s. and_assoc (whole s) (x s) (folded fold.All rest s) i) ∙ so_far)
fold_step fold.Some whole more x rest target so_far is =
    ap (λ (m : Function). joined ◌||◌ m (folded fold.Some rest)) is ∙ ((λ i s. or_assoc (whole s) (x s) (folded fold.Some rest s) i) ∙ so_far)

pub fold_last : (f : Fold) (whole : Function) → joined (join_of (is_all f)) whole (folded f []) ≡ whole
fold_last fold.All whole = λ i s. and_true (whole s) i
fold_last fold.Some whole = λ i s. or_false (whole s) i

-- ---- one turn of a loop

-- the root that is made has its own function
pub own : (old mid : Contents) (r : ℕ) (f : Function) → Makes old mid (Ok r) f → Makes old mid (Ok r) (function_at mid r)
own old mid r f makes = record { meaning = refl; added = makes.added; refused = makes.refused; keeps = makes.keeps; full = makes.full }

-- a new root is made with the one so far, which is given back
pub turn : (first l mid new : Contents) (row : ℕ) (r : Result ℕ Halt) (g g' : Function) → Makes first l (Ok row) (function_at l row) → Makes l mid r g → g ≡ g' → AddsRoot new.state mid.state row → SameNodes mid new → Makes first new r g'
turn first l mid new row r g g' made step is back nodes = given_back first l mid new row (function_at l row) g' made back nodes r (subst (λ (f : Function). Makes l mid r f) is step)

-- the sum, or both where they are wanted
abbrev pub with_pair : Function → Bool → Function → Function → Function
with_pair sum wanted x y s = sum s || wanted && (x s && y s)

pub row_is : (wanted passing : Bool) (sum x x' y y' : Function) → wanted ≡ passing → x ≡ x' → y ≡ y' → with_pair sum wanted x y ≡ with_pair sum passing x' y'
row_is wanted passing sum x x' y y' w e f = ap (λ b. with_pair sum b x y) w ∙ (ap (λ g. with_pair sum passing g y) e ∙ ap (λ g. with_pair sum passing x' g) f)

-- the root so far is kept
pub so_far_kept : (first l : Contents) (row : ℕ) → Makes first l (Ok row) (function_at l row) → IsRoot l.state row
so_far_kept first l row made = is_root first l row (function_at l row) made

pub still_root : (first l : Contents) (row n : ℕ) → Makes first l (Ok row) (function_at l row) → IsRoot first.state n → IsRoot l.state n
still_root first l row n made root = root_added first l row (function_at l row) made n root

pub all_still : (first l : Contents) (row : ℕ) (xs : List CaseRoot) → Makes first l (Ok row) (function_at l row) → AreKept first.state xs → AreKept l.state xs
all_still first l row xs made kept = still_kept first.state l.state xs (λ n root. still_root first l row n made root) kept

-- ---- letters

odd : (rest left : ℕ) → (1 + 2 * rest == left) ≡ ((left % 2 == 1) && (rest == left / 2))
odd rest left = same_bools _ _
    (λ e. (let same = eqb-true (1 + 2 * rest) left e in
    let one : left % 2 ≡ 1 = omega (arith, same) in
    let half : rest ≡ left / 2 = omega (arith, same) in
    and_from (left % 2 == 1) (rest == left / 2) (eq-eqb (left % 2) 1 one) (eq-eqb rest (left / 2) half)))
    (λ e. (let parts = and_parts (left % 2 == 1) (rest == left / 2) e in
    let one = eqb-true (left % 2) 1 parts.0 in
    let half = eqb-true rest (left / 2) parts.1 in
    eq-eqb (1 + 2 * rest) left (omega (arith, one, half))))

even : (rest left : ℕ) → (0 + 2 * rest == left) ≡ (not (left % 2 == 1) && (rest == left / 2))
even rest left = same_bools _ _
    (λ e. (let same = eqb-true (0 + 2 * rest) left e in
    let none : left % 2 ≢ 1 = omega (arith, same) in
    let half : rest ≡ left / 2 = omega (arith, same) in
    and_from (not (left % 2 == 1)) (rest == left / 2) (ap not (ne_eqb (left % 2) 1 none)) (eq-eqb rest (left / 2) half)))
    (λ e. (let parts = and_parts (not (left % 2 == 1)) (rest == left / 2) e in
    let other : (left % 2 == 1) ≡ false = not_true (left % 2 == 1) parts.0 in
    let none : left % 2 ≢ 1 = λ same. false≢true (sym other ∙ eq-eqb (left % 2) 1 same) in
    let half = eqb-true rest (left / 2) parts.1 in
    eq-eqb (0 + 2 * rest) left (omega (arith, none, half))))

beq_true : (b : Bool) → beq true b ≡ b
beq_true true = refl
beq_true false = refl

beq_false : (b : Bool) → beq false b ≡ not b
beq_false true = refl
beq_false false = refl

letter_first : (b : Bool) (rest left : ℕ) → ((if b then 1 else 0) + 2 * rest == left) ≡ (beq b (left % 2 == 1) && (rest == left / 2))
letter_first true rest left = odd rest left ∙ ap (λ x. x && (rest == left / 2)) (sym (beq_true (left % 2 == 1)))
letter_first false rest left = even rest left ∙ ap (λ x. x && (rest == left / 2)) (sym (beq_false (left % 2 == 1)))

pub letter_step : (product more atom : Function) (rest : List Function) (left : ℕ) (target : Function) →
    joined (join_of true) product (is_letter (atom ∷ rest) left) ≡ target → more ≡ (λ s. product s && beq (atom s) (left % 2 == 1)) → joined (join_of true) more (is_letter rest (left / 2)) ≡ target
letter_step product more atom rest left target so_far is =
    ap (λ (m : Function). joined (join_of true) m (is_letter rest (left / 2))) is
    ∙ ((λ i s. and_assoc (product s) (beq (atom s) (left % 2 == 1)) (is_letter rest (left / 2) s) i)
    ∙ (sym (λ i s. product s && letter_first (atom s) (letter_of (map (λ (a : Function). a s) rest)) left i) ∙ so_far))

-- ---- a function as wanted

beq-of_true : (b : Bool) → b ≡ beq b true
beq-of_true true = refl
beq-of_true false = refl

beq-of_false : (b : Bool) → not b ≡ beq b false
beq-of_false true = refl
beq-of_false false = refl

pub as_true : (f g : Function) → joined (join_of true) f g ≡ (λ s. f s && beq (g s) true)
as_true f g = λ i s. f s && beq-of_true (g s) i

pub as_false : (f g : Function) → joined (join_of true) f (negated g) ≡ (λ s. f s && beq (g s) false)
as_false f g = λ i s. f s && beq-of_false (g s) i

-- ---- the end of a loop

pub finished : (first l : Contents) (r : ℕ) (f : Function) → Makes first l (Ok r) (function_at l r) → function_at l r ≡ f → Makes first l (Ok r) f
finished first l r f made is = subst (λ (g : Function). Makes first l (Ok r) g) is made

pub fold_done : (f : Fold) (whole : Function) (rest : List Function) (target : Function) → rest ≡ [] → joined (join_of (is_all f)) whole (folded f rest) ≡ target → whole ≡ target
fold_done f whole rest target none same = sym (fold_last f whole) ∙ (sym (ap (λ (fs : List Function). joined (join_of (is_all f)) whole (folded f fs)) none) ∙ same)

pub rows_done : (sum rest target : Function) → rest ≡ (λ s. false) → (λ s. sum s || rest s) ≡ target → sum ≡ target
rows_done sum rest target none same = sym (λ i s. or_false (sum s) i) ∙ (sym (ap (λ (f : Function). (λ (s : Bits). sum s || f s)) none) ∙ same)

and_false : (b : Bool) → (b && false) ≡ false
and_false true = refl
and_false false = refl

pub letter_done : (product : Function) (rest : List Function) (left : ℕ) (target : Function) → rest ≡ [] → left ≡ 0 → joined (join_of true) product (is_letter rest left) ≡ target → product ≡ target
letter_done product rest left target none end_is same =
    let end : (0 == left) ≡ true = eq-eqb 0 left (sym end_is) in
    sym (λ i s. and_true (product s) i)
    ∙ (sym (ap (λ (b : Bool). (λ (s : Bits). product s && b)) end)
    ∙ (sym (ap (λ (fs : List Function). joined (join_of true) product (is_letter fs left)) none) ∙ same))

pub letter_none : (product : Function) (rest : List Function) (left : ℕ) (target : Function) → rest ≡ [] → (left ≡ 0 → ⊥) → joined (join_of true) product (is_letter rest left) ≡ target → (λ s. false) ≡ target
letter_none product rest left target none some same =
    let end : (0 == left) ≡ false = ne_eqb 0 left (λ e. some (sym e)) in
    sym (λ i s. and_false (product s) i)
    ∙ (sym (ap (λ (b : Bool). (λ (s : Bits). product s && b)) end)
    ∙ (sym (ap (λ (fs : List Function). joined (join_of true) product (is_letter fs left)) none) ∙ same))

pub all_of-push : (fs : List Function) (f : Function) → all_of (fs ++ f ∷ []) ≡ (λ s. all_of fs s && f s)
all_of-push [] f = λ i s. and_true (f s) i
all_of-push (g ∷ fs) f = ap (λ (h : Function). (λ (s : Bits). g s && h s)) (all_of-push fs f) ∙ sym (λ i s. and_assoc (g s) (all_of fs s) (f s) i)

-- a refusal that is handed on
pub refused_makes : (first new : Contents) (r r' : Result ℕ Halt) (h : Halt) (g f : Function) → Makes first new r g → r ≡ Err h → r' ≡ Err h → Makes first new r' f
refused_makes first new r r' h g f makes is is' = subst (λ (x : Result ℕ Halt). Makes first new x f) (sym is') (fails first new h g f (subst (λ (x : Result ℕ Halt). Makes first new x g) is makes))

-- ---- from the last one on

all_dropped : {V : Type 0} (P : V → Type 0) (xs : List V) (i : ℕ) → AllByRecursion P xs → AllByRecursion P (drop i xs)
all_dropped P xs zero all = all
all_dropped P [] (suc i) all = all
all_dropped P (y ∷ xs) (suc i) all = all_dropped P xs i all.1

-- what is left with the one before it
pub drop_before : {V : Type 0} (xs : List V) (last : ℕ) (x : V) → 0 < last → last ≤ length xs → x ≡ get_or xs (last - 1) x → drop (last - 1) xs ≡ x ∷ drop last xs
drop_before xs last x some within is =
    let e : last - 1 + 1 ≡ last = omega (arith, some) in
    drop_next xs (last - 1) x (omega (arith, some, within)) is ∙ ap (λ k. x ∷ drop k xs) e

pub kept_before : {V : Type 0} (P : V → Type 0) (xs : List V) (last : ℕ) (x : V) → 0 < last → last ≤ length xs → x ≡ get_or xs (last - 1) x → AllByRecursion P xs → P x
kept_before P xs last x some within is all = (subst (AllByRecursion P) (drop_before xs last x some within is) (all_dropped P xs (last - 1) all)).0

pub fold_cons : (f : Fold) (x : Function) (rest : List Function) → joined (join_of (is_all f)) x (folded f rest) ≡ folded f (x ∷ rest)
fold_cons fold.All x rest = refl
fold_cons fold.Some x rest = refl
