-- An expression reads a stretch exactly where a path of positions goes along it (Glushkov 1961; McNaughton and Yamada 1960).
use Rattle.std.proofs.Common.{◌≡◌, ℕ, zero, suc, ◌+◌, ◌<◌, ◌==◌, ◌⊎◌, inl, inr, Bool, true, false, cond, ◌&&◌, [], ◌++◌, length, refl, sym, ◌∙◌, subst, arith}
use Rattle.std.proofs.lemmas.Bool.{and_parts, and_from, or_cases, or_left, or_right, false≢true, eq-eqb}
use Rattle.spec_model.specs.Meaning.{Reading, holds_at}
use Rattle.spec_model.specs.TriggerStates.{Written, Bracket, Empty, Then, Either, Star, brackets, is_skipped, firsts, lasts, has, followers}
use Rattle.trigger_dfa.specs.Reads.{InPieces, Reads}
use Rattle.trigger_dfa.specs.Words.{tells}
use Rattle.trigger_dfa.proofs.Sets.{has_cases, has_left, has_right, has_where, has_if, tells_range, tells_left, tells_right, tells_cases, InRange, firsts_range, lasts_range, followers_range}

-- whether the formula of the position holds at a position of the run
abbrev pub true_at : Reading → Written → ℕ → ℕ → ℕ → Bool
true_at r w n t p = tells (λ e. holds_at r e t) n (brackets w) p

-- positions read one after the other, from here to there, the last of which is this one
pub data Path (r : Reading) (w : Written) (n from : ℕ) : ℕ → ℕ → Type 0 where
  begin : {p : ℕ} → has (firsts n w) p ≡ true → true_at r w n from p ≡ true → Path r w n from (suc from) p
  move : {t q p : ℕ} → Path r w n from t q → has (followers n w q) p ≡ true → true_at r w n t p ≡ true → Path r w n from (suc t) p

-- a path to a last position
abbrev pub WholePath : Reading → Written → ℕ → ℕ → ℕ → Type 0
WholePath r w n from t = (p : ℕ) × Path r w n from t p × (has (lasts n w) p ≡ true)

pub path_range : {r : Reading} {w : Written} {n from t p : ℕ} → Path r w n from t p → InRange n w p
path_range {r} {w} {n} {from} (begin {p = p} f e) = tells_range (λ x. holds_at r x from) n (brackets w) p e
path_range {r} {w} {n} {from} (move {t = t} {p = p} path f e) = tells_range (λ x. holds_at r x t) n (brackets w) p e

pub path_later : {r : Reading} {w : Written} {n from t p : ℕ} → Path r w n from t p → from < t
path_later (begin f e) = omega arith
path_later (move path f e) = let before = path_later path in omega arith

skip_reads : (r : Reading) (w : Written) → is_skipped w ≡ true → (t : ℕ) → Reads r w t t
skip_reads r (Bracket e) s t = absurd (false≢true s)
skip_reads r Empty s t = refl
skip_reads r (Then a b) s t = let p = and_parts (is_skipped a) (is_skipped b) s in (t, skip_reads r a p.0 t, skip_reads r b p.1 t)
skip_reads r (Either a b) s t = elim (or_cases (is_skipped a) (is_skipped b) s) [ inl x ↦ inl (skip_reads r a x t) | inr x ↦ inr (skip_reads r b x t) ]
skip_reads r (Star a) s t = (zero, refl)

-- a last piece after the others
one_more_piece : (n : ℕ) (Piece : ℕ → ℕ → Type 0) (from cut to : ℕ) → InPieces n Piece from cut → Piece cut to → InPieces (suc n) Piece from to
one_more_piece zero Piece from cut to e p = (to, subst (λ (m : ℕ). Piece m to) (sym e) p, refl)
one_more_piece (suc n) Piece from cut to ps p = (ps.0, ps.1, one_more_piece n Piece ps.0 cut to ps.2 p)

-- ---- a path of an expression is made of paths of its parts

-- the right part goes on where the left one has read a stretch
abbrev RightPart : Reading → Written → Written → (n from t p : ℕ) → Type 0
RightPart r a b n from t p = (c : ℕ) × Reads r a from c × Path r b (n + length (brackets a)) c t p

-- how a position of `Then a b` follows another one
abbrev Follows : Reading → Written → Written → (n t q p : ℕ) → Type 0
Follows r a b n t q p =
    ((has (followers n a q) p ≡ true) × (true_at r a n t p ≡ true))
    ⊎ (((has (followers (n + length (brackets a)) b q) p ≡ true) × (true_at r b (n + length (brackets a)) t p ≡ true))
    ⊎ ((has (lasts n a) q ≡ true) × (has (firsts (n + length (brackets a)) b) p ≡ true) × (true_at r b (n + length (brackets a)) t p ≡ true)))

module _ (r : Reading) (a b : Written) (n : ℕ) where
  module _ (t p : ℕ) (e : true_at r (Then a b) n t p ≡ true) where
    -- at a position of the one part no formula of the other part is meant
    in_left : InRange n a p → true_at r a n t p ≡ true
    in_left i =
        elim (tells_cases (λ y. holds_at r y t) n (brackets a) (brackets b) p e) [
          | inl y ↦ y
          | inr y ↦ let j = tells_range (λ z. holds_at r z t) (n + length (brackets a)) (brackets b) p y in absurd (omega (arith, i.1, j.0))
        ]

    in_right : InRange (n + length (brackets a)) b p → true_at r b (n + length (brackets a)) t p ≡ true
    in_right i =
        elim (tells_cases (λ y. holds_at r y t) n (brackets a) (brackets b) p e) [
          | inl y ↦ let j = tells_range (λ z. holds_at r z t) n (brackets a) p y in absurd (omega (arith, i.0, j.1))
          | inr y ↦ y
        ]

  then_follows : (t q p : ℕ) → has (followers n (Then a b) q) p ≡ true → true_at r (Then a b) n t p ≡ true → Follows r a b n t q p
  then_follows t q p f e =
      elim (has_cases (followers n a q) (followers (n + length (brackets a)) b q ++ cond (has (lasts n a) q) (firsts (n + length (brackets a)) b) []) p f) [
        | inl x ↦ inl (x, in_left t p e (followers_range n a q p x).1)
        | inr y ↦ elim (has_cases (followers (n + length (brackets a)) b q) (cond (has (lasts n a) q) (firsts (n + length (brackets a)) b) []) p y) [
          | inl x ↦ inr (inl (x, in_right t p e (followers_range (n + length (brackets a)) b q p x).1))
          | inr z ↦ let x = has_where (has (lasts n a) q) (firsts (n + length (brackets a)) b) p z in
              inr (inr (x.0, x.1, in_right t p e (firsts_range (n + length (brackets a)) b p x.1)))
        ]
      ]

  then_begins : (from p : ℕ) → has (firsts n (Then a b)) p ≡ true → true_at r (Then a b) n from p ≡ true → Path r a n from (suc from) p ⊎ RightPart r a b n from (suc from) p
  then_begins from p f e =
      elim (has_cases (firsts n a) (cond (is_skipped a) (firsts (n + length (brackets a)) b) []) p f) [
        | inl x ↦ inl (begin x (in_left from p e (firsts_range n a p x)))
        | inr z ↦ let x = has_where (is_skipped a) (firsts (n + length (brackets a)) b) p z in
            inr (from, skip_reads r a x.0 from, begin x.1 (in_right from p e (firsts_range (n + length (brackets a)) b p x.1)))
      ]

  either_parts : {from t p : ℕ} → Path r (Either a b) n from t p → Path r a n from t p ⊎ Path r b (n + length (brackets a)) from t p
  either_parts {from} (begin {p = p} f e) =
      elim (has_cases (firsts n a) (firsts (n + length (brackets a)) b) p f) [
        | inl x ↦ inl (begin x (in_left from p e (firsts_range n a p x)))
        | inr x ↦ inr (begin x (in_right from p e (firsts_range (n + length (brackets a)) b p x)))
      ]
  either_parts {from} (move {t = t} {q = q} {p = p} path f e) =
      elim (either_parts path) [
        | inl left ↦ elim (has_cases (followers n a q) (followers (n + length (brackets a)) b q) p f) [
          | inl x ↦ inl (move left x (in_left t p e (followers_range n a q p x).1))
          | inr x ↦ let i = path_range left in let j = followers_range (n + length (brackets a)) b q p x in absurd (omega (arith, i.1, j.0.0))
        ]
        | inr right ↦ elim (has_cases (followers n a q) (followers (n + length (brackets a)) b q) p f) [
          | inl x ↦ let i = path_range right in let j = followers_range n a q p x in absurd (omega (arith, i.0, j.0.1))
          | inr x ↦ inr (move right x (in_right t p e (followers_range (n + length (brackets a)) b q p x).1))
        ]
      ]

module _ (r : Reading) (a b : Written) (n from : ℕ) (reads_a : (t p : ℕ) → Path r a n from t p → has (lasts n a) p ≡ true → Reads r a from t) where
  then_moves : (t q p : ℕ) → Path r a n from t q ⊎ RightPart r a b n from t q → Follows r a b n t q p → Path r a n from (suc t) p ⊎ RightPart r a b n from (suc t) p
  then_moves t q p (inl path) (inl x) = inl (move path x.0 x.1)
  then_moves t q p (inl path) (inr (inl x)) =
      let i = path_range path in let j = followers_range (n + length (brackets a)) b q p x.0 in absurd (omega (arith, i.1, j.0.0))
  then_moves t q p (inl path) (inr (inr x)) = inr (t, reads_a t q path x.0, begin x.1 x.2)
  then_moves t q p (inr path) (inl x) =
      let i = path_range path.2 in let j = followers_range n a q p x.0 in absurd (omega (arith, i.0, j.0.1))
  then_moves t q p (inr path) (inr (inl x)) = inr (path.0, path.1, move path.2 x.0 x.1)
  then_moves t q p (inr path) (inr (inr x)) =
      let i = path_range path.2 in let j = lasts_range n a q x.0 in absurd (omega (arith, i.0, j.1))

  then_parts : {t p : ℕ} → Path r (Then a b) n from t p → Path r a n from t p ⊎ RightPart r a b n from t p
  then_parts (begin {p = p} f e) = then_begins r a b n from p f e
  then_parts (move {t = t} {q = q} {p = p} path f e) = then_moves t q p (then_parts path) (then_follows r a b n t q p f e)

module _ (r : Reading) (a : Written) (n : ℕ) (reads_a : (from t p : ℕ) → Path r a n from t p → has (lasts n a) p ≡ true → Reads r a from t) where
  -- the pieces before the last one, and the path in that one
  star_parts : {from t p : ℕ} → Path r (Star a) n from t p → (c : ℕ) × Reads r (Star a) from c × Path r a n c t p
  star_parts {from} (begin f e) = (from, (zero, refl), begin f e)
  star_parts {from} (move {t = t} {q = q} {p = p} path f e) =
      let parts = star_parts path in
      elim (has_cases (followers n a q) (cond (has (lasts n a) q) (firsts n a) []) p f) [
        | inl x ↦ (parts.0, parts.1, move parts.2 x e)
        | inr z ↦ let x = has_where (has (lasts n a) q) (firsts n a) p z in
            (t, (suc parts.1.0, one_more_piece parts.1.0 (Reads r a) from parts.0 t parts.1.1 (reads_a parts.0 t q parts.2 x.0)), begin x.1 e)
      ]

-- ---- a path to a last position reads its stretch

pub path_reads : (r : Reading) (w : Written) (n from t p : ℕ) → Path r w n from t p → has (lasts n w) p ≡ true → Reads r w from t
path_reads r (Bracket e) n from t p path l = bracket path
  where
    bracket : {t : ℕ} → Path r (Bracket e) n from t p → Reads r (Bracket e) from t
    bracket (begin f h) = elim (or_cases (n == p && holds_at r e from) false h) [
      | inl x ↦ (refl, (and_parts (n == p) (holds_at r e from) x).1)
      | inr x ↦ absurd (false≢true x)
    ]
    bracket (move path f h) = absurd (false≢true f)
path_reads r Empty n from t p path l = absurd (false≢true l)
path_reads r (Then a b) n from t p path l =
    elim (then_parts r a b n from (path_reads r a n from) path) [
      | inl left ↦ elim (has_cases (cond (is_skipped b) (lasts n a) []) (lasts (n + length (brackets a)) b) p l) [
        | inl z ↦ let x = has_where (is_skipped b) (lasts n a) p z in (t, path_reads r a n from t p left x.1, skip_reads r b x.0 t)
        | inr x ↦ let i = path_range left in let j = lasts_range (n + length (brackets a)) b p x in absurd (omega (arith, i.1, j.0))
      ]
      | inr right ↦ elim (has_cases (cond (is_skipped b) (lasts n a) []) (lasts (n + length (brackets a)) b) p l) [
        | inl z ↦ let x = has_where (is_skipped b) (lasts n a) p z in
            let i = path_range right.2 in let j = lasts_range n a p x.1 in absurd (omega (arith, i.0, j.1))
        | inr x ↦ (right.0, right.1, path_reads r b (n + length (brackets a)) right.0 t p right.2 x)
      ]
    ]
path_reads r (Either a b) n from t p path l =
    elim (either_parts r a b n path) [
      | inl left ↦ elim (has_cases (lasts n a) (lasts (n + length (brackets a)) b) p l) [
        | inl x ↦ inl (path_reads r a n from t p left x)
        | inr x ↦ let i = path_range left in let j = lasts_range (n + length (brackets a)) b p x in absurd (omega (arith, i.1, j.0))
      ]
      | inr right ↦ elim (has_cases (lasts n a) (lasts (n + length (brackets a)) b) p l) [
        | inl x ↦ let i = path_range right in let j = lasts_range n a p x in absurd (omega (arith, i.0, j.1))
        | inr x ↦ inr (path_reads r b (n + length (brackets a)) from t p right x)
      ]
    ]
path_reads r (Star a) n from t p path l =
    let parts = star_parts r a n (path_reads r a n) path in
    (suc parts.1.0, one_more_piece parts.1.0 (Reads r a) from parts.0 t parts.1.1 (path_reads r a n parts.0 t p parts.2 l))

-- ---- and each stretch that is read has such a path

module _ (r : Reading) (a b : Written) (n : ℕ) where
  then_left : {from t p : ℕ} → Path r a n from t p → Path r (Then a b) n from t p
  then_left {from} (begin {p = p} f e) =
      begin (has_left (firsts n a) (cond (is_skipped a) (firsts (n + length (brackets a)) b) []) p f) (tells_left (λ y. holds_at r y from) n (brackets a) (brackets b) p e)
  then_left (move {t = t} {q = q} {p = p} path f e) =
      move (then_left path)
      (has_left (followers n a q) (followers (n + length (brackets a)) b q ++ cond (has (lasts n a) q) (firsts (n + length (brackets a)) b) []) p f)
      (tells_left (λ y. holds_at r y t) n (brackets a) (brackets b) p e)

  -- the left part is done at the cut: it is skipped, or a path has come to its end
  abbrev LeftDone : ℕ → ℕ → Type 0
  LeftDone from c = ((from ≡ c) × (is_skipped a ≡ true)) ⊎ WholePath r a n from c

  then_right : {from c t p : ℕ} → LeftDone from c → Path r b (n + length (brackets a)) c t p → Path r (Then a b) n from t p
  then_right {from} {c} done (begin {p = p} f e) =
      elim done [
        | inl skip ↦ subst (λ (m : ℕ). Path r (Then a b) n from (suc m) p) skip.0
            (begin (has_right (firsts n a) (cond (is_skipped a) (firsts (n + length (brackets a)) b) []) p (has_if (is_skipped a) (firsts (n + length (brackets a)) b) p skip.1 f))
            (tells_right (λ y. holds_at r y from) n (brackets a) (brackets b) p (subst (λ (m : ℕ). true_at r b (n + length (brackets a)) m p ≡ true) (sym skip.0) e)))
        | inr whole ↦ move (then_left whole.1)
            (has_right (followers n a whole.0) (followers (n + length (brackets a)) b whole.0 ++ cond (has (lasts n a) whole.0) (firsts (n + length (brackets a)) b) []) p
            (has_right (followers (n + length (brackets a)) b whole.0) (cond (has (lasts n a) whole.0) (firsts (n + length (brackets a)) b) []) p
            (has_if (has (lasts n a) whole.0) (firsts (n + length (brackets a)) b) p whole.2 f)))
            (tells_right (λ y. holds_at r y c) n (brackets a) (brackets b) p e)
      ]
  then_right done (move {t = t} {q = q} {p = p} path f e) =
      move (then_right done path)
      (has_right (followers n a q) (followers (n + length (brackets a)) b q ++ cond (has (lasts n a) q) (firsts (n + length (brackets a)) b) []) p
      (has_left (followers (n + length (brackets a)) b q) (cond (has (lasts n a) q) (firsts (n + length (brackets a)) b) []) p f))
      (tells_right (λ y. holds_at r y t) n (brackets a) (brackets b) p e)

  either_left : {from t p : ℕ} → Path r a n from t p → Path r (Either a b) n from t p
  either_left {from} (begin {p = p} f e) =
      begin (has_left (firsts n a) (firsts (n + length (brackets a)) b) p f) (tells_left (λ y. holds_at r y from) n (brackets a) (brackets b) p e)
  either_left (move {t = t} {q = q} {p = p} path f e) =
      move (either_left path) (has_left (followers n a q) (followers (n + length (brackets a)) b q) p f) (tells_left (λ y. holds_at r y t) n (brackets a) (brackets b) p e)

  either_right : {from t p : ℕ} → Path r b (n + length (brackets a)) from t p → Path r (Either a b) n from t p
  either_right {from} (begin {p = p} f e) =
      begin (has_right (firsts n a) (firsts (n + length (brackets a)) b) p f) (tells_right (λ y. holds_at r y from) n (brackets a) (brackets b) p e)
  either_right (move {t = t} {q = q} {p = p} path f e) =
      move (either_right path) (has_right (followers n a q) (followers (n + length (brackets a)) b q) p f) (tells_right (λ y. holds_at r y t) n (brackets a) (brackets b) p e)

module _ (r : Reading) (a : Written) (n : ℕ) where
  star_one : {from t p : ℕ} → Path r a n from t p → Path r (Star a) n from t p
  star_one (begin f e) = begin f e
  star_one (move {t = t} {q = q} {p = p} path f e) = move (star_one path) (has_left (followers n a q) (cond (has (lasts n a) q) (firsts n a) []) p f) e

  star_joined : {from c t q p : ℕ} → Path r (Star a) n from c q → has (lasts n a) q ≡ true → Path r (Star a) n c t p → Path r (Star a) n from t p
  star_joined {q = q} before l (begin {p = p} f e) =
      move before (has_right (followers n a q) (cond (has (lasts n a) q) (firsts n a) []) p (has_if (has (lasts n a) q) (firsts n a) p l f)) e
  star_joined before l (move path f e) = move (star_joined before l path) f e

-- a stretch that is read is empty, where that may be skipped, or has a path
abbrev Traced : Reading → Written → ℕ → ℕ → ℕ → Type 0
Traced r w n from t = ((from ≡ t) × (is_skipped w ≡ true)) ⊎ WholePath r w n from t

traced_pieces : (r : Reading) (a : Written) (n : ℕ) → ((from t : ℕ) → Reads r a from t → Traced r a n from t) →
    (k from t : ℕ) → InPieces k (Reads r a) from t → Traced r (Star a) n from t
traced_pieces r a n trace zero from t e = inl (e, refl)
traced_pieces r a n trace (suc k) from t ps =
    elim (trace from ps.0 ps.1) [
      | inl skip ↦ subst (λ (m : ℕ). Traced r (Star a) n m t) (sym skip.0) (traced_pieces r a n trace k ps.0 t ps.2)
      | inr whole ↦ elim (traced_pieces r a n trace k ps.0 t ps.2) [
        | inl skip ↦ inr (whole.0, subst (λ (m : ℕ). Path r (Star a) n from m whole.0) skip.0 (star_one r a n whole.1), whole.2)
        | inr more ↦ inr (more.0, star_joined r a n (star_one r a n whole.1) whole.2 more.1, more.2)
      ]
    ]

pub read_has_path : (r : Reading) (w : Written) (n from t : ℕ) → Reads r w from t → Traced r w n from t
read_has_path r (Bracket e) n from t p =
    inr (
      n,
      subst (λ (m : ℕ). Path r (Bracket e) n from m n) (sym p.0)
          (begin (or_left (n == n) false (eq-eqb n n refl)) (or_left (n == n && holds_at r e from) false (and_from (n == n) (holds_at r e from) (eq-eqb n n refl) p.1))),
      or_left (n == n) false (eq-eqb n n refl),
    )
read_has_path r Empty n from t p = inl (p, refl)
read_has_path r (Then a b) n from t p =
    elim (read_has_path r b (n + length (brackets a)) p.0 t p.2) [
      | inl skip_b ↦ elim (read_has_path r a n from p.0 p.1) [
        | inl skip_a ↦ inl (skip_a.0 ∙ skip_b.0, and_from (is_skipped a) (is_skipped b) skip_a.1 skip_b.1)
        | inr whole ↦ inr (
          whole.0,
          subst (λ (m : ℕ). Path r (Then a b) n from m whole.0) skip_b.0 (then_left r a b n whole.1),
          has_left (cond (is_skipped b) (lasts n a) []) (lasts (n + length (brackets a)) b) whole.0 (has_if (is_skipped b) (lasts n a) whole.0 skip_b.1 whole.2),
        )
      ]
      | inr whole ↦ inr (
        whole.0,
        then_right r a b n (read_has_path r a n from p.0 p.1) whole.1,
        has_right (cond (is_skipped b) (lasts n a) []) (lasts (n + length (brackets a)) b) whole.0 whole.2,
      )
    ]
read_has_path r (Either a b) n from t p =
    elim p [
      | inl x ↦ elim (read_has_path r a n from t x) [
        | inl skip ↦ inl (skip.0, or_left (is_skipped a) (is_skipped b) skip.1)
        | inr whole ↦ inr (whole.0, either_left r a b n whole.1, has_left (lasts n a) (lasts (n + length (brackets a)) b) whole.0 whole.2)
      ]
      | inr x ↦ elim (read_has_path r b (n + length (brackets a)) from t x) [
        | inl skip ↦ inl (skip.0, or_right (is_skipped a) (is_skipped b) skip.1)
        | inr whole ↦ inr (whole.0, either_right r a b n whole.1, has_right (lasts n a) (lasts (n + length (brackets a)) b) whole.0 whole.2)
      ]
    ]
read_has_path r (Star a) n from t p = traced_pieces r a n (read_has_path r a n) p.0 from t p.1
