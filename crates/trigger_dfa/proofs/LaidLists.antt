-- A side with the expressions of a list, from the last one on.
use Rattle.std.proofs.Common.{◌≡◌, ℕ, suc, ◌+◌, ◌-◌, ◌*◌, ◌<◌, ◌≤◌, true, List, [], ◌∷◌, ◌++◌, length, map, drop, take, get_or, refl, sym, ◌∙◌, ap, subst, arith, take-append-drop, length-drop, mul-le-mul_right}
use Rattle.std.proofs.Math.Seq.{drop-cons}
use Rattle.std.proofs.lemmas.List.{map-append}
use Rattle.spec_model.specs.declared.expr.Regex.{Regex}
use Rattle.spec_model.specs.Syntax.{Formula, Regular, regulars}
use Rattle.spec_model.specs.Views.{regular}
use Rattle.spec_model.specs.TriggerStates.{Written, Empty, Then, Either, copies, written, written_in_turn, written_besides, brackets}
use Rattle.trigger_dfa.specs.declared.side.Side.{Side}
use Rattle.trigger_dfa.specs.declared.side.Part.{Part}
use Rattle.trigger_dfa.specs.Sides.{IsPart, Lays, Links, size_in, size_in_each, size_of, size_of_all}
use Rattle.trigger_dfa.proofs.PositionCounts.{size-written, size-in_turn, size-besides, size-append}
use Rattle.trigger_dfa.proofs.LaidParts.{laid_then, laid_either, laid_optional, nothing_more}

-- the written list from a place on
abbrev pub turn_from : List Regex → ℕ → Written
turn_from rs j = written_in_turn (regulars (map regular (drop j rs)))

abbrev pub besides_from : List Regex → ℕ → Written
besides_from rs j = written_besides (regulars (map regular (drop j rs)))

sizes_append : (xs ys : List Regular) → size_of_all (regulars (xs ++ ys)) ≡ size_of_all (regulars xs) + size_of_all (regulars ys)
sizes_append [] ys = let e : size_of_all (regulars ys) ≡ 0 + size_of_all (regulars ys) = omega arith in e
sizes_append (x ∷ xs) ys = let more = sizes_append xs ys in omega arith

module _ (rs : List Regex) (k : ℕ) (r : Regex) (below : k < length rs) (here : r ≡ get_or rs (length rs - 1 - k) r) where
  place : ℕ
  place = length rs - 1 - k

  from_here : drop (length rs - (k + 1)) rs ≡ r ∷ drop (length rs - k) rs
  from_here =
      let j : length rs - (k + 1) ≡ length rs - 1 - k = omega arith in
      let inside : length rs - 1 - k < length rs = omega arith in
      let next : suc (length rs - 1 - k) ≡ length rs - k = omega arith in
      ap (λ (i : ℕ). drop i rs) j ∙ drop-cons rs (length rs - 1 - k) r inside
      ∙ ap (λ (x : Regex). x ∷ drop (suc (length rs - 1 - k)) rs) (sym here)
      ∙ ap (λ (i : ℕ). r ∷ drop i rs) next

  whole : map regular rs ≡ map regular (take (length rs - (k + 1)) rs) ++ (regular r ∷ map regular (drop (length rs - k) rs))
  whole =
      ap (map regular) (sym (take-append-drop (length rs - (k + 1)) rs) ∙ ap (λ (xs : List Regex). take (length rs - (k + 1)) rs ++ xs) from_here)
      ∙ map-append regular (take (length rs - (k + 1)) rs) (r ∷ drop (length rs - k) rs)

  pub smaller : size_of (regular r) ≤ size_of_all (regulars (map regular rs))
  smaller =
      let e = ap (λ (xs : List Regular). size_of_all (regulars xs)) whole ∙ sizes_append (map regular (take (length rs - (k + 1)) rs)) (regular r ∷ map regular (drop (length rs - k) rs)) in
      omega arith

  parts : size_in (regular r) + size_in_each (regulars (map regular (drop (length rs - k) rs))) ≤ size_in_each (regulars (map regular rs))
  parts =
      let e = ap (λ (xs : List Regular). size_in_each (regulars xs)) whole ∙ size-append (map regular (take (length rs - (k + 1)) rs)) (regular r ∷ map regular (drop (length rs - k) rs)) in
      omega arith

  pub turn_room : length (brackets (written (regular r))) + length (brackets (turn_from rs (length rs - k))) ≤ length (brackets (written_in_turn (regulars (map regular rs))))
  turn_room =
      let p = parts in let a = size-written (regular r) in let b = size-in_turn (regulars (map regular (drop (length rs - k) rs))) in let c = size-in_turn (regulars (map regular rs)) in omega arith

  pub besides_room : length (brackets (written (regular r))) + length (brackets (besides_from rs (length rs - k))) ≤ length (brackets (written_besides (regulars (map regular rs))))
  besides_room =
      let p = parts in let a = size-written (regular r) in let b = size-besides (regulars (map regular (drop (length rs - k) rs))) in let c = size-besides (regulars (map regular rs)) in omega arith

  turn_here : turn_from rs (length rs - (k + 1)) ≡ Then (written (regular r)) (turn_from rs (length rs - k))
  turn_here = ap (λ (xs : List Regex). written_in_turn (regulars (map regular xs))) from_here

  besides_here : 1 ≤ k → besides_from rs (length rs - (k + 1)) ≡ Either (written (regular r)) (besides_from rs (length rs - k))
  besides_here some =
      ap (λ (xs : List Regex). written_besides (regulars (map regular xs))) from_here
      ∙ at (drop (length rs - k) rs) (let l = length-drop (length rs - k) rs in omega arith)
    where
      at : (xs : List Regex) → 0 < length xs → written_besides (regulars (map regular (r ∷ xs))) ≡ Either (written (regular r)) (written_besides (regulars (map regular xs)))
      at [] l = absurd (omega arith)
      at (x ∷ xs) l = refl

  module _ (atoms : List Formula) (end : ℕ) (s0 s1 s2 : Side) (rest first p : Part) (lays : Lays atoms (written (regular r)) (end - rest.size) s1 s2 first) where
    pub turn_step : length (brackets (written_in_turn (regulars (map regular rs)))) ≤ end → Lays atoms (turn_from rs (length rs - k)) end s0 s1 rest → (s3 : Side) → Links first.lasts rest.firsts s2 s3 →
        ((v w : Written) (n : ℕ) → IsPart v n first → IsPart w (n + length (brackets v)) rest → IsPart (Then v w) n p) →
        Lays atoms (turn_from rs (length rs - (k + 1))) end s0 s3 p
    turn_step room before s3 links joins =
        subst (λ (w : Written). Lays atoms w end s0 s3 p) (sym turn_here)
        (laid_then atoms (written (regular r)) (turn_from rs (length rs - k)) end (let t = turn_room in omega arith) s0 s1 s2 first rest before lays s3 p links joins)

    pub besides_step : 1 ≤ k → length (brackets (written_besides (regulars (map regular rs)))) ≤ end → Lays atoms (besides_from rs (length rs - k)) end s0 s1 rest →
        ((v w : Written) (n : ℕ) → IsPart v n first → IsPart w (n + length (brackets v)) rest → IsPart (Either v w) n p) →
        Lays atoms (besides_from rs (length rs - (k + 1))) end s0 s2 p
    besides_step some room before joins =
        subst (λ (w : Written). Lays atoms w end s0 s2 p) (sym (besides_here some))
        (laid_either atoms (written (regular r)) (besides_from rs (length rs - k)) end (let t = besides_room in omega arith) s0 s1 s2 first rest before lays p joins)

-- ---- copies

pub fewer_copies : (k count a : ℕ) → k < count → (k + 1) * a ≤ count * a
fewer_copies k count a below = let more : k + 1 ≤ count = omega arith in mul-le-mul_right a more

pub copies_step : (atoms : List Formula) (a w : Written) (k end : ℕ) (start s1 s2 s3 : Side) (rest piece p : Part) → length (brackets a) + rest.size ≤ end →
    Lays atoms (copies k a w) end start s1 rest → Lays atoms a (end - rest.size) s1 s2 piece → Links piece.lasts rest.firsts s2 s3 →
    ((v w : Written) (n : ℕ) → IsPart v n piece → IsPart w (n + length (brackets v)) rest → IsPart (Then v w) n p) →
    Lays atoms (copies (k + 1) a w) end start s3 p
copies_step atoms a w k end start s1 s2 s3 rest piece p room before lays links joins =
    subst (λ (n : ℕ). Lays atoms (copies n a w) end start s3 p) (let e : suc k ≡ k + 1 = omega arith in e)
    (laid_then atoms a (copies k a w) end (omega (arith, room, before.part.size)) start s1 s2 piece rest before lays s3 p links joins)

pub optional_step : (atoms : List Formula) (a : Written) (k end : ℕ) (s0 s1 s2 s3 : Side) (rest laid piece p : Part) → length (brackets a) + rest.size ≤ end →
    Lays atoms (copies k (Either a Empty) Empty) end s0 s1 rest → Lays atoms a (end - rest.size) s1 s2 laid → piece ≡ record laid { skipped = true } → Links piece.lasts rest.firsts s2 s3 →
    ((v w : Written) (n : ℕ) → IsPart v n piece → IsPart w (n + length (brackets v)) rest → IsPart (Then v w) n p) →
    Lays atoms (copies (k + 1) (Either a Empty) Empty) end s0 s3 p
optional_step atoms a k end s0 s1 s2 s3 rest laid piece p room before lays is links joins =
    copies_step atoms (Either a Empty) Empty k end s0 s1 s2 s3 rest piece p (omega (arith, room, nothing_more (brackets a))) before
    (subst (λ (q : Part). Lays atoms (Either a Empty) (end - rest.size) s1 s2 q) (sym is) (laid_optional atoms a (end - rest.size) s1 s2 laid lays)) links joins
