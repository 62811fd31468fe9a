-- What is taken of an input, piece by piece.
use Rattle.std.proofs.Common.{◌≡◌, ℕ, ◌+◌, ◌≤◌, ◌<◌, List, ◌++◌, length, take, drop, Option, None, Some, sym, ap, subst, ◌∙◌, arith, append_assoc, take-append-drop, length-take}
use Rattle.std.proofs.lemmas.List.{take-append-le, take-take, drop-append-le, take_at, take_all}
use Rattle.std.proofs.Math.Seq.{take-append-add}
use Rattle.std.specs.Io.KnownBytes.{Consumes}
use borrow.Rule.Slice.PartMut.{put_mid, post_of}

-- one piece behind another
pub consumes_both : (a b c : Option (List ℕ)) (xs ys : List ℕ) → Consumes a b xs → Consumes b c ys → Consumes a c (xs ++ ys)
consumes_both None b c xs ys first second = tt
consumes_both (Some was) None c xs ys first second = absurd first
consumes_both (Some was) (Some bs) None xs ys first second = absurd second
consumes_both (Some was) (Some bs) (Some cs) xs ys first second =
    first ∙ ap (λ (l : List ℕ). xs ++ l) second ∙ sym (append_assoc xs ys cs)

module _ (buf part : List ℕ) (start at n k : ℕ) (begun : start ≤ at) (within : at ≤ length buf) (fits : n ≤ length part) where
  long : length (take at buf) ≡ at
  long = omega (arith, length-take at buf)

  -- what stood first stays
  pub front_stays : take start (put_mid at k buf part) ≡ take start buf
  front_stays =
      take-append-le start (take at buf) (part ++ post_of at k buf) (omega (arith, long)) ∙ take-take start at buf begun

  -- what was taken before, and then the piece
  pub piece_behind : drop start (take (at + n) (put_mid at k buf part)) ≡ drop start (take at buf) ++ take n part
  piece_behind =
      ap (λ (m : ℕ). drop start (take (m + n) (put_mid at k buf part))) (sym long)
      ∙ ap (drop start) (take-append-add (take at buf) (part ++ post_of at k buf) n)
      ∙ ap (λ (l : List ℕ). drop start (take at buf ++ l)) (take-append-le n part (post_of at k buf) fits)
      ∙ drop-append-le start (take at buf) (take n part) (omega (arith, long))

  pub taken_more : (a b c : Option (List ℕ)) → Consumes a b (drop start (take at buf)) → Consumes b c (take n part) → Consumes a c (drop start (take (at + n) (put_mid at k buf part)))
  taken_more a b c first second =
      subst (Consumes a c) (sym piece_behind) (consumes_both a b c (drop start (take at buf)) (take n part) first second)

-- a buffer whose front was taken before, and that is filled to its end
pub filled : (a b c : Option (List ℕ)) (before buf rest : List ℕ) (start end count : ℕ) → start ≡ length before → end ≤ length buf → count ≡ length buf → (end < count → ⊥) → take start buf ≡ before
    → Consumes a b before → Consumes b c (drop start (take end buf)) → Consumes a c (take count (buf ++ rest))
filled a b c before buf rest start end count begun within long full front first second =
    let whole : end ≡ length buf = omega (arith, within, long, full) in
    let all : take end buf ≡ buf = take_all end buf (omega (arith, whole)) in
    let cut : take count (buf ++ rest) ≡ buf = take_at buf rest count (sym long) in
    let parts : before ++ drop start (take end buf) ≡ buf =
    ap (λ (l : List ℕ). before ++ drop start l) all ∙ ap (λ (l : List ℕ). l ++ drop start buf) (sym front) ∙ take-append-drop start buf in
    subst (Consumes a c) (parts ∙ sym cut) (consumes_both a b c before (drop start (take end buf)) first second)

-- likewise where it is filled up to a place, and cut there
pub filled_part : (a b c : Option (List ℕ)) (before buf rest : List ℕ) (start end count : ℕ) → start ≤ end → end ≤ length buf → count ≡ length buf → take start buf ≡ before
    → Consumes a b before → Consumes b c (drop start (take end buf)) → Consumes a c (take end (take count (buf ++ rest)))
filled_part a b c before buf rest start end count begun within long front first second =
    let cut : take count (buf ++ rest) ≡ buf = take_at buf rest count (sym long) in
    let parts : before ++ drop start (take end buf) ≡ take end buf =
    ap (λ (l : List ℕ). l ++ drop start (take end buf)) (sym (take-take start end buf begun ∙ front)) ∙ take-append-drop start (take end buf) in
    subst (Consumes a c) (parts ∙ sym (ap (take end) cut)) (consumes_both a b c before (drop start (take end buf)) first second)
