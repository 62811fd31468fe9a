-- Parts of a buffer.
use Rattle.std.proofs.Common.{◌≡◌, ℕ, ◌+◌, ◌-◌, ◌≤◌, List, [], ◌++◌, length, take, drop, sym, ap, ◌∙◌, arith, subst, length-take, length-drop, append_assoc}
use Rattle.std.proofs.lemmas.List.{drop-take, drop-drop, take_at, drop_at, take-append-le, take-take}
use Rattle.std.proofs.Math.Seq.{take-add}
use Rattle.std.proofs.Common.{Option, None, Some}
use Rattle.std.specs.Io.KnownBytes.{Keeps, Consumes}

-- what is left of a part behind its first n
pub rest_of : (buf : List ℕ) (start end n : ℕ) → start + n ≤ end → take (end - (start + n)) (drop (start + n) buf) ≡ drop n (take (end - start) (drop start buf))
rest_of buf start end n within =
    let cut : n + (end - (start + n)) ≡ end - start = omega arith in
    ap (take (end - (start + n))) (sym (drop-drop n start buf))
    ∙ sym (drop-take n (end - (start + n)) (drop start buf))
    ∙ ap (λ (m : ℕ). drop n (take m (drop start buf))) cut

-- the front of a part
pub front_of : (buf : List ℕ) (start n m : ℕ) → n ≤ m → take n (drop start buf) ≡ take n (take m (drop start buf))
front_of buf start n m within = sym (take-take n m (drop start buf) within)

-- a part that is moved to the front, with anything behind it
pub moved : (buf new more : List ℕ) (start end : ℕ) → start ≤ end → end ≤ length buf → new ≡ drop start (take end buf) ++ take start (take end buf) → take (end - start) (new ++ more) ≡ take (end - start) (drop start buf)
moved buf new more start end ordered within turned =
    let cut : start + (end - start) ≡ end = omega arith in
    let part : drop start (take end buf) ≡ take (end - start) (drop start buf) = ap (λ (m : ℕ). drop start (take m buf)) (sym cut) ∙ drop-take start (end - start) buf in
    let long : length (drop start (take end buf)) ≡ end - start = omega (arith, length-drop start (take end buf), length-take end buf) in
    ap (λ (l : List ℕ). take (end - start) (l ++ more)) turned
    ∙ ap (take (end - start)) (append_assoc (drop start (take end buf)) (take start (take end buf)) more)
    ∙ take_at (drop start (take end buf)) (take start (take end buf) ++ more) (end - start) long
    ∙ part

-- the same front, and n bytes more behind it
pub grown : (old new : List ℕ) (start end n : ℕ) → start ≡ 0 → take end new ≡ take end old → take ((end + n) - start) (drop start new) ≡ take (end - start) (drop start old) ++ take n (drop end new)
grown old new start end n front kept =
    let P : ℕ → Type 0 = λ s. take ((end + n) - s) (drop s new) ≡ take (end - s) (drop s old) ++ take n (drop end new) in
    subst P (sym front) at_front
  where
    all : (end + n) - 0 ≡ end + n
    all = omega arith

    none : end - 0 ≡ end
    none = omega arith

    at_front : take ((end + n) - 0) new ≡ take (end - 0) old ++ take n (drop end new)
    at_front =
        ap (λ (m : ℕ). take m new) all
        ∙ take-add end n new
        ∙ ap (λ (l : List ℕ). l ++ take n (drop end new)) (kept ∙ ap (λ (m : ℕ). take m old) (sym none))

-- the same front
pub same : (old new : List ℕ) (start end : ℕ) → start ≡ 0 → take end new ≡ take end old → take (end - start) (drop start new) ≡ take (end - start) (drop start old)
same old new start end front kept =
    let P : ℕ → Type 0 = λ s. take (end - s) (drop s new) ≡ take (end - s) (drop s old) in
    let none : end - 0 ≡ end = omega arith in
    subst P (sym front) (ap (λ (m : ℕ). take m new) none ∙ kept ∙ ap (λ (m : ℕ). take m old) (sym none))

-- what stands behind the front of a buffer that a piece was put into
pub put_front : (buf part post : List ℕ) (end : ℕ) → end ≤ length buf → take end (take end buf ++ (part ++ post)) ≡ take end buf
put_front buf part post end within = take_at (take end buf) (part ++ post) end (omega (arith, length-take end buf))

pub put_part : (buf part post : List ℕ) (end n : ℕ) → end ≤ length buf → n ≤ length part → take n (drop end (take end buf ++ (part ++ post))) ≡ take n part
put_part buf part post end n within fits =
    ap (take n) (drop_at (take end buf) (part ++ post) end (omega (arith, length-take end buf))) ∙ take-append-le n part post fits

pub kept : (old new : Option (List ℕ)) → Keeps old new → Consumes old new []
kept None new h = tt
kept (Some xs) None h = absurd h
kept (Some xs) (Some ys) h = sym h
