-- One line after the other, and how the lines end.
use Rattle.std.proofs.Common.{◌≡◌, ℕ, Bool, true, false, List, [], ◌∷◌, ◌++◌, map, Option, Some, None, refl, sym, ap, subst, ◌∙◌, append_assoc, append-nil}
use Rattle.std.proofs.KnownBytes.{Consumes-nil, Consumes-trans}
use Rattle.std.specs.Io.KnownBytes.{Consumes, IsAtEnd}
use Rattle.session_lines.specs.declared.reader.Taken.{Taken}
use Rattle.session_lines.specs.declared.reader.Taken.TheVariants as taken
use Rattle.session_lines.specs.InputLines.{Line, input_lines}
use Rattle.session_lines.specs.Taking.{Takes, GivesLine, BeginsTooLong}
use Rattle.session_lines.specs.Handing.{IsNext, AreFirst}
use Rattle.session_lines.specs.Handed.{HandsOut, EndsWith, HasHanded, Hands}

pub pushed : (handed : List (List ℕ)) (line : List ℕ) → map (λ l. Some l) (handed ++ line ∷ []) ≡ map (λ l. Some l) handed ++ Some line ∷ []
pushed [] line = refl
pushed (l ∷ handed) line = ap (λ (ls : List Line). Some l ∷ ls) (pushed handed line)

pub one_more : (given before got line after : List ℕ) (handed : List (List ℕ)) → HandsOut given handed before → GivesLine taken.Line false before got line after → HandsOut (given ++ got) (handed ++ line ∷ []) after
one_more given before got line after handed so_far gives = λ at_end later.
    ap (input_lines at_end) (append_assoc given got later)
    ∙ so_far at_end (got ++ later)
    ∙ ap (λ (ls : List Line). map (λ l. Some l) handed ++ ls) (gives at_end later)
    ∙ sym (append_assoc (map (λ l. Some l) handed) (Some line ∷ []) (input_lines at_end (after ++ later)))
    ∙ ap (λ (ls : List Line). ls ++ input_lines at_end (after ++ later)) (sym (pushed handed line))

pub all_told : (what : Taken) (ended : Bool) (given before got line after : List ℕ) (handed : List (List ℕ)) → HandsOut given handed before → GivesLine what ended before got line after → EndsWith what ended (given ++ got) handed line
all_told taken.Line false given before got line after handed so_far gives = tt
all_told taken.Line true given before got line after handed so_far gives =
    so_far true got ∙ ap (λ (ls : List Line). map (λ l. Some l) handed ++ ls) gives.0 ∙ sym (pushed handed line)
all_told taken.Finish ended given before got line after handed so_far gives =
    so_far true got ∙ ap (λ (bytes : List ℕ). map (λ l. Some l) handed ++ input_lines true bytes) gives.1 ∙ append-nil (map (λ l. Some l) handed)
all_told taken.Failed ended given before got line after handed so_far gives =
    so_far false got ∙ ap (λ (ls : List Line). map (λ l. Some l) handed ++ ls) (ap (input_lines false) (sym gives.0) ∙ gives.1) ∙ append-nil (map (λ l. Some l) handed)
all_told taken.TooLong ended given before got line after handed so_far gives = λ at_end later.
    let same : before ++ (got ++ later) ≡ after ++ later = sym (append_assoc before got later) ∙ ap (λ (bytes : List ℕ). bytes ++ later) (sym gives.0) in (
      input_lines at_end (after ++ later),
      ap (input_lines at_end) (append_assoc given got later) ∙ so_far at_end (got ++ later) ∙ ap (λ (bytes : List ℕ). map (λ l. Some l) handed ++ input_lines at_end bytes) same,
      gives.1 at_end later,
    )

-- with the next line, too, the lines that were handed out are the first
pub first_with : (given : List ℕ) (left : Option (List ℕ)) (handed : List (List ℕ)) (line : List ℕ) → IsNext given left handed (Some line) → AreFirst given left (handed ++ line ∷ [])
first_with given left handed line next =
    record {
      at_end = next.at_end;
      ended = next.ended;
      rest = next.rest;
      follows =
          next.follows
          ∙ sym (ap (λ (ls : List Line). ls ++ next.rest) (pushed handed line) ∙ append_assoc (map (λ l. Some l) handed) (Some line ∷ []) next.rest);
    }

-- before the first line nothing was handed out
pub none_handed : (left : Option (List ℕ)) (ended : Bool) (pending : List ℕ) → ended ≡ false → pending ≡ [] → Hands ended left left [] pending
none_handed left ended pending not_ended fresh =
    subst (λ (b : Bool). Hands b left left [] pending) (sym not_ended)
    (record { given = []; taken_from = Consumes-nil left; so_far = λ at_end later. ap (λ (l : List ℕ). input_lines at_end (l ++ later)) (sym fresh) })

-- what was handed out stands first
first_handed : (ended : Bool) (given : List ℕ) (left : Option (List ℕ)) (handed : List (List ℕ)) (pending : List ℕ) → HasHanded ended given left handed pending → AreFirst given left handed
first_handed false given left handed pending so =
    record {
      at_end = false;
      ended = λ never. absurd (cc);
      rest = input_lines false (pending ++ []);
      follows = ap (input_lines false) (sym (append-nil given)) ∙ so false [];
    }
first_handed true given left handed pending so =
    record { at_end = true; ended = λ _. so.0; rest = []; follows = so.1 ∙ sym (append-nil (map (λ l. Some l) handed)) }

pub handed_first : (ended : Bool) (left0 left1 : Option (List ℕ)) (handed : List (List ℕ)) (pending : List ℕ) (so : Hands ended left0 left1 handed pending) → AreFirst so.given left1 handed
handed_first ended left0 left1 handed pending so = first_handed ended so.given left1 handed pending so.so_far

-- the line that was handed out last was the next one before
pub last_handed : (ended : Bool) (given : List ℕ) (left : Option (List ℕ)) (handed : List (List ℕ)) (line after : List ℕ) → HasHanded ended given left (handed ++ line ∷ []) after → IsNext given left handed (Some line)
last_handed ended given left handed line after so =
    let first = first_handed ended given left (handed ++ line ∷ []) after so in
    record {
      at_end = first.at_end;
      ended = first.ended;
      rest = first.rest;
      follows = first.follows ∙ (ap (λ (ls : List Line). ls ++ first.rest) (pushed handed line) ∙ append_assoc (map (λ l. Some l) handed) (Some line ∷ []) first.rest);
    }

-- ---- a line is asked for

-- what is told of all that was given: the line was handed out, the next one is too long, there is no other, or none is whole
abbrev pub Tells : Taken → (ended : Bool) → (given : List ℕ) → (left : Option (List ℕ)) → (handed : List (List ℕ)) → (line after : List ℕ) → Type 0
Tells taken.Line ended given left handed line after = HasHanded ended given left (handed ++ line ∷ []) after
Tells taken.TooLong ended given left handed line after = IsNext given left handed None
Tells taken.Finish ended given left handed line after = IsAtEnd left × (input_lines true given ≡ map (λ l. Some l) handed)
Tells taken.Failed ended given left handed line after = input_lines false given ≡ map (λ l. Some l) handed

pub record Asked (what : Taken) (ended : Bool) (left_old left_new : Option (List ℕ)) (handed : List (List ℕ)) (line after : List ℕ) : Type 0 where
  pub given : List ℕ
  pub taken_from : Consumes left_old left_new given
  pub tells : Tells what ended given left_new handed line after

first_none : (given : List ℕ) (left : Option (List ℕ)) (handed : List (List ℕ)) (rest : List Line) → input_lines false given ≡ map (λ l. Some l) handed ++ rest → BeginsTooLong rest → IsNext given left handed None
first_none given left handed [] e begins = absurd begins
first_none given left handed (l ∷ rest) e begins =
    record {
      at_end = false;
      ended = λ never. absurd (cc);
      rest = rest;
      follows = e ∙ ap (λ (l : Line). map (λ l. Some l) handed ++ l ∷ rest) begins;
    }

told : (what : Taken) (ended : Bool) (given before got line after : List ℕ) (left : Option (List ℕ)) (handed : List (List ℕ)) → HandsOut given handed before → GivesLine what ended before got line after → (ended ≡ true → IsAtEnd left) →
    Tells what ended (given ++ got) left handed line after
told taken.Line false given before got line after left handed so_far gives at_end = one_more given before got line after handed so_far gives
told taken.Line true given before got line after left handed so_far gives at_end = (at_end refl, all_told taken.Line true given before got line after handed so_far gives)
told taken.TooLong ended given before got line after left handed so_far gives at_end =
    let all = all_told taken.TooLong ended given before got line after handed so_far gives false [] in
    first_none (given ++ got) left handed all.0 (ap (input_lines false) (sym (append-nil (given ++ got))) ∙ all.1) all.2
told taken.Finish ended given before got line after left handed so_far gives at_end = (at_end gives.0, all_told taken.Finish ended given before got line after handed so_far gives)
told taken.Failed ended given before got line after left handed so_far gives at_end = all_told taken.Failed ended given before got line after handed so_far gives

pub asked : {r s : ℕ} (was ended : Bool) (left0 left1 left2 : Option (List ℕ)) (handed : List (List ℕ)) (before line after : List ℕ) (what : Taken) → Hands was left0 left1 handed before →
    (was ≡ false → Takes left1 left2 r s ended before line after what) → (was ≡ true → (what ≡ taken.Finish) × (left2 ≡ left1)) → Asked what ended left0 left2 handed line after
asked false ended left0 left1 left2 handed before line after what so takes over =
    let t = takes refl in
    record {
      given = so.given ++ t.got;
      taken_from = Consumes-trans left0 left1 left2 so.given t.got so.taken_from t.taken_from;
      tells = told what ended so.given before t.got line after left2 handed so.so_far t.gives t.at_end;
    }
asked true ended left0 left1 left2 handed before line after what so takes over =
    let o = over refl in
    record {
      given = so.given;
      taken_from = subst (λ (left : Option (List ℕ)). Consumes left0 left so.given) (sym o.1) so.taken_from;
      tells =
          subst (λ (w : Taken). Tells w ended so.given left2 handed line after) (sym o.0)
          (subst (λ (left : Option (List ℕ)). IsAtEnd left × (input_lines true so.given ≡ map (λ l. Some l) handed)) (sym o.1) so.so_far);
    }

module _ (what : Taken) (ended : Bool) (left0 left1 : Option (List ℕ)) (handed : List (List ℕ)) (line after : List ℕ) (asks : Asked what ended left0 left1 handed line after) where
  tells_as : (is : Taken) → what ≡ is → Tells is ended asks.given left1 handed line after
  tells_as is same = subst (λ (w : Taken). Tells w ended asks.given left1 handed line after) same asks.tells

  pub tells_line : what ≡ taken.Line → HasHanded ended asks.given left1 (handed ++ line ∷ []) after
  tells_line is = tells_as taken.Line is

  pub tells_long : what ≡ taken.TooLong → IsNext asks.given left1 handed None
  tells_long is = tells_as taken.TooLong is

  pub tells_end : what ≡ taken.Finish → IsAtEnd left1 × (input_lines true asks.given ≡ map (λ l. Some l) handed)
  tells_end is = tells_as taken.Finish is

  pub tells_fault : what ≡ taken.Failed → input_lines false asks.given ≡ map (λ l. Some l) handed
  tells_fault is = tells_as taken.Failed is
