-- Productions whose values keep the places of tokens, in their order.
use Rattle.std.proofs.Common.{◌≡◌, inl, inr, All, List, [], ◌∷◌, ◌++◌, map, sym, ap, subst, ◌∙◌, append_assoc, append-nil}
use Rattle.std.proofs.lemmas.List.{map-append}
use Rattle.std.proofs.lemmas.List.Elements.{All-cons, All-head, All-tail}
use Rattle.spectra_trees.specs.declared.tree.Place.{Place}
use Rattle.spectra_trees.specs.Lexemes.{Lexeme}
use Rattle.spectra_exprs.specs.Forms.{Grammar, Gives, Token, ◌▸◌, ◌∣◌, Steps, done, one_more}
use Rattle.spectra_trees.specs.declared.class.Class.{Class}
use Rattle.spectra_parser.specs.Quantifiers.{AreRising, IsBefore}

-- ---- parts of a list in its order

pub data IsPartOf : (parts whole : List Place) → Type 0 where
  nothing : IsPartOf [] []
  left_out : (p : Place) (ps qs : List Place) → IsPartOf ps qs → IsPartOf ps (p ∷ qs)
  taken : (p : Place) (ps qs : List Place) → IsPartOf ps qs → IsPartOf (p ∷ ps) (p ∷ qs)

pub none_of : (qs : List Place) → IsPartOf [] qs
none_of [] = nothing
none_of (q ∷ qs) = left_out q [] qs (none_of qs)

pub itself : (qs : List Place) → IsPartOf qs qs
itself [] = nothing
itself (q ∷ qs) = taken q qs qs (itself qs)

pub of_same : (ps qs : List Place) → ps ≡ qs → IsPartOf ps qs
of_same ps qs same = subst (IsPartOf ps) same (itself ps)

pub joined : (ps qs rs ss : List Place) → IsPartOf ps qs → IsPartOf rs ss → IsPartOf (ps ++ rs) (qs ++ ss)
joined _ _ rs ss nothing second = second
joined _ _ rs ss (left_out p ps qs first) second = left_out p (ps ++ rs) (qs ++ ss) (joined ps qs rs ss first second)
joined _ _ rs ss (taken p ps qs first) second = taken p (ps ++ rs) (qs ++ ss) (joined ps qs rs ss first second)

-- parts of rising places rise
all_parts : (P : Place → Type 0) (ps qs : List Place) → IsPartOf ps qs → All P qs → All P ps
all_parts P _ _ nothing all = all
all_parts P _ _ (left_out p ps qs rest) all = all_parts P ps qs rest (All-tail P p qs all)
all_parts P _ _ (taken p ps qs rest) all = All-cons P p ps (All-head P p qs all) (all_parts P ps qs rest (All-tail P p qs all))

pub parts_rise : (ps qs : List Place) → IsPartOf ps qs → AreRising qs → AreRising ps
parts_rise _ _ nothing rising = rising
parts_rise _ _ (left_out p ps qs rest) rising = parts_rise ps qs rest rising.1
parts_rise _ _ (taken p ps qs rest) rising = (all_parts (IsBefore p) ps qs rest rising.0, parts_rise ps qs rest rising.1)

pub through : (ps qs rs : List Place) → IsPartOf ps qs → IsPartOf qs rs → IsPartOf ps rs
through ps qs _ first nothing = first
through ps qs _ first (left_out r _ rs second) = left_out r ps rs (through ps qs rs first second)
through ps _ _ (left_out q _ qs first) (taken _ _ rs second) = left_out q ps rs (through ps qs rs first second)
through _ _ _ (taken q ps qs first) (taken _ _ rs second) = taken q ps rs (through ps qs rs first second)

-- ---- productions

abbrev pub places : List Lexeme → List Place
places ts = map (λ (t : Lexeme). t.at) ts

-- The places of what a production gives are among some before it, and those of its tokens.
abbrev pub Keeps : {A : Type 0} → (before : List Place) → Grammar A → (A → List Place) → Type 0
Keeps before P of = (used : List Lexeme) (a : _) → P used a → IsPartOf (of a) (before ++ places used)

module _ {A : Type 0} (before : List Place) (of : A → List Place) where
  pub keeps_gives : (a : A) → IsPartOf (of a) before → Keeps before (Gives a) of
  keeps_gives a is used b gives =
      subst (λ (c : A). IsPartOf (of c) (before ++ places used)) (sym gives.same)
      (subst (λ ts. IsPartOf (of a) (before ++ places ts)) (sym gives.nothing) (subst (IsPartOf (of a)) (sym (append-nil before)) is))

  pub keeps_either : (P Q : Grammar A) → Keeps before P of → Keeps before Q of → Keeps before (P ∣ Q) of
  keeps_either P Q first second used a (inl p) = first used a p
  keeps_either P Q first second used a (inr q) = second used a q

  -- of more than was there
  pub keeps_from : (P : Grammar A) (more : List Place) → IsPartOf more before → Keeps more P of → Keeps before P of
  keeps_from P more is keeps used a p = through (of a) (more ++ places used) (before ++ places used) (keeps used a p) (joined more before (places used) (places used) is (itself (places used)))

  -- behind what was there
  pub keeps_behind_these : (P : Grammar A) → Keeps [] P of → Keeps before P (λ a. before ++ of a)
  keeps_behind_these P keeps used a p = joined before before (of a) (places used) (itself before) (keeps used a p)

module _ {A B : Type 0} (before : List Place) (of : B → List Place) where
  -- one part, which keeps places, and then another
  pub keeps_then : (these : A → List Place) (P : Grammar A) (Q : A → Grammar B) → Keeps before P these → ((a : A) → Keeps (these a) (Q a) of) → Keeps before (P ▸ Q) of
  keeps_then these P Q first second used b both =
      let front = places both.front in
      let back = places both.back in
      let all : before ++ places used ≡ (before ++ front) ++ back =
      ap (λ ts. before ++ places ts) both.parts ∙ (ap (λ ps. before ++ ps) (map-append (λ (t : Lexeme). t.at) both.front both.back) ∙ sym (append_assoc before front back)) in
      subst (IsPartOf (of b)) (sym all)
      (through (of b) (these both.value ++ back) ((before ++ front) ++ back) (second both.value both.back b both.after)
      (joined (these both.value) (before ++ front) back back (first both.front both.value both.before) (itself back)))

  -- a part of which nothing is kept
  pub keeps_behind : (P : Grammar A) (Q : A → Grammar B) → ((a : A) → Keeps before (Q a) of) → Keeps before (P ▸ Q) of
  keeps_behind P Q second = keeps_then (λ a. before) P Q (λ used a p. subst (λ ps. IsPartOf ps (before ++ places used)) (append-nil before) (joined before before [] (places used) (itself before) (none_of (places used)))) second

  -- a part whose places stand behind what was there
  pub keeps_next : (these : A → List Place) (P : Grammar A) (Q : A → Grammar B) → Keeps [] P these → ((a : A) → Keeps (before ++ these a) (Q a) of) → Keeps before (P ▸ Q) of
  keeps_next these P Q first second = keeps_then (λ a. before ++ these a) P Q (keeps_behind_these before these P first) second

-- a token's place
pub keeps_token : (class : Class) → Keeps [] (Token class) (λ t. t.at ∷ [])
keeps_token class used t token = subst (λ ts. IsPartOf (t.at ∷ []) (places ts)) (sym token.alone) (itself (t.at ∷ []))

pub keeps_steps : {A : Type 0} (of : A → List Place) (step : A → Grammar A) → ((a : A) → Keeps (of a) (step a) of) → (a : A) → Keeps (of a) (Steps step a) of
keeps_steps of step one a used _ (done _) = subst (IsPartOf (of a)) (sym (append-nil (of a))) (itself (of a))
keeps_steps of step one a used c (one_more _ front b back _ first rest) =
    let f = places front in
    let r = places back in
    subst (IsPartOf (of c)) (append_assoc (of a) f r ∙ ap (λ ps. of a ++ ps) (sym (map-append (λ (t : Lexeme). t.at) front back)))
    (through (of c) (of b ++ r) ((of a ++ f) ++ r) (keeps_steps of step one b back c rest) (joined (of b) (of a ++ f) r r (one a front b first) (itself r)))
