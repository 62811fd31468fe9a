-- What is a regular expression of the grammar is read.
use Rattle.std.proofs.Common.{◌≡◌, ℕ, zero, suc, ◌<◌, Bool, true, false, ◌||◌, nat_eq, List, [], ◌∷◌, ◌++◌, refl, sym, ap, arith}
use Rattle.spectra_trees.specs.declared.class.Class.{Class}
use Rattle.spectra_trees.specs.declared.class.Class.TheVariants as classes
use Rattle.spectra_trees.specs.Classes.{place_of, same_class}
use Rattle.spectra_trees.specs.Data.{Expression, RegexData, regexes, RepeatData}
use Rattle.spectra_trees.specs.Lexemes.{Lexeme}
use Rattle.spectra_exprs.specs.Read.{starts}
use Rattle.spectra_exprs.specs.Expressions.{inside}
use Rattle.spectra_regexes.specs.Regexes.{between_of, exactly_of, counted, repeat, starts_repeat, repeated, InsideRegex, atom_of, group_of, ratom_of, post_of, starts_ratom, follower_of, followed_of, cat_of, branch_of, branched_of, regex_of, inside_regex}
use Rattle.spectra_exprs.specs.Forms.{Gives, Token, ◌▸◌, ◌∣◌, Steps}
use Rattle.spectra_exprs.specs.Grammar.{ExprOf, Levels}
use Rattle.spectra_regexes.specs.RegexGrammar.{DeeperRegex, Repeat, Ratom, Repeated, Post, Follower, Cat, Branch, RegexOf, RegexLevels}
use Rattle.spectra_regexes.proofs.SoundRegexes.{repeat_same}
use Rattle.spectra_exprs.proofs.ClassSets.{going, starts_going}
use Rattle.spectra_exprs.proofs.Completeness.{Whole, Begins, whole_gives, whole_then, follows_none, whole_same, begins_token, begins_then, begins_or, follows_begins, follows_gives, follows_or, whole_if, whole_choice, follows_steps, whole_steps, follows_then, begins_of, whole_after, whole_until, whole_map, whole_nothing, whole_deep}
use Rattle.spectra_exprs.proofs.WholeExpressions.{c_expr}
use Rattle.spectra_exprs.proofs.WholeLevels.{whole_inside, whole_whole}

abbrev pub b_repeat : List Class
b_repeat = classes.Star ∷ classes.Plus ∷ classes.Question ∷ classes.OpenBrace ∷ []

abbrev pub b_ratom : List Class
b_ratom = classes.OpenBracket ∷ classes.Open ∷ []

abbrev pub c_cat : List Class
c_cat = classes.OpenBracket ∷ classes.Open ∷ b_repeat

abbrev pub c_regex : List Class
c_regex = classes.Bar ∷ c_cat

last : (a : Bool) → a || false ≡ a
last true = refl
last false = refl

two : (C D : Class) (ts : List Lexeme) → starts C ts || starts D ts ≡ going (C ∷ D ∷ []) ts
unfolding starts same_class
two C D [] = refl
two C D (t ∷ ts) = ap (λ (b : Bool). nat_eq (place_of t.class) (place_of C) || b) (sym (last (nat_eq (place_of t.class) (place_of D))))

grouped_or : (a b c d : Bool) → ((a || b) || c) || d ≡ a || (b || (c || (d || false)))
grouped_or true b c d = refl
grouped_or false true c d = refl
grouped_or false false true d = refl
grouped_or false false false d = sym (last d)

repeat_going : (ts : List Lexeme) → starts_repeat ts ≡ going b_repeat ts
unfolding starts_repeat starts same_class
repeat_going [] = refl
repeat_going (t ∷ ts) = grouped_or (nat_eq (place_of t.class) (place_of classes.Star)) (nat_eq (place_of t.class) (place_of classes.Plus)) (nat_eq (place_of t.class) (place_of classes.Question)) (nat_eq (place_of t.class) (place_of classes.OpenBrace))

ratom_going : (ts : List Lexeme) → starts_ratom ts ≡ going b_ratom ts
unfolding starts_ratom
ratom_going ts = two classes.OpenBracket classes.Open ts

whole_between : {E : Type 0} → (low : List ℕ) → Whole E [] (Token classes.Comma ▸ λ c. Token classes.Number ▸ λ m. Token classes.CloseBrace ▸ λ u. Gives (RepeatData.Between low m.text)) (between_of low)
unfolding between_of
whole_between low = whole_after classes.Comma (λ (c : Lexeme). whole_after classes.Number (λ (m : Lexeme). whole_after classes.CloseBrace (λ (u : Lexeme). whole_gives [] (RepeatData.Between low m.text))))

whole_exactly : {E : Type 0} → (low : List ℕ) → Whole E [] (Token classes.CloseBrace ▸ λ u. Gives (RepeatData.Exactly low)) (exactly_of low)
unfolding exactly_of
whole_exactly low = whole_after classes.CloseBrace (λ (u : Lexeme). whole_gives [] (RepeatData.Exactly low))

whole_counted : {E : Type 0} → Whole E [] (Token classes.OpenBrace ▸ λ t. Token classes.Number ▸ λ m.
    (Token classes.Comma ▸ λ c. Token classes.Number ▸ λ k. Token classes.CloseBrace ▸ λ u. Gives (RepeatData.Between m.text k.text))
    ∣ (Token classes.CloseBrace ▸ λ u. Gives (RepeatData.Exactly m.text))) counted
unfolding counted place_of
whole_counted =
    whole_after classes.OpenBrace (λ (t : Lexeme). whole_after classes.Number (λ (m : Lexeme).
    whole_choice classes.Comma (begins_then (begins_token classes.Comma)) (follows_begins (classes.CloseBrace ∷ []) (record { checked = refl }) (begins_then (begins_token classes.CloseBrace))) (whole_between m.text) (whole_exactly m.text)))

begins_repeat : Begins b_repeat Repeat
unfolding place_of
begins_repeat = begins_or (begins_of classes.Star _ (record { checked = refl })) (begins_or (begins_of classes.Plus _ (record { checked = refl })) (begins_or (begins_of classes.Question _ (record { checked = refl })) (begins_of classes.OpenBrace _ (record { checked = refl }))))

whole_repeat : {E : Type 0} → Whole E [] Repeat repeat
unfolding place_of
whole_repeat =
    whole_same repeat_same
    (whole_choice classes.Star (begins_then (begins_token classes.Star))
    (follows_begins (classes.Plus ∷ classes.Question ∷ classes.OpenBrace ∷ []) (record { checked = refl }) (begins_or (begins_of classes.Plus _ (record { checked = refl })) (begins_or (begins_of classes.Question _ (record { checked = refl })) (begins_of classes.OpenBrace _ (record { checked = refl })))))
    (whole_after classes.Star (λ (t : Lexeme). whole_gives [] RepeatData.Star))
    (whole_choice classes.Plus (begins_then (begins_token classes.Plus)) (follows_begins (classes.Question ∷ classes.OpenBrace ∷ []) (record { checked = refl }) (begins_or (begins_of classes.Question _ (record { checked = refl })) (begins_of classes.OpenBrace _ (record { checked = refl }))))
    (whole_after classes.Plus (λ (t : Lexeme). whole_gives [] RepeatData.Plus))
    (whole_choice classes.Question (begins_then (begins_token classes.Question)) (follows_begins (classes.OpenBrace ∷ []) (record { checked = refl }) (begins_then (begins_token classes.OpenBrace)))
    (whole_after classes.Question (λ (t : Lexeme). whole_gives [] RepeatData.Optional)) whole_counted)))

whole_repeated : {E : Type 0} → (x : RegexData) → Whole E [] (Repeated x) (repeated x)
unfolding repeated place_of
whole_repeated x = whole_map (λ (times : RepeatData). RegexData.Repeat x times) (record { checked = refl }) whole_repeat

begins_repeated : (x : RegexData) → Begins b_repeat (Repeated x)
begins_repeated x = begins_then begins_repeat

pub record WholeRegex (E : Type 0) (d : DeeperRegex) (r : InsideRegex) : Type 0 where
  pub inner : (t : Lexeme) → Whole E c_regex d.Inner (r.regex t)
  pub atom : (t : Lexeme) → Whole E c_expr d.Atom (r.atom t)

module _ {E : Type 0} (d : DeeperRegex) (r : InsideRegex) (s : WholeRegex E d r) where
  whole_atom : Whole E [] (Token classes.OpenBracket ▸ λ t. d.Atom ▸ λ e. Token classes.CloseBracket ▸ λ u. Gives (RegexData.Atom e)) (atom_of r)
  unfolding atom_of place_of
  whole_atom = whole_after classes.OpenBracket (λ (t : Lexeme). whole_until classes.CloseBracket (record { checked = refl }) (s.atom t) (λ (e : Expression) (u : Lexeme). whole_gives [] (RegexData.Atom e)))

  whole_group : Whole E [] (Token classes.Open ▸ λ t. d.Inner ▸ λ x. Token classes.Close ▸ λ u. Gives x) (group_of r)
  unfolding group_of place_of
  whole_group = whole_after classes.Open (λ (t : Lexeme). whole_until classes.Close (record { checked = refl }) (s.inner t) (λ (x : RegexData) (u : Lexeme). whole_gives [] x))

  whole_ratom : Whole E [] (Ratom d) (ratom_of r)
  unfolding ratom_of place_of
  whole_ratom = whole_choice classes.OpenBracket (begins_then (begins_token classes.OpenBracket)) (follows_begins (classes.Open ∷ []) (record { checked = refl }) (begins_then (begins_token classes.Open))) whole_atom whole_group

  begins_post : Begins b_ratom (Post d)
  unfolding place_of
  begins_post = begins_then (begins_or (begins_of classes.OpenBracket _ (record { checked = refl })) (begins_of classes.Open _ (record { checked = refl })))

  whole_post : Whole E b_repeat (Post d) (post_of r)
  unfolding post_of place_of
  whole_post =
      whole_then whole_ratom (λ (x : RegexData). follows_none)
      (λ (x : RegexData). whole_steps b_repeat starts_repeat repeat_going begins_repeated (record { checked = refl }) (record { checked = refl }) (record { checked = refl }) whole_repeated x)

  whole_follower : (all : List RegexData) → Whole E b_repeat (Follower d all) (follower_of r all)
  unfolding follower_of place_of
  whole_follower all = whole_map (λ (x : RegexData). all ++ x ∷ []) (record { checked = refl }) whole_post

  begins_follower : (all : List RegexData) → Begins b_ratom (Follower d all)
  begins_follower all = begins_then begins_post

  whole_followed : (x : RegexData) → Whole E c_cat (Post d ▸ λ y. Steps (Follower d) (x ∷ y ∷ []) ▸ λ all. Gives (RegexData.Cat (regexes all))) (followed_of r x)
  unfolding followed_of place_of
  whole_followed x =
      whole_then whole_post
      (λ (y : RegexData). follows_then c_cat (follows_steps b_ratom begins_follower (record { checked = refl }) (record { checked = refl }) (x ∷ y ∷ [])) (λ (all : List RegexData). follows_gives (RegexData.Cat (regexes all)) (record { checked = refl })))
      (λ (y : RegexData). whole_map (λ (all : List RegexData). RegexData.Cat (regexes all)) (record { checked = refl }) (whole_steps b_ratom starts_ratom ratom_going begins_follower (record { checked = refl }) (record { checked = refl }) (record { checked = refl }) whole_follower (x ∷ y ∷ [])))

  whole_cat : Whole E c_cat (Cat d) (cat_of r)
  unfolding cat_of place_of
  whole_cat =
      whole_then whole_post (λ (x : RegexData). follows_or (follows_begins b_ratom (record { checked = refl }) (begins_then begins_post)) (follows_gives x (record { checked = refl })))
      (λ (x : RegexData). whole_if b_ratom starts_ratom ratom_going (begins_then begins_post) (follows_gives x (record { checked = refl })) (whole_followed x) (whole_gives c_cat x))

  whole_branch : (all : List RegexData) → Whole E c_cat (Branch d all) (branch_of r all)
  unfolding branch_of place_of
  whole_branch all = whole_after classes.Bar (λ (t : Lexeme). whole_map (λ (x : RegexData). all ++ x ∷ []) (record { checked = refl }) whole_cat)

  begins_branch : (all : List RegexData) → Begins (classes.Bar ∷ []) (Branch d all)
  begins_branch all = begins_then (begins_token classes.Bar)

  whole_branched : (x : RegexData) → Whole E c_regex (Token classes.Bar ▸ λ t. Cat d ▸ λ y. Steps (Branch d) (x ∷ y ∷ []) ▸ λ all. Gives (RegexData.Alt (regexes all))) (branched_of r x)
  unfolding branched_of place_of
  whole_branched x =
      whole_after classes.Bar (λ (t : Lexeme). whole_then whole_cat
      (λ (y : RegexData). follows_then c_regex (follows_steps (classes.Bar ∷ []) begins_branch (record { checked = refl }) (record { checked = refl }) (x ∷ y ∷ [])) (λ (all : List RegexData). follows_gives (RegexData.Alt (regexes all)) (record { checked = refl })))
      (λ (y : RegexData). whole_map (λ (all : List RegexData). RegexData.Alt (regexes all)) (record { checked = refl })
      (whole_steps (classes.Bar ∷ []) (starts classes.Bar) (starts_going classes.Bar) begins_branch (record { checked = refl }) (record { checked = refl }) (record { checked = refl }) whole_branch (x ∷ y ∷ []))))

  pub whole_regex : Whole E c_regex (RegexOf d) (regex_of r)
  unfolding regex_of place_of
  whole_regex =
      whole_then whole_cat (λ (x : RegexData). follows_or (follows_begins (classes.Bar ∷ []) (record { checked = refl }) (begins_then (begins_token classes.Bar))) (follows_gives x (record { checked = refl })))
      (λ (x : RegexData). whole_choice classes.Bar (begins_then (begins_token classes.Bar)) (follows_gives x (record { checked = refl })) (whole_branched x) (whole_gives c_regex x))

pub whole_inside_regex : {E : Type 0} (left n : ℕ) → (n < left → E) → WholeRegex E (RegexLevels left) (inside_regex n)
unfolding inside_regex
whole_inside_regex zero n deep = record { inner = λ t. whole_nothing; atom = λ t. whole_nothing }
whole_inside_regex (suc left) zero deep =
    let more = deep (omega arith) in
    record { inner = λ t. whole_deep (RegexOf (RegexLevels left)) t.number more; atom = λ t. whole_deep (ExprOf (Levels left)) t.number more }
whole_inside_regex (suc left) (suc n) deep =
    let fewer : n < left → _ = λ less. deep (omega arith) in
    record {
      inner = λ t. whole_regex (RegexLevels left) (inside_regex n) (whole_inside_regex left n fewer);
      atom = λ t. whole_whole (Levels left) (inside n) (whole_inside left n fewer);
    }
