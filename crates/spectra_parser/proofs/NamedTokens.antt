-- Productions over tokens whose names are spelled as names.
use Rattle.std.proofs.Common.{◌≡◌, true, List, [], ◌∷◌, ◌++◌, inl, inr, sym, subst}
use Rattle.spec_model.specs.Names.{IsName}
use Rattle.spectra_trees.specs.declared.class.Class.{Class}
use Rattle.spectra_trees.specs.declared.class.Class.TheVariants as classes
use Rattle.spectra_trees.specs.Classes.{same_class}
use Rattle.spectra_trees.specs.Lexemes.{Lexeme}
use Rattle.spectra_exprs.specs.Forms.{Grammar, Gives, Token, ◌▸◌, ◌∣◌, Steps, done, one_more}

-- where a token is a name, it is spelled as one
abbrev pub IsNamed : Lexeme → Type 0
IsNamed t = same_class t.class classes.Name ≡ true → IsName t.text

abbrev pub AreNamed : List Lexeme → Type 0
AreNamed [] = Unit {0}
AreNamed (t ∷ ts) = IsNamed t × AreNamed ts

pub named_parts : (front back : List Lexeme) → AreNamed (front ++ back) → AreNamed front × AreNamed back
named_parts [] back named = (tt, named)
named_parts (t ∷ front) back named = let parts = named_parts front back named.1 in ((named.0, parts.0), parts.1)

-- what a production makes of such tokens
abbrev pub Makes : {A : Type 0} → Grammar A → (A → Type 0) → Type 0
Makes P Good = (used : List Lexeme) → (a : _) → AreNamed used → P used a → Good a

module _ {A : Type 0} where
  pub makes_gives : (Good : A → Type 0) (a : A) → Good a → Makes (Gives a) Good
  makes_gives Good a good used b named gives = subst Good (sym gives.same) good

  pub makes_either : (Good : A → Type 0) (P Q : Grammar A) → Makes P Good → Makes Q Good → Makes (P ∣ Q) Good
  makes_either Good P Q first second used a named (inl p) = first used a named p
  makes_either Good P Q first second used a named (inr q) = second used a named q

  pub makes_steps : (Good : A → Type 0) (step : A → Grammar A) → ((a : A) → Good a → Makes (step a) Good) → (a : A) → Good a → Makes (Steps step a) Good
  makes_steps Good step one a good used b named (done _) = good
  makes_steps Good step one a good used c named (one_more _ front b back _ first rest) =
      let parts = named_parts front back named in
      makes_steps Good step one b (one a good front b parts.0 first) back c parts.1 rest

module _ {A B : Type 0} where
  pub makes_then : (Good : A → Type 0) (Fine : B → Type 0) (P : Grammar A) (Q : A → Grammar B) → Makes P Good → ((a : A) → Good a → Makes (Q a) Fine) → Makes (P ▸ Q) Fine
  makes_then Good Fine P Q first second used b named both =
      let parts = named_parts both.front both.back (subst AreNamed both.parts named) in
      second both.value (first both.front both.value parts.0 both.before) both.back b parts.1 both.after

  -- behind a part of which nothing is wanted
  pub makes_behind : (Fine : B → Type 0) (P : Grammar A) (Q : A → Grammar B) → ((a : A) → Makes (Q a) Fine) → Makes (P ▸ Q) Fine
  makes_behind Fine P Q second used b named both =
      let parts = named_parts both.front both.back (subst AreNamed both.parts named) in
      second both.value both.back b parts.1 both.after

-- behind a name
pub makes_name : {B : Type 0} (Fine : B → Type 0) (Q : Lexeme → Grammar B) → ((n : Lexeme) → IsName n.text → Makes (Q n) Fine) → Makes (Token classes.Name ▸ Q) Fine
makes_name Fine Q second used b named both =
    let parts = named_parts both.front both.back (subst AreNamed both.parts named) in
    let token = both.before in
    second both.value ((subst AreNamed token.alone parts.0).0 token.is) both.back b parts.1 both.after
