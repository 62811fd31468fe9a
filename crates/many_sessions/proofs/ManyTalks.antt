-- The exchanges of many sessions as the replies to each.
use Rattle.std.proofs.Common.{◌≡◌, ℕ, Bool, true, false, ◌==◌, ◌≤◌, cond, List, [], ◌∷◌, ◌++◌, length, map, Option, Some, None, refl, sym, ap, subst, ◌∙◌, arith, append_assoc, append-nil}
use Rattle.std.proofs.lemmas.Bool.Decides.{nat_tests}
use Rattle.spec_model.specs.Syntax.{Specification}
use Rattle.spec_model.specs.Games.{GameData}
use Rattle.gr1_law.specs.Layers.{LayerSets}
use Rattle.spec_model.specs.declared.game.Label.{Label}
use Rattle.session.specs.declared.talking.End.{End}
use Rattle.session.specs.declared.talking.End.TheVariants as ends
use Rattle.session.specs.Exchanges.{Ends, Wrote, Exchanges, opened, answered, Talk}
use Rattle.session.proofs.Turns.{ends_weaker}
use Rattle.many_sessions.specs.declared.talking.ManyEnd.{ManyEnd}
use Rattle.many_sessions.specs.Numbered.{Message, IsNumbered}
use Rattle.many_sessions.specs.Solo.{Session, unplayed, play_of, IsReply, IsSoloFrom, IsSolo}
use Rattle.many_sessions.specs.Ends.{end_of, IsUnbroken}
use Rattle.many_sessions.specs.Talks.{Turn, answer_line, answer_lines, AreNumbered, turns_of, texts_of, replies_of, IsKeptPlay, IsServed, ManyTalk}
use Rattle.many_sessions.specs.Terms.{ManyState, changed, with_session, unbegun, many_terms}

-- ---- one turn more

lines_more : (ts : List Turn) (t : Turn) → answer_lines ts ++ answer_line t.message t.reply ≡ answer_lines (ts ++ t ∷ [])
lines_more [] t = sym (append-nil (answer_line t.message t.reply))
lines_more (u ∷ ts) t =
    append_assoc (answer_line u.message u.reply) (answer_lines ts) (answer_line t.message t.reply) ∙ ap (λ (l : List ℕ). answer_line u.message u.reply ++ l) (lines_more ts t)

numbered_more : (lines : List (List ℕ)) (ts : List Turn) (line : List ℕ) (t : Turn) → AreNumbered lines ts → IsNumbered line t.message → AreNumbered (lines ++ line ∷ []) (ts ++ t ∷ [])
numbered_more [] [] line t are is = (is, tt)
numbered_more [] (u ∷ ts) line t are is = absurd are
numbered_more (l ∷ lines) [] line t are is = absurd are
numbered_more (l ∷ lines) (u ∷ ts) line t are is = (are.0, numbered_more lines ts line t are.1 is)

-- what the turns of one session tell, where one turn more comes
abbrev column : (Turn → List ℕ) → ℕ → List Turn → List (List ℕ)
column f n ts = map f (turns_of n ts)

abbrev own : (Turn → List ℕ) → Turn → Bool → List (List ℕ)
own f t true = f t ∷ []
own f t false = []

column_more : (f : Turn → List ℕ) (n : ℕ) (ts : List Turn) (t : Turn) (b : Bool) → (t.message.session == n) ≡ b → column f n (ts ++ t ∷ []) ≡ column f n ts ++ own f t b
column_more f n [] t true is = ap (λ (b : Bool). map f (cond b (t ∷ []) [])) is
column_more f n [] t false is = ap (λ (b : Bool). map f (cond b (t ∷ []) [])) is
column_more f n (u ∷ ts) t b is = by_test (u.message.session == n) (column_more f n ts t b is)
  where
    by_test : (c : Bool) → column f n (ts ++ t ∷ []) ≡ column f n ts ++ own f t b →
        map f (cond c (u ∷ turns_of n (ts ++ t ∷ [])) (turns_of n (ts ++ t ∷ []))) ≡ map f (cond c (u ∷ turns_of n ts) (turns_of n ts)) ++ own f t b
    by_test true rest = ap (λ (l : List (List ℕ)). f u ∷ l) rest
    by_test false rest = rest

-- one text more
solo_more : (s : Specification) (g : GameData) (l : LayerSets) (first : Session) (texts replies : List (List ℕ)) (mid : Session) (text reply : List ℕ) (last : Session) → IsSoloFrom s g l first texts replies mid → IsReply s g l mid text reply last →
    IsSoloFrom s g l first (texts ++ text ∷ []) (replies ++ reply ∷ []) last
solo_more s g l first [] [] mid text reply last so is = (last, subst (λ (t : Session). IsReply s g l t text reply last) so is, refl)
solo_more s g l first [] (r ∷ replies) mid text reply last so is = absurd so
solo_more s g l first (x ∷ texts) [] mid text reply last so is = absurd so
solo_more s g l first (x ∷ texts) (r ∷ replies) mid text reply last so is = (so.0, so.1, solo_more s g l so.0 texts replies mid text reply last so.2 is)

-- ---- the exchanges

-- one session after some turns
record IsSolid (s : Specification) (g : GameData) (l : LayerSets) (k n : ℕ) (ts : List Turn) (t : Session) : Type 0 where
  solo : IsSolo s g l (texts_of n ts) (replies_of n ts) t
  play : IsKeptPlay s k (play_of t)

-- the lines are read as the turns, the texts are their answers, and each session is told what it is told alone
record IsMany (s : Specification) (g : GameData) (l : LayerSets) (k : ℕ) (lines : List (List ℕ)) (texts : List ℕ) (st : ManyState) : Type 0 where
  game : st.game ≡ g
  layers : st.layers ≡ l
  rounds : st.rounds ≡ k
  turns : List Turn
  numbered : AreNumbered lines turns
  shown : texts ≡ answer_lines turns
  sessions : (n : ℕ) → IsSolid s g l k n turns (st.sessions n)

module _ (s : Specification) (g : GameData) (l : LayerSets) (k : ℕ) where
  -- a session after its own turn, or after that of another
  turn_more : (ts : List Turn) (m : Message) (reply : List ℕ) (sessions : ℕ → Session) (next : Session) → ((n : ℕ) → IsSolid s g l k n ts (sessions n)) → IsReply s g l (sessions m.session) m.text reply next →
      (IsKeptPlay s k (play_of (sessions m.session)) → IsKeptPlay s k (play_of next)) → (n : ℕ) → IsSolid s g l k n (ts ++ record { message = m; reply = reply } ∷ []) (changed sessions m.session next n)
  turn_more ts m reply sessions next so is on n = by_number (m.session == n) refl
    where
      t : Turn
      t = record { message = m; reply = reply }

      texts_are : (b : Bool) → (m.session == n) ≡ b → texts_of n (ts ++ record { message = m; reply = reply } ∷ []) ≡ texts_of n ts ++ own (λ t. t.message.text) (record { message = m; reply = reply }) b
      texts_are b e = column_more (λ t. t.message.text) n ts (record { message = m; reply = reply }) b e

      replies_are : (b : Bool) → (m.session == n) ≡ b → replies_of n (ts ++ record { message = m; reply = reply } ∷ []) ≡ replies_of n ts ++ own (λ t. t.reply) (record { message = m; reply = reply }) b
      replies_are b e = column_more (λ t. t.reply) n ts (record { message = m; reply = reply }) b e

      by_number : (b : Bool) → (m.session == n) ≡ b → IsSolid s g l k n (ts ++ record { message = m; reply = reply } ∷ []) (cond b next (sessions n))
      by_number true e =
          let same : m.session ≡ n = grind (arith, nat_tests) in
          let solid = so n in
          let reply_is = subst (λ (j : ℕ). IsReply s g l (sessions j) m.text reply next) same is in
          record {
            solo =
                subst (λ (rs : List (List ℕ)). IsSolo s g l (texts_of n (ts ++ record { message = m; reply = reply } ∷ [])) rs next) (sym (replies_are true e))
                (subst (λ (xs : List (List ℕ)). IsSolo s g l xs (replies_of n ts ++ reply ∷ []) next) (sym (texts_are true e))
                (solo_more s g l unplayed (texts_of n ts) (replies_of n ts) (sessions n) m.text reply next solid.solo reply_is));
            play = on (so m.session).play;
          }
      by_number false e =
          let solid = so n in
          record {
            solo =
                subst (λ (rs : List (List ℕ)). IsSolo s g l (texts_of n (ts ++ record { message = m; reply = reply } ∷ [])) rs (sessions n)) (sym (replies_are false e ∙ append-nil (replies_of n ts)))
                (subst (λ (xs : List (List ℕ)). IsSolo s g l xs (replies_of n ts) (sessions n)) (sym (texts_are false e ∙ append-nil (texts_of n ts))) solid.solo);
            play = solid.play;
          }

  is_many : (lines : List (List ℕ)) (texts : List ℕ) (st : ManyState) → Exchanges (many_terms s) (unbegun g l k) lines texts st → IsMany s g l k lines texts st
  is_many _ _ _ (opened text st opens) =
      subst (λ (st : ManyState). IsMany s g l k [] text st) (sym opens.same)
      (record {
        game = refl;
        layers = refl;
        rounds = refl;
        turns = [];
        numbered = tt;
        shown = opens.nothing;
        sessions = λ n. record { solo = refl; play = opens.kept };
      })
  is_many _ _ _ (answered lines texts st line m text next so_far reads unbroken answers) =
      let so = is_many lines texts st so_far in
      let t : Turn = record { message = m; reply = answers.reply } in
      let is = subst (λ (h : LayerSets). IsReply s g h (st.sessions m.session) m.text answers.reply answers.session) so.layers (subst (λ (h : GameData). IsReply s h st.layers (st.sessions m.session) m.text answers.reply answers.session) so.game answers.replies) in
      let on = subst (λ (j : ℕ). IsKeptPlay s j (play_of (st.sessions m.session)) → IsKeptPlay s j (play_of answers.session)) so.rounds answers.kept in
      subst (λ (next : ManyState). IsMany s g l k (lines ++ line ∷ []) (texts ++ text) next) (sym answers.goes_on)
      (record {
        game = so.game;
        layers = so.layers;
        rounds = so.rounds;
        turns = so.turns ++ t ∷ [];
        numbered = numbered_more lines so.turns line t so.numbered reads;
        shown = ap (λ (l : List ℕ). texts ++ l) answers.shown ∙ ap (λ (l : List ℕ). l ++ answer_line m answers.reply) so.shown ∙ lines_more so.turns t;
        sessions = turn_more so.turns m answers.reply st.sessions answers.session so.sessions is on;
      })

  -- a talk of sessions of which none has begun
  pub many_talk : (limit : ℕ) (left0 left1 written0 written1 : Option (List ℕ)) (rose_in rose_out : Type 0) (end : End) (told : ManyEnd) → end_of told ≡ end →
      Talk (many_terms s) (unbegun g l k) limit left0 left1 written0 written1 rose_in rose_out end → ManyTalk s g l k limit left0 left1 written0 written1 rose_in rose_out told
  many_talk limit left0 left1 written0 written1 rose_in rose_out end told same talk =
      let ran = is_many talk.handed talk.texts talk.last talk.exchanges in
      record {
        given = talk.given;
        taken_from = talk.taken_from;
        handed = talk.handed;
        turns = ran.turns;
        numbered = ran.numbered;
        served = λ n. let solid = ran.sessions n in record { last = talk.last.sessions n; solo = solid.solo; play = solid.play };
        few = talk.few;
        wrote = subst (λ (e : End). Wrote e written0 written1 (answer_lines ran.turns)) (sym same) (subst (Wrote end written0 written1) ran.shown talk.wrote);
        ends = subst (λ (e : End). Ends IsNumbered (λ m. None) limit talk.given left1 talk.handed (length talk.handed) rose_in rose_out e) (sym same) talk.ends;
      }

-- no line of the specification is broken
pub unbroken : (s : Specification) (first : ManyState) (limit : ℕ) (left0 left1 written0 written1 : Option (List ℕ)) (rose_in rose_out : Type 0) (end : End) → Talk (many_terms s) first limit left0 left1 written0 written1 rose_in rose_out end → IsUnbroken end
unbroken s first limit left0 left1 written0 written1 rose_in rose_out (ends.Broken label) talk = absurd (let never : None ≡ Some label = talk.ends.4 in cc)
unbroken s first limit left0 left1 written0 written1 rose_in rose_out ends.Finished talk = tt
unbroken s first limit left0 left1 written0 written1 rose_in rose_out (ends.BadLine n) talk = tt
unbroken s first limit left0 left1 written0 written1 rose_in rose_out ends.StateLimit talk = tt
unbroken s first limit left0 left1 written0 written1 rose_in rose_out ends.ReadFault talk = tt
unbroken s first limit left0 left1 written0 written1 rose_in rose_out ends.WriteFault talk = tt

-- what rose in a part rose in the whole
pub many_weaker : (s : Specification) (g : GameData) (l : LayerSets) (k limit : ℕ) (left0 left1 written0 written1 : Option (List ℕ)) (rose_in rose_out rose_in' rose_out' : Type 0) (end : ManyEnd) → (rose_in → rose_in') → (rose_out → rose_out') →
    ManyTalk s g l k limit left0 left1 written0 written1 rose_in rose_out end → ManyTalk s g l k limit left0 left1 written0 written1 rose_in' rose_out' end
many_weaker s g l k limit left0 left1 written0 written1 rose_in rose_out rose_in' rose_out' end from_in from_out talk =
    record {
      given = talk.given;
      taken_from = talk.taken_from;
      handed = talk.handed;
      turns = talk.turns;
      numbered = talk.numbered;
      served = talk.served;
      few = talk.few;
      wrote = talk.wrote;
      ends = ends_weaker IsNumbered (λ m. None) limit talk.given left1 talk.handed (length talk.handed) rose_in rose_out rose_in' rose_out' from_in from_out (end_of end) talk.ends;
    }
