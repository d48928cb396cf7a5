-- What is printed has one text.
use Rattle.std.proofs.Common.{◌≡◌, ℕ, ◌+◌, ◌<◌, List, [], ◌∷◌, ◌++◌, length, get_or, codes, decimal, All, Contains, sym, ap, ◌∙◌, arith}
use Rattle.std.proofs.lemmas.List.{same_lists}
use Rattle.tuple_core.specs.declared.atom.Atom.{Atom}
use Rattle.tuple_core.specs.Rows.{Rows, IsRows, IsSetOf}
use Rattle.tuple_core.proofs.Ascending.{same_lists as same_tuples}
use Rattle.rel_formula.specs.Bounds.{Bounded, relation_at}
use Rattle.rel_formula.specs.Instance.{InRelation}
use Rattle.rel_formula.specs.Tables.{AreTables}
use Rattle.script_text.specs.Lines.{relation_lines}
use Rattle.script_text.specs.Printed.{Printed, shown, ended, offered, augmented, back, budget_set, listed, partly, proved, refused, no_memory}
use Rattle.script_text.specs.Replies.{IsScenarioText, AreNumbered, IsReplyText, AreReplyTexts, IsSessionText, PrintedSession, IsOutput}

-- a set is one value
one_set : (v w : Rows) (n : ℕ) (P : List Atom → Type 0) → IsRows v → IsRows w → IsSetOf v n P → IsSetOf w n P → v ≡ w
one_set v w n P v_rows w_rows v_is w_is =
    let arity : v.arity ≡ w.arity = v_is.arity_is ∙ sym w_is.arity_is in
    let rows : v.rows ≡ w.rows = same_tuples v.rows w.rows v_rows.ascending w_rows.ascending (λ t c. (w_is.just t).1 ((v_is.just t).0 c)) (λ t c. (v_is.just t).1 ((w_is.just t).0 c)) in
    λ i. record { arity = arity i; rows = rows i }

-- so the tables of a scenario are one list
one_list : (p : Bounded) (s : List ℕ) (vs ws : List Rows) → AreTables p s vs → AreTables p s ws → All IsRows vs → All IsRows ws → vs ≡ ws
one_list p s vs ws are other rows more =
    same_lists vs ws (are.count ∙ sym other.count) (λ k d l.
    let there : k < length ws = let e = are.count in let f = other.count in omega arith in
    one_set (get_or vs k d) (get_or ws k d) (relation_at p.relations k).lower.arity (InRelation p (Contains s) k) (rows k d l) (more k d there) (are.each k d l) (other.each k d there))

module _ (p : Bounded) where
  one_scenario : (s text words : List ℕ) → IsScenarioText p s text → IsScenarioText p s words → text ≡ words
  one_scenario s text words a b = a.3 ∙ ap (relation_lines p p.relations) (one_list p s a.0 b.0 a.1 b.1 a.2 b.2) ∙ sym b.3

  one_numbered : (word : List ℕ) (n : ℕ) (ss : List (List ℕ)) (text words : List ℕ) → AreNumbered p word n ss text → AreNumbered p word n ss words → text ≡ words
  one_numbered word n [] text words a b = a ∙ sym b
  one_numbered word n (s ∷ ss) text words a b =
      a.4 ∙ ap (λ ls. word ++ decimal n ++ codes "\n" ++ ls ++ a.1) (one_scenario s a.0 b.0 a.2 b.2)
      ∙ ap (λ os. word ++ decimal n ++ codes "\n" ++ b.0 ++ os) (one_numbered word (n + 1) ss a.1 b.1 a.3 b.3) ∙ sym b.4

  pub one_reply : (r : Printed) (text words : List ℕ) → IsReplyText p r text → IsReplyText p r words → text ≡ words
  one_reply (shown number s) text words a b = a.2 ∙ ap (λ ls. codes "scenario " ++ decimal number ++ codes "\n" ++ ls) (one_scenario s a.0 b.0 a.1 b.1) ∙ sym b.2
  one_reply (ended number) text words a b = a ∙ sym b
  one_reply (offered cells) text words a b = a ∙ sym b
  one_reply augmented text words a b = a ∙ sym b
  one_reply back text words a b = a ∙ sym b
  one_reply (budget_set budget) text words a b = a ∙ sym b
  one_reply (listed ss) text words a b = a.2 ∙ ap (λ ls. ls ++ codes "end " ++ decimal (length ss) ++ codes "\n") (one_numbered (codes "listed ") 1 ss a.0 b.0 a.1 b.1) ∙ sym b.2
  one_reply (partly first ss) text words a b = a.2 ∙ ap (λ ls. ls ++ codes "partly " ++ decimal (length ss) ++ codes "\n") (one_numbered (codes "scenario ") first ss a.0 b.0 a.1 b.1) ∙ sym b.2
  one_reply (proved clauses log) text words a b = a ∙ sym b
  one_reply (refused why) text words a b = a ∙ sym b
  one_reply no_memory text words a b = a ∙ sym b

  one_replies : (rs : List Printed) (text words : List ℕ) → AreReplyTexts p rs text → AreReplyTexts p rs words → text ≡ words
  one_replies [] text words a b = a ∙ sym b
  one_replies (r ∷ rs) text words a b =
      a.4 ∙ ap (λ first. first ++ a.1) (one_reply r a.0 b.0 a.2 b.2) ∙ ap (λ others. b.0 ++ others) (one_replies rs a.1 b.1 a.3 b.3) ∙ sym b.4

  one_session : (name : List ℕ) (rs : List Printed) (text words : List ℕ) → IsSessionText p name rs text → IsSessionText p name rs words → text ≡ words
  one_session name rs text words a b = a.2 ∙ ap (λ lines. codes "== " ++ name ++ codes "\n" ++ lines) (one_replies rs a.0 b.0 a.1 b.1) ∙ sym b.2

pub one_output : (ss : List PrintedSession) (text words : List ℕ) → IsOutput ss text → IsOutput ss words → text ≡ words
one_output [] text words a b = a ∙ sym b
one_output (s ∷ ss) text words a b =
    a.4 ∙ ap (λ first. first ++ a.1) (one_session s.problem s.name s.replies a.0 b.0 a.2 b.2) ∙ ap (λ rest. b.0 ++ rest) (one_output ss a.1 b.1 a.3 b.3) ∙ sym b.4
