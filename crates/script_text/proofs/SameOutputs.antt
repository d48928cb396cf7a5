-- Equal outputs agree in all that is printed.
use Rattle.std.proofs.Common.{◌≡◌, ℕ, List, [], ◌∷◌, ◌++◌, codes, All, refl, sym, ap, subst, ◌∙◌, append_assoc}
use Rattle.std.specs.List.{AllByRecursion, AllZip}
use Rattle.std.proofs.lemmas.List.{append_cancel_left}
use Rattle.std.proofs.lemmas.List.Elements.{recursion_from_All}
use Rattle.rel_formula.specs.Bounds.{Bounded}
use Rattle.session_words.specs.declared.commands.Command.{Command}
use Rattle.script_text.specs.Printed.{Printed}
use Rattle.script_text.specs.Printable.{MayPrint, IsProper, IsPrintedFor, AreAlike}
use Rattle.script_text.specs.Replies.{AreReplyTexts, IsSessionText, PrintedSession, IsOutput}
use Rattle.script_text.proofs.Cuts.{tail_is, group4}
use Rattle.script_text.proofs.SameReplies.{same_replies}

session_of : Bounded → List ℕ → List Printed → PrintedSession
session_of p name replies = record { problem = p; name = name; replies = replies }

session_same : (s t : PrintedSession) → s.problem ≡ t.problem → s.name ≡ t.name → s.replies ≡ t.replies → s ≡ t
unfolding session_of
session_same s t e f g =
    ap (λ (p : Bounded). session_of p s.name s.replies) e ∙ ap (λ (n : List ℕ). session_of t.problem n s.replies) f ∙ ap (λ (rs : List Printed). session_of t.problem t.name rs) g

sessions_are : (s t : PrintedSession) (ss ts : List PrintedSession) → s ≡ t → ss ≡ ts → s ∷ ss ≡ t ∷ ts
sessions_are s t ss ts e f = ap (λ (z : PrintedSession). z ∷ ss) e ∙ ap (λ (zs : List PrintedSession). t ∷ zs) f

heading_is : (name lines x : List ℕ) → (codes "== " ++ name ++ codes "\n" ++ lines) ++ x ≡ codes "== " ++ (name ++ 10 ∷ (lines ++ x))
heading_is name lines x = group4 (codes "== ") name (codes "\n") lines x

-- the texts of one session, with something behind them
same_session : (cs : List Command) (s t : PrintedSession) (u v x y : List ℕ) → IsPrintedFor cs s → IsPrintedFor cs t → AreAlike s t
    → IsSessionText s.problem s.name s.replies u → IsSessionText t.problem t.name t.replies v → u ++ x ≡ v ++ y → (s ≡ t) × (x ≡ y)
same_session cs s t u v x y a b alike is_u is_v e =
    let back : Bounded → Type 0 = λ p. AreReplyTexts p t.replies is_v.0 in
    let proper : Bounded → Type 0 = λ p. All (IsProper p) t.replies in
    let headed = sym (heading_is s.name is_u.0 x) ∙ ap (λ (z : List ℕ). z ++ x) (sym is_u.2) ∙ e ∙ ap (λ (z : List ℕ). z ++ y) is_v.2 ∙ heading_is t.name is_v.0 y
    ∙ ap (λ (n : List ℕ). codes "== " ++ (n ++ 10 ∷ (is_v.0 ++ y))) (sym alike.name) in
    let named = append_cancel_left (codes "== ") (s.name ++ 10 ∷ (is_u.0 ++ x)) (s.name ++ 10 ∷ (is_v.0 ++ y)) headed in
    let bare = tail_is 10 10 (is_u.0 ++ x) (is_v.0 ++ y) (append_cancel_left s.name (10 ∷ (is_u.0 ++ x)) (10 ∷ (is_v.0 ++ y)) named) in
    let cut = same_replies s.problem a.writable cs s.replies t.replies is_u.0 is_v.0 x y a.each b.each (recursion_from_All (IsProper s.problem) s.replies a.proper) (recursion_from_All (IsProper s.problem) t.replies (subst proper (sym alike.problem) b.proper)) is_u.1 (subst back (sym alike.problem) is_v.1) bare in
    (session_same s t alike.problem alike.name cut.0, cut.1)

same_outputs : (cs : List (List Command)) (ss ts : List PrintedSession) (u v x y : List ℕ) → AllZip IsPrintedFor cs ss → AllZip IsPrintedFor cs ts → AllZip AreAlike ss ts
    → IsOutput ss u → IsOutput ts v → u ++ x ≡ v ++ y → ss ≡ ts
same_outputs cs [] [] u v x y a b alike is_u is_v e = refl
same_outputs cs [] (t ∷ ts) u v x y a b alike is_u is_v e = absurd alike
same_outputs cs (s ∷ ss) [] u v x y a b alike is_u is_v e = absurd alike
same_outputs [] (s ∷ ss) (t ∷ ts) u v x y a b alike is_u is_v e = absurd a
same_outputs (c ∷ cs) (s ∷ ss) (t ∷ ts) u v x y a b alike is_u is_v e =
    let bare = sym (append_assoc is_u.0 is_u.1 x) ∙ ap (λ (z : List ℕ). z ++ x) (sym is_u.4) ∙ e ∙ ap (λ (z : List ℕ). z ++ y) is_v.4 ∙ append_assoc is_v.0 is_v.1 y in
    let first = same_session c s t is_u.0 is_v.0 (is_u.1 ++ x) (is_v.1 ++ y) a.0 b.0 alike.0 is_u.2 is_v.2 bare in
    sessions_are s t ss ts first.0 (same_outputs cs ss ts is_u.1 is_v.1 x y a.1 b.1 alike.1 is_u.3 is_v.3 first.1)

pub equal_outputs : (cs : List (List Command)) (ss ts : List PrintedSession) (text : List ℕ) → AllZip IsPrintedFor cs ss → AllZip IsPrintedFor cs ts → AllZip AreAlike ss ts
    → IsOutput ss text → IsOutput ts text → ss ≡ ts
equal_outputs cs ss ts text a b alike is_u is_v = same_outputs cs ss ts text text [] [] a b alike is_u is_v refl
