use Rattle.std.proofs.Common.{◌≡◌, ℕ, List, [], ◌∷◌, ◌++◌, codes, refl, sym, ◌∙◌, ap, append_assoc}
use Rattle.std.proofs.lemmas.List.{append-nil}
use Rattle.script_text.specs.Replies.{PrintedSession, IsSessionText, IsOutput}
use Rattle.script_text.proofs.ReplyLemmas.{texts_push}
use Rattle.script_text.proofs.laws.texts_go_on.Goals as goal

output_push : (ss : List PrintedSession) (text : List ℕ) (next : PrintedSession) (lines : List ℕ) → IsOutput ss text → IsSessionText next.problem next.name next.replies lines → IsOutput (ss ++ next ∷ []) (text ++ lines)
output_push [] text next lines e is = (lines, [], is, refl, ap (λ t. t ++ lines) e ∙ sym (append-nil lines))
output_push (s ∷ ss) text next lines h is = (h.0, h.1 ++ lines, h.2, output_push ss h.1 next lines h.3 is, ap (λ t. t ++ lines) h.4 ∙ append_assoc h.0 h.1 lines)

pub returns : goal.returns
returns c = record {
  session = λ p name replies text next lines h is. (
    h.0 ++ lines,
    texts_push p replies next h.0 lines h.1 is,
    ap (λ t. t ++ lines) h.2 ∙ append_assoc (codes "== " ++ name ++ codes "\n") h.0 lines,
  );
  output = output_push;
}
