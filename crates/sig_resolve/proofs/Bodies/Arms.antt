-- What is told of a node by its parts, and what is made of it from theirs.
use Rattle.std.proofs.Common.{◌≡◌, ℕ, List, [], ◌++◌, Result, Ok, Err, ap, ◌∙◌, sym, subst, Box, Global}
use Rattle.std.specs.Prelude.{IsErr, IsErrAnd, OnOk}
use Rattle.alloy_lex.specs.declared.token.Place.{Place}
use Rattle.alloy_syntax.specs.declared.tree.Comparing.{Comparing}
use Rattle.alloy_syntax.specs.declared.tree.Prefix.{Prefix}
use Rattle.alloy_syntax.specs.declared.tree.Node.{Node}
use Rattle.alloy_syntax.specs.Tree.{Tree}
use Rattle.alloy_syntax.specs.View.{view}
use Rattle.named_model.specs.declared.fault.NameFault.{NameFault}
use Rattle.named_model.specs.declared.phrase.Phrase.{Phrase}
use Rattle.named_model.specs.declared.phrase.Phrase.TheVariants as part
use Rattle.named_model.specs.Phrase as phrase
use Rattle.named_model.specs.Phrase.{PhraseTree}
use Rattle.named_model.specs.View.{phrase_view}
use Rattle.named_model.specs.Names.{resolved, faults_of}
use Rattle.name_tables.specs.InForce.{InForce}
use Rattle.name_tables.specs.Told.{IsTold, Answers}
use Rattle.sig_resolve.proofs.Bodies.SeenPhrases.{bracketed_phrase, prefixed_phrase, compared_phrase, implies_phrase, else_phrase}

-- a fault that is handed on
pub handed : {X : Type 0} (P : X → Type 0) (r : Result X NameFault) (e : NameFault) (fs : List NameFault) → IsErrAnd r (λ (f : NameFault). f ≡ e) → IsTold e fs → Answers r fs P
handed P (Ok x) e fs is told = absurd is
handed P (Err f) e fs is told = subst (λ (x : NameFault). IsTold x fs) (sym is) told

pub nothing_made : {X : Type 0} (r : Result X NameFault) (P : Type 0) → IsErr r → OnOk r P
nothing_made (Ok x) P is = absurd cc
nothing_made (Err f) P is = tt

-- what is told of the second of two parts is told of both, where the first has no fault
pub told_second : (e : NameFault) (fs gs : List NameFault) → fs ≡ [] → IsTold e gs → IsTold e (fs ++ gs)
told_second e fs gs none told = subst (λ (xs : List NameFault). IsTold e (xs ++ gs)) (sym none) told

abbrev pub Told : NameFault → InForce → Node → Type 0
Told e n x = IsTold e (faults_of n.globals n.locals 0 (view x))

abbrev pub Made : PhraseTree → InForce → Node → Type 0
Made p n x = (faults_of n.globals n.locals 0 (view x) ≡ []) × (p ≡ resolved n.globals n.locals (view x))

pub told_at : (e : NameFault) (m n : InForce) (x y : Node) → m ≡ n → x ≡ y → Told e m x → Told e n y
told_at e m n x y names is told = subst (λ (k : InForce). Told e k y) names (subst (Told e m) is told)

pub made_at : (p : PhraseTree) (m n : InForce) (x y : Node) → m ≡ n → x ≡ y → Made p m x → Made p n y
made_at p m n x y names is made = subst (λ (k : InForce). Made p k y) names (subst (Made p m) is made)

module _ (n : InForce) (behind : ℕ) (node : Node) (t : Tree) where
  pub told_of : (e : NameFault) → view node ≡ t → IsTold e (faults_of n.globals n.locals behind t) → IsTold e (faults_of n.globals n.locals behind (view node))
  told_of e is told = subst (λ (x : Tree). IsTold e (faults_of n.globals n.locals behind x)) (sym is) told

  pub made_of : (p : PhraseTree) → view node ≡ t → (faults_of n.globals n.locals behind t ≡ []) × (p ≡ resolved n.globals n.locals t)
      → (faults_of n.globals n.locals behind (view node) ≡ []) × (p ≡ resolved n.globals n.locals (view node))
  made_of p is made = subst (λ (x : Tree). (faults_of n.globals n.locals behind x ≡ []) × (p ≡ resolved n.globals n.locals x)) (sym is) made

module _ (n : InForce) where
  pub bracketed_made : (p : Place) (l : Box Node Global) (x : Box Phrase Global) → Made (phrase_view x.value) n l.value
      → phrase_view (part.Bracketed p x) ≡ phrase.bracketed p (resolved n.globals n.locals (view l.value))
  bracketed_made p l x one = bracketed_phrase p x ∙ ap (phrase.bracketed p) one.1

  pub prefixed_made : (f : Prefix) (p : Place) (l : Box Node Global) (x : Box Phrase Global) → Made (phrase_view x.value) n l.value
      → phrase_view (part.Prefixed f p x) ≡ phrase.prefixed f p (resolved n.globals n.locals (view l.value))
  prefixed_made f p l x one = prefixed_phrase f p x ∙ ap (phrase.prefixed f p) one.1

  module _ (l r : Box Node Global) (x y : Box Phrase Global) where
    abbrev Left : PhraseTree
    Left = resolved n.globals n.locals (view l.value)

    abbrev Right : PhraseTree
    Right = resolved n.globals n.locals (view r.value)

    pub none_in_both : Made (phrase_view x.value) n l.value → Made (phrase_view y.value) n r.value
        → faults_of n.globals n.locals 0 (view l.value) ++ faults_of n.globals n.locals 0 (view r.value) ≡ []
    none_in_both one two = ap (λ fs. fs ++ faults_of n.globals n.locals 0 (view r.value)) one.0 ∙ two.0

    pub compared_made : (c : Comparing) → Made (phrase_view x.value) n l.value → Made (phrase_view y.value) n r.value
        → phrase_view (part.Compared x c y) ≡ phrase.compared Left c Right
    compared_made c one two = compared_phrase x c y ∙ (ap (λ (a : PhraseTree). phrase.compared a c (phrase_view y.value)) one.1 ∙ ap (phrase.compared Left c) two.1)

    pub implies_made : (p : Place) → Made (phrase_view x.value) n l.value → Made (phrase_view y.value) n r.value
        → phrase_view (part.Implies x p y) ≡ phrase.implies Left p Right
    implies_made p one two = implies_phrase x p y ∙ (ap (λ (a : PhraseTree). phrase.implies a p (phrase_view y.value)) one.1 ∙ ap (phrase.implies Left p) two.1)

    pub else_made : (p : Place) (o : Box Node Global) (z : Box Phrase Global) → Made (phrase_view x.value) n l.value → Made (phrase_view y.value) n r.value → Made (phrase_view z.value) n o.value
        → phrase_view (part.ImpliesElse x p y z) ≡ phrase.implies_else Left p Right (resolved n.globals n.locals (view o.value))
    else_made p o z one two three =
        else_phrase x p y z ∙ (ap (λ (a : PhraseTree). phrase.implies_else a p (phrase_view y.value) (phrase_view z.value)) one.1
        ∙ (ap (λ (a : PhraseTree). phrase.implies_else Left p a (phrase_view z.value)) two.1 ∙ ap (phrase.implies_else Left p Right) three.1))
