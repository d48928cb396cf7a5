-- Calls, and the steps behind them.
use Rattle.std.proofs.Common.{◌≡◌, ℕ, ◌+◌, List, [], ◌++◌, map, length, drop, Some, true, false, if◌then◌else◌, refl, sym, ap, ◌∙◌, subst, Result, Vec, Global}
use Rattle.std.specs.List.{slice_get}
use Rattle.alloy_lex.specs.declared.token.Place.{Place}
use Rattle.alloy_syntax.specs.declared.tree.Node.{Node}
use Rattle.alloy_syntax.specs.declared.tree.Step.{Step, Join, Brackets, fold-roll-Step}
use Rattle.alloy_syntax.specs.declared.tree.Step.TheVariants.{rolls-Join}
use Rattle.alloy_syntax.specs.declared.tree.Node.TheOpen.{Step-F}
use Rattle.alloy_syntax.specs.Tree as tree
use Rattle.alloy_syntax.specs.Tree.{Trees, no_trees, more_trees, trees_of, Steps, steps_of}
use Rattle.alloy_syntax.specs.View.{view, views, step_view, node_level, step_level, binding_level, declaration_level, link_level}
use Rattle.named_model.specs.declared.fault.NameFault.{NameFault}
use Rattle.named_model.specs.declared.phrase.Phrase.{Phrase}
use Rattle.named_model.specs.View.{phrase_view}
use Rattle.named_model.specs.Phrase.{PhraseTree, called, path, PhraseTrees, StepTrees, brackets_first}
use Rattle.named_model.specs.Names.{Globals, header_at, takes, phrases_count, trees_count, path_of, call_of, all_resolved, steps_resolved, all_faults, step_faults}
use Rattle.name_tables.specs.Told.{IsTold, Answers}
use Rattle.name_tables.proofs.Telling.{told_first, told_second}
use Rattle.sig_resolve.proofs.Bodies.Steps.{counted, first_is, node_brackets_seen}

resolved_count : (g : Globals) (ls : List (List ℕ)) (ts : Trees) → phrases_count (all_resolved g ls ts) ≡ trees_count ts
resolved_count g ls no_trees = refl
resolved_count g ls (more_trees t ts) = ap (λ n. n + 1) (resolved_count g ls ts)

node_join_seen : (p : Place) (x : Node) → step_view (Join p x) ≡ tree.joined p (view x)
node_join_seen p x = ap step_view (sym (rolls-Join p x)) ∙ fold-roll-Step tree.Tree tree.StepTree tree.BindingTree tree.DeclarationTree tree.LinkTree node_level step_level binding_level declaration_level link_level (Step-F.Join p x)

-- the steps, where brackets or a join come first
brackets_come : (steps : List Step) (s : Step) (q : Place) (parts : Vec Node Global) → Some s ≡ slice_get steps 0 → s ≡ Brackets q parts
    → steps_of (map step_view steps) ≡ tree.brackets_first q (trees_of (views parts.items)) (steps_of (map step_view (drop 1 steps)))
brackets_come steps s q parts e is =
    ap (λ ss. steps_of (map step_view ss)) (first_is steps s e) ∙ ap (λ v. tree.step_first v (steps_of (map step_view (drop 1 steps)))) (ap step_view is ∙ node_brackets_seen q parts)

join_comes : (steps : List Step) (s : Step) (q : Place) (x : Node) → Some s ≡ slice_get steps 0 → s ≡ Join q x
    → steps_of (map step_view steps) ≡ tree.join_first q (view x) (steps_of (map step_view (drop 1 steps)))
join_comes steps s q x e is =
    ap (λ ss. steps_of (map step_view ss)) (first_is steps s e) ∙ ap (λ v. tree.step_first v (steps_of (map step_view (drop 1 steps)))) (ap step_view is ∙ node_join_seen q x)

module _ (g : Globals) (ls : List (List ℕ)) (steps : List Step) where
  -- brackets that are the call's own
  module _ (s : Step) (q : Place) (parts : Vec Node Global) where
    pub call_taken : (p : Place) (n : ℕ) (xs args : PhraseTrees) (rest : StepTrees) (y : PhraseTree)
        → Some s ≡ slice_get steps 0 → s ≡ Brackets q parts → takes (header_at g n) (length parts.items) ≡ true
        → (all_faults g ls (trees_of (views parts.items)) ≡ []) × (args ≡ all_resolved g ls (trees_of (views parts.items)))
        → (step_faults g ls (steps_of (map step_view (drop 1 steps))) ≡ []) × (rest ≡ steps_resolved g ls (steps_of (map step_view (drop 1 steps))))
        → y ≡ path_of (called p n args) rest
        → (step_faults g ls (steps_of (map step_view steps)) ≡ []) × (y ≡ call_of g p n xs (steps_resolved g ls (steps_of (map step_view steps))))
    call_taken p n xs args rest y e is taken given behind made =
        let ts = trees_of (views parts.items) in
        let more = steps_of (map step_view (drop 1 steps)) in
        let inside = all_resolved g ls ts in
        let after = steps_resolved g ls more in
        let own : takes (header_at g n) (phrases_count inside) ≡ true = ap (takes (header_at g n)) (resolved_count g ls ts ∙ counted parts.items) ∙ taken in
        subst (λ (t : Steps). (step_faults g ls t ≡ []) × (y ≡ call_of g p n xs (steps_resolved g ls t))) (sym (brackets_come steps s q parts e is)) (
          ap (λ fs. fs ++ step_faults g ls more) given.0 ∙ behind.0,
          made ∙ ap (λ a. path_of (called p n a) rest) given.1 ∙ ap (path_of (called p n inside)) behind.1
              ∙ sym (ap (λ b. if b then path_of (called p n inside) after else path (called p n xs) (brackets_first q inside after)) own),
        )

    -- brackets without a fault, behind which there is one
    pub call_rest_told : (e : NameFault) → Some s ≡ slice_get steps 0 → s ≡ Brackets q parts → all_faults g ls (trees_of (views parts.items)) ≡ [] → IsTold e (step_faults g ls (steps_of (map step_view (drop 1 steps)))) → IsTold e (step_faults g ls (steps_of (map step_view steps)))
    call_rest_told e there is none told =
        let more = steps_of (map step_view (drop 1 steps)) in
        subst (λ (t : Steps). IsTold e (step_faults g ls t)) (sym (brackets_come steps s q parts there is)) (told_second e (all_faults g ls (trees_of (views parts.items))) (step_faults g ls more) none told)

    pub call_told : (e : NameFault) → Some s ≡ slice_get steps 0 → s ≡ Brackets q parts → IsTold e (all_faults g ls (trees_of (views parts.items))) → IsTold e (step_faults g ls (steps_of (map step_view steps)))
    call_told e there is told =
        subst (λ (t : Steps). IsTold e (step_faults g ls t)) (sym (brackets_come steps s q parts there is))
        (told_first e (all_faults g ls (trees_of (views parts.items))) (step_faults g ls (steps_of (map step_view (drop 1 steps)))) told)

    -- and such that are not
    pub call_kept : (p : Place) (n : ℕ) (xs : PhraseTrees) → Some s ≡ slice_get steps 0 → s ≡ Brackets q parts → takes (header_at g n) (length parts.items) ≡ false
        → path_of (called p n xs) (steps_resolved g ls (steps_of (map step_view steps))) ≡ call_of g p n xs (steps_resolved g ls (steps_of (map step_view steps)))
    call_kept p n xs e is kept =
        let ts = trees_of (views parts.items) in
        let inside = all_resolved g ls ts in
        let after = steps_resolved g ls (steps_of (map step_view (drop 1 steps))) in
        let own : takes (header_at g n) (phrases_count inside) ≡ false = ap (takes (header_at g n)) (resolved_count g ls ts ∙ counted parts.items) ∙ kept in
        subst (λ (t : Steps). path_of (called p n xs) (steps_resolved g ls t) ≡ call_of g p n xs (steps_resolved g ls t)) (sym (brackets_come steps s q parts e is))
        (sym (ap (λ b. if b then path_of (called p n inside) after else path (called p n xs) (brackets_first q inside after)) own))

  pub call_joined : (s : Step) (q : Place) (x : Node) (p : Place) (n : ℕ) (xs : PhraseTrees) → Some s ≡ slice_get steps 0 → s ≡ Join q x
      → path_of (called p n xs) (steps_resolved g ls (steps_of (map step_view steps))) ≡ call_of g p n xs (steps_resolved g ls (steps_of (map step_view steps)))
  call_joined s q x p n xs e is =
      subst (λ (t : Steps). path_of (called p n xs) (steps_resolved g ls t) ≡ call_of g p n xs (steps_resolved g ls t)) (sym (join_comes steps s q x e is)) refl

  -- what is seen as a call, which takes no brackets
  pub plain_told : (r : Result Phrase NameFault) (p : Place) (n : ℕ) (xs : PhraseTrees) (h : PhraseTree) → h ≡ called p n xs
      → path_of (called p n xs) (steps_resolved g ls (steps_of (map step_view steps))) ≡ call_of g p n xs (steps_resolved g ls (steps_of (map step_view steps)))
      → Answers r (step_faults g ls (steps_of (map step_view steps))) (λ x. phrase_view x ≡ path_of h (steps_resolved g ls (steps_of (map step_view steps))))
      → Answers r (step_faults g ls (steps_of (map step_view steps))) (λ x. phrase_view x ≡ call_of g p n xs (steps_resolved g ls (steps_of (map step_view steps))))
  plain_told r p n xs h is same =
      subst (λ (z : PhraseTree). Answers r (step_faults g ls (steps_of (map step_view steps))) (λ x. phrase_view x ≡ z)) (ap (λ (k : PhraseTree). path_of k (steps_resolved g ls (steps_of (map step_view steps)))) is ∙ same)
