-- Loops over parts that see the same names: formulas, operands of chains, and steps.
use Rattle.std.proofs.Common.{◌≡◌, ℕ, ◌+◌, ◌<◌, ◌≤◌, List, [], ◌∷◌, ◌++◌, map, length, get_or, drop, refl, sym, ap, ◌∙◌}
use Rattle.std.proofs.lemmas.List.{map_push}
use Rattle.alloy_syntax.specs.declared.tree.Node.{Node}
use Rattle.alloy_syntax.specs.declared.tree.Link.{Link as NodeLink}
use Rattle.alloy_syntax.specs.declared.tree.Step.{Step as NodeStep}
use Rattle.alloy_syntax.specs.Tree as tree
use Rattle.alloy_syntax.specs.Tree.{trees_of, links_of, steps_of}
use Rattle.alloy_syntax.specs.View.{view, views, link_view, step_view}
use Rattle.named_model.specs.declared.fault.NameFault.{NameFault}
use Rattle.named_model.specs.declared.phrase.Phrase.{Phrase}
use Rattle.named_model.specs.declared.phrase.Link.{Link}
use Rattle.named_model.specs.declared.phrase.Step.{Step}
use Rattle.named_model.specs.Phrase as phrase
use Rattle.named_model.specs.View as seen
use Rattle.named_model.specs.Names.{Globals, resolved, all_resolved, links_resolved, steps_resolved, faults_of, all_faults, link_faults, step_faults}
use Rattle.name_tables.specs.Told.{IsTold}
use Rattle.sig_resolve.specs.Bodies.Each.{faults_of_step, resolved_before}
use Rattle.name_tables.proofs.Reaching.{Reached, reached_more, reached_fault, reached_all, next_is, none_is, link_first, phrases_are, links_are, steps_are}

module _ (g : Globals) where
  abbrev pub NodesLeft : List (List ℕ) → List Node → List Node → List Phrase → Type 0
  NodesLeft ls all rest found = Reached phrase.more_phrases (λ inner xs. all_faults g inner (trees_of (views xs))) (λ inner xs. all_resolved g inner (trees_of (views xs))) ls all ls rest (map seen.phrase_view found)

  abbrev pub LinksLeft : List (List ℕ) → List NodeLink → List NodeLink → List Link → Type 0
  LinksLeft ls all rest found = Reached link_first (λ inner xs. link_faults g inner (links_of (map link_view xs))) (λ inner xs. links_resolved g inner (links_of (map link_view xs))) ls all ls rest (map seen.link_view found)

  abbrev pub StepsLeft : List (List ℕ) → List NodeStep → List NodeStep → List Step → Type 0
  StepsLeft ls all rest found = Reached phrase.step_first (λ inner xs. step_faults g inner (steps_of (map step_view xs))) (λ inner xs. steps_resolved g inner (steps_of (map step_view xs))) ls all ls rest (map seen.step_view found)

  module _ (ls : List (List ℕ)) (all : List Node) (i : ℕ) where
    pub nodes_more : (x : Node) (y : Phrase) (found more : List Phrase) → i < length all → x ≡ get_or all i x → more ≡ found ++ y ∷ []
        → (faults_of g ls 0 (view x) ≡ []) × (seen.phrase_view y ≡ resolved g ls (view x))
        → NodesLeft ls all (drop i all) found → NodesLeft ls all (drop (i + 1) all) more
    nodes_more x y found more l is pushed one before =
        let rest = drop (i + 1) all in
        reached_more phrase.more_phrases (λ inner xs. all_faults g inner (trees_of (views xs))) (λ inner xs. all_resolved g inner (trees_of (views xs))) ls all ls ls (drop i all) rest x (seen.phrase_view y) (map seen.phrase_view found) (map seen.phrase_view more) (faults_of g ls 0 (view x))
        (next_is all i x l is) (ap (map seen.phrase_view) pushed ∙ map_push seen.phrase_view found y) refl one.0
        (ap (λ z. phrase.more_phrases z (all_resolved g ls (trees_of (views rest)))) (sym one.1)) before

    pub nodes_fault : (x : Node) (found : List Phrase) (e : NameFault) → i < length all → x ≡ get_or all i x → IsTold e (faults_of g ls 0 (view x))
        → NodesLeft ls all (drop i all) found → IsTold e (all_faults g ls (trees_of (views all)))
    nodes_fault x found e l is told before =
        reached_fault phrase.more_phrases (λ inner xs. all_faults g inner (trees_of (views xs))) (λ inner xs. all_resolved g inner (trees_of (views xs))) ls all ls (drop i all) (drop (i + 1) all) x (map seen.phrase_view found) (faults_of g ls 0 (view x)) (all_faults g ls (trees_of (views (drop (i + 1) all)))) e
        (next_is all i x l is) refl told before

    pub nodes_all : (found : List Phrase) → length all ≤ i → NodesLeft ls all (drop i all) found
        → (all_faults g ls (trees_of (views all)) ≡ []) × (seen.phrases_view found ≡ all_resolved g ls (trees_of (views all)))
    nodes_all found l before =
        let done = reached_all phrase.more_phrases (λ inner xs. all_faults g inner (trees_of (views xs))) (λ inner xs. all_resolved g inner (trees_of (views xs))) ls all ls (drop i all) (map seen.phrase_view found) phrase.no_phrases (none_is all i l) refl refl before in
        (done.0, phrases_are (map seen.phrase_view found) ∙ done.1)

  module _ (ls : List (List ℕ)) (all : List NodeLink) (i : ℕ) where
    pub links_more : (x : NodeLink) (y : Link) (found more : List Link) → i < length all → x ≡ get_or all i x → more ≡ found ++ y ∷ []
        → (faults_of g ls 0 (link_view x).operand ≡ []) × (seen.link_view y ≡ record { operator = (link_view x).operator; place = (link_view x).place; operand = resolved g ls (link_view x).operand })
        → LinksLeft ls all (drop i all) found → LinksLeft ls all (drop (i + 1) all) more
    links_more x y found more l is pushed one before =
        let rest = drop (i + 1) all in
        reached_more link_first (λ inner xs. link_faults g inner (links_of (map link_view xs))) (λ inner xs. links_resolved g inner (links_of (map link_view xs))) ls all ls ls (drop i all) rest x (seen.link_view y) (map seen.link_view found) (map seen.link_view more) (faults_of g ls 0 (link_view x).operand)
        (next_is all i x l is) (ap (map seen.link_view) pushed ∙ map_push seen.link_view found y) refl one.0
        (ap (λ (z : phrase.LinkTree). link_first z (links_resolved g ls (links_of (map link_view rest)))) (sym one.1)) before

    pub links_fault : (x : NodeLink) (found : List Link) (e : NameFault) → i < length all → x ≡ get_or all i x → IsTold e (faults_of g ls 0 (link_view x).operand)
        → LinksLeft ls all (drop i all) found → IsTold e (link_faults g ls (links_of (map link_view all)))
    links_fault x found e l is told before =
        reached_fault link_first (λ inner xs. link_faults g inner (links_of (map link_view xs))) (λ inner xs. links_resolved g inner (links_of (map link_view xs))) ls all ls (drop i all) (drop (i + 1) all) x (map seen.link_view found) (faults_of g ls 0 (link_view x).operand) (link_faults g ls (links_of (map link_view (drop (i + 1) all)))) e
        (next_is all i x l is) refl told before

    pub links_all : (found : List Link) → length all ≤ i → LinksLeft ls all (drop i all) found
        → (link_faults g ls (links_of (map link_view all)) ≡ []) × (phrase.links_of (map seen.link_view found) ≡ links_resolved g ls (links_of (map link_view all)))
    links_all found l before =
        let done = reached_all link_first (λ inner xs. link_faults g inner (links_of (map link_view xs))) (λ inner xs. links_resolved g inner (links_of (map link_view xs))) ls all ls (drop i all) (map seen.link_view found) phrase.no_links (none_is all i l) refl refl before in
        (done.0, links_are (map seen.link_view found) ∙ done.1)

  -- a step in front of others
  pub step_apart : (ls : List (List ℕ)) (s : tree.StepTree) (rest : tree.Steps) → step_faults g ls (tree.step_first s rest) ≡ faults_of_step g ls s ++ step_faults g ls rest
  step_apart ls (tree.joined p t) rest = refl
  step_apart ls (tree.in_brackets p ts) rest = refl

  pub step_before : (ls : List (List ℕ)) (s : tree.StepTree) (rest : tree.Steps) → steps_resolved g ls (tree.step_first s rest) ≡ resolved_before g ls s (steps_resolved g ls rest)
  step_before ls (tree.joined p t) rest = refl
  step_before ls (tree.in_brackets p ts) rest = refl

  module _ (ls : List (List ℕ)) (whole all : List NodeStep) (i : ℕ) where
    pub steps_more : (x : NodeStep) (y : Step) (found more : List Step) → i < length whole → x ≡ get_or whole i x → more ≡ found ++ y ∷ []
        → (faults_of_step g ls (step_view x) ≡ []) × ((rest : phrase.StepTrees) → phrase.step_first (seen.step_view y) rest ≡ resolved_before g ls (step_view x) rest)
        → StepsLeft ls all (drop i whole) found → StepsLeft ls all (drop (i + 1) whole) more
    steps_more x y found more l is pushed one before =
        let rest = drop (i + 1) whole in
        reached_more phrase.step_first (λ inner xs. step_faults g inner (steps_of (map step_view xs))) (λ inner xs. steps_resolved g inner (steps_of (map step_view xs))) ls all ls ls (drop i whole) rest x (seen.step_view y) (map seen.step_view found) (map seen.step_view more) (faults_of_step g ls (step_view x))
        (next_is whole i x l is) (ap (map seen.step_view) pushed ∙ map_push seen.step_view found y) (step_apart ls (step_view x) (steps_of (map step_view rest))) one.0
        (step_before ls (step_view x) (steps_of (map step_view rest)) ∙ sym (one.1 (steps_resolved g ls (steps_of (map step_view rest))))) before

    pub steps_fault : (x : NodeStep) (found : List Step) (e : NameFault) → i < length whole → x ≡ get_or whole i x → IsTold e (faults_of_step g ls (step_view x))
        → StepsLeft ls all (drop i whole) found → IsTold e (step_faults g ls (steps_of (map step_view all)))
    steps_fault x found e l is told before =
        reached_fault phrase.step_first (λ inner xs. step_faults g inner (steps_of (map step_view xs))) (λ inner xs. steps_resolved g inner (steps_of (map step_view xs))) ls all ls (drop i whole) (drop (i + 1) whole) x (map seen.step_view found) (faults_of_step g ls (step_view x)) (step_faults g ls (steps_of (map step_view (drop (i + 1) whole)))) e
        (next_is whole i x l is) (step_apart ls (step_view x) (steps_of (map step_view (drop (i + 1) whole)))) told before

    pub steps_all : (found : List Step) → length whole ≤ i → StepsLeft ls all (drop i whole) found
        → (step_faults g ls (steps_of (map step_view all)) ≡ []) × (phrase.steps_of (map seen.step_view found) ≡ steps_resolved g ls (steps_of (map step_view all)))
    steps_all found l before =
        let done = reached_all phrase.step_first (λ inner xs. step_faults g inner (steps_of (map step_view xs))) (λ inner xs. steps_resolved g inner (steps_of (map step_view xs))) ls all ls (drop i whole) (map seen.step_view found) phrase.no_steps (none_is whole i l) refl refl before in
        (done.0, steps_are (map seen.step_view found) ∙ done.1)
