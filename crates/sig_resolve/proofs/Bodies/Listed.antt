-- What is told of a node that is single or holds a list, and what is made of it.
use Rattle.std.proofs.Common.{◌≡◌, ℕ, List, [], ◌++◌, map, inl, inr, refl, ap, ◌∙◌, subst, Box, Vec, Global}
use Rattle.alloy_lex.specs.declared.token.Place.{Place}
use Rattle.alloy_syntax.specs.declared.tree.Binding.{Binding}
use Rattle.alloy_syntax.specs.declared.tree.Constant.{Constant}
use Rattle.alloy_syntax.specs.declared.tree.Declaration.{Declaration}
use Rattle.alloy_syntax.specs.declared.tree.Link.{Link}
use Rattle.alloy_syntax.specs.declared.tree.Name.{Name}
use Rattle.alloy_syntax.specs.declared.tree.Node.{Node}
use Rattle.alloy_syntax.specs.declared.tree.Node.TheVariants as node
use Rattle.alloy_syntax.specs.declared.tree.Number.{Number}
use Rattle.alloy_syntax.specs.declared.tree.Quantifier.{Quantifier}
use Rattle.alloy_syntax.specs.declared.tree.Step.{Step}
use Rattle.alloy_syntax.specs.Tree as tree
use Rattle.alloy_syntax.specs.Tree.{trees_of, links_of, steps_of, declarations_of, bindings_of}
use Rattle.alloy_syntax.specs.View.{view, views, link_view, step_view, declaration_view, binding_view}
use Rattle.named_model.specs.declared.fault.NameFault.{NameFault}
use Rattle.named_model.specs.declared.phrase.Domain.{Domain}
use Rattle.named_model.specs.declared.phrase.Link.{Link as PhraseLink}
use Rattle.named_model.specs.declared.phrase.Phrase.{Phrase}
use Rattle.named_model.specs.declared.phrase.Phrase.TheVariants as part
use Rattle.named_model.specs.Names as spec
use Rattle.named_model.specs.Phrase as phrase
use Rattle.named_model.specs.Phrase.{PhraseTree, PhraseTrees, LinkTrees, DomainTrees}
use Rattle.named_model.specs.View as seen
use Rattle.named_model.specs.View.{phrase_view, phrases_view}
use Rattle.name_tables.specs.InForce.{InForce, with_locals}
use Rattle.name_tables.specs.Told.{IsTold}
use Rattle.name_tables.proofs.Telling.{told_first}
use Rattle.sig_resolve.proofs.Bodies.Arms.{Told, Made, told_second, told_of, made_of}
use Rattle.sig_resolve.proofs.Bodies.SeenNodes.{named_node, numbered_node, constant_node, block_node, chain_node, path_node, quantified_node, let_node}
use Rattle.sig_resolve.proofs.Bodies.SeenPhrases.{numbered_phrase, constant_phrase, block_phrase, chain_phrase, quantified_phrase, let_phrase}

-- what holds at one place holds at an equal one
pub moved : {A X : Type 0} (P : A → X → Type 0) (m n : A) (x y : X) → m ≡ n → x ≡ y → P m x → P n y
moved P m n x y names is made = subst (λ k. P k y) names (subst (P m) is made)

-- where no part has a fault, only want of memory is told, and that of any parts
pub only_memory : (e : NameFault) (fs : List NameFault) → IsTold e [] → IsTold e fs
only_memory e fs (inl memory) = inl memory
only_memory e fs (inr first) = absurd cc

-- ---- what is told of lists, and made of them

abbrev pub StepsTold : NameFault → InForce → List Step → Type 0
StepsTold e n xs = IsTold e (spec.step_faults n.globals n.locals (steps_of (map step_view xs)))

abbrev pub DomainsTold : NameFault → InForce → List Declaration → Type 0
DomainsTold e n xs = IsTold e (spec.declaration_faults n.globals n.locals (declarations_of (map declaration_view xs)))

abbrev pub ValuesTold : NameFault → InForce → List Binding → Type 0
ValuesTold e n xs = IsTold e (spec.binding_faults n.globals n.locals (bindings_of (map binding_view xs)))

abbrev pub AllMade : PhraseTrees → InForce → List Node → Type 0
AllMade p n xs = (spec.all_faults n.globals n.locals (trees_of (views xs)) ≡ []) × (p ≡ spec.all_resolved n.globals n.locals (trees_of (views xs)))

abbrev pub LinksMade : LinkTrees → InForce → List Link → Type 0
LinksMade p n xs = (spec.link_faults n.globals n.locals (links_of (map link_view xs)) ≡ []) × (p ≡ spec.links_resolved n.globals n.locals (links_of (map link_view xs)))

abbrev pub DomainsMade : DomainTrees → InForce → List Declaration → Type 0
DomainsMade p n xs = (spec.declaration_faults n.globals n.locals (declarations_of (map declaration_view xs)) ≡ []) × (p ≡ spec.declarations_resolved n.globals n.locals (declarations_of (map declaration_view xs)))

abbrev pub ValuesMade : PhraseTrees → InForce → List Binding → Type 0
ValuesMade p n xs = (spec.binding_faults n.globals n.locals (bindings_of (map binding_view xs)) ≡ []) × (p ≡ spec.bindings_resolved n.globals n.locals (bindings_of (map binding_view xs)))

-- an expression with the steps behind it
abbrev pub PathMade : PhraseTree → PhraseTree → InForce → List Step → Type 0
PathMade head p n xs = (spec.step_faults n.globals n.locals (steps_of (map step_view xs)) ≡ []) × (p ≡ spec.with_steps n.globals head (spec.steps_resolved n.globals n.locals (steps_of (map step_view xs))))

-- an expression, directly behind which so many parts stand in brackets
abbrev pub HeadTold : InForce → NameFault → ℕ → Node → Type 0
HeadTold n e count x = IsTold e (spec.faults_of n.globals n.locals count (view x))

abbrev pub HeadMade : InForce → PhraseTree → ℕ → Node → Type 0
HeadMade n p count x = (spec.faults_of n.globals n.locals count (view x) ≡ []) × (p ≡ spec.resolved n.globals n.locals (view x))

abbrev pub bracketed : List Step → ℕ
bracketed xs = spec.bracketed_in (steps_of (map step_view xs))

-- the names that are in force behind domains, and behind the values of a `let`
abbrev pub behind_domains : InForce → List Declaration → InForce
behind_domains n xs = with_locals n (spec.behind_declarations n.locals (declarations_of (map declaration_view xs)))

abbrev pub behind_values : InForce → List Binding → InForce
behind_values n xs = with_locals n (spec.behind_bindings n.locals (bindings_of (map binding_view xs)))

-- ---- the node that holds them

module _ (n : InForce) (behind : ℕ) (whole : Node) where
  abbrev pub WholeTold : NameFault → Type 0
  WholeTold e = IsTold e (spec.faults_of n.globals n.locals behind (view whole))

  abbrev pub WholeMade : PhraseTree → Type 0
  WholeMade p = (spec.faults_of n.globals n.locals behind (view whole) ≡ []) × (p ≡ spec.resolved n.globals n.locals (view whole))

  pub named_told : (x : Name) (e : NameFault) → whole ≡ node.Named x
      → IsTold e (spec.name_faults n.globals x.place behind (spec.standing_of n.globals n.locals x.text)) → WholeTold e
  named_told x e is told = told_of n behind whole (tree.named x) e (ap view is ∙ named_node x) told

  pub named_made : (x : Name) (p : PhraseTree) → whole ≡ node.Named x
      → (spec.name_faults n.globals x.place behind (spec.standing_of n.globals n.locals x.text) ≡ []) × (p ≡ spec.named_as x.place (spec.standing_of n.globals n.locals x.text)) → WholeMade p
  named_made x p is made = made_of n behind whole (tree.named x) p (ap view is ∙ named_node x) made

  pub numbered_made : (k : Number) → whole ≡ node.Numbered k → WholeMade (phrase_view (part.Numbered k))
  numbered_made k is = made_of n behind whole (tree.numbered k) (phrase_view (part.Numbered k)) (ap view is ∙ numbered_node k) (refl, numbered_phrase k)

  pub constant_made : (c : Constant) (p : Place) → whole ≡ node.Constant c p → WholeMade (phrase_view (part.Constant c p))
  constant_made c p is = made_of n behind whole (tree.constant c p) (phrase_view (part.Constant c p)) (ap view is ∙ constant_node c p) (refl, constant_phrase c p)

  pub block_made : (p : Place) (xs : Vec Node Global) (ys : Vec Phrase Global) → whole ≡ node.Block p xs → AllMade (phrases_view ys.items) n xs.items
      → WholeMade (phrase_view (part.Block p ys))
  block_made p xs ys is made =
      made_of n behind whole (tree.block p (trees_of (views xs.items))) (phrase_view (part.Block p ys)) (ap view is ∙ block_node p xs) (made.0, block_phrase p ys ∙ ap (phrase.block p) made.1)

  pub chain_made : (x : Box Node Global) (ls : Vec Link Global) (y : Box Phrase Global) (ks : Vec PhraseLink Global) → whole ≡ node.Chain x ls
      → Made (phrase_view y.value) n x.value → LinksMade (phrase.links_of (map seen.link_view ks.items)) n ls.items → WholeMade (phrase_view (part.Chain y ks))
  chain_made x ls y ks is one two =
      let more = links_of (map link_view ls.items) in
      made_of n behind whole (tree.chain (view x.value) more) (phrase_view (part.Chain y ks)) (ap view is ∙ chain_node x ls) (
        ap (λ fs. fs ++ spec.link_faults n.globals n.locals more) one.0 ∙ two.0,
        chain_phrase y ks ∙ (ap (λ (a : PhraseTree). phrase.chain a (phrase.links_of (map seen.link_view ks.items))) one.1 ∙ ap (phrase.chain (spec.resolved n.globals n.locals (view x.value))) two.1),
      )

  module _ (x : Box Node Global) (ss : Vec Step Global) (is : whole ≡ node.Path x ss) where
    abbrev Steps : tree.Steps
    Steps = steps_of (map step_view ss.items)

    pub head_told : (e : NameFault) → HeadTold n e (bracketed ss.items) x.value → WholeTold e
    head_told e told =
        told_of n behind whole (tree.path (view x.value) Steps) e (ap view is ∙ path_node x ss) (told_first e (spec.faults_of n.globals n.locals (bracketed ss.items) (view x.value)) (spec.step_faults n.globals n.locals Steps) told)

    module _ (head : PhraseTree) (one : HeadMade n head (bracketed ss.items) x.value) where
      pub steps_told : (e : NameFault) → StepsTold e n ss.items → WholeTold e
      steps_told e told =
          told_of n behind whole (tree.path (view x.value) Steps) e (ap view is ∙ path_node x ss) (told_second e (spec.faults_of n.globals n.locals (bracketed ss.items) (view x.value)) (spec.step_faults n.globals n.locals Steps) one.0 told)

      pub path_made : (p : PhraseTree) → PathMade head p n ss.items → WholeMade p
      path_made p two =
          made_of n behind whole (tree.path (view x.value) Steps) p (ap view is ∙ path_node x ss) (
            ap (λ fs. fs ++ spec.step_faults n.globals n.locals Steps) one.0 ∙ two.0,
            two.1 ∙ ap (λ (h : PhraseTree). spec.with_steps n.globals h (spec.steps_resolved n.globals n.locals Steps)) one.1,
          )

  module _ (q : Quantifier) (p : Place) (ds : Vec Declaration Global) (x : Box Node Global) (is : whole ≡ node.Quantified q p ds x) where
    abbrev Domains : tree.Declarations
    Domains = declarations_of (map declaration_view ds.items)

    abbrev Within : InForce
    Within = behind_domains n ds.items

    pub domains_told : (e : NameFault) → DomainsTold e n ds.items → WholeTold e
    domains_told e told =
        told_of n behind whole (tree.quantified q p Domains (view x.value)) e (ap view is ∙ quantified_node q p ds x) (told_first e (spec.declaration_faults n.globals n.locals Domains) (spec.faults_of Within.globals Within.locals 0 (view x.value)) told)

    module _ (found : DomainTrees) (one : DomainsMade found n ds.items) where
      pub within_told : (e : NameFault) → Told e Within x.value → WholeTold e
      within_told e told =
          told_of n behind whole (tree.quantified q p Domains (view x.value)) e (ap view is ∙ quantified_node q p ds x) (told_second e (spec.declaration_faults n.globals n.locals Domains) (spec.faults_of Within.globals Within.locals 0 (view x.value)) one.0 told)

      pub quantified_made : (es : Vec Domain Global) (y : Box Phrase Global) → phrase.domains_of (map seen.domain_view es.items) ≡ found → Made (phrase_view y.value) Within x.value
          → WholeMade (phrase_view (part.Quantified q p es y))
      quantified_made es y same two =
          made_of n behind whole (tree.quantified q p Domains (view x.value)) (phrase_view (part.Quantified q p es y)) (ap view is ∙ quantified_node q p ds x) (
            ap (λ fs. fs ++ spec.faults_of Within.globals Within.locals 0 (view x.value)) one.0 ∙ two.0,
            quantified_phrase q p es y ∙ (ap (λ (a : DomainTrees). phrase.quantified q p a (phrase_view y.value)) (same ∙ one.1) ∙ ap (phrase.quantified q p (spec.declarations_resolved n.globals n.locals Domains)) two.1),
          )

  module _ (p : Place) (bs : Vec Binding Global) (x : Box Node Global) (is : whole ≡ node.Let p bs x) where
    abbrev Bindings : tree.Bindings
    Bindings = bindings_of (map binding_view bs.items)

    abbrev Inner : InForce
    Inner = behind_values n bs.items

    pub values_told : (e : NameFault) → ValuesTold e n bs.items → WholeTold e
    values_told e told =
        told_of n behind whole (tree.bound_by_let p Bindings (view x.value)) e (ap view is ∙ let_node p bs x) (told_first e (spec.binding_faults n.globals n.locals Bindings) (spec.faults_of Inner.globals Inner.locals 0 (view x.value)) told)

    module _ (found : PhraseTrees) (one : ValuesMade found n bs.items) where
      pub inner_told : (e : NameFault) → Told e Inner x.value → WholeTold e
      inner_told e told =
          told_of n behind whole (tree.bound_by_let p Bindings (view x.value)) e (ap view is ∙ let_node p bs x) (told_second e (spec.binding_faults n.globals n.locals Bindings) (spec.faults_of Inner.globals Inner.locals 0 (view x.value)) one.0 told)

      pub let_made : (vs : Vec Phrase Global) (y : Box Phrase Global) → phrases_view vs.items ≡ found → Made (phrase_view y.value) Inner x.value
          → WholeMade (phrase_view (part.Let p vs y))
      let_made vs y same two =
          made_of n behind whole (tree.bound_by_let p Bindings (view x.value)) (phrase_view (part.Let p vs y)) (ap view is ∙ let_node p bs x) (
            ap (λ fs. fs ++ spec.faults_of Inner.globals Inner.locals 0 (view x.value)) one.0 ∙ two.0,
            let_phrase p vs y ∙ (ap (λ (a : PhraseTrees). phrase.bound_by_let p a (phrase_view y.value)) (same ∙ one.1) ∙ ap (phrase.bound_by_let p (spec.bindings_resolved n.globals n.locals Bindings)) two.1),
          )
