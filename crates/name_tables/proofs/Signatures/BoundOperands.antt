-- Loops over the operands of a bound.
use Rattle.std.proofs.Common.{◌≡◌, ℕ, ◌+◌, ◌<◌, ◌≤◌, List, [], ◌∷◌, ◌++◌, map, length, get_or, drop, sym, ap, ◌∙◌}
use Rattle.std.proofs.lemmas.List.{map_push}
use Rattle.std.specs.Prelude.{Vec, Box}
use Rattle.std.specs.declared.alloc.Global.{Global}
use Rattle.alloy_lex.specs.declared.token.Place.{Place}
use Rattle.alloy_syntax.specs.declared.tree.Name.{Name}
use Rattle.alloy_syntax.specs.declared.tree.Bound.{Bound, fold-roll-Bound}
use Rattle.alloy_syntax.specs.declared.tree.Bound.TheVariants.{rolls-Named, rolls-Bracketed, rolls-Union, rolls-Arrows}
use Rattle.alloy_syntax.specs.declared.tree.BoundArrow.{BoundArrow, fold_out-BoundArrow}
use Rattle.alloy_syntax.specs.declared.tree.Bound.TheOpen.{Bound-F}
use Rattle.alloy_syntax.specs.declared.tree.Bound.TheVariants as bound
use Rattle.alloy_syntax.specs.Tree.{BoundTree, BoundArrowTree, BoundUnions, BoundArrows, bound_named, bound_bracketed, bound_union, bound_arrows, unions_of, arrows_of}
use Rattle.alloy_syntax.specs.View.{bound_view, arrow_view, bound_level, arrow_level}
use Rattle.named_model.specs.declared.fault.NameFault.{NameFault}
use Rattle.named_model.specs.declared.phrase.Link.{Link}
use Rattle.named_model.specs.declared.phrase.Phrase.{Phrase, fold-roll-Phrase}
use Rattle.named_model.specs.declared.phrase.Phrase.TheVariants as phrase
use Rattle.named_model.specs.declared.phrase.Phrase.TheVariants.{rolls-Chain}
use Rattle.named_model.specs.declared.phrase.Phrase.TheOpen.{Phrase-F}
use Rattle.named_model.specs.Phrase.{PhraseTree, StepTree, DomainTree, LinkTree, chain, LinkTrees, links_of, no_links}
use Rattle.named_model.specs.View.{phrase_view, phrase_level, step_level, domain_level, link_level, link_view}
use Rattle.named_model.specs.Names.{Globals}
use Rattle.named_model.specs.Declarations.{bound_resolved, unions_resolved, arrows_resolved}
use Rattle.named_model.specs.Faults.{bound_faults, union_faults, arrow_faults}
use Rattle.name_tables.specs.Told.{IsTold}
use Rattle.name_tables.proofs.Reaching.{Reached, reached_start, reached_more, reached_fault, reached_all, next_is, none_is, link_first, links_are}
use Rattle.name_tables.specs.Signatures.Bounds.{placed_view}

module _ {X : Type 0} (faults : List X → List NameFault) (values : List X → LinkTrees) (all : List X) where
  -- the operands that are left, where those before became these links
  abbrev pub LinksLeft : List X → List Link → Type 0
  LinksLeft rest found = Reached link_first (λ inner xs. faults xs) (λ inner xs. values xs) [] all [] rest (map link_view found)

  pub links_start : LinksLeft all []
  links_start = reached_start link_first (λ inner xs. faults xs) (λ inner xs. values xs) [] all

  module _ (i : ℕ) (found : List Link) (before : LinksLeft (drop i all) found) where
    pub links_more : (x : X) (y : Link) (more : List Link) (fs : List NameFault) → i < length all → x ≡ get_or all i x → more ≡ found ++ y ∷ []
        → faults (x ∷ drop (i + 1) all) ≡ fs ++ faults (drop (i + 1) all) → fs ≡ []
        → values (x ∷ drop (i + 1) all) ≡ link_first (link_view y) (values (drop (i + 1) all))
        → LinksLeft (drop (i + 1) all) more
    links_more x y more fs l is pushed apart none one =
        reached_more link_first (λ inner xs. faults xs) (λ inner xs. values xs) [] all [] [] (drop i all) (drop (i + 1) all) x (link_view y) (map link_view found) (map link_view more) fs
        (next_is all i x l is) (ap (map link_view) pushed ∙ map_push link_view found y) apart none one before

    pub links_fault : (x : X) (fs : List NameFault) (e : NameFault) → i < length all → x ≡ get_or all i x
        → faults (x ∷ drop (i + 1) all) ≡ fs ++ faults (drop (i + 1) all) → IsTold e fs → IsTold e (faults all)
    links_fault x fs e l is apart told =
        reached_fault link_first (λ inner xs. faults xs) (λ inner xs. values xs) [] all [] (drop i all) (drop (i + 1) all) x (map link_view found) fs (faults (drop (i + 1) all)) e
        (next_is all i x l is) apart told before

    pub links_all : length all ≤ i → faults [] ≡ [] → values [] ≡ no_links → (faults all ≡ []) × (links_of (map link_view found) ≡ values all)
    links_all l no_fault no_value =
        let done = reached_all link_first (λ inner xs. faults xs) (λ inner xs. values xs) [] all [] (drop i all) (map link_view found) no_links (none_is all i l) no_fault no_value before in
        (done.0, links_are (map link_view found) ∙ done.1)

-- a name
pub seen_named : (n : Name) → bound_view (bound.Named n) ≡ bound_named n
seen_named n = ap bound_view (sym (rolls-Named n)) ∙ fold-roll-Bound BoundTree BoundArrowTree bound_level arrow_level (Bound-F.Named n)

-- a bound in brackets
pub seen_bracketed : (p : Place) (b : Box Bound Global) → bound_view (bound.Bracketed p b) ≡ bound_bracketed p (bound_view b.value)
seen_bracketed p b = ap bound_view (sym (rolls-Bracketed p b)) ∙ fold-roll-Bound BoundTree BoundArrowTree bound_level arrow_level (Bound-F.Bracketed p b)

-- the side behind an arrow
pub seen_side : (a : BoundArrow) → (arrow_view a).side ≡ bound_view a.side
seen_side a = ap (λ (t : BoundArrowTree). t.side) (fold_out-BoundArrow BoundTree BoundArrowTree bound_level arrow_level a)

-- a union of operands
pub seen_union : (b : Box Bound Global) (us : Vec (Place × Bound) Global) → bound_view (bound.Union b us) ≡ bound_union (bound_view b.value) (unions_of (map placed_view us.items))
seen_union b us = ap bound_view (sym (rolls-Union b us)) ∙ fold-roll-Bound BoundTree BoundArrowTree bound_level arrow_level (Bound-F.Union b us)

-- an arrow with its sides
pub seen_arrows : (b : Box Bound Global) (as' : Vec BoundArrow Global) → bound_view (bound.Arrows b as') ≡ bound_arrows (bound_view b.value) (arrows_of (map arrow_view as'.items))
seen_arrows b as' = ap bound_view (sym (rolls-Arrows b as')) ∙ fold-roll-Bound BoundTree BoundArrowTree bound_level arrow_level (Bound-F.Arrows b as')

pub seen_chain : (b : Box Phrase Global) (ls : Vec Link Global) → phrase_view (phrase.Chain b ls) ≡ chain (phrase_view b.value) (links_of (map link_view ls.items))
seen_chain b ls = ap phrase_view (sym (rolls-Chain b ls)) ∙ fold-roll-Phrase PhraseTree StepTree DomainTree LinkTree phrase_level step_level domain_level link_level (Phrase-F.Chain b ls)

pub union_faults_are : (g : Globals) (b : BoundTree) (us : BoundUnions) → bound_faults g b ≡ [] → union_faults g us ≡ [] → bound_faults g (bound_union b us) ≡ []
union_faults_are g b us none more = ap (λ fs. fs ++ union_faults g us) none ∙ more

pub union_value_is : (g : Globals) (b : BoundTree) (us : BoundUnions) (x : PhraseTree) (ls : LinkTrees) → x ≡ bound_resolved g b → ls ≡ unions_resolved g us → chain x ls ≡ bound_resolved g (bound_union b us)
union_value_is g b us x ls first more = ap (λ y. chain y ls) first ∙ ap (chain (bound_resolved g b)) more

-- the same of arrows
pub arrow_faults_are : (g : Globals) (b : BoundTree) (as' : BoundArrows) → bound_faults g b ≡ [] → arrow_faults g as' ≡ [] → bound_faults g (bound_arrows b as') ≡ []
arrow_faults_are g b as' none more = ap (λ fs. fs ++ arrow_faults g as') none ∙ more

pub arrow_value_is : (g : Globals) (b : BoundTree) (as' : BoundArrows) (x : PhraseTree) (ls : LinkTrees) → x ≡ bound_resolved g b → ls ≡ arrows_resolved g as' → chain x ls ≡ bound_resolved g (bound_arrows b as')
arrow_value_is g b as' x ls first more = ap (λ y. chain y ls) first ∙ ap (chain (bound_resolved g b)) more
