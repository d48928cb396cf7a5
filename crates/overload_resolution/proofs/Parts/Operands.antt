-- Loops over the operands of a chain and over the steps of a path, a turn at a time.
use Rattle.std.proofs.Common.{◌≡◌, ℕ, ◌+◌, ◌<◌, ◌≤◌, Bool, List, [], ◌∷◌, ◌++◌, map, length, get_or, drop, Option, None, Result, Ok, refl, sym, ap, subst, ◌∙◌}
use Rattle.std.proofs.lemmas.List.{map_push}
use Rattle.alloy_lex.specs.declared.token.Place.{Place}
use Rattle.named_model.specs.declared.phrase.Phrase.{Phrase}
use Rattle.named_model.specs.declared.phrase.Link.{Link, fold_out-Link}
use Rattle.named_model.specs.declared.phrase.Step.{Step}
use Rattle.named_model.specs.Phrase.{PhraseTree, PhraseTrees, LinkTree, LinkTrees, DomainTree, links_of, StepTree, StepTrees, no_steps, joined, in_brackets, phrases_of, step_first, steps_of}
use Rattle.named_model.specs.View.{phrase_view, link_view, step_view, phrase_level, step_level, domain_level, link_level}
use Rattle.model_types.specs.declared.fault.TypeFault.{TypeFault}
use Rattle.model_types.specs.Bounding.{Lists, operator_type}
use Rattle.model_types.specs.Sorts as sorts
use Rattle.model_types.specs.Typing.{Declared, Local, type_in, links_settled, steps_settled}
use Rattle.model_types.specs.declared.part_sorts.kinds.Kind.{Kind}
use Rattle.model_types.specs.Parts.Kinds.{kind_view}
use Rattle.overload_resolution.specs.Names.Asking.{asks_in_links, asks_in_steps, asks_behind, step_asks}
use Rattle.overload_resolution.proofs.Names.Rests.{step_asking}
use Rattle.overload_resolution.specs.Settling.Inside.{AreSameWhere}
use Rattle.overload_resolution.specs.Settling.Same.{Asks}
use Rattle.overload_resolution.specs.Settling.Single.{link_settled, step_settled, type_behind, link_first}
use Rattle.overload_resolution.specs.Settling.Told.{IsTold}
use Rattle.overload_resolution.proofs.Settling.SharedDeclarations.{asks_right}
use Rattle.overload_resolution.proofs.Settling.Loops.{OperandsLeft, before_links, operands_more, operands_fault, operands_all, StepsLeft, before_steps, steps_more, steps_fault, steps_all}
use Rattle.overload_resolution.proofs.Settling.Reaching.{next_is, none_is, reached_start}
use Rattle.overload_resolution.specs.Parts.Given.{IsGivenFirst, IsGivenBefore}
use Rattle.overload_resolution.specs.Parts.Views.{linked_view, stepped_view}

-- ---- operands

pub link_seen : (y : Link) → link_view y ≡ record { operator = y.operator; place = y.place; operand = phrase_view y.operand }
link_seen y = fold_out-Link PhraseTree StepTree DomainTree LinkTree phrase_level step_level domain_level link_level y

-- what is left behind an operand asks no more than before
pub links_ask : (asked : Bool) (all : List Link) (i : ℕ) (x : Link) → i < length all → x ≡ get_or all i x → Asks (asks_in_links (links_of (map link_view (drop i all)))) asked
    → Asks (asks_in_links (links_of (map link_view (drop (i + 1) all)))) asked
links_ask asked all i x l is asks =
    asks_right (asks_behind (link_view x).operator (link_view x).operand) (asks_in_links (links_of (map link_view (drop (i + 1) all)))) asked
    (subst (λ xs. Asks (asks_in_links (links_of (map link_view xs))) asked) (next_is all i x l is) asks)

module _ (d : Declared) (ls : List Local) (left : Place) (whole : Result (LinkTrees × sorts.Kind) TypeFault) (all : List Link) where
  pub operand_start : (k : sorts.Kind) (a : Lists) → links_settled d ls left k a (links_of (map link_view all)) ≡ whole → OperandsLeft d ls left whole k a (links_of (map link_view all)) []
  operand_start k a is = reached_start (before_links d ls) (links_settled d ls left k a (links_of (map link_view all))) ∙ is

  pub operand_all : (i : ℕ) (k : sorts.Kind) (a : Lists) (found : List Link) → length all ≤ i → OperandsLeft d ls left whole k a (links_of (map link_view (drop i all))) (map link_view found)
      → whole ≡ Ok (links_of (map link_view found), k)
  operand_all i k a found l before =
      operands_all d ls left whole k a (map link_view found) (subst (λ xs. OperandsLeft d ls left whole k a (links_of (map link_view xs)) (map link_view found)) (none_is all i l) before)

  module _ (now : List Local) (same : now ≡ ls) (i : ℕ) (x : Link) (l : i < length all) (is : x ≡ get_or all i x) (k : Kind) (a : Lists) (found : List Link)
      (before : OperandsLeft d ls left whole (kind_view k) a (links_of (map link_view (drop i all))) (map link_view found)) where
    next : OperandsLeft d ls left whole (kind_view k) a (link_first (link_view x) (links_of (map link_view (drop (i + 1) all)))) (map link_view found)
    next = subst (λ xs. OperandsLeft d ls left whole (kind_view k) a (links_of (map link_view xs)) (map link_view found)) (next_is all i x l is) before

    pub operand_more : (asked : Bool) (middle : List Local) (y : Link) (m : Kind) (b : Lists) (more : List Link) → middle ≡ now → more ≡ found ++ y ∷ [] → link_settled d now left (kind_view k) a (link_view x) ≡ Ok (linked_view (y, m))
        → AreSameWhere asked b (operator_type y.operator a (type_in d middle (phrase_view y.operand))) → Asks (asks_in_links (links_of (map link_view (drop i all)))) asked
        → OperandsLeft d ls left whole (kind_view m) b (links_of (map link_view (drop (i + 1) all))) (map link_view more)
    operand_more asked middle y m b more kept pushed one type asks =
        subst (λ ys. OperandsLeft d ls left whole (kind_view m) b (links_of (map link_view (drop (i + 1) all))) ys) (sym (ap (map link_view) pushed ∙ map_push link_view found y))
        (operands_more d ls asked left whole (kind_view k) a b (link_view x) (links_of (map link_view (drop (i + 1) all))) (linked_view (y, m)) (map link_view found)
        (sym (ap (λ n. link_settled d n left (kind_view k) a (link_view x)) same) ∙ one)
        (λ e t. sym (subst (λ (v : LinkTree). AreSameWhere asked b (operator_type v.operator a (type_in d ls v.operand))) (sym (link_seen y))
        (subst (λ n. AreSameWhere asked b (operator_type y.operator a (type_in d n (phrase_view y.operand)))) (kept ∙ same) type) e t))
        (links_ask asked all i x l is asks) next)

    pub operand_fault : (e : TypeFault) → IsTold e (link_settled d now left (kind_view k) a (link_view x)) → IsTold e whole
    operand_fault e told =
        operands_fault d ls left whole (kind_view k) a (link_view x) (links_of (map link_view (drop (i + 1) all))) (map link_view found) e
        (subst (λ n. IsTold e (link_settled d n left (kind_view k) a (link_view x))) same told) next

-- ---- steps

pub steps_ask : (asked : Bool) (all : List Step) (i : ℕ) (x : Step) → i < length all → x ≡ get_or all i x → Asks (asks_in_steps (steps_of (map step_view (drop i all)))) asked
    → Asks (asks_in_steps (steps_of (map step_view (drop (i + 1) all)))) asked
steps_ask asked all i x l is asks =
    asks_right (step_asks (step_view x)) (asks_in_steps (steps_of (map step_view (drop (i + 1) all)))) asked
    (subst (λ (b : Bool). Asks b asked) (step_asking (step_view x) (steps_of (map step_view (drop (i + 1) all))))
    (subst (λ xs. Asks (asks_in_steps (steps_of (map step_view xs))) asked) (next_is all i x l is) asks))

-- the first argument of a step by itself
given_single : (d : Declared) (ls : List Local) (given : Option (Phrase × Kind)) (s : StepTree) (rest : StepTrees) → IsGivenBefore d ls given (step_first s rest) → IsGivenBefore d ls given (step_first s no_steps)
given_single d ls given (joined p x) rest h q xs more is = absurd cc
given_single d ls given (in_brackets p ys) rest h q xs more is =
    let same : phrases_of ys ≡ xs = cc in
    subst (λ (zs : PhraseTrees). IsGivenFirst d ls given zs) same (h p (phrases_of ys) rest refl)

pub given_step : (d : Declared) (ls : List Local) (given : Option (Phrase × Kind)) (all : List Step) (i : ℕ) (x : Step) → i < length all → x ≡ get_or all i x
    → IsGivenBefore d ls given (steps_of (map step_view (drop i all))) → IsGivenBefore d ls given (step_first (step_view x) no_steps)
given_step d ls given all i x l is h =
    given_single d ls given (step_view x) (steps_of (map step_view (drop (i + 1) all))) (subst (λ xs. IsGivenBefore d ls given (steps_of (map step_view xs))) (next_is all i x l is) h)

-- none is given behind the first step
pub none_given : (d : Declared) (ls : List Local) (steps : StepTrees) → IsGivenBefore d ls None steps
none_given d ls steps p xs rest is x more are = tt

module _ (d : Declared) (ls : List Local) (left : Place) (whole : Result (StepTrees × sorts.Kind) TypeFault) (all : List Step) where
  pub step_start : (k : sorts.Kind) (a : Lists) → steps_settled d ls left k a (steps_of (map step_view all)) ≡ whole → StepsLeft d ls left whole k a (steps_of (map step_view all)) []
  step_start k a is = reached_start (before_steps d ls) (steps_settled d ls left k a (steps_of (map step_view all))) ∙ is

  pub step_all : (i : ℕ) (k : sorts.Kind) (a : Lists) (found : List Step) → length all ≤ i → StepsLeft d ls left whole k a (steps_of (map step_view (drop i all))) (map step_first (map step_view found))
      → whole ≡ Ok (steps_of (map step_view found), k)
  step_all i k a found l before =
      steps_all d ls left whole k a (map step_view found) (subst (λ xs. StepsLeft d ls left whole k a (steps_of (map step_view xs)) (map step_first (map step_view found))) (none_is all i l) before)

  module _ (now : List Local) (same : now ≡ ls) (i : ℕ) (x : Step) (l : i < length all) (is : x ≡ get_or all i x) (k : Kind) (a : Lists) (found : List Step)
      (before : StepsLeft d ls left whole (kind_view k) a (steps_of (map step_view (drop i all))) (map step_first (map step_view found))) where
    next_step : StepsLeft d ls left whole (kind_view k) a (step_first (step_view x) (steps_of (map step_view (drop (i + 1) all)))) (map step_first (map step_view found))
    next_step = subst (λ xs. StepsLeft d ls left whole (kind_view k) a (steps_of (map step_view xs)) (map step_first (map step_view found))) (next_is all i x l is) before

    pub step_more : (asked : Bool) (middle : List Local) (y : Step) (m : Kind) (b : Lists) (more : List Step) → middle ≡ now → more ≡ found ++ y ∷ [] → step_settled d now left (kind_view k) a (step_view x) ≡ Ok (stepped_view (y, m))
        → AreSameWhere asked b (type_behind d middle a (step_first (step_view y) no_steps)) → Asks (asks_in_steps (steps_of (map step_view (drop i all)))) asked
        → StepsLeft d ls left whole (kind_view m) b (steps_of (map step_view (drop (i + 1) all))) (map step_first (map step_view more))
    step_more asked middle y m b more kept pushed one type asks =
        subst (λ ys. StepsLeft d ls left whole (kind_view m) b (steps_of (map step_view (drop (i + 1) all))) ys)
        (sym (ap (λ (ys : List Step). map step_first (map step_view ys)) pushed ∙ ap (map step_first) (map_push step_view found y) ∙ map_push step_first (map step_view found) (step_view y)))
        (steps_more d ls asked left whole (kind_view k) a b (step_view x) (steps_of (map step_view (drop (i + 1) all))) (stepped_view (y, m)) (map step_first (map step_view found))
        (sym (ap (λ n. step_settled d n left (kind_view k) a (step_view x)) same) ∙ one)
        (λ e t. sym (subst (λ n. AreSameWhere asked b (type_behind d n a (step_first (step_view y) no_steps))) (kept ∙ same) type e t))
        (steps_ask asked all i x l is asks) next_step)

    pub step_fault : (e : TypeFault) → IsTold e (step_settled d now left (kind_view k) a (step_view x)) → IsTold e whole
    step_fault e told =
        steps_fault d ls left whole (kind_view k) a (step_view x) (steps_of (map step_view (drop (i + 1) all))) (map step_first (map step_view found)) e
        (subst (λ n. IsTold e (step_settled d n left (kind_view k) a (step_view x))) same told) next_step
