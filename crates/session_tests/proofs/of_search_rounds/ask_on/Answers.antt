use Rattle.std.proofs.Common.{◌≡◌, ◌++◌, ℕ, List, All, sym, ◌∙◌, ap, subst}
use Rattle.std.proofs.lemmas.List.Elements.{All-append, All-weaker}
use Rattle.session_rules.specs.Proofs.{IsCopy}
use Rattle.session_tests.proofs.of_search_rounds.ask_on.Goals as goal

pub searched-requires-clause-copies : goal.searched-requires-clause-copies
searched-requires-clause-copies c =
    let p = c.args.made.now.problem in
    let floor = c.args.floor.now in
    subst (λ (was : List (List ℕ)). All (IsCopy p floor was) c.as_slice-2.result.now) (sym c.as_slice.ensures.value) (subst (All (IsCopy p floor c.args.shown.now.items)) (sym c.as_slice-2.ensures.value) c.requires.copies)

pub returns-clause-copies : goal.returns-clause-copies
returns-clause-copies c =
    let p = c.args.made.now.problem in
    let floor = c.args.floor.now in
    let shown : List (List ℕ) = c.args.shown.now.items in
    let copies : List (List ℕ) = c.args.copies.now.items in
    let more : List (List ℕ) = c.in_ok-next.next.copies in
    let new : All (IsCopy p floor shown) more = subst (λ (was : List (List ℕ)). All (IsCopy p floor was) more) c.as_slice.ensures.value c.in_ok-next.ensures.copies in
    let all = All-append (IsCopy p floor shown) copies more c.requires.copies new in
    let now : c.append.new.self.items ≡ copies ++ more = c.in_ok-append.ensures.items ∙ ap (λ (cs : List (List ℕ)). copies ++ cs) c.into_scenarios-more.ensures in
    let later = All-weaker (IsCopy p floor shown) (IsCopy p floor c.taken.new.shown.items) c.in_ok-told.ensures.copies (copies ++ more) all in
    subst (All (IsCopy p floor c.taken.new.shown.items)) (sym now) later
