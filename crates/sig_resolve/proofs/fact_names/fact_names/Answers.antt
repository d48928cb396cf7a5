use Rattle.std.proofs.Common.{◌≡◌, ◌+◌, ◌++◌, ◌∷◌, ◌∙◌, [], ℕ, List, Option, drop, map, flat_map, ap, sym, append_assoc, append-nil}
use Rattle.std.proofs.lemmas.List.Concat.{flat_map-cons}
use Rattle.alloy_syntax.specs.declared.tree.Paragraph.{Paragraph}
use Rattle.alloy_syntax.specs.View.{paragraph_view}
use Rattle.named_model.specs.Declarations.{fact_names}
use Rattle.name_tables.proofs.Reaching.{next_is, none_is}
use Rattle.sig_resolve.proofs.fact_names.fact_names.Goals as goal

names_in : List Paragraph → List (Option (List ℕ))
names_in ps = flat_map fact_names (map paragraph_view ps)

pub loop-paragraph-preserved : goal.loop-paragraph-preserved
unfolding names_in
loop-paragraph-preserved c =
    let ps = c.args.paragraphs.now in
    let i = c.loop-paragraph.paragraph-index in
    let x = c.paragraph-item.result in
    let old = c.loop-paragraph.found.items in
    let rest = drop (i + 1) ps in
    ap (λ (ns : List (Option (List ℕ))). ns ++ names_in rest) c.in_ok-add.ensures
    ∙ (append_assoc old (fact_names (paragraph_view x)) (names_in rest)
    ∙ (ap (λ (ns : List (Option (List ℕ))). old ++ ns) (sym (flat_map-cons fact_names (paragraph_view x) (map paragraph_view rest)))
    ∙ (ap (λ (xs : List Paragraph). old ++ names_in xs) (sym (next_is ps i x c.loop-paragraph-test.true c.paragraph-item.is)) ∙ c.loop-paragraph.invariant)))

pub returns : goal.returns
unfolding names_in
returns c =
    let ps = c.args.paragraphs.now in
    let i = c.loop-paragraph.paragraph-index in
    let old = c.loop-paragraph.found.items in
    sym (append-nil old) ∙ (ap (λ (xs : List Paragraph). old ++ names_in xs) (sym (none_is ps i c.loop-paragraph-test.false)) ∙ c.loop-paragraph.invariant)
