use Rattle.std.proofs.Common.{string_bytes, ◌++◌, ◌∙◌, ap, sym, map-id}
use Rattle.std.specs.List.{flat_map}
use Rattle.std.proofs.lemmas.List.{flat_map_more}
use Rattle.std.proofs.lemmas.Iterator.{YieldsList-from_chars}
use Rattle.std.proofs.lemmas.Iterator.Consumers.{YieldsList-end}
use Rattle.bench_texts.specs.Texts.{spelled}
use Rattle.bench_texts.proofs.texts.add.Goals as goal

pub loop-character-preserved : goal.loop-character-preserved
loop-character-preserved c =
    c.in_ok-add_character.ensures ∙ ap (λ bs. bs ++ spelled c.args.number c.in-Some.character) c.loop-character.invariant
    ∙ flat_map_more (λ x. spelled c.args.number x) (string_bytes c.args.text.now) c.loop-character.yielded c.in-Some.character

pub returns : goal.returns
returns c =
    let done = YieldsList-end (YieldsList-from_chars c.args.part.now c.utf8.part cc) c.loop-character.yielded _ c.loop-character.yielded_by _ _ c.in-None.is c.next.ensures.steps in
    c.loop-character.invariant ∙ ap (λ cs. string_bytes c.args.text.now ++ flat_map (λ x. spelled c.args.number x) cs) (sym (map-id c.loop-character.yielded) ∙ done.0)
