use Rattle.std.proofs.Common.{[], ◌∷◌, ◌++◌, map, take, sym, subst}
use Rattle.name_tables.specs.Repeats.Coded.{AreSpaces, space_of}
use Rattle.name_tables.proofs.Repeats.ListsGoneOver.{taken_more, all_taken}
use Rattle.name_tables.proofs.Repeats.Coding.{spaces_kept, spaces_push}
use Rattle.name_tables.proofs.repeated_names.fields.spaces.Goals as goal

pub loop-owner-preserved : goal.loop-owner-preserved
loop-owner-preserved c = λ cs before is.
    let was = c.loop-owner.invariant cs before is in
    let now = c.in_ok-space.ensures.place cs before was.0 in (
      now.0,
      subst (λ ts. AreSpaces c.space.new.reading.words c.push.new.self.items ts) (sym (taken_more (space_of cs) [] c.args.owners.now c.loop-owner.owner-index c.owner-item.result c.loop-owner-test.true c.owner-item.is))
          (subst (λ ss. AreSpaces c.space.new.reading.words ss (map (space_of cs) (take c.loop-owner.owner-index c.args.owners.now) ++ space_of cs c.owner-item.result ∷ [])) (sym c.in_ok-push.ensures.items)
          (spaces_push c.space.new.reading.words c.loop-owner.spaces.items (map (space_of cs) (take c.loop-owner.owner-index c.args.owners.now)) c.in_ok-space.space _ (spaces_kept c.loop-owner.reading.words c.space.new.reading.words c.loop-owner.spaces.items _ c.in_ok-space.ensures.grows was.1) now.1)),
    )

pub returns : goal.returns
returns c = λ cs before is.
    let was = c.loop-owner.invariant cs before is in
    (was.0, subst (λ ts. AreSpaces c.loop-owner.reading.words c.loop-owner.spaces.items ts) (all_taken (map (space_of cs)) c.args.owners.now c.loop-owner.owner-index c.loop-owner-test.false) was.1)
