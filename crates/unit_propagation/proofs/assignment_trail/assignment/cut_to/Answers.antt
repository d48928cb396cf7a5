use Rattle.std.proofs.Common.{◌≡◌, ◌≤◌, ◌<◌, ◌++◌, ◌∷◌, [], length, take, arith, sym, ◌∙◌, ap, length-set}
use Rattle.std.proofs.lemmas.List.{take-take}
use Rattle.std.proofs.lemmas.List.Elements.{All-contains, Contains-push}
use Rattle.refutation_check.specs.Assumed.{IsOpen}
use Rattle.unit_propagation.specs.declared.assignment_trail.assigned.Assigned.{Assigned}
use Rattle.unit_propagation.specs.Assignments.Trail.{falses_of}
use Rattle.unit_propagation.proofs.Assignments.TrailMarks.{Marks-unset, count_unmarked}
use Rattle.unit_propagation.proofs.Assignments.Trails.{All-front, falses_of-push}
use Rattle.unit_propagation.proofs.Assignments.Holding.{cut_facts}
use Rattle.unit_propagation.proofs.assignment_trail.assignment.cut_to.Goals as goal

pub cutting-preserved-in-Some : goal.cutting-preserved-in-Some
cutting-preserved-in-Some c =
    let was = c.cutting.invariant in
    let items : c.cutting.assigned.items ≡ c.pop.new.self.items ++ c.in-Some.a ∷ [] = c.in-Some.ensures.items in
    let facts = cut_facts c.args.assigned.now.items _ _ c.in-Some.a items was.stays was.few in
    let there : length c.pop.new.self.items < length c.args.assigned.now.items = omega (arith, facts.2, was.few) in
    let fresh = c.requires.fresh (length c.pop.new.self.items) c.in-Some.a there in
    let is_open : IsOpen (falses_of c.pop.new.self.items) c.in-Some.a.lit = rw (facts.0, facts.1) at fresh in
    let marked = rw (items, falses_of-push) at was.marking.marked in
    let range = rw items at was.marking.in_range in
    let in' : c.in-Some.a.lit.var < length c.cutting.marks.items = All-contains (λ (a : Assigned). a.lit.var < length c.cutting.marks.items) _ c.in-Some.a range (Contains-push c.pop.new.self.items c.in-Some.a) in
    let count = count_unmarked _ (falses_of c.pop.new.self.items) _ marked in' in
    let low : c.args.count ≤ length c.pop.new.self.items = omega (arith, facts.2, c.cutting-test.true, c.len.ensures) in
    record {
      stays = sym facts.0;
      few = omega (arith, facts.2, was.few);
      low = ap (take c.args.count) (sym facts.0) ∙ take-take c.args.count (length c.pop.new.self.items) c.args.assigned.now.items low;
      marking = record {
        marked = Marks-unset _ _ _ marked is_open in';
        in_range = simp length-set (All-front (λ (a : Assigned). a.lit.var < length c.cutting.marks.items) _ (c.in-Some.a ∷ []) range);
        open_count = simp length-set (omega (arith, was.marking.open_count, count, facts.2));
      };
      long = simp length-set was.long;
      capacity = c.in-Some.ensures.capacity ∙ was.capacity;
    }
