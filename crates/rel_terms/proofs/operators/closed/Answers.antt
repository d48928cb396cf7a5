use Rattle.std.proofs.Common.{◌≡◌, ap, subst, sym, ◌∙◌, Contains, inl, length, All, arith}
use Rattle.std.proofs.lemmas.List.Elements.{All-contains}
use Rattle.tuple_core.specs.Operators.{Closed}
use Rattle.tuple_core.specs.Rows.{Rows, IsRows}
use Rattle.tuple_core.proofs.Walks.{closed_pair}
use Rattle.rel_terms.specs.Terms.{Meeting}
use Rattle.rel_terms.proofs.Adding.{adds_times}
use Rattle.rel_terms.proofs.Walked.{walks_sound, walks_grow, walks_closed}
use Rattle.rel_terms.proofs.operators.closed.Goals as goal

-- each tuple of the set is a pair
pairs_of : (v : Rows) → IsRows v → v.arity ≡ 2 → All (λ t. length t ≡ 2) v.rows
pairs_of v is two = λ k d l. is.arities k d l ∙ two

pub loop-alloc-init : goal.loop-alloc-init
loop-alloc-init c = record {
  arity = ap (λ (r : Rows). r.arity) c.in_ok-walks.ensures ∙ c.requires;
  base = λ t h. subst (λ (r : Rows). Contains r.rows t) (sym c.in_ok-walks.ensures) h;
  sound = λ t h. let there = subst (λ (r : Rows). Contains r.rows t) c.in_ok-walks.ensures h in
      closed_pair (Contains c.args.pairs.now.rows) t (All-contains (λ u. length u ≡ 2) c.args.pairs.now.rows t (pairs_of c.args.pairs.now c.rows.ensures.well c.requires) there) there;
}

pub returns-then-is_above : goal.returns-then-is_above
returns-then-is_above c =
    let W = Contains c.loop-alloc.walks.rows in
    let C = Closed (Contains c.args.pairs.now.rows) in
    let sound = c.loop-alloc.invariant.sound in
    let over = c.is_above.ensures.0 c.if-is_above.true in
    record {
      arity_is = c.loop-alloc.invariant.arity;
      just = λ l. absurd (omega arith);
      adds = adds_times 6 (Meeting W W) (Meeting C C) _ _ (λ t h. (h.0, h.1, h.2, sound _ h.3, sound _ h.4, h.5)) (λ l. absurd (omega arith)) c.add_meetings.ensures;
    }

pub returns-then-rows : goal.returns-then-rows
returns-then-rows c =
    let walks = c.loop-alloc.walks in
    let base = c.args.pairs.now in
    let W = Contains walks.rows in
    let C = Closed (Contains base.rows) in
    let more = ap length c.rows-in-loop-alloc.ensures.value in
    let less = ap length c.rows-in-loop-alloc-2.ensures.value in
    let same = walks_closed base walks c.in_ok-longer.longer c.in_ok-more.more _ _ (pairs_of base c.rows.ensures.well c.requires) c.in_ok-longer.ensures c.in_ok-more.ensures c.loop-alloc.invariant.sound
    c.rows-in-loop-alloc-2.ensures.well (let e = c.if-rows.true in omega arith) c.loop-alloc.invariant.base in
    record {
      arity_is = c.loop-alloc.invariant.arity;
      just = λ l t. (same.to t, same.back t);
      adds = adds_times 6 (Meeting W W) (Meeting C C) _ _ (λ t h. (h.0, h.1, h.2, same.to _ h.3, same.to _ h.4, h.5)) (λ l t h. (h.0, h.1, h.2, same.back _ h.3, same.back _ h.4, h.5)) c.add_meetings.ensures;
    }

pub loop-alloc-smaller : goal.loop-alloc-smaller
loop-alloc-smaller c =
    let more = ap length c.rows-in-loop-alloc.ensures.value in
    let less = ap length c.rows-in-loop-alloc-2.ensures.value in
    let fits = c.rows-in-loop-alloc.type_inv in
    let grow = walks_grow c.args.pairs.now c.loop-alloc.walks c.in_ok-longer.longer c.in_ok-more.more _ _ (pairs_of c.args.pairs.now c.rows.ensures.well c.requires) c.in_ok-longer.ensures c.in_ok-more.ensures c.loop-alloc.invariant.sound c.rows-in-loop-alloc-2.ensures.well in
    let new = c.if-rows.false in
    omega arith

pub loop-alloc-preserved : goal.loop-alloc-preserved
loop-alloc-preserved c = record {
  arity = c.in_ok-more.ensures.arity_is ∙ c.loop-alloc.invariant.arity;
  base = λ t h. (c.in_ok-more.ensures.just t).1 (inl (c.loop-alloc.invariant.base t h));
  sound = walks_sound c.args.pairs.now c.loop-alloc.walks c.in_ok-longer.longer c.in_ok-more.more _ _ (pairs_of c.args.pairs.now c.rows.ensures.well c.requires) c.in_ok-longer.ensures c.in_ok-more.ensures c.loop-alloc.invariant.sound;
}
