use Rattle.std.proofs.Common.{◌≡◌, ap, subst, sym, ◌∙◌, Contains, inl, length, All, arith}
use Rattle.std.proofs.lemmas.List.Elements.{All-contains}
use Rattle.tuple_core.specs.Rows.{Rows, IsRows}
use Rattle.tuple_core.proofs.Walks.{closed_pair, sound_more, closed_now}
use Rattle.tuple_core.proofs.tuple_set.TupleSet.closure.Goals as goal

-- each tuple of the set is a pair
pairs_of : (v : Rows) → IsRows v → v.arity ≡ 2 → All (λ t. length t ≡ 2) v.rows
pairs_of v is two = λ k d l. is.arities k d l ∙ two

pub loop-walks-init : goal.loop-walks-init
loop-walks-init c = record {
  arity = ap (λ (r : Rows). r.arity) c.in_ok-walks.ensures ∙ c.requires;
  base = λ t h. subst (λ (r : Rows). Contains r.rows t) (sym c.in_ok-walks.ensures) h;
  sound = λ t h. let there = subst (λ (r : Rows). Contains r.rows t) c.in_ok-walks.ensures h in
      closed_pair (Contains c.args.self.now.rows) t (All-contains (λ u. length u ≡ 2) c.args.self.now.rows t (pairs_of c.args.self.now c.rows.ensures.well c.requires) there) there;
}

pub loop-walks-preserved : goal.loop-walks-preserved
loop-walks-preserved c = record {
  arity = c.in_ok-add_all.ensures.gains.arity ∙ c.loop-walks.invariant.arity;
  base = λ t h. (c.in_ok-add_all.ensures.gains.rows.tuples t).1 (inl (c.loop-walks.invariant.base t h));
  sound = sound_more c.args.self.now c.loop-walks.walks c.in_ok-longer.longer c.add_all.new.self (pairs_of c.args.self.now c.rows.ensures.well c.requires) _ c.rows-in-loop-walks.result.now c.rows-in-loop-walks.ensures.value c.in_ok-add_all.ensures.gains c.in_ok-longer.ensures c.loop-walks.invariant.sound;
}

pub returns-then-len-before : goal.returns-then-len-before
returns-then-len-before c =
    closed_now c.args.self.now c.loop-walks.walks c.in_ok-longer.longer c.add_all.new.self (pairs_of c.args.self.now c.rows.ensures.well c.requires) _ c.rows-in-loop-walks.result.now c.rows-in-loop-walks.ensures.value c.in_ok-add_all.ensures.gains c.in_ok-longer.ensures
    (c.in_ok-add_all.ensures.same (omega arith)) c.loop-walks.invariant.arity c.loop-walks.invariant.base c.loop-walks.invariant.sound
