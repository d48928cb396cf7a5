use Rattle.std.proofs.Common.{◌≤◌, ◌*◌, length, arith}
use Rattle.std.proofs.Math.Nat.{mul-le-mul}
use Rattle.std.proofs.lemmas.List.{length-map}
use Rattle.tuple_core.specs.declared.operator.Operator.{Operator}
use Rattle.tuple_core.specs.declared.operator.Operator.TheVariants as operator
use Rattle.bool_matrix.specs.declared.entry.Entry.{Entry}
use Rattle.bool_matrix.specs.Cells.{Cells}
use Rattle.bool_matrix.specs.Terms.{tuples}
use Rattle.bool_matrix.specs.Work.{combine_work}
use Rattle.bool_matrix.proofs.SmallMatrices.{joins_le}
use Rattle.translation_tests.proofs.of_bool_matrix.are_small.Goals as goal

module _ (l r : Cells) (a : length l.entries ≤ 999) (b : length r.entries ≤ 999) where
  product_most : length l.entries * length r.entries ≤ 999 * 999
  product_most = mul-le-mul a b

  joins_most : combine_work operator.Join l r ≤ 999 * 999
  joins_most =
      let p : length (tuples l) ≤ 999 = (let e = length-map l.entries (λ (e : Entry). e.tuple) in omega arith) in
      let q : length (tuples r) ≤ 999 = (let e = length-map r.entries (λ (e : Entry). e.tuple) in omega arith) in
      let most : length (tuples l) * length (tuples r) ≤ 999 * 999 = mul-le-mul p q in
      omega (arith, joins_le (tuples l) (tuples r), most)

  work_most : (o : Operator) → combine_work o l r ≤ 999 * 999
  work_most operator.Union = omega arith
  work_most operator.Minus = omega arith
  work_most operator.Meet = omega arith
  work_most operator.Product = product_most
  work_most operator.Join = joins_most
  work_most operator.Override = omega arith
  work_most operator.Dom = omega arith
  work_most operator.Ran = omega arith

pub returns-then-is_small-clause-work : goal.returns-then-is_small-clause-work
returns-then-is_small-clause-work c = λ h o.
    let a : length c.args.left.now.entries ≤ 999 = (let few = c.is_small.ensures.few c.if-is_small.true in omega arith) in
    let b : length c.args.right.now.entries ≤ 999 = (let few = c.is_small-then-is_small.ensures.few h in omega arith) in
    omega (arith, work_most c.args.left.now c.args.right.now a b o, c.is_small-then-is_small.ensures.nodes h)
