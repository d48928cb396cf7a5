use Rattle.std.proofs.Common.{◌∙◌, ◌<◌, ◌++◌, List, ap, sym, subst, get_or, length, take, All, arith, append_assoc}
use Rattle.std.proofs.lemmas.List.{take_all}
use Rattle.tuple_core.specs.declared.atom.Atom.{Atom}
use Rattle.tuple_core.specs.Rows.{Rows, IsRows}
use Rattle.tuple_core.proofs.Steps.{all_at, all_step, all_done}
use Rattle.rel_formula.specs.declared.problem.Relation.{Relation}
use Rattle.script_text.specs.Lines.{relation_line, relation_lines}
use Rattle.script_text.proofs.Tables.{lines_more}
use Rattle.script_text.proofs.scenario_lines.push_tables.Goals as goal

pub push_relation-requires : goal.push_relation-requires
push_relation-requires c =
    let k = c.loop-number.number in
    let l : k < length c.args.tables.now = let h = c.loop-number-test.true in let e = c.requires.count in omega arith in
    let Fits : List (List Atom) → Type 0 = λ rows. All (λ t. All (λ (a : Atom). a.top < length c.args.problem.now.tops) t) rows in
    subst Fits (sym c.rows.ensures.value) (all_at (λ (v : Rows). Fits v.rows) c.args.tables.now k c.index-tables-number.result c.requires.tops l c.index-tables-number.is)

pub loop-number-preserved : goal.loop-number-preserved
loop-number-preserved c =
    let p = c.args.problem.now in
    let k = c.loop-number.number in
    let x = c.index-relations-number.result in
    let v = c.index-tables-number.result in
    let in' : k < length c.args.tables.now = let h = c.loop-number-test.true in let e = c.requires.count in omega arith in
    record {
      lines = c.in_ok-push_relation.ensures
          ∙ ap (λ rows. c.loop-number.out.items ++ relation_line p x.name rows) c.rows.ensures.value
          ∙ ap (λ (r : Relation). c.loop-number.out.items ++ relation_line p r.name v.rows) c.index-relations-number.is
          ∙ ap (λ (w : Rows). c.loop-number.out.items ++ relation_line p (get_or c.args.relations.now k x).name w.rows) c.index-tables-number.is
          ∙ ap (λ b. b ++ relation_line p (get_or c.args.relations.now k x).name (get_or c.args.tables.now k v).rows) c.loop-number.invariant.lines
          ∙ append_assoc c.args.out.now.items (relation_lines p (take k c.args.relations.now) (take k c.args.tables.now)) (relation_line p (get_or c.args.relations.now k x).name (get_or c.args.tables.now k v).rows)
          ∙ ap (λ b. c.args.out.now.items ++ b) (sym (lines_more p c.args.relations.now c.args.tables.now k x v c.loop-number-test.true in'));
      well = all_step IsRows c.args.tables.now k v in' c.index-tables-number.is c.loop-number.invariant.well c.rows.ensures.well;
    }

pub returns : goal.returns
returns c =
    let p = c.args.problem.now in
    let k = c.loop-number.number in
    let past = c.loop-number-test.false in
    let count = c.requires.count in
    record {
      lines = c.loop-number.invariant.lines
          ∙ ap (λ rs. c.args.out.now.items ++ relation_lines p rs (take k c.args.tables.now)) (take_all k c.args.relations.now past)
          ∙ ap (λ ts. c.args.out.now.items ++ relation_lines p c.args.relations.now ts) (take_all k c.args.tables.now (omega arith));
      well = all_done IsRows c.args.tables.now k (omega arith) c.loop-number.invariant.well;
    }
