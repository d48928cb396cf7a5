use Rattle.std.proofs.Common.{◌≡◌, ◌<◌, ◌≤◌, ◌+◌, ◌++◌, ◌^◌, ℕ, List, All, length, map, sym, ◌∙◌, ap, subst, arith, length-append}
use Rattle.std.proofs.lemmas.List.{length-map}
use Rattle.cnf_core.specs.declared.literal.Lit.{Lit}
use Rattle.cnf_core.specs.Formula.{Formula}
use Rattle.cnf_core.specs.Literal.{HasVarsUpTo}
use Rattle.refutation_check.specs.declared.log.Step.{Step}
use Rattle.refutation_check.specs.Lift.{lifted_hint, lifted, HasRoomToLift}
use Rattle.refutation_check.specs.WrittenProof.{HasHintsInRange}
use Rattle.rel_formula.specs.Bounds.{Bounded, cells_of}
use Rattle.session_rules.specs.Proofs.{whole_log, locals_for}
use Rattle.translation.specs.Numbered.{vars_of}
use Rattle.script_text.proofs.Proofs.Hints.{written_hints, room_to_lift}
use Rattle.script_text.proofs.Proofs.Sizes.{few_local, few_clauses}
use Rattle.script_text.proofs.Proofs.Vars.{locals_within}
use Rattle.script_text.proofs.proof_lines.proof.proof_of.Goals as goal

pub formula_with-requires-clause-within : goal.formula_with-requires-clause-within
formula_with-requires-clause-within c =
    let t = c.args.translation.now in
    let floor = c.args.floor.now in
    let kind = c.args.kind in
    let blocked = c.args.proof.now.blocked in
    let same : c.as_slice-clauses.result.now ≡ locals_for t floor kind blocked = c.as_slice-clauses.ensures.value ∙ c.in_ok-local.ensures ∙ ap (locals_for t floor kind) c.blocked.ensures in
    subst (All (HasVarsUpTo (vars_of t))) (sym same) (locals_within t c.problem-problem.ensures.well floor c.requires.floor kind blocked c.requires.blocked)

pub formula_with-requires-clause-few : goal.formula_with-requires-clause-few
formula_with-requires-clause-few c =
    let t = c.args.translation.now in
    let well = c.problem-problem.ensures.well in
    let floor = c.args.floor.now in
    let kind = c.args.kind in
    let proof = c.args.proof.now in
    let cells : length (cells_of t.problem) ≤ 4096 = subst (λ (p : Bounded). length (cells_of p) ≤ 4096) c.problem-problem.ensures.value c.relations.ensures.well.few_cells in
    let local = few_local t well cells floor c.numbers.ensures.rising c.requires.floor kind proof.blocked in
    let clauses = few_clauses t well cells floor c.numbers.ensures.rising c.requires.floor in
    let same : c.as_slice-clauses.result.now ≡ locals_for t floor kind proof.blocked = c.as_slice-clauses.ensures.value ∙ c.in_ok-local.ensures ∙ ap (locals_for t floor kind) c.blocked.ensures in
    let long = ap length same in
    let few = c.imported.ensures.few in
    omega arith

pub steps_of-requires : goal.steps_of-requires
steps_of-requires c =
    let t = c.args.translation.now in
    let well = c.problem-problem.ensures.well in
    let floor = c.args.floor.now in
    let kind = c.args.kind in
    let proof = c.args.proof.now in
    let local = locals_for t floor kind proof.blocked in
    let cells : length (cells_of t.problem) ≤ 4096 = subst (λ (p : Bounded). length (cells_of p) ≤ 4096) c.problem-problem.ensures.value c.relations.ensures.well.few_cells in
    let few_l = few_local t well cells floor c.numbers.ensures.rising c.requires.floor kind proof.blocked in
    let few_c = few_clauses t well cells floor c.numbers.ensures.rising c.requires.floor in
    let few = c.imported.ensures.few in
    let long : length (t.cnf.clauses ++ local) ≡ length t.cnf.clauses + length local = length-append t.cnf.clauses local in
    let room : HasRoomToLift (length t.cnf.clauses) (length local) proof.pool =
    room_to_lift (t.cnf.clauses ++ local) (length t.cnf.clauses) (length local) proof.pool proof.log c.requires.proves.refutation.0 (omega arith) in
    let base : length t.cnf.clauses ≡ c.len-base.result = sym (c.len-base.ensures.len ∙ ap (λ (f : Formula). length f.clauses) c.cnf.ensures) in
    let added : length local ≡ length c.as_slice-clauses.result.now = sym (ap length (c.as_slice-clauses.ensures.value ∙ c.in_ok-local.ensures ∙ ap (locals_for t floor kind) c.blocked.ensures)) in
    subst (λ b. HasRoomToLift b (length c.as_slice-clauses.result.now) proof.pool) base (subst (λ a. HasRoomToLift (length t.cnf.clauses) a proof.pool) added room)

pub returns-clause-hints : goal.returns-clause-hints
returns-clause-hints c =
    let t = c.args.translation.now in
    let well = c.problem-problem.ensures.well in
    let floor = c.args.floor.now in
    let kind = c.args.kind in
    let proof = c.args.proof.now in
    let local = locals_for t floor kind proof.blocked in
    let cells : length (cells_of t.problem) ≤ 4096 = subst (λ (p : Bounded). length (cells_of p) ≤ 4096) c.problem-problem.ensures.value c.relations.ensures.well.few_cells in
    let few_l = few_local t well cells floor c.numbers.ensures.rising c.requires.floor kind proof.blocked in
    let few_c = few_clauses t well cells floor c.numbers.ensures.rising c.requires.floor in
    let few = c.imported.ensures.few in
    let long : length (t.cnf.clauses ++ local) ≡ length t.cnf.clauses + length local = length-append t.cnf.clauses local in
    let raised = lifted (length t.cnf.clauses) (length local) proof.pool in
    let whole : length (raised ++ proof.log) ≡ length raised + length proof.log = length-append raised proof.log in
    let as_many : length raised ≡ length proof.pool = length-map proof.pool (λ (s : Step). let r : Step = record { clause = s.clause; hints = map (lifted_hint (length t.cnf.clauses) (length local)) s.hints } in r) in
    let base : c.len-base.result ≡ length t.cnf.clauses = c.len-base.ensures.len ∙ ap (λ (f : Formula). length f.clauses) c.cnf.ensures in
    let added : length c.as_slice-clauses.result.now ≡ length local = ap length (c.as_slice-clauses.ensures.value ∙ c.in_ok-local.ensures ∙ ap (locals_for t floor kind) c.blocked.ensures) in
    let log : c.in_ok-log.log ≡ whole_log t local proof =
    c.in_ok-log.ensures ∙ ap (λ n. lifted n (length c.as_slice-clauses.result.now) proof.pool ++ proof.log) base ∙ ap (λ n. lifted (length t.cnf.clauses) n proof.pool ++ proof.log) added in
    subst HasHintsInRange (sym log) (written_hints (t.cnf.clauses ++ local) (whole_log t local proof) c.requires.proves.refutation.0 (omega arith))
