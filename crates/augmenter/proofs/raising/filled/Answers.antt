use Rattle.std.proofs.Common.{◌<◌, ◌^◌, ◌∷◌, [], ℕ, List, sym, subst, arith}
use Rattle.std.proofs.lemmas.List.Elements.{All-cons, All-nil}
use Rattle.cnf_core.specs.declared.literal.Lit.{Lit}
use Rattle.cnf_core.specs.Literal.{negation_of}
use Rattle.std.specs.List.{Contains}
use Rattle.unit_propagation.specs.Assignments.Trail.{falses_of}
use Rattle.sat_trail.specs.Deciding.{HasAllValues}
use Rattle.translation_rules.specs.Locals.{literal_of}
use Rattle.augmenter.proofs.FirstTries.{literals_in}
use Rattle.augmenter.proofs.RaisedTrails.{filled_model}
use Rattle.augmenter.proofs.raising.filled.Goals as goal

pub returns-clause-found : goal.returns-clause-found
returns-clause-found c =
    let two = c.if-not-fills.false in
    let old = c.args.trail.now in
    let trail = c.fills.new.trail in
    let cell = c.args.cell in
    let assumed : List Lit = literal_of cell ∷ [] in
    let clauses = c.fills.ensures.clauses in
    let vars = c.fills.ensures.vars in
    let IsThere : Lit → Type 0 = λ l. Contains (falses_of trail.assigned) (negation_of l) in
    let model = filled_model old.vars old.clauses assumed trail c.in_ok-valuation.valuation clauses vars c.level.ensures.trail (literals_in old.vars (cell ∷ []) (All-cons (λ n. n < old.vars) cell [] c.requires.in_range (All-nil (λ n. n < old.vars)))) (record {
      full = record { closed = c.fills.ensures.closed two; valued = subst (λ (n : ℕ). HasAllValues n (falses_of trail.assigned)) (sym c.fills.ensures.vars) (c.fills.ensures.valued two) };
      is_true = All-cons IsThere (literal_of cell) [] (c.fills.ensures.more _ c.requires.present) (All-nil IsThere);
      each = c.vars.ensures.clauses;
      within = c.vars.ensures.within;
      long = c.in_ok-valuation.ensures.long;
      small = subst (λ (n : ℕ). n < 2 ^ 31) c.vars.ensures.vars c.vars.ensures.small;
      values = c.in_ok-valuation.ensures.values;
    }) in
    record {
      enough = (let l = model.0 in omega arith);
      small = (let l = model.0 in let e = c.vars.ensures.vars in let s = c.vars.ensures.small in let v = vars in omega arith);
      model = model.1;
    }
