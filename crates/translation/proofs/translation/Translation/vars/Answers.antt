use Rattle.std.proofs.Common.{◌≡◌, ◌≤◌, List, sym, ◌∙◌, ap, arith}
use Rattle.cnf_core.specs.Formula.{Formula}
use Rattle.translation_rules.specs.Translation.{Translated}
use Rattle.translation.specs.Numbered.{highest_var, vars_of}
use Rattle.translation.proofs.HighestVars.{least, formulas_back}
use Rattle.translation.proofs.translation.Translation.vars.Goals as goal

pub returns-clause-highest : goal.returns-clause-highest
returns-clause-highest c =
    let first = c.self.inside.cnf.vars in
    c.highest_of.ensures.highest ∙ ap (λ n. highest_var n c.as_slice.result.now) c.vars.ensures.vars ∙ ap (highest_var first) c.as_slice.ensures.value
    ∙ ap (highest_var first) (sym (formulas_back c.self.inside.pairs.items c.self.inside.swaps.items c.self.invariant.0)) ∙ ap vars_of c.self.view_is

pub returns-clause-enough : goal.returns-clause-enough
returns-clause-enough c =
    let first : c.self.inside.cnf.vars ≡ c.args.self.now.cnf.vars = ap (λ (t : Translated). t.cnf.vars) c.self.view_is in
    let vars = c.vars.ensures.vars in
    let highest = c.highest_of.ensures.highest in
    let at_least = least c.vars.result c.as_slice.result.now in
    omega arith
