use Rattle.std.proofs.Common.{◌≡◌, ◌<◌, ◌+◌, ℕ, max, List, [], ◌∷◌, ◌++◌, take, sym, ◌∙◌, ap, arith}
use Rattle.std.proofs.lemmas.List.{take_more}
use Rattle.cnf_core.specs.Formula.{Formula}
use Rattle.translation.specs.Numbered.{highest_var}
use Rattle.translation.proofs.HighestVars.{highest_push}
use Rattle.translation.proofs.translation.highest_of.Goals as goal

pub loop-formula-preserved : goal.loop-formula-preserved
loop-formula-preserved c =
    let fs : List Formula = c.args.formulas.now in
    let i = c.loop-formula.formula-index in
    let f : Formula = c.formula-item.result in
    let more : take (i + 1) fs ≡ take i fs ++ f ∷ [] = take_more fs i f c.loop-formula-test.true ∙ ap (λ (x : Formula). take i fs ++ x ∷ []) (sym c.formula-item.is) in
    let most : c.max-highest.result ≡ max c.loop-formula.highest c.vars.result = c.max-highest.ensures in
    record {
      highest = most ∙ ap (λ n. max n c.vars.result) c.loop-formula.invariant.highest ∙ ap (λ n. max (highest_var c.args.var (take i fs)) n) c.vars.ensures.vars
          ∙ sym (ap (highest_var c.args.var) more ∙ highest_push c.args.var (take i fs) f);
      few = let one = c.vars.ensures.vars in let two = c.vars.ensures.formula.variables in let three = c.loop-formula.invariant.few in omega arith;
    }
