use Rattle.std.proofs.Common.{◌≡◌, ◌∙◌, ℕ, List, ap₂, sym}
use Rattle.cnf_core.specs.declared.literal.Lit.{Lit}
use Rattle.cnf_core.specs.Formula.{Formula}
use Rattle.session_state.proofs.search_rounds.comparing.is_same_formula.Goals as goal

pub returns-then-vars : goal.returns-then-vars
returns-then-vars c = λ t.
    let f : Formula = c.args.formula.now in
    let g : Formula = c.args.other.now in
    let vars : f.vars ≡ g.vars = sym c.vars.ensures.vars ∙ c.if-vars.true ∙ c.vars-2.ensures.vars in
    let clauses : f.clauses ≡ g.clauses = sym c.clauses.ensures.clauses ∙ c.are_same.ensures t ∙ c.clauses-then-vars.ensures.clauses in
    let made : ℕ → List (List Lit) → Formula = λ n cs. record { vars = n; clauses = cs } in
    ap₂ made vars clauses
