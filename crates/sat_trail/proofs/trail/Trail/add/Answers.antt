use Rattle.std.proofs.Common.{◌≡◌, ◌≤◌, ◌++◌, ◌∷◌, [], ℕ, List, length, arith, ap, length-append}
use Rattle.std.proofs.lemmas.List.Elements.{All-weaker}
use Rattle.cnf_core.specs.declared.literal.Lit.{Lit}
use Rattle.sat_trail.specs.Trailed.{Trailed}
use Rattle.sat_trail.proofs.Waiting.{chain_named}
use Rattle.sat_trail.proofs.trail.Trail.add.Goals as goal

pub raise_met-requires : goal.raise_met-requires
raise_met-requires c =
    let old : List (List Lit) = c.args.self.now.clauses in
    let long : length c.put.new.self.clauses ≡ length (old ++ c.args.s.clause ∷ []) = ap (λ (t : Trailed). length t.clauses) c.in_ok-put.ensures.ok in
    rw c.numbers.ensures (All-weaker (λ (h : ℕ). (1 ≤ h) × (h ≤ length old)) (λ (h : ℕ). (1 ≤ h) × (h ≤ length c.put.new.self.clauses)) (λ h both. (both.0, omega (arith, both.1, long, length-append old (c.args.s.clause ∷ [])))) c.args.s.hints (chain_named old c.args.s.clause c.args.s.hints c.requires.chain))
