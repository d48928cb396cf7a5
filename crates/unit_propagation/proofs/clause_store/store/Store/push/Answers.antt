use Rattle.cnf_core.specs.declared.literal.Lit.{Lit}
use Rattle.std.proofs.Common.{List, ◌≡◌, ◌+◌, ◌++◌, ◌∷◌, [], length, All, arith, ap, ◌∙◌, sym, length-append, subst}
use Rattle.std.proofs.lemmas.List.{length-map}
use Rattle.std.proofs.lemmas.List.Elements.{All-push}
use Rattle.cnf_core.specs.Literal.{IsClause}
use Rattle.unit_propagation.specs.Clauses.Codes.{code_of}
use Rattle.unit_propagation.specs.Clauses.Parts.{clauses_from}
use Rattle.unit_propagation.proofs.Clauses.Coded.{literals_of-codes}
use Rattle.unit_propagation.proofs.Clauses.Ends.{stored_push, length-clauses_from}
use Rattle.unit_propagation.proofs.clause_store.store.Store.push.Goals as goal

pub invariant_of-self : goal.invariant_of-self
invariant_of-self c =
    let kept = c.self.invariant in
    let ends = c.reserve.ensures.items in
    record { ends = rw ends kept.ends; clauses = rw ends kept.clauses; few = rw ends kept.few; small = kept.small }

pub invariant_of-self-in_err-put_codes : goal.invariant_of-self-in_err-put_codes
invariant_of-self-in_err-put_codes c =
    let kept = c.self.invariant in
    let ends = c.reserve.ensures.items in
    let codes = c.in_err-put_codes.ensures.err in
    record { ends = rw (ends, codes) kept.ends; clauses = rw (ends, codes) kept.clauses; few = rw ends kept.few; small = rw codes kept.small }

pub invariant_of-self-2 : goal.invariant_of-self-2
invariant_of-self-2 c =
    let kept = c.self.invariant in
    let ends = c.put_end.ensures ∙ ap (λ es. es ++ c.len-2.result ∷ []) c.reserve.ensures.items in
    let codes = c.in_ok-put_codes.ensures.ok in
    let long : c.len-2.result ≡ length c.put_codes.new.into.items = omega (arith, c.len-2.ensures) in
    let pushed = stored_push _ _ _ _ _ _ _ kept.ends codes (literals_of-codes _) long ends in
    let view : length (clauses_from c.self.inside.codes.items 0 c.self.inside.ends.items) ≡ length c.self.inside.ends.items = length-clauses_from _ 0 _ in
    let old : length c.args.self.now ≡ length c.self.inside.ends.items = ap length (sym c.self.view_is) ∙ view in
    let more : length c.put_end.new.ends.items ≡ length c.self.inside.ends.items + 1 = ap length ends ∙ length-append _ _ in
    let wide : length c.put_codes.new.into.items ≡ length c.self.inside.codes.items + length c.lits-lits.result.now = ap length codes ∙ (length-append _ _ ∙ ap (λ n. length c.self.inside.codes.items + n) (length-map c.lits-lits.result.now code_of)) in
    record {
      ends = pushed.0;
      clauses = subst (All IsClause) (sym pushed.1) (All-push IsClause _ _ kept.clauses (rw c.lits-lits.ensures.lits c.lits-lits.ensures.clause));
      few = omega (arith, more, old, c.requires);
      small = omega (arith, wide, c.len.ensures, c.if-lits-len.false);
    }

pub returns-clause-ok : goal.returns-clause-ok
returns-clause-ok c =
    let kept = c.self.invariant in
    let ends = c.put_end.ensures ∙ ap (λ es. es ++ c.len-2.result ∷ []) c.reserve.ensures.items in
    let codes = c.in_ok-put_codes.ensures.ok in
    let long : c.len-2.result ≡ length c.put_codes.new.into.items = omega (arith, c.len-2.ensures) in
    let pushed = stored_push _ _ _ _ _ _ _ kept.ends codes (literals_of-codes _) long ends in
    pushed.1 ∙ (ap (λ (cs : List (List Lit)). cs ++ c.lits-lits.result.now ∷ []) c.self.view_is ∙ ap (λ (l : List Lit). c.args.self.now ++ l ∷ []) c.lits-lits.ensures.lits)
