-- A bound is as it is settled, and of the arity that its first operands say.
use Rattle.std.proofs.Common.{◌≡◌, inl, inr, ℕ, ◌+◌, ◌==◌, nat_le, nat_lt, List, [], length, Ok, refl, sym, ◌∙◌, ap, subst, arith, add-zero}
use Rattle.alloy_lex.specs.declared.token.Place.{Place}
use Rattle.alloy_syntax.specs.declared.tree.Operator.TheVariants as operator
use Rattle.named_model.specs.declared.phrase.Referent.TheVariants as referent
use Rattle.named_model.specs.Phrase.{PhraseTree, refers, called, numbered, constant, bracketed, block, prefixed, chain, path, compared, implies, implies_else, quantified, bound_by_let, LinkTrees, no_links, more_links}
use Rattle.model_types.specs.declared.fault.TypeFault.TheVariants as fault
use Rattle.model_types.specs.Bounding.{Lists}
use Rattle.model_types.specs.Sorts as sorts
use Rattle.model_types.specs.Sorts.{Kind, unless, first_place, as_relation, same_arity, operator_arity}
use Rattle.model_types.specs.Typing.{Declared, Settled, type_in, settled, links_settled}
use Rattle.model_types.specs.Models.{bound_arity, arrows_arity}
use Rattle.lowering_rules.specs.Typed.{IsBound, AreUnions, AreArrows}
use Rattle.lowering_rules.proofs.Inversion.{bind_ok, same_ok}

-- the part is itself, and a relation of this arity
abbrev pub IsAsItIs : PhraseTree → ℕ → Settled → Type 0
IsAsItIs x n y = (y.tree ≡ x) × (y.kind ≡ sorts.relation n)

abbrev AreAsTheyAre : LinkTrees → ℕ → LinkTrees × Kind → Type 0
AreAsTheyAre ls n zs = (zs.0 ≡ ls) × (zs.1 ≡ sorts.relation n)

pub arity_of_kind : (p : Place) (k : Kind) (m n : ℕ) → k ≡ sorts.relation m → as_relation p k ≡ Ok n → m ≡ n
arity_of_kind p k m n e h = same_ok m n (subst (λ q. as_relation p q ≡ Ok n) e h)

module _ (d : Declared) where
  mutual
    pub bound_settled : (x : PhraseTree) (tops : List ℕ) (y : Settled) → IsBound x → settled d [] tops x ≡ Ok y → IsAsItIs x (bound_arity x) y
    bound_settled (refers p (referent.Signature s)) tops y b h =
        let a = bind_ok (unless (nat_lt s (length d.signatures)) (fault.Sort p)) _ y h in
        subst (IsAsItIs (refers p (referent.Signature s)) 1) (same_ok (record { tree = refers p (referent.Signature s); kind = sorts.relation 1 }) y a.2) (refl, refl)
    bound_settled (refers p (referent.Field f)) tops y b h = absurd b
    bound_settled (refers p (referent.Shared f)) tops y b h = absurd b
    bound_settled (refers p (referent.Local i)) tops y b h = absurd b
    bound_settled (bracketed p x) tops y b h =
        let a = bind_ok (settled d [] tops x) _ y h in
        let i = bound_settled x tops a.0 b a.1 in
        subst (IsAsItIs (bracketed p x) (bound_arity x)) (same_ok (record { tree = bracketed p a.0.tree; kind = a.0.kind }) y a.2) (ap (bracketed p) i.0, i.1)
    bound_settled (chain x ls) tops y b h =
        let a = bind_ok (settled d [] [] x) _ y h in
        let c = bind_ok (links_settled d [] (first_place x) a.0.kind (type_in d [] a.0.tree) ls) _ y a.2 in
        let i = bound_settled x [] a.0 b.0 a.1 in
        let z : Settled = record { tree = chain a.0.tree c.0.0; kind = c.0.1 } in
        let rest : AreAsTheyAre ls (bound_arity x + arrows_arity ls) c.0 = elim b.1 [
          | inl u ↦ unions_settled ls (first_place x) a.0.kind (type_in d [] a.0.tree) (bound_arity x) c.0 u i.1 c.1
          | inr r ↦ arrows_settled ls (first_place x) a.0.kind (type_in d [] a.0.tree) (bound_arity x) c.0 r i.1 c.1
        ] in
        subst (IsAsItIs (chain x ls) (bound_arity x + arrows_arity ls)) (same_ok z y c.2) ((λ j. chain (i.0 j) (rest.0 j)), rest.1)
    bound_settled (called p n xs) tops y b h = absurd b
    bound_settled (numbered n) tops y b h = absurd b
    bound_settled (constant c p) tops y b h = absurd b
    bound_settled (block p xs) tops y b h = absurd b
    bound_settled (prefixed f p x) tops y b h = absurd b
    bound_settled (path x steps) tops y b h = absurd b
    bound_settled (compared a c z) tops y b h = absurd b
    bound_settled (implies a p z) tops y b h = absurd b
    bound_settled (implies_else a p z w) tops y b h = absurd b
    bound_settled (quantified q p ds x) tops y b h = absurd b
    bound_settled (bound_by_let p xs x) tops y b h = absurd b

    unions_settled : (ls : LinkTrees) (left : Place) (k : Kind) (t : Lists) (m : ℕ) (zs : LinkTrees × Kind) → AreUnions ls → k ≡ sorts.relation m →
        links_settled d [] left k t ls ≡ Ok zs → AreAsTheyAre ls (m + arrows_arity ls) zs
    unions_settled no_links left k t m zs b e h =
        subst (AreAsTheyAre no_links (m + 0)) (same_ok (no_links, k) zs h) (refl, e ∙ ap sorts.relation (sym (add-zero m)))
    unions_settled (more_links operator.Union p x ls) left k t m zs b e h =
        let a = bind_ok (as_relation left k) _ zs h in
        let y = bind_ok (settled d [] [] x) _ zs a.2 in
        let n = bind_ok (as_relation (first_place x) y.0.kind) _ zs y.2 in
        let r = bind_ok (same_arity p a.0 n.0) _ zs n.2 in
        let rest = bind_ok (links_settled d [] left (sorts.relation r.0) _ ls) _ zs r.2 in
        let u = bind_ok (unless (a.0 == n.0) (fault.Arity p)) _ r.0 r.1 in
        let i = bound_settled x [] y.0 b.0 y.1 in
        let same : sorts.relation r.0 ≡ sorts.relation m = ap sorts.relation (sym (same_ok a.0 r.0 u.2) ∙ sym (arity_of_kind left k m a.0 e a.1)) in
        let j = unions_settled ls left (sorts.relation r.0) _ m rest.0 b.1 same rest.1 in
        let none : arrows_arity ls ≡ 0 = no_arrows ls b.1 in
        subst (AreAsTheyAre (more_links operator.Union p x ls) (m + 0)) (same_ok (more_links operator.Union p y.0.tree rest.0.0, rest.0.1) zs rest.2)
        ((λ l. more_links operator.Union p (i.0 l) (j.0 l)), j.1 ∙ ap (λ q. sorts.relation (m + q)) none)
    unions_settled (more_links operator.Or p x ls) left k t m zs b e h = absurd b
    unions_settled (more_links operator.Iff p x ls) left k t m zs b e h = absurd b
    unions_settled (more_links operator.And p x ls) left k t m zs b e h = absurd b
    unions_settled (more_links operator.Minus p x ls) left k t m zs b e h = absurd b
    unions_settled (more_links operator.Override p x ls) left k t m zs b e h = absurd b
    unions_settled (more_links operator.Meet p x ls) left k t m zs b e h = absurd b
    unions_settled (more_links operator.Product p x ls) left k t m zs b e h = absurd b
    unions_settled (more_links operator.Domain p x ls) left k t m zs b e h = absurd b
    unions_settled (more_links operator.Range p x ls) left k t m zs b e h = absurd b

    no_arrows : (ls : LinkTrees) → AreUnions ls → arrows_arity ls ≡ 0
    no_arrows no_links b = refl
    no_arrows (more_links operator.Union p x ls) b = refl
    no_arrows (more_links operator.Or p x ls) b = refl
    no_arrows (more_links operator.Iff p x ls) b = refl
    no_arrows (more_links operator.And p x ls) b = refl
    no_arrows (more_links operator.Minus p x ls) b = refl
    no_arrows (more_links operator.Override p x ls) b = refl
    no_arrows (more_links operator.Meet p x ls) b = refl
    no_arrows (more_links operator.Product p x ls) b = absurd b
    no_arrows (more_links operator.Domain p x ls) b = refl
    no_arrows (more_links operator.Range p x ls) b = refl

    arrows_settled : (ls : LinkTrees) (left : Place) (k : Kind) (t : Lists) (m : ℕ) (zs : LinkTrees × Kind) → AreArrows ls → k ≡ sorts.relation m →
        links_settled d [] left k t ls ≡ Ok zs → AreAsTheyAre ls (m + arrows_arity ls) zs
    arrows_settled no_links left k t m zs b e h =
        subst (AreAsTheyAre no_links (m + 0)) (same_ok (no_links, k) zs h) (refl, e ∙ ap sorts.relation (sym (add-zero m)))
    arrows_settled (more_links operator.Product p x ls) left k t m zs b e h =
        let a = bind_ok (as_relation left k) _ zs h in
        let y = bind_ok (settled d [] [] x) _ zs a.2 in
        let n = bind_ok (as_relation (first_place x) y.0.kind) _ zs y.2 in
        let r = bind_ok (operator_arity operator.Product p left (first_place x) a.0 n.0) _ zs n.2 in
        let rest = bind_ok (links_settled d [] left (sorts.relation r.0) _ ls) _ zs r.2 in
        let u = bind_ok (unless (nat_le (a.0 + n.0) 3) (fault.ArityTooLarge p)) _ r.0 r.1 in
        let i = bound_settled x [] y.0 b.0 y.1 in
        let first : m ≡ a.0 = arity_of_kind left k m a.0 e a.1 in
        let second : bound_arity x ≡ n.0 = arity_of_kind (first_place x) y.0.kind (bound_arity x) n.0 i.1 n.1 in
        let sum : a.0 + n.0 ≡ r.0 = same_ok (a.0 + n.0) r.0 u.2 in
        let same : r.0 ≡ m + bound_arity x = omega arith in
        let j = arrows_settled ls left (sorts.relation r.0) _ (m + bound_arity x) rest.0 b.1 (ap sorts.relation same) rest.1 in
        let total : m + bound_arity x + arrows_arity ls ≡ m + (bound_arity x + arrows_arity ls) = omega arith in
        subst (AreAsTheyAre (more_links operator.Product p x ls) (m + (bound_arity x + arrows_arity ls))) (same_ok (more_links operator.Product p y.0.tree rest.0.0, rest.0.1) zs rest.2)
        ((λ l. more_links operator.Product p (i.0 l) (j.0 l)), j.1 ∙ ap sorts.relation total)
    arrows_settled (more_links operator.Or p x ls) left k t m zs b e h = absurd b
    arrows_settled (more_links operator.Iff p x ls) left k t m zs b e h = absurd b
    arrows_settled (more_links operator.And p x ls) left k t m zs b e h = absurd b
    arrows_settled (more_links operator.Union p x ls) left k t m zs b e h = absurd b
    arrows_settled (more_links operator.Minus p x ls) left k t m zs b e h = absurd b
    arrows_settled (more_links operator.Override p x ls) left k t m zs b e h = absurd b
    arrows_settled (more_links operator.Meet p x ls) left k t m zs b e h = absurd b
    arrows_settled (more_links operator.Domain p x ls) left k t m zs b e h = absurd b
    arrows_settled (more_links operator.Range p x ls) left k t m zs b e h = absurd b
