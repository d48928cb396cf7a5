-- Where a bound has no fault of its types, it has the arity that its first operands say, and so long are the lists of its type.
use Rattle.std.proofs.Common.{◌≡◌, inl, inr, ℕ, ◌+◌, ◌≤◌, ◌==◌, nat_le, nat_lt, Bool, true, false, if◌then◌else◌, List, [], ◌∷◌, ◌++◌, map, flat_map, length, length-append, All, Result, Ok, Err, refl, sym, ◌∙◌, ap, subst, arith, add-zero}
use Rattle.std.proofs.lemmas.Bool.Decides.{nat_tests}
use Rattle.std.proofs.lemmas.List.Concat.{flat_map-cons}
use Rattle.std.proofs.lemmas.List.Elements.{All-append, All-head, All-tail, All-nil, All-cons}
use Rattle.alloy_syntax.specs.declared.tree.Operator.TheVariants as operator
use Rattle.named_model.specs.declared.phrase.Referent.TheVariants as referent
use Rattle.named_model.specs.declared.named.Signature.{Signature}
use Rattle.named_model.specs.Answers.{◌>>=◌}
use Rattle.named_model.specs.Phrase.{PhraseTree, refers, called, numbered, constant, bracketed, block, prefixed, chain, path, compared, implies, implies_else, quantified, bound_by_let, LinkTrees, no_links, more_links}
use Rattle.named_model.specs.Model.{FieldTree, NamedTree}
use Rattle.model_types.specs.declared.fault.TypeFault.{TypeFault}
use Rattle.model_types.specs.declared.fault.TypeFault.TheVariants as fault
use Rattle.model_types.specs.Bounding.{Lists, products}
use Rattle.model_types.specs.Sorts as sorts
use Rattle.model_types.specs.Sorts.{Kind, unless, first_place, as_relation, same_arity, operator_arity}
use Rattle.model_types.specs.Typing.{Declared, Settled, type_in, settled, links_settled}
use Rattle.model_types.specs.Models.{declared_in, bound_arity, arrows_arity, arrow_checked, wants_unary, field_checked}
use Rattle.lowering_rules.specs.Typed.{IsBound, AreUnions, AreArrows, IsField, HasNoFault, HasReferences, HasTypes}
use Rattle.rel_lower.specs.Bounding.Bounds.{bound_type, links_type_in}
use Rattle.rel_lower.specs.Bounding.Typed.{HasLists}

-- ---- answers without a fault

bind_ok : {A B : Type 0} (r : Result A TypeFault) (f : A → Result B TypeFault) (b : B) → (r >>= f) ≡ Ok b → (a : A) × (r ≡ Ok a) × (f a ≡ Ok b)
bind_ok (Ok a) f b e = (a, refl, e)
bind_ok (Err x) f b e = absurd cc

abbrev fine : {A : Type 0} → A → Result A TypeFault
fine a = Ok a

same_ok : {A : Type 0} (a b : A) → fine a ≡ Ok b → a ≡ b
same_ok a b e = cc

met : (b : Bool) (f : TypeFault) (u : Unit {0}) → unless b f ≡ Ok u → b ≡ true
met true f u e = refl
met false f u e = absurd cc

eq_met : (m n : ℕ) → (m == n) ≡ true → m ≡ n
eq_met m n e = grind (arith, nat_tests)

le_met : (m n : ℕ) → nat_le m n ≡ true → m ≤ n
le_met m n e = grind (arith, nat_tests)

arity_is : (p : _) (k : Kind) (m n : ℕ) → k ≡ sorts.relation m → as_relation p k ≡ Ok n → m ≡ n
arity_is p k m n e h = same_ok m n (subst (λ q. as_relation p q ≡ Ok n) e h)

-- ---- lists of one length

abbrev pub AreLong : ℕ → Lists → Type 0
AreLong n = All (λ l. length l ≡ n)

long_behind : (l : List ℕ) (m n : ℕ) (b : Lists) → length l ≡ m → AreLong n b → AreLong (m + n) (map (λ r. l ++ r) b)
long_behind l m n [] e h = All-nil (λ k. length k ≡ m + n)
long_behind l m n (r ∷ b) e h =
    let long = length-append l r in
    let at = All-head (λ k. length k ≡ n) r b h in
    All-cons (λ k. length k ≡ m + n) (l ++ r) (map (λ r. l ++ r) b) (omega (arith, long, e, at)) (long_behind l m n b e (All-tail (λ k. length k ≡ n) r b h))

pub long_products : (m n : ℕ) (a b : Lists) → AreLong m a → AreLong n b → AreLong (m + n) (products a b)
long_products m n [] b h g = All-nil (λ k. length k ≡ m + n)
long_products m n (l ∷ a) b h g =
    subst (AreLong (m + n)) (sym (flat_map-cons (λ l. map (λ r. l ++ r) b) l a))
    (All-append (λ k. length k ≡ m + n) (map (λ r. l ++ r) b) (products a b) (long_behind l m n b (All-head (λ k. length k ≡ m) l a h) g)
    (long_products m n a b (All-tail (λ k. length k ≡ m) l a h) g))

-- ---- bounds

abbrev IsTyped : List Signature → PhraseTree → Settled → Type 0
IsTyped xs x y = (y.kind ≡ sorts.relation (bound_arity x)) × AreLong (bound_arity x) (bound_type xs x)

abbrev AreTyped : List Signature → Lists → LinkTrees → ℕ → LinkTrees × Kind → Type 0
AreTyped xs a ls n zs = (zs.1 ≡ sorts.relation n) × AreLong n (links_type_in xs a ls)

module _ (d : Declared) (xs : List Signature) where
  mutual
    bound_typed : (x : PhraseTree) (tops : List ℕ) (y : Settled) → IsBound x → settled d [] tops x ≡ Ok y → IsTyped xs x y
    bound_typed (refers p (referent.Signature s)) tops y b h =
        let a = bind_ok (unless (nat_lt s (length d.signatures)) (fault.Sort p)) _ y h in
        let z : Settled = record { tree = refers p (referent.Signature s); kind = sorts.relation 1 } in
        (ap (λ (w : Settled). w.kind) (sym (same_ok z y a.2)), All-cons (λ l. length l ≡ 1) _ [] refl (All-nil (λ l. length l ≡ 1)))
    bound_typed (refers p (referent.Field f)) tops y b h = absurd b
    bound_typed (refers p (referent.Shared f)) tops y b h = absurd b
    bound_typed (refers p (referent.Local i)) tops y b h = absurd b
    bound_typed (bracketed p x) tops y b h =
        let a = bind_ok (settled d [] tops x) _ y h in
        let i = bound_typed x tops a.0 b a.1 in
        let z : Settled = record { tree = bracketed p a.0.tree; kind = a.0.kind } in
        (ap (λ (w : Settled). w.kind) (sym (same_ok z y a.2)) ∙ i.0, i.1)
    bound_typed (chain x ls) tops y b h =
        let a = bind_ok (settled d [] [] x) _ y h in
        let c = bind_ok (links_settled d [] (first_place x) a.0.kind (type_in d [] a.0.tree) ls) _ y a.2 in
        let i = bound_typed x [] a.0 b.0 a.1 in
        let z : Settled = record { tree = chain a.0.tree c.0.0; kind = c.0.1 } in
        let rest : AreTyped xs (bound_type xs x) ls (bound_arity x + arrows_arity ls) c.0 = elim b.1 [
          | inl u ↦ unions_typed ls (first_place x) a.0.kind (type_in d [] a.0.tree) (bound_arity x) (bound_type xs x) c.0 u i.0 i.1 c.1
          | inr r ↦ arrows_typed ls (first_place x) a.0.kind (type_in d [] a.0.tree) (bound_arity x) (bound_type xs x) c.0 r i.0 i.1 c.1
        ] in
        (ap (λ (w : Settled). w.kind) (sym (same_ok z y c.2)) ∙ rest.0, rest.1)
    bound_typed (called p n ys) tops y b h = absurd b
    bound_typed (numbered n) tops y b h = absurd b
    bound_typed (constant c p) tops y b h = absurd b
    bound_typed (block p ys) tops y b h = absurd b
    bound_typed (prefixed f p x) tops y b h = absurd b
    bound_typed (path x steps) tops y b h = absurd b
    bound_typed (compared a c z) tops y b h = absurd b
    bound_typed (implies a p z) tops y b h = absurd b
    bound_typed (implies_else a p z w) tops y b h = absurd b
    bound_typed (quantified q p ds x) tops y b h = absurd b
    bound_typed (bound_by_let p ys x) tops y b h = absurd b

    unions_typed : (ls : LinkTrees) (left : _) (k : Kind) (t : Lists) (m : ℕ) (a : Lists) (zs : LinkTrees × Kind) → AreUnions ls → k ≡ sorts.relation m → AreLong m a
        → links_settled d [] left k t ls ≡ Ok zs → AreTyped xs a ls (m + arrows_arity ls) zs
    unions_typed no_links left k t m a zs b e l h =
        let n : m ≡ m + 0 = sym (add-zero m) in
        (ap (λ (w : LinkTrees × Kind). w.1) (sym (same_ok (no_links, k) zs h)) ∙ e ∙ ap sorts.relation n, subst (λ q. AreLong q a) n l)
    unions_typed (more_links operator.Union p x ls) left k t m a zs b e l h =
        let f = bind_ok (as_relation left k) _ zs h in
        let y = bind_ok (settled d [] [] x) _ zs f.2 in
        let n = bind_ok (as_relation (first_place x) y.0.kind) _ zs y.2 in
        let r = bind_ok (same_arity p f.0 n.0) _ zs n.2 in
        let rest = bind_ok (links_settled d [] left (sorts.relation r.0) _ ls) _ zs r.2 in
        let u = bind_ok (unless (f.0 == n.0) (fault.Arity p)) _ r.0 r.1 in
        let i = bound_typed x [] y.0 b.0 y.1 in
        let first : m ≡ f.0 = arity_is left k m f.0 e f.1 in
        let second : bound_arity x ≡ n.0 = arity_is (first_place x) y.0.kind (bound_arity x) n.0 i.0 n.1 in
        let even : f.0 ≡ n.0 = eq_met f.0 n.0 (met (f.0 == n.0) (fault.Arity p) u.0 u.1) in
        let is : f.0 ≡ r.0 = same_ok f.0 r.0 u.2 in
        let x_is : bound_arity x ≡ m = second ∙ sym even ∙ sym first in
        let both : AreLong m (a ++ bound_type xs x) = All-append (λ q. length q ≡ m) a (bound_type xs x) l (subst (λ q. AreLong q (bound_type xs x)) x_is i.1) in
        let j = unions_typed ls left (sorts.relation r.0) _ m (a ++ bound_type xs x) rest.0 b.1 (ap sorts.relation (sym is ∙ sym first)) both rest.1 in
        let none : arrows_arity ls ≡ 0 = no_arrows ls b.1 in
        let same : m + arrows_arity ls ≡ m + 0 = ap (λ q. m + q) none in
        (ap (λ (w : LinkTrees × Kind). w.1) (sym (same_ok (more_links operator.Union p y.0.tree rest.0.0, rest.0.1) zs rest.2)) ∙ j.0 ∙ ap sorts.relation same, subst (λ q. AreLong q (links_type_in xs (a ++ bound_type xs x) ls)) same j.1)
    unions_typed (more_links operator.Or p x ls) left k t m a zs b e l h = absurd b
    unions_typed (more_links operator.Iff p x ls) left k t m a zs b e l h = absurd b
    unions_typed (more_links operator.And p x ls) left k t m a zs b e l h = absurd b
    unions_typed (more_links operator.Minus p x ls) left k t m a zs b e l h = absurd b
    unions_typed (more_links operator.Override p x ls) left k t m a zs b e l h = absurd b
    unions_typed (more_links operator.Meet p x ls) left k t m a zs b e l h = absurd b
    unions_typed (more_links operator.Product p x ls) left k t m a zs b e l h = absurd b
    unions_typed (more_links operator.Domain p x ls) left k t m a zs b e l h = absurd b
    unions_typed (more_links operator.Range p x ls) left k t m a zs b e l h = absurd b

    no_arrows : (ls : LinkTrees) → AreUnions ls → arrows_arity ls ≡ 0
    no_arrows no_links b = refl
    no_arrows (more_links operator.Union p x ls) b = refl
    no_arrows (more_links operator.Or p x ls) b = refl
    no_arrows (more_links operator.Iff p x ls) b = refl
    no_arrows (more_links operator.And p x ls) b = refl
    no_arrows (more_links operator.Minus p x ls) b = refl
    no_arrows (more_links operator.Override p x ls) b = refl
    no_arrows (more_links operator.Meet p x ls) b = refl
    no_arrows (more_links operator.Product p x ls) b = absurd b
    no_arrows (more_links operator.Domain p x ls) b = refl
    no_arrows (more_links operator.Range p x ls) b = refl

    arrows_typed : (ls : LinkTrees) (left : _) (k : Kind) (t : Lists) (m : ℕ) (a : Lists) (zs : LinkTrees × Kind) → AreArrows ls → k ≡ sorts.relation m → AreLong m a
        → links_settled d [] left k t ls ≡ Ok zs → AreTyped xs a ls (m + arrows_arity ls) zs
    arrows_typed no_links left k t m a zs b e l h =
        let n : m ≡ m + 0 = sym (add-zero m) in
        (ap (λ (w : LinkTrees × Kind). w.1) (sym (same_ok (no_links, k) zs h)) ∙ e ∙ ap sorts.relation n, subst (λ q. AreLong q a) n l)
    arrows_typed (more_links operator.Product p x ls) left k t m a zs b e l h =
        let f = bind_ok (as_relation left k) _ zs h in
        let y = bind_ok (settled d [] [] x) _ zs f.2 in
        let n = bind_ok (as_relation (first_place x) y.0.kind) _ zs y.2 in
        let r = bind_ok (operator_arity operator.Product p left (first_place x) f.0 n.0) _ zs n.2 in
        let rest = bind_ok (links_settled d [] left (sorts.relation r.0) _ ls) _ zs r.2 in
        let u = bind_ok (unless (nat_le (f.0 + n.0) 3) (fault.ArityTooLarge p)) _ r.0 r.1 in
        let i = bound_typed x [] y.0 b.0 y.1 in
        let first : m ≡ f.0 = arity_is left k m f.0 e f.1 in
        let second : bound_arity x ≡ n.0 = arity_is (first_place x) y.0.kind (bound_arity x) n.0 i.0 n.1 in
        let sum : f.0 + n.0 ≡ r.0 = same_ok (f.0 + n.0) r.0 u.2 in
        let same : r.0 ≡ m + bound_arity x = omega arith in
        let j = arrows_typed ls left (sorts.relation r.0) _ (m + bound_arity x) (products a (bound_type xs x)) rest.0 b.1 (ap sorts.relation same) (long_products m (bound_arity x) a (bound_type xs x) l i.1) rest.1 in
        let total : m + bound_arity x + arrows_arity ls ≡ m + (bound_arity x + arrows_arity ls) = omega arith in
        (ap (λ (w : LinkTrees × Kind). w.1) (sym (same_ok (more_links operator.Product p y.0.tree rest.0.0, rest.0.1) zs rest.2)) ∙ j.0 ∙ ap sorts.relation total, subst (λ q. AreLong q (links_type_in xs (products a (bound_type xs x)) ls)) total j.1)
    arrows_typed (more_links operator.Or p x ls) left k t m a zs b e l h = absurd b
    arrows_typed (more_links operator.Iff p x ls) left k t m a zs b e l h = absurd b
    arrows_typed (more_links operator.And p x ls) left k t m a zs b e l h = absurd b
    arrows_typed (more_links operator.Union p x ls) left k t m a zs b e l h = absurd b
    arrows_typed (more_links operator.Minus p x ls) left k t m a zs b e l h = absurd b
    arrows_typed (more_links operator.Override p x ls) left k t m a zs b e l h = absurd b
    arrows_typed (more_links operator.Meet p x ls) left k t m a zs b e l h = absurd b
    arrows_typed (more_links operator.Domain p x ls) left k t m a zs b e l h = absurd b
    arrows_typed (more_links operator.Range p x ls) left k t m a zs b e l h = absurd b

-- ---- fields

field_typed : (d : Declared) (xs : List Signature) (n : ℕ) (f : FieldTree) → IsField n f → HasNoFault (field_checked d f) → HasLists xs f.bound
field_typed d xs n f is ok =
    let u = ok.0 in
    let y = bind_ok (settled d [] [] f.bound) _ u ok.1 in
    let k = bind_ok (as_relation (first_place f.bound) y.0.kind) _ u y.2 in
    let s = bind_ok (arrow_checked d f) _ u k.2 in
    let o = bind_ok (unless (if wants_unary f.mark then k.0 == 1 else true) (fault.NotUnary (first_place f.bound))) _ u s.2 in
    let i = bound_typed d xs f.bound [] y.0 is.bound y.1 in
    let few = le_met k.0 2 (met (nat_le k.0 2) (fault.ArityTooLarge f.place) u o.2) in
    let same = arity_is (first_place f.bound) y.0.kind (bound_arity f.bound) k.0 i.0 k.1 in
    record { bound = is.bound; few = omega (arith, few, same); even = i.1 }

each_typed : (d : Declared) (xs : List Signature) (n : ℕ) (fs : List FieldTree) → All (IsField n) fs → All (λ (f : FieldTree). HasNoFault (field_checked d f)) fs → All (λ (f : FieldTree). HasLists xs f.bound) fs
each_typed d xs n fs is ok k f l = field_typed d xs n _ (is k f l) (ok k f l)

pub fields_typed : (m : NamedTree) → HasReferences m → HasTypes m → All (λ (f : FieldTree). HasLists m.signatures f.bound) m.fields
fields_typed m r h = each_typed (declared_in m) m.signatures (length m.signatures) m.fields r.fields h.fields
