-- Lines that lead from one reading to another.
use Rattle.std.proofs.Common.{◌≡◌, ◌++◌, ℕ, suc, List, [], ◌∷◌, Option, Some, None, length, refl, sym, ap, ◌∙◌, subst}
use Rattle.script_format.specs.declared.fault.Kind.{Kind}
use Rattle.script_format.specs.Reading.{Reading, fault_of, after}
use Rattle.script_format.specs.Lines.{line_of}
use Rattle.script_format.specs.Script.{Leads}

-- the fault of a line where it stands
abbrev pub blame : Reading → List ℕ → Option Kind
blame r text = fault_of r (line_of r.began text)

-- what was read with a line
abbrev pub beyond : Reading → List ℕ → Reading
beyond r text = after r text (line_of r.began text)

-- a line more
pub leads_on : (first last : Reading) (texts : List (List ℕ)) (text : List ℕ) → Leads first texts last → blame last text ≡ None → Leads first (texts ++ text ∷ []) (beyond last text)
leads_on first last [] text e none = (subst (λ (r : Reading). blame r text ≡ None) e none, ap (λ (r : Reading). beyond r text) e)
leads_on first last (x ∷ xs) text h none = (h.0, leads_on (beyond first x) last xs text h.1 none)

-- lines lead to one reading
pub leads_one : (first a b : Reading) (texts : List (List ℕ)) → Leads first texts a → Leads first texts b → a ≡ b
leads_one first a b [] p q = p ∙ sym q
leads_one first a b (x ∷ xs) p q = leads_one (beyond first x) a b xs p.1 q.1

pub head_is : (x y : List ℕ) (xs ys : List (List ℕ)) → x ∷ xs ≡ y ∷ ys → x ≡ y
head_is x y xs ys e = cc

pub tail_is : (x y : List ℕ) (xs ys : List (List ℕ)) → x ∷ xs ≡ y ∷ ys → xs ≡ ys
tail_is x y xs ys e = cc

pub none_some : (o : Option Kind) (k : Kind) → o ≡ None → o ≡ Some k → ⊥
none_some o k none some = absurd (cc)

pub some_is : (o : Option Kind) (k j : Kind) → o ≡ Some k → o ≡ Some j → k ≡ j
some_is o k j p q = cc

-- where no line has a fault, none of them is the first one with a fault
pub no_fault : (first last l : Reading) (before others : List (List ℕ)) (text : List ℕ) (kind : Kind) → Leads first (before ++ text ∷ others) last → Leads first before l → blame l text ≡ Some kind → ⊥
no_fault first last l [] others text kind all e some = none_some (blame first text) kind all.0 (subst (λ (r : Reading). blame r text ≡ Some kind) e some)
no_fault first last l (x ∷ xs) others text kind all leads some = no_fault (beyond first x) last l xs others text kind all.1 leads.1 some

-- there is one first line with a fault
pub same_fault : (first l m : Reading) (before others after others' : List (List ℕ)) (text text' : List ℕ) (kind kind' : Kind)
    → Leads first before l → blame l text ≡ Some kind → Leads first after m → blame m text' ≡ Some kind'
    → before ++ text ∷ others ≡ after ++ text' ∷ others' → (length before ≡ length after) × (kind ≡ kind')
same_fault first l m [] others [] others' text text' kind kind' p some q some' e =
    let here : text ≡ text' = head_is text text' others others' e in
    let a : blame first text ≡ Some kind = subst (λ (r : Reading). blame r text ≡ Some kind) p some in
    let b : blame first text ≡ Some kind' = subst (λ (t : List ℕ). blame first t ≡ Some kind') (sym here) (subst (λ (r : Reading). blame r text' ≡ Some kind') q some') in
    (refl, some_is (blame first text) kind kind' a b)
same_fault first l m [] others (y ∷ ys) others' text text' kind kind' p some q some' e =
    let here : text ≡ y = head_is text y others (ys ++ text' ∷ others') e in
    absurd (none_some (blame first y) kind q.0 (subst (λ (t : List ℕ). blame first t ≡ Some kind) here (subst (λ (r : Reading). blame r text ≡ Some kind) p some)))
same_fault first l m (x ∷ xs) others [] others' text text' kind kind' p some q some' e =
    let here : x ≡ text' = head_is x text' (xs ++ text ∷ others) others' e in
    absurd (none_some (blame first x) kind' p.0 (subst (λ (t : List ℕ). blame first t ≡ Some kind') (sym here) (subst (λ (r : Reading). blame r text' ≡ Some kind') q some')))
same_fault first l m (x ∷ xs) others (y ∷ ys) others' text text' kind kind' p some q some' e =
    let here : y ≡ x = sym (head_is x y (xs ++ text ∷ others) (ys ++ text' ∷ others') e) in
    let rest : Leads (beyond first x) ys m = subst (λ (t : List ℕ). Leads (beyond first t) ys m) here q.1 in
    let on = same_fault (beyond first x) l m xs others ys others' text text' kind kind' p.1 some rest some' (tail_is x y (xs ++ text ∷ others) (ys ++ text' ∷ others') e) in
    (ap suc on.0, on.1)
