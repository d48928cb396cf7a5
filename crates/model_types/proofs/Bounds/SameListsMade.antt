-- Operators make the same lists of the same lists.
use Rattle.std.proofs.Common.{◌≡◌, ℕ, ◌&&◌, ◌||◌, List, [], ◌∷◌, ◌++◌, map, filter, reverse, refl, sym, ap, ◌∙◌, bytes_eq}
use Rattle.std.specs.List.{list_any}
use Rattle.std.proofs.lemmas.List.Folds.{list_any-append}
use Rattle.alloy_syntax.specs.declared.tree.Prefix.{Prefix}
use Rattle.alloy_syntax.specs.declared.tree.Prefix.TheVariants as prefixes
use Rattle.alloy_syntax.specs.declared.tree.Operator.{Operator}
use Rattle.alloy_syntax.specs.declared.tree.Operator.TheVariants as operator
use Rattle.model_types.specs.Bounding.{Lists, has, products, joined, joins, meet, start_of, end_of, starting_in, ending_in, through, doubles, prefix_type, operator_type}
use Rattle.model_types.specs.Bounds.Same.{AreSame}
use Rattle.model_types.proofs.Bounds.Sets.{any_alike, any-filter, any-map, any-products, any-joins}

pub same : (a b : Lists) → a ≡ b → AreSame a b
same a b e = λ t. ap (list_any t) e

pub same_then : (a b c : Lists) → AreSame a b → AreSame b c → AreSame a c
same_then a b c h k = λ t. h t ∙ k t

pub same_append : (a b x y : Lists) → AreSame a x → AreSame b y → AreSame (a ++ b) (x ++ y)
same_append a b x y h k = λ t. list_any-append t a b ∙ (λ i. h t i || k t i) ∙ sym (list_any-append t x y)

pub same_products : (a b x y : Lists) → AreSame a x → AreSame b y → AreSame (products a b) (products x y)
same_products a b x y h k = λ t.
    any-products t a b ∙ h (λ l. list_any (λ r. t (l ++ r)) b)
    ∙ any_alike (λ l. list_any (λ r. t (l ++ r)) b) (λ l. list_any (λ r. t (l ++ r)) y) (λ l. k (λ r. t (l ++ r))) x ∙ sym (any-products t x y)

pub same_joins : (a b x y : Lists) → AreSame a x → AreSame b y → AreSame (joins a b) (joins x y)
same_joins a b x y h k = λ t.
    any-joins t a b ∙ h (λ l. list_any (λ r. list_any t (joined l r)) b)
    ∙ any_alike (λ l. list_any (λ r. list_any t (joined l r)) b) (λ l. list_any (λ r. list_any t (joined l r)) y) (λ l. k (λ r. list_any t (joined l r))) x
    ∙ sym (any-joins t x y)

-- what a test on single lists leaves, where the test is whether something of a list is among others
same_filter : (f : List ℕ → List ℕ) (a s x y : Lists) → AreSame a x → AreSame s y → AreSame (filter (λ l. has s (f l)) a) (filter (λ l. has y (f l)) x)
same_filter f a s x y h k = λ t.
    any-filter t (λ l. has s (f l)) a ∙ h (λ l. has s (f l) && t l)
    ∙ any_alike (λ l. has s (f l) && t l) (λ l. has y (f l) && t l) (λ l. ap (λ c. c && t l) (k (bytes_eq (f l)))) x
    ∙ sym (any-filter t (λ l. has y (f l)) x)

pub same_meet : (a b x y : Lists) → AreSame a x → AreSame b y → AreSame (meet a b) (meet x y)
same_meet a b x y h k = same_filter (λ l. l) a b x y h k

pub same_starting : (s a y x : Lists) → AreSame s y → AreSame a x → AreSame (starting_in s a) (starting_in y x)
same_starting s a y x k h = same_filter start_of a s x y h k

pub same_ending : (a s x y : Lists) → AreSame a x → AreSame s y → AreSame (ending_in a s) (ending_in x y)
same_ending a s x y h k = same_filter end_of a s x y h k

pub same_reversed : (a x : Lists) → AreSame a x → AreSame (map reverse a) (map reverse x)
same_reversed a x h = λ t. any-map t reverse a ∙ h (λ l. t (reverse l)) ∙ sym (any-map t reverse x)

pub same_through : (ks : List ℕ) (a x : Lists) → AreSame a x → AreSame (through ks a) (through ks x)
same_through [] a x h = h
same_through (k ∷ ks) a x h =
    let way : Lists = (k ∷ []) ∷ [] in
    same_through ks (a ++ joins (ending_in a way) (starting_in way a)) (x ++ joins (ending_in x way) (starting_in way x))
    (same_append a (joins (ending_in a way) (starting_in way a)) x (joins (ending_in x way) (starting_in way x)) h
    (same_joins (ending_in a way) (starting_in way a) (ending_in x way) (starting_in way x) (same_ending a way x way h (λ t. refl)) (same_starting way a way x (λ t. refl) h)))

pub same_prefix : (ks : List ℕ) (f : Prefix) (a x : Lists) → AreSame a x → AreSame (prefix_type ks f a) (prefix_type ks f x)
same_prefix ks prefixes.Transpose a x h = same_reversed a x h
same_prefix ks prefixes.Closure a x h = same_through ks a x h
same_prefix ks prefixes.ReflexiveClosure a x h = same_append (through ks a) (doubles ks) (through ks x) (doubles ks) (same_through ks a x h) (λ t. refl)
same_prefix ks prefixes.Not a x h = λ t. refl
same_prefix ks prefixes.Size a x h = λ t. refl
same_prefix ks prefixes.No a x h = λ t. refl
same_prefix ks prefixes.Some a x h = λ t. refl
same_prefix ks prefixes.Lone a x h = λ t. refl
same_prefix ks prefixes.One a x h = λ t. refl

pub same_operator : (o : Operator) (a b x y : Lists) → AreSame a x → AreSame b y → AreSame (operator_type o a b) (operator_type o x y)
same_operator operator.Or a b x y h k = λ t. refl
same_operator operator.Iff a b x y h k = λ t. refl
same_operator operator.And a b x y h k = λ t. refl
same_operator operator.Union a b x y h k = same_append a b x y h k
same_operator operator.Minus a b x y h k = h
same_operator operator.Override a b x y h k = same_append a b x y h k
same_operator operator.Meet a b x y h k = same_meet a b x y h k
same_operator operator.Product a b x y h k = same_products a b x y h k
same_operator operator.Domain a b x y h k = same_starting a b x y h k
same_operator operator.Range a b x y h k = same_ending a b x y h k
