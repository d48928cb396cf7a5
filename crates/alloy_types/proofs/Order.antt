-- The first fault in the order of the paragraphs, by outcomes.
use Rattle.std.proofs.Common.{◌≡◌, ℕ, zero, suc, ◌+◌, ◌-◌, ◌<◌, ◌≤◌, min, arith, inl, inr, List, [], ◌∷◌, map, length, take, drop, get_or, Option, Some, None, Result, Ok, Err, refl, sym, ap, ◌∙◌}
use Rattle.std.specs.List.{slice_get, slice_index_or}
use Rattle.std.proofs.lemmas.Bool.{cases_lt}
use Rattle.std.specs.Option.{option_map}
use Rattle.std.proofs.lemmas.Option.{slice_get-map, slice_get-get_or, slice_get_past}
use Rattle.std.proofs.lemmas.List.{take-map, drop-map, drop_more, drop_all}
use Rattle.named_model.specs.Phrase.{DomainTree}
use Rattle.named_model.specs.declared.named.Part.TheVariants as part
use Rattle.named_model.specs.Model.{FieldTree, TargetTree, CommandTree, NamedTree}
use Rattle.named_model.specs.View.{callee_view, formulas_view, target_view}
use Rattle.named_model.specs.Answers.{◌>>=◌}
use Rattle.model_types.specs.declared.fault.TypeFault.{TypeFault}
use Rattle.model_types.specs.Sorts.{Checked}
use Rattle.model_types.specs.Typing.{Declared, formulas_settled}
use Rattle.model_types.specs.Models.{field_checked, fields_checked, callee_settled, target_settled, command_settled, checked, checked_at, part_checked}
use Rattle.alloy_types.specs.declared.outcomes.Outcomes.{Outcomes}
use Rattle.named_model.specs.declared.phrase.Domain.{Domain}
use Rattle.named_model.specs.View.{domain_view}
use Rattle.alloy_types.specs.declared.known_callees.groups.Group.{Group}
use Rattle.alloy_types.specs.Calls.Groups.{GroupTree, group_view}
use Rattle.alloy_types.specs.Outcomes.{AreOutcomes, outcome_view, first_fault, fault_at}
use Rattle.alloy_types.specs.Meanings.{group_unary, groups_unary}

-- ---- one outcome

abbrev fault_in : {X : Type 0} → Option (Result X TypeFault) → Checked
fault_in o = elim o [ None ↦ Ok tt | Some r ↦ checked r ]

fault_seen : {X Y : Type 0} (see : X → Y) (o : Option (Result X TypeFault)) → fault_in (option_map (outcome_view see) o) ≡ fault_in o
fault_seen see None = refl
fault_seen see (Some (Ok x)) = refl
fault_seen see (Some (Err e)) = refl

checked_in : {X Y : Type 0} (f : X → Result Y TypeFault) (o : Option X) → fault_in (option_map f o) ≡ elim o [ None ↦ Ok tt | Some x ↦ checked (f x) ]
checked_in f None = refl
checked_in f (Some x) = refl

pub fault_is : {X Y V : Type 0} (see : X → Y) (f : V → Result Y TypeFault) (rs : List (Result X TypeFault)) (xs : List V) (n : ℕ) → map (outcome_view see) rs ≡ map f xs → fault_at rs n ≡ checked_at f xs n
fault_is see f rs xs n are =
    sym (fault_seen see (slice_get rs n)) ∙ ap fault_in (sym (slice_get-map (outcome_view see) rs n) ∙ ap (λ qs. slice_get qs n) are ∙ slice_get-map f xs n) ∙ checked_in f (slice_get xs n)

-- the outcome of a number that there is, and of one past all
pub fault_there : {X : Type 0} (rs : List (Result X TypeFault)) (n : ℕ) (r : Result X TypeFault) → r ≡ get_or rs n r → n < length rs → checked r ≡ fault_at rs n
fault_there rs n r is l = ap fault_in (ap Some is ∙ sym (slice_get-get_or rs n r l))

pub fault_past : {X : Type 0} (rs : List (Result X TypeFault)) (n : ℕ) → length rs ≤ n → Ok tt ≡ fault_at rs n
fault_past rs n l = ap fault_in (sym (slice_get_past rs n l))

-- ---- commands have the faults of what they run or check

abbrev command_by : CommandTree → Result TargetTree TypeFault → Result CommandTree TypeFault
command_by c r = r >>= λ t. Ok (record c { target = t })

command_fault : (c : CommandTree) (r : Result TargetTree TypeFault) → checked r ≡ checked (command_by c r)
command_fault c (Ok t) = refl
command_fault c (Err e) = refl

target_in : (m : NamedTree) (d : Declared) (cs : List CommandTree) (n : ℕ) → checked_at (λ (c : CommandTree). target_settled m d c.target) cs n ≡ checked_at (command_settled m d) cs n
target_in m d [] n = refl
target_in m d (c ∷ cs) zero = command_fault c (target_settled m d c.target)
target_in m d (c ∷ cs) (suc n) = target_in m d cs n

-- ---- fields

first_is : (d : Declared) (fs : List FieldTree) → first_fault (map (field_checked d) fs) ≡ fields_checked d fs
first_is d [] = refl
first_is d (f ∷ fs) = ap (λ r. field_checked d f >>= λ one. r) (first_is d fs)

pub fields_are : (d : Declared) (rs : List Checked) (fs : List FieldTree) (first count : ℕ) → rs ≡ map (field_checked d) fs → first_fault (take count (drop first rs)) ≡ fields_checked d (take count (drop first fs))
fields_are d rs fs first count are =
    ap (λ qs. first_fault (take count (drop first qs))) are
    ∙ ap (λ qs. first_fault (take count qs)) (drop-map (field_checked d) first fs) ∙ ap first_fault (take-map (field_checked d) count (drop first fs)) ∙ first_is d (take count (drop first fs))

-- ---- one paragraph

module _ (m : NamedTree) (d : Declared) (o : Outcomes) (are : AreOutcomes m d o) where
  pub part_fields : (first count : ℕ) → first_fault (take count (drop first o.fields.items)) ≡ part_checked m d (part.Fields first count)
  part_fields first count = fields_are d o.fields.items m.fields first count are.fields

  pub part_fact : (n : ℕ) → fault_at o.facts.items n ≡ part_checked m d (part.Fact n)
  part_fact n = fault_is formulas_view (formulas_settled d []) o.facts.items m.facts n are.facts

  pub part_callee : (n : ℕ) → fault_at o.callees.items n ≡ part_checked m d (part.Callee n)
  part_callee n = fault_is callee_view (callee_settled d) o.callees.items m.callees n are.callees

  pub part_assertion : (n : ℕ) → fault_at o.assertions.items n ≡ part_checked m d (part.Assertion n)
  part_assertion n = fault_is formulas_view (formulas_settled d []) o.assertions.items m.assertions n are.assertions

  pub part_command : (n : ℕ) → fault_at o.targets.items n ≡ part_checked m d (part.Command n)
  part_command n = fault_is target_view (λ (c : CommandTree). target_settled m d c.target) o.targets.items m.commands n are.targets ∙ target_in m d m.commands n

-- ---- one after the other

-- those before a number have no fault
module _ {X : Type 0} (check : X → Checked) (all_checked : List X → Checked) (turn : (x : X) (xs : List X) → all_checked (x ∷ xs) ≡ (check x >>= λ done. all_checked xs)) where
  pub checked_more : (all : List X) (i : ℕ) (x : X) → i < length all → x ≡ get_or all i x → check x ≡ Ok tt → all_checked all ≡ all_checked (drop i all) → all_checked all ≡ all_checked (drop (i + 1) all)
  checked_more all i x l is fine before =
      before ∙ ap all_checked (drop_more all i x l ∙ ap (λ (y : X). y ∷ drop (i + 1) all) (sym is)) ∙ turn x (drop (i + 1) all) ∙ ap (λ r. r >>= λ done. all_checked (drop (i + 1) all)) fine

  pub checked_fault : (all : List X) (i : ℕ) (x : X) (e : TypeFault) → i < length all → x ≡ get_or all i x → check x ≡ Err e → all_checked all ≡ all_checked (drop i all) → all_checked all ≡ Err e
  checked_fault all i x e l is told before =
      before ∙ ap all_checked (drop_more all i x l ∙ ap (λ (y : X). y ∷ drop (i + 1) all) (sym is)) ∙ turn x (drop (i + 1) all) ∙ ap (λ r. r >>= λ done. all_checked (drop (i + 1) all)) told

  pub checked_none : (all : List X) (i : ℕ) → length all ≤ i → all_checked all ≡ all_checked (drop i all) → all_checked all ≡ all_checked []
  checked_none all i l before = before ∙ ap all_checked (drop_all i all l)

-- ---- the fields of a paragraph

module _ (rs : List Checked) (first count : ℕ) where
  -- those before a number have no fault
  abbrev pub AreFine : ℕ → Type 0
  AreFine k = first_fault (take count (drop first rs)) ≡ first_fault (take ((first + count) - k) (drop k rs))

  pub fine_start : AreFine first
  fine_start = let same : count ≡ (first + count) - first = omega arith in ap (λ n. first_fault (take n (drop first rs))) same

  next_fault : (k n : ℕ) → (first + count) - k ≡ suc n → k < length rs → AreFine k → first_fault (take count (drop first rs)) ≡ (slice_index_or rs k (Ok tt) >>= λ done. first_fault (take n (drop (k + 1) rs)))
  next_fault k n e l before =
      before ∙ ap (λ i. first_fault (take i (drop k rs))) e ∙ ap (λ (qs : List Checked). first_fault (take (suc n) qs)) (drop_more rs k (Ok tt) l)

  pub fine_more : (k : ℕ) → k < first + count → k < length rs → slice_index_or rs k (Ok tt) ≡ Ok tt → AreFine k → AreFine (k + 1)
  fine_more k less l fine before =
      let e : (first + count) - k ≡ suc ((first + count) - (k + 1)) = omega (arith, less) in
      next_fault k ((first + count) - (k + 1)) e l before ∙ ap (λ (r : Checked). r >>= λ done. first_fault (take ((first + count) - (k + 1)) (drop (k + 1) rs))) fine

  pub fine_fault : (k : ℕ) (f : TypeFault) → k < first + count → k < length rs → slice_index_or rs k (Ok tt) ≡ Err f → AreFine k → first_fault (take count (drop first rs)) ≡ Err f
  fine_fault k f less l told before =
      let e : (first + count) - k ≡ suc ((first + count) - (k + 1)) = omega (arith, less) in
      next_fault k ((first + count) - (k + 1)) e l before ∙ ap (λ (r : Checked). r >>= λ done. first_fault (take ((first + count) - (k + 1)) (drop (k + 1) rs))) told

  take_none : (n : ℕ) (qs : List Checked) → qs ≡ [] → take n qs ≡ []
  take_none zero qs e = refl
  take_none (suc n) qs e = ap (take (suc n)) e

  pub fine_end : (k left : ℕ) → left ≡ length rs - first → first + min count left ≤ k → AreFine k → first_fault (take count (drop first rs)) ≡ Ok tt
  fine_end k left is l before = elim (cases_lt k (length rs)) [
    | inl less ↦ let none : (first + count) - k ≡ 0 = omega (arith, less) in before ∙ ap (λ n. first_fault (take n (drop k rs))) none
    | inr more ↦ before ∙ ap first_fault (take_none ((first + count) - k) (drop k rs) (drop_all k rs more))
  ]

-- ---- parameters

no_domains_left : (gs : List GroupTree) (xs : List DomainTree) → xs ≡ [] → groups_unary gs xs ≡ Ok tt
no_domains_left [] xs e = refl
no_domains_left (g ∷ gs) xs e = ap (groups_unary (g ∷ gs)) e

module _ (gs : List Group) (xs : List Domain) (i : ℕ) (whole : Checked) (before : whole ≡ groups_unary (map group_view (drop i gs)) (map domain_view (drop i xs))) where
  module _ (g : Group) (x : Domain) (first : i < length gs) (second : i < length xs) (is : g ≡ slice_index_or gs i g) (there : x ≡ slice_index_or xs i x) where
    both : whole ≡ (group_unary (group_view g) (domain_view x) >>= λ done. groups_unary (map group_view (drop (i + 1) gs)) (map domain_view (drop (i + 1) xs)))
    both =
        before ∙ ap (λ (hs : List Group). groups_unary (map group_view hs) (map domain_view (drop i xs))) (drop_more gs i g first ∙ ap (λ (h : Group). h ∷ drop (i + 1) gs) (sym is))
        ∙ ap (λ (ys : List Domain). groups_unary (map group_view (g ∷ drop (i + 1) gs)) (map domain_view ys)) (drop_more xs i x second ∙ ap (λ (y : Domain). y ∷ drop (i + 1) xs) (sym there))

    pub groups_next : group_unary (group_view g) (domain_view x) ≡ Ok tt → whole ≡ groups_unary (map group_view (drop (i + 1) gs)) (map domain_view (drop (i + 1) xs))
    groups_next fine = both ∙ ap (λ (r : Checked). r >>= λ done. groups_unary (map group_view (drop (i + 1) gs)) (map domain_view (drop (i + 1) xs))) fine

    pub groups_fault : (e : TypeFault) → group_unary (group_view g) (domain_view x) ≡ Err e → whole ≡ Err e
    groups_fault e told = both ∙ ap (λ (r : Checked). r >>= λ done. groups_unary (map group_view (drop (i + 1) gs)) (map domain_view (drop (i + 1) xs))) told

  pub groups_past : length xs ≤ i → whole ≡ groups_unary (map group_view (drop (i + 1) gs)) (map domain_view (drop (i + 1) xs))
  groups_past l =
      before ∙ no_domains_left (map group_view (drop i gs)) (map domain_view (drop i xs)) (ap (map domain_view) (drop_all i xs l))
      ∙ sym (no_domains_left (map group_view (drop (i + 1) gs)) (map domain_view (drop (i + 1) xs)) (ap (map domain_view) (drop_all (i + 1) xs (omega (arith, l)))))

  pub groups_end : length gs ≤ i → whole ≡ Ok tt
  groups_end l = before ∙ ap (λ (hs : List Group). groups_unary (map group_view hs) (map domain_view (drop i xs))) (drop_all i gs l)
