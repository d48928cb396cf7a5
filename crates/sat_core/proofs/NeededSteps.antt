-- Marks of the steps that a log's last step needs, and the steps that are left with them.
use Rattle.std.proofs.Common.{◌≡◌, ◌<◌, ◌≤◌, ◌+◌, ◌-◌, ◌++◌, [], ◌∷◌, ℕ, zero, suc, Bool, true, false, List, length, get_or, take, map, arith, sym, ◌∙◌, ap, inl, inr, refl, subst, zero-add}
use Rattle.std.proofs.lemmas.List.{take_more, map-append, length-map, length-take}
use Rattle.std.proofs.lemmas.List.Elements.{All-append, All-weaker, Contains-append_left, Contains-append_right}
use Rattle.std.specs.Prelude.{if◌then◌else◌}
use Rattle.refutation_check.specs.declared.log.Step.{Step}
use Rattle.refutation_check.specs.Renumbering.{kept_number}
use Rattle.sat_core.specs.Assuming.{numbered}
use Rattle.sat_core.specs.Trimmed.{IsMarked, IsMarkedBy, marked_steps, number_by, trimmed_by}

-- how many of the first marks are set, with one mark more
count_suc : (marks : List Bool) (n : ℕ) (b : Bool) → n < length marks → get_or marks n false ≡ b → kept_number (suc n) marks ≡ kept_number n marks + (if b then 1 else 0)
count_suc [] n b h e = absurd (omega arith)
count_suc (m ∷ marks) zero b h e = subst (λ (c : Bool). (if m then 1 else 0) + 0 ≡ 0 + (if c then 1 else 0)) e (omega arith)
count_suc (m ∷ marks) (suc n) b h e = omega (arith, count_suc marks n b (omega arith) e)

pub count_more : (marks : List Bool) (n : ℕ) (b : Bool) → n < length marks → get_or marks n false ≡ b → kept_number (n + 1) marks ≡ kept_number n marks + (if b then 1 else 0)
count_more marks n b h e =
    let next : n + 1 ≡ suc n = omega arith in
    ap (λ (k : ℕ). kept_number k marks) next ∙ count_suc marks n b h e

pub marked_within : (marks : List Bool) (n : ℕ) → IsMarked marks n → n < length marks
marked_within [] n is = absurd cc
marked_within (m ∷ marks) zero is = omega arith
marked_within (m ∷ marks) (suc n) is = omega (arith, marked_within marks n is)

pub count_marked : (marks : List Bool) (n : ℕ) → IsMarked marks n → kept_number (n + 1) marks ≡ kept_number n marks + 1
count_marked marks n is = count_more marks n true (marked_within marks n is) is

pub count_rises : (marks : List Bool) (n m : ℕ) → n ≤ m → kept_number n marks ≤ kept_number m marks
count_rises marks zero m h = omega arith
count_rises [] (suc n) m h = omega arith
count_rises (b ∷ marks) (suc n) zero h = absurd (omega arith)
count_rises (b ∷ marks) (suc n) (suc m) h = omega (arith, count_rises marks n m (omega arith))

pub count_few : (marks : List Bool) (n : ℕ) → kept_number n marks ≤ n
count_few marks zero = omega arith
count_few [] (suc n) = omega arith
count_few (true ∷ marks) (suc n) = omega (arith, count_few marks n)
count_few (false ∷ marks) (suc n) = omega (arith, count_few marks n)

-- the place of a marked step among the steps that are left
pub left_at : (marks : List Bool) (steps : List Step) (n : ℕ) (d : Step) → length marks ≡ length steps → IsMarked marks n → get_or (marked_steps marks steps) (kept_number n marks) d ≡ get_or steps n d
left_at [] steps n d long is = absurd cc
left_at (m ∷ marks) [] n d long is = absurd (omega arith)
left_at (true ∷ marks) (s ∷ steps) zero d long is = refl
left_at (true ∷ marks) (s ∷ steps) (suc n) d long is =
    let next : kept_number (suc n) (true ∷ marks) ≡ suc (kept_number n marks) = omega arith in
    ap (λ (k : ℕ). get_or (s ∷ marked_steps marks steps) k d) next ∙ left_at marks steps n d (omega arith) is
left_at (false ∷ marks) (s ∷ steps) zero d long is = absurd cc
left_at (false ∷ marks) (s ∷ steps) (suc n) d long is = ap (λ (k : ℕ). get_or (marked_steps marks steps) k d) (zero-add (kept_number n marks)) ∙ left_at marks steps n d (omega arith) is

pub left_count : (marks : List Bool) (steps : List Step) → length marks ≡ length steps → length (marked_steps marks steps) ≡ kept_number (length marks) marks
left_count [] steps long = refl
left_count (m ∷ marks) [] long = absurd (omega arith)
left_count (true ∷ marks) (s ∷ steps) long = omega (arith, left_count marks steps (omega arith))
left_count (false ∷ marks) (s ∷ steps) long = omega (arith, left_count marks steps (omega arith))

pub left_few : (marks : List Bool) (steps : List Step) → length (marked_steps marks steps) ≤ length steps
left_few [] steps = omega arith
left_few (m ∷ marks) [] = omega arith
left_few (true ∷ marks) (s ∷ steps) = omega (arith, left_few marks steps)
left_few (false ∷ marks) (s ∷ steps) = omega (arith, left_few marks steps)

-- the step that is left at this place stood at a marked one
pub record StoodAt (marks : List Bool) (k : ℕ) : Type 0 where
  pub place : ℕ
  pub marked : IsMarked marks place
  pub count : kept_number place marks ≡ k

pub stood_at : (marks : List Bool) (steps : List Step) (k : ℕ) → length marks ≡ length steps → k < length (marked_steps marks steps) → StoodAt marks k
stood_at [] steps k long h = absurd (omega arith)
stood_at (m ∷ marks) [] k long h = absurd (omega arith)
stood_at (true ∷ marks) (s ∷ steps) zero long h = record { place = zero; marked = refl; count = refl }
stood_at (true ∷ marks) (s ∷ steps) (suc k) long h =
    let rest = stood_at marks steps k (omega arith) (omega arith) in
    record { place = suc rest.place; marked = rest.marked; count = omega (arith, rest.count) }
stood_at (false ∷ marks) (s ∷ steps) k long h =
    let rest = stood_at marks steps k (omega arith) h in
    record { place = suc rest.place; marked = rest.marked; count = omega (arith, rest.count) }

-- one step more
left_push : (marks : List Bool) (steps : List Step) (m : Bool) (s : Step) → length marks ≡ length steps → marked_steps (marks ++ m ∷ []) (steps ++ s ∷ []) ≡ marked_steps marks steps ++ (if m then s ∷ [] else [])
left_push [] [] true s long = refl
left_push [] [] false s long = refl
left_push [] (x ∷ steps) m s long = absurd (omega arith)
left_push (b ∷ marks) [] m s long = absurd (omega arith)
left_push (true ∷ marks) (x ∷ steps) m s long = ap (λ (ss : List Step). x ∷ ss) (left_push marks steps m s (omega arith))
left_push (false ∷ marks) (x ∷ steps) m s long = left_push marks steps m s (omega arith)

module _ (given : ℕ) (numbers : List ℕ) (marks : List Bool) (steps : List Step) (i : ℕ) (d : Step) (long : length marks ≡ length steps) (h : i < length steps) where
  pub trimmed_few : length (trimmed_by given numbers (take i marks) (take i steps)) ≤ i
  trimmed_few = omega (arith, length-map (marked_steps (take i marks) (take i steps)) (numbered (number_by given numbers)), left_few (take i marks) (take i steps), length-take i steps)

  pub trimmed_more : (b : Bool) → get_or marks i false ≡ b →
      trimmed_by given numbers (take (i + 1) marks) (take (i + 1) steps) ≡ trimmed_by given numbers (take i marks) (take i steps) ++ map (numbered (number_by given numbers)) (if b then get_or steps i d ∷ [] else [])
  trimmed_more b is =
      let within : i < length marks = omega arith in
      let as_many : length (take i marks) ≡ length (take i steps) = omega (arith, length-take i marks, length-take i steps) in
      let number : Step → Step = numbered (number_by given numbers) in
      let more : marked_steps (take (i + 1) marks) (take (i + 1) steps) ≡ marked_steps (take i marks) (take i steps) ++ (if b then get_or steps i d ∷ [] else []) =
      subst (λ (ms : List Bool). marked_steps ms (take (i + 1) steps) ≡ marked_steps (take i marks) (take i steps) ++ (if b then get_or steps i d ∷ [] else [])) (sym (take_more marks i false within))
      (subst (λ (ss : List Step). marked_steps (take i marks ++ get_or marks i false ∷ []) ss ≡ marked_steps (take i marks) (take i steps) ++ (if b then get_or steps i d ∷ [] else [])) (sym (take_more steps i d h))
      (subst (λ (c : Bool). marked_steps (take i marks ++ get_or marks i false ∷ []) (take i steps ++ get_or steps i d ∷ []) ≡ marked_steps (take i marks) (take i steps) ++ (if c then get_or steps i d ∷ [] else [])) is
      (left_push (take i marks) (take i steps) (get_or marks i false) (get_or steps i d) as_many))) in
      ap (map number) more ∙ map-append number (marked_steps (take i marks) (take i steps)) (if b then get_or steps i d ∷ [] else [])

-- what the hints of both lists name is marked
pub marked_both : (given : ℕ) (first more : List ℕ) (old mid new : List Bool) → IsMarkedBy given first old mid → IsMarkedBy given more mid new → IsMarkedBy given (first ++ more) old new
marked_both given first more old mid new was next =
    let Named : List Bool → ℕ → Type 0 = λ marks hint. given < hint → IsMarked marks (hint - given - 1) in
    record {
      as_many = next.as_many ∙ was.as_many;
      stays = λ place is. next.stays place (was.stays place is);
      named = All-append (Named new) first more (All-weaker (Named mid) (Named new) (λ hint is h. next.stays (hint - given - 1) (is h)) first was.named) next.named;
      no_other = λ place is. elim (next.no_other place is) [
        | inl before ↦ elim (was.no_other place before) [ inl older ↦ inl older | inr there ↦ inr (Contains-append_left first more (given + place + 1) there) ]
        | inr there ↦ inr (Contains-append_right first more (given + place + 1) there)
      ];
    }
