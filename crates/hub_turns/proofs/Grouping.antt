-- The groups of entries that exchanges add, and what they record.
use Rattle.std.proofs.Common.{◌≡◌, inl, inr, ◌==◌, ℕ, Bool, true, false, not, cond, List, [], ◌∷◌, ◌++◌, map, All, append_assoc, refl, sym, ◌∙◌, ap, subst}
use Rattle.std.proofs.lemmas.Bool.{cases_Bool}
use Rattle.std.proofs.lemmas.Grind.{flat_map-append}
use Rattle.std.proofs.lemmas.List.Elements.{All-head, All-tail}
use Rattle.std.specs.Prelude.{flat_map}
use Rattle.hub_lock.specs.Passes.{of_pass}
use Rattle.refutation_check.specs.declared.log.Step.{Step as LogStep}
use Rattle.session_words.specs.declared.steps.Step.{Step}
use Rattle.session_words.specs.declared.steps.Step.TheVariants.{Next, Offers, Augment, Back, Budget, Proof}
use Rattle.session_rules.specs.Steps.{Exchange}
use Rattle.session_rules.specs.Transcripts.{is_memory, without_memory}
use Rattle.hub_state.specs.Journal.Noted.{Note, Shared, Recorded, Noted}
use Rattle.hub_state.specs.Journal.Journal.{recorded_in, exchanges_of}
use Rattle.hub_turns.specs.Groups.{notes_of, AreShared, IsSearch, IsBeforeRecord, IsGroupOf, AreGroups}

pub groups_join : (key : ℕ) (xs ys : List Exchange) (notes more : List Note) → AreGroups key xs notes → AreGroups key ys more → AreGroups key (xs ++ ys) (notes ++ more)
groups_join key [] ys notes more none groups = subst (λ (ns : List Note). AreGroups key ys (ns ++ more)) (sym none) groups
groups_join key (x ∷ xs) ys notes more (here, later, split, group, groups) others =
    (here, later ++ more, ap (λ (ns : List Note). ns ++ more) split ∙ append_assoc here later more, group, groups_join key xs ys later more groups others)

-- what the notes record
abbrev pub recorded_by : List Note → List Exchange
recorded_by notes = flat_map recorded_in notes

pub notes_record : (by : ℕ) (journal : List Noted) → exchanges_of by journal ≡ recorded_by (notes_of by journal)
notes_record by [] = refl
notes_record by (x ∷ xs) = elim (cases_Bool (x.by == by)) [
  | inl t ↦
      ap (λ (b : Bool). cond b (recorded_in x.note) [] ++ exchanges_of by xs) t
      ∙ ap (λ (es : List Exchange). recorded_in x.note ++ es) (notes_record by xs)
      ∙ sym (ap (λ (b : Bool). recorded_by (map (λ (y : Noted). y.note) (cond b (x ∷ of_pass (λ (y : Noted). y.by) by xs) (of_pass (λ (y : Noted). y.by) by xs)))) t)
  | inr f ↦
      ap (λ (b : Bool). cond b (recorded_in x.note) [] ++ exchanges_of by xs) f
      ∙ notes_record by xs
      ∙ sym (ap (λ (b : Bool). recorded_by (map (λ (y : Noted). y.note) (cond b (x ∷ of_pass (λ (y : Noted). y.by) by xs) (of_pass (λ (y : Noted). y.by) by xs)))) f)
]

-- what is shared records nothing
shared_record_nothing : (key : ℕ) (notes : List Note) → AreShared key notes → recorded_by notes ≡ []
shared_record_nothing key [] shared = refl
shared_record_nothing key (note ∷ notes) shared =
    let Is : Note → Type 0 = λ (n : Note). (steps : List LogStep) × (n ≡ Shared key steps) in
    let first = All-head Is note notes shared in
    ap (λ (n : Note). recorded_in n ++ recorded_by notes) first.1 ∙ shared_record_nothing key notes (All-tail Is note notes shared)

search_records_nothing : (key : ℕ) (notes : List Note) → IsSearch key notes → recorded_by notes ≡ []
search_records_nothing key notes search = ap recorded_by search.notes_are ∙ shared_record_nothing key search.shared search.are_shared

before_record_nothing : (step : Step) (key : ℕ) (notes : List Note) → IsBeforeRecord step key notes → recorded_by notes ≡ []
before_record_nothing Next key notes before = search_records_nothing key notes before
before_record_nothing Offers key notes before = search_records_nothing key notes before
before_record_nothing (Augment relation tuple) key notes before = search_records_nothing key notes before
before_record_nothing Back key notes before = ap recorded_by before
before_record_nothing (Budget budget) key notes before = ap recorded_by before
before_record_nothing Proof key notes before = ap recorded_by before

-- a group records its exchange, but for want of memory
pub group_records : (b : Bool) (key : ℕ) (x : Exchange) (notes : List Note) → IsGroupOf b key x notes → recorded_by notes ≡ cond (not b) (x ∷ []) []
group_records true key x notes (inl none) = ap recorded_by none
group_records true key x notes (inr before) = before_record_nothing x.step key notes before
group_records false key x notes (before, is_before, whole) =
    ap recorded_by whole
    ∙ flat_map-append recorded_in before (Recorded x.step x.reply ∷ [])
    ∙ ap (λ (es : List Exchange). es ++ x ∷ []) (before_record_nothing x.step key before is_before)

one_in_front : (b : Bool) (x : Exchange) (xs : List Exchange) → cond (not b) (x ∷ []) [] ++ xs ≡ cond (not b) (x ∷ xs) xs
one_in_front true x xs = refl
one_in_front false x xs = refl

pub groups_record : (key : ℕ) (xs : List Exchange) (notes : List Note) → AreGroups key xs notes → recorded_by notes ≡ without_memory xs
groups_record key [] notes none = ap recorded_by none
groups_record key (x ∷ xs) notes (here, later, split, group, groups) =
    ap recorded_by split
    ∙ flat_map-append recorded_in here later
    ∙ ap (λ (es : List Exchange). es ++ recorded_by later) (group_records (is_memory x.reply) key x here group)
    ∙ ap (λ (es : List Exchange). cond (not (is_memory x.reply)) (x ∷ []) [] ++ es) (groups_record key xs later groups)
    ∙ one_in_front (is_memory x.reply) x (without_memory xs)
