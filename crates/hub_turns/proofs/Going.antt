-- What a turn tells a pass of a hub, and what of that stays.
use Rattle.std.proofs.Common.{◌≡◌, ◌≤◌, inl, inr, ◌==◌, ℕ, zero, suc, Bool, cond, Option, Some, None, Result, Ok, Err, List, [], ◌∷◌, ◌++◌, length, take, append-nil, append_assoc, length-take, refl, sym, ◌∙◌, ap, subst, arith}
use Rattle.std.specs.Prelude.{IfOk, OnOk, OnErr, slice_get}
use Rattle.std.proofs.lemmas.Bool.{eq-eqb}
use Rattle.std.proofs.lemmas.Grind.{flat_map-append}
use Rattle.std.proofs.lemmas.List.{take_all, length-take-le}
use Rattle.std.proofs.lemmas.List.Elements.{filter-append}
use mathlib.Core.List.{IsPrefix}
use base.Growing.{prefix_trans}
use Rattle.atomic_table.specs.Seated.{TableId}
use Rattle.hub_lock.specs.declared.view.View.{View}
use Rattle.hub_lock.specs.Passes.{PassView, of_pass, moved, in_turn, out_of_turn, seeing, IsStep, Adds}
use Rattle.refutation_check.specs.declared.log.Step.{Step as LogStep}
use Rattle.refutation_check.specs.Chain.{members_of, IsAccepted}
use Rattle.clause_pool.specs.Limits.{IsLongestFit}
use Rattle.rel_formula.specs.Bounds.{Bounded}
use Rattle.translation_rules.specs.Translation.{Translated}
use Rattle.session_words.specs.declared.steps.Step.{Step}
use Rattle.session_rules.specs.declared.answers.Reply.{Reply}
use Rattle.hub_state.specs.Journal.Noted.{Note, Noted, Published, Imported, Shared, Opened, Recorded}
use Rattle.hub_state.specs.Journal.Journal.{HasNoted, HasImported, IsPublished, IsPool, MayFollow, IsLegal, pool_of, added_to}
use Rattle.hub_turns.specs.Groups.{SharesFront}
use Rattle.hub_state.specs.HubView.{HubView, with_entry, IsPublishing, GoesOn, moved as moved_steps}
use Rattle.hub_state.proofs.GrowingJournals.{only_one, note_is}
use Rattle.hub_state.proofs.Journal.Imports.{stays}
use Rattle.hub_turns.proofs.OwnEntries.{published_grows, import_grows, may_open_still, may_record_still}
use Rattle.hub_turns.proofs.BackedRuns.{imported_pool}
use Rattle.hub_turns.specs.Turned.{IsIdle, WentOn, HasAdded, HasPublished, IsOfKey, MayAdd, Leaves}

abbrev pub Seen : Type 0
Seen = PassView Noted (List Bounded)

abbrev by_of : Noted → ℕ
by_of x = x.by

abbrev noted : ℕ → Note → Noted
noted by note = record { by = by; note = note }

-- ---- what a call leaves

leaves_more : (by : ℕ) (found left : HubView) (note : Note) → left ≡ with_entry found by note → IsLegal left.problems left.journal → Leaves by found left
leaves_more by found left note is legal = record {
  problems = ap (λ (h : HubView). h.problems) is;
  more = noted by note ∷ [];
  journal = ap (λ (h : HubView). h.journal) is;
  step = refl;
  legal = legal;
}

pub leaves_same : (by : ℕ) (found left : HubView) → left ≡ found → IsLegal left.problems left.journal → Leaves by found left
leaves_same by found left is legal = record {
  problems = ap (λ (h : HubView). h.problems) is;
  more = [];
  journal = ap (λ (h : HubView). h.journal) is ∙ sym (append-nil found.journal);
  step = tt;
  legal = legal;
}

-- an entry more, or nothing after an error
pub leaves_added : {A E : Type 0} (r : Result A E) (by : ℕ) (found left : HubView) (note : A → Note) → IfOk r (λ x. left ≡ with_entry found by (note x)) → OnErr r (left ≡ found) → IsLegal left.problems left.journal → Leaves by found left
leaves_added (Ok x) by found left note ok err legal = leaves_more by found left (note x) ok legal
leaves_added (Err e) by found left note ok err legal = leaves_same by found left err legal

pub leaves_published : {A E : Type 0} (r : Result A E) (by key : ℕ) (t : Translated) (found left : HubView) (kept : A → Translated) → IfOk r (λ x. IsPublishing found by key t left (kept x)) → OnErr r (left ≡ found) → IsLegal left.problems left.journal → Leaves by found left
leaves_published (Ok x) by key t found left kept ok err legal = elim ok [
  | inl first ↦ leaves_more by found left (Published key t) first.1 legal
  | inr again ↦ leaves_same by found left again.1 legal
]
leaves_published (Err e) by key t found left kept ok err legal = leaves_same by found left err legal

-- ---- a turn

-- a pass took the turn, and found this hub
pub record IsFound (lock : TableId) (old mid : Seen) (found : HubView) : Type 0 where
  pub idle : IsIdle lock old
  pub mid_lock : mid.lock ≡ old.lock
  pub mid_view : mid.view ≡ in_turn old.view found.journal
  pub seen : IsPrefix old.view.seen found.journal
  pub mine : of_pass by_of old.view.number found.journal ≡ old.view.own
  pub base_is : old.view.base ≡ Some found.problems

-- the problems that a pass knows are those of the hub
pub same_base : (ps qs : List Bounded) (base : Option (List Bounded)) → base ≡ Some ps → base ≡ Some qs → ps ≡ qs
same_base ps qs base a b = let both : Some ps ≡ Some qs = sym a ∙ b in cc

-- a front is the front of its length
front_again : (n : ℕ) (xs : List LogStep) → take (length (take n xs)) xs ≡ take n xs
front_again zero xs = refl
front_again (suc n) [] = refl
front_again (suc n) (x ∷ xs) = ap (λ (ys : List LogStep). x ∷ ys) (front_again n xs)

-- the pool of a journal begins that of a longer one
pub pool_grows : (key : ℕ) (seen journal : List Noted) → IsPrefix seen journal → IsPrefix (pool_of key seen) (pool_of key journal)
pool_grows key seen journal (rest, whole) = (pool_of key rest, sym (flat_map-append (λ (y : Noted). added_to key y.note) seen rest) ∙ ap (pool_of key) whole)

module _ (lock : TableId) (old mid : Seen) (found : HubView) (turn : IsFound lock old mid found) where
  pub same_own : of_pass by_of old.view.number found.journal ≡ of_pass by_of old.view.number old.view.seen
  same_own = turn.mine ∙ sym turn.idle.own

  -- what was published and imported is there when the turn begins
  pub published_found : (key : ℕ) (t : Translated) → IsPublished old.view.seen key t → IsPublished found.journal key t
  published_found key t there = published_grows old.view.seen found.journal turn.seen key t there

  pub import_found : (key : ℕ) (t : Translated) (pool : List LogStep) → HasImported old.view.seen old.view.number key t pool → HasImported found.journal old.view.number key t pool
  import_found key t pool has = import_grows turn.idle.problems old.view.seen found.journal turn.idle.legal turn.seen old.view.number key same_own t pool has

  -- so steps that go on from what was imported go on from the front of the key's pool
  pub goes_on_found : (key at : ℕ) (t : Translated) (pool free : List LogStep) → HasImported old.view.seen old.view.number key t pool → at ≡ length pool → IsAccepted (members_of t.cnf.clauses pool) free → GoesOn found.journal key at free
  goes_on_found key at t pool free has at_is accepted =
      let there = import_found key t pool has in
      let whole = pool_of key found.journal in
      let long : length pool ≤ length whole = let cut = length-take there.steps whole in let same = ap (λ (xs : List LogStep). length xs) there.prefix in omega arith in
      let front : take at whole ≡ pool =
      ap (λ (n : ℕ). take n whole) (at_is ∙ ap (λ (xs : List LogStep). length xs) there.prefix) ∙ front_again there.steps whole ∙ sym there.prefix in
      record {
        translation = t;
        published = there.published;
        within = omega (arith, at_is, long);
        accepted = subst (λ (xs : List LogStep). IsAccepted (members_of t.cnf.clauses xs) free) (sym front) accepted;
      }

  -- and steps that begin the key's pool begin it still
  pub begins_found : (key : ℕ) (have : List LogStep) → IsPrefix have (pool_of key old.view.seen) → IsPrefix have (pool_of key found.journal)
  begins_found key have is = prefix_trans have (pool_of key old.view.seen) (pool_of key found.journal) is (pool_grows key old.view.seen found.journal turn.seen)

  -- and what the pass may open or record by what it has seen, it may now
  pub may_open_found : (key budget : ℕ) → MayAdd old (Opened key budget) → MayFollow found.problems found.journal old.view.number (Opened key budget)
  may_open_found key budget (problems, base, may) =
      subst (λ (ps : List Bounded). MayFollow ps found.journal old.view.number (Opened key budget)) (same_base problems found.problems old.view.base base turn.base_is)
      (may_open_still problems old.view.seen found.journal turn.seen old.view.number key budget same_own may)

  pub may_record_found : (step : Step) (reply : Reply) → MayAdd old (Recorded step reply) → MayFollow found.problems found.journal old.view.number (Recorded step reply)
  may_record_found step reply (problems, base, may) =
      let legal = subst (λ (ps : List Bounded). IsLegal ps old.view.seen) (same_base turn.idle.problems problems old.view.base turn.idle.base_is base) turn.idle.legal in
      subst (λ (ps : List Bounded). MayFollow ps found.journal old.view.number (Recorded step reply)) (same_base problems found.problems old.view.base base turn.base_is)
      (may_record_still problems old.view.seen found.journal legal turn.seen old.view.number step reply same_own may)

  pub of_key_found : (key : ℕ) (t : Translated) → IsOfKey old key t → slice_get found.problems key ≡ Some t.problem
  of_key_found key t (problems, base, is) = subst (λ (ps : List Bounded). slice_get ps key ≡ Some t.problem) (same_base problems found.problems old.view.base base turn.base_is) is

  -- what the turn may be given back with
  pub may_give : (left : HubView) → Leaves old.view.number found left → Adds by_of mid.view left.journal
  may_give left leaves =
      (found.journal, leaves.more, ap (λ (v : View Noted (List Bounded)). v.turn) turn.mid_view, leaves.journal, subst (λ (n : ℕ). IsStep by_of n leaves.more) (sym (ap (λ (v : View Noted (List Bounded)). v.number) turn.mid_view)) leaves.step)

  pub base_kept : (left : HubView) → Leaves old.view.number found left → mid.view.base ≡ Some left.problems
  base_kept left leaves = ap (λ (v : View Noted (List Bounded)). v.base) turn.mid_view ∙ turn.base_is ∙ ap Some (sym leaves.problems)

module _ (lock : TableId) (old mid new : Seen) (found left : HubView) (turn : IsFound lock old mid found) (leaves : Leaves old.view.number found left) (new_lock : new.lock ≡ mid.lock) (new_view : new.view ≡ out_of_turn (seeing by_of mid.view left.journal)) where
  whole : new.view ≡ moved old.view left.journal (of_pass by_of old.view.number left.journal) None
  whole = new_view ∙ ap (λ (v : View Noted (List Bounded)). out_of_turn (seeing by_of v left.journal)) turn.mid_view

  seen_is : new.view.seen ≡ left.journal
  seen_is = ap (λ (v : View Noted (List Bounded)). v.seen) whole

  own_is : new.view.own ≡ of_pass by_of old.view.number left.journal
  own_is = ap (λ (v : View Noted (List Bounded)). v.own) whole

  number_is : new.view.number ≡ old.view.number
  number_is = ap (λ (v : View Noted (List Bounded)). v.number) whole

  begins : IsPrefix old.view.seen left.journal
  begins = prefix_trans old.view.seen found.journal left.journal turn.seen (leaves.more, sym leaves.journal)

  legal_now : IsLegal found.problems new.view.seen
  legal_now = subst (IsLegal found.problems) (sym seen_is) (subst (λ (ps : List Bounded). IsLegal ps left.journal) leaves.problems leaves.legal)

  pub went_on : WentOn lock old new
  went_on = record {
    idle = record {
      lock_is = new_lock ∙ turn.mid_lock ∙ turn.idle.lock_is;
      idle = ap (λ (v : View Noted (List Bounded)). v.turn) whole;
      problems = found.problems;
      base_is = ap (λ (v : View Noted (List Bounded)). v.base) whole ∙ turn.base_is;
      legal = legal_now;
      own = ap (λ (n : ℕ). of_pass by_of n new.view.seen) number_is ∙ ap (of_pass by_of old.view.number) seen_is ∙ sym own_is;
    };
    same = whole
        ∙ ap (λ (es : List Noted). moved old.view es (of_pass by_of old.view.number left.journal) None) (sym seen_is)
        ∙ ap (λ (es : List Noted). moved old.view new.view.seen es None) (sym own_is)
        ∙ ap (λ (o : Option (List Noted)). moved old.view new.view.seen new.view.own o) (sym turn.idle.idle);
    seen = subst (IsPrefix old.view.seen) (sym seen_is) begins;
  }

  -- what the turn added
  pub added : (note : Note) → left ≡ with_entry found old.view.number note → HasAdded old new note
  added note is =
      let x : Noted = noted old.view.number note in
      let here : of_pass by_of old.view.number (x ∷ []) ≡ x ∷ [] = ap (λ (b : Bool). cond b (x ∷ []) []) (eq-eqb old.view.number old.view.number refl) in
      own_is
      ∙ ap (λ (h : HubView). of_pass by_of old.view.number h.journal) is
      ∙ filter-append (λ (y : Noted). y.by == old.view.number) found.journal (x ∷ [])
      ∙ ap (λ (es : List Noted). es ++ of_pass by_of old.view.number (x ∷ [])) turn.mine
      ∙ ap (λ (es : List Noted). old.view.own ++ es) here

  pub unchanged : left ≡ found → new.view.own ≡ old.view.own
  unchanged is = own_is ∙ ap (λ (h : HubView). of_pass by_of old.view.number h.journal) is ∙ turn.mine

  split : (note : Note) → left ≡ with_entry found old.view.number note → new.view.seen ≡ found.journal ++ noted old.view.number note ∷ []
  split note is = seen_is ∙ ap (λ (h : HubView). h.journal) is

  -- a publication
  pub published_now : (key : ℕ) (t : Translated) → IsPublished left.journal key t → IsPublished new.view.seen key t
  published_now key t there = subst (λ (j : List Noted). IsPublished j key t) (sym seen_is) there

  pub has_published : (key : ℕ) (t kept : Translated) → IsPublishing found old.view.number key t left kept → HasPublished old new key t kept
  has_published key t kept (inl first) = inl (λ has. first.0 (has.0, published_found lock old mid found turn key has.0 has.1), added (Published key t) first.1, first.2)
  has_published key t kept (inr again) = inr (unchanged again.1)

  -- an import
  pub imported_all : (key : ℕ) (pool : List LogStep) → left ≡ with_entry found old.view.number (Imported key (length pool)) → pool ≡ pool_of key found.journal → pool ≡ pool_of key new.view.seen
  imported_all key pool is all =
      let x : Noted = noted old.view.number (Imported key (length pool)) in
      all
      ∙ sym (append-nil (pool_of key found.journal))
      ∙ sym (flat_map-append (λ (y : Noted). added_to key y.note) found.journal (x ∷ []))
      ∙ ap (pool_of key) (sym (split (Imported key (length pool)) is))

  pub has_imported : (key : ℕ) (t : Translated) (pool : List LogStep) → left ≡ with_entry found old.view.number (Imported key (length pool)) → pool ≡ pool_of key found.journal → IsPublished old.view.seen key t →
      HasImported new.view.seen old.view.number key t pool × IsPool t pool
  has_imported key t pool is all there =
      let now : pool ≡ pool_of key new.view.seen = imported_all key pool is all in
      let has : HasImported new.view.seen old.view.number key t pool = record {
        published = published_now key t (published_grows old.view.seen left.journal begins key t there);
        steps = length pool;
        imported = record {
          before = found.journal;
          after = [];
          split = split (Imported key (length pool)) is;
          last = λ n h. absurd (let inside = h.1 in omega arith);
        };
        prefix = now ∙ sym (take_all (length pool) (pool_of key new.view.seen) (let long = ap (λ (xs : List LogStep). length xs) now in omega arith));
      } in
      (has, imported_pool found.problems new.view.seen legal_now old.view.number key t pool has)

  -- steps that began the key's pool in the turn
  pub begins_now : (key : ℕ) (have : List LogStep) → IsPrefix have (pool_of key found.journal) → IsPrefix have (pool_of key new.view.seen)
  begins_now key have is = prefix_trans have (pool_of key found.journal) (pool_of key new.view.seen) is (pool_grows key found.journal new.view.seen (leaves.more, sym (seen_is ∙ leaves.journal)))

  -- shared steps
  pub has_shared : (key at : ℕ) (t : Translated) (free : List LogStep) (n : ℕ) → left ≡ with_entry found old.view.number (Shared key (take n (moved_steps found.journal key t at free))) → IsLongestFit (pool_of key found.journal) (moved_steps found.journal key t at free) n →
      (shared : List LogStep) × (n ≡ length shared) × HasAdded old new (Shared key shared) × SharesFront t old.view.number key at free new.view.seen
  has_shared key at t free n is longest =
      let all = moved_steps found.journal key t at free in
      let many : n ≡ length (take n all) = sym (length-take-le n all longest.in_range) in (
        take n all,
        many,
        added (Shared key (take n all)) is,
        record {
          before = found.journal;
          after = [];
          shared = take n all;
          split = split (Shared key (take n all)) is;
          front = ap (λ (k : ℕ). take k all) many;
          longest = subst (IsLongestFit (pool_of key found.journal) all) many longest;
          same_search = λ k h. absurd (let inside = h.1 in omega arith);
        },
      )

  -- what was imported stays through a turn that imports nothing
  pub import_stays_over : (more : List Noted) → left.journal ≡ found.journal ++ more → (key : ℕ) → ((n : ℕ) → ¬ HasNoted more old.view.number (Imported key n)) → (t : Translated) (pool : List LogStep) →
      HasImported old.view.seen old.view.number key t pool → HasImported new.view.seen old.view.number key t pool
  import_stays_over more is key none t pool has =
      subst (λ (j : List Noted). HasImported j old.view.number key t pool) (sym (seen_is ∙ is))
      (stays found.problems found.journal found_legal old.view.number key more none t pool (import_found lock old mid found turn key t pool has))
    where
      found_legal : IsLegal found.problems found.journal
      found_legal front y back e =
          let l : IsLegal found.problems (found.journal ++ leaves.more) = subst (IsLegal found.problems) leaves.journal (subst (λ (ps : List Bounded). IsLegal ps left.journal) leaves.problems leaves.legal) in
          l front y (back ++ leaves.more) (ap (λ (j : List Noted). j ++ leaves.more) e ∙ append_assoc front (y ∷ back) leaves.more)

-- where a call shared steps, or added nothing after an error
pub import_stays_shared : {A E : Type 0} (r : Result A E) (lock : TableId) (old mid new : Seen) (found left : HubView) (turn : IsFound lock old mid found) (leaves : Leaves old.view.number found left) (new_lock : new.lock ≡ mid.lock) (new_view : new.view ≡ out_of_turn (seeing by_of mid.view left.journal))
    (key : ℕ) (steps : A → List LogStep) → IfOk r (λ x. left ≡ with_entry found old.view.number (Shared key (steps x))) → OnErr r (left ≡ found) → (t : Translated) (pool : List LogStep) → HasImported old.view.seen old.view.number key t pool → HasImported new.view.seen old.view.number key t pool
import_stays_shared (Ok x) lock old mid new found left turn leaves new_lock new_view key steps ok err t pool has =
    let more : List Noted = noted old.view.number (Shared key (steps x)) ∷ [] in
    import_stays_over lock old mid new found left turn leaves new_lock new_view more (ap (λ (h : HubView). h.journal) ok) key
    (λ n there. let same : Shared key (steps x) ≡ Imported key n = note_is (noted old.view.number (Shared key (steps x))) (noted old.view.number (Imported key n)) (only_one (noted old.view.number (Shared key (steps x))) (noted old.view.number (Imported key n)) there) in absurd cc) t pool has
import_stays_shared (Err e) lock old mid new found left turn leaves new_lock new_view key steps ok err t pool has =
    import_stays_over lock old mid new found left turn leaves new_lock new_view [] (ap (λ (h : HubView). h.journal) err ∙ sym (append-nil found.journal)) key (λ n there. absurd (let inside = there.1 in omega arith)) t pool has

-- ---- by whether the call gave an error

-- what was imported is the whole pool, and its length stands in the entry
pub imported_as : {A E : Type 0} (r : Result A E) (by number key : ℕ) (found left : HubView) (pool : List LogStep) → by ≡ number → OnOk r (pool ≡ pool_of key found.journal) → OnOk r (left ≡ with_entry found by (Imported key (length (pool_of key found.journal)))) →
    OnOk r ((left ≡ with_entry found number (Imported key (length pool))) × (pool ≡ pool_of key found.journal))
imported_as (Ok x) by number key found left pool same all is =
    (subst (λ (xs : List LogStep). left ≡ with_entry found number (Imported key (length xs))) (sym all) (subst (λ (n : ℕ). left ≡ with_entry found n (Imported key (length (pool_of key found.journal)))) same is), all)
imported_as (Err e) by number key found left pool same all is = tt

-- what was shared is the longest front that fits
pub shared_as : {E : Type 0} (r : Result ℕ E) (by : ℕ) (lock : TableId) (old mid new : Seen) (found left : HubView) (turn : IsFound lock old mid found) (leaves : Leaves old.view.number found left) (new_lock : new.lock ≡ mid.lock) (new_view : new.view ≡ out_of_turn (seeing by_of mid.view left.journal))
    (key at : ℕ) (t : Translated) (free : List LogStep) → by ≡ old.view.number → IfOk r (λ n. left ≡ with_entry found by (Shared key (take n (moved_steps found.journal key t at free)))) → IfOk r (λ n. IsLongestFit (pool_of key found.journal) (moved_steps found.journal key t at free) n) →
    IfOk r (λ n. (shared : List LogStep) × (n ≡ length shared) × HasAdded old new (Shared key shared) × SharesFront t old.view.number key at free new.view.seen)
shared_as (Ok n) by lock old mid new found left turn leaves new_lock new_view key at t free same is longest =
    has_shared lock old mid new found left turn leaves new_lock new_view key at t free n (subst (λ (m : ℕ). left ≡ with_entry found m (Shared key (take n (moved_steps found.journal key t at free)))) same is) longest
shared_as (Err e) by lock old mid new found left turn leaves new_lock new_view key at t free same is longest = tt
