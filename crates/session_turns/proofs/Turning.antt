-- Turns one after the other, and what they add.
use Rattle.std.proofs.Common.{◌≡◌, inl, inr, ◌==◌, ℕ, List, [], ◌∷◌, ◌++◌, map, length, All, Contains, append-nil, append_assoc, refl, sym, ◌∙◌, ap, subst}
use Rattle.std.proofs.lemmas.Bool.{eq-eqb}
use Rattle.std.proofs.lemmas.List.{append_cancel_left, map-append}
use Rattle.std.proofs.lemmas.List.Elements.{All-nil, All-cons, All-head, All-tail, All-contains, All-append, Contains-append_cases, filter-append}
use mathlib.Core.List.{IsPrefix}
use base.Growing.{prefix_trans}
use Rattle.atomic_table.specs.Seated.{TableId}
use Rattle.hub_lock.specs.Passes.{PassView, of_pass}
use Rattle.refutation_check.specs.declared.log.Step.{Step as LogStep}
use Rattle.cnf_core.specs.declared.literal.Lit.{Lit}
use Rattle.rel_formula.specs.Bounds.{Bounded}
use Rattle.rel_formula.proofs.OpenCells.{has_filter}
use Rattle.translation_rules.specs.Translation.{Translated}
use Rattle.session_state.specs.Sessions.Fits.{InSession}
use Rattle.hub_state.specs.Journal.Noted.{Note, Noted, Imported, Shared}
use Rattle.hub_state.specs.Journal.Journal.{HasNoted, pool_of}
use Rattle.hub_turns.specs.Groups.{AreShared, SharesFront, SharesItsSteps}
use Rattle.hub_turns.specs.Turned.{IsIdle, WentOn}
use Rattle.hub_turns.proofs.Going.{pool_grows}
use Rattle.hub_turns.proofs.Onward.{same_number}
use Rattle.session_turns.specs.Added.{HasAddedAll}
use Rattle.session_turns.specs.Seated.{BeginsPool}

abbrev pub Seen : Type 0
Seen = PassView Noted (List Bounded)

abbrev pub noted : ℕ → Note → Noted
noted by note = record { by = by; note = note }

-- ---- what was added

pub added_none : (a b : Seen) → b.view.own ≡ a.view.own → HasAddedAll a b []
added_none a b same = same ∙ sym (append-nil a.view.own)

pub added_then : (a b c : Seen) (xs ys : List Note) → b.view.number ≡ a.view.number → HasAddedAll a b xs → HasAddedAll b c ys → HasAddedAll a c (xs ++ ys)
added_then a b c xs ys number first then' =
    then'
    ∙ ap (λ (es : List Noted). es ++ map (noted b.view.number) ys) first
    ∙ ap (λ (n : ℕ). (a.view.own ++ map (noted a.view.number) xs) ++ map (noted n) ys) number
    ∙ append_assoc a.view.own (map (noted a.view.number) xs) (map (noted a.view.number) ys)
    ∙ ap (λ (es : List Noted). a.view.own ++ es) (sym (map-append (noted a.view.number) xs ys))

-- the entries that the pass saw since then, and its own among them
pub since : (lock : TableId) (a b : Seen) (notes : List Note) → IsIdle lock a → WentOn lock a b → HasAddedAll a b notes →
    (rest : List Noted) × (b.view.seen ≡ a.view.seen ++ rest) × (of_pass (λ (x : Noted). x.by) a.view.number rest ≡ map (noted a.view.number) notes)
since lock a b notes idle went added =
    let n = a.view.number in
    let O : List Noted → List Noted = of_pass (λ (x : Noted). x.by) n in
    let rest = went.seen.0 in
    let whole : a.view.seen ++ rest ≡ b.view.seen = went.seen.1 in
    let parts : O (a.view.seen ++ rest) ≡ a.view.own ++ O rest = filter-append (λ (x : Noted). x.by == n) a.view.seen rest ∙ ap (λ (es : List Noted). es ++ O rest) idle.own in
    let own : O b.view.seen ≡ b.view.own = ap (λ (m : ℕ). of_pass (λ (x : Noted). x.by) m b.view.seen) (sym (same_number lock a b went)) ∙ went.idle.own in
    (rest, sym whole, append_cancel_left a.view.own (O rest) (map (noted n) notes) (sym parts ∙ ap O whole ∙ own ∙ added))

-- an own entry since then is one of the notes
pub own_since : (n : ℕ) (rest : List Noted) (notes : List Note) (P : Note → Type 0) → of_pass (λ (x : Noted). x.by) n rest ≡ map (noted n) notes → All P notes → (note : Note) → HasNoted rest n note → P note
own_since n rest notes P own all note there =
    let x = noted n note in
    let among : Contains (map (noted n) notes) x = subst (λ (es : List Noted). Contains es x) own (has_filter (λ (y : Noted). y.by == n) rest x there (eq-eqb n n refl)) in
    All-contains (λ (y : Noted). P y.note) (map (noted n) notes) x (each notes all) among
  where
    each : (ns : List Note) → All P ns → All (λ (y : Noted). P y.note) (map (noted n) ns)
    each [] a = All-nil (λ (y : Noted). P y.note)
    each (m ∷ ns) a = All-cons (λ (y : Noted). P y.note) (noted n m) (map (noted n) ns) (All-head P m ns a) (each ns (All-tail P m ns a))

abbrev pub ImportsNothing : ℕ → List Noted → ℕ → Type 0
ImportsNothing n rest key = (steps : ℕ) → ¬ HasNoted rest n (Imported key steps)

pub shares_import_nothing : (n key : ℕ) (rest : List Noted) (notes : List Note) → of_pass (λ (x : Noted). x.by) n rest ≡ map (noted n) notes → AreShared key notes → ImportsNothing n rest key
shares_import_nothing n key rest notes own shared steps there =
    let is = own_since n rest notes (λ note. (free : List LogStep) × (note ≡ Shared key free)) own shared (Imported key steps) there in
    let wrong : Imported key steps ≡ Shared key is.0 = is.1 in
    absurd cc

-- what was shared since an import stays, until the next one
pub front_grows : (t : Translated) (n key at : ℕ) (free : List LogStep) (seen rest : List Noted) → ImportsNothing n rest key → SharesFront t n key at free seen → SharesFront t n key at free (seen ++ rest)
front_grows t n key at free seen rest none front = record {
  before = front.before;
  after = front.after ++ rest;
  shared = front.shared;
  split = ap (λ (j : List Noted). j ++ rest) front.split ∙ append_assoc front.before (noted n (Shared key front.shared) ∷ front.after) rest;
  front = front.front;
  longest = front.longest;
  same_search = λ steps there. elim (Contains-append_cases front.after rest (noted n (Imported key steps)) there) [ inl before ↦ front.same_search steps before | inr later ↦ none steps later ];
}

pub steps_grow : (t : Translated) (n key : ℕ) (local : List (List Lit)) (pool log : List LogStep) (seen rest : List Noted) → ImportsNothing n rest key → SharesItsSteps seen n key t local pool log → SharesItsSteps (seen ++ rest) n key t local pool log
steps_grow t n key local pool log seen rest none (inl free) = inl free
steps_grow t n key local pool log seen rest none (inr front) = inr (front_grows t n key (length pool) _ seen rest none front)

pub both_shared : (key : ℕ) (xs ys : List Note) → AreShared key xs → AreShared key ys → AreShared key (xs ++ ys)
both_shared key xs ys one two = All-append (λ (note : Note). (steps : List LogStep) × (note ≡ Shared key steps)) xs ys one two

-- what was shared stays so, while more is shared
pub steps_stay : (lock : TableId) (a b : Seen) (key : ℕ) (notes : List Note) → IsIdle lock a → WentOn lock a b → HasAddedAll a b notes → AreShared key notes → (t : Translated) (local : List (List Lit)) (pool log : List LogStep)
    → SharesItsSteps a.view.seen a.view.number key t local pool log → SharesItsSteps b.view.seen a.view.number key t local pool log
steps_stay lock a b key notes idle went added shared t local pool log steps =
    let more = since lock a b notes idle went added in
    subst (λ (j : List Noted). SharesItsSteps j a.view.number key t local pool log) (sym more.1)
    (steps_grow t a.view.number key local pool log a.view.seen more.0 (shares_import_nothing a.view.number key more.0 notes more.2 shared) steps)

pub shares_none : (a : Seen) (key : ℕ) → (notes : List Note) × HasAddedAll a a notes × AreShared key notes
shares_none a key = ([], added_none a a refl, All-nil (λ (note : Note). (steps : List LogStep) × (note ≡ Shared key steps)))

-- what begins the pool of the session's key begins it still
pub begins_still : (lock : TableId) (a b : Seen) (x y : InSession) (pool : List LogStep) → BeginsPool pool a x → WentOn lock a b → y.key ≡ x.key → BeginsPool pool b y
begins_still lock a b x y pool begins went key =
    subst (λ (k : ℕ). IsPrefix pool (pool_of k b.view.seen)) (sym key) (prefix_trans pool (pool_of x.key a.view.seen) (pool_of x.key b.view.seen) begins (pool_grows x.key a.view.seen b.view.seen went.seen))
