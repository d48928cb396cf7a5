-- The first pass takes the others back.
use Rattle.std.proofs.Common.{◌≡◌, true, ℕ, Some, Result, Ok, Err, List, [], ◌∷◌, ◌++◌, All, append-nil, append_assoc, sym, ◌∙◌, subst}
use Rattle.std.specs.Prelude.{IfOk, Vec}
use Rattle.std.specs.List.{AllZip}
use Rattle.std.specs.declared.alloc.AllocError.{AllocError}
use Rattle.std.specs.declared.alloc.Global.{Global}
use Rattle.std.proofs.lemmas.List.Elements.{All-nil, All-cons, All-weaker}
use base.Growing.{prefix_trans}
use Rattle.hub_lock.specs.declared.view.View.{View}
use Rattle.hub_lock.specs.Passes.{has, joining, last_of, IsJoined}
use Rattle.rel_formula.specs.Bounds.{Bounded}
use Rattle.session_rules.specs.declared.script.Transcript.{Transcript}
use Rattle.hub_state.specs.Journal.Noted.{Noted}
use Rattle.explorer_run.specs.declared.seats.Seat.{Seat}
use Rattle.explorer_run.specs.Seats.{IsBack, IsInFront}
use Rattle.explorer_run.proofs.Rooted.{Seen}

abbrev V : Type 0
V = View Noted (List Bounded)

abbrev by_of : Noted → ℕ
by_of x = x.by

-- the seat's pass is among those that the first one took back, which knows all that it saw and did
pub record IsTaken (v : V) (seat : Seat) : Type 0 where
  pub joined : has v.joined seat.pass.view.number ≡ true
  pub back : IsBack v.seen seat

abbrev pub Told : Seat → Transcript → Type 0
Told seat x = seat.transcript ≡ Some x

-- these seats are left of all, and the others were taken back, with their transcripts
pub record HasGathered (all : List Seat) (v : V) (left : List Seat) (transcripts : Result (Vec Transcript Global) AllocError) : Type 0 where
  pub gone : List Seat
  pub whole : all ≡ left ++ gone
  pub taken : All (IsTaken v) gone
  pub told : IfOk transcripts (λ xs. AllZip Told gone xs.items)

pub none_gone : (all : List Seat) (v : V) (transcripts : Result (Vec Transcript Global) AllocError) → IfOk transcripts (λ xs. xs.items ≡ []) → HasGathered all v all transcripts
none_gone all v transcripts none = record { gone = []; whole = sym (append-nil all); taken = All-nil (IsTaken v); told = empty transcripts none }
  where
    empty : (r : Result (Vec Transcript Global) AllocError) → IfOk r (λ xs. xs.items ≡ []) → IfOk r (λ xs. AllZip Told [] xs.items)
    empty (Ok xs) e = subst (AllZip Told []) (sym e) tt
    empty (Err e) h = tt

-- those that were taken back before stay so
still_taken : (old : Seen) (new : V) (other : V) → new ≡ joining old.view other → IsJoined by_of new (last_of old.view other) → (seat : Seat) → IsTaken old.view seat → IsTaken new seat
still_taken old new other is joined seat taken = record {
  joined = joined.earlier_joined seat.pass.view.number taken.joined;
  back = record {
    seen = prefix_trans seat.pass.view.seen old.view.seen new.seen taken.back.seen joined.mine;
    own = joined.of_earlier seat.pass.view.number taken.joined ∙ taken.back.own;
  };
}

taken_now : (old : Seen) (new : V) (seat : Seat) → IsJoined by_of new (last_of old.view seat.pass.view) → IsTaken new seat
taken_now old new seat joined = record { joined = joined.other_joined; back = record { seen = joined.theirs; own = joined.of_other } }

in_front_told : (seat : Seat) (gone : List Seat) (others now : Result (Vec Transcript Global) AllocError) → IfOk others (λ xs. AllZip Told gone xs.items) → IfOk now (IsInFront seat.transcript others) → IfOk now (λ xs. AllZip Told (seat ∷ gone) xs.items)
in_front_told seat gone others (Err e) told front = tt
in_front_told seat gone (Err e) (Ok xs) told (x, ys, first, is, items) = absurd cc
in_front_told seat gone (Ok zs) (Ok xs) told (x, ys, first, is, items) =
    let same : zs ≡ ys = cc in
    subst (AllZip Told (seat ∷ gone)) (sym items) (first, subst (λ (v : Vec Transcript Global). AllZip Told gone v.items) same told)

-- the last of those that are left is taken back
pub one_more_gone : (all : List Seat) (old new : Seen) (left : List Seat) (seat : Seat) (others now : Result (Vec Transcript Global) AllocError) → new.view ≡ joining old.view seat.pass.view → IsJoined by_of new.view (last_of old.view seat.pass.view)
    → IfOk now (IsInFront seat.transcript others) → HasGathered all old.view (left ++ seat ∷ []) others → HasGathered all new.view left now
one_more_gone all old new left seat others now is joined front before = record {
  gone = seat ∷ before.gone;
  whole = before.whole ∙ append_assoc left (seat ∷ []) before.gone;
  taken = All-cons (IsTaken new.view) seat before.gone (taken_now old new.view seat joined) (All-weaker (IsTaken old.view) (IsTaken new.view) (still_taken old new.view seat.pass.view is joined) before.gone before.taken);
  told = in_front_told seat before.gone others now before.told front;
}

-- once none is left
pub all_back : (all : List Seat) (v : V) (transcripts : Result (Vec Transcript Global) AllocError) → HasGathered all v [] transcripts → All (IsBack v.seen) all
all_back all v transcripts gathered = subst (All (IsBack v.seen)) (sym gathered.whole) (All-weaker (IsTaken v) (IsBack v.seen) (λ seat taken. taken.back) gathered.gone gathered.taken)

pub all_told : (all : List Seat) (v : V) (transcripts : Result (Vec Transcript Global) AllocError) → HasGathered all v [] transcripts → IfOk transcripts (λ xs. AllZip Told all xs.items)
all_told all v transcripts gathered = subst (λ (ss : List Seat). IfOk transcripts (λ xs. AllZip Told ss xs.items)) (sym gathered.whole) gathered.told
