-- What is read entry by entry.
use Rattle.std.proofs.Common.{◌≡◌, ◌<◌, ◌≤◌, ◌+◌, ℕ, List, [], ◌∷◌, ◌++◌, take, drop, length, get_or, Contains, sym, ◌∙◌, ap, subst, arith, take-append-drop}
use Rattle.std.proofs.lemmas.Grind.{flat_map-append}
use Rattle.std.proofs.lemmas.List.Elements.{Contains-append_left, Contains-append_right}
use Rattle.std.proofs.lemmas.List.{take_more, take_all}
use Rattle.crew_run.specs.declared.event.CrewEntry.{CrewEntry}
use Rattle.crew_run.specs.declared.reading.Reading.{Reading}
use Rattle.crew_run.specs.Crew.{found_by, told_by, found, told}
use Rattle.crew_run.specs.Passing.{HasRead, HasReadAll}
use Rattle.crew_run.proofs.Journals.{found_more, told_more}

front_more : (es : List CrewEntry) (i : ℕ) (e : CrewEntry) → i < length es → e ≡ get_or es i e → take i es ++ e ∷ [] ≡ take (i + 1) es
front_more es i e lt is = sym (take_more es i e lt ∙ ap (λ (y : CrewEntry). take i es ++ y ∷ []) (sym is))

pub found_next : (es : List CrewEntry) (i : ℕ) (e : CrewEntry) → i < length es → e ≡ get_or es i e → found (take i es) ++ found_by e.event ≡ found (take (i + 1) es)
found_next es i e lt is = sym (found_more (take i es) e) ∙ ap found (front_more es i e lt is)

pub told_next : (es : List CrewEntry) (i : ℕ) (e : CrewEntry) → i < length es → e ≡ get_or es i e → told (take i es) ++ told_by e.event ≡ told (take (i + 1) es)
told_next es i e lt is = sym (told_more (take i es) e) ∙ ap told (front_more es i e lt is)

-- one entry more was read
pub read_one : (es : List CrewEntry) (e : CrewEntry) (old new : Reading) → HasRead es old → old.read < length es → e ≡ get_or es old.read e → new.found.items ≡ old.found.items ++ found_by e.event → new.told.items ≡ old.told.items ++ told_by e.event → new.read ≡ old.read + 1 → HasRead es new
read_one es e old new read lt is found_is told_is one = record {
  within = omega arith;
  found_is = found_is ∙ ap (λ (fs : List (List ℕ)). fs ++ found_by e.event) read.found_is ∙ found_next es old.read e lt is ∙ ap (λ (n : ℕ). found (take n es)) (sym one);
  told_is = told_is ∙ ap (λ (ts : List (List ℕ)). ts ++ told_by e.event) read.told_is ∙ told_next es old.read e lt is ∙ ap (λ (n : ℕ). told (take n es)) (sym one);
}

pub read_all : (es : List CrewEntry) (reading : Reading) → HasRead es reading → length es ≤ reading.read → HasReadAll es reading
read_all es reading read past =
    let whole : take reading.read es ≡ es = take_all reading.read es past in
    record { all = (let l = read.within in omega arith); found_is = read.found_is ∙ ap found whole; told_is = read.told_is ∙ ap told whole }

-- what an entry tells the list tells
pub told_here : (es : List CrewEntry) (i : ℕ) (e : CrewEntry) (s : List ℕ) → i < length es → e ≡ get_or es i e → Contains (told_by e.event) s → Contains (told es) s
told_here es i e s lt is there =
    let front : Contains (told (take (i + 1) es)) s = subst (λ (ts : List (List ℕ)). Contains ts s) (told_next es i e lt is) (Contains-append_right (told (take i es)) (told_by e.event) s there) in
    let both : told (take (i + 1) es) ++ told (drop (i + 1) es) ≡ told es = sym (flat_map-append (λ (y : CrewEntry). told_by y.event) (take (i + 1) es) (drop (i + 1) es)) ∙ ap told (take-append-drop (i + 1) es) in
    subst (λ (ts : List (List ℕ)). Contains ts s) both (Contains-append_left (told (take (i + 1) es)) (told (drop (i + 1) es)) s front)
