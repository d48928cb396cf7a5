-- What a pass and a held value mean, and what each call does to what a pass knows.
use Rattle.std.specs.Prelude.{◌≡◌, ℕ, ◌+◌, ◌-◌, ◌<◌, Bool, true, false, ◌||◌, List, [], ◌∷◌, ◌++◌, length, Option, Some, None, ◌==◌, nat_lt, if◌then◌else◌, filter}
use mathlib.Core.List.{IsPrefix}
use Rattle.atomic_table.specs.Seated.{TableId}
use Rattle.hub_lock.specs.declared.view.View.{View}
use Rattle.hub_lock.specs.declared.view.LastJoin.{LastJoin}

-- the lock of a pass, and what the pass knows
pub record PassView (E B : Type 0) : Type 0 where
  pub lock : TableId
  pub view : View E B

-- a held value, and the pass as `take` left it
pub record HeldView (T E B : Type 0) : Type 0 where
  pub value : T
  pub pass : PassView E B

-- the number is one of these
abbrev pub has : List ℕ → ℕ → Bool
has [] n = false
has (m ∷ ms) n = (m == n) || has ms n

module _ {E : Type 0} where
  abbrev pub longer : List E → List E → List E
  longer xs ys = if nat_lt (length xs) (length ys) then ys else xs

module _ {E B : Type 0} where
  -- the first pass of a new lock
  abbrev pub first_view : B → View E B
  first_view b = record { spent = false; number = 0; made = 0; live = 0; joined = []; last = None; seen = []; own = []; base = Some b; turn = None }

  -- a pass that was taken back
  abbrev pub spent : View E B
  spent = record { spent = true; number = 0; made = 0; live = 0; joined = []; last = None; seen = []; own = []; base = None; turn = None }

  -- the first pass, after one more was split off
  abbrev pub splitting : View E B → View E B
  splitting v = record { spent = v.spent; number = v.number; made = v.made + 1; live = v.live + 1; joined = v.joined; last = v.last; seen = v.seen; own = v.own; base = v.base; turn = v.turn }

  -- the one that was split off
  abbrev pub split_off : View E B → View E B
  split_off v = record { spent = false; number = v.made + 1; made = 0; live = 0; joined = []; last = None; seen = v.seen; own = []; base = v.base; turn = None }

  -- what the first pass v keeps of taking back w
  abbrev pub last_of : View E B → View E B → LastJoin E
  last_of v w = record { mine = v.seen; theirs = w.seen; number = w.number; own = w.own; joined = v.joined; live = v.live }

  -- the first pass v, after it took back w
  abbrev pub joining : View E B → View E B → View E B
  joining v w = record {
    spent = v.spent;
    number = v.number;
    made = v.made;
    live = v.live - 1;
    joined = w.number ∷ v.joined;
    last = Some (last_of v w);
    seen = longer v.seen w.seen;
    own = v.own;
    base = v.base;
    turn = v.turn;
  }

  -- with another list seen, other entries of its own, and the turn or none
  abbrev pub moved : View E B → List E → List E → Option (List E) → View E B
  moved v seen own turn = record { spent = v.spent; number = v.number; made = v.made; live = v.live; joined = v.joined; last = v.last; seen = seen; own = own; base = v.base; turn = turn }

  -- once it has the turn, and found these entries
  abbrev pub in_turn : View E B → List E → View E B
  in_turn v es = moved v v.seen v.own (Some es)

  -- once it has handed the turn on
  abbrev pub out_of_turn : View E B → View E B
  out_of_turn v = moved v v.seen v.own None

module _ {E : Type 0} (by : E → ℕ) where
  -- the entries under one number, in order
  abbrev pub of_pass : ℕ → List E → List E
  of_pass n es = filter (λ e. by e == n) es

  -- none, or one under this number
  abbrev pub IsStep : ℕ → List E → Type 0
  IsStep n [] = Unit {0}
  IsStep n (e ∷ []) = by e ≡ n
  IsStep n (e ∷ f ∷ es) = ⊥

  -- the entries that the pass found in its turn, and then none or one of its own
  abbrev pub Adds : {B : Type 0} → View E B → List E → Type 0
  Adds v es = (found : List E) × (more : List E) × (v.turn ≡ Some found) × (es ≡ found ++ more) × IsStep v.number more

  -- once it has counted these entries, all of which it has then seen
  abbrev pub seeing : {B : Type 0} → View E B → List E → View E B
  seeing v es = moved v es (of_pass v.number es) (Some es)

  -- what the first pass v has seen since it took a pass back
  pub record IsJoined {B : Type 0} (v : View E B) (j : LastJoin E) : Type 0 where
    -- a pass was out
    pub some : 0 < j.live
    -- both lists begin the one that is seen
    pub mine : IsPrefix j.mine v.seen
    pub theirs : IsPrefix j.theirs v.seen
    -- the other's entries are its own, and those under numbers taken back earlier are as they were
    pub of_other : of_pass j.number v.seen ≡ j.own
    pub of_earlier : (n : ℕ) → has j.joined n ≡ true → of_pass n v.seen ≡ of_pass n j.mine
    -- all these numbers are among those taken back
    pub other_joined : has v.joined j.number ≡ true
    pub earlier_joined : (n : ℕ) → has j.joined n ≡ true → has v.joined n ≡ true
