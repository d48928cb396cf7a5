-- Scripts that are made for a load.
use Rattle.std.specs.Prelude.{ℕ, zero, suc, ◌+◌, ◌*◌, ◌%◌, List, [], ◌++◌, codes, decimal}

-- a text with a number in it
abbrev pub numbered : List ℕ → ℕ → List ℕ → List ℕ
numbered before n behind = before ++ decimal n ++ behind

-- three models with a scope, and one that has its own
unfoldable pub first_model : ℕ → List ℕ
first_model n = numbered (codes "== model m1\nsig A { f: set A } run { some f } for ") n (codes "\n")

unfoldable pub second_model : ℕ → List ℕ
second_model n = numbered (codes "== model m2\nsig A { f: set A } run { some disj a, b, c: A | a->b + b->c in f } for exactly ") n (codes " A\n")

unfoldable pub third_model : ℕ → List ℕ
third_model n = numbered (codes "== model m3\nsig Name, Addr {} sig Book { addr: Name -> lone Addr } pred show [b: Book] { #b.addr > 1 } run show for ") n (codes " but 1 Book\n")

unfoldable pub last_model : List ℕ
last_model = codes "== model m4\nsig P { h: one Q } sig Q {} run { all disj p, q: P | p.h != q.h } for exactly 4 P, exactly 3 Q\n"

abbrev pub models_text : ℕ → List ℕ
models_text n = first_model n ++ second_model n ++ third_model n ++ last_model

-- the session at a place, from 0: its name is `s` and its number, from 1, and the four models take turns
abbrev pub session_text : ℕ → List ℕ
session_text place = numbered (codes "== session s") (place + 1) (codes " m") ++ numbered [] (place % 4 + 1) (codes " 1\nall 100\n")

-- so many sessions
abbrev pub sessions_text : ℕ → List ℕ
sessions_text zero = []
sessions_text (suc n) = sessions_text n ++ session_text n

-- the script of a number: the models with a scope from 3 to 8, and four sessions for each number up to it
abbrev pub generated : ℕ → List ℕ
generated k = models_text (3 + k % 6) ++ sessions_text (4 * k)
