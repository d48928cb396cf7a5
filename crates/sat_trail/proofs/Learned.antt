-- How learning goes back over a trail.
use Rattle.std.proofs.Common.{◌≡◌, ◌<◌, ◌≤◌, ◌+◌, ◌-◌, ◌++◌, [], ◌∷◌, ◌⊎◌, ℕ, zero, suc, Bool, true, false, Option, Some, None, List, length, get_or, set, take, reverse, All, arith, sym, ◌∙◌, ap, inl, inr, refl, subst, below_more, length-take, get_or-set_other, get_or-set_same}
use Rattle.std.proofs.lemmas.Bool.{cases_lt, cases_eq, cases_order}
use Rattle.std.proofs.lemmas.List.{get_or_default, take_more, get_or-take, get_or_past, reverse-append}
use Rattle.std.proofs.lemmas.Option.{slice_get_cases, get_or_from_slice_get}
use Rattle.std.specs.Option.{MatchOption}
use Rattle.std.proofs.lemmas.List.Elements.{All-contains, Contains-push_cases, Contains-append_left, Contains-push, Contains-get_or}
use Rattle.std.specs.List.{Contains}
use Rattle.cnf_core.specs.declared.literal.Lit.{Lit}
use Rattle.cnf_core.specs.Literal.{negation_of, IsTautology, HasSameLiterals}
use Rattle.refutation_check.specs.Chain.{IsUnit, Names, Refutes, Forces, IsChain, IsNovel}
use Rattle.cnf_core.proofs.Literals.{not_itself}
use Rattle.refutation_check.proofs.Chains.{names_one}
use Rattle.refutation_check.specs.SearchLog.{IsVarOf}
use Rattle.unit_propagation.specs.declared.assignment_trail.assigned.Assigned.{Assigned}
use Rattle.refutation_check.specs.Assumed.{IsOpen}
use Rattle.unit_propagation.specs.Assignments.Trail.{falses_of, level_of, IsPlaced, IsTrail, IsVarUpTo}
use Rattle.sat_trail.specs.Closed.{IsClosedBelow}
use Rattle.sat_trail.specs.Learnt.{IsAbove, IsAsserting, IsFlat}
use Rattle.sat_trail.specs.Learning.{IsMarked, Learning, Marking, IsHigh, IsPointed, IsResolved}
use Rattle.unit_propagation.proofs.Assignments.Trails.{placed_level, level_of_take, from_falses, in_front, from_front, front_more, vars_differ, level_before, level_rises}

pub named_in : (clauses : List (List Lit)) (number : ℕ) (c : List Lit) → Names clauses number c → number ≤ length clauses
named_in clauses number c named =
    let low : 1 ≤ number = named.0 in
    elim (slice_get_cases clauses (number - 1)).1 [
      | inl (x, in', is, there) ↦ omega arith
      | inr (past, is) ↦ let e : None ≡ Some c = sym is ∙ named.1 in absurd cc
    ]

pub named_contains : (clauses : List (List Lit)) (number : ℕ) (c : List Lit) → Names clauses number c → Contains clauses c
named_contains clauses number c named =
    let low : 1 ≤ number = named.0 in
    let within = named_in clauses number c named in
    (number - 1, omega (arith, within), get_or_from_slice_get clauses (number - 1) c c named.1)

-- one more variable is marked
pub Marking-more : (old now : List Bool) (lits : List Lit) (i : ℕ) (d : Lit) → i < length lits → (get_or lits i d).var < length now → Marking old now (take i lits) → Marking old (set now (get_or lits i d).var true) (take (i + 1) lits)
Marking-more old now lits i d in' in_marks was =
    let x : Lit = get_or lits i d in
    let next : take (i + 1) lits ≡ take i lits ++ x ∷ [] = take_more lits i d in' in
    let here : get_or (set now x.var true) x.var false ≡ true = get_or-set_same now x.var true false in_marks in
    let stays : (var : ℕ) → IsMarked now var → IsMarked (set now x.var true) var =
    λ var h. elim (cases_eq var x.var) [
      | inl same ↦ ap (λ (v : ℕ). get_or (set now x.var true) v false) same ∙ here
      | inr other ↦ get_or-set_other now x.var var true false other ∙ h
    ] in
    rw next (record {
      added = λ l h. elim (Contains-push_cases (take i lits) x l h) [ inl old_l ↦ stays l.var (was.added l old_l) | inr one ↦ subst (λ (y : Lit). IsMarked (set now x.var true) y.var) one here ];
      stay = λ var h. stays var (was.stay var h);
      only = λ var h. elim (cases_eq var x.var) [
        | inl same ↦ inr (x, Contains-push (take i lits) x, sym same)
        | inr other ↦ elim (was.only var (sym (get_or-set_other now x.var var true false other) ∙ h)) [
          | inl was_seen ↦ inl was_seen
          | inr (l, c, e) ↦ inr (l, Contains-append_left (take i lits) (x ∷ []) l c, e)
        ]
      ];
    })

no_literals : (kept clause : List Lit) → kept ≡ [] → HasSameLiterals kept clause → clause ≡ []
no_literals kept [] none same = refl
no_literals kept (l ∷ ls) none same = let c = (same l).1 (0, omega arith, refl) in let z : length kept ≡ 0 = ap length none in absurd (omega (arith, c.1))

module _ (clauses : List (List Lit)) (xs : List Assigned) (trail : IsTrail clauses xs) where
  -- the decision that began a literal's level
  decision_of : (u : ℕ) (d : Assigned) → u < length xs → 0 < (get_or xs u d).level →
      (p : ℕ) × (p ≤ u) × ((get_or xs p d).reason ≡ None) × ((get_or xs p d).level ≡ (get_or xs u d).level)
  decision_of zero d h above =
      elim (placed_level clauses (take 0 xs) (get_or xs 0 d) (trail 0 d h)) [
        | inl same ↦ absurd (omega (arith, same))
        | inr (next, decided) ↦ (0, omega arith, decided, refl)
      ]
  decision_of (suc v) d h above =
      let one : suc v ≡ v + 1 = omega arith in
      let top : level_of (take (suc v) xs) ≡ (get_or xs v d).level = ap (λ (k : ℕ). level_of (take k xs)) one ∙ level_of_take xs v d (omega arith) in
      elim (placed_level clauses (take (suc v) xs) (get_or xs (suc v) d) (trail (suc v) d h)) [
        | inl same ↦ let r = decision_of v d (omega arith) (omega (arith, same, top)) in (r.0, omega (arith, r.1), r.2, r.3 ∙ sym (same ∙ top))
        | inr (next, decided) ↦ (suc v, omega arith, decided, refl)
      ]

  -- a clause that the learnt one contains would have been falsified or a unit before that decision
  pub pointed_novel : (seen : List Bool) (kept clause : List Lit) → IsPointed xs seen kept 0 → HasSameLiterals kept clause → IsClosedBelow clauses xs → IsNovel clauses clause
  pointed_novel seen kept clause point same closed i e in' sub =
      let d : Assigned = record { lit = record { var = 0; positive = false }; level = 0; reason = None } in
      let r = decision_of point.place d point.in_range (point.above d) in
      let p : ℕ = r.0 in
      let held : List Lit = get_or clauses i e in
      let m : Lit = negation_of (get_or xs point.place d).lit in
      let p_in : p < length xs = omega (arith, r.1, point.in_range) in
      let nothing = closed p d p_in r.2 i e in' in
      let is_false : (l : Lit) → Contains held l → (l ≡ m → ⊥) → Contains (falses_of (take p xs)) l =
      λ l c differ. elim (point.others l d ((same l).1 (All-contains (Contains clause) held l sub c))) [
        | inl one ↦ absurd (differ (sym one))
        | inr (k, in_k, lower, is) ↦ elim (cases_lt k p) [
          | inl less ↦ subst (Contains (falses_of (take p xs))) is (in_front xs k p d less in_k)
          | inr more ↦ let up = level_rises clauses xs trail p k d more in_k in absurd (omega (arith, up, r.3))
        ]
      ] in
      let unmarked : (l : Lit) → l.var ≡ (get_or xs point.place d).lit.var → Contains (falses_of (take p xs)) l → ⊥ =
      λ l v c. let f = from_front xs p l c in
      let w : (get_or xs f.0 d).lit.var ≡ l.var = ap (λ (x : Lit). x.var) (f.3 d) in
      vars_differ clauses xs trail f.0 point.place d d (omega (arith, f.1, r.1)) point.in_range (w ∙ v) in
      let absent : Contains held m → ⊥ =
      λ c. nothing.1 m (record { member = c; not_false = unmarked m refl; not_true = unmarked (negation_of m) refl; others = is_false }) in
      nothing.0 (λ k f h. is_false (get_or held k f) (Contains-get_or held k f h) (λ one. absent (subst (Contains held) one (Contains-get_or held k f h))))

  module _ (conflict : ℕ) (seen : List Bool) (kept : List Lit) (hints : List ℕ) (n : ℕ) (d : Assigned) (in' : n < length xs) (was : Learning clauses xs conflict seen kept hints (n + 1)) where
    same_at : (e : Assigned) → get_or xs n d ≡ get_or xs n e
    same_at e = get_or_default xs n d e in'

    high_before : (IsMarked seen (get_or xs n d).lit.var → ⊥) → (high : IsHigh xs seen (n + 1)) → high.place < n
    high_before unseen high =
        elim (cases_lt high.place n) [
          | inl lt ↦ lt
          | inr ge ↦ let less : high.place < n + 1 = high.before in let is : high.place ≡ n = omega arith in
              absurd (unseen (subst (λ (k : ℕ). IsMarked seen (get_or xs k d).lit.var) is (high.marked d)))
        ]

    point_on : IsPointed xs seen kept (n + 1) → IsPointed xs seen kept n
    point_on pointed =
        record {
          place = pointed.place;
          later = omega (arith, pointed.later);
          in_range = pointed.in_range;
          above = pointed.above;
          has = pointed.has;
          others = pointed.others;
          lower = λ j e h s. pointed.lower j e (omega arith) s;
        }

    -- the literal is not marked
    pub learning_skip : (IsMarked seen (get_or xs n d).lit.var → ⊥) → Learning clauses xs conflict seen kept hints n
    learning_skip unseen =
        record {
          from_later = λ l h. let r = was.from_later l h in (r.0, omega (arith, r.1), r.2, r.3);
          kept_occur = was.kept_occur;
          marked_occur = was.marked_occur;
          conflicts = λ falses cover. was.conflicts falses (record {
            has_kept = cover.has_kept;
            has_marked = λ j e h. below_more (λ (j : ℕ). (e : Assigned) → IsMarked seen (get_or xs j e).lit.var → Contains falses (negation_of (get_or xs j e).lit)) n (λ j h e s. cover.has_marked j e h s)
                (λ e s. absurd (unseen (subst (λ (a : Assigned). IsMarked seen a.lit.var) (sym (same_at e)) s))) j h e;
            only = λ l h. elim (cover.only l h) [ inl c ↦ inl c | inr c ↦ inr (front_more xs n l c) ];
          });
          point = λ above. elim (was.point above) [
            | inl (none, high) ↦ inl (none, record { place = high.place; before = high_before unseen high; marked = high.marked; above = high.above })
            | inr pointed ↦ inr (point_on pointed)
          ];
          flat = λ level. let f = was.flat level in (f.0, λ j e h s. f.1 j e (omega arith) s);
        }

    -- the literal is kept, negated
    pub learning_keep : IsMarked seen (get_or xs n d).lit.var → (kept ≡ [] → (0 < (get_or xs n d).level) × ((j : ℕ) (e : Assigned) → j < n → IsMarked seen (get_or xs j e).lit.var → (get_or xs j e).level < (get_or xs n d).level)) →
        Learning clauses xs conflict seen (kept ++ negation_of (get_or xs n d).lit ∷ []) hints n
    learning_keep marked first =
        let m : Lit = negation_of (get_or xs n d).lit in
        record {
          from_later = λ l h. elim (Contains-push_cases kept m l h) [
            | inl c ↦ let r = was.from_later l c in (r.0, omega (arith, r.1), r.2, r.3)
            | inr one ↦ (n, omega arith, in', λ e. ap (λ (a : Assigned). negation_of a.lit) (sym (same_at e)) ∙ one)
          ];
          kept_occur = λ l h. elim (Contains-push_cases kept m l h) [
            | inl c ↦ was.kept_occur l c
            | inr one ↦ subst (λ (x : Lit). IsVarOf clauses x.var) one (was.marked_occur (get_or xs n d).lit.var marked)
          ];
          marked_occur = was.marked_occur;
          conflicts = λ falses cover. was.conflicts falses (record {
            has_kept = λ l h. cover.has_kept l (Contains-append_left kept (m ∷ []) l h);
            has_marked = λ j e h. below_more (λ (j : ℕ). (e : Assigned) → IsMarked seen (get_or xs j e).lit.var → Contains falses (negation_of (get_or xs j e).lit)) n (λ j h e s. cover.has_marked j e h s)
                (λ e s. subst (λ (a : Assigned). Contains falses (negation_of a.lit)) (same_at e) (cover.has_kept m (Contains-push kept m))) j h e;
            only = λ l h. elim (cover.only l h) [
              | inl c ↦ elim (Contains-push_cases kept m l c) [ inl old ↦ inl old | inr one ↦ inr (subst (Contains (falses_of (take (n + 1) xs))) one (in_front xs n (n + 1) d (omega arith) in')) ]
              | inr c ↦ inr (front_more xs n l c)
            ];
          });
          point = λ above. elim (was.point above) [
            | inl (none, high) ↦ let top = first none in inr (record {
              place = n;
              later = omega arith;
              in_range = in';
              above = λ e. subst (λ (a : Assigned). 0 < a.level) (same_at e) top.0;
              has = λ e. subst (λ (a : Assigned). Contains (kept ++ m ∷ []) (negation_of a.lit)) (same_at e) (Contains-push kept m);
              others = λ l e h. elim (Contains-push_cases kept m l h) [
                | inl c ↦ let z : length kept ≡ 0 = ap length none in absurd (omega (arith, c.1))
                | inr one ↦ inl (ap (λ (a : Assigned). negation_of a.lit) (sym (same_at e)) ∙ one)
              ];
              lower = λ j e h s. subst (λ (a : Assigned). (get_or xs j e).level < a.level) (same_at e) (top.1 j e h s);
            })
            | inr pointed ↦ inr (record {
              place = pointed.place;
              later = omega (arith, pointed.later);
              in_range = pointed.in_range;
              above = pointed.above;
              has = λ e. Contains-append_left kept (m ∷ []) _ (pointed.has e);
              others = λ l e h. elim (Contains-push_cases kept m l h) [
                | inl c ↦ pointed.others l e c
                | inr one ↦ inr (n, in', pointed.lower n e (omega arith) (subst (λ (a : Assigned). IsMarked seen a.lit.var) (same_at e) marked), ap (λ (a : Assigned). negation_of a.lit) (sym (same_at e)) ∙ one)
              ];
              lower = λ j e h s. pointed.lower j e (omega arith) s;
            })
          ];
          flat = λ level. let f = was.flat level in let up = (first f.0).0 in let z : (get_or xs n d).level ≡ 0 = f.1 n d (omega arith) marked in absurd (omega arith);
        }

    not_kept : (l : Lit) → l.var ≡ (get_or xs n d).lit.var → Contains kept l → ⊥
    not_kept l same h =
        let r = was.from_later l h in
        let v : (get_or xs r.0 d).lit.var ≡ l.var = ap (λ (x : Lit). x.var) (r.3 d) in
        vars_differ clauses xs trail n r.0 d d (omega (arith, r.1)) r.2 (sym same ∙ sym v)

    -- the literal's reason is a hint
    pub learning_resolve : (reason : ℕ) (clause : List Lit) (more : List Bool) → Forces clauses (falses_of (take n xs)) reason (get_or xs n d).lit → Names clauses reason clause → Marking seen more clause →
        ((get_or xs n d).level ≡ 0) ⊎ ((kept ≡ []) × ((k : ℕ) × (k < n) × ((e : Assigned) → IsMarked seen (get_or xs k e).lit.var × ((get_or xs k e).level ≡ (get_or xs n d).level)))) → IsMarked seen (get_or xs n d).lit.var → Learning clauses xs conflict more kept (hints ++ reason ∷ []) n
    learning_resolve reason clause more forced named marking why marked =
        let a : Lit = (get_or xs n d).lit in
        let one : forced.clause ≡ clause = names_one clauses reason forced.clause clause forced.named named in
        record {
          from_later = λ l h. let r = was.from_later l h in (r.0, omega (arith, r.1), r.2, r.3);
          kept_occur = was.kept_occur;
          marked_occur = λ var h. elim (marking.only var h) [
            | inl old ↦ was.marked_occur var old
            | inr (l, c, v) ↦ record { clause = clause; literal = l; given = named_contains clauses reason clause named; member = c; same = v }
          ];
          conflicts = λ falses cover.
              let rest = was.conflicts (falses ++ negation_of a ∷ []) (record {
                has_kept = λ l h. Contains-append_left falses (negation_of a ∷ []) l (cover.has_kept l h);
                has_marked = λ j e h. below_more (λ (j : ℕ). (e : Assigned) → IsMarked seen (get_or xs j e).lit.var → Contains (falses ++ negation_of a ∷ []) (negation_of (get_or xs j e).lit)) n
                    (λ j h e s. Contains-append_left falses (negation_of a ∷ []) _ (cover.has_marked j e h (marking.stay _ s)))
                    (λ e s. subst (λ (b : Assigned). Contains (falses ++ negation_of a ∷ []) (negation_of b.lit)) (same_at e) (Contains-push falses (negation_of a))) j h e;
                only = λ l h. elim (Contains-push_cases falses (negation_of a) l h) [
                  | inl c ↦ elim (cover.only l c) [ inl k ↦ inl k | inr f ↦ inr (front_more xs n l f) ]
                  | inr is ↦ inr (subst (Contains (falses_of (take (n + 1) xs))) is (in_front xs n (n + 1) d (omega arith) in'))
                ];
              }) in
              let unit : IsUnit (Contains falses) forced.clause a = record {
                member = forced.unit.member;
                not_false = λ c. elim (cover.only a c) [ inl k ↦ not_kept a refl k | inr f ↦ forced.unit.not_false f ];
                not_true = λ c. elim (cover.only (negation_of a) c) [ inl k ↦ not_kept (negation_of a) refl k | inr f ↦ forced.unit.not_true f ];
                others = λ other c differ.
                    let r = from_front xs n other (forced.unit.others other c differ) in
                    let seen_it : IsMarked more other.var = marking.added other (subst (λ (ls : List Lit). Contains ls other) one c) in
                    let v : other.var ≡ (get_or xs r.0 d).lit.var = ap (λ (x : Lit). x.var) (sym (r.3 d)) in
                    subst (Contains falses) (r.3 d) (cover.has_marked r.0 d r.1 (subst (IsMarked more) v seen_it));
              } in
              let forces : Forces clauses falses reason a = record { clause = forced.clause; named = forced.named; unit = unit } in
              rw (reverse-append hints (reason ∷ [])) (rest.0, (a, forces, rest.1), rest.2);
          point = λ above. elim (was.point above) [
            | inl (none, high) ↦ inl (
              none,
              elim (cases_lt high.place n) [
                | inl less ↦ record { place = high.place; before = less; marked = λ e. marking.stay _ (high.marked e); above = high.above }
                | inr ge ↦
                    let less : high.place < n + 1 = high.before in
                    let is : high.place ≡ n = omega arith in
                    let up : 0 < (get_or xs n d).level = subst (λ (k : ℕ). 0 < (get_or xs k d).level) is (high.above d) in
                    elim why [
                      | inl zero_level ↦ absurd (omega arith)
                      | inr (none', (k, before, both)) ↦ record { place = k; before = before; marked = λ e. marking.stay _ (both e).0; above = λ e. let f = (both e).1 in omega (arith, f, up) }
                    ]
              ],
            )
            | inr pointed ↦ elim why [
              | inl zero_level ↦ inr (record {
                place = pointed.place;
                later = omega (arith, pointed.later);
                in_range = pointed.in_range;
                above = pointed.above;
                has = pointed.has;
                others = pointed.others;
                lower = λ j e h s. let up = level_rises clauses xs trail j n e (omega arith) in' in
                    let z : (get_or xs n d).level ≡ (get_or xs n e).level = ap (λ (a : Assigned). a.level) (same_at e) in
                    let high = pointed.above e in omega (arith, up, z, zero_level, high);
              })
              | inr (none, (k, before, both)) ↦ let z : length kept ≡ 0 = ap length none in let h = pointed.has d in absurd (omega (arith, h.1))
            ]
          ];
          flat = λ level.
              let f = was.flat level in
              let zero_level : (get_or xs n d).level ≡ 0 = f.1 n d (omega arith) marked in (
                f.0,
                λ j e h s.
                    let up = level_rises clauses xs trail j n e (omega arith) in' in
                    let z : (get_or xs n d).level ≡ (get_or xs n e).level = ap (λ (a : Assigned). a.level) (same_at e) in
                    omega (arith, up, z, zero_level),
              );
        }

  -- before the newest literal
  pub learning_start : (conflict : ℕ) (clause : List Lit) (old seen : List Bool) → ((var : ℕ) → IsMarked old var → ⊥) → Refutes clauses (falses_of xs) conflict → Names clauses conflict clause → Marking old seen clause → Learning clauses xs conflict seen [] [] (length xs)
  learning_start conflict clause old seen clean refuted named marking =
      let one : refuted.clause ≡ clause = names_one clauses conflict refuted.clause clause refuted.named named in
      record {
        from_later = λ l h. absurd (omega (arith, h.1));
        kept_occur = λ l h. absurd (omega (arith, h.1));
        marked_occur = λ var h. elim (marking.only var h) [
          | inl was_seen ↦ absurd (clean var was_seen)
          | inr (l, c, v) ↦ record { clause = clause; literal = l; given = named_contains clauses conflict clause named; member = c; same = v }
        ];
        conflicts = λ falses cover. (
          falses,
          refl,
          record {
            clause = refuted.clause;
            named = refuted.named;
            falsified = λ k d h.
                let l : Lit = get_or refuted.clause k d in
                let r = from_falses xs l (refuted.falsified k d h) in
                let e : Assigned = record { lit = l; level = 0; reason = None } in
                let seen_it : IsMarked seen l.var = marking.added l (subst (λ (ls : List Lit). Contains ls l) one (Contains-get_or refuted.clause k d h)) in
                let v : l.var ≡ (get_or xs r.0 e).lit.var = ap (λ (x : Lit). x.var) (sym (r.2 e)) in
                subst (Contains falses) (r.2 e) (cover.has_marked r.0 e r.1 (subst (IsMarked seen) v seen_it));
          },
        );
        point = λ above.
            let same : above.clause ≡ clause = names_one clauses conflict above.clause clause above.named named in
            inl (refl, record { place = above.place; before = above.in_range; marked = λ e. marking.added _ (subst (λ (ls : List Lit). Contains ls (negation_of (get_or xs above.place e).lit)) same (above.member e)); above = above.above });
        flat = λ level. (
          refl,
          λ j e h s. elim (marking.only _ s) [
            | inl was_seen ↦ absurd (clean _ was_seen)
            | inr (l, c, v) ↦ level clause l j e named c h v
          ],
        );
      }

  module _ (conflict : ℕ) (seen : List Bool) (kept : List Lit) (hints : List ℕ) (was : Learning clauses xs conflict seen kept hints 0) where
    -- before the oldest literal the clause is there
    pub learning_ends : (clause : List Lit) → HasSameLiterals kept clause → IsChain clauses clause (reverse hints ++ conflict ∷ [])
    learning_ends clause same =
        let on = was.conflicts clause (record {
          has_kept = λ l h. (same l).0 h;
          has_marked = λ j e h. absurd (omega arith);
          only = λ l h. inl ((same l).1 h);
        }) in
        record { before = reverse hints; last = conflict; after = on.0; in_order = refl; reached = on.1; refuted = on.2 }

    pub learnt_novel : IsAbove clauses xs conflict → (clause : List Lit) → HasSameLiterals kept clause → IsClosedBelow clauses xs → IsNovel clauses clause
    learnt_novel above clause same closed =
        elim (was.point above) [
          | inl (none, high) ↦ absurd (omega (arith, high.before))
          | inr pointed ↦ pointed_novel seen kept clause pointed same closed
        ]

    pub learnt_empty : IsFlat clauses xs conflict → (clause : List Lit) → HasSameLiterals kept clause → clause ≡ []
    learnt_empty level clause same = no_literals kept clause (was.flat level).0 same

    pub learnt_asserting : IsAbove clauses xs conflict → (clause : List Lit) → HasSameLiterals kept clause → IsAsserting xs clause
    learnt_asserting above clause same =
        elim (was.point above) [
          | inl (none, high) ↦ absurd (omega (arith, high.before))
          | inr pointed ↦ record {
            place = pointed.place;
            in_range = pointed.in_range;
            above = pointed.above;
            has = λ d. (same _).0 (pointed.has d);
            others = λ l d h. pointed.others l d ((same l).1 h);
          }
        ]

    pub learnt_vars : (vars : ℕ) → All (IsVarUpTo vars) xs → (l : Lit) → Contains kept l → (1 ≤ l.var) × (l.var ≤ vars)
    learnt_vars vars all l h =
        let r = was.from_later l h in
        let d : Assigned = record { lit = l; level = 0; reason = None } in
        let v : (get_or xs r.0 d).lit.var ≡ l.var = ap (λ (x : Lit). x.var) (r.3 d) in
        subst (λ (n : ℕ). (1 ≤ n) × (n ≤ vars)) v (all r.0 d r.2)

    pub learnt_no_tautology : IsTautology kept → ⊥
    learnt_no_tautology (l, here, there) =
        let r = was.from_later l here in
        let s = was.from_later (negation_of l) there in
        let d : Assigned = record { lit = l; level = 0; reason = None } in
        let v : (get_or xs r.0 d).lit.var ≡ l.var = ap (λ (x : Lit). x.var) (r.3 d) in
        let w : (get_or xs s.0 d).lit.var ≡ l.var = ap (λ (x : Lit). x.var) (s.3 d) in
        elim (cases_order r.0 s.0) [
          | inl same ↦ not_itself l.positive (ap (λ (x : Lit). x.positive) (sym (r.3 d) ∙ (ap (λ (k : ℕ). negation_of (get_or xs k d).lit) same ∙ s.3 d)))
          | inr differ ↦ elim differ [
            | inl less ↦ vars_differ clauses xs trail r.0 s.0 d d less s.2 (v ∙ sym w)
            | inr more ↦ vars_differ clauses xs trail s.0 r.0 d d more r.2 (w ∙ sym v)
          ]
        ]

-- a literal with a reason is forced by it
pub placed_forced : (clauses : List (List Lit)) (before : List Assigned) (a : Assigned) (reason : ℕ) → IsPlaced clauses before a → a.reason ≡ Some reason → Forces clauses (falses_of before) reason a.lit
placed_forced clauses before a reason placed is =
    (subst (λ (r : Option ℕ). MatchOption r (IsOpen (falses_of before) a.lit × (a.level ≡ level_of before + 1)) (λ n. Forces clauses (falses_of before) n a.lit × (a.level ≡ level_of before))) is placed).0

pub unseen_at : (seen : List Bool) (var : ℕ) (x : Bool) → var < length seen → x ≡ get_or seen var x → x ≡ false → IsMarked seen var → ⊥
unseen_at seen var x in' is unmarked s =
    let e : get_or seen var x ≡ get_or seen var false = get_or_default seen var x false in' in
    let f : true ≡ false = sym s ∙ (sym e ∙ (sym is ∙ unmarked)) in
    absurd cc

pub resolved_why : (xs : List Assigned) (n : ℕ) (seen : List Bool) (kept : List Lit) (level : ℕ) → IsResolved (take n xs) seen kept level true →
    (level ≡ 0) ⊎ ((kept ≡ []) × ((k : ℕ) × (k < n) × ((e : Assigned) → IsMarked seen (get_or xs k e).lit.var × ((get_or xs k e).level ≡ level))))
resolved_why xs n seen kept level (inl none) = inl none
resolved_why xs n seen kept level (inr (none, (k, in', both))) =
    let below : k < n = omega (arith, length-take n xs) in
    inr (none, (k, below, λ e. subst (λ (a : Assigned). IsMarked seen a.lit.var × (a.level ≡ level)) (get_or-take n xs k e below) (both e)))

pub kept_first : (clauses : List (List Lit)) (xs : List Assigned) → IsTrail clauses xs → (n : ℕ) (d : Assigned) (seen : List Bool) (kept : List Lit) → n < length xs → IsResolved (take n xs) seen kept (get_or xs n d).level false →
    kept ≡ [] → (0 < (get_or xs n d).level) × ((j : ℕ) (e : Assigned) → j < n → IsMarked seen (get_or xs j e).lit.var → (get_or xs j e).level < (get_or xs n d).level)
kept_first clauses xs trail n d seen kept in' why none = (
  omega (arith, why.0),
  λ j e h s.
      let up = level_rises clauses xs trail j n e (omega arith) in' in
      let same : (get_or xs n e).level ≡ (get_or xs n d).level = ap (λ (a : Assigned). a.level) (get_or_default xs n e d in') in
      let read : get_or (take n xs) j e ≡ get_or xs j e = get_or-take n xs j e h in
      let differ : (get_or xs j e).level ≡ (get_or xs n d).level → ⊥ =
      λ f. why.1 none j e (omega (arith, length-take n xs)) (subst (λ (a : Assigned). IsMarked seen a.lit.var) (sym read) s) (ap (λ (a : Assigned). a.level) read ∙ f) in
      omega (arith, up, same, differ),
)

-- a decision begins the next level
pub placed_decided : (clauses : List (List Lit)) (before : List Assigned) (a : Assigned) → IsPlaced clauses before a → a.reason ≡ None → a.level ≡ level_of before + 1
placed_decided clauses before a placed is =
    (subst (λ (r : Option ℕ). MatchOption r (IsOpen (falses_of before) a.lit × (a.level ≡ level_of before + 1)) (λ n. Forces clauses (falses_of before) n a.lit × (a.level ≡ level_of before))) is placed).1

pub decided_first : (clauses : List (List Lit)) (xs : List Assigned) → IsTrail clauses xs → (n : ℕ) (d : Assigned) (seen : List Bool) (kept : List Lit) → n < length xs → (get_or xs n d).reason ≡ None →
    kept ≡ [] → (0 < (get_or xs n d).level) × ((j : ℕ) (e : Assigned) → j < n → IsMarked seen (get_or xs j e).lit.var → (get_or xs j e).level < (get_or xs n d).level)
decided_first clauses xs trail n d seen kept in' decided none =
    let next = placed_decided clauses (take n xs) (get_or xs n d) (trail n d in') decided in
    (omega (arith, next), λ j e h s. let low = level_before clauses xs trail n j e h (omega arith) in omega (arith, next, low))

pub seen_at : (seen : List Bool) (var : ℕ) (x : Bool) → var < length seen → x ≡ get_or seen var x → x ≡ true → IsMarked seen var
seen_at seen var x in' is marked = get_or_default seen var false x in' ∙ (sym is ∙ marked)

pub none_seen : (seen : List Bool) → All (λ b. b ≡ false) seen → (var : ℕ) → IsMarked seen var → ⊥
none_seen seen clean var h =
    elim (cases_lt var (length seen)) [
      | inl lt ↦ let e : false ≡ true = sym (clean var false lt) ∙ h in absurd cc
      | inr ge ↦ let e : false ≡ true = sym (get_or_past seen var false ge) ∙ h in absurd cc
    ]
