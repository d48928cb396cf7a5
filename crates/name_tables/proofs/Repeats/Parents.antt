-- Signatures and their parents, by numbers.
use Rattle.std.proofs.Common.{◌≡◌, ℕ, zero, suc, ◌+◌, ◌<◌, ◌==◌, Bool, true, false, List, [], ◌∷◌, ◌++◌, map, take, get_or, length, Option, Some, None, refl, sym, ap, ◌∙◌, subst, slice_index_or, if◌then◌else◌}
use Rattle.std.specs.Str.{bytes_eq}
use Rattle.named_model.specs.Names.{number_of}
use Rattle.named_model.specs.Faults.{Child, parent_of, top_within, top_of}
use Rattle.name_tables.specs.declared.repeated_names.links.Link.{Link}
use Rattle.alloy_syntax.specs.declared.tree.Name.{Name}
use Rattle.name_tables.specs.Repeats.Numbered.{Grows, IsNumbered, IsLink, AreLinks, child_of}
use Rattle.name_tables.specs.Repeats.Climbing.{parent_in, top_in, AreParents}
use Rattle.name_tables.specs.declared.repeated_names.tops.Parents.{Parents}
use Rattle.name_tables.proofs.Repeats.Numbers.{number_kept, same_number, numbered_kept}
use Rattle.name_tables.proofs.Repeats.ListsGoneOver.{taken_more}

links_more : (ws more : List (List ℕ)) (ls : List Link) (cs : List Child) → AreLinks ws ls cs → AreLinks (ws ++ more) ls cs
links_more ws more [] [] a = tt
links_more ws more [] (c ∷ cs) a = absurd a
links_more ws more (l ∷ ls) [] a = absurd a
links_more ws more (l ∷ ls) (c ∷ cs) a = (
  record { name_is = number_kept ws more c.name.text l.name a.0.name_is; parent_is = numbered_kept ws more l.parent c.parent a.0.parent_is },
  links_more ws more ls cs a.1,
)

pub links_kept : (old new : List (List ℕ)) (ls : List Link) (cs : List Child) → Grows old new → AreLinks old ls cs → AreLinks new ls cs
links_kept old new ls cs grows a = subst (λ ws. AreLinks ws ls cs) (sym grows.1) (links_more old grows.0 ls cs a)

-- a signature more
pub links_push : (ws : List (List ℕ)) (ls : List Link) (cs : List Child) (l : Link) (c : Child) → AreLinks ws ls cs → IsLink ws l c → AreLinks ws (ls ++ l ∷ []) (cs ++ c ∷ [])
links_push ws [] [] l c a one = (one, tt)
links_push ws [] (d ∷ cs) l c a one = absurd a
links_push ws (k ∷ ls) [] l c a one = absurd a
links_push ws (k ∷ ls) (d ∷ cs) l c a one = (a.0, links_push ws ls cs l c a.1 one)

pub links_count : (ws : List (List ℕ)) (ls : List Link) (cs : List Child) → AreLinks ws ls cs → length ls ≡ length cs
links_count ws [] [] a = refl
links_count ws [] (c ∷ cs) a = absurd a
links_count ws (l ∷ ls) [] a = absurd a
links_count ws (l ∷ ls) (c ∷ cs) a = ap suc (links_count ws ls cs a.1)

-- the parent of the first signature of a name
parent_numbered : (ws : List (List ℕ)) (ls : List Link) (cs : List Child) → AreLinks ws ls cs → (w : ℕ) (t : List ℕ) → number_of ws t ≡ Some w → IsNumbered ws (parent_in ls w) (parent_of cs t)
parent_numbered ws [] [] a w t e = tt
parent_numbered ws [] (c ∷ cs) a w t e = absurd a
parent_numbered ws (l ∷ ls) [] a w t e = absurd a
parent_numbered ws (l ∷ ls) (c ∷ cs) a w t e =
    go (parent_numbered ws ls cs a.1 w t e) (bytes_eq c.name.text t) (same_number ws c.name.text t l.name w a.0.name_is e)
  where
    go : IsNumbered ws (parent_in ls w) (parent_of cs t) → (b : Bool) → (l.name == w) ≡ b → IsNumbered ws (if l.name == w then l.parent else parent_in ls w) (if b then c.parent else parent_of cs t)
    go later true same = rw same a.0.parent_is
    go later false same = rw same later

module _ (ws : List (List ℕ)) (ls : List Link) (cs : List Child) (table : List (Option ℕ)) (are : AreLinks ws ls cs) (each : (w : ℕ) → slice_index_or table w None ≡ parent_in ls w) where
  top_numbered : (k w : ℕ) (t : List ℕ) → number_of ws t ≡ Some w → IsNumbered ws (top_in table k w) (top_within cs k t)
  top_numbered zero w t e = tt
  top_numbered (suc k) w t e = go (λ v q is. top_numbered k v q is) (slice_index_or table w None) (parent_of cs t) (subst (λ o. IsNumbered ws o (parent_of cs t)) (sym (each w)) (parent_numbered ws ls cs are w t e))
    where
      go : ((v : ℕ) (q : List ℕ) → number_of ws q ≡ Some v → IsNumbered ws (top_in table k v) (top_within cs k q))
          → (o : Option ℕ) (p : Option (List ℕ)) → IsNumbered ws o p → IsNumbered ws (elim o [ None ↦ Some w | Some v ↦ top_in table k v ]) (elim p [ None ↦ Some t | Some q ↦ top_within cs k q ])
      go on (Some v) (Some q) is = on v q is
      go on (Some v) None is = absurd is
      go on None (Some q) is = absurd is
      go on None None is = e

-- the top-level signature over a signature
pub top_is : (ws : List (List ℕ)) (ls : List Link) (cs : List Child) (parents : Parents) → AreLinks ws ls cs → AreParents ls parents → (w : ℕ) (t : List ℕ) → number_of ws t ≡ Some w
    → IsNumbered ws (top_in parents.table.items (suc parents.count) w) (top_of cs t)
top_is ws ls cs parents are p w t e =
    subst (λ n. IsNumbered ws (top_in parents.table.items (suc n) w) (top_of cs t)) (sym (p.all ∙ links_count ws ls cs are)) (top_numbered ws ls cs parents.table.items are p.each (suc (length cs)) w t e)

-- ---- as a loop adds them

abbrev pub Alike : List (List ℕ) → Option ℕ → Option (List ℕ) → List Link → List Child → Type 0
Alike ws parent p ls cs = IsNumbered ws parent p × AreLinks ws ls cs

pub link_added : (old new : List (List ℕ)) (ls more : List Link) (cs : List Child) (p : Option (List ℕ)) (number : ℕ) (parent : Option ℕ) (ns : List Name) (i : ℕ) (n : Name)
    → i < length ns → n ≡ get_or ns i n → Grows old new → more ≡ ls ++ record { name = number; parent = parent } ∷ [] → number_of new n.text ≡ Some number
    → Alike old parent p ls (cs ++ map (child_of p) (take i ns)) → Alike new parent p more (cs ++ map (child_of p) (take (i + 1) ns))
link_added old new ls more cs p number parent ns i n l is grows pushed found before =
    let parent_is : IsNumbered new parent p = subst (λ ws. IsNumbered ws parent p) (sym grows.1) (numbered_kept old grows.0 parent p before.0) in (
      parent_is,
      subst (λ ds. AreLinks new more ds) (sym (taken_more (child_of p) cs ns i n l is))
          (subst (λ ks. AreLinks new ks ((cs ++ map (child_of p) (take i ns)) ++ child_of p n ∷ [])) (sym pushed)
          (links_push new ls (cs ++ map (child_of p) (take i ns)) (record { name = number; parent = parent }) (child_of p n) (links_kept old new ls (cs ++ map (child_of p) (take i ns)) grows before.1) (record { name_is = found; parent_is = parent_is }))),
    )
